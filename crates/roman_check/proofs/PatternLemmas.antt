-- Lines that differ in the last two digits of the pair.
use Rattle.roman_check.proofs.Common.{◌≡◌, ℕ, ◌+◌, ◌-◌, ◌*◌, ◌/◌, ◌%◌, ◌^◌, ◌<◌, ◌≤◌, List, [], ◌∷◌, ◌++◌, length, take, drop, get_or, decimal, sym, ap, ap₂, ◌∙◌, inl, inr, arith, append_assoc, length-append, length-take-le, length-drop, ◌≢◌, cases_lt, decimal_digit, decimal_step, take_at, take-take, get_or-take, get_or-drop, length-take, take_more, HasParts, IsPattern, same_number_lists, Shape}

-- The same bytes

-- a byte of a part of a text
part_at : (n m k : ℕ) (xs : List ℕ) → k < m → get_or (take m (drop n xs)) k 0 ≡ get_or xs (n + k) 0
part_at n m k xs l = get_or-take m (drop n xs) k 0 l ∙ get_or-drop n xs k 0

part_same : (n m : ℕ) (xs ys : List ℕ) → n + m ≤ length xs → n + m ≤ length ys → ((k : ℕ) → n ≤ k → k < n + m → get_or xs k 0 ≡ get_or ys k 0) → take m (drop n xs) ≡ take m (drop n ys)
part_same n m xs ys l h same = grind (arith, same_number_lists, part_at, length-take, length-drop {A = ℕ})

-- if the bytes up to the newline are the same except for the two digits, so is the pattern
pub pattern_same : (xs ys : List ℕ) (s : Shape) → IsPattern xs s → s.len < length ys → ((k : ℕ) → k ≤ s.len → k ≢ s.place → k ≢ s.place + 1 → get_or xs k 0 ≡ get_or ys k 0) → IsPattern ys s
pattern_same xs ys s is within same =
    let before : s.place + 2 < s.len = is.rest.before in
    let inside : s.len < length xs = is.rest.ended.within in
    record {
      front = is.front;
      some = is.some;
      base = is.base;
      small = is.small;
      digits = is.digits ∙ part_same 0 s.place xs ys (omega arith) (omega arith) (λ k l h. same k (omega arith) (omega arith) (omega arith));
      rest = record {
        stop = sym (same (s.place + 2) (omega arith) (omega arith) (omega arith)) ∙ is.rest.stop;
        before = before;
        text = is.rest.text ∙ part_same (s.place + 2 + 1) (s.len - (s.place + 2 + 1)) xs ys (omega arith) (omega arith) (λ k l h. same k (omega arith) (omega arith) (omega arith));
        ended = record { within = within; newline = sym (same s.len (omega arith) (omega arith) (omega arith)) ∙ is.rest.ended.newline };
      };
      short = is.short;
    }

-- the first w bytes of a line and the last w are all of them
pub same_ends : (xs ys : List ℕ) (w last len m n : ℕ) → last ≤ w → len < last + w → w ≤ m → w ≤ n → ((k : ℕ) → k < w → get_or xs k 0 ≡ get_or ys k 0) →
    ((k : ℕ) → k < w → get_or (take m (drop last xs)) k 0 ≡ get_or (take n (drop last ys)) k 0) → (k : ℕ) → k ≤ len → get_or xs k 0 ≡ get_or ys k 0
same_ends xs ys w last len m n long short left right front back k l = elim (cases_lt k w) [
  | inl less ↦ front k less
  | inr more ↦ grind (arith, part_at last m (k - last) xs, part_at last n (k - last) ys, back (k - last))
]

-- Two digits

two_digits : (q a b : ℕ) → 0 < q → a < 10 → b < 10 → q < 2 ^ 32 → decimal (q * 100 + a * 10 + b) ≡ decimal q ++ (48 + a) ∷ (48 + b) ∷ []
two_digits q a b some tens ones small =
    let high : (q * 100 + a * 10 + b) / 10 ≡ q * 10 + a = omega arith in
    let low : (q * 100 + a * 10 + b) % 10 ≡ b = omega arith in
    decimal_step (q * 100 + a * 10 + b) (omega arith) (omega arith) ∙ ap₂ (λ m c. decimal m ++ c ∷ []) high (ap (λ c. 48 + c) low)
    ∙ ap (λ ds. ds ++ (48 + b) ∷ []) (decimal_step (q * 10 + a) (omega arith) (omega arith) ∙ ap₂ (λ m c. decimal m ++ c ∷ []) (omega arith) (ap (λ c. 48 + c) (omega arith)))
    ∙ append_assoc (decimal q) ((48 + a) ∷ []) ((48 + b) ∷ [])

-- the digits before the last two
pub front_digits : (text : List ℕ) (pair space : ℕ) → 100 ≤ pair → pair < 2 ^ 32 → space ≤ length text → decimal pair ≡ take space text → (2 ≤ space) × (decimal (pair / 100) ≡ take (space - 2) text)
front_digits text pair space large small within number =
    let digits = (48 + pair / 10 % 10) ∷ (48 + pair % 10) ∷ [] in
    let whole : pair / 100 * 100 + pair / 10 % 10 * 10 + pair % 10 ≡ pair = omega arith in
    let two : decimal (pair / 100) ++ digits ≡ take space text = sym (two_digits (pair / 100) (pair / 10 % 10) (pair % 10) (omega arith) (omega arith) (omega arith) (omega arith)) ∙ ap decimal whole ∙ number in
    let long : length (decimal (pair / 100)) + 2 ≡ space = omega (arith, ap length two, length-append (decimal (pair / 100)) digits, length-take-le space text within) in
    (omega arith, sym (take_at (decimal (pair / 100)) digits (space - 2) (omega arith)) ∙ ap (take (space - 2)) two ∙ take-take (space - 2) space text (omega arith))

-- a number from 100 on has more than two digits
pub large_number : (bytes : List ℕ) (pair space : ℕ) → 100 ≤ pair → pair < 2 ^ 32 → space ≤ length bytes → decimal pair ≡ take space bytes → 2 ≤ space
large_number bytes pair space large small within number = (front_digits bytes pair space large small within number).0

-- the digits of the pattern at the start
pub first_number : decimal 100 ≡ 49 ∷ 48 ∷ 48 ∷ []
first_number = two_digits 1 0 0 (omega arith) (omega arith) (omega arith) (omega arith) ∙ ap (λ ds. ds ++ 48 ∷ 48 ∷ []) (decimal_digit 1 (omega arith))

-- with digits in their place, a pattern is an entry's line
pub pattern_parts : (bytes : List ℕ) (s : Shape) (a b n : ℕ) → IsPattern bytes s → a < 10 → b < 10 → get_or bytes s.place 0 ≡ 48 + a → get_or bytes (s.place + 1) 0 ≡ 48 + b → n ≡ s.base + a * 10 + b → HasParts bytes n s.reason (s.place + 2) s.len
pattern_parts bytes s a b n is tens ones a_is b_is value =
    let base : s.base ≡ is.front * 100 = is.base in
    let small : s.base < 4294967296 = is.small in
    let before : s.place + 2 < s.len = is.rest.before in
    let inside : s.len < length bytes = is.rest.ended.within in
    let own : n ≡ is.front * 100 + a * 10 + b = omega arith in
    let two : take (s.place + 2) bytes ≡ (take s.place bytes ++ get_or bytes s.place 0 ∷ []) ++ get_or bytes (s.place + 1) 0 ∷ [] = grind (arith, take_more) in
    record { number = ap decimal own ∙ two_digits is.front a b is.some tens ones (omega arith) ∙ grind (arith, append_assoc, two, is.digits); rest = is.rest }
