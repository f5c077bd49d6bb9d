-- Lines that are made from the line before.
use Rattle.roman_cert.proofs.Common.{IsTemplate, List, [], ap, append_assoc, ap₂, arith, decimal, drop, get_or, length, length-drop, refl, set, sym, take, take-add, ℕ, ◌%◌, ◌*◌, ◌++◌, ◌+◌, ◌/◌, ◌<◌, ◌^◌, ◌∙◌, ◌∷◌, ◌≡◌, ◌≤◌, Template, decimal_pair, pair, get_or-drop, get_or-set_other, get_or-set_same, length-set, take-set-le}

-- a number whose last two digits are those of `two`
two_more : (q two : ℕ) → 0 < q → two < 100 → q < 2 ^ 32 → decimal (q * 100 + two) ≡ decimal q ++ pair two
two_more q two some few small = decimal_pair (q * 100 + two) (omega arith) (omega arith) ∙ ap₂ (λ m r. decimal m ++ pair r) (omega arith) (omega arith)

five : (xs : List ℕ) → 5 ≤ length xs → take 5 xs ≡ get_or xs 0 0 ∷ get_or xs 1 0 ∷ get_or xs 2 0 ∷ get_or xs 3 0 ∷ get_or xs 4 0 ∷ []
five (a ∷ b ∷ c ∷ d ∷ e ∷ xs) l = refl
five xs l = absurd (omega arith)

-- five bytes from a place on
five_behind : (text : List ℕ) (p a b c d e : ℕ) → p + 5 ≤ length text → get_or text p 0 ≡ a → get_or text (p + 1) 0 ≡ b → get_or text (p + 2) 0 ≡ c → get_or text (p + 3) 0 ≡ d → get_or text (p + 4) 0 ≡ e →
    take (p + 5) text ≡ take p text ++ a ∷ b ∷ c ∷ d ∷ e ∷ []
five_behind text p a b c d e room is_a is_b is_c is_d is_e =
    take-add p 5 text ∙ ap (λ xs. take p text ++ xs) (five (drop p text) (omega (arith, length-drop p text)) ∙ grind (arith, get_or-drop p text))

-- two digits are overwritten
module _ (t : Template) (is : IsTemplate t) (two : ℕ) (long : length t.text ≡ 16) where
  abbrev pub with_two : List ℕ
  with_two = set (set t.text t.place (48 + two / 10)) (t.place + 1) (48 + two % 10)

  behind_two : (k : ℕ) → t.place + 2 ≤ k → get_or with_two k 0 ≡ get_or t.text k 0
  behind_two k l = get_or-set_other (set t.text t.place (48 + two / 10)) (t.place + 1) k (48 + two % 10) 0 (omega arith) ∙ get_or-set_other t.text t.place k (48 + two / 10) 0 (omega arith)

  before_two : take t.place with_two ≡ decimal is.high
  before_two = take-set-le t.place (set t.text t.place (48 + two / 10)) (t.place + 1) (48 + two % 10) (omega arith) ∙ take-set-le t.place t.text t.place (48 + two / 10) (omega arith) ∙ is.front

  pub line_of_two : two < 100 → t.base < 2 ^ 32 → take t.len with_two ≡ decimal (t.base + two) ++ 32 ∷ t.letter ∷ 10 ∷ []
  line_of_two few small =
      let len : t.len ≡ t.place + 5 = is.len in
      let fits : t.len ≤ 16 = is.fits in
      let some : 0 < is.high = is.some in
      let base : t.base ≡ is.high * 100 = is.base in
      let long_one : length (set t.text t.place (48 + two / 10)) ≡ length t.text = length-set t.text t.place (48 + two / 10) in
      let long_two : length with_two ≡ length (set t.text t.place (48 + two / 10)) = length-set (set t.text t.place (48 + two / 10)) (t.place + 1) (48 + two % 10) in
      ap (λ n. take n with_two) len
      ∙ five_behind with_two t.place (48 + two / 10) (48 + two % 10) 32 t.letter 10 (omega arith)
      (get_or-set_other (set t.text t.place (48 + two / 10)) (t.place + 1) t.place (48 + two % 10) 0 (omega arith) ∙ get_or-set_same t.text t.place (48 + two / 10) 0 (omega arith))
      (get_or-set_same (set t.text t.place (48 + two / 10)) (t.place + 1) (48 + two % 10) 0 (omega arith))
      (behind_two (t.place + 2) (omega arith) ∙ is.space) (behind_two (t.place + 3) (omega arith) ∙ is.reason) (behind_two (t.place + 4) (omega arith) ∙ is.newline)
      ∙ ap (λ ds. ds ++ (48 + two / 10) ∷ (48 + two % 10) ∷ 32 ∷ t.letter ∷ 10 ∷ []) before_two
      ∙ sym (append_assoc (decimal is.high) ((48 + two / 10) ∷ (48 + two % 10) ∷ []) (32 ∷ t.letter ∷ 10 ∷ []))
      ∙ ap (λ ds. ds ++ 32 ∷ t.letter ∷ 10 ∷ []) (sym (two_more is.high two some few (omega arith)) ∙ ap (λ n. decimal (n + two)) (sym base))
