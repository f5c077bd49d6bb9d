-- The bits of masks, and the number of seats in the masks of a row's pairs.
use Rattle.roman_rules.proofs.Common.{◌≡◌, ℕ, zero, suc, ◌+◌, ◌-◌, ◌*◌, ◌%◌, ◌^◌, ◌<◌, ◌≤◌, Bool, cond, not, length, sum_by, count_ones, IsTrue, IsFalse, refl, sym, ap, ◌∙◌, arith, bit_at, cases_eq, cases_lt, cond-true, cond-false, both_ways, not_from_true, sum_by_push, length-filter, add-suc, add-zero, ones-le, bit_at-zero, below, is_empty, has, Arena, is_beaten, mask, by_test, from_below, sum_by_same, empty_is, not_empty_in, mask_none, mask_has, mask_has_past, beaten_none, is_on, HasLanes, HasBits, bit_of, has_seat, IsNumbered, low_ones, bit_is}

-- ---- an action that isn't allowed

-- if an action isn't allowed, each seat is beaten
pub refused_beaten : (A : Arena ℕ) → IsNumbered A → (gone : ℕ → Bool) (p a k : ℕ) → IsFalse (A.allows p a) → IsTrue (is_beaten A gone p a k)
refused_beaten A ok gone p a k refused =
    by_test (is_empty (A.outcomes p a k)) (λ t. beaten_none A gone p a k (empty_is (A.outcomes p a k) t))
    (λ f. let (q, i) = not_empty_in (A.outcomes p a k) f in absurd (both_ways (A.allows p a) refused (ok.served p a k q i).0))

-- ---- the bits of a mask

-- a seat is in the set of the bits exactly when it passes their test
pub has_seat_is : (bits : ℕ) (test : ℕ → Bool) (k : ℕ) → HasBits bits test → k < 32 → has_seat bits k ≡ test k
has_seat_is bits test k is l = grind arith

-- a seat is in the mask exactly when it isn't beaten
pub has_good : (A : Arena ℕ) → IsNumbered A → (gone : ℕ → Bool) (p a k : ℕ) → k < A.seats → has (mask A gone p a) k ≡ not (is_beaten A gone p a k)
has_good A ok gone p a k l = grind (arith, by_test, mask_has, not_from_true, refused_beaten)

-- if an action isn't allowed, the mask has no bits
pub mask_refused : (A : Arena ℕ) (gone : ℕ → Bool) (p a : ℕ) → IsFalse (A.allows p a) → HasBits 0 (has (mask A gone p a))
mask_refused A gone p a refused = record { each = λ k l. bit_at-zero k ∙ sym (ap (λ ks. bit_of (has ks k)) (mask_none A gone p a refused)) }

-- the bits of a mask with one more seat
pub mask_more : (A : Arena ℕ) (gone : ℕ → Bool) (p a k old new : ℕ) (good : Bool) → good ≡ has (mask A gone p a) k →
    bit_at new k ≡ cond good 1 (bit_at old k) → ((j : ℕ) → (j ≡ k → ⊥) → bit_at new j ≡ bit_at old j) →
    ((j : ℕ) → j < k → bit_at old j ≡ bit_of (has (mask A gone p a) j)) → ((j : ℕ) → k ≤ j → bit_at old j ≡ 0) →
    (j : ℕ) → j < k + 1 → bit_at new j ≡ bit_of (has (mask A gone p a) j)
mask_more A gone p a k old new good is own others before none j m = grind (arith, cases_eq)

-- if the seats from n on are beaten and the bits are correct below n, the bits are the whole mask
pub mask_all : (A : Arena ℕ) → IsNumbered A → (gone : ℕ → Bool) (p a n bits : ℕ) → ((k : ℕ) → n ≤ k → k < A.seats → IsTrue (is_beaten A gone p a k)) →
    ((j : ℕ) → j < n → bit_at bits j ≡ bit_of (has (mask A gone p a) j)) → ((j : ℕ) → n ≤ j → bit_at bits j ≡ 0) → HasBits bits (has (mask A gone p a))
mask_all A ok gone p a n bits beaten read rest = grind (arith, cases_lt, has_good, mask_has_past)

-- ---- sums over the numbers below a bound

pub sum_below_more : (f : ℕ → ℕ) (n : ℕ) → sum_by f (below (n + 1)) ≡ sum_by f (below n) + f n
sum_below_more f n = (let next : n + 1 ≡ suc n = omega arith in ap (λ m. sum_by f (below m)) next) ∙ sum_by_push f (below n) n

sum_plus : (f g : ℕ → ℕ) (n : ℕ) → sum_by (λ i. f i + g i) (below n) ≡ sum_by f (below n) + sum_by g (below n)
sum_plus f g zero = refl
sum_plus f g (suc n) = omega (arith, sum_by_push (λ i. f i + g i) (below n) n, sum_by_push f (below n) n, sum_by_push g (below n) n, sum_plus f g n)

sum_zero : (f : ℕ → ℕ) (n : ℕ) → ((i : ℕ) → i < n → f i ≡ 0) → sum_by f (below n) ≡ 0
sum_zero f zero none = refl
sum_zero f (suc n) none = omega (arith, sum_by_push f (below n) n, none n (omega arith), sum_zero f n (λ i l. none i (omega arith)))

-- a double sum in the other order
pub sum_turned : (f : ℕ → ℕ → ℕ) (m n : ℕ) → sum_by (λ i. sum_by (λ j. f i j) (below n)) (below m) ≡ sum_by (λ j. sum_by (λ i. f i j) (below m)) (below n)
sum_turned f zero n = sym (sum_zero (λ j. 0) n (λ j l. refl))
sum_turned f (suc m) n = simp (sum_by_push, sum_plus) (ap (λ x. x + sum_by (λ j. f m j) (below n)) (sum_turned f m n))

-- a sum over a + n numbers is split after the first a
pub sum_further : (f : ℕ → ℕ) (a n : ℕ) → sum_by f (below (a + n)) ≡ sum_by f (below a) + sum_by (λ i. f (a + i)) (below n)
sum_further f a zero = grind (arith, add-zero)
sum_further f a (suc n) = simp (add-suc, sum_by_push) (omega (arith, sum_further f a n))

-- numbers at which the term is 0 don't change a sum
pub sum_cut : (f : ℕ → ℕ) (m n : ℕ) → m ≤ n → ((i : ℕ) → m ≤ i → i < n → f i ≡ 0) → sum_by f (below m) ≡ sum_by f (below n)
sum_cut f m n l none =
    let rest : m + (n - m) ≡ n = omega arith in
    omega (arith, ap (λ k. sum_by f (below k)) rest, sum_further f m (n - m), sum_zero (λ i. f (m + i)) (n - m) (λ i h. none (m + i) (omega arith) (omega arith)))

-- ---- the ones of a word

-- the number of ones in a row's word is the number of lanes at which the test passes
pub ones_counted : (lanes row : ℕ) (test : ℕ → Bool) (word : ℕ) → lanes ≤ 64 → word < 2 ^ 64 → HasLanes lanes row test word → count_ones word ≡ sum_by (λ lane. cond (test (row * lanes + lane)) 1 0) (below lanes)
ones_counted lanes row test word few fits is =
    let whole : word ≡ word % 2 ^ 64 = omega arith in
    ap count_ones whole ∙ (low_ones word 64
    ∙ (sym (sum_cut (bit_at word) lanes 64 few (λ lane past l. bit_is word lane ∙ cond-false (is_on word lane) 1 0 (is.rest lane past)))
    ∙ sum_by_same (bit_at word) (λ lane. cond (test (row * lanes + lane)) 1 0) (below lanes) (λ lane i. bit_is word lane ∙ ap (λ b. cond b 1 0) (is.each lane (from_below lanes lane i)))))

-- a word has at most 64 ones
pub ones_few : (word : ℕ) → word < 2 ^ 64 → count_ones word ≤ 64
ones_few word fits = ones-le 64 word fits

-- ---- the seats of a mask

pub mask_counted : (A : Arena ℕ) → IsNumbered A → (gone : ℕ → Bool) (p a : ℕ) → length (mask A gone p a) ≡ sum_by (λ k. cond (not (is_beaten A gone p a k)) 1 0) (below A.seats)
mask_counted A ok gone p a = grind (arith, by_test, cond-false, cond-true, length-filter, mask_none, not_from_true, refused_beaten, sum_zero)

-- the number of pairs of a row at which a seat serves the action
abbrev pub served_by : Arena ℕ → (ℕ → Bool) → ℕ → ℕ → ℕ → ℕ → ℕ
served_by A gone lanes row a k = sum_by (λ lane. cond (not (is_beaten A gone (row * lanes + lane) a k)) 1 0) (below lanes)

-- the number of seats in an action's masks in a row, summed seat by seat
pub action_counted : (A : Arena ℕ) → IsNumbered A → (gone : ℕ → Bool) (lanes row a : ℕ) →
    sum_by (served_by A gone lanes row a) (below A.seats) ≡ sum_by (λ lane. length (mask A gone (row * lanes + lane) a)) (below lanes)
action_counted A ok gone lanes row a = simp (mask_counted A ok gone) (sum_turned (λ k lane. cond (not (is_beaten A gone (row * lanes + lane) a k)) 1 0) A.seats lanes)

-- if an action is allowed at no pair of a row, its masks there are empty
pub none_chosen : (A : Arena ℕ) (gone : ℕ → Bool) (lanes row a : ℕ) → ((lane : ℕ) → lane < lanes → IsFalse (A.allows (row * lanes + lane) a)) →
    0 ≡ sum_by (λ lane. length (mask A gone (row * lanes + lane) a)) (below lanes)
none_chosen A gone lanes row a none =
    sym (sum_zero (λ lane. length (mask A gone (row * lanes + lane) a)) lanes (λ lane l. ap length (mask_none A gone (row * lanes + lane) a (none lane l))))
