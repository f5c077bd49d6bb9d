-- Equal texts, and texts that don't have a byte.
use Rattle.roman_check.proofs.Common.{◌≡◌, ℕ, zero, suc, ◌+◌, ◌<◌, ◌==◌, Bool, List, [], ◌∷◌, ◌++◌, length, take, drop, get_or, None, Option, Some, refl, sym, ap₂, ◌∙◌, subst, inl, inr, arith, IsTrue, IsFalse, nat_lt, IsLine, IsEndedAt, Decides-eqb, eqb-true, cases_lt, cond-true, or_from, lt-ltb, take_all, take-take, drop-take, take-append-drop, has, same_numbers, same_numbers_is, same_numbers_itself, same_test, position, position_or_len, MatchOption, pointwise, slice_eq-Decides, fails_before_first, position-Some, none-some}

-- a test that is true exactly for equal texts is the model's test
pub same_from : (b : Bool) (xs ys : List ℕ) → (IsTrue b → xs ≡ ys) → (xs ≡ ys → IsTrue b) → b ≡ same_numbers xs ys
same_from b xs ys to from = grind (arith, same_numbers_is, same_numbers_itself, same_test)

-- `==` on slices of bytes is the model's test
pub same_as_eq : (xs ys zs : List ℕ) (r : Bool) → r ≡ pointwise (λ x y. x == y) xs ys → ys ≡ zs → r ≡ same_numbers zs xs
same_as_eq xs ys zs r e same =
    let (to, from) = slice_eq-Decides Decides-eqb xs ys r e in
    same_from r zs xs (λ t. sym (to t ∙ same)) (λ e. from (sym e ∙ sym same))

-- a prefix of a text, and what follows it
pub taken_more : (xs : List ℕ) (n m : ℕ) → take n xs ++ take m (drop n xs) ≡ take (n + m) xs
taken_more xs n m = ap₂ (λ a b. a ++ b) (sym (take-take n (n + m) xs (omega arith))) (sym (drop-take n m xs)) ∙ take-append-drop n (take (n + m) xs)

-- a prefix of a text that doesn't have the byte
pub clear_before : (b : ℕ) (xs : List ℕ) (i : ℕ) → ((k : ℕ) → k < i → IsFalse (get_or xs k 0 == b)) → IsFalse (has (take i xs) b)
clear_before b xs zero none = refl
clear_before b [] (suc i) none = refl
clear_before b (x ∷ xs) (suc i) none = or_from (x == b) (has (take i xs) b) (none 0 (omega arith)) (clear_before b xs i (λ k l. none (suc k) (omega arith)))

-- the first newline, if there is one
pub newline_found : (xs : List ℕ) (r : Option ℕ) → r ≡ position (λ x. x == 10) xs → MatchOption r (IsLine xs) (λ i. IsEndedAt xs i × IsLine (take i xs))
newline_found xs (Some i) e =
    let (l, here, before) = position-Some (λ x. x == 10) xs i 0 (sym e) in
    (record { within = l; newline = eqb-true (get_or xs i 0) 10 here }, clear_before 10 xs i before)
newline_found xs None e = elim (cases_lt (position_or_len (λ x. x == 10) xs) (length xs)) [
  | inl less ↦ absurd (none-some (position_or_len (λ x. x == 10) xs) (e ∙ cond-true (nat_lt (position_or_len (λ x. x == 10) xs) (length xs)) (Some (position_or_len (λ x. x == 10) xs)) None (lt-ltb (position_or_len (λ x. x == 10) xs) (length xs) less)))
  | inr more ↦ subst IsLine (take_all (length xs) xs (omega arith)) (clear_before 10 xs (length xs) (λ k l. fails_before_first (λ x. x == 10) xs k 0 (omega arith)))
]
