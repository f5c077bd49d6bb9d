-- Loops that keep the best seat so far.
use Rattle.roman_cost.proofs.Common.{◌≡◌, ◌≢◌, ℕ, ◌+◌, Bool, true, false, List, [], ◌∷◌, ◌++◌, Option, Some, None, filter, refl, ap, add-one, append-nil, arith, below, has, least_from, first_least, same_test, filter_in, in_filter, filter_below_more, number_listed, filter_same, least_from_push, listed_number, better_of}

-- the first of the cheapest elements of a list, with its value
abbrev pub best_of : (ℕ → ℕ) → List ℕ → Option (ℕ × ℕ)
best_of f [] = None
best_of f (x ∷ xs) = Some (least_from f x xs, f (least_from f x xs))

pub best_of-push : (f : ℕ → ℕ) (xs : List ℕ) (k cost : ℕ) → cost ≡ f k → better_of (best_of f xs) k cost ≡ best_of f (xs ++ k ∷ [])
best_of-push f [] k cost e = ap (λ c. Some (k, c)) e
best_of-push f (x ∷ xs) k cost e = grind (arith, least_from_push)

pub best_of-first : (f : ℕ → ℕ) (xs : List ℕ) → xs ≢ [] → best_of f xs ≡ Some (first_least f xs, f (first_least f xs))
best_of-first f [] some = absurd (some refl)
best_of-first f (x ∷ xs) some = refl

-- one more number below the bound passes, or doesn't pass
pub filter_taken : (p : ℕ → Bool) (k : ℕ) → p k ≡ true → filter p (below (k + 1)) ≡ filter p (below k) ++ k ∷ []
filter_taken p k passes = rw (add-one, filter_below_more p k, passes)

pub filter_passed : (p : ℕ → Bool) (k : ℕ) → p k ≡ false → filter p (below (k + 1)) ≡ filter p (below k)
filter_passed p k fails = rw (add-one, filter_below_more p k, fails, append-nil)

-- the best after one more number below the bound, which passes or doesn't pass
pub best_of-taken : (f : ℕ → ℕ) (p : ℕ → Bool) (k cost : ℕ) (best new : Option (ℕ × ℕ)) → p k ≡ true → best ≡ best_of f (filter p (below k)) → cost ≡ f k →
    new ≡ better_of best k cost → new ≡ best_of f (filter p (below (k + 1)))
best_of-taken f p k cost best new passes before e is = grind (arith, best_of-push, filter_taken)

pub best_of-passed : (f : ℕ → ℕ) (p : ℕ → Bool) (k : ℕ) (best : Option (ℕ × ℕ)) → p k ≡ false → best ≡ best_of f (filter p (below k)) →
    best ≡ best_of f (filter p (below (k + 1)))
best_of-passed f p k best fails before = grind (arith, filter_passed)

-- filtering the numbers below a bound by a list of such numbers gives the list
pub filter_has : (q : ℕ → Bool) (n : ℕ) → filter (has (filter q (below n))) (below n) ≡ filter q (below n)
filter_has q n = grind (arith, filter_in, filter_same, in_filter, listed_number, number_listed, same_test)
