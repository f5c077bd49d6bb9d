-- Definitions on lists and on numbers below a bound.
use Rattle.std.specs.Prelude.{◌≡◌, ℕ, zero, suc, ◌*◌, Bool, true, false, ◌&&◌, ◌⊎◌, ◌↔◌, List, [], ◌∷◌, ◌++◌}

-- x is an element of the list
abbrev pub IsIn : {X : Type 0} → X → List X → Type 0
IsIn x [] = ⊥
IsIn x (y ∷ ys) = (x ≡ y) ⊎ IsIn x ys

-- xs is ys without some of its elements
abbrev pub IsSublist : {X : Type 0} → List X → List X → Type 0
IsSublist [] ys = Unit {0}
IsSublist (x ∷ xs) [] = ⊥
IsSublist (x ∷ xs) (y ∷ ys) = ((x ≡ y) × IsSublist xs ys) ⊎ IsSublist (x ∷ xs) ys

-- no element occurs twice
abbrev pub HasNoRepeats : {X : Type 0} → List X → Type 0
HasNoRepeats [] = Unit {0}
HasNoRepeats (x ∷ xs) = (IsIn x xs → ⊥) × HasNoRepeats xs

-- xs has the same elements as ys, each once
pub record HoldsEachOnce {X : Type 0} (xs ys : List X) : Type 0 where
  pub once : HasNoRepeats xs
  pub same : (x : X) → IsIn x xs ↔ IsIn x ys

-- the numbers 0, 1, .. below n, rising
abbrev pub below : ℕ → List ℕ
below zero = []
below (suc n) = below n ++ n ∷ []

-- each number below n passes the test
abbrev pub all_below : (ℕ → Bool) → ℕ → Bool
all_below p zero = true
all_below p (suc n) = all_below p n && p n

-- the list is empty
abbrev pub is_empty : {X : Type 0} → List X → Bool
is_empty [] = true
is_empty (x ∷ xs) = false

-- the product of the numbers
abbrev pub product_of : List ℕ → ℕ
product_of [] = 1
product_of (n ∷ ns) = n * product_of ns
