-- Loops that keep the greatest value so far.
use Rattle.roman_cost.proofs.Common.{◌≡◌, ℕ, ◌+◌, ◌<◌, List, [], ◌∷◌, map, length, get_or, take, refl, sym, ap, ap₂, ◌∙◌, arith, max, take_more, max_over, max_over_push, max_over-map, max_over-append}
use Rattle.std.proofs.Common.{flat_map}

-- the greatest value after one more element
pub max_stepped : {X : Type 0} (f : X → ℕ) (xs : List X) (i : ℕ) (d : X) (best value new : ℕ) → best ≡ max_over f (take i xs) → i < length xs →
    value ≡ f (get_or xs i d) → new ≡ max best value → new ≡ max_over f (take (i + 1) xs)
max_stepped f xs i d best value new before l is step =
    step ∙ ap₂ max before is ∙ sym (max_over_push f (take i xs) (get_or xs i d)) ∙ ap (max_over f) (sym (take_more xs i d l))

max_over-flat_map : {X Y : Type 0} (f : Y → ℕ) (g : X → List Y) (xs : List X) → max_over f (flat_map g xs) ≡ max_over (λ x. max_over f (g x)) xs
max_over-flat_map f g [] = refl
max_over-flat_map f g (x ∷ xs) = max_over-append f (g x) (flat_map g xs) ∙ ap (max (max_over f (g x))) (max_over-flat_map f g xs)

-- the greatest of the lists' greatest values is the greatest over all lists
pub max_all : {Y : Type 0} (f : Y → ℕ) (g : ℕ → ℕ → Y) (envs states : List ℕ) (best : ℕ) → best ≡ max_over (λ e. max_over (λ b. f (g e b)) states) envs →
    best ≡ max_over f (flat_map (λ e. map (g e) states) envs)
max_all f g envs states best is = grind (arith, max_over-flat_map, max_over-map)
