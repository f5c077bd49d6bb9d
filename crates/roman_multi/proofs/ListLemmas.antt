-- Lists that loops build over the numbers below a bound.
use Rattle.roman_multi.proofs.Common.{◌≡◌, ℕ, suc, ◌<◌, ◌+◌, Bool, false, not, List, [], ◌∷◌, ◌++◌, length, Option, None, Some, IsTrue, IsFalse, is_some, flat_map, slice_get, get_or, refl, sym, ap, ap₂, ◌∙◌, add-one, append_assoc, MatchOption, list_any, slice_get-get_or, below, is_empty, any_from, in_below, flat_map_row, or_from, list_any-append}

-- the next states of a target's step
pub goes_is : (o : Option ℕ) (xs : List ℕ) → MatchOption o (xs ≡ []) (λ to. xs ≡ to ∷ []) → is_some o ≡ not (is_empty xs)
goes_is None xs h = ap (λ ys. not (is_empty ys)) (sym h)
goes_is (Some to) xs h = ap (λ ys. not (is_empty ys)) (sym h)

-- a test of the numbers below a bound, with one more
pub none_more : (p : ℕ → Bool) (n : ℕ) → IsFalse (list_any p (below n)) → IsFalse (p n) → IsFalse (list_any p (below (suc n)))
none_more p n before here = list_any-append p (below n) (n ∷ []) ∙ or_from (list_any p (below n)) (list_any p (n ∷ [])) before (or_from (p n) false here refl)

pub any_at : (p : ℕ → Bool) (n m : ℕ) → m < n → IsTrue (p m) → IsTrue (list_any p (below n))
any_at p n m l t = any_from p m (below n) (in_below n m l) t

pub flat_map_pushed : {Y : Type 0} (f : ℕ → List Y) (n : ℕ) (old now new ys : List Y) → now ≡ old ++ flat_map f (below n) → new ≡ now ++ ys → ys ≡ f n → new ≡ old ++ flat_map f (below (n + 1))
flat_map_pushed f n old now new ys before step is =
    step ∙ ap₂ (λ us vs. us ++ vs) before is ∙ append_assoc old (flat_map f (below n)) (f n) ∙ ap (λ ys. old ++ ys) (sym (flat_map_row f n) ∙ ap (λ m. flat_map f (below m)) (sym (add-one n)))

pub flat_map_begun : {Y : Type 0} (f : ℕ → List Y) (n : ℕ) (now new ys : List Y) → now ≡ flat_map f (below n) → new ≡ now ++ ys → ys ≡ f n → new ≡ flat_map f (below (n + 1))
flat_map_begun f n now new ys before step is = step ∙ ap₂ (λ us vs. us ++ vs) before is ∙ sym (flat_map_row f n) ∙ ap (λ m. flat_map f (below m)) (sym (add-one n))

-- the rules for appending the list of the next item
pub ruleset pushed = (flat_map_pushed, slice_get-get_or)

-- a step that is found has a next state
pub goes_found : (o : Option ℕ) (xs : List ℕ) (b : Bool) → MatchOption o (xs ≡ []) (λ to. xs ≡ to ∷ []) → b ≡ is_some o → IsTrue b → IsTrue (not (is_empty xs))
goes_found o xs b h is t = sym (goes_is o xs h) ∙ sym is ∙ t

pub read_get : {X Y : Type 0} (f : Option X → Y) (g : X → Y) (xs : List X) (i : ℕ) (d : X) → ((y : X) → g y ≡ f (Some y)) → i < length xs → g (get_or xs i d) ≡ f (slice_get xs i)
read_get f g xs i d is l = is (get_or xs i d) ∙ ap f (sym (slice_get-get_or xs i d l))
