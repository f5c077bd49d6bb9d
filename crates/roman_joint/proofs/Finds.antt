-- Searches for the first element that passes, step by step.
use Rattle.roman_joint.proofs.Common.{All, ◌≡◌, ℕ, ◌+◌, ◌<◌, ◌≤◌, ◌==◌, Bool, true, false, cond, List, [], ◌∷◌, map, length, drop, get_or, Option, Some, IsFalse, refl, sym, ap, ◌∙◌, subst, inl, arith, find, flat_map, option_map, option_or, IsIn, is_empty, in_map, in_flat_map, in_not_empty, drop_more, nil_from_length, false≢true, eqb-true, find-append, in_at}
use Rattle.std.specs.Option.{IfSome}

-- a search goes on from an element to the next
pub find_next : {X : Type 0} (p : X → Bool) (xs : List X) (i : ℕ) (d : X) (b : Bool) → i < length xs → p (get_or xs i d) ≡ b → find p (drop i xs) ≡ cond b (Some (get_or xs i d)) (find p (drop (i + 1) xs))
find_next p xs i d b l h = ap (find p) (drop_more xs i d l) ∙ ap (λ t. cond t (Some (get_or xs i d)) (find p (drop (i + 1) xs))) h

pub find-map : {X Y : Type 0} (f : X → Y) (p : Y → Bool) (xs : List X) → find p (map f xs) ≡ option_map f (find (λ x. p (f x)) xs)
find-map f p [] = refl
find-map f p (x ∷ xs) = grind (arith, (find-map f p xs))

-- a search over joined lists goes on from a list to the next
pub find_in_next : {X Y : Type 0} (f : X → List Y) (p : Y → Bool) (xs : List X) (i : ℕ) (d : X) (o : Option Y) → i < length xs → find p (f (get_or xs i d)) ≡ o →
    find p (flat_map f (drop i xs)) ≡ option_or o (find p (flat_map f (drop (i + 1) xs)))
find_in_next f p xs i d o l h =
    ap (λ ys. find p (flat_map f ys)) (drop_more xs i d l) ∙ (find-append p (f (get_or xs i d)) (flat_map f (drop (i + 1) xs)) ∙ ap (λ o. option_or o (find p (flat_map f (drop (i + 1) xs)))) h)

-- what holds of the elements of two lists holds at their places
pub all_pairs : (P : ℕ → ℕ → Type 0) (xs ys : List ℕ) → ((x y : ℕ) → IsIn x xs → IsIn y ys → P x y) → All (λ x. All (P x) ys) xs
all_pairs P xs ys h = λ i d l j e m. h _ _ (in_at xs i d l) (in_at ys j e m)

pub if_some : {X : Type 0} (o : Option X) (x : X) (P : X → Type 0) → o ≡ Some x → IfSome o P → P x
if_some o x P e h = subst (λ p. IfSome p P) e h

-- without states there are no numbers
pub no_numbers : (g : ℕ → ℕ → ℕ) (envs states : List ℕ) → states ≡ [] → flat_map (λ e. map (g e) states) envs ≡ []
no_numbers g envs states h = ap (λ bs. flat_map (λ e. map (g e) bs) envs) h ∙ none envs
  where
    none : (es : List ℕ) → flat_map (λ e. map (g e) []) es ≡ []
    none [] = refl
    none (e ∷ es) = none es

-- with states of both kinds there are numbers
pub some_numbers : (g : ℕ → ℕ → ℕ) (envs states : List ℕ) (b : ℕ) → IsFalse (is_empty envs) → IsIn b states → IsFalse (is_empty (flat_map (λ e. map (g e) states) envs))
some_numbers g [] states b some i = some
some_numbers g (e ∷ envs) states b some i =
    in_not_empty (g e b) (flat_map (λ e. map (g e) states) (e ∷ envs)) (in_flat_map (λ e. map (g e) states) e (g e b) (e ∷ envs) (inl refl) (in_map (g e) b states i))

-- a slice is empty if `is_empty` returns true
pub none_there : (xs : List ℕ) (answer : Bool) → answer ≡ (length xs == 0) → answer ≡ true → xs ≡ []
none_there xs answer h e = nil_from_length xs (eqb-true (length xs) 0 (sym h ∙ e))

pub some_there : (xs : List ℕ) (answer : Bool) → answer ≡ (length xs == 0) → answer ≡ false → 0 < length xs
some_there [] answer h e = absurd (false≢true (sym e ∙ h))
some_there (x ∷ xs) answer h e = omega arith
