-- The rest of a text that is pushed element by element.
use Rattle.roman_cert.proofs.Common.{Bool, List, Option, Result, Some, [], add-one, ap, append_assoc, ap₂, cond, drop, drop-cons, filter, flat_map, length, refl, subst, sym, ℕ, ◌++◌, ◌+◌, ◌∙◌, ◌∷◌, ◌≡◌, ◌≤◌, Gathered, IsFilling, Puts-after_Gathered, fill_failed, fill_more, fill_same, Puts, WrotePrefix, Puts-after, by_test, drop_all, err_from_is_err_and, get_or_from_slice_get, slice_get_within, slice_get}

-- the rest of a list from a place on: the element there, and the rest after it
pub drop_at : {X : Type 0} (xs : List X) (i : ℕ) (x : X) → slice_get xs i ≡ Some x → drop i xs ≡ x ∷ drop (i + 1) xs
drop_at xs i x e =
    let within = slice_get_within xs i x e in
    drop-cons xs i x within ∙ ap₂ (λ y j. y ∷ drop j xs) (get_or_from_slice_get xs i x x e) (sym (add-one i))

-- the texts of the elements that pass a test
pub flat_map-filter : {X : Type 0} (p : X → Bool) (f : X → List ℕ) (xs : List X) → flat_map f (filter p xs) ≡ flat_map (λ x. cond (p x) (f x) []) xs
flat_map-filter p f [] = refl
flat_map-filter p f (x ∷ xs) =
    by_test (p x) (λ t. rw t (ap (λ (bs : List ℕ). f x ++ bs) (flat_map-filter p f xs))) (λ e. rw e (flat_map-filter p f xs))

-- the texts of the elements from place i on, and the end of the text
unfoldable pub rest_of : {X : Type 0} → (X → List ℕ) → List X → List ℕ → ℕ → List ℕ
rest_of f xs end i = flat_map f (drop i xs) ++ end

module _ {X : Type 0} (f : X → List ℕ) (xs : List X) (end : List ℕ) (i : ℕ) (x : X) (here : slice_get xs i ≡ Some x) (old now : Option (List ℕ)) (held bytes all : List ℕ) (is : bytes ≡ f x) (filling : IsFilling old now held (rest_of f xs end i) all) where
  next : IsFilling old now held (bytes ++ rest_of f xs end (i + 1)) all
  unfolding rest_of
  next =
      fill_same _ _ _ _ _ _ (ap (λ ys. flat_map f ys ++ end) (drop_at xs i x here) ∙ append_assoc (f x) (flat_map f (drop (i + 1) xs)) end
      ∙ ap (λ (bs : List ℕ). bs ++ rest_of f xs end (i + 1)) (sym is)) filling

  -- the text of one more element is pushed
  pub fill_next : (new : Option (List ℕ)) (after : List ℕ) → Gathered now new after (held ++ bytes) → IsFilling old new after (rest_of f xs end (i + 1)) all
  fill_next new after g = fill_more _ _ _ _ _ _ _ _ next g

  -- the push of one more element failed
  pub fill_stops : (new : Option (List ℕ)) → WrotePrefix now new (held ++ bytes) → WrotePrefix old new all
  fill_stops new w = fill_failed _ _ _ _ _ _ _ next w

-- an element without a text is skipped
pub fill_skips : {X : Type 0} (f : X → List ℕ) (xs : List X) (end : List ℕ) (i : ℕ) (x : X) → slice_get xs i ≡ Some x → (old now : Option (List ℕ)) (held all : List ℕ) → [] ≡ f x → IsFilling old now held (rest_of f xs end i) all →
    IsFilling old now held (rest_of f xs end (i + 1)) all
fill_skips f xs end i x here old now held all none filling = next f xs end i x here old now held [] all none filling

-- the texts of all elements are pushed
pub fill_ends : {X : Type 0} (f : X → List ℕ) (xs : List X) (end : List ℕ) (i : ℕ) (old now : Option (List ℕ)) (held all : List ℕ) → length xs ≤ i → IsFilling old now held (rest_of f xs end i) all → IsFilling old now held end all
unfolding rest_of
fill_ends f xs end i old now held all past filling = fill_same _ _ _ _ _ _ (ap (λ ys. flat_map f ys ++ end) (drop_all i xs past)) filling

-- the rest of the text is written, after the bytes of the page
pub fill_written : {T E : Type 0} (old now new : Option (List ℕ)) (held rest all : List ℕ) (result : Result T E) → IsFilling old now held rest all → Puts now new (held ++ rest) result → Puts old new all result
fill_written old now new held rest all result f p =
    let g = f.gathered in
    let whole : g.prefix ++ (held ++ rest) ≡ all = sym (append_assoc g.prefix held rest) ∙ ap (λ (bs : List ℕ). bs ++ rest) (sym g.rest) ∙ f.left in
    subst (λ (bs : List ℕ). Puts old new bs result) whole (Puts-after old now new g.prefix (held ++ rest) result g.wrote p)

-- the last bytes are pushed and written, or a prefix of the text
pub ruleset finished = (Puts-after_Gathered, err_from_is_err_and)
