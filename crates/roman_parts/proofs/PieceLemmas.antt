-- Pieces between bounds: their number, their places, and the effect of one more bound.
use Rattle.roman_parts.proofs.Common.{◌≡◌, ℕ, zero, suc, ◌+◌, ◌<◌, ◌≤◌, List, [], ◌∷◌, ◌++◌, length, get_or, Some, slice_get, refl, sym, ap₂, arith, add-one, length-append, slice_range, cases_eq, take-append-le, drop_at, take_all, get_or_append_left, get_or_push, length_push, between_is, pieces, IsCut}

pub length-pieces : (bounds items : List ℕ) → 0 < length bounds → length (pieces bounds items) + 1 ≡ length bounds
length-pieces [] items some = omega arith
length-pieces (b ∷ []) items some = refl
length-pieces (b ∷ c ∷ bounds) items some = grind (arith, (length-pieces (c ∷ bounds) items (omega arith)))

piece_at : (bounds items : List ℕ) (k : ℕ) → suc k < length bounds →
    slice_get (pieces bounds items) k ≡ Some (slice_range items (get_or bounds k 0) (get_or bounds (suc k) 0))
piece_at [] items k within = let none : ⊥ = omega arith in absurd none
piece_at (b ∷ []) items k within = let none : ⊥ = omega arith in absurd none
piece_at (b ∷ c ∷ bounds) items zero within = refl
piece_at (b ∷ c ∷ bounds) items (suc k) within = piece_at (c ∷ bounds) items k (omega arith)

-- the piece at place k
pub slice_get-pieces : (bounds items : List ℕ) (k : ℕ) → k + 1 < length bounds →
    slice_get (pieces bounds items) k ≡ Some (slice_range items (get_or bounds k 0) (get_or bounds (k + 1) 0))
slice_get-pieces bounds items k within = rw add-one (piece_at bounds items k (omega arith))

pub ruleset piece_look_ups = (length-pieces, slice_get-pieces)

-- a piece within the items stays the same when more items follow
pub slice_range-append : {X : Type 0} (items more : List X) (from to : ℕ) → to ≤ length items → slice_range (items ++ more) from to ≡ slice_range items from to
slice_range-append items more from to within = grind (arith, between_is, take-append-le)

-- one more bound after the new items adds them as a piece
pieces-push : (bounds items more : List ℕ) (n : ℕ) → 0 < length bounds → ((k : ℕ) → k < length bounds → get_or bounds k 0 ≤ length items) →
    ((k : ℕ) → k + 1 ≡ length bounds → get_or bounds k 0 ≡ length items) → n ≡ length items + length more →
    pieces (bounds ++ n ∷ []) (items ++ more) ≡ pieces bounds items ++ more ∷ []
pieces-push [] items more n some within last end = let none : ⊥ = omega arith in absurd none
pieces-push (b ∷ []) items more n some within last end = grind (arith, (between_is (items ++ more) b n), (drop_at items more b (sym (last 0 refl))), (take_all n (items ++ more) (omega (arith, length-append items more))), length-append)
pieces-push (b ∷ c ∷ bounds) items more n some within last end =
    ap₂ (λ p ps. p ∷ ps) (slice_range-append items more b c (within 1 (omega arith)))
    (pieces-push (c ∷ bounds) items more n (omega arith) (λ k less. within (suc k) (omega arith)) (λ k e. last (suc k) (omega arith)) end)

-- the bounds so far end with the items so far, and cut them into the lists so far
pub record IsLaid (bounds items : List ℕ) (laid : List (List ℕ)) : Type 0 where
  pub cut : IsCut bounds items
  pub last : (k : ℕ) → k + 1 ≡ length bounds → get_or bounds k 0 ≡ length items
  pub lists : pieces bounds items ≡ laid

-- the lists with one more list
pub laid_more : (bounds items more : List ℕ) (lists : List (List ℕ)) (n : ℕ) → IsLaid bounds items lists → n ≡ length (items ++ more) →
    IsLaid (bounds ++ n ∷ []) (items ++ more) (lists ++ more ∷ [])
laid_more bounds items more lists n laid end = grind (arith, cases_eq, get_or_append_left, get_or_push, length_push, pieces-push, length-append)
