-- Entries that are added to a list.
use Rattle.roman_order.proofs.Common.{◌≡◌, ℕ, ◌+◌, ◌*◌, ◌<◌, false, List, [], ◌∷◌, ◌++◌, map, sym, ◌∙◌, subst, inl, inr, refl, arith, append_assoc, append-nil, Entry, IsIn, HasNoRepeats, Reason, as_entry, has_entry, IsPlaced, mul-add-lt}
use Rattle.roman_order.proofs.Places.{IsPlaced-push, has_entry-push_other}

-- the pair at a lane of a row is in range
pub pair_below : (rows lanes x lane : ℕ) → x < rows → lane < lanes → x * lanes + lane < rows * lanes
pair_below rows lanes x lane row in_row = omega (arith, mul-add-lt x lanes lane rows row in_row)

-- ---- entries for the lanes of a row

-- entries for distinct pairs that aren't listed can be added
pub IsPlaced-lanes : (n first : ℕ) (reason : Reason) (lanes : List ℕ) (L : List (Entry ℕ)) → HasNoRepeats lanes →
    ((lane : ℕ) → IsIn lane lanes → (first + lane < n) × (has_entry L (first + lane) ≡ false)) → IsPlaced n L →
    IsPlaced n (L ++ map (λ lane. as_entry (first + lane, reason)) lanes)
IsPlaced-lanes n first reason [] L once free placed = subst (IsPlaced n) (sym (append-nil L)) placed
IsPlaced-lanes n first reason (lane ∷ lanes) L once free placed =
    let x : Entry ℕ = as_entry (first + lane, reason) in
    let here = free lane (inl refl) in
    let other = λ (other : ℕ) (i : IsIn other lanes). has_entry-push_other L x (first + other) (λ e. let same : other ≡ lane = omega arith in once.0 (subst (λ l. IsIn l lanes) same i)) in
    subst (IsPlaced n) (append_assoc L (x ∷ []) (map (λ lane. as_entry (first + lane, reason)) lanes))
    (IsPlaced-lanes n first reason lanes (L ++ x ∷ []) once.1 (λ l i. ((free l (inr i)).0, other l i ∙ (free l (inr i)).1)) (IsPlaced-push n L x placed here.0 here.1))
