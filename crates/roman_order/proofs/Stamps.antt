-- Places and stamps.
use Rattle.roman_order.proofs.Common.{filter_below_more, list_any-map, none_from, filter_in, from_below, ◌≡◌, ℕ, zero, suc, ◌+◌, ◌-◌, ◌*◌, ◌^◌, ◌<◌, ◌≤◌, Bool, true, false, cond, ◌&&◌, filter, List, [], ◌∷◌, ◌++◌, map, length, get_or, Some, None, refl, sym, ap, ◌∙◌, inl, inr, arith, eqb, append_assoc, list_any, position_from, IsDistinct, AllByRecursion, set, same_from_place, cases_eq, eq-eqb, ne_eqb, or_parts, length-map, length-set, get_or-set_same, get_or-set_other, map-append, IsDistinct-head, IsDistinct-tail, Entry, Reason, as_entry, set_lanes, nodes_of, has_entry, below, is_on, IsBatch, entries_at, AreStamps, with_stamps, Batch, unwrap_or}
use Rattle.roman_order.proofs.Lanes.{has_entry-lane, has_entry-elsewhere}

-- ---- places

-- the search goes past elements that don't pass
pub position_from-past : {X : Type 0} (test : X → Bool) (i : ℕ) (xs ys : List X) → list_any test xs ≡ false → position_from test i (xs ++ ys) ≡ position_from test (i + length xs) ys
position_from-past test i [] ys none = let same : i ≡ i + 0 = omega arith in ap (λ j. position_from test j ys) same
position_from-past test i (x ∷ xs) ys none = grind (arith, or_parts, (position_from-past test (i + 1) xs ys))

-- a place among the pairs of a list is one among its entries
position_from-nodes : (p i : ℕ) (L : List (Entry ℕ)) → position_from (eqb p) i (nodes_of L) ≡ position_from (λ x. eqb p x.node) i L
position_from-nodes p i [] = refl
position_from-nodes p i (x ∷ L) = ap (cond (eqb p x.node) (Some i)) (position_from-nodes p (i + 1) L)

-- ---- stamps

pub length-with_stamps : (i : ℕ) (ps stamps : List ℕ) → length (with_stamps i ps stamps) ≡ length stamps
length-with_stamps i [] stamps = refl
length-with_stamps i (p ∷ ps) stamps = length-with_stamps (i + 1) ps (set stamps p i) ∙ length-set stamps p i

-- the stamps of the pairs at some lanes of a row are written before the others
pub with_stamps-lanes : (first : ℕ) (reason : Reason) (i : ℕ) (ls : List ℕ) (L : List (Entry ℕ)) (stamps : List ℕ) →
    with_stamps i (nodes_of (map (λ lane. as_entry (first + lane, reason)) ls ++ L)) stamps ≡ with_stamps (i + length ls) (nodes_of L) (with_stamps i (map (λ lane. first + lane) ls) stamps)
with_stamps-lanes first reason i [] L stamps = let same : i ≡ i + 0 = omega arith in ap (λ j. with_stamps j (nodes_of L) stamps) same
with_stamps-lanes first reason i (l ∷ ls) L stamps = grind (arith, (with_stamps-lanes first reason (i + 1) ls L (set stamps (first + l) i)))

-- a number that isn't an element has no place
no_place : (p i : ℕ) (ps : List ℕ) → AllByRecursion (λ q. eqb p q ≡ false) ps → position_from (eqb p) i ps ≡ None
no_place p i [] off = refl
no_place p i (q ∷ ps) off = rw (off.0, no_place p (i + 1) ps off.1) refl

-- the stamp of a number is its place, or what it was before
stamp_at : (i p : ℕ) (ps stamps : List ℕ) → IsDistinct eqb ps → p < length stamps → get_or (with_stamps i ps stamps) p 0 ≡ unwrap_or (position_from (eqb p) i ps) (get_or stamps p 0)
stamp_at i p [] stamps apart low = refl
stamp_at i p (q ∷ ps) stamps apart low =
    let rest = stamp_at (i + 1) p ps (set stamps q i) (IsDistinct-tail eqb q ps apart) (rw (length-set stamps q i) low) in
    let none = no_place q (i + 1) ps (IsDistinct-head eqb q ps apart) in
    elim (cases_eq p q) [ inl e ↦ grind (arith, eq-eqb, get_or-set_same) | inr ne ↦ grind (arith, ne_eqb, get_or-set_other) ]

-- written over a blank table, the places of the entries are their stamps
pub stamps_of : (L : List (Entry ℕ)) (stamps : List ℕ) → IsDistinct eqb (nodes_of L) → ((p : ℕ) → p < length stamps → get_or stamps p 0 ≡ 2 ^ 32 - 1) → AreStamps L (with_stamps 0 (nodes_of L) stamps)
stamps_of L stamps apart blank p low = grind (arith, stamp_at, position_from-nodes, length-with_stamps)

-- ---- the place of a pair in a batch

-- the pairs that a batch lists
pub has_entry-batch : (lanes : ℕ) (e : Batch) (x lane : ℕ) → lanes ≤ 64 → lane < lanes → IsBatch lanes e → has_entry (entries_at lanes e) (x * lanes + lane) ≡ (eqb e.row x && is_on e.lanes lane)
has_entry-batch lanes e x lane few low is = elim (cases_eq e.row x) [
  | inl s ↦
      ap (λ r. has_entry (entries_at lanes e) (r * lanes + lane)) (sym s)
      ∙ (has_entry-lane [] (e.row * lanes) e.lanes lane e.reason (omega arith) ∙ ap (λ b. b && is_on e.lanes lane) (sym (eq-eqb e.row x s)))
  | inr ne ↦
      has_entry-elsewhere [] (e.row * lanes) e.lanes (x * lanes + lane) e.reason (λ l near t same. ne (sym (same_from_place x lane e.row l lanes low (is.within l t) same).0))
      ∙ ap (λ b. b && is_on e.lanes lane) (sym (ne_eqb e.row x ne))
]

-- the entries for the lanes below a lane don't name the pair of that lane
none_at : (lanes : ℕ) (e : Batch) (lane : ℕ) → list_any (λ (y : Entry ℕ). eqb (e.row * lanes + lane) y.node) (map (λ l. as_entry (e.row * lanes + l, e.reason)) (filter (is_on e.lanes) (below lane))) ≡ false
none_at lanes e lane =
    let test = λ (l : ℕ). eqb (e.row * lanes + lane) (e.row * lanes + l) in
    let before = filter (is_on e.lanes) (below lane) in
    list_any-map (λ l. as_entry (e.row * lanes + l, e.reason)) (λ y. eqb (e.row * lanes + lane) y.node) before
    ∙ none_from test before (λ l j. ne_eqb _ _ (λ s. omega (arith, s, from_below lane l (filter_in (is_on e.lanes) l (below lane) j).0)))

-- among the entries for the lanes below m, the search for the pair of a lane passes over those for the lanes below it
place_below : (lanes : ℕ) (e : Batch) (lane i m : ℕ) (L : List (Entry ℕ)) → lane < m → is_on e.lanes lane ≡ true →
    position_from (λ (y : Entry ℕ). eqb (e.row * lanes + lane) y.node) i (map (λ l. as_entry (e.row * lanes + l, e.reason)) (filter (is_on e.lanes) (below m)) ++ L) ≡ Some (i + length (filter (is_on e.lanes) (below lane)))
place_below lanes e lane i zero L low on = absurd (omega arith)
place_below lanes e lane i (suc m) L low on =
    let last : List (Entry ℕ) = map (λ l. as_entry (e.row * lanes + l, e.reason)) (cond (is_on e.lanes m) (m ∷ []) []) in
    grind (arith, cases_eq, append_assoc, eq-eqb, filter_below_more, length-map, map-append, position_from-past, none_at, (place_below lanes e lane i m (last ++ L)))

-- the search for the pair of a lane of a batch returns the number of lanes before it
pub place_in_batch : (lanes : ℕ) (e : Batch) (lane i : ℕ) (L : List (Entry ℕ)) → lane < 64 → is_on e.lanes lane ≡ true →
    position_from (λ (y : Entry ℕ). eqb (e.row * lanes + lane) y.node) i (entries_at lanes e ++ L) ≡ Some (i + length (filter (is_on e.lanes) (below lane)))
unfolding set_lanes
place_in_batch lanes e lane i L low on = place_below lanes e lane i 64 L low on
