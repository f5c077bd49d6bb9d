-- Lists of batches.
use Rattle.roman_order.proofs.Common.{or_cases, or_right, slice_get, Some, ◌-◌, ◌≡◌, ℕ, suc, ◌+◌, ◌*◌, ◌<◌, ◌≤◌, true, List, [], ◌∷◌, ◌++◌, length, refl, ap, ◌∙◌, arith, eqb, append-nil, length-append, bit_or, append_assoc, sym, slice_get-get_or, get_or-append_seam, list_any-append, AllByRecursion, length-map, map-append, flat_map-append, Entry, is_on, as_entry, set_lanes, has_entry, IsBatch, entries_at, entries_of, TakesLanes, firsts_of, AreCounted, CanWait, Batch, on_or}
use Rattle.roman_order.proofs.Lanes.{set_lanes-joined}

-- ---- one more batch

pub all_push : {X : Type 0} (P : X → Type 0) (xs : List X) (x : X) → AllByRecursion P xs → P x → AllByRecursion P (xs ++ x ∷ [])
all_push P [] x all here = (here, tt)
all_push P (y ∷ ys) x all here = (all.0, all_push P ys x all.1 here)

pub length-entries_at : (lanes : ℕ) (e : Batch) → length (entries_at lanes e) ≡ length (set_lanes e.lanes)
length-entries_at lanes e = length-map (set_lanes e.lanes) (λ lane. as_entry (e.row * lanes + lane, e.reason))

pub entries_of-push : (lanes : ℕ) (es : List Batch) (e : Batch) → entries_of lanes (es ++ e ∷ []) ≡ entries_of lanes es ++ entries_at lanes e
entries_of-push lanes es e = flat_map-append (entries_at lanes) es (e ∷ []) ∙ ap (λ L. entries_of lanes es ++ L) (append-nil (entries_at lanes e))

-- there are at most as many batches as entries
pub few_batches : (lanes : ℕ) (es : List Batch) → AllByRecursion (IsBatch lanes) es → length es ≤ length (entries_of lanes es)
few_batches lanes [] some = omega arith
few_batches lanes (e ∷ es) some = omega (arith, some.0.some, length-append (entries_at lanes e) (entries_of lanes es), length-entries_at lanes e, few_batches lanes es some.1)

pub length-firsts_of : (n : ℕ) (es : List Batch) → length (firsts_of n es) ≡ length es
length-firsts_of n [] = refl
length-firsts_of n (e ∷ es) = ap suc (length-firsts_of (n + length (set_lanes e.lanes)) es)

firsts_of-push : (lanes n : ℕ) (es : List Batch) (e : Batch) → firsts_of n (es ++ e ∷ []) ≡ firsts_of n es ++ (n + length (entries_of lanes es)) ∷ []
firsts_of-push lanes n [] e = let same : n ≡ n + 0 = omega arith in ap (λ m. m ∷ []) same
firsts_of-push lanes n (x ∷ es) e = grind (arith, length-append, length-entries_at, (firsts_of-push lanes (n + length (set_lanes x.lanes)) es e))

pub AreCounted-push : (lanes count : ℕ) (firsts : List ℕ) (es : List Batch) (e : Batch) → AreCounted lanes count firsts es → IsBatch lanes e →
    AreCounted lanes (count + length (set_lanes e.lanes)) (firsts ++ count ∷ []) (es ++ e ∷ [])
AreCounted-push lanes count firsts es e are some = grind (arith, (all_push (IsBatch lanes) es e are.each some), (entries_of-push lanes es e), (firsts_of-push lanes 0 es e), (length-entries_at lanes e), length-append)

-- ---- a batch with more lanes

-- the batch, with the lanes of another one added
abbrev pub extended : Batch → Batch → Batch
extended e d = record e { lanes = bit_or e.lanes d.lanes }

extended_lanes : (e d : Batch) → TakesLanes e d → set_lanes (bit_or e.lanes d.lanes) ≡ set_lanes e.lanes ++ set_lanes d.lanes
extended_lanes e d takes = set_lanes-joined _ _ _ (λ i l. on_or e.lanes d.lanes i) takes.lower

-- the last of the batches, as it is read
pub last_is : (es : List Batch) (e d : Batch) → Some d ≡ slice_get (es ++ e ∷ []) (length (es ++ e ∷ []) - 1) → d ≡ e
last_is es e d read = grind (arith, length-append, (slice_get-get_or (es ++ e ∷ []) (length es) e), (get_or-append_seam es e [] e))

-- the entries of an extended batch are its own, followed by those of the other batch
pub entries_of-extended : (lanes : ℕ) (es : List Batch) (e d : Batch) → TakesLanes e d → entries_of lanes (es ++ extended e d ∷ []) ≡ entries_of lanes (es ++ e ∷ []) ++ entries_at lanes d
entries_of-extended lanes es e d takes = rw (← takes.row, ← takes.why, entries_of-push, entries_of-push, extended_lanes e d takes) (grind (arith, append_assoc, map-append))

-- a property of all elements still holds after the last one is replaced
all_last : {X : Type 0} (P : X → Type 0) (xs : List X) (x y : X) → AllByRecursion P (xs ++ x ∷ []) → (P x → P y) → AllByRecursion P (xs ++ y ∷ [])
all_last P [] x y all f = (f all.0, tt)
all_last P (z ∷ xs) x y all f = (all.0, all_last P xs x y all.1 f)

pub AreCounted-extended : (lanes count : ℕ) (firsts : List ℕ) (es : List Batch) (e d : Batch) → AreCounted lanes count firsts (es ++ e ∷ []) → IsBatch lanes d → TakesLanes e d →
    AreCounted lanes (count + length (set_lanes d.lanes)) firsts (es ++ extended e d ∷ [])
AreCounted-extended lanes count firsts es e d are is takes = record {
  each = all_last (IsBatch lanes) es e (extended e d) are.each (λ was. record {
    some = omega (arith, ap length (extended_lanes e d takes), length-append (set_lanes e.lanes) (set_lanes d.lanes), was.some);
    within = λ lane t. grind (arith, or_cases, on_or, was.within, is.within);
  });
  count = grind (arith, are.count, (entries_of-extended lanes es e d takes), length-append, length-map);
  firsts = are.firsts ∙ firsts_of-push lanes 0 es e ∙ sym (firsts_of-push lanes 0 es (extended e d));
}

pub AreCounted-nil : (lanes : ℕ) → AreCounted lanes 0 [] []
AreCounted-nil lanes = record { each = tt; count = refl; firsts = refl }

-- ---- the first waiting batch

pub CanWait-nil : (lanes : ℕ) → CanWait lanes []
CanWait-nil lanes = record { each = tt; in_range = λ p h. cc }

-- a batch with only the lanes that are left
abbrev pub later : Batch → ℕ → Batch
later e left = record { row = e.row; reason = e.reason; lanes = left }

-- a batch without some of its lanes
pub fewer : (lanes : ℕ) (e : Batch) (left : ℕ) → IsBatch lanes e → 0 < length (set_lanes left) → ((lane : ℕ) → is_on left lane ≡ true → is_on e.lanes lane ≡ true) → IsBatch lanes (later e left)
fewer lanes e left is some on = record { some = some; within = λ lane t. is.within lane (on lane t) }

-- the batches without the first one can wait
pub rest_waits : (lanes : ℕ) (e : Batch) (rest : List Batch) → CanWait lanes (e ∷ rest) → CanWait lanes rest
rest_waits lanes e rest can = record {
  each = can.each.1;
  in_range = λ p h. can.in_range p (list_any-append (λ (x : Entry ℕ). eqb p x.node) (entries_at lanes e) (entries_of lanes rest) ∙ or_right (has_entry (entries_at lanes e) p) _ h);
}
