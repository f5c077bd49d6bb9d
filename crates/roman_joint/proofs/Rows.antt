-- The numbers of pairs, and the sizes of seats.
use Rattle.roman_joint.proofs.Common.{IsNamedSys, NamedSys, still, system_of, IsWalk, goal_of, arith, false, length, slice_index, slice_set, subst, ℕ, ◌-◌, ◌<◌, ◌∙◌, ◌≡◌, ◌≤◌, MAX_CELLS, Seat, Sys, Walk, below, count, number, sizes_of, slice_get-get_or, mul-le-mul_left, numbers_are_pairs, states_set, size_at}

-- a joint has few enough pairs
pub count_fits : (n : NamedSys) → IsNamedSys n → count (sizes_of (system_of n)) ≤ MAX_CELLS
count_fits n known = grind (arith, mul-le-mul_left)

-- the pair from which the walk takes a state of the current seat is in range
pub walk_below : (s : Sys) (w : Walk) (b : ℕ) → IsWalk s w → w.seat < length s.seats → b < slice_index (sizes_of s).seats w.seat →
    number (sizes_of s) (record { t = w.target; e = w.env; bs = slice_set (goal_of s w).bs w.seat b }) < count (sizes_of s)
walk_below s w b ok within state =
    let none : Seat = record { beh = still; frozen = false; rests = false } in
    let seated = slice_get-get_or s.seats w.seat none within in
    let states = ((numbers_are_pairs s).pair w.pair ok.pair).bs in
    (numbers_are_pairs s).below _ (record { t = ok.target; e = ok.env; bs = states_set s.seats (goal_of s w).bs w.seat b _ states seated (subst (λ m. b < m) (size_at s.seats w.seat _ seated) state) })
