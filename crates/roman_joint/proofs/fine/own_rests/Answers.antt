use Rattle.roman_joint.proofs.Common.{◌≡◌, ℕ, true, ◌||◌, ◌&&◌, Bool, ltb, add-one, slice_get, ap, ap₂, sym, ◌∙◌, arith, le-ltb, all_below, sizes_of, row_sizes, NamedSys, system_of, low_in, lane_state_of, may_rest, mid_in}
use Rattle.roman_joint.proofs.BandLemmas.{own_rows}
use Rattle.roman_joint.proofs.RestLemmas.{none_own, stopped}
use Rattle.roman_joint.proofs.fine.own_rests.Goals as goal
use Rattle.roman_joint.proofs.fine.own_rests.Goals.{After-may_rest}

-- the seat k may rest at its state in row i of a band
abbrev rests : NamedSys → ℕ → ℕ → Bool
rests n i k = let s = system_of n in ltb k (mid_in s) || may_rest (slice_get s.seats k) (lane_state_of (row_sizes (sizes_of s)) k i)

pub loop-k-init : goal.loop-k-init
loop-k-init c = let s = system_of c.args.joint.now in rw c.layout-rows.ensures.rows.mid (none_own (mid_in s) (λ k. may_rest (slice_get s.seats k) (lane_state_of (row_sizes (sizes_of s)) k c.args.i)))

pub may_rest-requires-clause-state : goal.may_rest-requires-clause-state
may_rest-requires-clause-state c =
    let laid = c.layout-rows.ensures.rows in
    rw c.row_state.ensures ((own_rows (system_of c.args.joint.now) _ c.loop-k.k laid (omega (arith, laid.mid, c.loop-k.auto.k)) (omega (arith, laid.low, c.loop-k-test.true))).below c.args.i)

-- the loop tests whether the seat may rest
tested : (c : After-may_rest) → rests c.args.joint.now c.args.i c.loop-k.k ≡ c.may_rest.result
tested c =
    let s = system_of c.args.joint.now in
    let k = c.loop-k.k in
    ap (λ t. t || may_rest (slice_get s.seats k) (lane_state_of (row_sizes (sizes_of s)) k c.args.i)) (le-ltb k (mid_in s) (omega (arith, c.layout-rows.ensures.rows.mid, c.loop-k.auto.k)))
    ∙ (ap (may_rest (slice_get s.seats k)) (sym c.row_state.ensures) ∙ sym c.may_rest.ensures)

pub returns-then-not-may_rest : goal.returns-then-not-may_rest
returns-then-not-may_rest c =
    stopped (rests c.args.joint.now c.args.i) c.loop-k.k (low_in (system_of c.args.joint.now)) (omega (arith, c.layout-rows.ensures.rows.low, c.loop-k-test.true)) (tested (goal.at.returns-then-not-may_rest c).After-may_rest ∙ c.if-not-may_rest.true)

pub loop-k-preserved : goal.loop-k-preserved
loop-k-preserved c = rw add-one (ap₂ (λ t u. t && u) c.loop-k.invariant (tested (goal.at.loop-k-preserved c).After-may_rest ∙ c.if-not-may_rest.false))

pub returns : goal.returns
returns c =
    let s = system_of c.args.joint.now in
    let end : c.loop-k.k ≡ low_in s = omega (arith, c.layout-rows.ensures.rows.low, c.loop-k-test.false, c.loop-k.auto.k-end (omega arith)) in
    sym c.loop-k.invariant ∙ ap (all_below (rests c.args.joint.now c.args.i)) end
