use Rattle.roman_joint.proofs.Common.{◌≡◌, ◌/◌, ◌%◌, slice_index, ap₂, ◌∙◌, arith, mod_below, system_of}
use Rattle.roman_joint.proofs.BandLemmas.{OwnSeat, own_seat}
use Rattle.roman_joint.proofs.states.row_state.Goals as goal
use Rattle.roman_joint.proofs.states.row_state.Goals.{After-layout-rows}

own : (c : After-layout-rows) → OwnSeat (system_of c.args.joint.now) c.layout-rows.result.now c.args.k
own c = own_seat (system_of c.args.joint.now) _ _ c.layout-rows.ensures.rows c.requires

pub nonzero_div-state : goal.nonzero_div-state
nonzero_div-state c = (own (goal.at.nonzero_div-state c).After-layout-rows).stride_some

pub nonzero_rem-state : goal.nonzero_rem-state
nonzero_rem-state c = rw c.from.ensures (own (goal.at.nonzero_rem-state c).After-layout-rows).size_some

pub overflow_cast-result : goal.overflow_cast-result
overflow_cast-result c =
    let own = own (goal.at.overflow_cast-result c).After-layout-rows in
    omega (arith, own.byte, mod_below (c.args.x / slice_index c.layout-rows.result.now.strides c.args.k) c.from.result (rw c.from.ensures own.size_some), c.from.ensures)

pub returns : goal.returns
returns c = let own = own (goal.at.returns c).After-layout-rows in ap₂ (λ u z. c.args.x / u % z) own.stride (c.from.ensures ∙ own.size)
