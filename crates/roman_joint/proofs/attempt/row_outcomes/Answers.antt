use Rattle.roman_joint.proofs.Common.{◌*◌, ◌^◌, ◌<◌, ◌≤◌, slice_index, ap, refl, sym, ◌∙◌, arith, system_of}
use Rattle.roman_joint.proofs.Finds.{none_there}
use Rattle.roman_joint.proofs.SeatLemmas.{len_empty}
use Rattle.roman_joint.proofs.GoodLemmas.{known, rows_there, taken_before}
use Rattle.roman_joint.proofs.attempt.row_outcomes.Goals as goal
use Rattle.roman_joint.proofs.attempt.row_outcomes.Goals.{After-from}

-- the share of the seat's state in the number of the attempt's first row, which has 32 bits
taken : (c : After-from) → (c.from.result * slice_index c.layout-rows.result.now.strides c.args.k ≤ c.args.attempt.now.to.base) × (c.args.attempt.now.to.base < 2 ^ 32)
taken c =
    let s = system_of c.args.joint.now in
    let r = c.layout-rows.result.now in
    let (x, is) = c.requires.attempt in
    let h = known c.args.joint.now x c.args.attempt.now.row.now c.layout-rows.ensures.known is.row in
    let there = rows_there s r x c.args.attempt.now.action _ c.args.attempt.now.row.now c.args.attempt.now.to h c.layout-rows.ensures.rows is.to is.room in
    (rw c.from.ensures (taken_before s r x c.args.attempt.now.action c.args.k c.args.attempt.now.row.now c.args.attempt.now.to h c.layout-rows.ensures.rows is.to c.requires.seat), omega (arith, there.inside, there.few))

pub overflow_mul-result : goal.overflow_mul-result
overflow_mul-result c = omega (arith, taken (goal.at.overflow_mul-result c).After-from)

pub overflow_sub-result : goal.overflow_sub-result
overflow_sub-result c = (taken (goal.at.overflow_sub-result c).After-from).0

pub returns-then-is_empty : goal.returns-then-is_empty
returns-then-is_empty c = sym c.next_states-states.ensures.next ∙ none_there _ _ c.is_empty.ensures c.if-is_empty.true

pub returns : goal.returns
returns c = record {
  base = omega (arith, (taken (goal.at.returns c).After-from).0, ap (λ b. b * slice_index c.layout-rows.result.now.strides c.args.k) c.from.ensures);
  stride = c.layout-rows.ensures.rows.before c.args.k c.requires.seat;
  env_stride = c.layout-rows.ensures.rows.env;
  worlds = refl;
  states = c.next_states-states.ensures.next;
  some = sym (len_empty c.next_states-states.result.now) ∙ (sym c.is_empty.ensures ∙ c.if-is_empty.false);
}
