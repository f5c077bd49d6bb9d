use Rattle.roman_joint.proofs.Common.{list_any_more, ◌≡◌, ℕ, ◌+◌, ◌<◌, ◌==◌, ◌&&◌, ◌||◌, eqb, List, length, get_or, slice_index, ap, ◌∙◌, arith, set, bit_or, cases_eq, nat_tests, get_or-set_same, get_or-set_other, length-set, is_on, on_or}
use Rattle.roman_joint.proofs.shifts.add_shifts.Goals as goal

-- the lanes are added to one more shift
put : (lanes : List ℕ) (p here j lane : ℕ) → p < length lanes → is_on (slice_index (set lanes p (bit_or (get_or lanes p 0) here)) j) lane ≡ (is_on (slice_index lanes j) lane || (is_on here lane && eqb p j))
put lanes p here j lane room = grind (arith, cases_eq, get_or-set_other, get_or-set_same, nat_tests, on_or)

pub loop-b-preserved : goal.loop-b-preserved
loop-b-preserved c =
    let states = c.args.states.now in
    let i = c.loop-b.b-index in
    let p : ℕ = get_or states i 0 + c.args.up in
    let room : p < length c.loop-b.lanes = omega (arith, c.requires i 0, c.loop-b.invariant.long) in
    record {
      long = length-set c.loop-b.lanes p (bit_or (get_or c.loop-b.lanes p 0) c.args.here) ∙ c.loop-b.invariant.long;
      shifts = λ j lane.
          let test = λ (b : ℕ). b + c.args.up == j in
          put c.loop-b.lanes p c.args.here j lane room ∙ (ap (λ t. t || (is_on c.args.here lane && eqb p j)) (c.loop-b.invariant.shifts j lane)
          ∙ grind (arith, list_any_more test states i 0 (omega arith)));
    }
