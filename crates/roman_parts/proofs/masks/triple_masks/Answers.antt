use Rattle.roman_parts.proofs.Common.{mul-add-lt, ◌≡◌, ◌*◌, length, replicate, refl, arith, take_at}
use Rattle.roman_parts.proofs.CellLemmas.{triples_none, triples_more}
use Rattle.roman_parts.proofs.masks.triple_masks.Goals as goal

pub loop-from-init : goal.loop-from-init
loop-from-init g c =
    let empty : c.in_ok-masks.masks.items ≡ replicate (c.args.states * c.args.actions) 0 = c.in_ok-masks.ensures.items_if_clones_equal (λ y same. same) in
    record {
      len = omega (arith, c.in_ok-masks.ensures.len);
      has = rw empty (triples_none _ c.args.actions (c.args.states * c.args.actions));
    }

pub mark-requires-clause-cell : goal.mark-requires-clause-cell
mark-requires-clause-cell g c =
    let step = c.requires.steps c.loop-from.from-index (0, 0, 0) (omega arith) in
    let row = (c.ends-at.ensures.below c.args.states step.0 step.2).0 in
    omega (arith, mul-add-lt c.ends-at.result.0 c.args.actions _ c.args.states row step.1)

pub loop-from-preserved : goal.loop-from-preserved
loop-from-preserved g c =
    let kept : length c.mark.new.masks ≡ c.loop-from.masks.len = omega arith in
    let step = c.requires.steps c.loop-from.from-index (0, 0, 0) (omega arith) in
    rw (take_at c.mark.new.masks _ _ kept)
    (record {
      len = omega arith;
      has = triples_more _ c.args.actions c.args.steps.now c.loop-from.from-index (0, 0, 0) _ c.loop-from.masks.items c.mark.new.masks (omega arith) refl step.1 c.loop-from.invariant.has
          (rw (← c.ends-at.ensures.ends, ← c.deref_mut.ensures.value) c.mark.ensures);
    })
