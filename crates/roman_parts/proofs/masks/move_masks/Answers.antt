use Rattle.roman_parts.proofs.Common.{◌≡◌, ◌*◌, ℕ, length, replicate, arith, take_at}
use Rattle.roman_parts.proofs.CellLemmas.{moves_none, moves_more}
use Rattle.roman_parts.proofs.masks.move_masks.Goals as goal

pub loop-from-init : goal.loop-from-init
loop-from-init g c =
    let size : ℕ = c.args.cells.states * c.args.cells.env_states * c.args.cells.actions in
    let empty : c.in_ok-masks.masks.items ≡ replicate size 0 = rw (← c.count.ensures.count) (c.in_ok-masks.ensures.items_if_clones_equal (λ y same. same)) in
    record {
      len = omega (arith, c.in_ok-masks.ensures.len);
      has = rw empty (moves_none _ _ _ size);
    }

pub loop-from-preserved : goal.loop-from-preserved
loop-from-preserved g c =
    let kept : length c.mark_move.new.masks ≡ c.loop-from.masks.len = omega arith in
    rw (take_at c.mark_move.new.masks _ _ kept)
    (record {
      len = omega arith;
      has = moves_more _ _ _ c.args.steps.now c.loop-from.from-index c.loop-from-item.result c.loop-from-item.result c.loop-from.masks.items c.mark_move.new.masks (omega arith) c.loop-from-item.is c.loop-from.invariant.has
          (rw (← c.ends-at.ensures.ends, ← c.deref_mut.ensures.value) c.mark_move.ensures);
    })
