use Rattle.roman_parts.proofs.Common.{get_or, ap, length, arith, length-append, states_of, map_more}
use Rattle.roman_parts.proofs.SetLemmas.{length-states_of}
use Rattle.roman_parts.proofs.PieceLemmas.{laid_more}
use Rattle.roman_parts.proofs.state_lists.StateLists.of_masks.Goals as goal

pub overflow_cast-len : goal.overflow_cast-len
overflow_cast-len c = grind (arith, length-states_of, length-append)

pub loop-mask-preserved : goal.loop-mask-preserved
loop-mask-preserved c =
    let mask = get_or c.args.masks.now c.loop-mask.mask-index 0 in
    let few = length-states_of mask in
    let more = ap length c.in_ok-push_states.ensures in
    record {
      laid = rw (c.push_reserved-in-loop-mask.ensures.items, c.in_ok-push_states.ensures, map_more states_of c.args.masks.now c.loop-mask.mask-index 0 (omega arith))
          (laid_more c.loop-mask.bounds.items c.loop-mask.items.items _ _ c.len.result c.loop-mask.invariant.laid (omega arith));
      small = omega (arith, length-append c.loop-mask.items.items (states_of mask));
      long = grind (arith, c.loop-mask.invariant.long, c.push_reserved-in-loop-mask.ensures.items, length-append);
      room = omega (arith, c.loop-mask.invariant.room, c.push_reserved-in-loop-mask.ensures.capacity);
    }
