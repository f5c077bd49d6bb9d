use Rattle.roman_parts.proofs.Common.{arith}
use Rattle.roman_parts.proofs.TableLemmas.{laid_moves}
use Rattle.roman_parts.proofs.automaton.Automaton.from_lists.Goals as goal

pub invariant_of-result : goal.invariant_of-result
invariant_of-result c =
    let laid = laid_moves c.args.cells c.args.start c.args.finals.now c.args.steps.now c.mask_of.result c.in_ok-move_masks.field-0.items c.in_ok-move_masks-2.field-0.items
    c.requires.env_states c.requires.actions c.requires.lists c.mask_of.ensures (omega (arith, c.in_ok-move_masks.ensures.len)) (omega (arith, c.in_ok-move_masks-2.ensures.len))
    c.in_ok-move_masks.ensures.has c.in_ok-move_masks-2.ensures.has in
    rw (c.in_ok-next.ensures.lists, c.deref.ensures.value, c.in_ok-prev.ensures.lists, c.deref-2.ensures.value, laid.automaton) laid.lists

pub returns : goal.returns
returns c =
    let laid = laid_moves c.args.cells c.args.start c.args.finals.now c.args.steps.now c.mask_of.result c.in_ok-move_masks.field-0.items c.in_ok-move_masks-2.field-0.items
    c.requires.env_states c.requires.actions c.requires.lists c.mask_of.ensures (omega (arith, c.in_ok-move_masks.ensures.len)) (omega (arith, c.in_ok-move_masks-2.ensures.len))
    c.in_ok-move_masks.ensures.has c.in_ok-move_masks-2.ensures.has in
    rw (c.in_ok-next.ensures.lists, c.deref.ensures.value) laid.automaton
