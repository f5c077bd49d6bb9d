use Rattle.roman_parts.proofs.Common.{length, arith, refl}
use Rattle.roman_parts.proofs.TableLemmas.{laid_triples}
use Rattle.roman_parts.proofs.environment.Environment.from_lists.Goals as goal

pub invariant_of-result : goal.invariant_of-result
invariant_of-result c =
    let laid = laid_triples (length c.args.states) (length c.args.actions) c.args.start c.args.steps.now c.in_ok-triple_masks.field-0.items c.in_ok-triple_masks-2.field-0.items
    c.requires.states c.requires.actions c.requires.start c.requires.steps
    (rw (← c.len-height.ensures.len, ← c.len-width.ensures.len) (omega (arith, c.in_ok-triple_masks.ensures.len))) (rw (← c.len-height.ensures.len, ← c.len-width.ensures.len) (omega (arith, c.in_ok-triple_masks-2.ensures.len)))
    (rw (← c.len-width.ensures.len) c.in_ok-triple_masks.ensures.has) (rw (← c.len-width.ensures.len) c.in_ok-triple_masks-2.ensures.has) in
    rw (
      c.in_ok-next.ensures.lists,
      c.deref.ensures.value,
      c.in_ok-prev.ensures.lists,
      c.deref-2.ensures.value,
      laid.env,
    )
    laid.lists

pub returns : goal.returns
returns c =
    let laid = laid_triples (length c.args.states) (length c.args.actions) c.args.start c.args.steps.now c.in_ok-triple_masks.field-0.items c.in_ok-triple_masks-2.field-0.items
    c.requires.states c.requires.actions c.requires.start c.requires.steps
    (rw (← c.len-height.ensures.len, ← c.len-width.ensures.len) (omega (arith, c.in_ok-triple_masks.ensures.len))) (rw (← c.len-height.ensures.len, ← c.len-width.ensures.len) (omega (arith, c.in_ok-triple_masks-2.ensures.len)))
    (rw (← c.len-width.ensures.len) c.in_ok-triple_masks.ensures.has) (rw (← c.len-width.ensures.len) c.in_ok-triple_masks-2.ensures.has) in
    rw (c.in_ok-next.ensures.lists, c.deref.ensures.value, laid.env) refl
