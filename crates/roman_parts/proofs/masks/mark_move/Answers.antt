use Rattle.roman_parts.proofs.Common.{sym, refl, arith}
use Rattle.roman_parts.proofs.CellLemmas.{marks_more, marks_same}
use Rattle.roman_parts.proofs.masks.mark_move.Goals as goal
use Rattle.roman_parts.proofs.masks.mark_move.Goals.{then-has, else-has}

pub loop-e-init : goal.loop-e-init
loop-e-init c = record {
  marked = λ b e a m less ha. absurd (omega arith);
  others = λ b e a m past he ha. refl;
}

pub loop-e-preserved : goal.loop-e-preserved
loop-e-preserved c = elim c.if-has.branch [
  | then-has w ↦
      rw w.masks-is
      (marks_more c.args.cells.env_states c.args.cells.actions c.loop-e.e c.args.at c.args.guard c.args.action c.args.n c.args.masks.now (omega arith) c.loop-e.masks w.mark.new.masks c.requires.action
      (sym w.if-has.ensures.has) c.loop-e.invariant (rw w.at.ensures.place at w.mark.ensures))
  | else-has w ↦
      rw w.masks-is
      (marks_same c.args.cells.env_states c.args.cells.actions c.loop-e.e c.args.at c.args.guard c.args.action c.args.n c.args.masks.now (omega arith) c.loop-e.masks (sym w.if-has.ensures.has) c.loop-e.invariant)
]

pub returns : goal.returns
returns c = record { has = λ b e a m he ha. c.loop-e.invariant.marked b e a m (omega arith) ha }
