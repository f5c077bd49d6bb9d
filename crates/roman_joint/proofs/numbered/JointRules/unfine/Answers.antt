use Rattle.roman_joint.proofs.Common.{◌≡◌, sym, arith, on_zero, system_of}
use Rattle.roman_joint.proofs.GoodLemmas.{full_on, full_off}
use Rattle.roman_joint.proofs.RestLemmas.{fine_row}
use Rattle.roman_joint.proofs.numbered.JointRules.unfine.Goals as goal

pub returns-then-not-is_final : goal.returns-then-not-is_final
returns-then-not-is_final c x ok = record { each = λ lane l. let fine = fine_row _ _ _ _ c.layout-rows.ensures.rows.ok ok l in grind (arith, on_zero); rest = λ lane l. on_zero lane }

pub returns-then-not-front_rests : goal.returns-then-not-front_rests
returns-then-not-front_rests c x ok = record { each = λ lane l. let fine = fine_row _ _ _ _ c.layout-rows.ensures.rows.ok ok l in grind (arith, full_on); rest = λ lane l. grind (arith, full_off) }

pub returns : goal.returns
returns c x ok = record {
  each = λ lane l. let fine = rw (sym (c.resting.ensures lane l)) at (fine_row (system_of c.args.self.now) c.args.row.now x lane c.layout-rows.ensures.rows.ok ok l) in grind (arith, full_on);
  rest = λ lane l. grind (arith, full_off);
}
