use Rattle.roman_top.proofs.Common.{arith, script_lines}
use Rattle.roman_top.proofs.MakeStageLemmas.{answered_more}
use Rattle.roman_top.proofs.make_text.play.Goals as goal

pub loop-i-preserved : goal.loop-i-preserved
loop-i-preserved g c =
    answered_more c.args.session.now c.loop-i.session c.answer.new.self script_lines c.args.from c.loop-i.i c.in-Some.line.now _ _ c.answer.result (omega arith) (omega arith) c.in-Some.ensures.line c.loop-i.invariant c.answer.ensures.step
