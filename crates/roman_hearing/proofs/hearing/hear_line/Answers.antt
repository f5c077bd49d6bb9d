use Rattle.roman_hearing.proofs.Common.{sym, ap, ◌∙◌, shape_of}
use Rattle.roman_hearing.proofs.HearingLemmas.{answered_on_alike}
use Rattle.roman_hearing.proofs.hearing.hear_line.Goals as goal

pub returns-clause-step : goal.returns-clause-step
returns-clause-step g c whole same =
    answered_on_alike c.args.session.now c.answer_on-answered.new.self whole c.args.line.now (g.O.Sink.written c.args.out.now) (g.O.Sink.written c.answer_on-answered.new.out) c.args.page.now c.answer_on-answered.new.page
    c.answer_on-answered.result (sym (c.keep_shapes.ensures.kept c.args.line.now) ∙ ap shape_of same ∙ c.keep_shapes.ensures.kept whole) c.answer_on-answered.ensures.step
