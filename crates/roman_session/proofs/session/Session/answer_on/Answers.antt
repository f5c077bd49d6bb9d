use Rattle.roman_session.proofs.Common.{arith, err_from_is_err_and, reply_text}
use Rattle.roman_text.specs.declared.replies.Reply.TheVariants as reply
use Rattle.roman_session.proofs.AnswerLemmas.{step_by_shape, step_unshaped}
use Rattle.roman_session.proofs.session.Session.answer_on.Goals as goal

pub returns-in_err-push_reply-in-Err-clause-step : goal.returns-in_err-push_reply-in-Err-clause-step
returns-in_err-push_reply-in-Err-clause-step g c =
    let p = err_from_is_err_and c.from_residual.result c.from_residual.ensures.1 in
    rw p.1 (record {
      text = reply_text reply.ErrorLine;
      step = step_unshaped c.args.self.now c.args.line.now c.in-Err.field-0 c.in-Err.ensures.shape;
      gathers = c.in_err-push_reply-in-Err.ensures.gathers;
    })

pub returns-in-Err-clause-step : goal.returns-in-Err-clause-step
returns-in-Err-clause-step g c = grind (arith, step_unshaped)

pub returns-in_err-answer_event-clause-step : goal.returns-in_err-answer_event-clause-step
returns-in_err-answer_event-clause-step g c = grind (arith, err_from_is_err_and, step_by_shape)

pub returns-clause-step : goal.returns-clause-step
returns-clause-step g c = grind (arith, step_by_shape)
