use Rattle.roman_cert.proofs.Common.{Act, Gathers-second, gathers_failed_first, List, [], ap, append-nil, ℕ, ◌∙◌, ◌≡◌, Reason, answers, answers_text, entry_text, lost_text, as_entry, err_from_is_err_and}
use Rattle.roman_cert.proofs.AnswerTexts.{no_answers}
use Rattle.roman_cert.proofs.SliceTexts.{entry_pair, entry_reason}
use Rattle.roman_cert.proofs.slice.push_entry.Goals as goal

pub push_lost-requires : goal.push_lost-requires
push_lost-requires g c =
    let entry = as_entry (c.args.entry.pair, c.args.entry.reason) in (
      entry_pair c.args.joint.now c.args.order.now c.args.entry.place entry c.requires.order.0 c.known-2.ensures.in_range c.requires.entry,
      entry_reason c.args.joint.now c.args.order.now.list c.args.entry.place entry c.known.ensures c.requires.order.1 c.requires.entry,
    )

pub returns-in_err-push_lost-clause-gathers : goal.returns-in_err-push_lost-clause-gathers
unfolding entry_text
returns-in_err-push_lost-clause-gathers g c =
    let n = c.args.joint.now in
    let x = as_entry (c.args.entry.pair, c.args.entry.reason) in
    let p = err_from_is_err_and c.from_residual.result c.from_residual.ensures.1 in
    rw p.1 (gathers_failed_first _ _ c.args.page.now _ (lost_text n x) (answers_text n c.args.order.now.list x) c.in_err-push_lost.ensures.gathers.0 c.in_err-push_lost.ensures.gathers.1)

pub returns-in-Final-clause-gathers : goal.returns-in-Final-clause-gathers
unfolding entry_text
returns-in-Final-clause-gathers g c =
    let n = c.args.joint.now in
    let L = c.args.order.now.list in
    let none : answers_text n L (as_entry (c.args.entry.pair, c.args.entry.reason)) ≡ [] = ap (λ r. answers_text n L (as_entry (c.args.entry.pair, r))) c.in-Final.is ∙ no_answers n L c.args.entry.pair in
    rw (none, append-nil (lost_text n (as_entry (c.args.entry.pair, c.args.entry.reason)))) c.in_ok-push_lost.ensures.gathers

pub returns-in-Act-clause-gathers : goal.returns-in-Act-clause-gathers
unfolding entry_text
returns-in-Act-clause-gathers g c =
    let n = c.args.joint.now in
    let answers : Reason → List ℕ = λ r. answers_text n c.args.order.now.list (as_entry (c.args.entry.pair, r)) in
    let lines = lost_text n (as_entry (c.args.entry.pair, c.args.entry.reason)) in
    rw (ap answers c.in-Act.is) (Gathers-second _ _ _ c.args.page.now _ _ lines (answers (Act c.in-Act.a)) _ c.in_ok-push_lost.ensures.gathers c.push_answers.ensures.gathers)
