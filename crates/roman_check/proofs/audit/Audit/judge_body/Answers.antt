use Rattle.roman_check.proofs.Common.{◌∙◌, ap₂, sym, subst, arith, length, cond-true, same_numbers, Nothing, HasListed, end_line, entry_of, entry_with, entry_of-is, from_possible}
use Rattle.roman_check.proofs.AuditLemmas.{end_judged, ended_list, reason_given, judged_body, listed_rows}
use Rattle.roman_check.proofs.audit.Audit.judge_body.Goals as goal

pub take_entry-requires-clause-entry : goal.take_entry-requires-clause-entry
take_entry-requires-clause-entry g c =
    let A = g.J.Rules.arena c.args.joint.now in
    let read = ap₂ (λ p a. entry_of p a c.args.line.now) (sym c.pairs.ensures) (sym c.actions.ensures) ∙ sym c.in-Some.ensures in
    let (inside, given) = from_possible (length A.nodes) A.actions _ (entry_of-is (length A.nodes) A.actions c.args.line.now (entry_with (c.in-Some.pair, c.in-Some.reason)) read).0 in
    (inside, reason_given A c.in-Some.reason given)

pub returns-in-None-first_missing-clause-judged : goal.returns-in-None-first_missing-clause-judged
returns-in-None-first_missing-clause-judged g c =
    let A = g.J.Rules.arena c.args.joint.now in
    let is = sym c.is_end.ensures ∙ c.if-not-is_end.false in
    let new = record c.args.self.now { due = Nothing } in
    judged_body A c.args.self.now new c.args.line.now _ c.requires.ready.1 (λ L has. grind (arith, end_judged, listed_rows))
    (λ L has none. subst (λ M. HasListed A M new.left new.probe) (ended_list A c.known.ensures.numbered L c.args.line.now is) has)
    (sym (cond-true (same_numbers end_line c.args.line.now) Nothing c.args.self.now.due is))
