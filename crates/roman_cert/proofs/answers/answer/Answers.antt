use Rattle.roman_cert.proofs.Common.{◌<◌, take, subst, sym, ◌∙◌, rules, has_entry, as_entry, Act, Leaves}
use Rattle.roman_cert.proofs.Answering.{entry_node, entry_allowed, no_pair, answer_found, answer_within, unready_answer}
use Rattle.roman_cert.proofs.answers.answer.Goals as goal

pub returns-then-not-is_ready-clause-answer : goal.returns-then-not-is_ready-clause-answer
returns-then-not-is_ready-clause-answer g c =
    sym (unready_answer (g.J.Rules.arena c.args.joint.now) c.known.ensures.numbered c.args.order.now.list c.args.p c.args.a c.args.k (sym c.is_ready.ensures ∙ c.if-not-is_ready.true))

pub examine-requires-clause-pair : goal.examine-requires-clause-pair
examine-requires-clause-pair g c =
    subst (λ n. c.args.p < n) c.requires.order.0 (entry_node c.args.order.now c.args.i (as_entry (c.args.p, Act c.args.a)) c.known-2.ensures.in_range c.requires.entry)

pub examine-requires-clause-allowed : goal.examine-requires-clause-allowed
examine-requires-clause-allowed g c = entry_allowed (g.J.Rules.arena c.args.joint.now) c.args.order.now.list c.args.i c.args.p c.args.a c.requires.order.1 c.requires.entry

pub returns-in-Leaves-clause-answer : goal.returns-in-Leaves-clause-answer
returns-in-Leaves-clause-answer g c =
    let L = c.args.order.now.list in
    answer_found (g.J.Rules.arena c.args.joint.now) c.known.ensures.numbered (g.J.Rules.sizes c.args.joint.now) L c.args.i c.args.p c.args.a c.args.k (Leaves c.in-Leaves.env c.in-Leaves.state c.in-Leaves.pair)
    c.requires.order.1 c.requires.entry (c.in-Leaves.ensures.finding (has_entry (take c.args.i L)) (λ q b l h. search rules))

pub returns-in-Leaves-clause-within : goal.returns-in-Leaves-clause-within
returns-in-Leaves-clause-within g c =
    let A = g.J.Rules.arena c.args.joint.now in
    let L = c.args.order.now.list in
    answer_within A c.known.ensures.numbered L c.args.p c.args.a c.args.k c.in-Leaves.pair
    (subst (λ n. c.args.p < n) c.requires.order.0 (entry_node c.args.order.now c.args.i (as_entry (c.args.p, Act c.args.a)) c.known-2.ensures.in_range c.requires.entry))
    (answer_found A c.known.ensures.numbered (g.J.Rules.sizes c.args.joint.now) L c.args.i c.args.p c.args.a c.args.k (Leaves c.in-Leaves.env c.in-Leaves.state c.in-Leaves.pair)
    c.requires.order.1 c.requires.entry (c.in-Leaves.ensures.finding (has_entry (take c.args.i L)) (λ q b l h. search rules)))

pub returns-in-Good-clause-answer : goal.returns-in-Good-clause-answer
returns-in-Good-clause-answer g c =
    let L = c.args.order.now.list in
    sym (no_pair _ c.in-Good.is) ∙ answer_found _ c.known.ensures.numbered _ _ _ _ _ _ _
    c.requires.order.1 c.requires.entry (c.examine.ensures.finding (has_entry (take c.args.i L)) (λ q b l h. search rules))
