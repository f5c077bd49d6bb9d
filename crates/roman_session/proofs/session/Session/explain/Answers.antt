use Rattle.roman_session.proofs.Common.{◌≡◌, ℕ, List, sym, ap, ◌∙◌, subst, arith, err_from_is_err_and, sizes_of, pair_at, Puts, names_in, Situation, present_system, situation_in, explain_text, Gathers-flushed, gathers_failed, Gathers-put}
use Rattle.roman_session.proofs.ChangedLemmas.{explained}
use Rattle.roman_session.proofs.SituationLemmas.{parts_shown, unrelated_there}
use Rattle.roman_session.proofs.session.Session.explain.Goals as goal

pub write_slice-requires-clause-unrelated : goal.write_slice-requires-clause-unrelated
write_slice-requires-clause-unrelated g c =
    let s = c.args.self.now in
    let a = c.self.inside in
    unrelated_there s a.relation.joint c.here-here.result (parts_shown a s c.self.view_is) c.here-here.ensures.pair c.requires

pub returns-in_err-flush-clause-gathers : goal.returns-in_err-flush-clause-gathers
returns-in_err-flush-clause-gathers g c = grind (arith, gathers_failed, err_from_is_err_and)

pub returns-clause-gathers : goal.returns-clause-gathers
returns-clause-gathers g c =
    let s = c.args.self.now in
    let a = c.self.inside in
    let t = situation_in a in
    let at = subst (λ (s : Situation). pair_at (sizes_of (present_system s)) c.here-here.result ≡ s.here) (sym c.self.view_is) c.here-here.ensures.pair in
    let same =
    ap (explain_text (present_system t) (names_in t.parts) t.list) at
    ∙ ap (λ (s : Situation). explain_text (present_system s) (names_in s.parts) s.list s.here) c.self.view_is in
    let put = subst (λ (text : List ℕ). Puts (g.O.Sink.written c.flush.new.out) (g.O.Sink.written c.write_slice.new.out) text c.write_slice.result) same c.write_slice.ensures.text in
    Gathers-flushed _ _ _ c.args.page.now c.flush.new.self _ _ c.in_ok-flush.ensures.puts (Gathers-put _ _ _ _ _ c.flush.ensures.empty put)

pub invariant_of-self : goal.invariant_of-self
invariant_of-self g c = explained c.self.inside c.write_slice.new.relation c.self.invariant c.write_slice.ensures.rest c.write_slice.ensures.relation
