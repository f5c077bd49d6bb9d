use Rattle.roman_check.proofs.Common.{◌≡◌, ◌+◌, ◌*◌, ◌<◌, length, refl, ◌∙◌, sym, ap, subst, arith, is_on, is_listed, is_justified, Removes, row_fits}
use Rattle.roman_check.proofs.AuditLemmas.{entry_taken}
use Rattle.roman_check.proofs.audit.Audit.take_known.Goals as goal

pub returns-clause-taken : goal.returns-clause-taken
returns-clause-taken g c t =
    let A = g.J.Rules.arena c.args.joint.now in
    let old = c.args.self.now in
    let (place, low) = c.in-Some.ensures in
    let is = c.requires.front in
    let lane : c.in-Some.lane < old.left.lanes = subst (λ n. c.in-Some.lane < n) is.lanes low in
    let at : c.args.front.row * old.left.lanes + c.in-Some.lane ≡ c.args.pair = omega (arith, place, is.first) in
    let rows : length old.left.words.items * old.left.lanes ≡ length A.nodes = ap (λ n. length old.left.words.items * n) c.requires.ready.0.in_rows ∙ c.requires.ready.0.room in
    let inside : c.args.pair < length A.nodes = omega (arith, row_fits c.args.front.row old.left.lanes (length old.left.words.items) old.left.lanes is.inside (omega arith)) in
    entry_taken A c.known.ensures.numbered _ _ _ _ c.requires.ready.1 c.requires.ready.0 refl inside (subst (λ p. Removes old.left c.remove.new.self p) at c.remove.ensures) (λ L has.
    let (known, left) = c.has_known.ensures (length A.nodes) c.args.pair (is_listed A L) at has.remain c.if-not-has_known.false in (
      sym left,
      ap (λ p. is_justified A (is_listed A L) p old.probe.reason) (sym at ∙ ap (λ r. r * old.left.lanes + c.in-Some.lane) is.row) ∙ has.known.each c.in-Some.lane lane (ap (λ w. is_on w c.in-Some.lane) (sym is.known) ∙ known),
      has.known,
    ))
