use Rattle.roman_check.proofs.Common.{true, false, refl, ◌∙◌, sym, ap, subst, is_justified, is_listed, Removes, entry_with}
use Rattle.roman_check.proofs.AuditLemmas.{fault_by, entry_takes, entry_taken}
use Rattle.roman_check.proofs.audit.Audit.take_entry.Goals as goal

pub returns-then-not-has : goal.returns-then-not-has
returns-then-not-has g c =
    entry_takes _ c.known.ensures.numbered _ _ _ _ _ c.requires.ready.1 refl c.requires.entry.0 c.requires.ready.0
    (λ L has. fault_by (g.J.Rules.arena c.args.joint.now) L (entry_with (c.args.pair, c.args.reason)) false _ (sym c.if-not-has.true ∙ c.has.ensures _ _ _ c.place-row.ensures.pair has.remain) refl) (λ L has none. (let h : ⊥ = cc in absurd h))

pub returns-then-not-holds : goal.returns-then-not-holds
returns-then-not-holds g c =
    let A = g.J.Rules.arena c.args.joint.now in
    entry_takes _ c.known.ensures.numbered _ _ _ _ _ c.requires.ready.1 refl c.requires.entry.0 c.requires.ready.0
    (λ L has. fault_by A L (entry_with (c.args.pair, c.args.reason)) true false (sym c.if-not-has.false ∙ c.has.ensures _ _ _ c.place-row.ensures.pair has.remain)
    (sym c.if-not-holds.true ∙ c.holds.ensures.justified (is_listed A L) has.remain.rows has.known ∙ ap (λ p. is_justified A (is_listed A L) p c.args.reason) c.place-row.ensures.pair)) (λ L has none. (let h : ⊥ = cc in absurd h))

pub returns : goal.returns
returns g c =
    let A = g.J.Rules.arena c.args.joint.now in
    entry_taken A c.known.ensures.numbered _ _ _ _ c.requires.ready.1 c.requires.ready.0 refl c.requires.entry.0 (subst (λ p. Removes c.args.self.now.left c.remove.new.self p) c.place-row.ensures.pair c.remove.ensures) (λ L has. (
      sym c.if-not-has.false ∙ c.has.ensures _ _ _ c.place-row.ensures.pair has.remain,
      ap (λ p. is_justified A (is_listed A L) p c.args.reason) (sym c.place-row.ensures.pair) ∙ sym (c.holds.ensures.justified (is_listed A L) has.remain.rows has.known) ∙ c.if-not-holds.false,
      c.holds.ensures.known (is_listed A L) has.remain.rows has.known,
    ))
