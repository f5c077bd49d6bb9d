use Rattle.roman_whatif.proofs.Common.{sym, ap, ◌∙◌, subst, Freeze, Die, failing_places, left_of, AreTold}
use Rattle.roman_whatif.proofs.losses.Losses.left.Goals as goal

pub returns-in-Freeze : goal.returns-in-Freeze
returns-in-Freeze c =
    λ parts losses may. c.entry.ensures parts c.args.self.now.pair Freeze (subst (AreTold parts c.args.self.now.pair Freeze) (sym c.deref.ensures.value) losses.frozen) may
    ∙ ap (λ way. left_of parts c.args.self.now.pair way (failing_places c.args.first c.args.second)) (sym c.in-Freeze.is)

pub returns-in-Die : goal.returns-in-Die
returns-in-Die c = λ parts losses may.
    c.entry-in-Die.ensures parts c.args.self.now.pair Die (subst (AreTold parts c.args.self.now.pair Die) (sym c.deref-in-Die.ensures.value) losses.gone) may
    ∙ ap (λ way. left_of parts c.args.self.now.pair way (failing_places c.args.first c.args.second)) (sym c.in-Die.is)
