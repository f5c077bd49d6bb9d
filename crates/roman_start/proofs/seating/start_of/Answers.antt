use Rattle.roman_start.proofs.Common.{ℕ, sym, ap, ap₂, ◌∙◌, subst, Pair, Sizes, sizes_of, IsPairOf, IsPairOf-from, system_of}
use Rattle.roman_start.proofs.seating.start_of.Goals as goal

pub number-requires : goal.number-requires
number-requires c =
    let n = c.args.joint.now in
    let bs = c.args.states.now in
    let t = c.start-target.ensures.start ∙ ap (λ x. x.beh.start) c.target.ensures in
    let e = c.start-env.ensures.start ∙ ap (λ x. x.env.start) c.environment.ensures in
    subst (λ (m : Sizes). IsPairOf m (record { t = c.start-target.result; e = c.start-env.result; bs = bs })) (sym c.shape.ensures)
    (subst (λ (p : Pair). IsPairOf (sizes_of (system_of n)) p) (ap₂ (λ (t e : ℕ). record { t = t; e = e; bs = bs }) (sym t) (sym e)) (IsPairOf-from _ _ c.requires))
