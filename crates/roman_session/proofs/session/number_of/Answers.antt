use Rattle.roman_session.proofs.Common.{sym, subst, Pair, Sizes, system_of, IsPairOf, IsPairOf-from}
use Rattle.roman_session.proofs.session.number_of.Goals as goal

pub number-requires : goal.number-requires
number-requires c =
    let p : Pair = record { t = c.args.t; e = c.args.e; bs = c.args.states.now } in
    subst (λ (m : Sizes). IsPairOf m p) (sym c.shape.ensures) (IsPairOf-from (system_of c.args.joint.now) p c.requires)
