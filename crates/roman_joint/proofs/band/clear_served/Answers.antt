use Rattle.roman_joint.proofs.Common.{sym, subst, arith, AllAlive, system_of, rest_is}
use Rattle.roman_joint.proofs.band.clear_served.Goals as goal

pub returns-in-Some-clause-left : goal.returns-in-Some-clause-left
returns-in-Some-clause-left c y gone ok rows =
    c.clear_seats.ensures.left y gone ok rows (subst (AllAlive (system_of c.args.joint.now) gone c.args.attempt.now.to) (sym (rest_is c.args.attempt.now.words.now c.in-Some.from)) (c.in-Some.ensures.alive gone rows))

pub returns-clause-left : goal.returns-clause-left
returns-clause-left c y gone ok rows = c.clear_seats-2.ensures.left y gone ok rows (c.alive_each.ensures.alive gone rows)
