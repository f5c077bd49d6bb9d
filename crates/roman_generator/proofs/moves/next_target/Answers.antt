use Rattle.roman_generator.proofs.Common.{arith, refl, slice_get_within, system_of, states_long}
use Rattle.roman_generator.proofs.MoveLemmas.{ready_seat}
use Rattle.roman_generator.proofs.moves.next_target.Goals as goal

pub bounds-states-observation : goal.bounds-states-observation
bounds-states-observation c =
    let s = system_of c.args.joint.now in
    let (seat, seated, ready) = ready_seat _ c.requires.ready in
    let l = slice_get_within s.seats c.args.observation.seat seat seated in
    omega (arith, l, states_long s _ c.requires.pair)

pub target_after-requires-clause-before : goal.target_after-requires-clause-before
target_after-requires-clause-before c = (_, record { pair = c.requires.pair; target = refl; env = refl; state = refl; allowed = c.requires.allowed })

pub returns-clause-moves : goal.returns-clause-moves
returns-clause-moves c = c.target_after.ensures.moves _ (record { pair = c.requires.pair; target = refl; env = refl; state = refl; allowed = c.requires.allowed })

pub returns-clause-none : goal.returns-clause-none
returns-clause-none c = c.target_after.ensures.none _ (record { pair = c.requires.pair; target = refl; env = refl; state = refl; allowed = c.requires.allowed })
