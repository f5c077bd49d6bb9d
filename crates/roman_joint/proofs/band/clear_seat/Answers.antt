use Rattle.roman_joint.proofs.band.clear_seat.Goals as goal

pub returns-then-k-rows : goal.returns-then-k-rows
returns-then-k-rows c = c.clear_before.ensures c.args.alive.now
