use Rattle.roman_whatif.proofs.Common.{◌≡◌, ℕ, ◌*◌, ◌<◌, length, IsToldOf, AreTrialsOf}
use Rattle.roman_whatif.proofs.losses.try_all.Given as goal

-- the table has the outlooks for the seats so far
abbrev pub invariant-loop-j : goal.invariant-loop-j
invariant-loop-j g l = record {
  trials : AreTrialsOf l.scenario.base.now.joint l.trials;
  room : length l.table.items ≡ 32 * length l.scenario.base.now.joint.seats;
  outlooks : (i : ℕ) → i < l.j → IsToldOf l.scenario.base.now.joint l.scenario.pair l.scenario.way i l.table.items;
}
