use Rattle.roman_whatif.proofs.Common.{◌≡◌, ℕ, ◌+◌, ◌*◌, ◌<◌, [], ◌∷◌, length, IsLeft, IsIdleScratchOf, told_at, left_of}
use Rattle.roman_whatif.proofs.losses.try_with.Given as goal

-- the table has the outlook for the seat alone, and for it with each earlier seat so far
abbrev pub invariant-loop-k : goal.invariant-loop-k
invariant-loop-k g l = record {
  middle : IsLeft l.scenario.way (l.j ∷ []) l.scenario.base.now.joint l.scenario.pair l.trials.middle.joint l.trials.middle.order l.left;
  scratch : IsIdleScratchOf l.scenario.base.now.joint l.trials.scratch;
  alone : told_at l.table (32 * l.j + l.j) ≡ left_of l.scenario.base.now.joint l.scenario.pair l.scenario.way (l.j ∷ []);
  two : (i : ℕ) → i < l.k → told_at l.table (32 * l.j + i) ≡ left_of l.scenario.base.now.joint l.scenario.pair l.scenario.way (i ∷ l.j ∷ []);
  before : (i : ℕ) → i < 32 * l.j → told_at l.table i ≡ told_at l.fn.table i;
  room : length l.table ≡ length l.fn.table;
}
