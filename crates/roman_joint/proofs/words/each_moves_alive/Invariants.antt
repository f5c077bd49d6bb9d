use Rattle.roman_joint.proofs.Common.{StaysWithin, leads_away, ◌≡◌, ℕ, ◌<◌, false, not, ◌&&◌, length, take, slice_index, is_on}
use Rattle.roman_joint.proofs.words.each_moves_alive.Given as goal

-- the lanes from which the moves so far lead to alive lanes
abbrev pub invariant-loop-step : goal.invariant-loop-step
invariant-loop-step g l = record {
  long : length l.left ≡ g.row.N;
  alive : (i lane : ℕ) → i < g.row.N → lane < 64 → StaysWithin l.moves lane →
      is_on (slice_index l.left i) lane ≡ (is_on l.good lane && not (leads_away (take l.step-index l.moves) (slice_index l.alive i) lane));
  within : (i lane : ℕ) → i < g.row.N → is_on l.good lane ≡ false → is_on (slice_index l.left i) lane ≡ false;
}
