use Rattle.roman_joint.proofs.Common.{◌≡◌, ℕ, ◌+◌, ◌*◌, ◌<◌, not, ◌&&◌, length, take, slice_index, list_any, is_on}
use Rattle.roman_joint.proofs.stripes.StripeUpdateOf.updated.Given as goal

-- the lanes that are set in the words of the states so far
abbrev pub invariant-loop-b : goal.invariant-loop-b
invariant-loop-b g l = record {
  long : length l.good ≡ g.row.N;
  each : (i lane : ℕ) → i < g.row.N → lane < 64 → is_on (slice_index l.good i) lane
      ≡ not (list_any (λ b. not (is_on (slice_index l.self.alive.now (l.self.from + (l.at + i) + b * l.self.stride)) lane)) (take l.b-index l.self.states.now));
}
