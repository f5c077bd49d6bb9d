use Rattle.roman_joint.proofs.Common.{◌≡◌, ◌≢◌, ℕ, ◌-◌, ◌*◌, ◌/◌, ◌%◌, ◌<◌, ◌≤◌, length, slice_index, LosesStripe}
use Rattle.roman_joint.proofs.stripes.clear_state.Given as goal

-- the blocks so far are cleared
abbrev pub invariant-loop-block : goal.invariant-loop-block
invariant-loop-block l = record {
  long : length l.left ≡ length l.fn.left;
  each : (i : ℕ) → i < l.block * (l.size * l.stripe.stride) → i / l.stripe.stride % l.size ≡ l.b → LosesStripe l.stripe (i - l.b * l.stripe.stride) (slice_index l.fn.left i) (slice_index l.left i);
  others : (i : ℕ) → i / l.stripe.stride % l.size ≢ l.b → slice_index l.left i ≡ slice_index l.fn.left i;
  above : (i : ℕ) → l.block * (l.size * l.stripe.stride) ≤ i → slice_index l.left i ≡ slice_index l.fn.left i;
}
