use Rattle.roman_parts.proofs.Common.{◌≡◌, ◌+◌, ◌*◌, ◌≤◌, length, vec_capacity, map, take, states_of}
use Rattle.roman_parts.proofs.PieceLemmas.{IsLaid}
use Rattle.roman_parts.proofs.state_lists.StateLists.of_masks.Given as goal

-- the lists have the masks so far, each with at most 64 states
abbrev pub invariant-loop-mask : goal.invariant-loop-mask
invariant-loop-mask l = record {
  laid : IsLaid l.bounds.items l.items.items (map states_of (take l.mask-index l.masks));
  small : length l.items.items ≤ 64 * l.mask-index;
  long : length l.bounds.items ≡ l.mask-index + 1;
  room : length l.masks + 1 ≤ vec_capacity l.bounds;
}
