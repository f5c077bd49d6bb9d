use Rattle.roman_parts.proofs.Common.{◌*◌, ◌≤◌}
use Rattle.roman_parts.proofs.state_lists.count.Given as goal

-- each mask has at most 64 states
abbrev pub invariant-loop-mask : goal.invariant-loop-mask
invariant-loop-mask l = l.total ≤ 64 * l.mask-index
