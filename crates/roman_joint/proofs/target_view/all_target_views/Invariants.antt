use Rattle.roman_joint.proofs.Common.{◌≡◌, ℕ, ◌/◌, ◌%◌, ◌<◌, length, slice_index_or, IsTargetView, TargetView}
use Rattle.roman_joint.proofs.target_view.all_target_views.Given as goal

-- the target views so far are made
abbrev pub invariant-loop-i : goal.invariant-loop-i
invariant-loop-i l = record {
  long : length l.target_views.items ≡ l.i;
  each : (j : ℕ) (target_view : TargetView) → j < l.i → target_view ≡ slice_index_or l.target_views.items j target_view → IsTargetView l.environment.env l.target.beh (j / l.environment.env.states) (j % l.environment.env.states) target_view;
}
