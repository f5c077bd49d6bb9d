-- Walks backwards from a pair.
use Rattle.std.specs.Prelude.{◌≡◌, ℕ, ◌+◌, ◌-◌, ◌*◌, ◌^◌, ◌<◌, ◌≤◌, Bool, MatchBool, List, [], ◌∷◌, ◌++◌, length, drop, slice_get, slice_index}
use Rattle.std.specs.List.{flat_map}
use Rattle.roman_model.specs.Lists.{below}
use Rattle.roman_model.specs.System.{Sys, Pair}
use Rattle.roman_model.specs.SystemArena.{env_prev, beh_prev}
use Rattle.roman_model.specs.Arena.{Delegation}
use Rattle.roman_model.specs.Numbers.{sizes_of, count, pair_at}
use Rattle.roman_joint.specs.declared.walk.Walk.{Walk}
use Rattle.roman_joint.specs.NamedSys.{NamedSys, system_of}
use Rattle.roman_joint.specs.Backward.{seat_prev, from_states, from_seat, from_target, from_env, from_action}

-- the pair to which the walk's delegations lead
abbrev pub goal_of : Sys → Walk → Pair
goal_of s walk = pair_at (sizes_of s) walk.pair

-- the walk is a walk of this system
pub record IsWalk (s : Sys) (walk : Walk) : Type 0 where
  pub pair : walk.pair < count (sizes_of s)
  pub action : walk.action < s.env.actions
  pub env : walk.env < s.env.states
  pub target : walk.target < s.target.states
  pub seat : walk.seat ≤ length s.seats
  pub states_taken : walk.states_taken ≤ 64
  pub targets_taken : walk.targets_taken ≤ 64
  pub envs_taken : walk.envs_taken ≤ 64

-- the predecessor states of the current service: those from which it goes to its state at the pair
abbrev pub states_before : Sys → Walk → List ℕ
states_before s walk = seat_prev (slice_get s.seats walk.seat) (slice_index (goal_of s walk).bs walk.seat) walk.env walk.action

-- the remaining delegations to the current service, at the current states of the environment and the target
abbrev pub left_of_seat : Sys → Walk → List (Delegation ℕ)
left_of_seat s walk = from_states s (goal_of s walk) walk.action walk.env walk.target walk.seat (drop walk.states_taken (states_before s walk))

-- the remaining delegations to the services after the current one, at the same states of the environment and the target
abbrev pub left_of_target : Sys → Walk → List (Delegation ℕ)
left_of_target s walk = flat_map (from_seat s (goal_of s walk) walk.action walk.env walk.target) (drop (walk.seat + 1) (below (length s.seats)))

-- the delegations from the target's remaining predecessor states, at the same state of the environment
abbrev pub left_of_env : Sys → Walk → List (Delegation ℕ)
left_of_env s walk =
    flat_map (from_target s (goal_of s walk) walk.action walk.env) (drop walk.targets_taken (beh_prev s.target (goal_of s walk).t walk.env walk.action))

-- the delegations from the environment's remaining predecessor states, on the same action
abbrev pub left_of_action : Sys → Walk → List (Delegation ℕ)
left_of_action s walk = flat_map (from_env s (goal_of s walk) walk.action) (drop walk.envs_taken (env_prev s.env (goal_of s walk).e walk.action))

-- the delegations of the actions after the current one
abbrev pub left_of_all : Sys → Walk → List (Delegation ℕ)
left_of_all s walk = flat_map (from_action s (goal_of s walk)) (drop (walk.action + 1) (below s.env.actions))

-- all remaining delegations
abbrev pub left : Sys → Walk → List (Delegation ℕ)
left s walk = left_of_seat s walk ++ (left_of_target s walk ++ (left_of_env s walk ++ (left_of_action s walk ++ left_of_all s walk)))

-- a number that falls with each move of the walk: each part counts more than all parts after it
abbrev pub walk_left : Sys → Walk → ℕ
walk_left s walk =
    (s.env.actions - walk.action) * 2 ^ 20 + (64 - walk.envs_taken) * 2 ^ 13 + (64 - walk.targets_taken) * 2 ^ 6 + (length s.seats - walk.seat)

-- the walk moves on, and has the same remaining delegations
pub record WalkGoesOn (s : Sys) (old new : Walk) : Type 0 where
  pub walk : IsWalk s new
  pub left : left s new ≡ left s old
  pub falls : walk_left s new < walk_left s old

-- no delegations of this kind are left
abbrev pub IsDone : (Sys → Walk → List (Delegation ℕ)) → NamedSys → Walk → Type 0
IsDone rest joint walk = rest (system_of joint) walk ≡ []

-- the walk goes on, or it stays where it is and no delegations of this kind are left
abbrev pub GoesOnUnlessDone : (Sys → Walk → List (Delegation ℕ)) → NamedSys → Bool → Walk → Walk → Type 0
GoesOnUnlessDone rest joint goes_on old new = MatchBool goes_on (WalkGoesOn (system_of joint) old new) ((new ≡ old) × IsDone rest joint old)

-- the first remaining delegation is that of action a to seat k at the pair with the number p, and it is taken
abbrev pub TakesFirst : NamedSys → Walk → Walk → ℕ → ℕ → ℕ → Type 0
TakesFirst joint old new p a k = left (system_of joint) old ≡ record { node = p; action = a; seat = k } ∷ left (system_of joint) new
