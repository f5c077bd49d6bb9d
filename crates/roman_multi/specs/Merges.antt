-- The input of a combination: several targets, the numbers of their combined states, and their combined actions.
use Rattle.std.specs.Prelude.{◌≡◌, ℕ, ◌<◌, ◌≤◌, List, Option, length, map, slice_get, All}
use Rattle.roman_model.specs.Numbers.{states_at}
use Rattle.roman_model.specs.Combined.{combined_env, combined_target, target_sizes}
use Rattle.roman_model.specs.declared.request.Request.{Request}
use Rattle.roman_model.specs.declared.limits.TheConstants.{MAX_ACTIONS, MAX_STATES}
use Rattle.roman_parts.specs.Named.{IsTarget, NamedBeh, NamedEnv, NamedTarget}
use Rattle.roman_multi.specs.Combining.{IsBehaviourOf, IsOf, PlainCombined, combined_behaviour, combined_parts, forbidding, machines, requests_in, state_count}
use Rattle.roman_multi.specs.Lists.{AreOver, flat, moves_by, moves_from, moves_on, next_of_all}
use Rattle.roman_multi.specs.declared.behaviours.Member.{Member}
use Rattle.roman_multi.specs.declared.error.CombineError.{CombineError}
use Rattle.roman_multi.specs.declared.parts.Named.{Named}
use Rattle.roman_multi.specs.declared.merge.Merge.{Merge}

-- there are two to four targets
abbrev pub AreSeveral : List Named → Type 0
AreSeveral targets = (2 ≤ length targets) × (length targets ≤ 4)

-- the targets are over the environment
abbrev pub AreTargetsOf : NamedEnv → List Named → Type 0
AreTargetsOf env targets = All (λ named. IsOf env named.target) targets

-- the number of combined states
abbrev pub state_total : Merge → ℕ
state_total m = state_count m.targets.now

-- the combined states to which combined action n leads from state t in environment state e
abbrev pub next_in : Merge → ℕ → ℕ → ℕ → List ℕ
next_in m t n e = next_of_all (machines m.targets.now) (states_at (target_sizes (machines m.targets.now)) t) e (slice_get m.requests.now n)

-- the steps by combined action n from state t
abbrev pub merge_moves_by : Merge → ℕ → ℕ → List (ℕ × ℕ × ℕ × ℕ)
merge_moves_by m t n = moves_by m.env.now.env.states (next_in m t n) t n

-- the steps from state t
abbrev pub merge_moves_from : Merge → ℕ → List (ℕ × ℕ × ℕ × ℕ)
merge_moves_from m t = moves_from m.env.now.env.states (length m.requests.now) (next_in m t) t

-- one to four targets are over the environment, and the shape and the requests are theirs, within the limits
pub record IsMerge (m : Merge) : Type 0 where
  pub count : (0 < length m.targets.now) × (length m.targets.now ≤ 4)
  pub known : All (λ named. IsTarget m.env.now named.target) m.targets.now
  pub shape : m.shape.now ≡ flat (target_sizes (machines m.targets.now))
  pub few : state_total m ≤ MAX_STATES
  pub requests : m.requests.now ≡ requests_in m.env.now m.targets.now
  pub some : (0 < length m.requests.now) × (length m.requests.now ≤ MAX_ACTIONS)
  pub in_range : All (λ r. (r.target < length m.targets.now) × (r.action < m.env.now.env.actions)) m.requests.now

-- the environment has the same states, and the combined actions
pub record IsOverMerge (m : Merge) (over : NamedEnv) : Type 0 where
  pub states : over.env.states ≡ m.env.now.env.states
  pub actions : over.env.actions ≡ length m.requests.now

-- the environment with the combined actions, which have these names
abbrev pub combined_environment : NamedEnv → List Request → List (List ℕ) → NamedEnv
combined_environment env requests names = record { states = env.states; actions = names; env = combined_env requests env.env }

-- the target over the combined actions, whose states have these names
abbrev pub one_target : NamedEnv → List Request → List Named → List (List ℕ) → NamedTarget
one_target env requests targets names = record {
  states = names;
  env_states = env.env.states;
  actions = length requests;
  beh = combined_target env.env.states requests (machines targets);
}

-- the target over the combined actions of the merge, whose states have these names
abbrev pub merge_target : Merge → List (List ℕ) → NamedTarget
merge_target m names = one_target m.env.now m.requests.now m.targets.now names

-- the behaviour over the combined actions of the merge
abbrev pub merge_behaviour : Merge → NamedBeh → NamedBeh
merge_behaviour m behaviour = combined_behaviour m.env.now m.requests.now behaviour

-- the behaviours over the combined actions of the merge
abbrev pub merge_catalogue : Merge → List NamedBeh → List NamedBeh
merge_catalogue m catalogue = map (combined_behaviour m.env.now m.requests.now) catalogue

-- the behaviours are over the environment of the merge
abbrev pub AreOverEnv : Merge → List NamedBeh → Type 0
AreOverEnv m catalogue = All (IsBehaviourOf m.env.now) catalogue

-- the parts that the merge combines
abbrev pub merge_parts : Merge → List NamedBeh → PlainCombined
merge_parts m catalogue = combined_parts m.env.now catalogue m.targets.now

-- the first rule that forbids the combination, if any
abbrev pub merge_rule : Merge → Option CombineError
merge_rule m = forbidding m.env.now m.targets.now

-- the behaviour's states to which combined action n leads from state b in environment state e
abbrev pub next_of_member : Member → ℕ → ℕ → ℕ → List ℕ
next_of_member m b n e = moves_on m.behaviour.now.beh b e (slice_get m.requests.now n)

-- the behaviour's steps by combined action n from state b
abbrev pub member_moves_by : Member → ℕ → ℕ → List (ℕ × ℕ × ℕ × ℕ)
member_moves_by m b n = moves_by m.env.now.env.states (next_of_member m b n) b n

-- the behaviour's steps from state b
abbrev pub member_moves_from : Member → ℕ → List (ℕ × ℕ × ℕ × ℕ)
member_moves_from m b = moves_from m.env.now.env.states (length m.requests.now) (next_of_member m b) b

-- the behaviour is over the environment, and the requests are few enough and have actions of the environment
pub record IsMember (m : Member) : Type 0 where
  pub of : IsBehaviourOf m.env.now m.behaviour.now
  pub few : length m.requests.now ≤ MAX_ACTIONS
  pub actions : AreOver m.env.now m.requests.now
