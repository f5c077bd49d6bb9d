-- Several named targets combined into one: the names and records of the combined parts, and the rules that may forbid them.
use Rattle.std.specs.Prelude.{◌≡◌, ℕ, Bool, ◌||◌, List, [], ◌∷◌, ◌++◌, map, length, take, is_some, Option, None, Some, Result, Ok, Err, IfOk, nat_lt, slice_index_or, if◌then◌else◌}
use Rattle.std.specs.List.{filter, list_any}
use Rattle.roman_model.specs.Lists.{below, is_empty, product_of}
use Rattle.roman_model.specs.System.{Beh}
use Rattle.roman_model.specs.Numbers.{states_at}
use Rattle.roman_model.specs.Several.{are_final}
use Rattle.roman_model.specs.Combined.{requests_of, target_sizes, combined_env, combined_beh, combined_target}
use Rattle.roman_model.specs.declared.request.Request.{Request}
use Rattle.roman_model.specs.declared.limits.TheConstants.{MAX_STATES, MAX_ACTIONS, MAX_NAME_BYTES}
use Rattle.roman_read.specs.Names.{place_of}
use Rattle.roman_parts.specs.Named.{NamedEnv, NamedBeh, NamedTarget}
use Rattle.roman_multi.specs.declared.parts.Named.{Named}
use Rattle.roman_multi.specs.declared.parts.Combined.{Combined}
use Rattle.roman_multi.specs.declared.error.CombineError.{CombineError}
use Rattle.roman_multi.specs.declared.error.CombineError.TheVariants as error

-- the combined environment, the behaviours over it, and the combined target
pub record PlainCombined : Type 0 where
  pub environment : NamedEnv
  pub catalogue : List NamedBeh
  pub target : NamedTarget

-- the combined parts as plain records
abbrev pub plain_combined : Combined → PlainCombined
plain_combined made = record { environment = made.environment; catalogue = made.catalogue.items; target = made.target }

-- the name of a target
abbrev pub target_name : Named → List ℕ
target_name named = named.name

-- the targets without their names
abbrev pub machines : List Named → List Beh
machines targets = map (λ named. named.target.beh) targets

-- the combined actions
abbrev pub requests_in : NamedEnv → List Named → List Request
requests_in env targets = requests_of env.env.actions (machines targets)

-- the number of combined states
abbrev pub state_count : List Named → ℕ
state_count targets = product_of (target_sizes (machines targets))

-- the final combined states, in which each target is final
abbrev pub final_states : List Named → List ℕ
final_states targets = filter (λ t. are_final (machines targets) (states_at (target_sizes (machines targets)) t)) (below (state_count targets))

-- ---- names

-- the names, joined with a dash between each two
abbrev pub joined : List (List ℕ) → List ℕ
joined [] = []
joined (name ∷ []) = name
joined (name ∷ other ∷ names) = name ++ 45 ∷ joined (other ∷ names)

-- the names of the targets' states
abbrev pub names_at : List Named → List ℕ → List (List ℕ)
names_at [] ts = []
names_at (named ∷ targets) [] = []
names_at (named ∷ targets) (t ∷ ts) = slice_index_or named.target.states t [] ∷ names_at targets ts

-- the name of combined state t, which joins the names of the targets' states
abbrev pub state_name : List Named → ℕ → List ℕ
state_name targets t = joined (names_at targets (states_at (target_sizes (machines targets)) t))

-- the names of the combined states
abbrev pub combined_state_names : List Named → List (List ℕ)
combined_state_names targets = map (λ t. state_name targets t) (below (state_count targets))

-- the name of a combined action: the name of the action, a dash, and the name of the target that requests it
abbrev pub request_name : List (List ℕ) → List Named → Request → List ℕ
request_name actions targets r = slice_index_or actions r.action [] ++ 45 ∷ slice_index_or (map target_name targets) r.target []

-- the names of the combined actions
abbrev pub request_names : NamedEnv → List Named → List (List ℕ)
request_names env targets = map (request_name env.actions targets) (requests_in env targets)

-- ---- rules

-- the name is longer than a name may be
abbrev pub is_long : List ℕ → Bool
is_long name = nat_lt MAX_NAME_BYTES (length name)

-- the name at place i occurs at an earlier place too
abbrev pub stands_before : List (List ℕ) → ℕ → Bool
stands_before names i = is_some (place_of (take i names) (slice_index_or names i []))

-- some name occurs at two places
abbrev pub has_repeats : List (List ℕ) → Bool
has_repeats names = list_any (stands_before names) (below (length names))

-- there are too many combined states
abbrev pub has_many_states : List Named → Bool
has_many_states targets = nat_lt MAX_STATES (state_count targets)

-- there are no combined actions, or too many
abbrev pub has_bad_count : List Request → Bool
has_bad_count requests = is_empty requests || nat_lt MAX_ACTIONS (length requests)

-- some combined name is too long
abbrev pub has_long_name : NamedEnv → List Named → Bool
has_long_name env targets = list_any is_long (combined_state_names targets) || list_any is_long (request_names env targets)

-- two combined states, or two combined actions, have the same name
abbrev pub has_one_name : NamedEnv → List Named → Bool
has_one_name env targets = has_repeats (combined_state_names targets) || has_repeats (request_names env targets)

-- the first rule that forbids the combination, if any
unfoldable pub forbidding : NamedEnv → List Named → Option CombineError
forbidding env targets =
    if has_many_states targets then Some error.States
    else (if has_bad_count (requests_in env targets) then Some error.Actions
    else (if has_long_name env targets then Some error.LongName
    else (if has_one_name env targets then Some error.Repeated
    else None)))

-- a result obeys the rules: they allow a combination that was made, and an error is the first rule that forbids it; nothing is stated if memory runs out
abbrev pub ObeysRules : Result Combined CombineError → Option CombineError → Type 0
ObeysRules (Ok made) rule = rule ≡ None
ObeysRules (Err error.States) rule = rule ≡ Some error.States
ObeysRules (Err error.Actions) rule = rule ≡ Some error.Actions
ObeysRules (Err error.LongName) rule = rule ≡ Some error.LongName
ObeysRules (Err error.Repeated) rule = rule ≡ Some error.Repeated
ObeysRules (Err error.Memory) rule = Unit {0}

-- ---- parts

-- a behaviour over the combined actions
abbrev pub combined_behaviour : NamedEnv → List Request → NamedBeh → NamedBeh
combined_behaviour env requests behaviour = record {
  name = behaviour.name;
  states = behaviour.states;
  env_states = env.env.states;
  actions = length requests;
  beh = combined_beh env.env.states requests behaviour.beh;
}

-- the environment, the catalogue and the target over the combined actions
unfoldable pub combined_parts : NamedEnv → List NamedBeh → List Named → PlainCombined
combined_parts env catalogue targets = record {
  environment = record { states = env.states; actions = request_names env targets; env = combined_env (requests_in env targets) env.env };
  catalogue = map (combined_behaviour env (requests_in env targets)) catalogue;
  target = record {
    states = combined_state_names targets;
    env_states = env.env.states;
    actions = length (requests_in env targets);
    beh = combined_target env.env.states (requests_in env targets) (machines targets);
  };
}

-- the combination has these parts, if it is made
abbrev pub Makes : Result Combined CombineError → PlainCombined → Type 0
Makes result parts = IfOk result (λ made. plain_combined made ≡ parts)

-- the target is over the environment
pub record IsOf (env : NamedEnv) (target : NamedTarget) : Type 0 where
  pub env_states : target.env_states ≡ env.env.states
  pub actions : target.actions ≡ env.env.actions

-- the behaviour is over the environment
pub record IsBehaviourOf (env : NamedEnv) (behaviour : NamedBeh) : Type 0 where
  pub env_states : behaviour.env_states ≡ env.env.states
  pub actions : behaviour.actions ≡ env.env.actions
