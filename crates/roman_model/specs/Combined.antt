-- The system that combines several targets, and the law that its related pairs are theirs.
use Rattle.std.specs.Prelude.{ℕ, ◌<◌, ◌≤◌, ◌==◌, Bool, false, not, ◌&&◌, ◌↔◌, List, map, length, Option, None, Some, slice_get, slice_index, slice_set}
use Rattle.std.specs.List.{list_any, filter, flat_map}
use Rattle.roman_model.specs.Lists.{IsIn, below, is_empty, product_of}
use Rattle.roman_model.specs.System.{Env, Beh, Seat, Sys, Pair, has_triple, has_move, is_final, IsEnv, IsBeh, IsDeterministic, IsSys, IsPair}
use Rattle.roman_model.specs.SystemArena.{beh_next, same_numbers}
use Rattle.roman_model.specs.Numbers.{states_number, states_at}
use Rattle.roman_model.specs.Composition.{Great}
use Rattle.roman_model.specs.Made.{env_from, beh_from}
use Rattle.roman_model.specs.Several.{Several, CoupleAll, are_final, GreatAll}
use Rattle.roman_model.specs.declared.request.Request.{Request}
use Rattle.roman_model.specs.declared.limits.TheConstants.{MAX_STATES, MAX_ACTIONS, MAX_SERVICES}

-- the action occurs in a step of the behaviour whose guard isn't empty
abbrev pub stands_in : Option Beh → ℕ → Bool
stands_in None a = false
stands_in (Some beh) a = list_any (λ m. m.action == a && not (is_empty m.guard)) beh.steps

-- the behaviour has a step on the action, from some state in some environment state
abbrev pub uses : ℕ → Beh → ℕ → Bool
uses env_states beh a = list_any (λ b. list_any (λ e. not (is_empty (beh_next beh b e a))) (below env_states)) (below beh.states)

-- the combined actions: target by target, the actions that occur in its steps, in the environment's order
abbrev pub requests_of : ℕ → List Beh → List Request
requests_of actions targets =
    flat_map (λ i. map (λ a. record { target = i; action = a }) (filter (stands_in (slice_get targets i)) (below actions))) (below (length targets))

-- the environment has the triple on the plain action of the request
abbrev pub has_triple_on : Env → Option Request → ℕ → ℕ → Bool
has_triple_on env None e e' = false
has_triple_on env (Some r) e e' = has_triple env e r.action e'

-- the behaviour has the step on the plain action of the request
abbrev pub has_move_on : Beh → Option Request → ℕ → ℕ → ℕ → Bool
has_move_on beh None b e b' = false
has_move_on beh (Some r) b e b' = has_move beh b e r.action b'

-- the target at place i makes a step on the action, and no other target changes
abbrev pub member_goes : Option Beh → ℕ → ℕ → List ℕ → ℕ → List ℕ → Bool
member_goes None i a ts e ts' = false
member_goes (Some target) i a ts e ts' = has_move target (slice_index ts i) e a (slice_index ts' i) && same_numbers (slice_set ts i (slice_index ts' i)) ts'

-- the target that makes the request makes a step on its action, and no other target changes
abbrev pub targets_go : List Beh → Option Request → List ℕ → ℕ → List ℕ → Bool
targets_go targets None ts e ts' = false
targets_go targets (Some r) ts e ts' = member_goes (slice_get targets r.target) r.target r.action ts e ts'

-- the environment over combined actions
abbrev pub combined_env : List Request → Env → Env
combined_env requests env = env_from env.states (length requests) env.start (λ e n e'. has_triple_on env (slice_get requests n) e e')

-- a behaviour over combined actions
abbrev pub combined_beh : ℕ → List Request → Beh → Beh
combined_beh env_states requests beh =
    beh_from env_states (length requests) beh.states beh.start (is_final beh) (λ b e n b'. has_move_on beh (slice_get requests n) b e b')

-- the number of states of each target
abbrev pub target_sizes : List Beh → List ℕ
target_sizes targets = map (λ target. target.states) targets

-- the combined start state: the number of the list of start states
abbrev pub combined_start : List Beh → ℕ
combined_start targets = states_number (target_sizes targets) (map (λ target. target.start) targets)

-- The targets as one. Its states are the lists of one state for each target, and the last target's state changes fastest. A state is
-- final if the state of each target is final, and each step is a step of one of the targets.
abbrev pub combined_target : ℕ → List Request → List Beh → Beh
combined_target env_states requests targets =
    beh_from env_states (length requests) (product_of (target_sizes targets)) (combined_start targets)
    (λ t. are_final targets (states_at (target_sizes targets) t))
    (λ t e n t'. targets_go targets (slice_get requests n) (states_at (target_sizes targets) t) e (states_at (target_sizes targets) t'))

-- a seat over combined actions
abbrev pub combined_seat : ℕ → List Request → Seat → Seat
combined_seat env_states requests seat = record { beh = combined_beh env_states requests seat.beh; frozen = seat.frozen; rests = seat.rests }

-- the combined actions of all targets
abbrev pub all_requests : Several → List Request
all_requests w = requests_of w.env.actions w.targets

-- the system that combines all targets
abbrev pub combined : Several → Sys
combined w = record {
  env = combined_env (all_requests w) w.env;
  target = combined_target w.env.states (all_requests w) w.targets;
  seats = map (combined_seat w.env.states (all_requests w)) w.seats;
}

-- the parts are in range, the targets are deterministic, and the combined numbers are within the limits
pub record IsSeveral (w : Several) : Type 0 where
  pub env : IsEnv w.env
  pub targets : (target : Beh) → IsIn target w.targets → IsBeh w.env target × IsDeterministic target
  pub seats : (x : Seat) → IsIn x w.seats → IsBeh w.env x.beh
  pub few : length w.seats ≤ MAX_SERVICES
  pub states : product_of (target_sizes w.targets) ≤ MAX_STATES
  pub actions : (0 < length (all_requests w)) × (length (all_requests w) ≤ MAX_ACTIONS)

-- the couple of a combined pair: its target state is the number of the list of the targets' states
abbrev pub couple_all : Several → Pair → CoupleAll
couple_all w p = record { ts = states_at (target_sizes w.targets) p.t; e = p.e; bs = p.bs; e2 = p.e }

-- the combined system is well formed, and a pair of it is related exactly when some simulation of all targets holds it
pub record CombinedServesAll (w : Several) : Type 0 where
  pub system : IsSys (combined w)
  pub great : (p : Pair) → IsPair (combined w) p → Great (combined w) p ↔ GreatAll w (couple_all w p)

-- for all targets within the limits the combined system is well formed, and a pair of it is related exactly when some simulation of all targets holds it
abbrev pub CombinedIsAll : Type 0
CombinedIsAll = (w : Several) → IsSeveral w → CombinedServesAll w
