-- The combined actions, and the steps by them, as lists.
use Rattle.std.specs.Prelude.{◌≡◌, ℕ, ◌^◌, ◌<◌, ◌&&◌, Bool, not, List, [], map, length, slice_index, slice_set, slice_get, Option, None, Some, Result, Ok, Err, All, IfOk, IsTrue, IsFalse}
use Rattle.std.specs.Global.{Vec}
use Rattle.std.specs.List.{filter, flat_map, list_all}
use Rattle.roman_model.specs.Lists.{below, is_empty}
use Rattle.roman_model.specs.Numbers.{Sizes, states_number}
use Rattle.roman_model.specs.System.{Env, Beh}
use Rattle.roman_model.specs.SystemArena.{env_next, beh_next}
use Rattle.roman_model.specs.Combined.{uses, target_sizes}
use Rattle.roman_model.specs.declared.request.Request.{Request}
use Rattle.roman_read.specs.Names.{is_name_byte}
use Rattle.roman_parts.specs.Named.{NamedEnv}
use Rattle.roman_multi.specs.Combining.{combined_state_names, request_names, has_repeats, has_long_name, has_one_name}
use Rattle.roman_multi.specs.declared.parts.Named.{Named}
use Rattle.roman_multi.specs.declared.error.CombineError.{CombineError}
use Rattle.roman_multi.specs.declared.error.CombineError.TheVariants as error

-- the bytes are a name, or would be if they weren't too long
abbrev pub is_word : List ℕ → Bool
is_word bytes = not (is_empty bytes) && list_all is_name_byte bytes

-- the returned vector has these items
abbrev pub ReturnsList : {X E : Type 0} → Result (Vec X) E → List X → Type 0
ReturnsList result items = IfOk result (λ made. made.items ≡ items)

-- each byte may be in a name
abbrev pub AreNameBytes : List ℕ → Type 0
AreNameBytes bytes = IsTrue (list_all is_name_byte bytes)

-- the bytes are a word
abbrev pub IsWord : List ℕ → Type 0
IsWord bytes = IsTrue (is_word bytes)

-- the actions of the requests are actions of the environment
abbrev pub AreOver : NamedEnv → List Request → Type 0
AreOver env requests = All (λ r. r.action < env.env.actions) requests

-- the sizes of the targets as sizes of pairs in which the target and the environment have one state each
abbrev pub flat : List ℕ → Sizes
flat sizes = record { target = 1; env = 1; seats = sizes }

-- the requests of the target at the place: the actions by which it has a step
abbrev pub used_by : ℕ → ℕ → Beh → ℕ → List Request
used_by env_states actions target place = map (λ a. record { target = place; action = a }) (filter (uses env_states target) (below actions))

-- the requests of the target at the place, or none if there is no target
abbrev pub used_at : ℕ → ℕ → Option Beh → ℕ → List Request
used_at env_states actions None place = []
used_at env_states actions (Some target) place = used_by env_states actions target place

-- the environment's next states by a request
abbrev pub next_on : Env → ℕ → Option Request → List ℕ
next_on env e None = []
next_on env e (Some r) = env_next env e r.action

-- the triples from e by each request
abbrev pub triples_by : Env → List Request → ℕ → List (ℕ × ℕ × ℕ)
triples_by env requests e = flat_map (λ n. map (λ to. (e, n, to)) (next_on env e (slice_get requests n))) (below (length requests))

-- the triples from each state
abbrev pub listed_triples : Env → List Request → List (ℕ × ℕ × ℕ)
listed_triples env requests = flat_map (triples_by env requests) (below env.states)

-- the steps from b by action n in environment state e alone, to the given next states
abbrev pub moves_in : ℕ → ℕ → ℕ → List ℕ → List (ℕ × ℕ × ℕ × ℕ)
moves_in b n e states = map (λ to. (b, 2 ^ e, n, to)) states

-- the steps from b by action n
abbrev pub moves_by : ℕ → (ℕ → List ℕ) → ℕ → ℕ → List (ℕ × ℕ × ℕ × ℕ)
moves_by env_states next b n = flat_map (λ e. moves_in b n e (next e)) (below env_states)

-- the steps from b
abbrev pub moves_from : ℕ → ℕ → (ℕ → ℕ → List ℕ) → ℕ → List (ℕ × ℕ × ℕ × ℕ)
moves_from env_states actions next b = flat_map (λ n. moves_by env_states (next n) b n) (below actions)

-- all steps to the given next states
abbrev pub listed_moves : ℕ → ℕ → ℕ → (ℕ → ℕ → ℕ → List ℕ) → List (ℕ × ℕ × ℕ × ℕ)
listed_moves env_states actions states next = flat_map (λ b. moves_from env_states actions (next b) b) (below states)

-- a behaviour's next states by a request
abbrev pub moves_on : Beh → ℕ → ℕ → Option Request → List ℕ
moves_on beh b e None = []
moves_on beh b e (Some r) = beh_next beh b e r.action

-- a target's next states by an action, or none if there is no target
abbrev pub member_next : Option Beh → ℕ → ℕ → ℕ → List ℕ
member_next None t e a = []
member_next (Some target) t e a = beh_next target t e a

-- the numbers of the next combined states by a request, by which one target moves
abbrev pub next_of_all : List Beh → List ℕ → ℕ → Option Request → List ℕ
next_of_all targets ts e None = []
next_of_all targets ts e (Some r) =
    map (λ t'. states_number (target_sizes targets) (slice_set ts r.target t')) (member_next (slice_get targets r.target) (slice_index ts r.target) e r.action)

-- the result is the table of the names if no two are equal, and the error for repeated names otherwise; nothing is stated if memory runs out
abbrev pub TablesNames : List (List ℕ) → Result (List (List ℕ)) CombineError → Type 0
TablesNames names (Ok table) = (table ≡ names) × IsFalse (has_repeats names)
TablesNames names (Err error.States) = ⊥
TablesNames names (Err error.Actions) = ⊥
TablesNames names (Err error.LongName) = ⊥
TablesNames names (Err error.Repeated) = IsTrue (has_repeats names)
TablesNames names (Err error.Memory) = Unit {0}

-- the result has the combined names if they obey the rules on names, and otherwise the first broken rule; nothing is stated if memory runs out
abbrev pub AreCombinedNames : NamedEnv → List Named → Result (List (List ℕ) × List (List ℕ)) CombineError → Type 0
AreCombinedNames env targets (Ok names) =
    (names.0 ≡ combined_state_names targets) × (names.1 ≡ request_names env targets) × IsFalse (has_long_name env targets) × IsFalse (has_one_name env targets)
AreCombinedNames env targets (Err error.States) = ⊥
AreCombinedNames env targets (Err error.Actions) = ⊥
AreCombinedNames env targets (Err error.LongName) = IsTrue (has_long_name env targets)
AreCombinedNames env targets (Err error.Repeated) = IsFalse (has_long_name env targets) × IsTrue (has_one_name env targets)
AreCombinedNames env targets (Err error.Memory) = Unit {0}
