-- Choices: two steps from one state by one action to different states, in an environment state that both guards have.
use Rattle.std.specs.Prelude.{◌≡◌, ℕ, ◌==◌, ◌&&◌, not, List, [], length, Option, None, Some, Result, Ok, Err, find, is_some, option_map, option_and_then, slice_get, slice_index_or, if◌then◌else◌}
use Rattle.roman_model.specs.Lists.{below}
use Rattle.roman_model.specs.System.{Move, has}
use Rattle.roman_read.specs.declared.rules.Kind.TheVariants.{Choice}
use Rattle.roman_parts.specs.Listed.{records}
use Rattle.roman_parts.specs.declared.error.List.TheVariants.{Steps}
use Rattle.roman_parts.specs.declared.error.PartError.{PartError}
use Rattle.roman_parts.specs.declared.error.PartError.TheVariants.{Refused}

-- the least number below n at which f has a value, with that value
unfoldable pub first_below : {X : Type 0} → (ℕ → Option X) → ℕ → Option (ℕ × X)
first_below f n = option_and_then (λ k. option_map (λ x. (k, x)) (f k)) (find (λ k. is_some (f k)) (below n))

-- the least environment state in which two steps form a choice, if their guards rise
unfoldable pub choice_between : Option Move → Option Move → Option ℕ
choice_between (Some m) (Some n) = if m.from == n.from && m.action == n.action && not (m.to == n.to) then find (has n.guard) m.guard else None
choice_between m n = None

-- the least environment state in which steps j and i form a choice
unfoldable pub choice_at : List Move → ℕ → ℕ → Option ℕ
choice_at steps j i = choice_between (slice_get steps j) (slice_get steps i)

-- the first step before step j with which it forms a choice, with the least environment state of that choice
unfoldable pub choice_with : List Move → ℕ → Option (ℕ × ℕ)
choice_with steps j = first_below (choice_at steps j) j

-- the first step that forms a choice with an earlier one, with that earlier step and the environment state
unfoldable pub choice_of : List Move → Option (ℕ × (ℕ × ℕ))
choice_of steps = first_below (choice_with steps) (length steps)

-- no two of the steps form a choice
abbrev pub HasNoChoice : List (ℕ × ℕ × ℕ × ℕ) → Type 0
HasNoChoice steps = choice_of (records steps) ≡ None

-- the steps, if there is no choice, and the refusal of the choice otherwise
abbrev pub refuse_choice : List (List ℕ) → List Move → Option (ℕ × (ℕ × ℕ)) → Result (List Move) PartError
refuse_choice env_states steps None = Ok steps
refuse_choice env_states steps (Some (j, (i, e))) = Err (Refused (Choice i (slice_index_or env_states e [])) Steps j)

-- the steps, if no two of them form a choice, and the refusal of the first choice otherwise
unfoldable pub single_of : List (List ℕ) → List Move → Result (List Move) PartError
single_of env_states steps = refuse_choice env_states steps (choice_of steps)
