-- The steps of a part.
use Rattle.std.specs.Prelude.{ℕ, List, [], Option, None, Some, Result, Ok, codes}
use Rattle.serde_json.specs.Data.{Data, Items, no_items, item}
use Rattle.roman_model.specs.System.{Triple, Move}
use Rattle.roman_model.specs.declared.limits.TheConstants.{MAX_STEPS}
use Rattle.roman_read.specs.Items.{◌>>=◌, each_item, pushing}
use Rattle.roman_read.specs.Json.{list_of}
use Rattle.roman_read.specs.declared.rules.Kind.TheVariants.{Form}
use Rattle.roman_parts.specs.Reading.{looked, found, counted_items}
use Rattle.roman_parts.specs.Lists.{place_in}
use Rattle.roman_parts.specs.Guards.{guarded_states}
use Rattle.roman_parts.specs.declared.error.List.TheVariants.{Steps}
use Rattle.roman_parts.specs.declared.error.PartError.{PartError}

-- the items of a list of three
abbrev pub three_of : Items → Option (Data × Data × Data)
three_of (item a (item b (item c no_items))) = Some (a, b, c)
three_of _ = None

-- the items of a list of four
abbrev pub four_of : Items → Option (Data × Data × Data × Data)
four_of (item a (item b (item c (item d no_items)))) = Some (a, b, c, d)
four_of _ = None

-- the value of step i of an environment: a state, an action and a state
unfoldable pub triple_item : List (List ℕ) → List (List ℕ) → ℕ → Data → Result Triple PartError
triple_item states actions i d = do
  items ← looked Steps i (list_of d)
  (from, action, to) ← found Form Steps i (three_of items)
  from ← place_in states Steps i from
  action ← place_in actions Steps i action
  to ← place_in states Steps i to
  Ok (record { from = from; action = action; to = to })

-- the steps of an environment
unfoldable pub triples_of : List (List ℕ) → List (List ℕ) → Data → Result (List Triple) PartError
triples_of states actions d = do
  items ← counted_items Steps (codes "steps") 0 MAX_STEPS d
  each_item (pushing (triple_item states actions)) 0 [] items

-- the value of step i of a behaviour: a state, a guard over the environment's states, an action and a state
unfoldable pub move_item : List (List ℕ) → List (List ℕ) → List (List ℕ) → ℕ → Data → Result Move PartError
move_item env_states actions states i d = do
  items ← looked Steps i (list_of d)
  (from, guard, action, to) ← found Form Steps i (four_of items)
  from ← place_in states Steps i from
  guard ← guarded_states env_states i guard
  action ← place_in actions Steps i action
  to ← place_in states Steps i to
  Ok (record { from = from; guard = guard; action = action; to = to })

-- the steps of a behaviour
unfoldable pub moves_of : List (List ℕ) → List (List ℕ) → List (List ℕ) → Data → Result (List Move) PartError
moves_of env_states actions states d = do
  items ← counted_items Steps (codes "steps") 0 MAX_STEPS d
  each_item (pushing (move_item env_states actions states)) 0 [] items
