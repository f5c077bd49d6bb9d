-- The meaning of a text of costs: the costs that it lists, or the first rule that it breaks.
use Rattle.std.specs.Prelude.{ℕ, List, [], ◌∷◌, ◌++◌, map, length, is_none, nat_le, Result, Ok}
use Rattle.serde_json.specs.Data.{Data}
use Rattle.serde_json.specs.Events.{items_len}
use Rattle.roman_io.specs.Shelf.{Texts, shelf_text}
use Rattle.roman_model.specs.declared.limits.TheConstants.{MAX_DOCUMENT_BYTES}
use Rattle.roman_read.specs.Items.{◌>>=◌, each_item}
use Rattle.roman_read.specs.Json.{json_of, list_of, number_of}
use Rattle.roman_read.specs.declared.rules.Kind.TheVariants as kind
use Rattle.roman_parts.specs.Lists.{place_in}
use Rattle.roman_parts.specs.Reading.{looked, found, check}
use Rattle.roman_parts.specs.Steps.{three_of}
use Rattle.roman_parts.specs.declared.error.List.TheVariants as list
use Rattle.roman_parts.specs.declared.error.PartError.{PartError}
use Rattle.roman_joint.specs.NamedSys.{NamedSys}
use Rattle.roman_joint.specs.Names.{beh_name}
use Rattle.roman_cost.specs.Tables.{listed_cost}
use Rattle.roman_cost.specs.declared.costs.Listed.{Listed}
use Rattle.roman_cost.specs.declared.limits.TheConstants.{MAX_COST, MAX_COSTS}

-- item i: a behaviour, an action and the cost
unfoldable pub cost_item : List (List ℕ) → List (List ℕ) → ℕ → Data → Result Listed PartError
cost_item behaviours actions i d = do
  items ← looked list.Steps i (list_of d)
  (behaviour, action, cost) ← found kind.Form list.Steps i (three_of items)
  behaviour ← place_in behaviours list.Steps i behaviour
  action ← place_in actions list.Steps i action
  number ← looked list.Steps i (number_of cost)
  cost ← check (nat_le number MAX_COST) kind.Count list.Steps i number
  Ok (record { behaviour = behaviour; action = action; cost = cost })

-- the costs before item i, none of which is for the same behaviour and action, with the cost in item i
unfoldable pub with_cost : List (List ℕ) → List (List ℕ) → ℕ → List Listed → Data → Result (List Listed) PartError
with_cost behaviours actions i listed d = do
  item ← cost_item behaviours actions i d
  check (is_none (listed_cost listed item.behaviour item.action)) kind.Repeated list.Steps i (listed ++ item ∷ [])

-- the costs of a value: a list within its limit, whose items are read in order
unfoldable pub costs_in : List (List ℕ) → List (List ℕ) → Data → Result (List Listed) PartError
costs_in behaviours actions d = do
  items ← looked list.Whole 0 (list_of d)
  few ← check (nat_le (items_len items) MAX_COSTS) kind.Count list.Whole 0 items
  each_item (with_cost behaviours actions) 0 [] few

-- the costs of a value for the behaviours and actions of a system
abbrev pub item_for : NamedSys → ℕ → Data → Result Listed PartError
item_for n = cost_item (map beh_name n.catalogue) n.environment.actions

abbrev pub with_cost_for : NamedSys → ℕ → List Listed → Data → Result (List Listed) PartError
with_cost_for n = with_cost (map beh_name n.catalogue) n.environment.actions

abbrev pub costs_for : NamedSys → Data → Result (List Listed) PartError
costs_for n = costs_in (map beh_name n.catalogue) n.environment.actions

-- the JSON value of a text within its limit
unfoldable pub value_of : Texts → List ℕ → Result Data PartError
value_of texts name =
    let text = shelf_text texts name in
    check (nat_le (length text) MAX_DOCUMENT_BYTES) kind.TooLong list.Whole 0 text >>= (λ bytes. found kind.NotJson list.Whole 0 (json_of bytes))

-- the costs that the text of this name lists for the behaviours and actions of a system
unfoldable pub costs_of : Texts → List ℕ → NamedSys → Result (List Listed) PartError
costs_of texts name n = value_of texts name >>= costs_in (map beh_name n.catalogue) n.environment.actions
