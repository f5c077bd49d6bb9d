-- The lists of a part: names, final states and steps.
use Rattle.std.specs.Prelude.{ℕ, ◌++◌, List, [], ◌∷◌, Result, is_none, codes}
use Rattle.serde_json.specs.Data.{Data}
use Rattle.roman_read.specs.Items.{◌>>=◌, each_item, pushing}
use Rattle.roman_read.specs.Json.{member_of, text_of}
use Rattle.roman_read.specs.Names.{is_name, place_of}
use Rattle.roman_read.specs.declared.rules.Kind.TheVariants as kind
use Rattle.roman_parts.specs.Reading.{looked, found, check, items_at, counted_items}
use Rattle.roman_parts.specs.declared.error.List.{List as Place}
use Rattle.roman_parts.specs.declared.error.List.TheVariants.{Start, Finals}
use Rattle.roman_parts.specs.declared.error.PartError.{PartError}

-- the name in a value
abbrev pub name_in : Place → ℕ → Data → Result (List ℕ) PartError
name_in list i d = do
  text ← looked list i (text_of d)
  check (is_name text) kind.BadName list i text

-- the names before item i of a list of names, with the name in item i
unfoldable pub with_name_read : Place → ℕ → List (List ℕ) → Data → Result (List (List ℕ)) PartError
with_name_read list i names d = do
  name ← name_in list i d
  check (is_none (place_of names name)) kind.Repeated list i (names ++ name ∷ [])

-- a member that is a list of 1 to `most` names
unfoldable pub names_of : Place → List ℕ → ℕ → Data → Result (List (List ℕ)) PartError
names_of list member most d = do
  items ← counted_items list member 1 most d
  each_item (with_name_read list) 0 [] items

-- the place of a text in a list of names
unfoldable pub place_in : List (List ℕ) → Place → ℕ → Data → Result ℕ PartError
place_in names list i d = do
  text ← looked list i (text_of d)
  found kind.Unknown list i (place_of names text)

-- the start state
unfoldable pub start_of : List (List ℕ) → Data → Result ℕ PartError
start_of states d = do
  start ← looked Start 0 (member_of d (codes "start"))
  place_in states Start 0 start

-- the final states
unfoldable pub finals_of : List (List ℕ) → Data → Result (List ℕ) PartError
finals_of states d = do
  items ← items_at Finals (codes "final") d
  each_item (pushing (place_in states Finals)) 0 [] items
