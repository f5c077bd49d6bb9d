-- Readings of a part that may be refused. Each refusal names the list and the item.
use Rattle.std.specs.Prelude.{◌≡◌, ℕ, ◌&&◌, Bool, List, Option, Result, Ok, Err, nat_le, if◌then◌else◌}
use Rattle.std.specs.Option.{ok_or}
use Rattle.serde_json.specs.Data.{Data, Items}
use Rattle.serde_json.specs.Events.{items_len}
use Rattle.roman_read.specs.Items.{◌>>=◌}
use Rattle.roman_read.specs.Json.{member_of, list_of}
use Rattle.roman_read.specs.Kinds.{kind_of}
use Rattle.roman_read.specs.declared.rules.Kind.{Kind}
use Rattle.roman_read.specs.declared.rules.Kind.TheVariants as kind
use Rattle.roman_read.specs.declared.rules.Miss.{Miss}
use Rattle.roman_parts.specs.declared.error.List.{List as Place}
use Rattle.roman_parts.specs.declared.error.PartError.{PartError}
use Rattle.roman_parts.specs.declared.error.PartError.TheVariants.{Refused, Memory}

-- the value that a look-up finds, or the refusal of its miss, with the list and the item
abbrev pub looked : {X : Type 0} → Place → ℕ → Result X Miss → Result X PartError
looked list i (Ok x) = Ok x
looked list i (Err miss) = Err (Refused (kind_of miss) list i)

-- the value, or the refusal if there is none
abbrev pub found : {X : Type 0} → Kind → Place → ℕ → Option X → Result X PartError
found rule list i there = ok_or there (Refused rule list i)

-- the value if it obeys the rule, and the refusal otherwise
abbrev pub check : {X : Type 0} → Bool → Kind → Place → ℕ → X → Result X PartError
check keeps rule list i x = if keeps then Ok x else Err (Refused rule list i)

-- the items of a member that is a list
unfoldable pub items_at : Place → List ℕ → Data → Result Items PartError
items_at list name d = looked list 0 (member_of d name) >>= (λ m. looked list 0 (list_of m))

-- the items of a member that is a list with `least` to `most` items
unfoldable pub counted_items : Place → List ℕ → ℕ → ℕ → Data → Result Items PartError
counted_items list name least most d = do
  items ← items_at list name d
  check (nat_le least (items_len items) && nat_le (items_len items) most) kind.Count list 0 items

-- the refusal is the one that the definition gives; nothing is stated if memory runs out
abbrev pub Fails : {Y : Type 0} → PartError → Result Y PartError → Type 0
Fails Memory reading = Unit {0}
Fails (Refused rule list i) reading = reading ≡ Err (Refused rule list i)

-- the code returns the value that the definition gives, seen through a view, or the same refusal
abbrev pub Gives : {X Y : Type 0} → (X → Y) → Result X PartError → Result Y PartError → Type 0
Gives view (Ok x) reading = reading ≡ Ok (view x)
Gives view (Err error) reading = Fails error reading
