-- Guards in a document: the environment states that a value means.
use Rattle.std.specs.Prelude.{ℕ, Bool, List, [], ◌∷◌, length, Option, Some, None, option_and_then, Result, Ok, Err, codes, if◌then◌else◌}
use Rattle.std.specs.Str.{bytes_eq}
use Rattle.serde_json.specs.Data.{Data, null, boolean, number, string, array, object, Items, no_items, item, Members, no_members, member}
use Rattle.serde_json.specs.Find.{as_object}
use Rattle.roman_read.specs.Items.{◌>>=◌, each_item, pushing}
use Rattle.roman_read.specs.declared.rules.Kind.TheVariants.{Form}
use Rattle.roman_guard.specs.Meaning.{is_one_of, complement, intersection, union, states_below}
use Rattle.roman_parts.specs.Lists.{place_in}
use Rattle.roman_parts.specs.declared.error.List.TheVariants.{Steps}
use Rattle.roman_parts.specs.declared.error.PartError.{PartError}
use Rattle.roman_parts.specs.declared.error.PartError.TheVariants.{Refused}

-- the only member of a list with exactly one member
abbrev pub sole_member : Members → Option (List ℕ × Data)
sole_member no_members = None
sole_member (member name d no_members) = Some (name, d)
sole_member (member name d (member k e ms)) = None

-- the only member of an object with exactly one member
abbrev pub sole_of : Data → Option (List ℕ × Data)
sole_of d = option_and_then sole_member (as_object d)

-- the refusal of a value that isn't a guard, in step i
abbrev pub no_guard : {X : Type 0} → ℕ → Result X PartError
no_guard i = Err (Refused Form Steps i)

-- the state of item k of a list of states, in step i
unfoldable pub state_in : List (List ℕ) → ℕ → ℕ → Data → Result ℕ PartError
state_in states i k d = place_in states Steps i d

-- the states of a list of states
unfoldable pub among_of : List (List ℕ) → ℕ → Items → Result (ℕ → Bool) PartError
among_of states i items = do
  places ← each_item (pushing (state_in states i)) 0 [] items
  Ok (is_one_of places)

-- the meaning of a formula by the name of its operator; its part is read as one guard or as a list of guards
abbrev pub operator_of : ℕ → List ℕ → Result (ℕ → Bool) PartError → Result (List (ℕ → Bool)) PartError → Result (ℕ → Bool) PartError
operator_of i name one many =
    if bytes_eq name (codes "not") then (one >>= (λ set. Ok (complement set)))
    else (if bytes_eq name (codes "all") then (many >>= (λ sets. Ok (intersection sets)))
    else (if bytes_eq name (codes "any") then (many >>= (λ sets. Ok (union sets)))
    else no_guard i))

unfoldable mutual
  -- the states in which a guard holds
  pub guard_of : List (List ℕ) → ℕ → Data → Result (ℕ → Bool) PartError
  guard_of states i null = no_guard i
  guard_of states i (boolean b) = Ok (λ _. b)
  guard_of states i (number n) = no_guard i
  guard_of states i (string s) = no_guard i
  guard_of states i (array items) = among_of states i items
  guard_of states i (object no_members) = no_guard i
  guard_of states i (object (member name d no_members)) = operator_of i name (guard_of states i d) (guards_of states i d)
  guard_of states i (object (member name d (member k e ms))) = no_guard i

  -- the states of each guard of a list
  pub guards_of : List (List ℕ) → ℕ → Data → Result (List (ℕ → Bool)) PartError
  guards_of states i null = no_guard i
  guards_of states i (boolean b) = no_guard i
  guards_of states i (number n) = no_guard i
  guards_of states i (string s) = no_guard i
  guards_of states i (array items) = each_guard states i items
  guards_of states i (object ms) = no_guard i

  -- the states of each guard, item by item
  pub each_guard : List (List ℕ) → ℕ → Items → Result (List (ℕ → Bool)) PartError
  each_guard states i no_items = Ok []
  each_guard states i (item d ds) = guard_of states i d >>= (λ set. each_guard states i ds >>= (λ sets. Ok (set ∷ sets)))

-- the environment states in which a guard holds, rising
unfoldable pub guarded_states : List (List ℕ) → ℕ → Data → Result (List ℕ) PartError
guarded_states states i d = do
  set ← guard_of states i d
  Ok (states_below set (length states))
