-- The values of the lists of a part, and their refusals, characterised by properties.
use Rattle.std.specs.Prelude.{◌≡◌, ◌≢◌, ℕ, ◌<◌, ◌≤◌, ◌⊎◌, ◌↔◌, List, [], ◌∷◌, length, Some, Result, Ok, Err, IsTrue, IsFalse, slice_get, codes}
use Rattle.std.specs.List.{AllZip}
use Rattle.serde_json.specs.Data.{Data}
use Rattle.serde_json.specs.View.{items_of}
use Rattle.roman_model.specs.Lists.{IsIn, HasNoRepeats}
use Rattle.roman_model.specs.System.{Triple, Move}
use Rattle.roman_model.specs.declared.limits.TheConstants.{MAX_STEPS}
use Rattle.roman_read.specs.Json.{text_of, list_of}
use Rattle.roman_read.specs.Kinds.{kind_of}
use Rattle.roman_document_laws.specs.Listed.{IsListAt, IsListOf, BreaksList}
use Rattle.roman_read.specs.Names.{is_name}
use Rattle.roman_read.specs.declared.rules.Kind.TheVariants.{Form, BadName, Repeated, Unknown}
use Rattle.roman_read.specs.declared.rules.Miss.{Miss}
use Rattle.roman_parts.specs.Guards.{guarded_states}
use Rattle.roman_parts.specs.Lists.{names_of, finals_of}
use Rattle.roman_parts.specs.Steps.{triples_of, moves_of}
use Rattle.roman_parts.specs.declared.error.List.{List as Place}
use Rattle.roman_parts.specs.declared.error.List.TheVariants.{Finals, Steps}
use Rattle.roman_parts.specs.declared.error.PartError.{PartError}
use Rattle.roman_parts.specs.declared.error.PartError.TheVariants.{Refused}

-- ---- texts, names and places

-- item i isn't a text
abbrev pub IsNoText : Place → ℕ → Data → PartError → Type 0
IsNoText list i d e = (miss : Miss) × (text_of d ≡ Err miss) × (e ≡ Refused (kind_of miss) list i)

-- the item is a name that doesn't occur before
pub record IsNewName (before : List (List ℕ)) (d : Data) (name : List ℕ) : Type 0 where
  pub text : text_of d ≡ Ok name
  pub named : IsTrue (is_name name)
  pub new : IsIn name before → ⊥

-- the first rule that an item of a list of names breaks: it isn't a text, the text isn't a name, or the name occurs before
abbrev pub BreaksName : Place → ℕ → List (List ℕ) → Data → PartError → Type 0
BreaksName list i before d e =
    IsNoText list i d e
    ⊎ ((text : List ℕ) × (text_of d ≡ Ok text)
    × ((IsFalse (is_name text) × (e ≡ Refused BadName list i)) ⊎ (IsTrue (is_name text) × IsIn text before × (e ≡ Refused Repeated list i))))

-- the item is the name at place k, and doesn't occur at an earlier place
pub record IsPlace (names : List (List ℕ)) (d : Data) (k : ℕ) : Type 0 where
  pub name : List ℕ
  pub text : text_of d ≡ Ok name
  pub there : slice_get names k ≡ Some name
  pub first : (j : ℕ) → j < k → slice_get names j ≡ Some name → ⊥

-- the first rule that an item breaks if one of the names is expected: it isn't a text, or isn't one of the names
abbrev pub BreaksPlace : List (List ℕ) → Place → ℕ → Data → PartError → Type 0
BreaksPlace names list i d e = IsNoText list i d e ⊎ ((text : List ℕ) × (text_of d ≡ Ok text) × (IsIn text names → ⊥) × (e ≡ Refused Unknown list i))

-- ---- steps

-- item i isn't a list with n items
abbrev pub IsNoListOf : ℕ → ℕ → Data → PartError → Type 0
IsNoListOf n i d e =
    ((miss : Miss) × (list_of d ≡ Err miss) × (e ≡ Refused (kind_of miss) Steps i))
    ⊎ ((ds : List Data) × (list_of d ≡ Ok (items_of ds)) × (length ds ≢ n) × (e ≡ Refused Form Steps i))

-- the item is a list of a state, an action and a state
pub record IsTripleItem (states actions : List (List ℕ)) (d : Data) (x : Triple) : Type 0 where
  pub from : Data
  pub action : Data
  pub to : Data
  pub items : list_of d ≡ Ok (items_of (from ∷ action ∷ to ∷ []))
  pub from_is : IsPlace states from x.from
  pub action_is : IsPlace actions action x.action
  pub to_is : IsPlace states to x.to

-- the item is one of the names
abbrev pub HasPlace : List (List ℕ) → Data → Type 0
HasPlace names d = (k : ℕ) × IsPlace names d k

-- the first rule that a step of an environment breaks: it isn't a list of three items, or the first faulty item from the left isn't a text or isn't one of the names
abbrev pub BreaksTriple : List (List ℕ) → List (List ℕ) → ℕ → List Triple → Data → PartError → Type 0
BreaksTriple states actions i before d e =
    IsNoListOf 3 i d e
    ⊎ ((from : Data) × (action : Data) × (to : Data) × (list_of d ≡ Ok (items_of (from ∷ action ∷ to ∷ [])))
    × (BreaksPlace states Steps i from e
    ⊎ (HasPlace states from
    × (BreaksPlace actions Steps i action e
    ⊎ (HasPlace actions action × BreaksPlace states Steps i to e)))))

-- item i is a list of a state, a guard over the environment's states, an action and a state
pub record IsMoveItem (env_states actions states : List (List ℕ)) (i : ℕ) (d : Data) (x : Move) : Type 0 where
  pub from : Data
  pub guard : Data
  pub action : Data
  pub to : Data
  pub items : list_of d ≡ Ok (items_of (from ∷ guard ∷ action ∷ to ∷ []))
  pub from_is : IsPlace states from x.from
  pub guard_is : guarded_states env_states i guard ≡ Ok x.guard
  pub action_is : IsPlace actions action x.action
  pub to_is : IsPlace states to x.to

-- the first rule that a step of a behaviour breaks: it isn't a list of four items, or the first faulty item from the left is refused
abbrev pub BreaksMove : List (List ℕ) → List (List ℕ) → List (List ℕ) → ℕ → List Move → Data → PartError → Type 0
BreaksMove env_states actions states i before d e =
    IsNoListOf 4 i d e
    ⊎ ((from : Data) × (guard : Data) × (action : Data) × (to : Data) × (list_of d ≡ Ok (items_of (from ∷ guard ∷ action ∷ to ∷ [])))
    × (BreaksPlace states Steps i from e
    ⊎ (HasPlace states from
    × ((guarded_states env_states i guard ≡ Err e)
    ⊎ ((G : List ℕ) × (guarded_states env_states i guard ≡ Ok G)
    × (BreaksPlace actions Steps i action e
    ⊎ (HasPlace actions action × BreaksPlace states Steps i to e)))))))

-- ---- the laws

-- the reading gives exactly the values of a list, and refuses by the first broken rule: that of the list itself, or else that of its first
-- faulty item
pub record ReadsList {X : Type 0} (list : Place) (name : List ℕ) (Fits : ℕ → Type 0) (Is : List X → Data → X → Type 0) (Breaks : ℕ → List X → Data → PartError → Type 0) (reading : Data → Result (List X) PartError) :
    Type 0 where
  pub gives : (d : Data) (xs : List X) → (reading d ≡ Ok xs) ↔ IsListOf name Fits Is d xs
  pub refuses : (d : Data) (e : PartError) → (reading d ≡ Err e) ↔ BreaksList name (λ rule. Refused rule list 0) Fits Is Breaks d e

-- the names are the texts of the list of the member, in order: 1 to `most` distinct names
pub record AreNames (name : List ℕ) (most : ℕ) (d : Data) (names : List (List ℕ)) : Type 0 where
  pub items : List Data
  pub list : IsListAt d name items
  pub texts : AllZip (λ item name. text_of item ≡ Ok name) items names
  pub some : 0 < length names
  pub few : length names ≤ most
  pub named : (name : List ℕ) → IsIn name names → IsTrue (is_name name)
  pub once : HasNoRepeats names

-- lists of names, final states and steps are read by these properties
pub record ListsAreRead : Type 0 where
  pub names : (list : Place) (name : List ℕ) (most : ℕ) (d : Data) (names : List (List ℕ)) → (names_of list name most d ≡ Ok names) ↔ AreNames name most d names
  pub each_name : (list : Place) (name : List ℕ) (most : ℕ) → ReadsList list name (λ n. (0 < n) × (n ≤ most)) IsNewName (BreaksName list) (names_of list name most)
  pub finals : (states : List (List ℕ)) → ReadsList Finals (codes "final") (λ n. Unit {0}) (λ before d b. IsPlace states d b) (λ i before d e. BreaksPlace states Finals i d e) (finals_of states)
  pub triples : (states actions : List (List ℕ)) → ReadsList Steps (codes "steps") (λ n. n ≤ MAX_STEPS) (λ before d x. IsTripleItem states actions d x) (BreaksTriple states actions) (triples_of states actions)
  pub moves : (env_states actions states : List (List ℕ)) → ReadsList Steps (codes "steps") (λ n. n ≤ MAX_STEPS)
      (λ before d x. IsMoveItem env_states actions states (length before) d x) (BreaksMove env_states actions states) (moves_of env_states actions states)
