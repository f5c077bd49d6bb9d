-- The reading of a list in a value, by properties: each item after the items before it, or the first faulty item.
use Rattle.std.specs.Prelude.{◌≡◌, ℕ, ◌⊎◌, List, [], ◌∷◌, ◌++◌, length, Ok, Err}
use Rattle.serde_json.specs.Data.{Data}
use Rattle.serde_json.specs.View.{items_of}
use Rattle.roman_read.specs.Json.{member_of, list_of}
use Rattle.roman_read.specs.Kinds.{kind_of}
use Rattle.roman_read.specs.declared.rules.Kind.{Kind}
use Rattle.roman_read.specs.declared.rules.Kind.TheVariants.{Count}
use Rattle.roman_read.specs.declared.rules.Miss.{Miss}

-- the member with this name is the list of these items
pub record IsListAt (d : Data) (name : List ℕ) (ds : List Data) : Type 0 where
  pub value : Data
  pub there : member_of d name ≡ Ok value
  pub list : list_of value ≡ Ok (items_of ds)

-- the member is missing or isn't a list, and this is the miss
abbrev pub MissesList : Data → List ℕ → Miss → Type 0
MissesList d name miss = (member_of d name ≡ Err miss) ⊎ ((value : Data) × (member_of d name ≡ Ok value) × (list_of value ≡ Err miss))

-- the items are read as these values in order; `Is` relates an item to its value after the values before it
abbrev pub AreItems : {X : Type 0} → (List X → Data → X → Type 0) → List X → List Data → List X → Type 0
AreItems Is before [] [] = Unit {0}
AreItems Is before [] (x ∷ xs) = ⊥
AreItems Is before (d ∷ ds) [] = ⊥
AreItems Is before (d ∷ ds) (x ∷ xs) = Is before d x × AreItems Is (before ++ x ∷ []) ds xs

-- the first faulty item, and the rule that it breaks by `Breaks`
pub record FaultIn {X E : Type 0} (Is : List X → Data → X → Type 0) (Breaks : ℕ → List X → Data → E → Type 0) (before : List X) (ds : List Data) (e : E) : Type 0 where
  pub front : List Data
  pub fault : Data
  pub behind : List Data
  pub split : ds ≡ front ++ fault ∷ behind
  pub read : List X
  pub are : AreItems Is before front read
  pub breaks : Breaks (length (before ++ read)) (before ++ read) fault e

-- the member is a list with a fitting number of items, and they are read as these values
pub record IsListOf {X : Type 0} (name : List ℕ) (Fits : ℕ → Type 0) (Is : List X → Data → X → Type 0) (d : Data) (xs : List X) : Type 0 where
  pub items : List Data
  pub list : IsListAt d name items
  pub fits : Fits (length items)
  pub are : AreItems Is [] items xs

-- the first rule that the member breaks: it isn't a list, or has too few or too many items, or has a faulty item
abbrev pub BreaksList : {X E : Type 0} → List ℕ → (Kind → E) → (ℕ → Type 0) → (List X → Data → X → Type 0) → (ℕ → List X → Data → E → Type 0) → Data → E → Type 0
BreaksList name refuse Fits Is Breaks d e =
    ((miss : Miss) × MissesList d name miss × (e ≡ refuse (kind_of miss)))
    ⊎ ((ds : List Data) × IsListAt d name ds × (((Fits (length ds) → ⊥) × (e ≡ refuse Count)) ⊎ (Fits (length ds) × FaultIn Is Breaks [] ds e)))
