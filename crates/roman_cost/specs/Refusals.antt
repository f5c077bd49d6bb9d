-- The errors that name the first broken rule of a text of costs.
use Rattle.std.specs.Prelude.{◌≡◌, ℕ, Bool, true, false, List, Result, Ok, Err}
use Rattle.roman_io.specs.Faults.{Rose}
use Rattle.roman_io.specs.declared.shelf.Shelf.{Ghosts as ShelfView}
use Rattle.roman_parts.specs.declared.error.List.{List as Place}
use Rattle.roman_parts.specs.declared.error.List.TheVariants as list
use Rattle.roman_parts.specs.declared.error.PartError.{PartError}
use Rattle.roman_parts.specs.declared.error.PartError.TheVariants as part_error
use Rattle.roman_cost.specs.Tables.{CostTable}
use Rattle.roman_cost.specs.declared.costs.Listed.{Listed}
use Rattle.roman_cost.specs.declared.error.CostError.{CostError}
use Rattle.roman_cost.specs.declared.error.CostError.TheVariants as error

-- the place of a broken rule: the text as a whole, or an item
abbrev pub list_of_rule : Bool → Place
list_of_rule true = list.Whole
list_of_rule false = list.Steps

-- a refusal is the one that the definition gives; nothing is stated after a fault and out of memory
abbrev pub IsRefusedBy : {Y : Type 0} → CostError → Result Y PartError → Type 0
IsRefusedBy error.Fault reading = Unit {0}
IsRefusedBy (error.Refused kind whole index) reading = reading ≡ Err (part_error.Refused kind (list_of_rule whole) index)
IsRefusedBy error.Memory reading = Unit {0}

-- the view of the value that the code reads is the value that the definition gives; a refusal is also the one that the
-- definition gives
abbrev pub ReadsAs : {X Y : Type 0} → (X → Y) → Result X CostError → Result Y PartError → Type 0
ReadsAs view (Ok x) reading = reading ≡ Ok (view x)
ReadsAs view (Err e) reading = IsRefusedBy e reading

-- the costs that the code reads are those that the definition lists
abbrev pub ReadsCosts : Result CostTable CostError → Result (List Listed) PartError → Type 0
ReadsCosts result reading = ReadsAs (λ costs. costs.listed) result reading

-- the count of faults rose if the error is a fault, and stayed the same otherwise
abbrev pub IsCostCause : ℕ → ℕ → CostError → Type 0
IsCostCause old new error.Fault = Rose old new
IsCostCause old new (error.Refused kind whole index) = new ≡ old
IsCostCause old new error.Memory = new ≡ old

-- the count of faults rose if the result is a fault, and stayed the same otherwise
abbrev pub HasCostCause : {T : Type 0} → ℕ → ℕ → Result T CostError → Type 0
HasCostCause old new (Ok x) = new ≡ old
HasCostCause old new (Err e) = IsCostCause old new e

-- the same of the shelf's count of faults
abbrev pub HasShelfCause : {X T : Type 0} → ShelfView X → X → X → Result T CostError → Type 0
HasShelfCause F old new result = HasCostCause (F.faults old) (F.faults new) result

-- the result isn't a fault
abbrev pub IsFaultless : {T : Type 0} → Result T CostError → Type 0
IsFaultless (Ok x) = Unit {0}
IsFaultless (Err error.Fault) = ⊥
IsFaultless (Err (error.Refused kind whole index)) = Unit {0}
IsFaultless (Err error.Memory) = Unit {0}
