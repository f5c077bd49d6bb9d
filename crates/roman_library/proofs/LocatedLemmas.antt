-- Parts with their documents, and readings that stop at their first refusal.
use Rattle.roman_library.proofs.Common.{Err, IfOk, IfSome, List, None, Ok, Option, Result, Some, ap, get_or, length, refl, subst, sym, ℕ, ◌<◌, ◌≡◌, Texts, Gives, PartError, IsLeft, ends, ◌>>=◌, Data, view, Value, Loads, Locates, Stops, located, LoadError, Part, Refusal}
use Rattle.roman_parts.specs.declared.error.PartError.TheVariants as part_error
use Rattle.roman_library.specs.declared.refusal.LoadError.TheVariants as error

-- the value that was read of a part is the one that its definition gives
pub located_ok : {X Y : Type 0} (view : X → Y) (document : List ℕ) (part : Part) (read : Result X PartError) (reading : Result Y PartError) (x : X)
    → Gives view read reading → Locates document part read (Ok x) → located document part reading ≡ Ok (view x)
located_ok view document part (Ok y) reading x gives places = rw gives (ap (λ z. Ok (view z)) (sym places))
located_ok view document part (Err e) reading x gives places = absurd places

-- a property of the value that was read is a property of the result
pub located_holds : {X : Type 0} (P : X → Type 0) (document : List ℕ) (part : Part) (read : Result X PartError) (x : X) → IfOk read P → Locates document part read (Ok x) → P x
located_holds P document part (Ok y) x is places = subst P (sym places) is
located_holds P document part (Err e) x is places = absurd places

-- the result for a part is the one that its definition gives
pub located_loads : {X Y : Type 0} (view : X → Y) (document : List ℕ) (part : Part) (read : Result X PartError) (reading : Result Y PartError) (given : Result X LoadError)
    → Gives view read reading → Locates document part read given → Loads view given (located document part reading)
located_loads view document part (Ok x) reading (Ok y) gives places = rw gives (ap (λ z. Ok (view z)) (sym places))
located_loads view document part (Ok x) reading (Err why) gives places = absurd places
located_loads view document part (Err e) reading (Ok y) gives places = absurd places
located_loads view document part (Err (part_error.Refused rule list i)) reading (Err error.Fault) gives places = absurd places
located_loads view document part (Err (part_error.Refused rule list i)) reading (Err (error.Refused refusal)) gives places = rw gives (ap Err (sym places))
located_loads view document part (Err (part_error.Refused rule list i)) reading (Err error.Memory) gives places = tt
located_loads view document part (Err part_error.Memory) reading (Err why) gives places = subst (λ (e : LoadError). Stops e (located document part reading)) (sym places) tt

-- the refusal of a reading is the refusal of each reading that continues from it
pub stops_all : {X Y : Type 0} (why : LoadError) (reading : Result X Refusal) (f : X → Result Y Refusal) → Stops why reading → Stops why (reading >>= f)
stops_all error.Fault reading f stops = tt
stops_all (error.Refused refusal) reading f stops = rw stops
stops_all error.Memory reading f stops = tt

-- the refusal of an item is the refusal of the list
pub stops_left : {X : Type 0} (add : ℕ → List X → Data → Result (List X) Refusal) (items : List Value) (i : ℕ) (before : List X) (x : Value) (why : LoadError) (all : Result (List X) Refusal)
    → i < length items → x ≡ get_or items i x → Stops why (add i before (view x)) → IsLeft add items i before all → Stops why all
stops_left add items i before x error.Fault all h e stops left = tt
stops_left add items i before x (error.Refused refusal) all h e stops left = ends add items i before x refusal all h e stops left
stops_left add items i before x error.Memory all h e stops left = tt

-- a fact about the texts of a shelf that exposes them
pub where_told : (told : Option Texts) (P : Texts → Type 0) → ((texts : Texts) → told ≡ Some texts → P texts) → IfSome told P
where_told None P holds = tt
where_told (Some texts) P holds = holds texts refl
