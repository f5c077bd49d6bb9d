-- The effect of a call that reads from a source or a shelf, for objects in memory.
use Rattle.std.specs.Prelude.{◌≡◌, ℕ, ◌<◌, ◌≤◌, List, length, Option, Result, IfOk, IfSome}
use Rattle.roman_io.specs.Shelf.{Texts, Fetches, shelf_text}
use Rattle.roman_io.specs.Source.{EndsAt, Takes}

-- the bytes that a call takes, as each source promises
pub record IsTake {E : Type 0} (old new : Option (List ℕ)) (into : List ℕ) (result : Result ℕ E) : Type 0 where
  pub bound : IfOk result (λ n. n ≤ length into)
  pub moves : Takes old new into result
  pub ends : IfOk result (λ n. 0 < length into → EndsAt old n)

-- the bytes that a call fetches, as each shelf promises
pub record IsFetch {E : Type 0} (old new : Option Texts) (name : List ℕ) (at : ℕ) (into : List ℕ) (result : Result ℕ E) : Type 0 where
  pub bound : IfOk result (λ n. n ≤ length into)
  pub bytes : IfSome old (λ ts. IfOk result (Fetches (shelf_text ts name) at into))
  pub texts : new ≡ old
