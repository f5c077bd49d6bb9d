-- Readings in sequence, each of which may be refused, and readings of the items of a list in order.
use Rattle.std.specs.Prelude.{ℕ, ◌+◌, List, [], ◌∷◌, ◌++◌, Result, Ok, Err}
use Rattle.serde_json.specs.Data.{Data, Items, no_items, item}

infixl 10 ◌>>=◌
-- the second reading continues from the value of the first, and the first refusal is the result
abbrev pub ◌>>=◌ : {X Y E : Type 0} → Result X E → (X → Result Y E) → Result Y E
Ok x >>= f = f x
Err e >>= f = Err e

-- the reading of each item in order, from item i and the state s on
unfoldable pub each_item : {S E : Type 0} → (ℕ → S → Data → Result S E) → ℕ → S → Items → Result S E
each_item read i s no_items = Ok s
each_item read i s (item d ds) = read i s d >>= (λ t. each_item read (i + 1) t ds)

-- the reading of an item, whose value is appended to those read before
unfoldable pub pushing : {X E : Type 0} → (ℕ → Data → Result X E) → ℕ → List X → Data → Result (List X) E
pushing read i xs d = read i d >>= (λ x. Ok (xs ++ x ∷ []))
