-- Vectors that are used as tables with reserved room.
use Rattle.std.specs.Prelude.{◌≡◌, ◌<◌, length, vec_capacity}
use Rattle.std.specs.declared.vec.Vec.{Vec}

-- the vector has room for one more element
abbrev pub HasRoom : {X : Type 0} {Z : Type 0} → Vec X Z → Type 0
HasRoom xs = length xs.items < vec_capacity xs

-- the two vectors have room for as many elements
abbrev pub SameRoom : {X : Type 0} {Z : Type 0} → Vec X Z → Vec X Z → Type 0
SameRoom xs ys = vec_capacity ys ≡ vec_capacity xs
