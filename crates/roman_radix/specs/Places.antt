-- Tables of fixed length with a number for each component.
use Rattle.std.specs.Prelude.{ℕ, ◌-◌, List, [], ◌∷◌, ◌++◌, length, replicate}
use Rattle.roman_model.specs.Lists.{product_of}
use Rattle.roman_model.specs.declared.limits.TheConstants.{MAX_SERVICES}

-- the numbers, followed by zeros up to the greatest number of services
abbrev pub padded : List ℕ → List ℕ
padded ns = ns ++ replicate (MAX_SERVICES - length ns) 0

-- the stride of each component
abbrev pub strides_of : List ℕ → List ℕ
strides_of [] = []
strides_of (size ∷ sizes) = product_of sizes ∷ strides_of sizes
