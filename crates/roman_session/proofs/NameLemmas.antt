-- Places of names.
use Rattle.roman_session.proofs.Common.{◌≡◌, ℕ, List, [], Some, None, get_or, slice_get, arith, bytes_eq, IsIn, position-Some, slice_get-get_or, place_of, bytes_eq-Decides, Place, Option, refl, none_absent, get_in}

-- the name is at its place
pub place_there : (names : List (List ℕ)) (name : List ℕ) (i : ℕ) → place_of names name ≡ Some i → slice_get names i ≡ Some name
place_there names name i e = grind (arith, (position-Some (bytes_eq name) names i), (slice_get-get_or names i), (bytes_eq-Decides name (get_or names i [])))

-- a name that isn't in a list has no place there
pub no_name_there : (names : List (List ℕ)) (name : List ℕ) → place_of names name ≡ None → Place names name → ⊥
no_name_there names name none (i, there) = none_absent names name none (get_in names i name there)

-- a name of a list has a place there
pub in_place : (names : List (List ℕ)) (name : List ℕ) → IsIn name names → Place names name
in_place names name i = at (place_of names name) refl
  where
    at : (o : Option ℕ) → place_of names name ≡ o → Place names name
    at None e = absurd (none_absent names name e i)
    at (Some k) e = (k, place_there names name k e)
