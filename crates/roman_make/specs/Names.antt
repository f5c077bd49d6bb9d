-- Words that are distinct names.
use Rattle.std.specs.Prelude.{ℕ, ◌&&◌, ◌∷◌, ◌++◌, [], Bool, true, List, is_none}
use Rattle.roman_read.specs.Names.{is_name, place_of}

-- each word is a name, and differs from each word before it
abbrev pub are_new : List (List ℕ) → List (List ℕ) → Bool
are_new before [] = true
are_new before (word ∷ words) = is_name word && is_none (place_of before word) && are_new (before ++ word ∷ []) words
