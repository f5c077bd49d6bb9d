-- Names, and the places of names in a list of names.
use Rattle.std.specs.Prelude.{◌≡◌, ℕ, ◌-◌, ◌++◌, ◌&&◌, ◌||◌, ◌==◌, Bool, List, length, take, replicate, nat_le, Option, position}
use Rattle.std.specs.Char.{is_ascii_alphanumeric}
use Rattle.std.specs.List.{list_all}
use Rattle.std.specs.Str.{bytes_eq}

-- an ASCII letter, a digit, `_` or `-`
abbrev pub is_name_byte : ℕ → Bool
is_name_byte c = is_ascii_alphanumeric c || c == 95 || c == 45

-- 1 to 32 bytes, each an ASCII letter, a digit, `_` or `-`
abbrev pub is_name : List ℕ → Bool
is_name bytes = nat_le 1 (length bytes) && nat_le (length bytes) 32 && list_all is_name_byte bytes

-- the room of 32 bytes has len bytes, and zeros after them
pub record IsPadded (room : List ℕ) (len : ℕ) : Type 0 where
  pub short : length (take len room) ≡ len
  pub zeros : take len room ++ replicate (32 - length (take len room)) 0 ≡ room

-- the place of the first name with these bytes, if any
abbrev pub place_of : List (List ℕ) → List ℕ → Option ℕ
place_of names bytes = position (bytes_eq bytes) names
