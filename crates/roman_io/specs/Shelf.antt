-- The content of a shelf: texts by name.
use Rattle.std.specs.Prelude.{◌≡◌, ℕ, ◌^◌, ◌<◌, ◌≤◌, ◌↔◌, List, [], ◌∷◌, length, take, drop, Option, None, Some, unwrap_or, if◌then◌else◌}
use Rattle.std.specs.Str.{bytes_eq}

-- names with their texts
abbrev pub Texts : Type 0
Texts = List (List ℕ × List ℕ)

-- the first text with the name, if any
abbrev pub text_at : Texts → List ℕ → Option (List ℕ)
text_at [] name = None
text_at (t ∷ ts) name = if bytes_eq t.0 name then Some t.1 else text_at ts name

-- the first text with the name, or the empty text
abbrev pub shelf_text : Texts → List ℕ → List ℕ
shelf_text ts name = unwrap_or (text_at ts name) []

-- the text is shorter than 2^63 bytes, the first n bytes of `into` are those of the text from `at` on,
-- and for a non-empty `into`, n is 0 exactly at or past the end of the text
pub record Fetches (text : List ℕ) (at : ℕ) (into : List ℕ) (n : ℕ) : Type 0 where
  pub short : length text < 2 ^ 63
  pub within : n ≤ length (drop at text)
  pub bytes : take n into ≡ take n (drop at text)
  pub ends : 0 < length into → ((n ≡ 0) ↔ (drop at text ≡ []))

-- the rest of a text from `at` on, if the shelf exposes it
abbrev pub rest_from : Option Texts → List ℕ → ℕ → Option (List ℕ)
rest_from None name at = None
rest_from (Some ts) name at = Some (drop at (shelf_text ts name))
