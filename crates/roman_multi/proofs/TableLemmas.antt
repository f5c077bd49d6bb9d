-- Lists of words, and the tables of words that are names.
use Rattle.roman_multi.proofs.Common.{◌≡◌, ℕ, ◌+◌, ◌<◌, List, [], ◌∷◌, ◌++◌, map, length, take, get_or, All, Option, Some, None, IsTrue, IsFalse, is_some, refl, sym, ap, ap₂, ◌∙◌, subst, arith, IsSome, list_any, take_more, length-map, get_or-map, below, none-some, same_Some, is_name, place_of, is_long, stands_before, has_repeats, is_word, SomeIff, any_false, in_at}
use Rattle.roman_multi.proofs.ListLemmas.{none_more, any_at}
use Rattle.roman_multi.proofs.WordLemmas.{word_is_name}

-- a word that isn't too long is a name
pub read_is_name : {W : Type 0} (items : W → List ℕ) (words : List W) (i : ℕ) (w : W) → All (λ w. IsTrue (is_word (items w))) words → IsFalse (list_any is_long (map items words)) → i < length words →
    w ≡ get_or words i w → IsTrue (is_name (items w))
read_is_name items words i w all short l is =
    word_is_name (items w) (subst (λ v. IsTrue (is_word (items v))) (sym is) (all i w l))
    (subst (λ v. IsFalse (is_long v)) (get_or-map items words i w [] l ∙ ap items (sym is)) (short_at (map items words) i short (subst (λ n. i < n) (sym (length-map words items)) l)))
  where
    short_at : (names : List (List ℕ)) (i : ℕ) → IsFalse (list_any is_long names) → i < length names → IsFalse (is_long (get_or names i []))
    short_at names i short l = any_false is_long (get_or names i []) names short (in_at names i [] l)

pub made_name : (o : Option (List ℕ)) (bytes : List ℕ) → SomeIff o (IsTrue (is_name bytes)) bytes → IsTrue (is_name bytes) → IsSome o
made_name None bytes h t = absurd (h t)
made_name (Some x) bytes h t = refl

pub made_is : (o : Option (List ℕ)) (name bytes : List ℕ) (P : Type 0) → SomeIff o P bytes → o ≡ Some name → name ≡ bytes
made_is None name bytes P h e = absurd (none-some name e)
made_is (Some x) name bytes P h e = sym (same_Some x name e) ∙ h.1

-- the word at a place
pub word_at : {W : Type 0} (items : W → List ℕ) (words : List W) (i : ℕ) (w : W) → i < length words → w ≡ get_or words i w → get_or (map items words) i [] ≡ items w
word_at items words i w l is = get_or-map items words i w [] l ∙ ap items (sym is)

-- the next name is new
pub new_more : (names table : List (List ℕ)) (i : ℕ) (name : List ℕ) → table ≡ take i names → get_or names i [] ≡ name → place_of table name ≡ None → IsFalse (list_any (stands_before names) (below i)) →
    IsFalse (list_any (stands_before names) (below (i + 1)))
new_more names table i name front there new before = grind (arith, none_more)

-- the next name occurs before
pub found_before : (names table : List (List ℕ)) (i place : ℕ) (name : List ℕ) → i < length names → table ≡ take i names → get_or names i [] ≡ name → place_of table name ≡ Some place →
    IsTrue (has_repeats names)
found_before names table i place name l front there found =
    any_at (stands_before names) (length names) i l (ap is_some (ap₂ place_of (sym front) there ∙ found))

pub named_more : (names table new : List (List ℕ)) (i : ℕ) (name : List ℕ) → i < length names → table ≡ take i names → get_or names i [] ≡ name → new ≡ table ++ name ∷ [] → new ≡ take (i + 1) names
named_more names table new i name l front there step =
    step ∙ ap₂ (λ xs x. xs ++ x ∷ []) front (sym there) ∙ sym (take_more names i [] l)

-- the rules for tables of words
pub ruleset tables = (found_before, length-map, made_is, named_more, new_more, word_at)
