-- Words that are numbered as names, one by one.
use Rattle.roman_make.proofs.Common.{◌≡◌, ℕ, ◌+◌, ◌<◌, ◌++◌, ◌∷◌, [], List, length, get_or, drop, map, None, IsTrue, Bor, ap, sym, ◌∙◌, subst, add-one, drop-cons, arith, append_assoc, append-nil, ◌≤◌, and_parts, drop_all, is_name, place_of, none_is, are_new}

-- the word is a name and differs from each word before it, and the words after it are new too
pub record IsNext (before : List (List ℕ)) (word : List ℕ) (rest : List (List ℕ)) : Type 0 where
  pub name : IsTrue (is_name word)
  pub new : place_of before word ≡ None
  pub further : IsTrue (are_new (before ++ word ∷ []) rest)

next_word : (before : List (List ℕ)) (word : List ℕ) (rest : List (List ℕ)) → IsTrue (are_new before (word ∷ rest)) → IsNext before word rest
next_word before word rest new = grind (arith, and_parts, none_is)

-- the words from their references
abbrev pub shown : List (Bor (List ℕ)) → List (List ℕ)
shown words = map (λ word. word.now) words

-- the first i words are numbered, and the words after them are new
pub record AreNumbered (words : List (Bor (List ℕ))) (i : ℕ) (names : List (List ℕ)) : Type 0 where
  pub all : names ++ shown (drop i words) ≡ shown words
  pub further : IsTrue (are_new names (shown (drop i words)))

-- one word comes next
split : (words : List (Bor (List ℕ))) (d : Bor (List ℕ)) (i : ℕ) → i < length words → shown (drop i words) ≡ (get_or words i d).now ∷ shown (drop (i + 1) words)
split words d i less = ap shown (drop-cons words i d less) ∙ ap (λ j. (get_or words i d).now ∷ shown (drop j words)) (sym (add-one i))

-- the next word is new
pub next_numbered : (words : List (Bor (List ℕ))) (d : Bor (List ℕ)) (i : ℕ) (names : List (List ℕ)) → i < length words → AreNumbered words i names
    → IsNext names (get_or words i d).now (shown (drop (i + 1) words))
next_numbered words d i names less old = next_word names _ _ (subst (λ xs. IsTrue (are_new names xs)) (split words d i less) old.further)

-- the next word is numbered
pub numbers_next : (words : List (Bor (List ℕ))) (d : Bor (List ℕ)) (i : ℕ) (names after : List (List ℕ)) → i < length words → AreNumbered words i names
    → after ≡ names ++ (get_or words i d).now ∷ [] → AreNumbered words (i + 1) after
numbers_next words d i names after less old made = record {
  all = ap (λ xs. xs ++ shown (drop (i + 1) words)) made ∙ append_assoc names _ _ ∙ ap (λ xs. names ++ xs) (sym (split words d i less)) ∙ old.all;
  further = rw made (next_numbered words d i names less old).further;
}

-- no word is left
pub all_numbered : (words : List (Bor (List ℕ))) (i : ℕ) (names : List (List ℕ)) → length words ≤ i → AreNumbered words i names → names ≡ shown words
all_numbered words i names end old = sym (append-nil names) ∙ ap (λ xs. names ++ shown xs) (sym (drop_all i words end)) ∙ old.all
