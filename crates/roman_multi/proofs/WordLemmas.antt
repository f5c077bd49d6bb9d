-- Joined names, and tables of them.
use Rattle.roman_multi.proofs.Common.{◌≡◌, ℕ, zero, suc, ◌+◌, ◌<◌, ◌==◌, List, [], ◌∷◌, ◌++◌, length, take, get_or, slice_index, IsTrue, IsFalse, refl, sym, ap, ◌∙◌, append_assoc, arith, slice_index_or, if◌then◌else◌, list_all, and_parts, and_from, false≢true, ltb-false, le-leb, ne_eqb, take_more, is_empty, is_name, is_name_byte, joined, names_at, is_long, is_word, Named}

-- one more name is appended after a dash, unless it is the first
joined_push : (names : List (List ℕ)) (name : List ℕ) → joined (names ++ name ∷ []) ≡ joined names ++ (if is_empty names then name else 45 ∷ name)
joined_push [] name = refl
joined_push (first ∷ []) name = refl
joined_push (first ∷ other ∷ names) name = ap (λ bytes. first ++ 45 ∷ bytes) (joined_push (other ∷ names) name) ∙ sym (append_assoc first (45 ∷ joined (other ∷ names)) (45 ∷ name))

take_empty : (names : List (List ℕ)) (i : ℕ) → i < length names → is_empty (take i names) ≡ (i == 0)
take_empty [] i l = absurd (omega arith)
take_empty (name ∷ names) zero l = refl
take_empty (name ∷ names) (suc i) l = sym (ne_eqb (suc i) 0 (λ same. omega arith))

pub joined_more : (names : List (List ℕ)) (i : ℕ) (name : List ℕ) → i < length names → get_or names i [] ≡ name →
    joined (take (i + 1) names) ≡ joined (take i names) ++ (if i == 0 then name else 45 ∷ name)
joined_more names i name l is =
    ap joined (take_more names i [] l ∙ ap (λ x. take i names ++ x ∷ []) is) ∙ joined_push (take i names) name
    ∙ ap (λ b. joined (take i names) ++ (if b then name else 45 ∷ name)) (take_empty names i l)

-- the names of the states are as many as the states
pub names_at_length : (targets : List Named) (ts : List ℕ) → length ts ≡ length targets → length (names_at targets ts) ≡ length targets
names_at_length [] ts e = refl
names_at_length (named ∷ targets) [] e = absurd (omega arith)
names_at_length (named ∷ targets) (t ∷ ts) e = ap suc (names_at_length targets ts (omega arith))

pub names_at_get : (targets : List Named) (ts : List ℕ) (i : ℕ) (d : Named) → i < length targets → i < length ts →
    get_or (names_at targets ts) i [] ≡ slice_index_or (get_or targets i d).target.states (slice_index ts i) []
names_at_get [] ts i d l m = absurd (omega arith)
names_at_get (named ∷ targets) [] i d l m = absurd (omega arith)
names_at_get (named ∷ targets) (t ∷ ts) zero d l m = refl
names_at_get (named ∷ targets) (t ∷ ts) (suc i) d l m = names_at_get targets ts i d (omega arith) (omega arith)

pub word_is_name : (bytes : List ℕ) → IsTrue (is_word bytes) → IsFalse (is_long bytes) → IsTrue (is_name bytes)
word_is_name bytes t short = grind (arith, and_from, and_parts, false≢true, le-leb, ltb-false)

pub is_word_from : (bytes : List ℕ) → IsTrue (list_all is_name_byte bytes) → 0 < length bytes → IsTrue (is_word bytes)
is_word_from [] t l = absurd (omega arith)
is_word_from (b ∷ bytes) t l = t
