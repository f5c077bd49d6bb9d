-- The words of a line, from its first word on.
use Rattle.roman_text.proofs.Common.{◌≡◌, ℕ, suc, ◌+◌, ◌<◌, ◌≤◌, List, [], ◌∷◌, length, take, drop, get_or, Bool, true, false, not, cond, None, Some, refl, sym, ap, ◌∙◌, arith, drop-cons, filter, unwrap_or, not-true, nat_tests, prefix_len-le-length, passes_at_first, position, position_or_len, slice_split, words_of, is_blank, is_word_byte, has_bytes, drop_all, slice_split-cons_yes, slice_split-cons_no}

-- ---- places in a list

-- the first place that passes is at most the end
pub position_or_len-le : {X : Type 0} (p : X → Bool) (xs : List X) → position_or_len p xs ≤ length xs
position_or_len-le p xs = prefix_len-le-length (λ x. not (p x)) xs

-- the first place that passes, or the end
pub unwrap_or-position : {X : Type 0} (p : X → Bool) (xs : List X) → unwrap_or (position p xs) (length xs) ≡ position_or_len p xs
unwrap_or-position p xs = grind (arith, nat_tests, position_or_len-le)

-- the place of the first element that passes, if there is one
pub none_at : {X : Type 0} (p : X → Bool) (xs : List X) → position p xs ≡ None → length xs ≤ position_or_len p xs
none_at p xs h = grind (arith, nat_tests)

pub some_at : {X : Type 0} (p : X → Bool) (xs : List X) (i : ℕ) → position p xs ≡ Some i → (i ≡ position_or_len p xs) × (position_or_len p xs < length xs)
some_at p xs i h = grind (arith, nat_tests)

-- ---- words

-- a blank at the beginning separates nothing
words_of-blank : (byte : ℕ) (line : List ℕ) → is_blank byte ≡ true → words_of (byte ∷ line) ≡ words_of line
unfolding words_of
words_of-blank byte line e = ap (filter has_bytes) (slice_split-cons_yes is_blank byte line e)

start_step : (b : Bool) (x : ℕ) (xs : List ℕ) (n : ℕ) → is_blank x ≡ b → words_of (drop n xs) ≡ words_of xs
    → words_of (drop (cond (not (not b)) (1 + n) 0) (x ∷ xs)) ≡ words_of (x ∷ xs)
start_step true x xs n e h = let next : 1 + n ≡ suc n = omega arith in rw next (h ∙ sym (words_of-blank x xs e))
start_step false x xs n e h = refl

-- the blanks at the beginning of a line have no words
words_of-start : (line : List ℕ) → words_of (drop (position_or_len is_word_byte line) line) ≡ words_of line
words_of-start [] = refl
words_of-start (x ∷ xs) = start_step (is_blank x) x xs (position_or_len is_word_byte xs) refl (words_of-start xs)

words_of-nil : words_of [] ≡ []
unfolding words_of
words_of-nil = refl

-- a line of blanks has no words
pub no_words : (line : List ℕ) → position is_word_byte line ≡ None → words_of line ≡ []
no_words line h =
    sym (words_of-start line) ∙ (ap words_of (drop_all (position_or_len is_word_byte line) line (none_at is_word_byte line h)) ∙ words_of-nil)

-- the parts of a line after its first one
record IsPrefix (line : List ℕ) (n : ℕ) : Type 0 where
  more : List (List ℕ)
  parts : slice_split is_blank line ≡ take n line ∷ more
  words : filter has_bytes more ≡ words_of (drop n line)

prefix_step : (b : Bool) (x : ℕ) (xs : List ℕ) (n : ℕ) → is_blank x ≡ b → IsPrefix xs n → IsPrefix (x ∷ xs) (cond (not b) (1 + n) 0)
unfolding words_of
prefix_step true x xs n e f = record {
  more = slice_split is_blank xs;
  parts = slice_split-cons_yes is_blank x xs e;
  words = sym (words_of-blank x xs e);
}
prefix_step false x xs n e f = grind (arith, slice_split-cons_no)

prefix_of : (line : List ℕ) → IsPrefix line (position_or_len is_blank line)
prefix_of [] = record { more = []; parts = refl; words = sym words_of-nil }
prefix_of (x ∷ xs) = prefix_step (is_blank x) x xs (position_or_len is_blank xs) refl (prefix_of xs)

word_step : (b : Bool) (x : ℕ) (xs : List ℕ) (n : ℕ) → b ≡ false → has_bytes (take (cond (not b) (1 + n) 0) (x ∷ xs)) ≡ true
word_step b x xs n e = let next : 1 + n ≡ suc n = omega arith in rw (e, next)

-- the first word of a line that doesn't begin with a blank
word_at : (x : ℕ) (xs : List ℕ) → is_blank x ≡ false
    → words_of (x ∷ xs) ≡ take (position_or_len is_blank (x ∷ xs)) (x ∷ xs) ∷ words_of (drop (position_or_len is_blank (x ∷ xs)) (x ∷ xs))
unfolding words_of
word_at x xs e =
    let f = prefix_of (x ∷ xs) in
    let some = word_step (is_blank x) x xs (position_or_len is_blank xs) e in
    ap (filter has_bytes) f.parts ∙ keeps (take (position_or_len is_blank (x ∷ xs)) (x ∷ xs)) f.more some
    ∙ ap (λ (rest : List (List ℕ)). take (position_or_len is_blank (x ∷ xs)) (x ∷ xs) ∷ rest) f.words where
      keeps : (word : List ℕ) (more : List (List ℕ)) → has_bytes word ≡ true → filter has_bytes (word ∷ more) ≡ word ∷ filter has_bytes more
      keeps word more h = rw h

word_in : (line : List ℕ) (x : ℕ) (xs : List ℕ) → line ≡ x ∷ xs → is_blank x ≡ false
    → words_of line ≡ take (position_or_len is_blank line) line ∷ words_of (drop (position_or_len is_blank line) line)
word_in line x xs s e = rw s (word_at x xs e)

-- the first word of a line, and the words after it
pub word_first : (line rest a b : List ℕ) (i j : ℕ) → position is_word_byte line ≡ Some i → rest ≡ drop i line → j ≡ position_or_len is_blank rest
    → a ≡ take j rest → b ≡ drop j rest → words_of line ≡ a ∷ words_of b
word_first line rest a b i j found is_rest is_end is_a is_b =
    let n = position_or_len is_word_byte line in
    let at = some_at is_word_byte line i found in
    let begins : rest ≡ get_or line n 0 ∷ drop (suc n) line = is_rest ∙ (ap (λ (k : ℕ). drop k line) at.0 ∙ drop-cons line n 0 at.1) in
    let here : words_of line ≡ words_of rest = sym (words_of-start line) ∙ ap words_of (sym (is_rest ∙ ap (λ (k : ℕ). drop k line) at.0)) in
    let is_mark : is_blank (get_or line n 0) ≡ false = not-true (is_blank (get_or line n 0)) (passes_at_first is_word_byte line 0 at.1) in
    here ∙ rw (is_a, is_b, is_end) (word_in rest (get_or line n 0) (drop (suc n) line) begins is_mark)

-- the end of a word
pub ruleset places = (unwrap_or-position, position_or_len-le)
