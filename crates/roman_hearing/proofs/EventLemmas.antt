-- Each line is read as its shape states.
use Rattle.roman_hearing.proofs.Common.{◌≡◌, ℕ, ◌≤◌, Bool, true, false, List, [], ◌∷◌, length, cond, codes, Result, Ok, Err, IsFalse, inl, nat_lt, refl, sym, ◌∙◌, subst, ltb-true, ltb-false, arith, bytes_eq, false≢true, both_ways, cond-true, cond-false, by_test, LineShape, nothing, join, shape_of, words_of, is_comment, by_words, shape_of_words, spelling, LineError, strip_carriage_return, Form, Reads, LinesAreRead}
use Rattle.roman_text.specs.declared.errors.LineError.TheVariants.{TooLong}

-- words that aren't a comment are read as some event or an error

abbrev gives_nothing : Result LineShape LineError → Bool
gives_nothing (Ok nothing) = true
gives_nothing _ = false

other_first : (b : Bool) (event : LineShape) (other : Result LineShape LineError) → IsFalse (gives_nothing (Ok event)) → IsFalse (gives_nothing other) → IsFalse (gives_nothing (cond b (Ok event) other))
other_first true event other first rest = first
other_first false event other first rest = rest

words_give : (word : List ℕ) (more : List (List ℕ)) → IsFalse (gives_nothing (by_words word more))
words_give word [] = grind (arith, other_first)
words_give word (a ∷ []) = grind (arith, other_first)
words_give word (a ∷ b ∷ []) = grind (arith, other_first)
words_give word (a ∷ b ∷ c ∷ []) = other_first (bytes_eq word (codes "join")) (join a b c false) (Err Form) refl refl
words_give word (a ∷ b ∷ c ∷ d ∷ []) = other_first _ (join a b c true) (Err Form) refl refl
words_give word (a ∷ b ∷ c ∷ d ∷ e ∷ more) = refl

module _ (read : (event : LineShape) → shape_of_words (spelling event) ≡ Ok event) (only : (words : List (List ℕ)) (event : LineShape) → shape_of_words words ≡ Ok event → (event ≡ nothing → ⊥) → words ≡ spelling event)
    (line : List ℕ) where
  -- a shape that isn't that of a comment
  shape_reads : (word : List ℕ) (more : List (List ℕ)) (r : Result LineShape LineError) → length line ≤ 256 → words_of (strip_carriage_return line) ≡ word ∷ more → IsFalse (is_comment word) →
      shape_of_words (word ∷ more) ≡ r → IsFalse (gives_nothing r) → Reads line r
  shape_reads word more (Err why) few words plain is some = grind (arith, both_ways)
  shape_reads word more (Ok nothing) few words plain is some = absurd (false≢true (sym some))
  shape_reads word more (Ok event) few words plain is some = (few, words ∙ only (word ∷ more) event is (λ h. absurd (let e : ⊥ = cc in e)))

  words_read : (words : List (List ℕ)) → length line ≤ 256 → words_of (strip_carriage_return line) ≡ words → Reads line (shape_of_words words)
  words_read [] few is = (few, inl is)
  words_read (word ∷ more) few is = grind (arith, by_test, cond-true, shape_reads, gives_nothing, cond-false, words_give)

  line_reads : Reads line (shape_of line)
  unfolding shape_of
  line_reads =
      let words = words_of (strip_carriage_return line) in
      by_test (nat_lt 256 (length line))
      (λ long. subst (Reads line) (sym (cond-true (nat_lt 256 (length line)) (Err TooLong) (shape_of_words words) long)) (inl (ltb-true 256 (length line) long)))
      (λ short. subst (Reads line) (sym (cond-false (nat_lt 256 (length line)) (Err TooLong) (shape_of_words words) short)) (words_read words (ltb-false 256 (length line) short) refl))

pub lines_read : ((event : LineShape) → shape_of_words (spelling event) ≡ Ok event) → ((words : List (List ℕ)) (event : LineShape) → shape_of_words words ≡ Ok event → (event ≡ nothing → ⊥) → words ≡ spelling event) → LinesAreRead
lines_read read only line = line_reads read only line
