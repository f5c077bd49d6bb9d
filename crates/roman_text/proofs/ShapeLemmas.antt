-- The shape of a line, from its words.
use Rattle.roman_text.proofs.Common.{Bool, Err, List, Ok, Result, [], ap, arith, codes, cond, false, length, refl, sym, true, ℕ, ◌&&◌, ◌<◌, ◌∙◌, ◌∷◌, ◌≡◌, ◌≤◌, Form, TooLong, LineError, LineShape, abort, request, by_words, die, explain, freeze, delegate, is_comment, join, jump, jump_env, nothing, quit, report, observe, shape_of, shape_of_words, spelling, thaw, with_four, words_of, by_test, bytes_eq, bytes_eq-Decides, line_head, le-ltb, ltb, strip_carriage_return}
use borrow.Author.Tests.{lt-ltb}
use Rattle.roman_text.proofs.LineLemmas.{line_head-short, length-line_head}

-- a line of more than 256 bytes is an error
pub too_long : (line : List ℕ) → 256 < length line → shape_of line ≡ Err TooLong
unfolding shape_of
too_long line h = rw (lt-ltb 256 (length line) h)

-- the words of a line of at most 256 bytes decide its shape
pub shape_by_words : (line : List ℕ) → length line ≤ 256 → shape_of line ≡ shape_of_words (words_of (strip_carriage_return line))
unfolding shape_of
shape_by_words line h = rw (le-ltb 256 (length line) h)

head_step : (b : Bool) (line : List ℕ) → ltb 256 (length line) ≡ b → shape_of (line_head line) ≡ shape_of line
head_step true line e = grind (arith, length-line_head, too_long)
head_step false line e = grind (arith, line_head-short)

-- the kept part of a line has the shape of the line
pub shape_of_line_head : (line : List ℕ) → shape_of (line_head line) ≡ shape_of line
shape_of_line_head line = head_step (ltb 256 (length line)) line refl

-- a line without words has the shape that gets no reply
pub shape_of_blank : (line text : List ℕ) → length line ≤ 256 → text ≡ strip_carriage_return line → words_of text ≡ [] → shape_of line ≡ Ok nothing
shape_of_blank line text h t e = shape_by_words line h ∙ ap shape_of_words (ap words_of (sym t) ∙ e)

comment_step : (b : Bool) (word : List ℕ) (more : List (List ℕ)) → is_comment word ≡ b → b ≡ true → shape_of_words (word ∷ more) ≡ Ok nothing
comment_step b word more e h = rw (e, h)

words_step : (word : List ℕ) (more : List (List ℕ)) → is_comment word ≡ false → shape_of_words (word ∷ more) ≡ by_words word more
words_step word more e = rw e

-- a comment has the shape that gets no reply
pub shape_of_comment : (line text word : List ℕ) (more : List (List ℕ)) → length line ≤ 256 → text ≡ strip_carriage_return line → words_of text ≡ word ∷ more
    → is_comment word ≡ true → shape_of line ≡ Ok nothing
shape_of_comment line text word more h t e is =
    shape_by_words line h ∙ (ap shape_of_words (ap words_of (sym t) ∙ e) ∙ comment_step true word more is refl)

-- the first word of any other line selects its shape
pub shape_of_event_line : (line text word : List ℕ) (more : List (List ℕ)) → length line ≤ 256 → text ≡ strip_carriage_return line → words_of text ≡ word ∷ more
    → is_comment word ≡ false → shape_of line ≡ by_words word more
shape_of_event_line line text word more h t e is =
    shape_by_words line h ∙ (ap shape_of_words (ap words_of (sym t) ∙ e) ∙ words_step word more is)

-- ---- the spelling of events

no_event : {P : Type 0} (e : LineShape) → Err Form ≡ Ok e → P
no_event e h = absurd (cc)

-- the event of a word, by a table of words and their events
abbrev looked_up : List (List ℕ × LineShape) → List ℕ → Result LineShape LineError
looked_up [] w = Err Form
looked_up (key ∷ keys) w = cond (bytes_eq w key.0) (Ok key.1) (looked_up keys w)

-- each word of the table spells its event with these operands
abbrev Spell : List (List ℕ) → List (List ℕ × LineShape) → Type 0
Spell args [] = Unit {0}
Spell args (key ∷ keys) = (key.0 ∷ args ≡ spelling key.1) × Spell args keys

spelled : (args : List (List ℕ)) (keys : List (List ℕ × LineShape)) (w : List ℕ) (e : LineShape) → Spell args keys → looked_up keys w ≡ Ok e → w ∷ args ≡ spelling e
spelled args [] w e all h = no_event e h
spelled args (key ∷ keys) w e all h = by_test (bytes_eq w key.0)
    (λ t. let same : key.1 ≡ e = (let first = rw t at h in cc) in ap (λ word. word ∷ args) ((bytes_eq-Decides w key.0).0 t) ∙ all.0 ∙ ap spelling same)
    (λ f. spelled args keys w e all.1 (rw f at h))

four_step : (b d : Bool) (f e : LineShape) → cond (b && d) (Ok f) (Err Form) ≡ Ok e → (b ≡ true) × (d ≡ true) × (f ≡ e)
four_step true true f e h = (refl, refl, cc)
four_step true false f e h = no_event e h
four_step false d f e h = no_event e h

spelled_four : (w a b c d : List ℕ) (e : LineShape) → with_four w a b c d ≡ Ok e → w ∷ a ∷ b ∷ c ∷ d ∷ [] ≡ spelling e
spelled_four w a b c d e h = grind (arith, bytes_eq-Decides, four_step)

spelled_words : (w : List ℕ) (more : List (List ℕ)) (e : LineShape) → by_words w more ≡ Ok e → w ∷ more ≡ spelling e
spelled_words w [] e h = spelled [] ((codes "abort", abort) ∷ (codes "report", report) ∷ (codes "explain", explain) ∷ (codes "quit", quit) ∷ []) w e (refl, (refl, (refl, (refl, tt)))) h
spelled_words w (a ∷ []) e h =
    let keys = (codes "do", request a) ∷ (codes "use", delegate a) ∷ (codes "freeze", freeze a) ∷ (codes "thaw", thaw a) ∷ (codes "die", die a) ∷ (codes "jumpenv", jump_env a) ∷ [] in
    spelled (a ∷ []) keys w e (refl, (refl, (refl, (refl, (refl, (refl, tt)))))) h
spelled_words w (a ∷ b ∷ []) e h = spelled (a ∷ b ∷ []) ((codes "saw", observe a b) ∷ (codes "jump", jump a b) ∷ []) w e (refl, (refl, tt)) h
spelled_words w (a ∷ b ∷ c ∷ []) e h = spelled (a ∷ b ∷ c ∷ []) ((codes "join", join a b c false) ∷ []) w e (refl, tt) h
spelled_words w (a ∷ b ∷ c ∷ d ∷ []) e h = spelled_four w a b c d e h
spelled_words w (a ∷ b ∷ c ∷ d ∷ x ∷ more) e h = no_event e h

word_step : (b : Bool) (w : List ℕ) (more : List (List ℕ)) (e : LineShape) → cond b (Ok nothing) (by_words w more) ≡ Ok e → (e ≡ nothing → ⊥) → w ∷ more ≡ spelling e
word_step true w more e h some = absurd (some (cc))
word_step false w more e h some = spelled_words w more e h

-- only the words of an event have its shape
pub spelling_only : (words : List (List ℕ)) (e : LineShape) → shape_of_words words ≡ Ok e → (e ≡ nothing → ⊥) → words ≡ spelling e
spelling_only [] e h some = absurd (some (cc))
spelling_only (w ∷ more) e h some = word_step (is_comment w) w more e h some
