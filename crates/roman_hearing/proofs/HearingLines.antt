-- The replies to consecutive lines, up to the first line that ends the session.
use Rattle.roman_hearing.proofs.Common.{◌≡◌, ℕ, false, List, [], ◌∷◌, ◌++◌, length, take, drop, nat_lt, nat_le, IsTrue, IsFalse, refl, sym, ap, ◌∙◌, subst, append_assoc, append-nil, take-append-drop, arith, if◌then◌else◌, cond-true, cond-false, or_parts, or_from, or_left, or_right, lines, ended_lines, by_test, unfinished, line_head, lines_rest, lines_none, ended_lines-append, Situation, Step, until_quit, Answers, Told, MAX_SESSION_BYTES, ends_session, has_quit, is_heard_out, heard_lines, list_any-append}

-- ---- lines of bytes with more bytes after them

-- the whole lines of some bytes stay whole if more bytes follow
pub ended_more : (xs ys : List ℕ) → (more : List (List ℕ)) × (ended_lines (xs ++ ys) ≡ ended_lines xs ++ more)
ended_more xs ys = (ended_lines (unfinished xs ++ ys), ended_lines-append xs ys)

-- the lines of some bytes begin with the whole ones
pub lines_more : (bytes : List ℕ) → (more : List (List ℕ)) × (lines bytes ≡ ended_lines bytes ++ more)
lines_more bytes =
    by_test (nat_lt 0 (length (line_head (unfinished bytes)))) (λ some. (unfinished bytes ∷ [], lines_rest bytes some))
    (λ none. ([], lines_none bytes none ∙ sym (append-nil (ended_lines bytes))))

-- ---- lines that end the session

pub quit_left : (ls ms : List (List ℕ)) → IsTrue (has_quit ls) → IsTrue (has_quit (ls ++ ms))
quit_left ls ms h = list_any-append ends_session ls ms ∙ or_left (has_quit ls) (has_quit ms) h

pub quitless_both : (ls ms : List (List ℕ)) → IsFalse (has_quit ls) → IsFalse (has_quit ms) → IsFalse (has_quit (ls ++ ms))
quitless_both ls ms h i = list_any-append ends_session ls ms ∙ or_from (has_quit ls) (has_quit ms) h i

pub quit_last : (ls : List (List ℕ)) (line : List ℕ) → IsTrue (ends_session line) → IsTrue (has_quit (ls ++ line ∷ []))
quit_last ls line h = list_any-append ends_session ls (line ∷ []) ∙ or_right (has_quit ls) (has_quit (line ∷ [])) (or_left (ends_session line) false h)

pub quitless_last : (ls : List (List ℕ)) (line : List ℕ) → IsFalse (has_quit ls) → IsFalse (ends_session line) → IsFalse (has_quit (ls ++ line ∷ []))
quitless_last ls line h i = quitless_both ls (line ∷ []) h (or_from (ends_session line) false i refl)

-- after lines that don't end the session, the next lines are answered up to their first `quit`
goes_on : (ls ms : List (List ℕ)) → IsFalse (has_quit ls) → until_quit (ls ++ ms) ≡ ls ++ until_quit ms
goes_on [] ms h = refl
goes_on (line ∷ ls) ms h = grind (arith, or_parts, cond-false, (goes_on ls ms))

-- after a line that ends the session, no more lines are answered
stops : (ls ms : List (List ℕ)) → IsTrue (has_quit ls) → until_quit (ls ++ ms) ≡ until_quit ls
stops [] ms h = absurd (let e : ⊥ = cc in e)
stops (line ∷ ls) ms h = grind (arith, by_test, cond-true, cond-false, (stops ls ms))

-- the answered lines are those up to the first `quit`
pub answered_heard : (session : List ℕ) →
    until_quit (heard_lines session) ≡ until_quit (if nat_le (length session) MAX_SESSION_BYTES then lines session else ended_lines (take MAX_SESSION_BYTES session))
answered_heard session =
    let few = nat_le (length session) MAX_SESSION_BYTES in
    let all = lines session in
    let first = ended_lines (take MAX_SESSION_BYTES session) in
    let begins = ended_more (take MAX_SESSION_BYTES session) (drop MAX_SESSION_BYTES session) in
    by_test few (λ short. ap until_quit (cond-true (is_heard_out session) all first (or_left few (has_quit first) short) ∙ sym (cond-true few all first short)))
    (λ long. by_test (has_quit first) (grind (arith, (lines_more session), begins, (take-append-drop MAX_SESSION_BYTES session), append_assoc, cond-true, or_right, stops, (cond-false few all first long)))
    (λ quitless. ap until_quit (cond-false (is_heard_out session) all first (or_from few (has_quit first) long quitless) ∙ sym (cond-false few all first long))))

-- any last line is answered
until_last : (line : List ℕ) → until_quit (line ∷ []) ≡ line ∷ []
until_last line = grind (arith, by_test, cond-false, cond-true)

all_lines : (ls : List (List ℕ)) → IsFalse (has_quit ls) → until_quit ls ≡ ls
all_lines ls h = ap until_quit (sym (append-nil ls)) ∙ goes_on ls [] h ∙ append-nil ls

-- ---- replies

-- the replies to some lines, followed by the replies to others
answers_then : (old mid new : Situation) (ls ms : List (List ℕ)) (text more : List ℕ) → Answers old ls text mid → Answers mid ms more new → Answers old (ls ++ ms) (text ++ more) new
answers_then old mid new [] ms text more (none, same) rest = grind arith
answers_then old mid new (line ∷ ls) ms text more (said, later, next, split, step, answers) rest = grind (arith, append_assoc, (answers_then next mid new ls ms later more answers rest))

-- the replies to more lines
pub told_then : (old mid new : Situation) (ls ms : List (List ℕ)) (text more : List ℕ) → IsFalse (has_quit ls) → Told old ls text mid → Told mid ms more new → Told old (ls ++ ms) (text ++ more) new
told_then old mid new ls ms text more quitless told rest = grind (arith, all_lines, answers_then, goes_on)

-- the reply to one more line
pub told_push : (old mid new : Situation) (ls : List (List ℕ)) (line text more : List ℕ) → IsFalse (has_quit ls) → Told old ls text mid → Step mid line more new →
    Told old (ls ++ line ∷ []) (text ++ more) new
told_push old mid new ls line text more quitless told step = grind (arith, told_then, until_last, append-nil)

-- no reply follows a line that ends the session
pub told_stops : (old new : Situation) (ls ms : List (List ℕ)) (text : List ℕ) → IsTrue (has_quit ls) → Told old ls text new → Told old (ls ++ ms) text new
told_stops old new ls ms text quit told = subst (λ (rest : List (List ℕ)). Answers old rest text new) (sym (stops ls ms quit)) told
