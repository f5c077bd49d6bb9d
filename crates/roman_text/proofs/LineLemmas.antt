-- The lines of a text that grows.
use Rattle.roman_text.proofs.Common.{◌≡◌, ℕ, suc, ◌+◌, ◌≤◌, List, [], ◌∷◌, ◌++◌, length, take, drop, get_or, Bool, true, false, cond, None, Some, refl, sym, ap, ap₂, ◌∙◌, subst, append_assoc, drop-cons, arith, ◌≢◌, zero, ◌==◌, min, ◌||◌, inl, inr, ltb-true, eqb-true, ltb, append-nil, take_all, length-take, append_cancel_left, take-append-drop, take_min, passes_at_first, position, position_or_len, is_newline, line_head, unfinished, IsSplit, both_ways, or_from, list_any-append, by_test, from_push, ended_lines-text, ended_lines_last, lines-text, lines_last, text_of_lines-push, has, lines, ended_lines, onto_ended_line, text_of_lines, IsLine}
use Rattle.roman_text.proofs.WordLemmas.{none_at, some_at}

-- ---- lines

-- one more byte at the beginning is a line of its own, or a part of the first line, or a part of the rest if no newline follows
one_more : (b c : Bool) (byte : ℕ) (bytes rest : List ℕ) (ls : List (List ℕ)) → (byte == 10) ≡ b → has bytes 10 ≡ c → IsSplit bytes ls rest → (c ≡ false → ls ≡ []) →
    IsSplit (byte ∷ bytes) (cond b ([] ∷ ls) (onto_ended_line byte ls)) (cond (b || c) rest (byte ∷ bytes))
one_more true c byte bytes rest ls e some split none = grind arith
one_more false true byte bytes rest [] e some split none = absurd (both_ways (has bytes 10) (ap (λ (bs : List ℕ). has bs 10) split.whole ∙ split.last) some)
one_more false true byte bytes rest (line ∷ ls) e some split none = grind (arith, or_from)
one_more false false byte bytes rest ls e free split none = grind (arith, or_from)

-- the bytes are their whole lines and the unfinished line
pub lines_are : (bytes : List ℕ) → IsSplit bytes (ended_lines bytes) (unfinished bytes)
unfolding unfinished
lines_are [] = record { whole = refl; each = λ line i. absurd i; last = refl }
lines_are (byte ∷ bytes) = one_more (byte == 10) (has bytes 10) byte bytes (unfinished bytes) (ended_lines bytes) refl refl (lines_are bytes) (ended_lines_last bytes)

-- the bytes have no other lines
pub lines_only : (bytes : List ℕ) (ls : List (List ℕ)) (rest : List ℕ) → IsSplit bytes ls rest → (ls ≡ ended_lines bytes) × (rest ≡ unfinished bytes)
lines_only bytes ls rest split = (same, append_cancel_left (text_of_lines ls) rest (unfinished bytes) texts)
  where
    same : ls ≡ ended_lines bytes
    same =
        sym (append-nil ls)
        ∙ ap (λ more. ls ++ more) (sym (ended_lines_last rest split.last))
        ∙ sym (ended_lines-text ls rest split.each)
        ∙ ap ended_lines (sym split.whole)

    texts : text_of_lines ls ++ rest ≡ text_of_lines ls ++ unfinished bytes
    texts = sym split.whole ∙ (lines_are bytes).whole ∙ ap (λ ls. text_of_lines ls ++ unfinished bytes) (sym same)

-- if a text continues, its ended lines stay, and its unfinished line continues
pub ended_lines-append : (xs ys : List ℕ) → ended_lines (xs ++ ys) ≡ ended_lines xs ++ ended_lines (unfinished xs ++ ys)
ended_lines-append xs ys =
    let split = lines_are xs in
    ap (λ (bytes : List ℕ). ended_lines (bytes ++ ys)) split.whole ∙ ap ended_lines (append_assoc (text_of_lines (ended_lines xs)) (unfinished xs) ys)
    ∙ ended_lines-text (ended_lines xs) (unfinished xs ++ ys) split.each

-- one more byte that is a newline ends the unfinished line
newline_split : (bytes : List ℕ) (byte : ℕ) → is_newline byte ≡ true → IsSplit (bytes ++ byte ∷ []) (ended_lines bytes ++ unfinished bytes ∷ []) []
newline_split bytes byte e = record {
  whole =
      ap₂ (λ (xs : List ℕ) (x : ℕ). xs ++ x ∷ []) split.whole (eqb-true byte 10 e)
      ∙ sym (text_of_lines-push (ended_lines bytes) (unfinished bytes))
      ∙ sym (append-nil (text_of_lines (ended_lines bytes ++ unfinished bytes ∷ [])));
  each = λ line i. elim (from_push line (unfinished bytes) (ended_lines bytes) i) [ inl before ↦ split.each line before | inr same ↦ subst IsLine (sym same) split.last ];
  last = refl;
}
  where
    split : IsSplit bytes (ended_lines bytes) (unfinished bytes)
    split = lines_are bytes

pub ended_lines-newline : (bytes : List ℕ) (byte : ℕ) → is_newline byte ≡ true → ended_lines (bytes ++ byte ∷ []) ≡ ended_lines bytes ++ unfinished bytes ∷ []
ended_lines-newline bytes byte e = sym (lines_only _ _ _ (newline_split bytes byte e)).0

pub unfinished-newline : (bytes : List ℕ) (byte : ℕ) → is_newline byte ≡ true → unfinished (bytes ++ byte ∷ []) ≡ []
unfinished-newline bytes byte e = sym (lines_only _ _ _ (newline_split bytes byte e)).1

-- more bytes without a newline continue the unfinished line
part_split : (bytes part : List ℕ) → IsLine part → IsSplit (bytes ++ part) (ended_lines bytes) (unfinished bytes ++ part)
part_split bytes part is =
    let split = lines_are bytes in
    record {
      whole = ap (λ (xs : List ℕ). xs ++ part) split.whole ∙ append_assoc (text_of_lines (ended_lines bytes)) (unfinished bytes) part;
      each = split.each;
      last = list_any-append is_newline (unfinished bytes) part ∙ or_from (has (unfinished bytes) 10) (has part 10) split.last is;
    }

pub ended_lines-part : (bytes part : List ℕ) → IsLine part → ended_lines (bytes ++ part) ≡ ended_lines bytes
ended_lines-part bytes part is = sym (lines_only _ _ _ (part_split bytes part is)).0

pub unfinished-part : (bytes part : List ℕ) → IsLine part → unfinished (bytes ++ part) ≡ unfinished bytes ++ part
unfinished-part bytes part is = sym (lines_only _ _ _ (part_split bytes part is)).1

pub unfinished-nil : unfinished [] ≡ []
unfolding unfinished
unfinished-nil = refl

-- ---- the first newline

-- the bytes before the first newline have no newline
line_until : (bytes : List ℕ) → IsLine (take (position_or_len is_newline bytes) bytes)
line_until [] = refl
line_until (x ∷ xs) = (let next : 1 + position_or_len is_newline xs ≡ suc (position_or_len is_newline xs) = omega arith in by_test (is_newline x) (λ t. rw t refl) (λ f. rw (f, next) (or_from (x == 10) (has (take (position_or_len is_newline xs) xs) 10) f (line_until xs))))

-- without a first newline the bytes have no newline
pub no_newline : (bytes : List ℕ) → position is_newline bytes ≡ None → IsLine bytes
no_newline bytes e = subst IsLine (take_all _ bytes (none_at is_newline bytes e)) (line_until bytes)

-- the bytes before the first newline and after it
pub first_newline : (bytes : List ℕ) (i : ℕ) → position is_newline bytes ≡ Some i → IsLine (take i bytes) × (bytes ≡ take i bytes ++ 10 ∷ drop (i + 1) bytes)
first_newline bytes i e =
    let n = position_or_len is_newline bytes in
    let at = some_at is_newline bytes i e in
    let newline = eqb-true (get_or bytes n 0) 10 (passes_at_first is_newline bytes 0 at.1) in
    let next : suc n ≡ n + 1 = omega arith in
    rw at.0 (line_until bytes, sym (take-append-drop n bytes) ∙ ap (λ (rest : List ℕ). take n bytes ++ rest) (drop-cons bytes n 0 at.1 ∙ ap₂ (λ (x k : ℕ). x ∷ drop k bytes) newline next))

-- ---- the kept part of a line

-- the kept part and more bytes decide the new kept part
pub line_head-append : (line part : List ℕ) → line_head (line_head line ++ part) ≡ line_head (line ++ part)
unfolding line_head
line_head-append line part = first_bytes 257 line where
  first_bytes : (n : ℕ) (line : List ℕ) → take n (take n line ++ part) ≡ take n (line ++ part)
  first_bytes zero line = refl
  first_bytes (suc n) [] = refl
  first_bytes (suc n) (x ∷ xs) = ap (λ (rest : List ℕ). x ∷ rest) (first_bytes n xs)

-- the kept part of a kept part is the same
pub line_head-again : (line whole : List ℕ) → line ≡ line_head whole → line_head line ≡ line_head whole
line_head-again line whole e = ap line_head (sym (append-nil line) ∙ ap (λ (held : List ℕ). held ++ []) e) ∙ line_head-append whole [] ∙ ap line_head (append-nil whole)

-- the kept part of an empty line is empty
pub line_head-nil : line_head [] ≡ []
unfolding line_head
line_head-nil = refl

-- a line of at most 257 bytes is kept whole
pub line_head-short : (line : List ℕ) → length line ≤ 257 → line_head line ≡ line
unfolding line_head
line_head-short line h = take_all 257 line h

-- the length of the kept part
pub length-line_head : (line : List ℕ) → length (line_head line) ≡ min 257 (length line)
unfolding line_head
length-line_head line = length-take 257 line

-- if no bytes are kept, the line is empty
pub line_head-empty : (line : List ℕ) → length (line_head line) ≡ 0 → line ≡ []
unfolding line_head
line_head-empty [] h = refl
line_head-empty (x ∷ xs) h = absurd (omega (arith, length-take 257 (x ∷ xs)))

-- the held bytes, and the next ones for which there is room, are the kept part
pub hold_room : (held bytes : List ℕ) (n room : ℕ) → n ≡ min (length bytes) room → room + length held ≡ 257 → held ++ take n bytes ≡ line_head (held ++ bytes)
unfolding line_head
hold_room held bytes n room e full = go 257 held full where
  few : take n bytes ≡ take room bytes
  few = ap (λ (n : ℕ). take n bytes) (let same : n ≡ min room (length bytes) = omega arith in same) ∙ take_min room bytes

  go : (most : ℕ) (held : List ℕ) → room + length held ≡ most → held ++ take n bytes ≡ take most (held ++ bytes)
  go zero (x ∷ xs) full = absurd (omega arith)
  go most [] full = few ∙ ap (λ (k : ℕ). take k bytes) (let same : room ≡ most = omega arith in same)
  go (suc most) (x ∷ xs) full = ap (λ (rest : List ℕ). x ∷ rest) (go most xs (omega arith))

-- ---- the end of a stream

-- the lines of a text are those that end with a newline, and the unfinished line
lines_are_ended : (bytes : List ℕ) → lines bytes ≡ ended_lines bytes ++ lines (unfinished bytes)
lines_are_ended bytes = ap lines (lines_are bytes).whole ∙ lines-text (ended_lines bytes) (unfinished bytes) (lines_are bytes).each

-- if some bytes of the last line are held, it is a line
pub lines_rest : (bytes : List ℕ) → ltb 0 (length (line_head (unfinished bytes))) ≡ true → lines bytes ≡ ended_lines bytes ++ unfinished bytes ∷ []
lines_rest bytes h =
    lines_are_ended bytes ∙ ap (λ more. ended_lines bytes ++ more) (lines_last (unfinished bytes) (lines_are bytes).last some)
  where
    some : unfinished bytes ≢ []
    some e =
        let held = ltb-true 0 (length (line_head (unfinished bytes))) h in
        omega (arith, length-line_head (unfinished bytes), ap length e)

-- if no bytes are held, there is no other line
pub lines_none : (bytes : List ℕ) → ltb 0 (length (line_head (unfinished bytes))) ≡ false → lines bytes ≡ ended_lines bytes
lines_none bytes h = grind (arith, append-nil, line_head-empty, lines_are_ended)
