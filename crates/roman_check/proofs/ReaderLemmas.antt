-- Texts that are read byte by byte.
use Rattle.roman_check.proofs.Common.{◌≡◌, ℕ, ◌+◌, ◌-◌, ◌<◌, ◌≤◌, List, [], ◌∷◌, ◌++◌, length, take, drop, get_or, Option, Some, None, refl, sym, ap, ◌∙◌, subst, inl, inr, arith, append_assoc, append-nil, length-append, length-drop, take_rest, take_all, take-append-drop, get_or-drop, nil_from_length, take_more, cases_lt, lines, text_of_lines, IsLine, Arena, Entry, Reader, Audit, Why, Form, fault_of, HasRead, TakesEntry, Judges, IsInRows, possible_small, entry_of-is, entry_is_line, from_push, text_of_lines-push, lines-text, lines_last, append_line, clean_push, verdict_at, IsEndedAt, HasEntry, HasLines, IsReading, IsBetween, ReadsPart, EndsLine, one_if_clean, Closes, HasReached, SplitsAfter, IsNumbered, Holds, Rejected, line_fault, Line}
use Rattle.roman_check.proofs.Texts.{taken_more}
use Rattle.roman_check.proofs.AuditLemmas.{few_numbered}
use Rattle.roman_check.proofs.EntryLemmas.{entry_there}
use Rattle.roman_check.proofs.LongLines.{long_line}

-- One line

-- a line that is too long is judged by that alone
pub judged_long : (A : Arena ℕ) → IsNumbered A → (audit : Audit) (line : List ℕ) → 32 < length line → Judges A audit audit line (Some Form)
judged_long A ok audit line long = grind (arith, long_line)

-- a line without bytes has no other bytes
pub alone : (line : Line) (bytes : List ℕ) → Holds line [] → Holds line bytes → bytes ≡ []
alone line bytes none held = grind (arith, cases_lt, nil_from_length)

at_most_one : (fault : Option Why) → one_if_clean fault ≤ 1
at_most_one None = omega arith
at_most_one (Some why) = omega arith

-- a line is read after the others, or is at fault and isn't counted
abbrev IsJudged : Arena ℕ → List (List ℕ) → List ℕ → Reader → Option Why → Type 0
IsJudged A text line new None = HasLines A (text ++ line ∷ []) new
IsJudged A text line new (Some why) = (line_fault A text (Some line) ≡ Some (fault_of why)) × (new.lines ≡ length text)

judged_line : (A : Arena ℕ) (lanes : ℕ) (old new : Reader) (text : List (List ℕ)) (partial last : List ℕ) (fault : Option Why) → HasLines A text old → Holds old.line partial → EndsLine A lanes old new last fault →
    IsJudged A text (partial ++ last) new fault
judged_line A lanes old new text partial last None has held ends =
    let judged = ends.judged partial held in
    record {
      clean = clean_push A text (partial ++ last) has.clean (sym (judged.named text has.read));
      read = judged.read text has.read refl;
      counted = omega (arith, ends.lines, has.counted, length-append text ((partial ++ last) ∷ []));
    }
judged_line A lanes old new text partial last (Some why) has held ends = (sym ((ends.judged partial held).named text has.read), omega (arith, ends.lines, has.counted))

-- Pieces

-- one part is read after another
pub reads_then : (A : Arena ℕ) (lanes : ℕ) (old mid new : Reader) (piece : List ℕ) (from at to : ℕ) (fault : Option Why) → ReadsPart A lanes old mid piece from at None → ReadsPart A lanes mid new piece at to fault → ReadsPart A lanes old new piece from to fault
reads_then A lanes old mid new piece from at to fault first second = record {
  low = omega (arith, first.low, second.low);
  high = second.high;
  lines = omega (arith, first.lines, second.lines);
  shaped = second.shaped;
  reads = λ taken r. second.reads taken (first.reads taken r);
}

-- the text so far with the rest of a line and its newline
split_more : (bytes : List ℕ) (text : List (List ℕ)) (partial last : List ℕ) → SplitsAfter bytes text partial → IsLine partial → IsLine last → SplitsAfter (bytes ++ (last ++ 10 ∷ [])) (text ++ (partial ++ last) ∷ []) []
split_more bytes text partial last split front line = record {
  is = rw split.is (simp (append_assoc, text_of_lines-push, append-nil));
  whole = λ l i. elim (from_push l (partial ++ last) text i) [ inl j ↦ split.whole l j | inr e ↦ subst IsLine (sym e) (append_line partial last front line) ];
}

line_reached : (A : Arena ℕ) (lanes : ℕ) (old new : Reader) (last bytes : List ℕ) (fault : Option Why) → IsLine last → EndsLine A lanes old new last fault → IsReading A bytes old → HasReached A (bytes ++ (last ++ 10 ∷ [])) new fault
line_reached A lanes old new last bytes None line ends r = record {
  text = r.text ++ (r.partial ++ last) ∷ [];
  partial = [];
  split = split_more bytes r.text r.partial last r.split r.unended line;
  unended = refl;
  has = judged_line A lanes old new r.text r.partial last None r.has r.held ends;
  held = ends.cleared refl;
}
line_reached A lanes old new last bytes (Some why) line ends r =
    let (is, counted) = judged_line A lanes old new r.text r.partial last (Some why) r.has r.held ends in
    record { text = r.text; line = r.partial ++ last; more = []; split = split_more bytes r.text r.partial last r.split r.unended line; clean = r.has.clean; fault = is; counted = counted }

module _ (A : Arena ℕ) (lanes : ℕ) (old new : Reader) (piece : List ℕ) (from len : ℕ) where
  abbrev rest : List ℕ
  rest = take (length piece - from) (drop from piece)

  line_more : (taken : List ℕ) → from + len < length piece → IsEndedAt rest len → (taken ++ take from piece) ++ (take len rest ++ 10 ∷ []) ≡ taken ++ take (from + len + 1) piece
  line_more taken within ended =
      let newline : get_or piece (from + len) 0 ≡ 10 = sym (get_or-drop from piece len 0) ∙ rw (take_rest piece from) at ended.newline in
      rw (take_rest piece from, take_more piece (from + len) 0 within, newline, ← taken_more piece from len) (simp append_assoc)

  -- a line is read to its end
  pub line_read : (fault : Option Why) → from ≤ length piece → IsEndedAt rest len → IsLine (take len rest) → EndsLine A lanes old new (take len rest) fault → ReadsPart A lanes old new piece from (from + len + 1) fault
  line_read fault within ended line ends =
      let inside : from + len < length piece = omega (arith, ended.within, ap length (take_rest piece from), length-drop from piece) in
      record {
        low = omega arith;
        high = omega (arith, inside);
        lines = omega (arith, ends.lines, at_most_one fault);
        shaped = ends.shaped;
        reads = λ taken r. subst (λ bs. HasReached A bs new fault) (line_more taken inside ended) (line_reached A lanes old new (take len rest) (taken ++ take from piece) fault line ends r);
      }

  -- an entry is read at once
  pub entry_read : IsNumbered A → (x : Entry ℕ) (fault : Option Why) → from ≤ length piece → IsBetween old → HasEntry (length A.nodes) A.actions rest len x → TakesEntry A lanes old.audit new.audit x fault →
      new.line ≡ old.line → new.lines ≡ old.lines + one_if_clean fault → ReadsPart A lanes old new piece from (from + len + 1) fault
  entry_read ok x fault within between has takes same counted =
      let entry = entry_there (length A.nodes) A.actions rest len x ok.few_nodes (omega (arith, ok.few_actions)) has in
      let (i, e) = entry_of-is (length A.nodes) A.actions (take len rest) x entry in
      line_read fault within has.parts.rest.ended (subst IsLine e (entry_is_line x (possible_small (length A.nodes) A.actions x (few_numbered A ok) i))) (record {
        judged = λ bytes held. subst (λ front. Judges A old.audit new.audit (front ++ take len rest) fault) (sym (alone old.line bytes between.line held)) (takes.judged (take len rest) entry);
        shaped = takes.shaped;
        lines = counted;
        cleared = λ none. subst (λ line. Holds line []) (sym same) between.line;
      })

-- the bytes after the last newline of a piece
pub rest_read : (A : Arena ℕ) (lanes : ℕ) (old new : Reader) (piece rest : List ℕ) (from : ℕ) → from ≤ length piece → rest ≡ drop from piece → IsLine rest → IsInRows lanes (length A.nodes) old.audit.left → new.audit ≡ old.audit → new.lines ≡ old.lines →
    ((bytes : List ℕ) → Holds old.line bytes → Holds new.line (bytes ++ rest)) → ReadsPart A lanes old new piece from (length piece) None
rest_read A lanes old new piece rest from within is line shaped same count pushed = record {
  low = within;
  high = omega arith;
  lines = omega (arith, count);
  shaped = subst (λ audit. IsInRows lanes (length A.nodes) audit.left) (sym same) shaped;
  reads = λ taken r. subst (λ bs. IsReading A bs new) (rw (is, take_all (length piece) piece (omega arith), append_assoc, take-append-drop from piece)) (record {
    text = r.text;
    partial = r.partial ++ rest;
    split = record { is = ap (λ bs. bs ++ rest) r.split.is ∙ append_assoc (text_of_lines r.text) r.partial rest; whole = r.split.whole };
    unended = append_line r.partial rest r.unended line;
    has = record { clean = r.has.clean; read = subst (λ audit. HasRead A r.text audit) (sym same) r.has.read; counted = count ∙ r.has.counted };
    held = pushed r.partial r.held;
  });
}

-- The end

text_lines : (A : Arena ℕ) (bytes : List ℕ) (reader : Reader) (r : IsReading A bytes reader) → lines bytes ≡ r.text ++ lines r.partial
text_lines A bytes reader r = ap lines r.split.is ∙ lines-text r.text r.partial r.split.whole

-- the text ends with a newline, or is empty
pub closed_empty : (A : Arena ℕ) (old : Reader) → Holds old.line [] → Closes A old old None
closed_empty A old empty = λ bytes r. subst (λ ls. HasLines A ls old) (sym (text_lines A bytes old r ∙ ap (λ bs. r.text ++ lines bs) (alone old.line r.partial empty r.held) ∙ append-nil r.text)) r.has

-- the last line ends without a newline
last_line : (A : Arena ℕ) (bytes : List ℕ) (reader : Reader) (r : IsReading A bytes reader) → (Holds reader.line [] → ⊥) → lines bytes ≡ r.text ++ (r.partial ++ []) ∷ []
last_line A bytes reader r some =
    text_lines A bytes reader r ∙ ap (λ ls. r.text ++ ls) (lines_last r.partial r.unended (λ e. some (subst (Holds reader.line) e r.held)) ∙ ap (λ bs. bs ∷ []) (sym (append-nil r.partial)))

pub closed_line : (A : Arena ℕ) (lanes : ℕ) (old new : Reader) (fault : Option Why) → (Holds old.line [] → ⊥) → EndsLine A lanes old new [] fault → Closes A old new fault
closed_line A lanes old new None some ends = λ bytes r. subst (λ ls. HasLines A ls new) (sym (last_line A bytes old r some)) (judged_line A lanes old new r.text r.partial [] None r.has r.held ends)
closed_line A lanes old new (Some why) some ends = λ start bytes r short.
    let (is, counted) = judged_line A lanes old new r.text r.partial [] (Some why) r.has r.held ends in
    verdict_at A start bytes r.text (r.partial ++ []) [] (fault_of why) short (last_line A bytes old r some) r.has.clean is ∙ ap (λ n. Rejected (n + 1) (fault_of why)) (sym counted)
