-- Bytes that are read one after another.
use Rattle.roman_hearing.proofs.Common.{◌≡◌, ℕ, ◌<◌, ◌≤◌, true, false, List, [], ◌∷◌, ◌++◌, length, take, nat_lt, Option, Result, Ok, Err, IsTrue, IsFalse, refl, sym, ap, ap₂, ◌∙◌, subst, arith, append_assoc, append-nil, min, IfOk, cond-true, cond-false, line_head-nil, lines_rest, lines_none, line_head-again, Gathered-empty, Gathered-then, Gathered-put, WrotePrefix-gathered, ended_lines-newline, ended_lines-part, unfinished-newline, unfinished-nil, unfinished-part, line_head-append, lines, ended_lines, IsLine, by_test, unfinished, line_head, shape_of, Situation, IsSituation, Step, Next, ends_session, has_quit, cursor, Tells, TellsPrefix, Cursor, reader_state, IsHearing, StopsAtQuit, FallsShort, FailsIn, TellsOnPage, HearsBytes, nil_from_length, take_all, take_min, Wrote, WrotePrefix, Failed, Wrote-then, WrotePrefix-after, AnsweredOn, next_of, More, Quit, HearsPiece, ReaderState, TooLong}
use Rattle.roman_hearing.proofs.HearingLines.{quit_last, quitless_last, told_push}

-- ---- one line

-- a line with the same shape has the same step
step_alike : (old new : Situation) (line held text : List ℕ) → shape_of held ≡ shape_of line → Step old held text new → Step old line text new
unfolding Step
step_alike old new line held text same step = rw (sym same) step

-- a line with the same shape has the same answer
pub answered_on_alike : {T E : Type 0} (old new : Situation) (line held : List ℕ) (before now : Option (List ℕ)) (page holds : List ℕ) (result : Result T E) → shape_of held ≡ shape_of line →
    AnsweredOn old held new before now page holds result → AnsweredOn old line new before now page holds result
answered_on_alike old new line held before now page holds result same answered = grind (arith, step_alike)

-- the session continues after a line that isn't `quit`
next_more : (line : List ℕ) → More ≡ next_of line → IsFalse (ends_session line)
next_more line e = grind (arith, by_test, cond-true)

next_quit : (line : List ℕ) → Quit ≡ next_of line → IsTrue (ends_session line)
next_quit line e = grind (arith, by_test, cond-false)

-- ---- the reply to one more line

-- the reply to one more line is pushed on the page
answered_more : (old : Cursor) (mid new : Situation) (ls : List (List ℕ)) (line : List ℕ) (wrote now : Option (List ℕ)) (page holds : List ℕ) (next : Next) → IsFalse (has_quit ls) →
    TellsOnPage old ls (cursor mid wrote) page → AnsweredOn {E = Failed} mid line new wrote now page holds (Ok next) → TellsOnPage old (ls ++ line ∷ []) (cursor new now) holds
answered_more old mid new ls line wrote now page holds next quitless tells answered = grind (arith, Gathered-then, told_push)

-- the reply to one more line isn't pushed whole
answered_short : (old : Cursor) (mid new : Situation) (ls : List (List ℕ)) (line : List ℕ) (wrote now : Option (List ℕ)) (page holds : List ℕ) (failed : Failed) → IsFalse (has_quit ls) →
    TellsOnPage old ls (cursor mid wrote) page → AnsweredOn {T = Next} mid line new wrote now page holds (Err failed) → IsSituation new → FallsShort old (ls ++ line ∷ []) (cursor new now)
answered_short old mid new ls line wrote now page holds failed quitless tells answered known =
    let told = told_push old.situation mid new ls line tells.text answered.text quitless tells.told answered.step in
    let prefix = WrotePrefix-gathered old.written wrote now page tells.text answered.text tells.gathered answered.gathers.0 in
    record { tells = record { text = tells.text ++ answered.text; told = told; wrote = prefix }; known = known }

-- if the page holds nothing, all replies are written
pub whole_told : (old new : Cursor) (ls : List (List ℕ)) → TellsOnPage old ls new [] → Tells old ls new
whole_told old new ls tells = grind (arith, append-nil)

-- flushing the page writes all replies
put_whole : (old : Cursor) (mid : Situation) (wrote now : Option (List ℕ)) (ls : List (List ℕ)) (page : List ℕ) → TellsOnPage old ls (cursor mid wrote) page → Wrote wrote now page → TellsOnPage old ls (cursor mid now) []
put_whole old mid wrote now ls page tells put = grind (arith, Gathered-put, Wrote-then)

put_prefix : (old : Cursor) (mid : Situation) (wrote now : Option (List ℕ)) (ls : List (List ℕ)) (page : List ℕ) → TellsOnPage old ls (cursor mid wrote) page → WrotePrefix wrote now page → TellsPrefix old ls (cursor mid now)
put_prefix old mid wrote now ls page tells prefix = grind (arith, WrotePrefix-after)

-- ---- a part of a line

-- the reader state before the first byte
pub hearing_starts : (s : Situation) (told : Option (List ℕ)) (page held : List ℕ) → page ≡ [] → held ≡ [] → IsHearing (cursor s told) [] (reader_state s told page held)
hearing_starts s told page held none empty = grind (arith, Gathered-empty, line_head-nil, unfinished-nil)

module _ (old : Cursor) (taken : List ℕ) (mid : ReaderState) (part : List ℕ) (is : IsHearing old taken mid) (within : IsLine part) where
  -- the held bytes of a line and more bytes decide the new held bytes
  part_head : line_head (mid.held ++ part) ≡ line_head (unfinished taken ++ part)
  part_head = ap (λ (held : List ℕ). line_head (held ++ part)) is.rest ∙ line_head-append (unfinished taken) part

  -- if no bytes are held, the new bytes begin the line
  pub alone_head : nat_lt 0 (length mid.held) ≡ false → (mid.held ≡ []) × (line_head part ≡ line_head (unfinished taken ++ part))
  alone_head none = grind (arith, nil_from_length, part_head)

  -- the held bytes with the new ones are those of the line so far
  pub more_head : (line : List ℕ) → line ≡ line_head (mid.held ++ part) → line_head line ≡ line_head (unfinished taken ++ part)
  more_head line e = line_head-again line (unfinished taken ++ part) (e ∙ part_head)

  -- the reader state after more bytes of a line
  pub hears_part : (after : List ℕ) → after ≡ line_head (mid.held ++ part) → IsHearing old (taken ++ part) (record mid { held = after })
  hears_part after e = grind (arith, ended_lines-part, part_head, unfinished-part)

  ended : ended_lines (taken ++ part ++ 10 ∷ []) ≡ ended_lines taken ++ (unfinished taken ++ part) ∷ []
  ended = ended_lines-newline (taken ++ part) 10 refl ∙ ap₂ (λ (ls : List (List ℕ)) (line : List ℕ). ls ++ line ∷ []) (ended_lines-part taken part within) (unfinished-part taken part within)

  -- the reader state after the last bytes of a line and its newline
  pub hears_ended : (new : Situation) (now : Option (List ℕ)) (holds after : List ℕ) (result : Result Next Failed) → after ≡ [] →
      AnsweredOn mid.cursor.situation (unfinished taken ++ part) new mid.cursor.written now mid.page holds result → IfOk result (λ next. next ≡ next_of (unfinished taken ++ part)) → IsSituation new →
      HearsBytes old taken (part ++ 10 ∷ []) (reader_state new now holds after) result
  hears_ended new now holds after (Ok More) empty answered next known =
      subst (λ (bytes : List ℕ). IsHearing old bytes (reader_state new now holds after)) (append_assoc taken part (10 ∷ [])) record {
        quitless = rw ended (quitless_last (ended_lines taken) (unfinished taken ++ part) is.quitless (next_more (unfinished taken ++ part) next));
        tells = rw ended (answered_more old _ new _ _ _ now _ holds More is.quitless is.tells answered);
        rest = empty ∙ sym (ap line_head (unfinished-newline (taken ++ part) 10 refl) ∙ line_head-nil);
      }
  hears_ended new now holds after (Ok Quit) empty answered next known = record {
    heard = part;
    past = [];
    split = refl;
    first = rw (ended_lines-part taken part within) is.quitless;
    quit = rw ended (quit_last (ended_lines taken) (unfinished taken ++ part) (next_quit (unfinished taken ++ part) next));
    tells = rw ended (answered_more old _ new _ _ _ now _ holds Quit is.quitless is.tells answered);
  }
  hears_ended new now holds after (Err failed) empty answered next known = record {
    heard = taken ++ part ++ 10 ∷ [];
    past = [];
    split = sym (append_assoc taken part (10 ∷ [])) ∙ sym (append-nil (taken ++ part ++ 10 ∷ []));
    fails = rw ended (answered_short old _ new _ _ _ now _ holds failed is.quitless is.tells answered known);
  }

-- ---- bytes after bytes

module _ (old : Cursor) (taken done part back bytes : List ℕ) (new : Cursor) (split : bytes ≡ done ++ (part ++ back)) where
  -- a line `quit` that ends in a part of the bytes ends in the bytes
  pub stops_within : (page : List ℕ) → StopsAtQuit old (taken ++ done) part new page → StopsAtQuit old taken bytes new page
  stops_within page stops =
      grind (arith, (append_assoc stops.heard (10 ∷ stops.past) back), (append_assoc done stops.heard (10 ∷ (stops.past ++ back))), (append_assoc taken done stops.heard))

  -- the reply to a line that ends in a part of the bytes isn't written whole
  pub fails_within : FailsIn old (taken ++ done ++ part) new → FailsIn old (taken ++ bytes) new
  fails_within fails = grind (arith, (append_assoc fails.heard fails.past back), (append_assoc taken done (part ++ back)), (append_assoc (taken ++ done) part back))

-- ---- the last line

-- if no bytes of the last line are held, all lines are answered
pub hears_no_rest : (old : Cursor) (taken : List ℕ) (mid : ReaderState) → IsHearing old taken mid → mid.page ≡ [] → nat_lt 0 (length mid.held) ≡ false → Tells old (lines taken) mid.cursor
hears_no_rest old taken mid is empty none = grind (arith, lines_none, whole_told)

module _ (old : Cursor) (taken : List ℕ) (mid : ReaderState) (is : IsHearing old taken mid) (some : nat_lt 0 (length mid.held) ≡ true) (new : Situation) (now : Option (List ℕ)) (holds : List ℕ) where
  -- the held bytes are the last line
  rest_line : ended_lines taken ++ unfinished taken ∷ [] ≡ lines taken
  rest_line = sym (lines_rest taken (subst (λ (held : List ℕ). nat_lt 0 (length held) ≡ true) is.rest some))

  tells_rest : (next : Next) → AnsweredOn {E = Failed} mid.cursor.situation (unfinished taken) new mid.cursor.written now mid.page holds (Ok next) → TellsOnPage old (lines taken) (cursor new now) holds
  tells_rest next answered = rw (sym rest_line) (answered_more old _ new _ _ _ now _ holds next is.quitless is.tells answered)

  pub hears_rest : (next : Next) (after : Option (List ℕ)) → AnsweredOn {E = Failed} mid.cursor.situation (unfinished taken) new mid.cursor.written now mid.page holds (Ok next) → Wrote now after holds →
      Tells old (lines taken) (cursor new after)
  hears_rest next after answered put = whole_told old (cursor new after) (lines taken) (put_whole old new now after (lines taken) holds (tells_rest next answered) put)

  pub fails_put : (next : Next) (after : Option (List ℕ)) → AnsweredOn {E = Failed} mid.cursor.situation (unfinished taken) new mid.cursor.written now mid.page holds (Ok next) → WrotePrefix now after holds →
      IsSituation new → FallsShort old (lines taken) (cursor new after)
  fails_put next after answered prefix known = record { tells = put_prefix old new now after (lines taken) holds (tells_rest next answered) prefix; known = known }

  pub fails_rest : (failed : Failed) → AnsweredOn {T = Next} mid.cursor.situation (unfinished taken) new mid.cursor.written now mid.page holds (Err failed) → IsSituation new → FallsShort old (lines taken) (cursor new now)
  fails_rest failed answered known = rw (sym rest_line) (answered_short old _ new _ _ _ now _ holds failed is.quitless is.tells answered known)

-- ---- the first `room` bytes of a piece

module _ (old : Cursor) (taken piece : List ℕ) (room due : ℕ) (least : due ≡ min (length piece) room) (new : Situation) (wrote now : Option (List ℕ)) (page held : List ℕ) where
  -- the next bytes are the first `room` bytes of the piece
  pub due_part : take due piece ≡ take room piece
  due_part = ap (λ (n : ℕ). take n piece) (let same : due ≡ min room (length piece) = omega arith in same) ∙ take_min room piece

  -- the reader state after flushing the page
  put_hearing : IsHearing old (taken ++ take due piece) (reader_state new wrote page held) → Wrote wrote now page → IsHearing old (taken ++ take due piece) (reader_state new now [] held)
  put_hearing is put = record { quitless = is.quitless; tells = put_whole old new wrote now _ page is.tells put; rest = is.rest }

  pub put_whole_piece : length piece ≤ due → IsHearing old (taken ++ take due piece) (reader_state new wrote page held) → Wrote wrote now page → HearsPiece room old taken piece (reader_state new now [] held) (Ok More)
  put_whole_piece all is put = (subst (λ (bytes : List ℕ). IsHearing old (taken ++ bytes) (reader_state new now [] held)) (take_all due piece all) (put_hearing is put), omega arith)

  pub put_part : due < length piece → IsHearing old (taken ++ take due piece) (reader_state new wrote page held) → Wrote wrote now page → HearsPiece room old taken piece (reader_state new now [] held) (Err TooLong)
  put_part more is put = (subst (λ (bytes : List ℕ). IsHearing old (taken ++ bytes) (reader_state new now [] held)) due_part (put_hearing is put), omega arith)

  pub put_quit : StopsAtQuit old taken (take due piece) (cursor new wrote) page → Wrote wrote now page → HearsPiece room old taken piece (reader_state new now [] held) (Ok Quit)
  put_quit stops put = grind (arith, put_whole, due_part)

  -- the state after a flush that fails
  pub put_failed : (next : Next) → HearsBytes old taken (take due piece) (reader_state new wrote page held) (Ok next) → WrotePrefix wrote now page → IsSituation new → FailsIn old (taken ++ take room piece) (cursor new now)
  put_failed More is prefix known = grind (arith, due_part, (append-nil (taken ++ take room piece)), (put_prefix old new wrote now (ended_lines (taken ++ take due piece)) page is.tells prefix))
  put_failed Quit stops prefix known = record {
    heard = taken ++ stops.heard ++ 10 ∷ [];
    past = stops.past;
    split = ap (λ (part : List ℕ). taken ++ part) (sym due_part ∙ stops.split) ∙ sym (append_assoc taken stops.heard (10 ∷ stops.past)) ∙ sym (append_assoc (taken ++ stops.heard) (10 ∷ []) stops.past);
    fails = record { tells = put_prefix old new wrote now _ page stops.tells prefix; known = known };
  }
