-- How a session that is read from a source ends.
use Rattle.roman_hearing.proofs.Common.{◌≡◌, ℕ, ◌+◌, ◌<◌, ◌≤◌, false, List, [], ◌∷◌, ◌++◌, length, take, drop, nat_le, Option, Result, Ok, Err, IsTrue, refl, sym, ap, ◌∙◌, subst, arith, append_assoc, append-nil, length-append, take-append-drop, ◌-◌, ltb, OnOk, IsErrOf, length-take, take_at, le-leb, cond-true, cond-false, or_from, or_left, or_right, lt-leb, Gave, GaveAtMost, EndsAt, Had, Gave-then, gave_at_most, WrotePrefix-append, had_more, had_all, lines, ended_lines, text_of_lines, MAX_SESSION_BYTES, by_test, unfinished, line_head, lines_none, line_head-nil, lines_are, lines_only, Situation, Told, AreNamed, has_quit, is_heard_out, heard_lines, Tells, TellsPrefix, prefix_of, GaveQuit, StreamState, IsHeardOut, IsCutOff, StopsShort, TellsPrefixOfAll, reader_state, IsHearing, StopsAtQuit, FallsShort, FailsIn, HearsPiece, HearsRest, HearError, ReadFault, WriteFault, TooLong, take_past}
use Rattle.roman_hearing.proofs.HearingLines.{ended_more, lines_more, quit_left, told_stops}
use Rattle.roman_hearing.proofs.HearingSteps.{told_more}
use Rattle.roman_hearing.proofs.HearingLemmas.{whole_told}

-- ---- the limit of a session

-- a session within the limit isn't too long
pub short_out : (session : List ℕ) → length session ≤ MAX_SESSION_BYTES → IsTrue (is_heard_out session)
short_out session few = or_left (nat_le (length session) MAX_SESSION_BYTES) (has_quit (ended_lines (prefix_of session))) (le-leb (length session) MAX_SESSION_BYTES few)

-- a session with a line `quit` that ends within the limit isn't too long
quit_out : (heard rest : List ℕ) → length heard ≤ MAX_SESSION_BYTES → IsTrue (has_quit (ended_lines heard)) → IsTrue (is_heard_out (heard ++ rest))
quit_out heard rest few quit = grind (arith, (ended_more heard (take (MAX_SESSION_BYTES - length heard) rest)), or_right, (take_past MAX_SESSION_BYTES heard rest few), quit_left)

-- the answered lines include the whole lines of a prefix within the limit
heard_more : (heard rest : List ℕ) → length heard ≤ MAX_SESSION_BYTES → (more : List (List ℕ)) × (heard_lines (heard ++ rest) ≡ ended_lines heard ++ more)
heard_more heard rest few =
    by_test (is_heard_out (heard ++ rest)) (λ out.
    let (prefix, e) = ended_more heard rest in
    let (last, f) = lines_more (heard ++ rest) in (
      prefix ++ last,
      grind (arith, cond-true, append_assoc),
    )) (λ long.
    let (more, e) = ended_more heard (take (MAX_SESSION_BYTES - length heard) rest) in
    let first = cond-false (is_heard_out (heard ++ rest)) (lines (heard ++ rest)) (ended_lines (prefix_of (heard ++ rest))) long in
    grind (arith, (take_past MAX_SESSION_BYTES heard rest few)))

-- the endings of a session without a fault of the source
pub record Ends (old new : StreamState) (r : Result (Unit {0}) HearError) : Type 0 where
  pub ok : OnOk r (IsHeardOut old new.cursor)
  pub too_long : IsErrOf r TooLong → IsCutOff old new.cursor
  pub untroubled : IsErrOf r ReadFault → ⊥
  pub write_fault : IsErrOf r WriteFault → StopsShort old new
  pub prefix : IsErrOf r WriteFault → AreNamed old.cursor.situation.parts → TellsPrefixOfAll old new.cursor.written

-- at most one piece is taken past the limit
pub gave_pieces : (before mid now : Option (List ℕ)) (taken into : List ℕ) (room n : ℕ) → Gave before mid taken → Gave mid now (take n into) → room + length taken ≡ MAX_SESSION_BYTES → length into ≤ 4096 →
    GaveAtMost 16781312 before now
gave_pieces before mid now taken into room n first second fits few = gave_at_most 16781312 before mid now taken (take n into) first second (omega (arith, length-take n into))

-- ---- at the end of the source

module _ (old new : StreamState) (mid : Option (List ℕ)) (taken : List ℕ) (n : ℕ) (into : List ℕ) (first : Gave old.rest mid taken) (second : Gave mid new.rest (take n into)) (ends : EndsAt mid n) (none : n ≡ 0)
    (few : length taken ≤ MAX_SESSION_BYTES) where
  -- all lines are answered at the end of the source
  out_at_end : (r : Result (Unit {0}) HearError) → HearsRest old.cursor taken new.cursor r → OnOk r (IsHeardOut old new.cursor)
  out_at_end (Ok x) tells = grind (arith, (had_all old.rest mid taken n first ends none), short_out)
  out_at_end (Err error) h = tt

  -- the reply to the last line wasn't written whole
  prefixes_rest : FallsShort old.cursor (lines taken) new.cursor → TellsPrefixOfAll old new.cursor.written
  prefixes_rest fails = record {
    session = taken;
    had = had_all old.rest mid taken n first ends none;
    last = new.cursor.situation;
    tells = subst (λ (ls : List (List ℕ)). TellsPrefix old.cursor ls new.cursor) (sym (cond-true (is_heard_out taken) (lines taken) (ended_lines (prefix_of taken)) (short_out taken few))) fails.tells;
  }

  rest_stops : FallsShort old.cursor (lines taken) new.cursor → StopsShort old new
  rest_stops fails =
      let got : take n into ≡ [] = ap (λ (n : ℕ). take n into) none in
      grind (arith, (Gave-then old.rest mid new.rest taken (take n into) first second), (had_all old.rest mid taken n first ends none))

  -- the endings after the last line
  pub rest_ends : (r : Result (Unit {0}) HearError) → HearsRest old.cursor taken new.cursor r → Ends old new r
  rest_ends r h =
      let at : (error : HearError) → IsErrOf r error → HearsRest old.cursor taken new.cursor (Err error) = λ error is. subst (HearsRest old.cursor taken new.cursor) is h in
      record {
        ok = out_at_end r h;
        too_long = λ is. absurd (at TooLong is);
        untroubled = λ is. at ReadFault is;
        write_fault = λ is. rest_stops (at WriteFault is);
        prefix = λ is behaviours. prefixes_rest (at WriteFault is);
      }

-- ---- the whole lines of bytes, as a text

-- the text of whole lines has these lines, and they are whole
whole_lines : (bytes : List ℕ) → (ended_lines (text_of_lines (ended_lines bytes)) ≡ ended_lines bytes) × (lines (text_of_lines (ended_lines bytes)) ≡ ended_lines bytes)
whole_lines bytes =
    let ls : List (List ℕ) = ended_lines bytes in
    let (ended, none) = lines_only (text_of_lines ls) ls [] (record { whole = sym (append-nil (text_of_lines ls)); each = (lines_are bytes).each; last = refl }) in
    let empty : ltb 0 (length (line_head (unfinished (text_of_lines ls)))) ≡ false = ap (λ (rest : List ℕ). ltb 0 (length (line_head rest))) (sym none) ∙ ap (λ (rest : List ℕ). ltb 0 (length rest)) line_head-nil in
    (sym ended, lines_none (text_of_lines ls) empty ∙ sym ended)

-- ---- within a piece

-- the bytes up to a newline, and the bytes after it
quit_split : (taken part heard past : List ℕ) → part ≡ heard ++ 10 ∷ past → taken ++ part ≡ (taken ++ heard ++ 10 ∷ []) ++ past
quit_split taken part heard past e = ap (λ (part : List ℕ). taken ++ part) e ∙ sym (append_assoc taken heard (10 ∷ past)) ∙ sym (append_assoc (taken ++ heard) (10 ∷ []) past)

-- the replies to lines with a `quit` among them are also the replies to these lines followed by others
told_all : (old new : Situation) (heard rest text : List ℕ) → IsTrue (has_quit (ended_lines heard)) → Told old (ended_lines heard) text new → Told old (lines (heard ++ rest)) text new
told_all old new heard rest text quit told = grind (arith, (ended_more heard rest), (lines_more (heard ++ rest)), append_assoc, told_stops)

module _ (old new : StreamState) (mid : Option (List ℕ)) (taken got : List ℕ) (room : ℕ) (first : Gave old.rest mid taken) (second : Gave mid new.rest got) (fits : room + length taken ≡ MAX_SESSION_BYTES) where
  -- the taken bytes up to the limit, and those past it
  whole_part : (after : List ℕ) → (taken ++ got) ++ after ≡ (taken ++ take room got) ++ (drop room got ++ after)
  whole_part after = grind (arith, (take-append-drop room got), (append_assoc taken (take room got) (drop room got)), (append_assoc (taken ++ take room got) (drop room got) after))

  part_fits : length (taken ++ take room got) ≤ MAX_SESSION_BYTES
  part_fits = omega (arith, length-append taken (take room got), length-take room got)

  -- the taken bytes after a prefix of them
  part_split : (after heard past : List ℕ) → taken ++ take room got ≡ heard ++ past → (taken ++ got) ++ after ≡ heard ++ (past ++ (drop room got ++ after))
  part_split after heard past split = whole_part after ∙ ap (λ (bytes : List ℕ). bytes ++ (drop room got ++ after)) split ∙ append_assoc heard past (drop room got ++ after)

  had_after : (after : List ℕ) × Had old.rest ((taken ++ got) ++ after)
  had_after = had_more old.rest new.rest (taken ++ got) (Gave-then old.rest mid new.rest taken got first second)

  -- a session with a line `quit` that ends in the piece is heard out
  pub out_at_quit : StopsAtQuit old.cursor taken (take room got) new.cursor [] → IsHeardOut old new.cursor
  out_at_quit stops =
      let (after, had) = had_after in
      let heard : List ℕ = taken ++ stops.heard ++ 10 ∷ [] in
      let rest : List ℕ = stops.past ++ (drop room got ++ after) in
      let split : taken ++ take room got ≡ heard ++ stops.past = quit_split taken (take room got) stops.heard stops.past stops.split in
      let session : (taken ++ got) ++ after ≡ heard ++ rest = part_split after heard stops.past split in
      let few : length heard ≤ MAX_SESSION_BYTES = omega (arith, part_fits, ap length split, length-append heard stops.past) in
      let whole = whole_told old.cursor new.cursor (ended_lines heard) stops.tells in
      grind (arith, (quit_out heard rest few stops.quit), (told_all old.cursor.situation new.cursor.situation heard rest whole.text stops.quit whole.told))

  -- less than a piece was taken past the newline of the `quit`
  pub gave_quit : (most : ℕ) → length got ≤ most + 1 → StopsAtQuit old.cursor taken (take room got) new.cursor [] → GaveQuit most old.rest new.rest
  gave_quit most l stops =
      let past = stops.past ++ drop room got in
      let heard = taken ++ stops.heard in
      let split : taken ++ got ≡ heard ++ 10 ∷ past = grind (arith, (take-append-drop room got), (append_assoc stops.heard (10 ∷ stops.past) (drop room got)), (append_assoc taken stops.heard (10 ∷ past))) in
      let gave = Gave-then old.rest mid new.rest taken got first second in
      grind (arith, (length-append taken got), (length-append taken stops.heard), (length-append heard (10 ∷ past)))

  -- the session is too long if the piece has more bytes than `room`
  cut_off : (held : List ℕ) → IsHearing old.cursor (taken ++ take room got) (reader_state new.cursor.situation new.cursor.written [] held) → room < length got → IsCutOff old new.cursor
  cut_off held hearing more =
      let (after, had) = had_after in
      let full : length (taken ++ take room got) ≡ MAX_SESSION_BYTES = omega (arith, length-append taken (take room got), length-take room got) in
      let prefix : prefix_of ((taken ++ got) ++ after) ≡ taken ++ take room got =
      ap (take MAX_SESSION_BYTES) (whole_part after) ∙ take_at (taken ++ take room got) (drop room got ++ after) MAX_SESSION_BYTES full in
      record {
        session = (taken ++ got) ++ after;
        had = had;
        long = grind (arith, or_from, lt-leb, length-append);
        tells = subst (λ (bytes : List ℕ). Tells old.cursor (ended_lines bytes) new.cursor) (sym prefix) (whole_told old.cursor new.cursor (ended_lines (taken ++ take room got)) hearing.tells);
      }

  -- the reply to a line wasn't written whole
  stops_short : FailsIn old.cursor (taken ++ take room got) new.cursor → StopsShort old new
  stops_short fails =
      let rest : List ℕ = fails.past ++ (drop room got ++ []) in
      let given : taken ++ got ≡ fails.heard ++ rest = sym (append-nil (taken ++ got)) ∙ part_split [] fails.heard fails.past fails.split in
      let whole : List ℕ = text_of_lines (ended_lines fails.heard) in
      let split : fails.heard ≡ whole ++ unfinished fails.heard = (lines_are fails.heard).whole in
      let (ended, all) = whole_lines fails.heard in
      let parts : taken ++ got ≡ whole ++ (unfinished fails.heard ++ rest) = grind (arith, append_assoc) in
      grind (arith, (Gave-then old.rest mid new.rest taken got first second), part_fits, (length-append fails.heard fails.past), (length-append whole (unfinished fails.heard)))

  prefixes_all : AreNamed old.cursor.situation.parts → FailsIn old.cursor (taken ++ take room got) new.cursor → TellsPrefixOfAll old new.cursor.written
  prefixes_all named fails =
      let (after, had) = had_after in
      let rest : List ℕ = fails.past ++ (drop room got ++ after) in
      let session : (taken ++ got) ++ after ≡ fails.heard ++ rest = part_split after fails.heard fails.past fails.split in
      let few : length fails.heard ≤ MAX_SESSION_BYTES = omega (arith, part_fits, ap length fails.split, length-append fails.heard fails.past) in
      let (more, e) = heard_more fails.heard rest few in
      let (text, last, told) = told_more old.cursor.situation new.cursor.situation (ended_lines fails.heard) more fails.fails.tells.text named fails.fails.known fails.fails.tells.told in
      record {
        session = (taken ++ got) ++ after;
        had = had;
        last = last;
        tells = grind (arith, (WrotePrefix-append old.cursor.written new.cursor.written fails.fails.tells.text text fails.fails.tells.wrote));
      }

  -- the endings after the errors of a piece
  pub piece_ends : (held : List ℕ) (error : HearError) → HearsPiece room old.cursor taken got (reader_state new.cursor.situation new.cursor.written [] held) (Err error) → Ends old new (Err error)
  piece_ends held error h =
      let at : (other : HearError) → error ≡ other → HearsPiece room old.cursor taken got (reader_state new.cursor.situation new.cursor.written [] held) (Err other) = grind arith in
      record {
        ok = tt;
        too_long = λ is. let (hearing, more) = at TooLong cc in cut_off held hearing more;
        untroubled = λ is. at ReadFault cc;
        write_fault = λ is. stops_short (at WriteFault cc);
        prefix = λ is named. prefixes_all named (at WriteFault cc);
      }
