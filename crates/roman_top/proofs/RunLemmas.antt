-- Sessions, as part of a run.
use Rattle.roman_opening.specs.declared.status.Status.TheVariants as status
use Rattle.roman_top.proofs.Common.{◌≡◌, ℕ, ◌+◌, ◌-◌, List, Option, None, Some, IfSome, Result, Ok, Err, IsTrue, refl, sym, subst, arith, inr, OnOk, IsErrOf, ◌⊎◌, if◌then◌else◌, cond-true, cond-false, Texts, rest_from, shelf_text, lines, MAX_SESSION_BYTES, PIECE_BYTES, Situation, IsStart, is_heard_out, GaveQuit, StreamState, stream_state, cursor, IsHeardOut, IsCutOff, GoesOn, StopsShort, TellsPrefixOfAll, CausedBy, heard_lines, Run, On, Accepts, OpensDocument, GoesOnFrom, RunsText, run_status, HasRunPrefix, HasAnswered, HasPrefixOfTaken, IsOfSession, TakesInput, HasAnsweredPrefix, HasAnsweredInput, document_opening, DoesRun, IsSessionText, HasRun, Runs, Served, ServedBeside, World, Outputs, beside, Status, Had, IsAtEnd, GaveAtMost, Gave-told, AreBehaviours, HearError, short_out, on_accepted, told_known, opened_from, IfSome_then}
use Rattle.roman_hearing.specs.Told.{Told}
use Rattle.roman_hearing.specs.declared.hearing.HearError.TheVariants as hear
use Rattle.roman_top.proofs.ServedLemmas.{served_by}

-- the effect of a session from the input
pub record Heard (old new : StreamState) (result : Result (Unit {0}) HearError) : Type 0 where
  pub ok : OnOk result (IsHeardOut old new.cursor)
  pub too_long : IsErrOf result hear.TooLong → IsCutOff old new.cursor
  pub read_fault : IsErrOf result hear.ReadFault → GoesOn old new
  pub write_fault : IsErrOf result hear.WriteFault → StopsShort old new
  pub prefix : IsErrOf result hear.WriteFault → AreBehaviours old.cursor.situation.parts → TellsPrefixOfAll old new.cursor.written
  pub taken : GaveAtMost (MAX_SESSION_BYTES + PIECE_BYTES) old.rest new.rest
  pub past : OnOk result (IsAtEnd new.rest ⊎ GaveQuit (PIECE_BYTES - 1) old.rest new.rest)

-- Sessions of accepted documents

module _ (texts : Texts) (system : List ℕ) (start : Situation) (accepts : Accepts system texts (λ library. IsStart library start)) where
  -- the replies to the answered lines are a run
  talks : (name : Option (List ℕ)) (session text : List ℕ) (ls : List (List ℕ)) (now : Situation) (ends : Status) → ls ≡ heard_lines session → ends ≡ (if is_heard_out session then status.Done else status.TooLong) →
      Told start ls text now → Runs (Some (On system (Run name))) texts session text ends
  talks name session text ls now ends are is told = on_accepted (DoesRun session) (document_opening texts system) accepts.library text ends accepts.accepted
      (record { start = start; now = now; begins = accepts.holds; told = subst (λ (ls : List (List ℕ)). Told start ls text now) are told }, is)

  -- the replies to a whole session are a run
  talks_all : (name : Option (List ℕ)) (session text : List ℕ) (now : Situation) → IsTrue (is_heard_out session) → Told start (lines session) text now → Runs (Some (On system (Run name))) texts session text status.Done
  talks_all name session text now out = talks name session text (lines session) now status.Done (sym (cond-true (is_heard_out session) _ _ out)) (sym (cond-true (is_heard_out session) _ _ out))

  module _ (name : Option (List ℕ)) (old new : World) (from : Option (List ℕ)) (now : Situation) (given : (session : List ℕ) → Had from session → IsSessionText (Some (On system (Run name))) texts old.rest session) where
    -- the session was read to its end, or to `quit`
    runs_out : IsHeardOut (stream_state start from old.written) (cursor now new.written) → HasRun (Some (On system (Run name))) texts old new status.Done
    runs_out h = record { session = h.session; given = given h.session h.had; text = h.tells.text; run = talks_all name h.session h.tells.text now h.out h.tells.told; wrote = h.tells.wrote }

    -- the session is too long
    runs_long : IsCutOff (stream_state start from old.written) (cursor now new.written) → HasRun (Some (On system (Run name))) texts old new status.TooLong
    runs_long h = record {
      session = h.session;
      given = given h.session h.had;
      text = h.tells.text;
      run = talks name h.session h.tells.text _ now status.TooLong (sym (cond-false (is_heard_out h.session) _ _ h.long)) (sym (cond-false (is_heard_out h.session) _ _ h.long)) h.tells.told;
      wrote = h.tells.wrote;
    }

    -- a prefix of possible replies was written
    runs_prefix : TellsPrefixOfAll (stream_state start from old.written) new.written → HasRunPrefix (Some (On system (Run name))) texts old.rest old new
    runs_prefix h = record { session = h.session; given = given h.session h.had; text = h.tells.text; ends = _; run = talks name h.session h.tells.text _ h.last _ refl refl h.tells.told; wrote = h.tells.wrote }

  -- a prefix of the replies to the lines that were taken was written
  taken_prefix : (old new : World) (now : Situation) → StopsShort (stream_state start old.rest old.written) (stream_state now new.rest new.written) → HasPrefixOfTaken texts system old new
  taken_prefix old new now h = record {
    taken = h.heard;
    more = h.past;
    gave = h.gave;
    ends = h.ends;
    run = record {
      session = h.heard;
      given = refl;
      text = h.tells.text;
      ends = status.Done;
      run = talks_all None h.heard h.tells.text now (short_out h.heard h.few) h.tells.told;
      wrote = h.tells.wrote;
    };
  }

  -- the written replies of a session that would continue
  answered : (old new : World) (now : Situation) (from has : Option (List ℕ)) (h : GoesOn (stream_state start from old.written) (stream_state now has new.written)) → HasAnswered texts system h.taken old new
  answered old new now from has h = record {
    library = accepts.library;
    accepted = accepts.accepted;
    text = h.tells.text;
    replies = record { few = h.few; quitless = h.quitless; tells = record { start = start; now = now; begins = accepts.holds; told = h.tells.told } };
    wrote = h.tells.wrote;
  }

  answered_input : (old new : World) (now : Situation) → GoesOn (stream_state start old.rest old.written) (stream_state now new.rest new.written) → HasAnsweredInput texts system old new
  answered_input old new now h = record { taken = h.taken; gave = h.gave; answered = answered old new now old.rest new.rest h }

-- A session from the input

module _ (system : List ℕ) (start now : Situation) (old new : World) (opens : IfSome old.texts (λ texts. Accepts system texts (λ library. IsStart library start))) (behaviours : AreBehaviours start.parts)
    (texts : new.texts ≡ old.texts) (shelf : new.shelf_faults ≡ old.shelf_faults) where
  input_served : (heard : Result (Unit {0}) HearError) → Heard (stream_state start old.rest old.written) (stream_state now new.rest new.written) heard → CausedBy hear.ReadFault old.input_faults new.input_faults heard →
      CausedBy hear.WriteFault old.out_faults new.out_faults heard → Served (Some (On system (Run None))) old new (run_status status.ReadFault heard)
  input_served (Ok x) h reads writes = served_by _ _ _ status.Done
      (IfSome_then _ opens (λ texts accepts. runs_out texts system start accepts None old new old.rest now (λ session had. had) h.ok))
      shelf (reads.stayed (λ e. cc)) (writes.stayed (λ e. cc)) h.past texts
  input_served (Err hear.ReadFault) h reads writes = served_by _ _ _ status.ReadFault
      (IfSome_then _ opens (λ texts accepts. answered_input texts system start accepts old new now (h.read_fault refl)))
      shelf (reads.rose refl) (writes.stayed (λ e. cc)) tt texts
  input_served (Err hear.WriteFault) h reads writes = served_by _ _ _ status.WriteFault
      (IfSome_then _ {Q = (λ texts. HasRunPrefix (Some (On system (Run None))) texts old.rest old new × HasPrefixOfTaken texts system old new)} opens (λ texts accepts. (
        runs_prefix texts system start accepts None old new old.rest now (λ session had. had) (h.prefix refl behaviours),
        taken_prefix texts system start accepts old new now (h.write_fault refl),
      )))
      shelf (reads.stayed (λ e. cc)) (writes.rose refl) tt texts
  input_served (Err hear.TooLong) h reads writes = served_by _ _ _ status.TooLong
      (IfSome_then _ opens (λ texts accepts. runs_long texts system start accepts None old new old.rest now (λ session had. had) (h.too_long refl)))
      shelf (reads.stayed (λ e. cc)) (writes.stayed (λ e. cc)) tt texts

-- a run takes bytes only if it ends with one of these statuses
of_session : (heard : Result (Unit {0}) HearError) → IsOfSession (run_status status.ReadFault heard)
of_session (Ok x) = tt
of_session (Err hear.ReadFault) = tt
of_session (Err hear.WriteFault) = tt
of_session (Err hear.TooLong) = tt

pub input_done : (system : List ℕ) (start now : Situation) (old mid new : Outputs) (rest rest_now : Option (List ℕ)) (input input_now : ℕ) (heard : Result (Unit {0}) HearError) (result : Status) →
    OpensDocument IsStart system old mid (Ok start) → AreBehaviours start.parts → Heard (stream_state start rest mid.written) (stream_state now rest_now new.written) heard → CausedBy hear.ReadFault input input_now heard →
    CausedBy hear.WriteFault mid.out_faults new.out_faults heard → result ≡ run_status status.ReadFault heard → new.texts ≡ mid.texts → new.shelf_faults ≡ mid.shelf_faults →
    Served (Some (On system (Run None))) (beside old rest input) (beside new rest_now input_now) result × TakesInput (Some (On system (Run None))) (beside old rest input) (beside new rest_now input_now) result
input_done system start now old mid new rest rest_now input input_now heard result opens behaviours h reads writes is texts shelf =
    let after = beside new rest_now input_now in
    opened_from _ start old mid
    (λ (old : Outputs). Served (Some (On system (Run None))) (beside old rest input) after result × TakesInput (Some (On system (Run None))) (beside old rest input) after result) opens (λ accepted. (
      subst (Served (Some (On system (Run None))) (beside mid rest input) after) (sym is)
          (input_served system start now (beside mid rest input) after accepted behaviours texts shelf heard h reads writes),
      record {
        accepted = IfSome_then _ {Q = (λ texts. (library : _) × (document_opening texts system ≡ _))} accepted (λ texts accepts. (accepts.library, accepts.accepted));
        session = subst IsOfSession (sym is) (of_session heard);
        few = h.taken;
      },
    ))

-- A session from a text of the shelf

-- the written replies of a session on the shelf that would continue
broken_shelf : (texts : Texts) (system name : List ℕ) (start now : Situation) (accepts : Accepts system texts (λ library. IsStart library start)) (old new : World) →
    GoesOnFrom (stream_state start (rest_from (Some texts) name 0) old.written) (cursor now new.written) → HasAnsweredPrefix texts system name old new
broken_shelf texts system name start now accepts old new (has, goes) = grind (arith, Gave-told, answered)

module _ (system name : List ℕ) (start now : Situation) (old new : World) (opens : IfSome old.texts (λ texts. Accepts system texts (λ library. IsStart library start))) (behaviours : AreBehaviours start.parts)
    (texts : new.texts ≡ old.texts) (input : new.input_faults ≡ old.input_faults) where
  from_text : (held : Texts) → old.texts ≡ Some held → (session : List ℕ) → Had (rest_from old.texts name 0) session → session ≡ shelf_text held name
  from_text held is session had = sym (subst (λ (t : Option Texts). Had (rest_from t name 0) session) is had)

  shelf_heard : (heard : Result (Unit {0}) HearError) → RunsText (stream_state start (rest_from old.texts name 0) old.written) (cursor now new.written) heard → CausedBy hear.ReadFault old.shelf_faults new.shelf_faults heard →
      CausedBy hear.WriteFault old.out_faults new.out_faults heard → Served (Some (On system (Run (Some name)))) old new (run_status status.ShelfFault heard)
  shelf_heard (Ok x) h reads writes = served_by _ _ _ status.Done
      (told_known _ _ _ opens (λ held is accepts. runs_out held system start accepts (Some name) old new (rest_from old.texts name 0) now (from_text held is) h.ok))
      (reads.stayed (λ e. cc)) input (writes.stayed (λ e. cc)) tt texts
  shelf_heard (Err hear.ReadFault) h reads writes = served_by _ _ _ status.ShelfFault
      (inr (told_known _ _ _ opens (λ held is accepts. broken_shelf held system name start now accepts old new
      (subst (λ (t : Option Texts). GoesOnFrom (stream_state start (rest_from t name 0) old.written) (cursor now new.written)) is (h.read_fault refl)))))
      (reads.rose refl) input (writes.stayed (λ e. cc)) tt texts
  shelf_heard (Err hear.WriteFault) h reads writes = served_by _ _ _ status.WriteFault
      (told_known _ _ (λ texts. HasRunPrefix (Some (On system (Run (Some name)))) texts old.rest old new × Unit {0}) opens (λ held is accepts. (runs_prefix held system start accepts (Some name) old new (rest_from old.texts name 0) now (from_text held is) (h.prefix refl behaviours), tt)))
      (reads.stayed (λ e. cc)) input (writes.rose refl) tt texts
  shelf_heard (Err hear.TooLong) h reads writes = served_by _ _ _ status.TooLong
      (told_known _ _ _ opens (λ held is accepts. runs_long held system start accepts (Some name) old new (rest_from old.texts name 0) now (from_text held is) (h.too_long refl)))
      (reads.stayed (λ e. cc)) input (writes.stayed (λ e. cc)) tt texts

pub shelf_served : (system name : List ℕ) (start now : Situation) (old mid new : Outputs) (heard : Result (Unit {0}) HearError) (result : Status) → OpensDocument IsStart system old mid (Ok start) → AreBehaviours start.parts →
    RunsText (stream_state start (rest_from mid.texts name 0) mid.written) (cursor now new.written) heard → CausedBy hear.ReadFault mid.shelf_faults new.shelf_faults heard → CausedBy hear.WriteFault mid.out_faults new.out_faults heard →
    new.texts ≡ mid.texts → result ≡ run_status status.ShelfFault heard → ServedBeside (Some (On system (Run (Some name)))) old new result
shelf_served system name start now old mid new heard result opens behaviours h reads writes texts is =
    opened_from _ start old mid (λ (old : Outputs). ServedBeside (Some (On system (Run (Some name)))) old new result) opens (λ accepted. record {
      served = λ rest input. subst (Served (Some (On system (Run (Some name)))) (beside mid rest input) (beside new rest input)) (sym is)
          (shelf_heard system name start now (beside mid rest input) (beside new rest input) accepted behaviours texts refl heard h reads writes);
    })

-- a session that is read from a whole text
pub text_heard : (start now : Situation) (from given has : Option (List ℕ)) (old new : Option (List ℕ)) (heard : Result (Unit {0}) HearError) → given ≡ from → OnOk heard (IsHeardOut (stream_state start given old) (cursor now new)) →
    (IsErrOf heard hear.TooLong → IsCutOff (stream_state start given old) (cursor now new)) → (IsErrOf heard hear.ReadFault → GoesOn (stream_state start given old) (stream_state now has new)) →
    (IsErrOf heard hear.WriteFault → AreBehaviours start.parts → TellsPrefixOfAll (stream_state start given old) new) → RunsText (stream_state start from old) (cursor now new) heard
text_heard start now from given has old new heard same out long fault prefix =
    subst (λ (rest : Option (List ℕ)). RunsText (stream_state start rest old) (cursor now new) heard) same (record { ok = out; too_long = long; read_fault = λ is. (has, fault is); prefix = prefix })
