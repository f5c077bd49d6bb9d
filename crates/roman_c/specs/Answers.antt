-- The effect of a line on a handle.
use Rattle.std.specs.Prelude.{◌≡◌, ◌≢◌, ℕ, List, Option, None, Some}
use Rattle.roman_session.specs.Situations.{Situation}
use Rattle.roman_session.specs.Steps.{Step}
use Rattle.roman_session.specs.Answering.{next_of}
use Rattle.roman_session.specs.declared.next.Next.{Next}
use Rattle.roman_session.specs.declared.next.Next.TheVariants.{More, Quit}
use Rattle.roman_c.specs.declared.content.Content.{Content}
use Rattle.roman_c.specs.declared.events.NumberedEvent.{NumberedEvent}
use Rattle.roman_c.specs.declared.talk.Talk.{Talk}
use Rattle.roman_c.specs.Contents.{session_in, reply_in}
use Rattle.roman_c.specs.Events.{event_line}
use Rattle.roman_c.specs.Refusals.{refusal_status}

-- the status of an answered line with this reply
abbrev pub next_status : Next → List ℕ → ℕ
next_status Quit text = 1
next_status More text = refusal_status text

-- the session makes the step of the line. Unless memory runs out, the reply is the step's text, and the status belongs to them.
pub record StepsTo (old : Situation) (line : List ℕ) (new : Option Situation) (reply : List ℕ) (status : ℕ) : Type 0 where
  pub now : Situation
  pub text : List ℕ
  pub stays : new ≡ Some now
  pub step : Step old line text now
  pub says : status ≢ 9 → reply ≡ text
  pub numbered : status ≢ 9 → status ≡ next_status (next_of line) text

-- an open session answers its line; without a session everything stays the same, and the status is 2
abbrev pub AnswersAs : (Situation → List ℕ) → Option Situation → Option Situation → List ℕ → ℕ → Type 0 → Type 0
AnswersAs line None new reply status Same = Same × (status ≡ 2)
AnswersAs line (Some s) new reply status Same = StepsTo s (line s) new reply status

-- a talk answers the line, if it has an open session
abbrev pub TalkAnswers : Talk → (Situation → List ℕ) → Talk → ℕ → Type 0
TalkAnswers old line new status = AnswersAs line old.session new.session new.reply.bytes.items status (new ≡ old)

-- the session of a handle answers the line that its situation gives
abbrev pub AnswersBy : (Situation → List ℕ) → Option Content → Option Content → ℕ → Type 0
AnswersBy line old new status = AnswersAs line (session_in old) (session_in new) (reply_in new) status (new ≡ old)

-- the session of a handle answers this line
abbrev pub AnswersLine : Option Content → List ℕ → Option Content → ℕ → Type 0
AnswersLine old line new status = AnswersBy (λ s. line) old new status

-- the session of a handle answers the line of an event by numbers
abbrev pub AnswersEvent : Option Content → NumberedEvent → Option Content → ℕ → Type 0
AnswersEvent old event new status = AnswersBy (λ s. event_line s event) old new status
