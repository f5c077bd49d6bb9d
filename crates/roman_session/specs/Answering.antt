-- How a session answers a line, and which bytes it writes.
use Rattle.std.specs.Prelude.{◌≡◌, ◌≢◌, ℕ, List, [], ◌++◌, Option, Result, Ok, IfOk, if◌then◌else◌}
use Rattle.roman_model.specs.Offers.{offers}
use Rattle.roman_io.specs.Sink.{Puts}
use Rattle.roman_io.specs.declared.sink.Sink.{Ghosts as SinkView}
use Rattle.roman_text.specs.Pages.{Gathers}
use Rattle.roman_text.specs.Shapes.{LineShape, observe, shape_of}
use Rattle.roman_text.specs.declared.errors.LineError.{LineError}
use Rattle.roman_session.specs.Situations.{Situation, present_system, IsPhase}
use Rattle.roman_session.specs.States.{IsGreat, MayRequest}
use Rattle.roman_session.specs.Steps.{Step, StepOn, shown, is_quit}
use Rattle.roman_session.specs.declared.phase.Phase.TheVariants.{Delegated}
use Rattle.roman_session.specs.declared.next.Next.{Next}
use Rattle.roman_session.specs.declared.next.Next.TheVariants.{More, Quit}

-- the session made one step, and the step's text was written, or a prefix of it if the sink failed
pub record Answered {T E : Type 0} (old : Situation) (line : List ℕ) (new : Situation) (before after : Option (List ℕ)) (result : Result T E) : Type 0 where
  pub text : List ℕ
  pub step : Step old line text new
  pub puts : Puts before after text result

-- the session made one step, and the step's text was pushed after the bytes that a page held; if the sink failed, a prefix of both
-- was written
pub record AnsweredOn {T E : Type 0} (old : Situation) (line : List ℕ) (new : Situation) (before after : Option (List ℕ)) (held holds : List ℕ) (result : Result T E) : Type 0 where
  pub text : List ℕ
  pub step : Step old line text new
  pub gathers : Gathers before after holds (held ++ text) result

-- the session made the step of an event of this shape, and the step's text was pushed after the bytes that a page held; if the sink
-- failed, a prefix of both was written
pub record DoneOn {T E : Type 0} (old : Situation) (shape : LineShape) (new : Situation) (before after : Option (List ℕ)) (held holds : List ℕ) (result : Result T E) : Type 0 where
  pub text : List ℕ
  pub step : StepOn old shape text new
  pub gathers : Gathers before after holds (held ++ text) result

-- such an answer to a line that is written at once, in words for contracts at a bound `O: Sink`
abbrev pub AnswersTo : {X T E : Type 0} → SinkView X → Situation → List ℕ → Situation → X → X → Result T E → Type 0
AnswersTo O old line new out out_now result = Answered old line new (O.written out) (O.written out_now) result

-- such an answer to a line that is pushed on a page, in words for contracts at a bound `O: Sink`
abbrev pub AnswersOn : {X T E : Type 0} → SinkView X → Situation → List ℕ → Situation → X → X → List ℕ → List ℕ → Result T E → Type 0
AnswersOn O old line new out out_now held holds result = AnsweredOn old line new (O.written out) (O.written out_now) held holds result

-- such an answer to an event, in words for contracts at a bound `O: Sink`
abbrev pub DoesOn : {X T E : Type 0} → SinkView X → Situation → LineShape → Situation → X → X → List ℕ → List ℕ → Result T E → Type 0
DoesOn O old shape new out out_now held holds result = DoneOn old shape new (O.written out) (O.written out_now) held holds result

-- at least one service is offered for each action that the target allows at a related pair
abbrev pub NamesSome : Situation → Type 0
NamesSome old = (a : ℕ) → IsGreat (shown old) → MayRequest (shown old) a → offers (present_system old) old.here a ≢ []

-- after an outcome of a delegated request is observed, the new pair is related
abbrev pub ObservedStaysGreat : Situation → List ℕ → Situation → Type 0
ObservedStaysGreat old line new = (state env : List ℕ) (a k : ℕ) → shape_of line ≡ Ok (observe state env) → old.phase ≡ Delegated a k → IsGreat (shown new)

-- the situation's open request can be served, and its delegate is offered for it
abbrev pub HasPhase : Situation → Type 0
HasPhase s = IsPhase s s.phase

-- whether a session continues after an event: it ends exactly at `quit`
abbrev pub next_after : Result LineShape LineError → Next
next_after shape = if is_quit shape then Quit else More

-- whether a session continues after a line
abbrev pub next_of : List ℕ → Next
next_of line = next_after (shape_of line)

-- the result has what comes after the line
abbrev pub IsNextOf : {E : Type 0} → List ℕ → Result Next E → Type 0
IsNextOf line result = IfOk result (λ next. next ≡ next_of line)
