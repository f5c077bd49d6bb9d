-- The laws of sessions, over the definitions alone.
use Rattle.std.specs.Prelude.{◌≡◌, ◌≢◌, ℕ, ◌<◌, ◌⊎◌, List, [], length, Ok, IsTrue, IsFalse}
use Rattle.roman_model.specs.Lists.{IsIn}
use Rattle.roman_model.specs.System.{Sys, Pair}
use Rattle.roman_model.specs.SystemArena.{outcomes, is_allowed}
use Rattle.roman_model.specs.Offers.{is_related, offers}
use Rattle.roman_text.specs.Shapes.{observe, shape_of}
use Rattle.roman_session.specs.declared.phase.Phase.TheVariants.{Delegated}
use Rattle.roman_session.specs.Situations.{Situation, present_system, IsSituation}
use Rattle.roman_session.specs.Steps.{Step, shown}
use Rattle.roman_session.specs.Reports.{report_text}
use Rattle.roman_start.specs.Starts.{parts_of, start_pair_of}
use Rattle.roman_session.specs.Afresh.{afresh}
use Rattle.roman_session.specs.States.{State, IsGreat, MayRequest, IsOpenGreat}
use Rattle.roman_session.specs.Turns.{TurnsInto}
use Rattle.roman_session.specs.Words.{ReportsGreat}

-- some seat is offered for each action that the target allows at a related pair
abbrev pub RequestsAreOffered : Type 0
RequestsAreOffered = (s : Situation) (a : ℕ) → IsSituation s → IsGreat (shown s) → MayRequest (shown s) a → offers (present_system s) s.here a ≢ []

-- after an outcome of a delegated request is observed, the current pair is related
abbrev pub OutcomesAreRelated : Type 0
OutcomesAreRelated = (old new : Situation) (state env text : List ℕ) (a k : ℕ) → IsSituation old → old.phase ≡ Delegated a k →
    TurnsInto (shown old) (Ok (observe state env)) text (shown new) → IsGreat (shown new)

-- a seat that isn't offered for an allowed action has no outcome, or an outcome whose pair isn't related
abbrev pub NotOfferedFails : Type 0
NotOfferedFails = (s : Sys) (p : Pair) (a k : ℕ) → k < length s.seats → IsTrue (is_allowed s p a) → (IsIn k (offers s p a) → ⊥) →
    (outcomes s p a k ≡ []) ⊎ ((q : Pair) × IsIn q (outcomes s p a k) × IsFalse (is_related s q))

-- the report equals the report of the library that has the present services and begins in the present states
abbrev pub ReportsAreAfresh : Type 0
ReportsAreAfresh =
    (s : Situation) → IsSituation s → report_text s.parts s.here ≡ report_text (parts_of (afresh (shown s))) (start_pair_of (afresh (shown s)))

-- two texts that report the same state are equal
abbrev pub ReportsAreFixed : Type 0
ReportsAreFixed = (s : State) (one other : List ℕ) → ReportsGreat s one → ReportsGreat s other → one ≡ other

-- each step is a turn: its states are those to which the event leads, and its text answers the event
abbrev pub StepsAreTurns : Type 0
StepsAreTurns = (old new : Situation) (line text : List ℕ) → Step old line text new → TurnsInto (shown old) (shape_of line) text (shown new)

-- in every situation the open request can be served, and its delegate serves it
abbrev pub OpenIsGreat : Type 0
OpenIsGreat = (s : Situation) → IsSituation s → IsOpenGreat (shown s) s.phase
