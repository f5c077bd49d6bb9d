-- Steps: the reply of a session to a line, and the situation after it.
use Rattle.std.specs.Prelude.{◌≡◌, ℕ, Bool, true, false, ◌⊎◌, List, [], ◌∷◌, ◌++◌, map, length, Result, Ok, Some, slice_get}
use Rattle.roman_model.specs.System as model
use Rattle.roman_model.specs.System.{Pair}
use Rattle.roman_model.specs.Arena.{Entry, replay}
use Rattle.roman_model.specs.SystemArena.{arena}
use Rattle.roman_model.specs.CompleteLists.{IsComplete}
use Rattle.roman_model.specs.Change.{Change, Join, rename}
use Rattle.roman_model.specs.Explanation.{explain_text}
use Rattle.roman_text.specs.Shapes.{LineShape, freeze, thaw, die, join, explain, quit, shape_of}
use Rattle.roman_text.specs.declared.errors.LineError.{LineError}
use Rattle.roman_text.specs.declared.replies.Reply.TheVariants as reply
use Rattle.roman_joint.specs.NamedSys.{seat_of}
use Rattle.roman_joint.specs.declared.seat.Seat.{Seat}
use Rattle.roman_joint.specs.Names.{seat_name, names_in}
use Rattle.roman_session.specs.Situations.{Situation, present_system}
use Rattle.roman_session.specs.States.{State, IsGreat}
use Rattle.roman_session.specs.Words.{Replies}
use Rattle.roman_session.specs.Changes.{change_at}
use Rattle.roman_session.specs.Turns.{TurnsInto}
use Rattle.roman_session.specs.declared.events.ServiceChange.TheVariants as kind

-- the state of a situation: all but its removal list
abbrev pub shown : Situation → State
shown s = record { parts = s.parts; here = s.here; phase = s.phase }

-- ---- the removal list

-- the new list is complete for the new services and begins with the replay of the old one after the change; the reply counts the
-- kept and the added entries
pub record IsRepair (old : Situation) (change : Change) (text : List ℕ) (new : Situation) : Type 0 where
  pub kept : List (Entry Pair)
  pub added : List (Entry Pair)
  pub list : new.list ≡ kept ++ added
  pub replays : kept ≡ replay (arena (present_system new)) (rename change old.list)
  pub complete : IsComplete (present_system new) (kept ++ added)
  pub says : Replies (reply.Kept (length kept) (length added)) text

-- place k has the service of that name
abbrev pub IsAt : Situation → List ℕ → ℕ → Type 0
IsAt s service k = slice_get (map seat_name s.parts.seats) k ≡ Some service

-- the event is refused, or the list is repaired after the change of the service of that name, with its place and its seat
abbrev pub RepairsList : Situation → List ℕ → (ℕ → model.Seat → Change) → List ℕ → Situation → Type 0
RepairsList old service change text new =
    (new ≡ old) ⊎ ((k : ℕ) × IsAt old service k × ((seat : model.Seat) × (slice_get (present_system old).seats k ≡ Some seat) × IsRepair old (change k seat) text new))

-- the explanation of the current pair
abbrev pub explanation_of : Situation → List ℕ
explanation_of s = explain_text (present_system s) (names_in s.parts) s.list s.here

-- the effect of an event on the removal list: a change of the services repairs it, unless it is refused; an explanation gives
-- the part of it on which the current pair's entry rests; every other event leaves it
abbrev pub ListAfter : Situation → Result LineShape LineError → List ℕ → Situation → Type 0
ListAfter old (Ok (freeze service)) text new = RepairsList old service (change_at kind.Freeze) text new
ListAfter old (Ok (thaw service)) text new = RepairsList old service (change_at kind.Thaw) text new
ListAfter old (Ok (die service)) text new = RepairsList old service (change_at kind.Die) text new
ListAfter old (Ok (join service behaviour state loose)) text new =
    (new ≡ old) ⊎ ((seat : Seat) × (new.parts.seats ≡ old.parts.seats ++ seat ∷ []) × IsRepair old (Join (seat_of old.parts.catalogue seat)) text new)
ListAfter old (Ok explain) text new =
    (IsGreat (shown old) ⊎ (text ≡ explanation_of old)) × (new.list ≡ old.list)
ListAfter old _ text new = new.list ≡ old.list

-- ---- steps

-- the step of an event: a turn of the state, and the event's effect on the list
abbrev pub StepBy : Situation → Result LineShape LineError → List ℕ → Situation → Type 0
StepBy old event text new = TurnsInto (shown old) event text (shown new) × ListAfter old event text new

-- the step of an event of this shape
abbrev pub StepOn : Situation → LineShape → List ℕ → Situation → Type 0
StepOn old event text new = StepBy old (Ok event) text new

-- the session may answer the line with the text, and its situation changes from old to new
unfoldable pub Step : Situation → List ℕ → List ℕ → Situation → Type 0
Step old line text new = StepBy old (shape_of line) text new

-- the event is `quit`, which ends a session
abbrev pub is_quit : Result LineShape LineError → Bool
is_quit (Ok quit) = true
is_quit _ = false
