-- The results of the checks of an event: the refusal of its step, or the things that the event names.
use Rattle.std.specs.Prelude.{◌≡◌, ℕ, ◌<◌, ◌≤◌, ◌⊎◌, Bool, true, false, not, List, [], ◌∷◌, ◌++◌, map, length, Result, Ok, Err, Some, IsTrue, IsFalse, slice_get}
use Rattle.roman_model.specs.Lists.{IsIn}
use Rattle.roman_model.specs.Change.{Join}
use Rattle.roman_model.specs.System as model
use Rattle.roman_model.specs.Explanation.{seat_names}
use Rattle.roman_model.specs.declared.limits.TheConstants.{MAX_SERVICES}
use Rattle.roman_read.specs.Names.{is_name}
use Rattle.roman_text.specs.Replies.{reply_text}
use Rattle.roman_text.specs.Shapes.{LineShape, join}
use Rattle.roman_text.specs.declared.replies.Reply.{Reply}
use Rattle.roman_text.specs.declared.replies.Reply.TheVariants as reply
use Rattle.roman_joint.specs.NamedSys.{NamedSys, beh_at, system_of, seat_of, cells}
use Rattle.roman_joint.specs.Names.{seat_name, beh_name, states_of_behaviour, names_in}
use Rattle.roman_joint.specs.declared.seat.Seat.{Seat}
use Rattle.roman_relation.specs.Greatest.{IsUpToDate}
use Rattle.roman_relation.specs.declared.relation.Relation.{Relation}
use Rattle.roman_repair.specs.Repairs.{Repairs}
use Rattle.roman_repair.specs.declared.tally.Tally.{Tally}
use Rattle.roman_generator.specs.declared.observation.Observation.{Observation}
use Rattle.roman_session.specs.declared.events.Delegation.{Delegation}
use Rattle.roman_session.specs.declared.events.JoinWords.{JoinWords}
use Rattle.roman_session.specs.declared.events.Joining.{Joining}
use Rattle.roman_session.specs.declared.events.Jump.{Jump}
use Rattle.roman_session.specs.declared.events.ServiceChange.{ServiceChange}
use Rattle.roman_session.specs.declared.phase.Phase.TheVariants.{Idle, Offered, Delegated}
use Rattle.roman_session.specs.Changes.{Suits, SuitsSeat, change_at, services_after}
use Rattle.roman_session.specs.Situations.{Situation}
use Rattle.roman_session.specs.States.{State, IsGreat, MayRequest, ServesHere}
use Rattle.roman_session.specs.Words.{CountsLost}
use Rattle.roman_session.specs.Turns.{Needs, Place, Refuses, with_services}
use Rattle.roman_session.specs.Steps.{StepOn, IsAt, IsRepair, shown}

-- the place of a name in a list, or `error name` if the list lacks it
abbrev pub FindsPlace : List (List ℕ) → List ℕ → Result ℕ Reply → Type 0
FindsPlace names name (Ok i) = slice_get names i ≡ Some name
FindsPlace names name (Err refusal) = (refusal ≡ reply.ErrorName) × (Place names name → ⊥)

-- the test is true exactly if the condition holds
abbrev pub Tests : Bool → Type 0 → Type 0
Tests true Holds = Holds
Tests false Holds = Holds → ⊥

-- the refusal is that of the step, or the conditions hold for the things that the event names
abbrev pub ChecksEvent : {X : Type 0} → Situation → LineShape → (X → Type 0) → Result X Reply → Type 0
ChecksEvent s event Can (Err refusal) = StepOn s event (reply_text refusal) s
ChecksEvent s event Can (Ok x) = Can x

-- do: the action can be requested
pub record CanRequest (s : Situation) (action : List ℕ) (a : ℕ) : Type 0 where
  pub at : slice_get s.parts.environment.actions a ≡ Some action
  pub idle : s.phase ≡ Idle
  pub great : IsGreat (shown s)
  pub may : MayRequest (shown s) a

-- use: the service can be given the requested action
pub record CanDelegate (s : Situation) (service : List ℕ) (x : Delegation) : Type 0 where
  pub at : IsAt s service x.seat
  pub requested : s.phase ≡ Offered x.action
  pub serves : ServesHere (shown s) x.action x.seat

-- saw: the session can judge these states of the delegate and of the environment
pub record CanObserve (s : Situation) (state env : List ℕ) (x : Observation) : Type 0 where
  pub delegated : s.phase ≡ Delegated x.action x.seat
  pub at : slice_get (seat_names (names_in s.parts) x.seat).states x.state ≡ Some state
  pub named : slice_get s.parts.environment.states x.env ≡ Some env

-- jump: the service can move to the state
pub record CanJump (s : Situation) (service state : List ℕ) (x : Jump) : Type 0 where
  pub at : IsAt s service x.seat
  pub named : slice_get (seat_names (names_in s.parts) x.seat).states x.state ≡ Some state
  pub idle : s.phase ≡ Idle

-- jumpenv: the environment can move to the state
pub record CanJumpEnv (s : Situation) (env : List ℕ) (e : ℕ) : Type 0 where
  pub named : slice_get s.parts.environment.states e ≡ Some env
  pub idle : s.phase ≡ Idle

-- freeze, thaw, die: the service can be changed
pub record CanChangeService (change : ServiceChange) (s : Situation) (service : List ℕ) (k : ℕ) : Type 0 where
  pub at : IsAt s service k
  pub idle : s.phase ≡ Idle
  pub suits : Suits change (shown s) k

-- the service at place k of a relation's system, and its state, can be changed in this way
pub record CanChangeAt (change : ServiceChange) (k : ℕ) (relation : Relation) (states : List ℕ) : Type 0 where
  pub up_to_date : IsUpToDate relation
  pub seat : k < length relation.joint.seats
  pub state : k < length states
  pub suits : SuitsSeat change (slice_get (system_of relation.joint).seats k)

-- the service at place k was changed, and the relation was repaired
pub record IsChangedAt (change : ServiceChange) (k : ℕ) (old new : Relation) (tally : Tally) : Type 0 where
  pub joint : new.joint ≡ record old.joint { seats = services_after change old.joint.seats k }
  pub repaired : (seat : model.Seat) → slice_get (system_of old.joint).seats k ≡ Some seat → Repairs (change_at change k seat) old new tally

-- the event of the words of a `join`
abbrev pub join_of : JoinWords → LineShape
join_of words = join words.service.now words.behaviour.now words.state.now words.loose

-- join: the service can be added, if there is room for it
pub record CanJoin (s : Situation) (words : JoinWords) (x : Joining) : Type 0 where
  pub good : IsTrue (is_name words.service.now)
  pub at : slice_get (map beh_name s.parts.catalogue) x.seat.behaviour ≡ Some words.behaviour.now
  pub named : slice_get (states_of_behaviour s.parts.catalogue x.seat.behaviour) x.state ≡ Some words.state.now
  pub idle : s.phase ≡ Idle
  pub free : IsIn words.service.now (map seat_name s.parts.seats) → ⊥
  pub seat : x.seat ≡ record { name = words.service.now; behaviour = x.seat.behaviour; frozen = false; rests = not words.loose }

-- a ready service with a new name, a behaviour of the catalogue, and one of the behaviour's states
pub record IsNewcomer (parts : NamedSys) (x : Joining) : Type 0 where
  pub name : IsIn x.seat.name (map seat_name parts.seats) → ⊥
  pub behaviour : x.seat.behaviour < length parts.catalogue
  pub state : x.state < (beh_at parts.catalogue x.seat.behaviour).states
  pub ready : IsFalse x.seat.frozen

-- the state with one more service
abbrev pub with_service : State → Joining → State
with_service s x = with_services s (s.parts.seats ++ x.seat ∷ []) (s.here.bs ++ x.state ∷ [])

-- the service is refused if there are too many services or cells; otherwise it joins, and the list is repaired
abbrev pub Joins : Situation → Joining → List ℕ → Situation → Type 0
Joins old x text new =
    (Needs (length old.parts.seats < MAX_SERVICES) (Refuses (shown old) text (shown new) reply.ErrorFull) (λ few.
    Needs (cells (system_of (with_service (shown old) x).parts) ≤ old.parts.limit) (Refuses (shown old) text (shown new) reply.ErrorLimit) (λ fits.
    CountsLost (with_service (shown old) x) text × (shown new ≡ with_service (shown old) x))))
    × ((new ≡ old) ⊎ ((seat : Seat) × (new.parts.seats ≡ old.parts.seats ++ seat ∷ []) × IsRepair old (Join (seat_of old.parts.catalogue seat)) text new))
