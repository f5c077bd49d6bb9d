-- Sessions of documents with several targets, target by target: which target has which request, which services serve all targets,
-- and which target moves, in terms of the greatest ND-simulation of all targets, steps and texts alone.
use Rattle.std.specs.Prelude.{◌≡◌, ◌↔◌, ℕ, ◌<◌, ◌++◌, List, map, length, codes, Option, Some, IfSome, Result, Ok, IsTrue, slice_get, slice_index, slice_set}
use Rattle.std.specs.List.{flat_map}
use Rattle.roman_io.specs.Shelf.{Texts}
use Rattle.roman_model.specs.Lists.{IsIn, IsSublist, below}
use Rattle.roman_model.specs.System.{Sys, Pair, has_move, IsPair, TStep, SStep, Allows}
use Rattle.roman_model.specs.Composition.{Great}
use Rattle.roman_model.specs.Several.{Several, CoupleAll, of_one, ServesAll, GreatAll}
use Rattle.roman_model.specs.Combined.{couple_all}
use Rattle.roman_model.specs.Explanation.{name_at, seat_names}
use Rattle.roman_text.specs.Shapes.{LineShape, delegate, observe, request}
use Rattle.roman_text.specs.declared.errors.LineError.{LineError}
use Rattle.roman_text.specs.declared.replies.Reply.TheVariants as reply
use Rattle.roman_joint.specs.NamedSys.{system_of}
use Rattle.roman_joint.specs.Names.{seat_name, names_in}
use Rattle.roman_multi.specs.Combining.{joined, names_at, request_name}
use Rattle.roman_multi.specs.declared.parts.Named.{Named}
use Rattle.roman_library.specs.Library.{PlainLibrary}
use Rattle.roman_library.specs.Targets.{PlainTargets, NamesTargets}
use Rattle.roman_session.specs.declared.phase.Phase.TheVariants.{Idle, Offered, Delegated}
use Rattle.roman_hearing.specs.Several.{several_with}
use Rattle.roman_session.specs.States.{State, start_state, MayRequest, ServesHere}
use Rattle.roman_session.specs.Turns.{Needs, Place, Refuses}
use Rattle.roman_session.specs.Words.{Replies}
use Rattle.roman_top.specs.Command.{Synth, Run, Command, On}
use Rattle.roman_top.specs.HeadlineTurns.{Turn, Means, HasAnsweredLines}
use Rattle.roman_top.specs.World.{World}

-- ---- states

-- the document's targets, over its own actions, with the services now present
abbrev pub targets_now : PlainTargets → State → Several
targets_now said s = several_with said s.parts.seats

-- the current states of the targets, the environment and the services
abbrev pub couple_now : PlainTargets → State → CoupleAll
couple_now said s = couple_all (targets_now said s) s.here

-- some ND-simulation of all targets contains the current states
abbrev pub IsGreatAll : PlainTargets → State → Type 0
IsGreatAll said s = GreatAll (targets_now said s) (couple_now said s)

-- ---- requests

-- action n of the session requests an action of the target at a place; its name joins the names of the action and the target
pub record TargetAction (said : PlainTargets) (s : State) (n : ℕ) : Type 0 where
  pub place : ℕ
  pub target : Named
  pub action : ℕ
  pub there : slice_get said.targets place ≡ Some target
  pub used : (b : ℕ) × (e : ℕ) × (b' : ℕ) × IsTrue (has_move target.target.beh b e action b')
  pub name : slice_get s.parts.environment.actions n ≡ Some (request_name said.environment.actions said.targets (record { target = place; action = action }))

-- the system with that target alone
abbrev pub one_now : (said : PlainTargets) (s : State) (n : ℕ) → TargetAction said s n → Sys
one_now said s n asks = of_one (targets_now said s) asks.target.target.beh

-- the target's current state
abbrev pub state_now : (said : PlainTargets) (s : State) (n : ℕ) → TargetAction said s n → ℕ
state_now said s n asks = slice_index (couple_now said s).ts asks.place

-- the target allows its action in its own state
abbrev pub MayRequestOne : (said : PlainTargets) (s : State) (n : ℕ) → TargetAction said s n → Type 0
MayRequestOne said s n asks = Allows (one_now said s n asks) (state_now said s n asks) s.here.e asks.action

-- the service at place k serves the action for all targets: it can answer each of the target's steps, and each of its outcomes belongs to
-- some ND-simulation of all targets
abbrev pub ServesAllHere : (said : PlainTargets) (s : State) (n : ℕ) → TargetAction said s n → ℕ → Type 0
ServesAllHere said s n asks k = ServesAll (targets_now said s) (GreatAll (targets_now said s)) (couple_now said s) asks.place asks.target.target.beh asks.action k

-- the text offers exactly the services that serve the action for all targets, in the order of their places
pub record OffersServingAll (said : PlainTargets) (s : State) (n : ℕ) (asks : TargetAction said s n) (text : List ℕ) : Type 0 where
  pub services : List ℕ
  pub order : IsSublist services (below (length s.parts.seats))
  pub exact : (k : ℕ) → IsIn k services ↔ ((k < length s.parts.seats) × ServesAllHere said s n asks k)
  pub says : text ≡ codes "offer" ++ flat_map (λ k. codes " " ++ name_at (map seat_name s.parts.seats) k) services ++ codes "\n"

-- ---- turns

-- an outcome moves the target to state t, and no other target; the answer names the states of all targets, joined by dashes
pub record MovesOne (said : PlainTargets) (s : State) (n : ℕ) (asks : TargetAction said s n) (e : ℕ) (bs : List ℕ) (env text : List ℕ) (new : State) : Type 0 where
  pub t : ℕ
  pub step : TStep (one_now said s n asks) (state_now said s n asks) s.here.e asks.action t e
  pub parts : new.parts ≡ s.parts
  pub phase : new.phase ≡ Idle
  pub couple : couple_now said new ≡ record { ts = slice_set (couple_now said s).ts asks.place t; e = e; bs = bs; e2 = e }
  pub says : Replies (reply.Now (joined (names_at said.targets (slice_set (couple_now said s).ts asks.place t))) env) text

-- the three events of a request, target by target: their conditions in order, each with its refusal, and then their effects
abbrev pub TellsTarget : PlainTargets → State → Result LineShape LineError → List ℕ → State → Type 0
TellsTarget said s (Ok (request action)) text new =
    Needs ((n : ℕ) × (slice_get s.parts.environment.actions n ≡ Some action) × TargetAction said s n) (Refuses s text new reply.ErrorName) (λ (n, named, asks).
    Needs (s.phase ≡ Idle) (Refuses s text new reply.ErrorBusy) (λ idle.
    Needs (IsGreatAll said s) (Refuses s text new reply.NoComposition) (λ great.
    Needs (MayRequestOne said s n asks) (Refuses s text new reply.NotAllowed) (λ may.
    OffersServingAll said s n asks text × (new ≡ record s { phase = Offered n })))))
TellsTarget said s (Ok (delegate service)) text new =
    Needs (Place (map seat_name s.parts.seats) service) (Refuses s text new reply.ErrorName) (λ (k, there).
    Needs ((n : ℕ) × (s.phase ≡ Offered n) × TargetAction said s n) (Refuses s text new reply.ErrorIdle) (λ (n, requested, asks).
    Needs (ServesAllHere said s n asks k) (Refuses s text new reply.NotOffered) (λ serves.
    Replies (reply.Using service) text × (new ≡ record s { phase = Delegated n k }))))
TellsTarget said s (Ok (observe state env)) text new =
    Needs ((n : ℕ) × (k : ℕ) × (s.phase ≡ Delegated n k) × TargetAction said s n) (Refuses s text new reply.ErrorIdle) (λ (n, k, delegated, asks).
    Needs (Place (seat_names (names_in s.parts) k).states state) (Refuses s text new reply.ErrorName) (λ (b, there).
    Needs (Place s.parts.environment.states env) (Refuses s text new reply.ErrorName) (λ (e, named).
    Needs (SStep (one_now said s n asks) s.here.bs s.here.e asks.action k (slice_set s.here.bs k b) e) (Refuses s text new reply.Impossible) (λ possible.
    MovesOne said s n asks e (slice_set s.here.bs k b) env text new))))
TellsTarget said s _ text new = Unit {0}

-- action n is a request of one of the targets: the session allows it exactly when that target allows its action, and the services that
-- serve it are exactly those that serve it for all targets
pub record MeansOne (said : PlainTargets) (s : State) (n : ℕ) : Type 0 where
  pub asks : TargetAction said s n
  pub may : MayRequest s n ↔ MayRequestOne said s n asks
  pub serves : (k : ℕ) → ServesHere s n k ↔ ServesAllHere said s n asks k

-- a pair of the state's system is related exactly when some ND-simulation of all targets contains it; each action is one of a target
pub record MeansTargets (said : PlainTargets) (s : State) : Type 0 where
  pub great : (p : Pair) → IsPair (system_of s.parts) p → Great (system_of s.parts) p ↔ GreatAll (targets_now said s) (couple_all (targets_now said s) p)
  pub actions : (n : ℕ) → n < length s.parts.environment.actions → MeansOne said s n

-- a turn, target by target: the meaning of its states, and of the three events of a request
pub record IsTurnOfTargets (said : PlainTargets) (x : Turn) : Type 0 where
  pub before : MeansTargets said x.before
  pub after : MeansTargets said x.after
  pub tells : TellsTarget said x.before x.event x.text x.after

-- ---- sessions and reports

-- the lines of the session have their turns, each of them also target by target
pub record HasAnsweredTargets (requested : Option Command) (library : PlainLibrary) (said : PlainTargets) (texts : Texts) (old new : World) : Type 0 where
  pub answered : HasAnsweredLines requested library texts old new
  pub each : (x : Turn) → IsIn x answered.turns → IsTurnOfTargets said x

-- the promise of a session, and of the state on which a synthesis reports, if the document names several targets
abbrev pub FulfilsTargets : Option Command → World → World → Type 0
FulfilsTargets (Some (On system (Run name))) old new =
    IfSome old.texts (λ texts. (library : PlainLibrary) (said : PlainTargets) → Means texts system library → NamesTargets texts system said →
    HasAnsweredTargets (Some (On system (Run name))) library said texts old new)
FulfilsTargets (Some (On system Synth)) old new =
    IfSome old.texts (λ texts. (library : PlainLibrary) (said : PlainTargets) → Means texts system library → NamesTargets texts system said → MeansTargets said (start_state library))
FulfilsTargets _ old new = Unit {0}
