-- Turns of a session: the state to which an event leads and its answer, in terms of the greatest ND-simulation, steps and names.
use Rattle.std.specs.Prelude.{◌≡◌, ℕ, ◌<◌, ◌≤◌, ◌⊎◌, true, false, not, List, [], ◌∷◌, ◌++◌, map, length, Result, Ok, Err, Some, IsTrue, slice_get, slice_set}
use Rattle.std.specs.List.{remove}
use Rattle.roman_model.specs.Lists.{IsIn}
use Rattle.roman_model.specs.System.{TStep, SStep}
use Rattle.roman_model.specs.Explanation.{name_at, seat_names}
use Rattle.roman_model.specs.declared.limits.TheConstants.{MAX_SERVICES}
use Rattle.roman_read.specs.Names.{is_name}
use Rattle.roman_text.specs.Shapes.{LineShape, nothing, request, delegate, observe, abort, freeze, thaw, die, join, jump, jump_env, report, explain, quit}
use Rattle.roman_text.specs.declared.errors.LineError.{LineError}
use Rattle.roman_text.specs.declared.replies.Reply.{Reply}
use Rattle.roman_text.specs.declared.replies.Reply.TheVariants as reply
use Rattle.roman_joint.specs.NamedSys.{system_of, cells}
use Rattle.roman_joint.specs.Changes.{with_frozen}
use Rattle.roman_joint.specs.Names.{seat_name, beh_name, states_of_behaviour, names_in}
use Rattle.roman_joint.specs.declared.seat.Seat.{Seat}
use Rattle.roman_session.specs.declared.phase.Phase.TheVariants.{Idle, Offered, Delegated}
use Rattle.roman_session.specs.States.{State, start_state, IsGreat, MayRequest, ServesHere}
use Rattle.roman_session.specs.Afresh.{afresh}
use Rattle.roman_session.specs.Words.{Replies, OffersServing, CountsLost, ReportsGreat, IsReady, Refutes}

-- ---- conditions

-- the condition holds and the rest follows, or it doesn't hold and the event is refused
abbrev pub Needs : (Holds : Type 0) → Type 0 → (Holds → Type 0) → Type 0
Needs Holds Refused Then = ((holds : Holds) × Then holds) ⊎ ((Holds → ⊥) × Refused)

-- the condition holds and the event is refused, or it doesn't hold and the rest follows
abbrev pub Unless : Type 0 → Type 0 → Type 0 → Type 0
Unless Holds Refused Then = (Holds × Refused) ⊎ ((Holds → ⊥) × Then)

-- the name is at a place in the list
abbrev pub Place : List (List ℕ) → List ℕ → Type 0
Place names name = (i : ℕ) × (slice_get names i ≡ Some name)

-- the state with other services and their states
abbrev pub with_services : State → List Seat → List ℕ → State
with_services s seats bs = record { parts = record s.parts { seats = seats }; here = record s.here { bs = bs }; phase = s.phase }

-- ---- events

-- the effect of an event: its conditions in order, each with the reply that refuses it; then the next state, and the meaning of
-- the answer; a line that is no event is refused
abbrev pub ComesTo : State → Result LineShape LineError → (Reply → Type 0) → (State → (List ℕ → Type 0) → Type 0) → Type 0
ComesTo s (Err why) Refused Leads = Refused reply.ErrorLine
ComesTo s (Ok nothing) Refused Leads = Leads s (λ text. text ≡ [])
ComesTo s (Ok (request action)) Refused Leads =
    Needs (Place s.parts.environment.actions action) (Refused reply.ErrorName) (λ (a, there).
    Needs (s.phase ≡ Idle) (Refused reply.ErrorBusy) (λ idle.
    Needs (IsGreat s) (Refused reply.NoComposition) (λ great.
    Needs (MayRequest s a) (Refused reply.NotAllowed) (λ may.
    Leads (record s { phase = Offered a }) (OffersServing s a)))))
ComesTo s (Ok (delegate service)) Refused Leads =
    Needs (Place (map seat_name s.parts.seats) service) (Refused reply.ErrorName) (λ (k, there).
    Needs ((a : ℕ) × (s.phase ≡ Offered a)) (Refused reply.ErrorIdle) (λ (a, requested).
    Needs (ServesHere s a k) (Refused reply.NotOffered) (λ serves.
    Leads (record s { phase = Delegated a k }) (Replies (reply.Using service)))))
ComesTo s (Ok (observe state env)) Refused Leads =
    Needs ((a : ℕ) × (k : ℕ) × (s.phase ≡ Delegated a k)) (Refused reply.ErrorIdle) (λ (a, k, delegated).
    Needs (Place (seat_names (names_in s.parts) k).states state) (Refused reply.ErrorName) (λ (b, there).
    Needs (Place s.parts.environment.states env) (Refused reply.ErrorName) (λ (e, named).
    Needs (SStep (system_of s.parts) s.here.bs s.here.e a k (slice_set s.here.bs k b) e) (Refused reply.Impossible) (λ possible.
    (t : ℕ) × TStep (system_of s.parts) s.here.t s.here.e a t e × Leads (record s { here = record { t = t; e = e; bs = slice_set s.here.bs k b }; phase = Idle })
    (Replies (reply.Now (name_at s.parts.target.states t) env))))))
ComesTo s (Ok abort) Refused Leads = Unless (s.phase ≡ Idle) (Refused reply.ErrorIdle) (Leads (record s { phase = Idle }) (Replies reply.Aborted))
ComesTo s (Ok (freeze service)) Refused Leads =
    Needs (Place (map seat_name s.parts.seats) service) (Refused reply.ErrorName) (λ (k, there).
    Needs (s.phase ≡ Idle) (Refused reply.ErrorBusy) (λ idle.
    Needs (IsReady s k) (Refused reply.ErrorFrozen) (λ ready.
    let new = with_services s (with_frozen s.parts.seats k true) s.here.bs in Leads new (CountsLost new))))
ComesTo s (Ok (thaw service)) Refused Leads =
    Needs (Place (map seat_name s.parts.seats) service) (Refused reply.ErrorName) (λ (k, there).
    Needs (s.phase ≡ Idle) (Refused reply.ErrorBusy) (λ idle.
    Unless (IsReady s k) (Refused reply.ErrorReady)
    (let new = with_services s (with_frozen s.parts.seats k false) s.here.bs in Leads new (CountsLost new))))
ComesTo s (Ok (die service)) Refused Leads =
    Needs (Place (map seat_name s.parts.seats) service) (Refused reply.ErrorName) (λ (k, there).
    Needs (s.phase ≡ Idle) (Refused reply.ErrorBusy) (λ idle.
    let new = with_services s (remove s.parts.seats k) (remove s.here.bs k) in Leads new (CountsLost new)))
ComesTo s (Ok (join service behaviour state loose)) Refused Leads =
    Needs (IsTrue (is_name service)) (Refused reply.ErrorName) (λ good.
    Needs (Place (map beh_name s.parts.catalogue) behaviour) (Refused reply.ErrorName) (λ (i, there).
    Needs (Place (states_of_behaviour s.parts.catalogue i) state) (Refused reply.ErrorName) (λ (b, named).
    Needs (s.phase ≡ Idle) (Refused reply.ErrorBusy) (λ idle.
    Unless (IsIn service (map seat_name s.parts.seats)) (Refused reply.ErrorTaken) (
    let seat : Seat = record { name = service; behaviour = i; frozen = false; rests = not loose } in
    let new = with_services s (s.parts.seats ++ seat ∷ []) (s.here.bs ++ b ∷ []) in
    Needs (length s.parts.seats < MAX_SERVICES) (Refused reply.ErrorFull) (λ few.
    Needs (cells (system_of new.parts) ≤ s.parts.limit) (Refused reply.ErrorLimit) (λ fits.
    Leads new (CountsLost new))))))))
ComesTo s (Ok (jump service state)) Refused Leads =
    Needs (Place (map seat_name s.parts.seats) service) (Refused reply.ErrorName) (λ (k, there).
    Needs (Place (seat_names (names_in s.parts) k).states state) (Refused reply.ErrorName) (λ (b, named).
    Needs (s.phase ≡ Idle) (Refused reply.ErrorBusy) (λ idle.
    Leads (record s { here = record s.here { bs = slice_set s.here.bs k b } }) (Replies reply.Jumped))))
ComesTo s (Ok (jump_env env)) Refused Leads =
    Needs (Place s.parts.environment.states env) (Refused reply.ErrorName) (λ (e, named).
    Needs (s.phase ≡ Idle) (Refused reply.ErrorBusy) (λ idle.
    Leads (record s { here = record s.here { e = e } }) (Replies reply.Jumped)))
ComesTo s (Ok report) Refused Leads = Leads s (λ text. ReportsGreat s text × ReportsGreat (start_state (afresh s)) text)
ComesTo s (Ok explain) Refused Leads = Unless (IsGreat s) (Refused reply.ErrorRelated) (Leads s (Refutes s))
ComesTo s (Ok quit) Refused Leads = Leads s (Replies reply.Bye)

-- ---- turns

-- the event is refused with that reply, and the state stays the same
abbrev pub Refuses : State → List ℕ → State → Reply → Type 0
Refuses s text new refusal = Replies refusal text × (new ≡ s)

-- an event turns the state into a new one, and the text is its answer: the reply of the first condition that fails, or the
-- reply to an accepted event
abbrev pub TurnsInto : State → Result LineShape LineError → List ℕ → State → Type 0
TurnsInto s event text new = ComesTo s event (Refuses s text new) (λ next Says. Says text × (new ≡ next))
