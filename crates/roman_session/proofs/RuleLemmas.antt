-- The results of the checks of an event.
use Rattle.roman_session.proofs.Common.{◌≡◌, ℕ, not, ◌<◌, ◌∙◌, Bool, true, false, List, length, length-map, IsFalse, IsTrue, not-true, false≢true, same_Some, Err, Ok, Some, inl, inr, refl, sym, ap, subst, arith, slice_get, slice_set, is_allowed, is_related, allowed_in, from_allowed, related_great, great_related, number_listed, listed_number, has, offers, seat_read, system_of, seat_of, moved, NamedSys, Seat, FindsPlace, Tests, StepOn, CanRequest, CanObserve, CanJoin, JoinWords, join_of, Joins, Needs, Replies, Refuses, SStep, TStep, CanMove, request, observe, report, explain, Observation, Joining, names_in, name_at, reply_text, Reply, Delegated, Offered, Idle, IsOpen, IsPhase, get_or_from_slice_get, offer_text, report_text, explain_text, Situation, present_system, shown, IsSituation, IsReady, IsGreat, MayRequest, ServesHere, Inside, situation_in, [], is_ok, IsIn, get_in, Result, OffersServing, ServiceChange, event_of, Place, map, seat_name, IsAt}
use Rattle.roman_model.specs.System as model
use Rattle.roman_text.specs.declared.replies.Reply.TheVariants as reply
use Rattle.roman_session.specs.declared.events.ServiceChange.TheVariants as kind
use Rattle.roman_session.proofs.NameLemmas.{in_place}
use Rattle.roman_session.proofs.RefutationLemmas.{refutes}
use Rattle.roman_session.proofs.WordLemmas.{offers_serving, reports_both}

-- ---- tests

tests : (b : Bool) (Holds : Type 0) → (IsTrue b → Holds) → (Holds → IsTrue b) → Tests b Holds
tests true Holds to from = to refl
tests false Holds to from = λ h. false≢true (from h)

-- the test of the current pair
pub great_tests : (s : Situation) → IsSituation s → Tests (is_related (present_system s) s.here) (IsGreat (shown s))
great_tests s is = tests _ _ (related_great (present_system s) s.here is.parts.system is.here) (great_related (present_system s) s.here is.parts.system)

-- the test of an action
pub may_tests : (s : Situation) (a : ℕ) → IsSituation s → Tests (is_allowed (present_system s) s.here a) (MayRequest (shown s) a)
may_tests s a is = tests _ _ (from_allowed (present_system s) s.here a) (allowed_in (present_system s) s.here a is.parts.system)

-- the test of a service for the requested action
pub offered_tests : (s : Situation) (a k : ℕ) → IsSituation s → s.phase ≡ Offered a → k < length s.parts.seats → Tests (has (offers (present_system s) s.here a) k) (ServesHere (shown s) a k)
offered_tests s a k is requested l =
    let serving = offers_serving (shown s) a is.parts.system is.here (subst (IsPhase s) requested is.phase).1 in
    tests _ _ (λ offered. ((serving.exact k).0 (number_listed (offers (present_system s) s.here a) k offered)).1)
    (λ serves. listed_number (offers (present_system s) s.here a) k ((serving.exact k).1 (omega (arith, l, length-map s.parts.seats (seat_of s.parts.catalogue)), serves)))

-- the test whether a service can be frozen
pub ready_tests : (n : NamedSys) (s : Situation) (k : ℕ) (seat : Seat) → n ≡ s.parts → slice_get n.seats k ≡ Some seat → Tests (not seat.frozen) (IsReady (shown s) k)
ready_tests n s k seat same seated =
    let there = seat_read s.parts k seat (subst (λ (n : NamedSys). slice_get n.seats k ≡ Some seat) same seated) in
    tests _ _ (λ ready. (seat_of s.parts.catalogue seat, there, not-true seat.frozen ready))
    (λ (other, at, ready). ap not (subst (λ (x : model.Seat). IsFalse x.frozen) (same_Some other (seat_of s.parts.catalogue seat) (sym at ∙ there)) ready))

-- ---- names

-- the refusal of a name that isn't found
pub no_name : (s : Situation) (r : Reply) → r ≡ reply.ErrorName → Refuses (shown s) (reply_text r) (shown s) reply.ErrorName
no_name s r is = (ap reply_text is, refl)

-- a name is found if it is in the list
pub found_tests : (names : List (List ℕ)) (name : List ℕ) (r : Result ℕ Reply) → FindsPlace names name r → Tests (is_ok r) (IsIn name names)
found_tests names name (Ok i) there = get_in names i name there
found_tests names name (Err refusal) (same, none) = λ i. none (in_place names name i)

-- ---- do

-- a request that passes the checks can be open
pub may_open : (s : Situation) (action : List ℕ) (a : ℕ) → IsSituation s → CanRequest s action a → IsOpen s a
may_open s action a is can = (great_related (present_system s) s.here is.parts.system can.great, allowed_in (present_system s) s.here a is.parts.system can.may)

-- the offered services are those that serve
pub offers_said : (s : Situation) (a : ℕ) → IsSituation s → MayRequest (shown s) a → OffersServing (shown s) a (offer_text s a)
unfolding offer_text
offers_said s a is may =
    record { services = offers (present_system s) s.here a; serving = offers_serving (shown s) a is.parts.system is.here (allowed_in (present_system s) s.here a is.parts.system may); says = refl }

-- the step of a request
pub requests : (old new : Situation) (action : List ℕ) (a : ℕ) → IsSituation old → CanRequest old action a → new ≡ record old { phase = Offered a } → StepOn old (request action) (offer_text new a) new
unfolding offer_text
requests old new action a is can becomes =
    subst (λ (s : Situation). StepOn old (request action) (offer_text s a) s) (sym becomes) (inl ((a, can.at), inl (can.idle, inl (can.great, inl (can.may, (offers_said old a is can.may, refl))))), refl)

-- ---- use

-- a delegation that isn't refused leads to a possible phase
pub delegate_opens : (s : Situation) (a k : ℕ) → IsSituation s → s.phase ≡ Offered a → ServesHere (shown s) a k → k < length s.parts.seats → IsPhase s (Delegated a k)
delegate_opens s a k is requested serves l =
    let opens = subst (IsPhase s) requested is.phase in
    let serving = offers_serving (shown s) a is.parts.system is.here opens.1 in
    (opens, (serving.exact k).1 (omega (arith, l, length-map s.parts.seats (seat_of s.parts.catalogue)), serves))

-- ---- saw

-- saw: the pair moves to the observed states, or the outcome is impossible
abbrev pub Observes : Situation → List ℕ → Observation → List ℕ → Situation → Type 0
Observes s env x text new =
    Needs (SStep (present_system s) s.here.bs s.here.e x.action x.seat (slice_set s.here.bs x.seat x.state) x.env) (Refuses (shown s) text (shown new) reply.Impossible) (λ possible.
    (t : ℕ) × TStep (present_system s) s.here.t s.here.e x.action t x.env
    × (Replies (reply.Now (name_at s.parts.target.states t) env) text × (shown new ≡ record (shown s) { here = record { t = t; e = x.env; bs = slice_set s.here.bs x.seat x.state }; phase = Idle })))

-- the step of an outcome that can be judged
pub observes : (s new : Situation) (state env : List ℕ) (x : Observation) (text : List ℕ) → CanObserve s state env x → Observes s (name_at s.parts.environment.states x.env) x text new → new.list ≡ s.list → StepOn s (observe state env) text new
observes s new state env x text can acts list = (
  inl (
    (x.action, x.seat, can.delegated),
    inl (
      (x.state, can.at),
      inl (
        (x.env, can.named),
        subst (λ (name : List ℕ). Observes s name x text new) (get_or_from_slice_get s.parts.environment.states x.env env [] can.named) acts,
      ),
    ),
  ),
  list,
)

-- no step leads to the observed states
pub observes_never : (a : Inside) (s : Situation) (x : Observation) (name bs : List ℕ) → situation_in a ≡ s → bs ≡ a.states.items →
    (CanMove (system_of a.relation.joint) (record { t = a.target; e = a.env; bs = bs }) x.action x.seat x.state x.env → ⊥) → Observes s name x (reply_text reply.Impossible) s
observes_never a s x name bs view same never = grind arith

-- the pair moves to the observed states
pub observes_moved : (a : Inside) (s new : Situation) (x : Observation) (to : ℕ) (name bs text : List ℕ) → situation_in a ≡ s → bs ≡ a.states.items →
    TStep (system_of a.relation.joint) a.target a.env x.action to x.env × CanMove (system_of a.relation.joint) (record { t = a.target; e = a.env; bs = bs }) x.action x.seat x.state x.env →
    new ≡ record s { here = moved s.here to x.env x.seat x.state; phase = Idle } → text ≡ reply_text (reply.Now (name_at s.parts.target.states to) name) → Observes s name x text new
observes_moved a s new x to name bs text view same (target, system) becomes says = grind arith

-- ---- freeze, thaw, die

-- the refusal if no present service has the name
pub change_unnamed : (change : ServiceChange) (s : Situation) (service : List ℕ) → (Place (map seat_name s.parts.seats) service → ⊥) → StepOn s (event_of change service) (reply_text reply.ErrorName) s
change_unnamed kind.Freeze s service none = (inr (none, (refl, refl)), inl refl)
change_unnamed kind.Thaw s service none = (inr (none, (refl, refl)), inl refl)
change_unnamed kind.Die s service none = (inr (none, (refl, refl)), inl refl)

-- the refusal if a request is open
pub change_busy : (change : ServiceChange) (s : Situation) (service : List ℕ) (k : ℕ) → IsAt s service k → (s.phase ≡ Idle → ⊥) → StepOn s (event_of change service) (reply_text reply.ErrorBusy) s
change_busy kind.Freeze s service k at busy = (inl ((k, at), inr (busy, (refl, refl))), inl refl)
change_busy kind.Thaw s service k at busy = (inl ((k, at), inr (busy, (refl, refl))), inl refl)
change_busy kind.Die s service k at busy = (inl ((k, at), inr (busy, (refl, refl))), inl refl)

-- ---- join

-- the step of a service that joins if there is room for it
pub joins : (old new : Situation) (words : JoinWords) (x : Joining) (text : List ℕ) → CanJoin old words x → Joins old x text new → StepOn old (join_of words) text new
joins old new words x text can adds =
    let named = subst (λ (seat : Seat). Joins old (record { seat = seat; state = x.state }) text new) can.seat adds in
    (inl (can.good, inl ((x.seat.behaviour, can.at), inl ((x.state, can.named), inl (can.idle, inr (can.free, named.0))))), named.1)

-- ---- report and explain

pub reports : (s : Situation) → IsSituation s → StepOn s report (report_text s.parts s.here) s
reports s is = ((reports_both s (report_text s.parts s.here) is refl, refl), refl)

-- the step of an explanation
pub explains : (old new : Situation) → IsSituation old → (IsGreat (shown old) → ⊥) → new ≡ old → StepOn old explain (explain_text (present_system old) (names_in old.parts) old.list old.here) new
explains old new is lost same = grind (arith, refutes)
