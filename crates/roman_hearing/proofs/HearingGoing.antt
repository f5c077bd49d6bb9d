-- Every line has an answer.
use Rattle.roman_hearing.proofs.Common.{Bool, Change, CountsLost, Delegated, Entry, Err, Idle, IsComplete, IsGreat, IsIn, IsKnownSituation, IsPhase, IsReady, IsRepair, IsSituation, IsTrue, LineError, LineShape, List, MAX_SERVICES, None, Offered, Ok, Option, Pair, Phase, Place, Reply, Result, Situation, Some, State, Step, ServiceChange, IsAt, RepairsList, change_at, services_after, states_after, with_services, StepBy, Sys, Tests, [], abort, after, and_from, and_parts, any_false, any_true, arena, arith, request, beh_name, both_ways, by_test, cases_lt, cells, die, eq-eqb, eqb-true, explain, explain_text, explains, false, false≢true, freeze, from_allowed, from_outcome, get_in, great_tests, delegate, has, inl, inr, is_allowed, is_name, is_related, join, jump, jump_env, length, list_any, lost_counted, map, may_tests, name_at, names_in, not, nothing, offer_text, offered_tests, offers, order_goes_on, outcome_in, outcomes, place_of, place_there, present_system, quit, ready_tests, refl, rename, renaming_keeps, replay, replay_sublist, reply_text, report, report_text, reports, same_numbers, same_numbers_is, same_numbers_itself, observe, seat_name, seat_names, shape_of, shown, slice_set, states_of_behaviour, sublist_in, subst, sym, system_of, thaw, there_is, true, ℕ, ◌&&◌, ◌++◌, ◌<◌, ◌==◌, ◌∷◌, ◌≡◌, ◌≤◌, ◌⊎◌, SStep, TStep, Needs, Unless, Refuses, offers_said, in_place, none_absent}
use Rattle.roman_text.specs.declared.replies.Reply.TheVariants as reply
use Rattle.roman_joint.specs.declared.seat.Seat.{Seat}
use Rattle.roman_session.specs.declared.events.ServiceChange.TheVariants as kind
use Rattle.roman_hearing.proofs.ChangeLemmas.{CanMake, changes_can, joins_can, seat_there}
use Rattle.roman_hearing.proofs.KnownLemmas.{situation_of, steps_known}
use Rattle.roman_hearing.proofs.WithinLemmas.{behaviour_within, new_state_within, seat_within}

-- ---- conditions can be decided

-- the condition holds, or it doesn't
abbrev Decided : Type 0 → Type 0
Decided P = P ⊎ (P → ⊥)

by_tests : {P : Type 0} (b : Bool) → Tests b P → Decided P
by_tests true holds = inl holds
by_tests false never = inr never

by_bool : (b : Bool) → Decided (IsTrue b)
by_bool true = inl refl
by_bool false = inr (λ h. false≢true h)

by_less : (n m : ℕ) → Decided (n < m)
by_less n m = elim (cases_lt n m) [ inl less ↦ inl less | inr more ↦ inr (λ less. absurd (omega (arith, less, more))) ]

by_most : (n m : ℕ) → Decided (n ≤ m)
by_most n m = elim (cases_lt m n) [ inl more ↦ inr (λ most. absurd (omega (arith, most, more))) | inr most ↦ inl most ]

by_idle : (phase : Phase) → Decided (phase ≡ Idle)
by_idle Idle = inl refl
by_idle (Offered a) = inr (λ is. cc)
by_idle (Delegated a k) = inr (λ is. cc)

by_offered : (phase : Phase) → Decided ((a : ℕ) × (phase ≡ Offered a))
by_offered Idle = inr (λ (a, is). cc)
by_offered (Offered a) = inl (a, refl)
by_offered (Delegated b k) = inr (λ (a, is). cc)

by_delegated : (phase : Phase) → Decided ((a : ℕ) × (k : ℕ) × (phase ≡ Delegated a k))
by_delegated Idle = inr (λ (a, k, is). cc)
by_delegated (Offered b) = inr (λ (a, k, is). cc)
by_delegated (Delegated a k) = inl (a, k, refl)

by_place : (names : List (List ℕ)) (name : List ℕ) → Decided (Place names name)
by_place names name = at (place_of names name) refl
  where
    at : (o : Option ℕ) → place_of names name ≡ o → Decided (Place names name)
    at None e = inr (λ (i, there). none_absent names name e (get_in names i name there))
    at (Some i) e = inl (i, place_there names name i e)

by_name : (names : List (List ℕ)) (name : List ℕ) → Decided (IsIn name names)
by_name names name = elim (by_place names name) [ inl (i, there) ↦ inl (get_in names i name there) | inr none ↦ inr (λ i. none (in_place names name i)) ]

by_ready : (s : Situation) (k : ℕ) → k < length s.parts.seats → Decided (IsReady (shown s) k)
by_ready s k l = let (seat, seated) = there_is s.parts.seats k l in by_tests (not seat.frozen) (ready_tests s.parts s k seat refl seated)

-- ---- observed outcomes

-- the outcome has these states of the environment and the services
shows : ℕ → List ℕ → Pair → Bool
shows e bs q = (q.e == e) && same_numbers q.bs bs

-- some system step leads to the states, together with a target step, or no system step does
by_outcome : (s : Situation) (a k e : ℕ) (bs : List ℕ) → IsSituation s → IsTrue (is_allowed (present_system s) s.here a) →
    ((t : ℕ) × TStep (present_system s) s.here.t s.here.e a t e × SStep (present_system s) s.here.bs s.here.e a k bs e) ⊎ (SStep (present_system s) s.here.bs s.here.e a k bs e → ⊥)
unfolding shows
by_outcome s a k e bs is allowed =
    by_test (list_any (shows e bs) (outcomes (present_system s) s.here a k))
    (λ some.
    let (q, i, shown) = any_true (shows e bs) (outcomes (present_system s) s.here a k) some in
    let (env, states) = and_parts (q.e == e) (same_numbers q.bs bs) shown in
    let (target, moved) = from_outcome (present_system s) s.here a k q i in
    let is_e : q.e ≡ e = eqb-true q.e e env in
    let is_bs : q.bs ≡ bs = same_numbers_is q.bs bs states in
    inl (
      q.t,
      subst (λ (e : ℕ). TStep (present_system s) s.here.t s.here.e a q.t e) is_e target,
      subst (λ (e : ℕ). SStep (present_system s) s.here.bs s.here.e a k bs e) is_e (subst (λ (bs : List ℕ). SStep (present_system s) s.here.bs s.here.e a k bs q.e) is_bs moved),
    ))
    (λ none. inr (λ moved.
    let (t, e', step) = from_allowed (present_system s) s.here a allowed in
    let q : Pair = record { t = t; e = e; bs = bs } in
    both_ways (shows e bs q) (any_false (shows e bs) q (outcomes (present_system s) s.here a k) none
    (outcome_in (present_system s) s.here a k t e bs is.parts.system (moved.world, step.1) moved))
    (and_from (e == e) (same_numbers bs bs) (eq-eqb e e refl) (same_numbers_itself bs))))

-- ---- changes of the services

-- a list for the new services, and the reply that counts its entries
record HasMade (s : Situation) (change : Change) (next : State) : Type 0 where
  text : List ℕ
  list : List (Entry Pair)
  counts : CountsLost next text
  repair : IsRepair s change text (situation_of next list)

-- the replay extends to a complete list of the new system
made_there : (s : Situation) (change : Change) (next : State) → IsSituation s → CanMake s change next → HasMade s change next
made_there s change next is can =
    let after : Sys = after change (present_system s) in
    let renamed = renaming_keeps change (present_system s) s.list is.parts.system can.can is.list.pairs is.list.order in
    let kept : List (Entry Pair) = replay (arena after) (rename change s.list) in
    let (added, complete) = order_goes_on after kept renamed.system (λ y i. renamed.pairs y (sublist_in y kept (rename change s.list) (replay_sublist (arena after) (rename change s.list)) i)) renamed.order in
    let list : IsComplete (system_of next.parts) (kept ++ added) = subst (λ (s : Sys). IsComplete s (kept ++ added)) (sym can.same) complete in
    record {
      text = reply_text (reply.Kept (length kept) (length added));
      list = kept ++ added;
      counts = record { kept = length kept; added = length added; lost = lost_counted (system_of next.parts) kept added list; says = refl };
      repair = record {
        kept = kept;
        added = added;
        list = refl;
        replays = subst (λ (s' : Sys). kept ≡ replay (arena s') (rename change s.list)) (sym can.same) refl;
        complete = list;
        says = refl;
      };
    }

-- ---- any line

-- an answer for which the property holds
record Answered (Holds : List ℕ → Situation → Type 0) : Type 0 where
  text : List ℕ
  new : Situation
  holds : Holds text new

module _ (s : Situation) (known : IsKnownSituation s) where
  abbrev is : IsSituation s
  is = known.situation

  leads : {Holds : List ℕ → Situation → Type 0} (text : List ℕ) (new : Situation) → Holds text new → Answered Holds
  leads text new holds = record { text = text; new = new; holds = holds }

  -- either the condition holds and the rest follows, or the event is refused
  needs : {H : Type 0} {Then : H → List ℕ → Situation → Type 0} {Left : List ℕ → Situation → Type 0} (r : Reply) → Left (reply_text r) s → Decided H → ((h : H) → Answered (λ text new. Then h text new × Left text new)) →
      Answered (λ text new. Needs H (Refuses (shown s) text (shown new) r) (λ h. Then h text new) × Left text new)
  needs r left (inl holds) go = let x = go holds in leads x.text x.new (inl (holds, x.holds.0), x.holds.1)
  needs r left (inr never) go = leads (reply_text r) s (inr (never, (refl, refl)), left)

  unless : {H : Type 0} {Then Left : List ℕ → Situation → Type 0} (r : Reply) → Left (reply_text r) s → Decided H → ((H → ⊥) → Answered (λ text new. Then text new × Left text new)) →
      Answered (λ text new. Unless H (Refuses (shown s) text (shown new) r) (Then text new) × Left text new)
  unless r left (inl holds) go = leads (reply_text r) s (inl (holds, (refl, refl)), left)
  unless r left (inr never) go = let x = go never in leads x.text x.new (inr (never, x.holds.0), x.holds.1)

  great : Decided (IsGreat (shown s))
  great = by_tests (is_related (present_system s) s.here) (great_tests s is)

  -- the answer to a change of a service
  changes : (change : ServiceChange) (service : List ℕ) (k : ℕ) → IsAt s service k →
      let next = with_services (shown s) (services_after change s.parts.seats k) (states_after change s.here.bs k) in
      Answered (λ text new. (CountsLost next text × (shown new ≡ next)) × RepairsList s service (change_at change) text new)
  changes change service k at =
      let l = seat_within s service k at in
      let (seat, there) = seat_there s is k l in
      let made = made_there s _ _ is (changes_can s is change k seat l there) in
      leads made.text (situation_of _ made.list) ((made.counts, refl), inr (k, at, (seat, there, made.repair)))

  step_by : (event : Result LineShape LineError) → Answered (StepBy s event)
  step_by (Err why) = leads (reply_text reply.ErrorLine) s ((refl, refl), refl)
  step_by (Ok nothing) = leads [] s ((refl, refl), refl)
  step_by (Ok (request action)) =
      needs reply.ErrorName refl (by_place s.parts.environment.actions action) (λ (a, at).
      needs reply.ErrorBusy refl (by_idle s.phase) (λ idle.
      needs reply.NoComposition refl great (λ great.
      needs reply.NotAllowed refl (by_tests (is_allowed (present_system s) s.here a) (may_tests s a is)) (λ may.
      leads (offer_text s a) (record s { phase = Offered a }) ((offers_said s a is may, refl), refl)))))
  step_by (Ok (delegate service)) =
      needs reply.ErrorName refl (by_place (map seat_name s.parts.seats) service) (λ (k, at).
      needs reply.ErrorIdle refl (by_offered s.phase) (λ (a, requested).
      needs reply.NotOffered refl (by_tests (has (offers (present_system s) s.here a) k) (offered_tests s a k is requested (seat_within s service k at))) (λ serves.
      leads (reply_text (reply.Using service)) (record s { phase = Delegated a k }) ((refl, refl), refl))))
  step_by (Ok (observe state env)) =
      needs reply.ErrorIdle refl (by_delegated s.phase) (λ (a, k, delegated).
      needs reply.ErrorName refl (by_place (seat_names (names_in s.parts) k).states state) (λ (b, at).
      needs reply.ErrorName refl (by_place s.parts.environment.states env) (λ (e, named).
      let bs = slice_set s.here.bs k b in
      elim (by_outcome s a k e bs is (subst (IsPhase s) delegated is.phase).0.1) [
        | inl (t, target, possible) ↦ leads (reply_text (reply.Now (name_at s.parts.target.states t) env)) (record s { here = record { t = t; e = e; bs = bs }; phase = Idle }) (inl (possible, (t, target, (refl, refl))), refl)
        | inr never ↦ leads (reply_text reply.Impossible) s (inr (never, (refl, refl)), refl)
      ])))
  step_by (Ok abort) = unless reply.ErrorIdle refl (by_idle s.phase) (λ busy. leads (reply_text reply.Aborted) (record s { phase = Idle }) ((refl, refl), refl))
  step_by (Ok (freeze service)) =
      needs reply.ErrorName (inl refl) (by_place (map seat_name s.parts.seats) service) (λ (k, at).
      needs reply.ErrorBusy (inl refl) (by_idle s.phase) (λ idle.
      needs reply.ErrorFrozen (inl refl) (by_ready s k (seat_within s service k at)) (λ ready. changes kind.Freeze service k at)))
  step_by (Ok (thaw service)) =
      needs reply.ErrorName (inl refl) (by_place (map seat_name s.parts.seats) service) (λ (k, at).
      needs reply.ErrorBusy (inl refl) (by_idle s.phase) (λ idle.
      unless reply.ErrorReady (inl refl) (by_ready s k (seat_within s service k at)) (λ frozen. changes kind.Thaw service k at)))
  step_by (Ok (die service)) =
      needs reply.ErrorName (inl refl) (by_place (map seat_name s.parts.seats) service) (λ (k, at).
      needs reply.ErrorBusy (inl refl) (by_idle s.phase) (λ idle. changes kind.Die service k at))
  step_by (Ok (join service behaviour state loose)) =
      needs reply.ErrorName (inl refl) (by_bool (is_name service)) (λ good.
      needs reply.ErrorName (inl refl) (by_place (map beh_name s.parts.catalogue) behaviour) (λ (i, at).
      needs reply.ErrorName (inl refl) (by_place (states_of_behaviour s.parts.catalogue i) state) (λ (b, named).
      needs reply.ErrorBusy (inl refl) (by_idle s.phase) (λ idle.
      unless reply.ErrorTaken (inl refl) (by_name (map seat_name s.parts.seats) service) (λ free.
      let seat : Seat = record { name = service; behaviour = i; frozen = false; rests = not loose } in
      needs reply.ErrorFull (inl refl) (by_less (length s.parts.seats) MAX_SERVICES) (λ few.
      needs reply.ErrorLimit (inl refl) (by_most (cells (system_of (record s.parts { seats = s.parts.seats ++ seat ∷ [] }))) s.parts.limit) (λ fits.
      let place = behaviour_within s i behaviour at in
      let made = made_there s _ _ is (joins_can s is seat b known.named.behaviours place (new_state_within s i b state known.named.behaviours place named) free few fits) in
      leads made.text (situation_of _ made.list) ((made.counts, refl), inr (seat, refl, made.repair)))))))))
  step_by (Ok (jump service state)) =
      needs reply.ErrorName refl (by_place (map seat_name s.parts.seats) service) (λ (k, at).
      needs reply.ErrorName refl (by_place (seat_names (names_in s.parts) k).states state) (λ (b, named).
      needs reply.ErrorBusy refl (by_idle s.phase) (λ idle. leads (reply_text reply.Jumped) (record s { here = record s.here { bs = slice_set s.here.bs k b } }) ((refl, refl), refl))))
  step_by (Ok (jump_env env)) =
      needs reply.ErrorName refl (by_place s.parts.environment.states env) (λ (e, named).
      needs reply.ErrorBusy refl (by_idle s.phase) (λ idle. leads (reply_text reply.Jumped) (record s { here = record s.here { e = e } }) ((refl, refl), refl)))
  step_by (Ok report) = leads (report_text s.parts s.here) s (reports s is)
  step_by (Ok explain) =
      elim great [
        | inl great ↦ leads (reply_text reply.ErrorRelated) s (inl (great, (refl, refl)), (inl great, refl))
        | inr lost ↦ leads (explain_text (present_system s) (names_in s.parts) s.list s.here) s (explains s s is lost refl)
      ]
  step_by (Ok quit) = leads (reply_text reply.Bye) s ((refl, refl), refl)

-- the line has an answer, which leads to a well-formed situation
pub record CanGo (s : Situation) (line : List ℕ) : Type 0 where
  pub text : List ℕ
  pub new : Situation
  pub step : Step s line text new
  pub known : IsKnownSituation new

-- every line has an answer
pub step_there : (s : Situation) (line : List ℕ) → IsKnownSituation s → CanGo s line
unfolding Step
step_there s line known =
    let first = step_by s known (shape_of line) in
    record { text = first.text; new = first.new; step = first.holds; known = steps_known s first.new line first.text known first.holds }
