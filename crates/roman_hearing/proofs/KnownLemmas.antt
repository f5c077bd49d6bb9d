-- Steps lead from well-formed situations to well-formed ones.
use Rattle.roman_hearing.proofs.Common.{Change, Entry, Err, Idle, IsAt, IsComplete, IsKnownSituation, IsNamedSys, IsPair, IsPhase, IsRepair, IsSituation, LineError, LineShape, List, Ok, Pair, Result, ServiceChange, Situation, State, Step, StepBy, StepsStayKnown, abort, allowed_in, arith, delegate, delegate_opens, die, explain, freeze, great_related, inl, inr, join, jump, jump_env, jumped_pair, nothing, observe, outcome_in, outcome_pair, present_system, quit, refl, report, request, services_after, shape_of, shown, slice_get_within, states_after, subst, sym, system_of, thaw, with_services, ℕ, ◌<◌, ◌≡◌}
use Rattle.roman_session.specs.declared.events.ServiceChange.TheVariants as kind
use Rattle.roman_hearing.proofs.KeepLemmas.{line_keeps, named_stay, needs_elim, unless_elim}
use Rattle.roman_hearing.proofs.ChangeLemmas.{CanMake, changes_can, joins_can, seat_there}
use Rattle.roman_hearing.proofs.WithinLemmas.{behaviour_within, new_state_within, seat_within, state_within}

-- the situation with this state and this list
abbrev pub situation_of : State → List (Entry Pair) → Situation
situation_of s list = record { parts = s.parts; here = s.here; phase = s.phase; list = list }

module _ (old new : Situation) (text : List ℕ) (known : IsKnownSituation old) where
  abbrev is : IsSituation old
  is = known.situation

  -- the new situation is well formed if its state and its list are
  goes : (next : State) → shown new ≡ next → IsComplete (system_of next.parts) new.list → IsNamedSys next.parts → IsPair (system_of next.parts) next.here → IsPhase (situation_of next new.list) next.phase → IsSituation new
  goes next same list parts pair phase =
      let well : IsSituation (situation_of next new.list) = record { parts = parts; here = pair; list = list; phase = phase } in
      subst (λ (t : State). IsSituation (situation_of t new.list)) (sym same) well

  goes_idle : (next : State) → shown new ≡ next → IsComplete (system_of next.parts) new.list → IsNamedSys next.parts → IsPair (system_of next.parts) next.here → next.phase ≡ Idle → IsSituation new
  goes_idle next same list parts pair idle = goes next same list parts pair (subst (IsPhase (situation_of next new.list)) (sym idle) tt)

  -- events that leave the list unchanged

  left : new.list ≡ old.list → IsComplete (present_system old) new.list
  left list = subst (IsComplete (present_system old)) (sym list) is.list

  same_state : new.list ≡ old.list → shown new ≡ shown old → IsSituation new
  same_state list same = goes (shown old) same (left list) is.parts is.here is.phase

  stays : {Said : Type 0} → new.list ≡ old.list → Said × (shown new ≡ shown old) → IsSituation new
  stays list (says, same) = same_state list same

  -- changes of the services

  repaired : {change : Change} (next : State) → IsRepair old change text new → shown new ≡ next → IsComplete (system_of next.parts) new.list
  repaired next repair same =
      subst (λ (t : State). IsComplete (system_of t.parts) new.list) same (subst (IsComplete (present_system new)) (sym repair.list) repair.complete)

  stops : {change : Change} {Said : Type 0} → IsRepair old change text new → Said × (shown new ≡ shown old) → IsSituation new
  stops repair (says, same) = goes (shown old) same (repaired (shown old) repair same) is.parts is.here is.phase

  makes : {change made : Change} (next : State) → IsRepair old change text new → CanMake old made next → next.phase ≡ Idle → shown new ≡ next → IsSituation new
  makes next repair can idle same = goes_idle next same (repaired next repair same) can.known can.pair idle

  changes : {made : Change} (change : ServiceChange) (service : List ℕ) (k : ℕ) → IsRepair old made text new → IsAt old service k → old.phase ≡ Idle →
      shown new ≡ with_services (shown old) (services_after change old.parts.seats k) (states_after change old.here.bs k) → IsSituation new
  changes change service k repair at idle same =
      let l = seat_within old service k at in
      let (seat, seated) = seat_there old is k l in
      makes _ repair (changes_can old is change k seat l seated) idle same

  -- any event

  event_known : (event : Result LineShape LineError) → StepBy old event text new → IsSituation new
  event_known (Err why) (turn, list) = stays list turn
  event_known (Ok nothing) ((says, same), list) = same_state list same
  event_known (Ok (request action)) (turn, list) =
      needs_elim (stays list) (λ (a, at). needs_elim (stays list) (λ idle. needs_elim (stays list) (λ great. needs_elim (stays list) (λ may (says, same).
      goes _ same (left list) is.parts is.here (great_related (present_system old) old.here is.parts.system great, allowed_in (present_system old) old.here a is.parts.system may))))) turn
  event_known (Ok (delegate service)) (turn, list) =
      needs_elim (stays list) (λ (k, at). needs_elim (stays list) (λ (a, requested). needs_elim (stays list) (λ serves (says, same).
      goes _ same (left list) is.parts is.here (delegate_opens old a k is requested serves (seat_within old service k at))))) turn
  event_known (Ok (observe state env)) (turn, list) =
      needs_elim (stays list) (λ (a, k, delegated). needs_elim (stays list) (λ (b, at). needs_elim (stays list) (λ (e, named). needs_elim (stays list) (λ possible (t, target, (says, same)).
      goes_idle _ same (left list) is.parts (outcome_pair _ _ _ _ _ is.parts.system is.here (outcome_in _ _ _ _ _ _ _ is.parts.system target possible)) refl)))) turn
  event_known (Ok abort) (turn, list) = unless_elim (stays list) (λ busy (says, same). goes_idle _ same (left list) is.parts is.here refl) turn
  event_known (Ok (freeze service)) (turn, inl same) = subst IsSituation (sym same) is
  event_known (Ok (freeze service)) (turn, inr (j, there, (seat, seated, repair))) =
      needs_elim (stops repair) (λ (k, at). needs_elim (stops repair) (λ idle. needs_elim (stops repair) (λ ready (says, same). changes kind.Freeze service k repair at idle same))) turn
  event_known (Ok (thaw service)) (turn, inl same) = subst IsSituation (sym same) is
  event_known (Ok (thaw service)) (turn, inr (j, there, (seat, seated, repair))) =
      needs_elim (stops repair) (λ (k, at). needs_elim (stops repair) (λ idle. unless_elim (stops repair) (λ frozen (says, same). changes kind.Thaw service k repair at idle same))) turn
  event_known (Ok (die service)) (turn, inl same) = subst IsSituation (sym same) is
  event_known (Ok (die service)) (turn, inr (j, there, (seat, seated, repair))) =
      needs_elim (stops repair) (λ (k, at). needs_elim (stops repair) (λ idle (says, same). changes kind.Die service k repair at idle same)) turn
  event_known (Ok (join service behaviour state loose)) (turn, inl same) = subst IsSituation (sym same) is
  event_known (Ok (join service behaviour state loose)) (turn, inr (joined, seats, repair)) =
      needs_elim (stops repair) (λ good. needs_elim (stops repair) (λ (i, at). needs_elim (stops repair) (λ (b, named). needs_elim (stops repair) (λ idle.
      unless_elim (stops repair) (λ free. needs_elim (stops repair) (λ few. needs_elim (stops repair) (λ fits (says, same).
      let place = behaviour_within old i behaviour at in
      makes _ repair (joins_can old is _ b known.named.behaviours place (new_state_within old i b state known.named.behaviours place named) free few fits) idle same))))))) turn
  event_known (Ok (jump service state)) (turn, list) =
      needs_elim (stays list) (λ (k, at). needs_elim (stays list) (λ (b, named). needs_elim (stays list) (λ idle (says, same).
      let l = seat_within old service k at in
      goes_idle _ same (left list) is.parts (jumped_pair old k b is l (state_within old k b state is known.named.behaviours l named)) idle))) turn
  event_known (Ok (jump_env env)) (turn, list) =
      needs_elim (stays list) (λ (e, named). needs_elim (stays list) (λ idle (says, same).
      let less : e < (present_system old).env.states = omega (arith, slice_get_within old.parts.environment.states e env named, known.named.environment) in
      goes_idle _ same (left list) is.parts (record { t = is.here.t; e = less; bs = is.here.bs }) idle)) turn
  event_known (Ok report) ((says, same), list) = same_state list same
  event_known (Ok explain) (turn, (told, list)) = unless_elim (stays list) (λ lost (says, same). same_state list same) turn
  event_known (Ok quit) ((says, same), list) = same_state list same

-- Steps lead from well-formed situations to well-formed ones.
pub steps_known : StepsStayKnown
unfolding Step
steps_known old new line text known step = record {
  situation = event_known old new text known (shape_of line) step;
  named = named_stay old new (line_keeps old new line text step) known.named;
}
