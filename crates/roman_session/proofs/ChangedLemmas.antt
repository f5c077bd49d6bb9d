-- A session after a change of its services.
use Rattle.roman_session.proofs.Common.{◌≡◌, ℕ, ◌<◌, ◌≤◌, ◌+◌, List, [], ◌∷◌, ◌++◌, true, false, Some, IsFalse, not, map, length, drop, slice_get, slice_index_or, vec_capacity, refl, sym, ap, ap₂, ◌∙◌, subst, arith, length-map, get_or_from_slice_get, Sys, Pair, IsPair, is_ready, arena, Join, sizes_of, number, still, MAX_BEHAVIOURS, MAX_SERVICES, there_is, NamedSys, IsNamedSys, IsRelation, joined_system, cells, Relation, Counts, Great, reply_text, Reply, Situation, State, shown, with_services, present_system, IsPhase, IsReady, IsNewcomer, IsRepair, CountsLost, Joins, Joining, states_long, cases_lt, situation_in, IsSession, Phase, Idle, Offered, Inside, take, Vec, Global, vec_len, inl, inr, take-append-drop, length-drop, length-take, Entry, replay, IsComplete, Change, after, rename, entry_at, IsPair-turned, IsPair-grown, IsPair-without, IsRepaired, ServiceChange, Suits, SuitsSeat, StepOn, CanChangeService, event_of, change_at, services_after, states_after, Tally, by_test}
use Rattle.roman_model.specs.System.{Seat}
use Rattle.roman_joint.specs.declared.seat.Seat.{Seat as Service}
use Rattle.roman_joint.specs.NamedSys as joint
use Rattle.roman_text.specs.declared.replies.Reply.TheVariants as reply
use Rattle.roman_session.specs.declared.events.ServiceChange.TheVariants as kind
use Rattle.roman_session.proofs.WordLemmas.{lost_counted}

-- the seat at place k
abbrev pub seat_at : Situation → ℕ → Seat
seat_at s k = slice_index_or (present_system s).seats k (record { beh = still; frozen = true; rests = true })

-- the seat of a present service
pub seat_is : (s : Situation) (k : ℕ) → k < length s.parts.seats → slice_get (present_system s).seats k ≡ Some (seat_at s k)
seat_is s k l =
    let seats = (present_system s).seats in
    let (x, there) = there_is seats k (omega (arith, l, length-map s.parts.seats (joint.seat_of s.parts.catalogue))) in
    there ∙ ap Some (sym (get_or_from_slice_get seats k x _ there))

-- a seat that isn't ready is frozen
pub seat_unready : (s : Situation) (k : ℕ) → k < length s.parts.seats → (IsReady (shown s) k → ⊥) → IsFalse (is_ready (slice_get (present_system s).seats k))
seat_unready s k l unready =
    ap is_ready (seat_is s k l) ∙ by_test (seat_at s k).frozen (λ frozen. ap not frozen) (λ ready. absurd (unready (seat_at s k, seat_is s k l, ready)))

-- a change of the services, with the services and their states after the change
pub record Changing : Type 0 where
  pub change : Change
  pub seats : List Service
  pub states : List ℕ

-- the change of the service at place k, with this seat
abbrev pub changing : ServiceChange → ℕ → Seat → Situation → Changing
changing change k seat s = record { change = change_at change k seat; seats = services_after change s.parts.seats k; states = states_after change s.here.bs k }

-- the change that adds a service in the last place
abbrev pub growing : Joining → Situation → Changing
growing x s = record { change = Join (joint.seat_of s.parts.catalogue x.seat); seats = s.parts.seats ++ x.seat ∷ []; states = s.here.bs ++ x.state ∷ [] }

-- the library with the services after a change
abbrev pub parts_after : Situation → Changing → NamedSys
parts_after s x = record s.parts { seats = x.seats }

-- the list has k first entries, and n entries after them
pub record IsSplit (k n : ℕ) (L : List (Entry Pair)) : Type 0 where
  pub prefix : length (take k L) ≡ k
  pub rest : length (drop k L) ≡ n

split : (s : Sys) (list : List (Entry ℕ)) (k n : ℕ) → k + n ≡ length list → IsSplit k n (map (entry_at s) list)
split s list k n sum = grind (arith, length-map, length-take, length-drop)

-- the list after a repair, as pairs
abbrev pub list_of : Inside → List (Entry Pair)
list_of b = map (entry_at (joint.system_of b.relation.joint)) b.relation.order.list

-- the list after a repair begins with the replay in the new system
begins_with : (a b : Inside) (x : Changing) (tally : Tally) → IsRepaired x.change a.relation.joint a.relation.order b.relation.joint b.relation.order tally →
    take tally.kept (list_of b) ≡ replay (arena (joint.system_of b.relation.joint)) (rename x.change (list_of a))
begins_with a b x tally repaired =
    subst (λ (s : Sys). take tally.kept (map (entry_at s) b.relation.order.list) ≡ replay (arena s) (rename x.change (list_of a))) (sym repaired.system) repaired.list.begins

-- no service is offered when no request is open
none_offered : {X : Type 0} (phase : Phase) (action : ℕ) → phase ≡ Idle → phase ≡ Offered action → X
none_offered phase action idle offered = absurd (let h : ⊥ = cc in h)

-- a change of the services leads to the state with those services, its reply counts the pairs that aren't related, and it repairs the list
pub record HasMade (old : Situation) (x : Changing) (text : List ℕ) (new : Situation) : Type 0 where
  pub counts : CountsLost (with_services (shown old) x.seats x.states) text
  pub becomes : shown new ≡ with_services (shown old) x.seats x.states
  pub repair : IsRepair old x.change text new

-- the fields with another relation, with the same services
abbrev pub turned_fields : Inside → Relation → Inside
turned_fields a relation = record { relation = relation; target = a.target; env = a.env; states = a.states; number = a.number; phase = a.phase; mask = a.mask }

-- the fields with another relation and other states, after a service joined or died
abbrev pub moved_fields : Inside → Relation → Vec ℕ Global → ℕ → Inside
moved_fields a relation states n = record { relation = relation; target = a.target; env = a.env; states = states; number = n; phase = a.phase; mask = a.mask }

-- the pair with these states of the services
abbrev pub with_states : Inside → List ℕ → Pair
with_states a bs = record { t = a.target; e = a.env; bs = bs }

-- the fields hold a session after the change of a situation, and the reply counts the entries of its list
pub record HasChanged (b : Inside) (s : Situation) (x : Situation → Changing) (said : Reply) : Type 0 where
  pub session : IsSession b
  pub made : HasMade s (x s) (reply_text said) (situation_in b)

-- a state from its parts
state_of : NamedSys → Pair → Phase → State
state_of parts here phase = record { parts = parts; here = here; phase = phase }

-- a repaired relation, with the states of its services and the number of the pair
pub changed : (a : Inside) (s : Situation) (x : Situation → Changing) (relation : Relation) (states : Vec ℕ Global) (bs : List ℕ) (n : ℕ) (tally : Tally) (said : Reply) → IsSession a → situation_in a ≡ s → s.phase ≡ Idle →
    relation.joint ≡ parts_after (situation_in a) (x (situation_in a)) → IsRepaired (x (situation_in a)).change a.relation.joint a.relation.order relation.joint relation.order tally → IsNamedSys relation.joint →
    IsPair (joint.system_of relation.joint) (with_states a states.items) → states.items ≡ (x (situation_in a)).states → bs ≡ states.items → n ≡ number (sizes_of (joint.system_of relation.joint)) (with_states a bs) →
    vec_capacity a.states ≤ vec_capacity states → said ≡ reply.Kept tally.kept tally.added → HasChanged (moved_fields a relation states n) s x said
unfolding state_of
changed a s x relation states bs n tally said ok view idle parts repaired known pair items same counted room says =
    let b = moved_fields a relation states n in
    let t = situation_in a in
    let new = joint.system_of relation.joint in
    let L = list_of b in
    let kept = take tally.kept L in
    let added = drop tally.kept L in
    let whole : kept ++ added ≡ L = take-append-drop tally.kept L in
    let counts = split new relation.order.list tally.kept tally.added repaired.list.added in
    let complete = subst (IsComplete new) (sym whole) repaired.relation.complete.list in
    let text = ap₂ (λ (kept added : ℕ). reply_text (reply.Kept kept added)) (sym counts.prefix) (sym counts.rest) in
    let becomes : shown (situation_in b) ≡ state_of (parts_after t (x t)) (record t.here { bs = (x t).states }) a.phase = ap₂ (λ (parts : NamedSys) (here : Pair). state_of parts here a.phase) parts (ap (with_states a) items) in
    let still_idle : a.phase ≡ Idle = ap (λ (s : Situation). s.phase) view ∙ idle in
    let made : HasMade t (x t) (reply_text (reply.Kept tally.kept tally.added)) (situation_in b) = record {
      counts = record {
        kept = length kept;
        added = length added;
        lost = subst (λ (n : NamedSys). Counts (joint.system_of n) (λ p. Great (joint.system_of n) p → ⊥) (length kept + length added)) parts (lost_counted new kept added complete);
        says = text;
      };
      becomes = becomes;
      repair = record { kept = kept; added = added; list = sym whole; replays = begins_with a b (x t) tally repaired; complete = complete; says = text };
    } in
    record {
      session = record {
        relation = repaired.relation;
        known = record { parts = known; here = pair; list = repaired.relation.complete.list; phase = subst (IsPhase (situation_in b)) (sym still_idle) tt };
        few = subst (λ (n : NamedSys). length n.catalogue ≤ MAX_BEHAVIOURS) (sym parts) ok.few;
        room = omega (arith, ok.room, room);
        numbered = subst (λ (bs : List ℕ). n ≡ number (sizes_of (joint.system_of relation.joint)) (with_states a bs)) same counted;
        offered = λ action. none_offered a.phase action still_idle;
      };
      made = subst (λ (r : Reply). HasMade s (x s) (reply_text r) (situation_in b)) (sym says) (subst (λ (s : Situation). HasMade s (x s) (reply_text (reply.Kept tally.kept tally.added)) (situation_in b)) view made);
    }

-- the pair of the changed system
pair_changed : (change : ServiceChange) (s : Sys) (k : ℕ) (seat : Seat) (p : Pair) → IsPair s p → IsPair (after (change_at change k seat) s) (record p { bs = states_after change p.bs k })
pair_changed kind.Freeze s k seat p pair = IsPair-turned s k true p pair
pair_changed kind.Thaw s k seat p pair = IsPair-turned s k false p pair
pair_changed kind.Die s k seat p pair = IsPair-without s k p pair

-- a pair of the changed system is a pair of the system in the joint after the repair
pair_there : (a : Inside) (relation : Relation) (change : Change) (tally : Tally) (p q : List ℕ) → IsRepaired change a.relation.joint a.relation.order relation.joint relation.order tally →
    IsPair (after change (joint.system_of a.relation.joint)) (with_states a p) → q ≡ p → IsPair (joint.system_of relation.joint) (with_states a q)
pair_there a relation change tally p q repaired pair same = grind arith

pub joined_pair : (a : Inside) (relation : Relation) (states : List ℕ) (x : Joining) (tally : Tally) → IsSession a → IsNewcomer a.relation.joint x →
    IsRepaired (Join (joint.seat_of a.relation.joint.catalogue x.seat)) a.relation.joint a.relation.order relation.joint relation.order tally →
    states ≡ a.states.items ++ x.state ∷ [] → IsPair (joint.system_of relation.joint) (with_states a states)
joined_pair a relation states x tally ok can repaired items = pair_there a relation _ tally _ states repaired (IsPair-grown _ _ _ _ ok.known.here can.state) items

-- the seat of a present service, in terms of the fields
module _ (a : Inside) (s : Situation) (k : ℕ) (view : situation_in a ≡ s) (l : k < length s.parts.seats) where
  pub seat_inside : slice_get (joint.system_of a.relation.joint).seats k ≡ Some (seat_at s k)
  seat_inside = subst (λ (t : Situation). slice_get (present_system t).seats k ≡ Some (seat_at s k)) (sym view) (seat_is s k l)

  -- a change that suits the service passes the relation's test
  pub suits_inside : (change : ServiceChange) → Suits change (shown s) k → SuitsSeat change (slice_get (joint.system_of a.relation.joint).seats k)
  suits_inside change suits = grind (arith, seat_unready)

  module _ (change : ServiceChange) (relation : Relation) (states : List ℕ) (tally : Tally) (ok : IsSession a)
      (repaired : (seat : Seat) → slice_get (joint.system_of a.relation.joint).seats k ≡ Some seat → IsRepaired (change_at change k seat) a.relation.joint a.relation.order relation.joint relation.order tally)
      (items : states ≡ states_after change a.states.items k) where
    pub service_pair : IsPair (joint.system_of relation.joint) (with_states a states)
    service_pair = pair_there a relation _ tally _ states (repaired (seat_at s k) seat_inside) (pair_changed change (joint.system_of a.relation.joint) k (seat_at s k) (situation_in a).here ok.known.here) items

  pub service_changed : (change : ServiceChange) (relation : Relation) (states : Vec ℕ Global) (bs : List ℕ) (n : ℕ) (tally : Tally) (said : Reply) → IsSession a → s.phase ≡ Idle →
      relation.joint ≡ parts_after (situation_in a) (changing change k (seat_at s k) (situation_in a)) →
      ((seat : Seat) → slice_get (joint.system_of a.relation.joint).seats k ≡ Some seat → IsRepaired (change_at change k seat) a.relation.joint a.relation.order relation.joint relation.order tally) →
      IsNamedSys relation.joint → states.items ≡ states_after change a.states.items k → bs ≡ states.items → n ≡ number (sizes_of (joint.system_of relation.joint)) (with_states a bs) → vec_capacity states ≡ vec_capacity a.states →
      said ≡ reply.Kept tally.kept tally.added → HasChanged (moved_fields a relation states n) s (changing change k (seat_at s k)) said
  service_changed change relation states bs n tally said ok idle parts repaired known items same counted room says =
      changed a s (changing change k (seat_at s k)) relation states bs n tally said ok view idle parts (repaired (seat_at s k) seat_inside) known
      (service_pair change relation states.items tally ok repaired items) items same counted (omega (arith, room)) says

-- the step of a change that isn't refused
pub changes : (change : ServiceChange) (old new : Situation) (service : List ℕ) (k : ℕ) (text : List ℕ) → k < length old.parts.seats → CanChangeService change old service k →
    HasMade old (changing change k (seat_at old k) old) text new → StepOn old (event_of change service) text new
changes kind.Freeze old new service k text l can made =
    (inl ((k, can.at), inl (can.idle, inl (can.suits, (made.counts, made.becomes)))), inr (k, can.at, (seat_at old k, seat_is old k l, made.repair)))
changes kind.Thaw old new service k text l can made =
    (inl ((k, can.at), inl (can.idle, inr (can.suits, (made.counts, made.becomes)))), inr (k, can.at, (seat_at old k, seat_is old k l, made.repair)))
changes kind.Die old new service k text l can made = (inl ((k, can.at), inl (can.idle, (made.counts, made.becomes))), inr (k, can.at, (seat_at old k, seat_is old k l, made.repair)))

-- there is a place for a service if the number of services isn't the greatest number
pub has_place : (a : Inside) → IsSession a → (length a.relation.joint.seats ≡ MAX_SERVICES → ⊥) → length a.relation.joint.seats < MAX_SERVICES
has_place a ok not_full = omega (arith, not_full, ok.known.parts.system.few, length-map a.relation.joint.seats (joint.seat_of a.relation.joint.catalogue))

-- there is room for the state of a service that joins
pub has_room : (a : Inside) → IsSession a → length a.relation.joint.seats < MAX_SERVICES → vec_len a.states < vec_capacity a.states
has_room a ok few =
    let s = situation_in a in
    omega (arith, few, ok.room, a.states.ok.0, states_long (present_system s) s.here ok.known.here, length-map a.relation.joint.seats (joint.seat_of a.relation.joint.catalogue))

-- cells that don't exceed the limit are within it
pub is_within : (cells limit : ℕ) → (limit < cells → ⊥) → cells ≤ limit
is_within cells limit not_past = elim (cases_lt limit cells) [ inl past ↦ absurd (not_past past) | inr within ↦ within ]

-- the step of a service that joins
pub joins_by : (a b : Inside) (s : Situation) (x : Joining) (said : Reply) → situation_in a ≡ s → length a.relation.joint.seats < MAX_SERVICES →
    cells (after (Join (joint.seat_of a.relation.joint.catalogue x.seat)) (joint.system_of a.relation.joint)) ≤ a.relation.joint.limit → HasChanged b s (growing x) said → Joins s x (reply_text said) (situation_in b)
joins_by a b s x said view few fits done =
    let made = done.made in
    let parts = ap (λ (s : Situation). s.parts) view in
    let fits_too = subst (λ (s : Sys). cells s ≤ a.relation.joint.limit) (sym (joined_system a.relation.joint x.seat)) fits in
    let few_here = subst (λ (n : NamedSys). length n.seats < MAX_SERVICES) parts few in
    let fits_here = subst (λ (n : NamedSys). cells (joint.system_of (record n { seats = n.seats ++ x.seat ∷ [] })) ≤ n.limit) parts fits_too in
    (inl (few_here, inl (fits_here, (made.counts, made.becomes))), inr (x.seat, ap (λ (s : State). s.parts.seats) made.becomes, made.repair))

-- a refused service leaves the fields unchanged
refused_by : (a : Inside) (relation : Relation) (s : Situation) (x : Joining) (text : List ℕ) → situation_in a ≡ s → relation ≡ a.relation → Joins (situation_in a) x text (situation_in a) → Joins s x text (situation_in (turned_fields a relation))
refused_by a relation s x text view same adds =
    subst (λ (s : Situation). Joins s x text (situation_in (turned_fields a relation))) view (subst (λ (r : Relation). Joins (situation_in a) x text (situation_in (turned_fields a r))) (sym same) adds)

-- a service is refused if there are too many services
pub full_by : (a : Inside) (relation : Relation) (s : Situation) (x : Joining) → situation_in a ≡ s → length a.relation.joint.seats ≡ MAX_SERVICES → relation ≡ a.relation →
    Joins s x (reply_text reply.ErrorFull) (situation_in (turned_fields a relation))
full_by a relation s x view full same = refused_by a relation s x (reply_text reply.ErrorFull) view same (inr (λ few. absurd (omega (arith, few, full)), (refl, refl)), inl refl)

-- a service is refused if there are too many cells
pub limit_by : (a : Inside) (relation : Relation) (s : Situation) (x : Joining) → situation_in a ≡ s → length a.relation.joint.seats < MAX_SERVICES →
    a.relation.joint.limit < cells (after (Join (joint.seat_of a.relation.joint.catalogue x.seat)) (joint.system_of a.relation.joint)) → relation ≡ a.relation →
    Joins s x (reply_text reply.ErrorLimit) (situation_in (turned_fields a relation))
limit_by a relation s x view few past same =
    let never = subst (λ (s : Sys). a.relation.joint.limit < cells s) (sym (joined_system a.relation.joint x.seat)) past in
    refused_by a relation s x (reply_text reply.ErrorLimit) view same (inl (few, inr (λ fits. absurd (omega (arith, fits, never)), (refl, refl))), inl refl)

-- an explanation changes only the marks of the relation's order
pub explained : (a : Inside) (relation : Relation) → IsSession a → relation ≡ record a.relation { order = record a.relation.order { marks = relation.order.marks } } → IsRelation relation.joint relation.order → IsSession (turned_fields a relation)
explained a relation ok same is =
    subst (λ (r : Relation). IsRelation r.joint r.order → IsSession (turned_fields a r)) (sym same)
    (λ is. record { relation = is; known = ok.known; few = ok.few; room = ok.room; numbered = ok.numbered; offered = ok.offered }) is
