-- The situation in the fields of a session, and the results of calls on its parts.
use Rattle.roman_session.proofs.Common.{◌≤◌, Vec, Global, vec_capacity, ◌≡◌, ℕ, ◌<◌, Bool, List, [], Option, Some, IfSome, IsTrue, map, length, slice_get, slice_set, slice_index, sym, ap, ◌∙◌, subst, arith, ◌↔◌, slice_index_or, MAX_SERVICES, number, sizes_of, pair_at, has, Sys, Pair, IsPair, HasBits, get_or_from_slice_get, slice_get-map, length-map, get_or-set_same, both_ways, is_ready, outcomes, IsIn, is_related, offers, Great, related_great, great_related, offer_is, there_is, not_empty_in, ne_not_empty, by_test, outcome_seat, states_set, states_below, AreBelow-index, moved, NamedBeh, NamedSys, Seat, seat_name, states_long, Situation, present_system, IsPhase, IsSituation, IsOpen, service_at, situation_in, IsSession, Phase, Idle, Offered, Delegated, Inside, option_map, get_or, slice_get-get_or, beh_states, states_of_behaviour}
use Rattle.roman_model.specs.System.{Seat as Seat'}
use Rattle.roman_joint.specs.NamedSys as joint

-- the situation in the fields is well formed
pub situation_known : (a : Inside) (s : Situation) → IsSession a → situation_in a ≡ s → IsSituation s
situation_known a s ok view = subst IsSituation view ok.known

-- the fields at another pair or in another phase
abbrev pub fields_at : Inside → ℕ → ℕ → Vec ℕ Global → ℕ → Phase → ℕ → Inside
fields_at a t e states n phase mask = record { relation = a.relation; target = t; env = e; states = states; number = n; phase = phase; mask = mask }

-- the fields at another pair or in another phase hold a session
pub session_at : (a : Inside) (t e : ℕ) (states : Vec ℕ Global) (n : ℕ) (phase : Phase) (mask : ℕ) → IsSession a → MAX_SERVICES ≤ vec_capacity states →
    let s = situation_in (fields_at a t e states n phase mask) in
    IsPair (present_system s) s.here → n ≡ number (sizes_of (present_system s)) s.here → IsPhase s phase →
    ((action : ℕ) → phase ≡ Offered action → HasBits mask (has (offers (present_system s) s.here action))) → IsSession (fields_at a t e states n phase mask)
session_at a t e states n phase mask ok room pair counted opens offered = record {
  relation = ok.relation;
  known = record { parts = ok.known.parts; here = pair; list = ok.known.list; phase = opens };
  few = ok.few;
  room = room;
  numbered = counted;
  offered = offered;
}

-- the situation has the parts of the joint
pub parts_shown : (a : Inside) (s : Situation) → situation_in a ≡ s → a.relation.joint ≡ s.parts
parts_shown a s view = ap (λ (s : Situation). s.parts) view

-- each service has its state
pub state_there : (a : Inside) (s : Situation) (k : ℕ) → IsSession a → situation_in a ≡ s → k < length s.parts.seats → k < length a.states.items
state_there a s k ok view l =
    let t = situation_in a in
    let long = states_long (present_system t) t.here ok.known.here in
    omega (arith, l, long, length-map t.parts.seats (joint.seat_of t.parts.catalogue), ap (λ (s : Situation). length s.parts.seats) view)

-- a state to which a service moves is one of its behaviour's
pub moved_within : (s : Sys) (p : Pair) (t e k b : ℕ) → IsPair s p → IsPair s (moved p t e k b) → k < length s.seats → b < slice_index (sizes_of s).seats k
moved_within s p t e k b is ok l =
    let bs = slice_set p.bs k b in
    let there : slice_index bs k ≡ b = get_or-set_same p.bs k b 0 (omega (arith, l, states_long s p is)) in
    subst (λ (n : ℕ). n < slice_index (sizes_of s).seats k) there
    (AreBelow-index (sizes_of s).seats bs k (states_below s.seats bs ok.bs) (omega (arith, l, length-map s.seats (λ (x : Seat'). x.beh.states))))

-- the image of the element at a place of a list
pub mapped_at : {X Y : Type 0} (f : X → Y) (xs : List X) (k : ℕ) (x : X) (d : Y) → slice_get xs k ≡ Some x → slice_index_or (map f xs) k d ≡ f x
mapped_at f xs k x d h = get_or_from_slice_get (map f xs) k (f x) d (slice_get-map f xs k ∙ ap (option_map f) h)

-- the names of the states of a behaviour of the catalogue
pub behaviour_states : (s : Situation) (behs : List NamedBeh) (i : ℕ) (beh : NamedBeh) → behs ≡ s.parts.catalogue → i < length behs → beh ≡ get_or behs i beh → beh.states ≡ states_of_behaviour s.parts.catalogue i
behaviour_states s behs i beh same l is =
    sym (mapped_at beh_states s.parts.catalogue i beh [] (subst (λ (behs : List NamedBeh). slice_get behs i ≡ Some beh) same (slice_get-get_or behs i beh l ∙ ap Some (sym is))))

-- an offered seat is the seat of a present service
pub offered_within : (s : Situation) (a k : ℕ) → IsSituation s → IsIn k (offers (present_system s) s.here a) → k < length s.parts.seats
offered_within s a k is i =
    let (allowed, l, some, all) = offer_is (present_system s) s.here a k is.parts.system is.here i in
    omega (arith, l, length-map s.parts.seats (joint.seat_of s.parts.catalogue))

-- a value at the number of the current pair is the value at the pair
pub at_here : {X : Type 0} (F : Sys → Pair → X) (s : Situation) (n : NamedSys) (p : ℕ) → n ≡ s.parts → pair_at (sizes_of (present_system s)) p ≡ s.here →
    F (joint.system_of n) (pair_at (sizes_of (joint.system_of n)) p) ≡ F (present_system s) s.here
at_here F s n p same at = ap (λ (n : NamedSys). F (joint.system_of n) (pair_at (sizes_of (joint.system_of n)) p)) same ∙ ap (F (present_system s)) at

-- a property at the number of the current pair is the property of the pair
holds_here : (P : Sys → Pair → Type 0) (s : Situation) (n : NamedSys) (p : ℕ) → n ≡ s.parts → pair_at (sizes_of (present_system s)) p ≡ s.here →
    P (joint.system_of n) (pair_at (sizes_of (joint.system_of n)) p) → P (present_system s) s.here
holds_here P s n p same at there = subst (P (present_system s)) at (subst (λ (n : NamedSys). P (joint.system_of n) (pair_at (sizes_of (joint.system_of n)) p)) same there)

-- a flag that is true exactly for a related current pair equals `is_related`
pub related_is : (s : Situation) (n : NamedSys) (p : ℕ) (r : Bool) → IsSituation s → n ≡ s.parts → pair_at (sizes_of (present_system s)) p ≡ s.here →
    IsTrue r ↔ Great (joint.system_of n) (pair_at (sizes_of (joint.system_of n)) p) → r ≡ is_related (present_system s) s.here
related_is s n p r is same at there =
    let great = holds_here (λ s p. IsTrue r ↔ Great s p) s n p same at there in
    let t = is_related (present_system s) s.here in
    by_test r (λ yes. yes ∙ sym (great_related (present_system s) s.here is.parts.system (great.0 yes)))
    (λ no. by_test t (λ yes. absurd (both_ways r no (great.1 (related_great (present_system s) s.here is.parts.system is.here yes)))) (λ other. no ∙ sym other))

-- a current pair that isn't related is outside the greatest relation
pub unrelated_there : (s : Situation) (n : NamedSys) (p : ℕ) → n ≡ s.parts → pair_at (sizes_of (present_system s)) p ≡ s.here → (Great (present_system s) s.here → ⊥) →
    Great (joint.system_of n) (pair_at (sizes_of (joint.system_of n)) p) → ⊥
unrelated_there s n p same at lost great = lost (holds_here Great s n p same at great)

-- a delegate is ready
pub delegate_ready : (s : Situation) (a k : ℕ) → IsSituation s → IsIn k (offers (present_system s) s.here a) → IsTrue (is_ready (slice_get (present_system s).seats k))
delegate_ready s a k is i =
    let (allowed, l, some, all) = offer_is (present_system s) s.here a k is.parts.system is.here i in
    let (q, j) = not_empty_in (outcomes (present_system s) s.here a k) (ne_not_empty (outcomes (present_system s) s.here a k) some) in
    (outcome_seat (present_system s) s.here a k q j).1

-- a phase that is possible at the current pair stays possible for any present phase
pub phase_kept : (s : Situation) (new phase : Phase) → IsPhase s phase → IsPhase (record s { phase = new }) phase
phase_kept s new Idle h = tt
phase_kept s new (Offered a) h = h
phase_kept s new (Delegated a k) h = h

-- the name of a present service is at its place
pub name_there : (n : NamedSys) (s : Situation) (k : ℕ) (seat : Seat) → n ≡ s.parts → slice_get n.seats k ≡ Some seat → slice_get (map seat_name s.parts.seats) k ≡ Some seat.name
name_there n s k seat same h = slice_get-map seat_name s.parts.seats k ∙ ap (option_map seat_name) (subst (λ (n : NamedSys). slice_get n.seats k ≡ Some seat) same h)

-- the name of a present service
pub service_named_at : (n : NamedSys) (s : Situation) (k : ℕ) (seat : Seat) → n ≡ s.parts → slice_get n.seats k ≡ Some seat → seat.name ≡ service_at s k
service_named_at n s k seat same h = sym (mapped_at seat_name s.parts.seats k seat [] (subst (λ (n : NamedSys). slice_get n.seats k ≡ Some seat) same h))

-- a request for which services were offered is open
pub offered_open : (s : Situation) (a : ℕ) → IsSituation s → s.phase ≡ Offered a → IsOpen s a
offered_open s a is phase = subst (IsPhase s) phase is.phase

-- the pair with a service in another of its states is a pair of the system
pub jumped_pair : (s : Situation) (k b : ℕ) → IsSituation s → k < length s.parts.seats → IfSome (slice_get (present_system s).seats k) (λ seat. b < seat.beh.states) →
    IsPair (present_system s) (record { t = s.here.t; e = s.here.e; bs = slice_set s.here.bs k b })
jumped_pair s k b is l within =
    let seats = (present_system s).seats in
    let (x, seated) = there_is seats k (omega (arith, l, length-map s.parts.seats (joint.seat_of s.parts.catalogue))) in
    let less : b < x.beh.states = subst (λ (o : Option Seat'). IfSome o (λ seat. b < seat.beh.states)) seated within in
    record { t = is.here.t; e = is.here.e; bs = states_set seats s.here.bs k b x is.here.bs seated less }
