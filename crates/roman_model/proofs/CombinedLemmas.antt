-- The combined target stands for several targets: its steps and final states are those of the members, and so are its ND-simulations.
use Rattle.roman_model.proofs.Common.{◌≡◌, ℕ, ◌<◌, ◌==◌, not, ◌&&◌, List, [], ◌∷◌, map, length, Option, Some, None, IsTrue, filter, slice_get, slice_index, slice_set, inl, inr, refl, sym, ap, ◌∙◌, subst, arith, ◌≤◌, Bool, nat_lt, list_any, false≢true, and_parts, and_from, eqb-true, eq-eqb, not_from_false, not-true, ltb-true, lt-ltb, length-map, same_Some, slice_get_within, get_or_from_slice_get, IsIn, below, is_empty, product_of, Env, Beh, Seat, has_triple, has_move, IsEnv, IsBeh, SStep, is_final, all_final, IsSys, Allows, IsDeterministic, beh_next, same_numbers, AreBelow, states_number, states_at, Request, Several, of_one, are_final, CoupleAll, ServesAll, MeetsAll, GreatAll, has_triple_on, has_move_on, targets_go, target_sizes, combined_start, combined_seat, all_requests, combined, IsSeveral, stands_in, uses, requests_of, member_goes, combined_beh, CombinedIsAll, MAX_SERVICES, Couple, couple, Serves, Meets, GreatCouple, get_or-set_same}
use Rattle.roman_model.proofs.Lists.{get_in, from_get_map, get_map, in_get, same_test, in_map, in_flat_map, in_filter, any_true, any_from, in_not_empty, not_empty_in, in_below, from_map, filter_in}
use Rattle.roman_model.proofs.SystemLemmas.{number_listed, move_in, same_numbers_is, same_numbers_itself, triple_in_range, move_in_range, in_beh_next, from_beh_next}
use Rattle.roman_model.proofs.NumberLemmas.{AreBelow-length, AreBelow-at, AreBelow-set, states_number_below, states_at-number, states_number-at}
use Rattle.roman_model.proofs.MadeLemmas.{move_passes, from_made_triple, made_triple, from_made_move, made_move, from_made_final, made_final, IsEnv-made, IsBeh-made}
use Rattle.roman_model.proofs.CompositionLemmas.{meets_more}

-- The combined actions.

-- an action that a step uses is one of the combined actions
pub in_requests : (env : Env) (targets : List Beh) (i : ℕ) (target : Beh) (b e a b' : ℕ) → slice_get targets i ≡ Some target → IsBeh env target →
    IsTrue (has_move target b e a b') → IsIn (record { target = i; action = a }) (requests_of env.actions targets)
in_requests env targets i target b e a b' at ok t = let (guard, j, k) = move_in target b e a b' t in
    let stands : IsTrue (stands_in (Some target) a) = grind (arith, and_from, any_from, eq-eqb, in_not_empty) in
    in_flat_map (λ i. map (λ a. record { target = i; action = a }) (filter (stands_in (slice_get targets i)) (below env.actions))) i (record { target = i; action = a })
    (below (length targets)) (in_below (length targets) i (slice_get_within targets i target at))
    (in_map (λ a. record { target = i; action = a }) a (filter (stands_in (slice_get targets i)) (below env.actions))
    (grind (arith, in_filter, (in_below env.actions a (move_in_range env target b e a b' ok t).2))))

-- the behaviour has a step on each action that occurs in its steps
pub stands_step : (beh : Beh) (a : ℕ) → IsTrue (stands_in (Some beh) a) → (b : ℕ) × (e : ℕ) × (b' : ℕ) × IsTrue (has_move beh b e a b')
stands_step beh a stands =
    let (m, i, passes) = any_true (λ m. m.action == a && not (is_empty m.guard)) beh.steps stands in
    let (action, some) = and_parts (m.action == a) (not (is_empty m.guard)) passes in
    let (e, j) = not_empty_in m.guard (not-true (is_empty m.guard) some) in
    (m.from, e, m.to, grind (arith, any_from, eqb-true, move_passes))

-- if the numbers are in range, an action occurs in a step exactly when the behaviour has a step on it
pub stands_uses : (env : Env) (beh : Beh) (a : ℕ) → IsBeh env beh → stands_in (Some beh) a ≡ uses env.states beh a
stands_uses env beh a ok = same_test (stands_in (Some beh) a) (uses env.states beh a)
    (λ t.
    let (b, e, b', goes) = stands_step beh a t in
    let (hb, he, ha, hb') = move_in_range env beh b e a b' ok goes in
    any_from (λ b. list_any (λ e. not (is_empty (beh_next beh b e a))) (below env.states)) b (below beh.states) (in_below beh.states b hb)
    (any_from (λ e. not (is_empty (beh_next beh b e a))) e (below env.states) (in_below env.states e he)
    (not_from_false (is_empty (beh_next beh b e a)) (in_not_empty b' (beh_next beh b e a) (in_beh_next env beh b e a b' ok goes)))))
    (λ t.
    let (b, i, u) = any_true (λ b. list_any (λ e. not (is_empty (beh_next beh b e a))) (below env.states)) (below beh.states) t in
    let (e, j, some) = any_true (λ e. not (is_empty (beh_next beh b e a))) (below env.states) u in
    let (b', k) = not_empty_in (beh_next beh b e a) (not-true (is_empty (beh_next beh b e a)) some) in
    let (guard, n, l) = move_in beh b e a b' (from_beh_next beh b e a b' k) in
    grind (arith, and_from, any_from, eq-eqb, in_not_empty))

-- The combined environment.

from_triple_on : (env : Env) (o : Option Request) (e e' : ℕ) → IsTrue (has_triple_on env o e e') → (r : Request) × (o ≡ Some r) × IsTrue (has_triple env e r.action e')
from_triple_on env None e e' t = absurd (false≢true t)
from_triple_on env (Some r) e e' t = (r, refl, t)

pub from_combined_triple : (w : Several) (e n e' : ℕ) → IsTrue (has_triple (combined w).env e n e') →
    (r : Request) × (slice_get (all_requests w) n ≡ Some r) × IsTrue (has_triple w.env e r.action e')
from_combined_triple w e n e' t =
    from_triple_on w.env (slice_get (all_requests w) n) e e'
    (from_made_triple w.env.states (length (all_requests w)) w.env.start (λ e n e'. has_triple_on w.env (slice_get (all_requests w) n) e e') e n e' t).3

pub combined_triple : (w : Several) (e n e' : ℕ) (r : Request) → IsEnv w.env → slice_get (all_requests w) n ≡ Some r → IsTrue (has_triple w.env e r.action e') →
    IsTrue (has_triple (combined w).env e n e')
combined_triple w e n e' r ok at t =
    let (l, m, k) = triple_in_range w.env e r.action e' ok t in
    made_triple w.env.states (length (all_requests w)) w.env.start (λ e n e'. has_triple_on w.env (slice_get (all_requests w) n) e e') e n e'
    l (slice_get_within (all_requests w) n r at) k (subst (λ o. IsTrue (has_triple_on w.env o e e')) (sym at) t)

-- The combined behaviours.

pub from_combined_move : (w : Several) (beh : Beh) (b e n b' : ℕ) (r : Request) → slice_get (all_requests w) n ≡ Some r →
    IsTrue (has_move (combined_beh w.env.states (all_requests w) beh) b e n b') → IsTrue (has_move beh b e r.action b')
from_combined_move w beh b e n b' r at t =
    subst (λ o. IsTrue (has_move_on beh o b e b')) at
    (from_made_move w.env.states (length (all_requests w)) beh.states beh.start (is_final beh) (λ b e n b'. has_move_on beh (slice_get (all_requests w) n) b e b') b e n b' t).4

pub combined_move : (w : Several) (beh : Beh) (b e n b' : ℕ) (r : Request) → IsBeh w.env beh → slice_get (all_requests w) n ≡ Some r →
    IsTrue (has_move beh b e r.action b') → IsTrue (has_move (combined_beh w.env.states (all_requests w) beh) b e n b')
combined_move w beh b e n b' r ok at t =
    let (hb, he, ha, hb') = move_in_range w.env beh b e r.action b' ok t in
    made_move w.env.states (length (all_requests w)) beh.states beh.start (is_final beh) (λ b e n b'. has_move_on beh (slice_get (all_requests w) n) b e b') b e n b'
    hb he (slice_get_within (all_requests w) n r at) hb' (subst (λ o. IsTrue (has_move_on beh o b e b')) (sym at) t)

pub from_combined_sstep : (w : Several) (target : Beh) (bs : List ℕ) (e n k : ℕ) (bs' : List ℕ) (e' : ℕ) (r : Request) → slice_get (all_requests w) n ≡ Some r →
    IsTrue (has_triple w.env e r.action e') → SStep (combined w) bs e n k bs' e' → SStep (of_one w target) bs e r.action k bs' e'
from_combined_sstep w target bs e n k bs' e' r at world step = grind (arith, from_combined_move, from_get_map)

pub combined_sstep : (w : Several) (target : Beh) (bs : List ℕ) (e n k : ℕ) (bs' : List ℕ) (e' : ℕ) (r : Request) → IsSeveral w → slice_get (all_requests w) n ≡ Some r →
    SStep (of_one w target) bs e r.action k bs' e' → SStep (combined w) bs e n k bs' e'
combined_sstep w target bs e n k bs' e' r ok at step = grind (arith, (combined_move w step.seat.beh (slice_index bs k) e n step.to r (ok.seats step.seat (get_in w.seats k step.seat step.seated))), (combined_triple w e n e' r ok.env), (get_map (combined_seat w.env.states (all_requests w)) w.seats k step.seat step.seated))

-- The combined target.

pub target_size_at : (targets : List Beh) (i : ℕ) (target : Beh) → slice_get targets i ≡ Some target → slice_index (target_sizes targets) i ≡ target.states
target_size_at targets i target e = grind (arith, get_or_from_slice_get, (get_map (λ (x : Beh). x.states) targets i target e))

-- a step of the combined target: one member makes a step, and the others stay
pub record IsMemberStep (w : Several) (n : ℕ) (ts : List ℕ) (e : ℕ) (ts' : List ℕ) (r : Request) (target : Beh) : Type 0 where
  pub request : slice_get (all_requests w) n ≡ Some r
  pub member : slice_get w.targets r.target ≡ Some target
  pub goes : IsTrue (has_move target (slice_index ts r.target) e r.action (slice_index ts' r.target))
  pub others : slice_set ts r.target (slice_index ts' r.target) ≡ ts'

from_member : (targets : List Beh) (o : Option Beh) (i a : ℕ) (ts : List ℕ) (e : ℕ) (ts' : List ℕ) → IsTrue (member_goes o i a ts e ts') →
    (target : Beh) × (o ≡ Some target) × IsTrue (has_move target (slice_index ts i) e a (slice_index ts' i)) × (slice_set ts i (slice_index ts' i) ≡ ts')
from_member targets None i a ts e ts' t = absurd (false≢true t)
from_member targets (Some target) i a ts e ts' t = grind (arith, and_parts, same_numbers_is)

from_targets_go : (w : Several) (n : ℕ) (ts : List ℕ) (e : ℕ) (ts' : List ℕ) (o : Option Request) → slice_get (all_requests w) n ≡ o →
    IsTrue (targets_go w.targets o ts e ts') → (r : Request) × (target : Beh) × IsMemberStep w n ts e ts' r target
from_targets_go w n ts e ts' None at t = absurd (false≢true t)
from_targets_go w n ts e ts' (Some r) at t = grind (arith, from_member)

-- the states of the targets in a combined state
abbrev pub states_of : Several → ℕ → List ℕ
states_of w t = states_at (target_sizes w.targets) t

-- the combined state for the states of the targets
abbrev pub number_of : Several → List ℕ → ℕ
number_of w ts = states_number (target_sizes w.targets) ts

-- the number of combined states
abbrev pub total : Several → ℕ
total w = product_of (target_sizes w.targets)

pub from_combined_target : (w : Several) (t e n t' : ℕ) → IsTrue (has_move (combined w).target t e n t') →
    (t < total w) × (t' < total w) × (r : Request) × (target : Beh) × IsMemberStep w n (states_of w t) e (states_of w t') r target
from_combined_target w t e n t' h = let (ht, he, hn, ht', goes) = from_made_move w.env.states (length (all_requests w)) (total w) (combined_start w.targets)
    (λ t. are_final w.targets (states_of w t)) (λ t e n t'. targets_go w.targets (slice_get (all_requests w) n) (states_of w t) e (states_of w t')) t e n t' h in
    grind (arith, from_targets_go)

-- the list of states after a member's step is in range again
pub member_below : (w : Several) (t : ℕ) (i : ℕ) (target : Beh) (t' : ℕ) → t < total w → slice_get w.targets i ≡ Some target → t' < target.states →
    AreBelow (target_sizes w.targets) (slice_set (states_of w t) i t')
member_below w t i target t' l at h = grind (arith, AreBelow-at, AreBelow-set, target_size_at)

pub combined_target_goes : (w : Several) (t e n t' : ℕ) (r : Request) (target : Beh) → IsSeveral w → t < total w → slice_get (all_requests w) n ≡ Some r →
    slice_get w.targets r.target ≡ Some target → IsTrue (has_move target (slice_index (states_of w t) r.target) e r.action t') →
    IsTrue (has_move (combined w).target t e n (number_of w (slice_set (states_of w t) r.target t')))
combined_target_goes w t e n t' r target ok l at member goes = let (hb, he, ha, hb') = move_in_range w.env target (slice_index (states_of w t) r.target) e r.action t' (ok.targets target (get_in w.targets r.target target member)).0 goes in
    let below : AreBelow (target_sizes w.targets) (slice_set (states_of w t) r.target t') = member_below w t r.target target t' l member hb' in
    let back : states_of w (number_of w (slice_set (states_of w t) r.target t')) ≡ slice_set (states_of w t) r.target t' = grind (arith, states_at-number) in
    let within : r.target < length (states_of w t) = grind (arith, AreBelow-length, AreBelow-at, length-map, slice_get_within) in
    let there : slice_index (slice_set (states_of w t) r.target t') r.target ≡ t' = get_or-set_same (states_of w t) r.target t' 0 within in
    let passes : IsTrue (member_goes (Some target) r.target r.action (states_of w t) e (slice_set (states_of w t) r.target t')) = grind (arith, same_numbers_itself) in
    made_move w.env.states (length (all_requests w)) (total w) (combined_start w.targets)
    (λ t. are_final w.targets (states_of w t)) (λ t e n t'. targets_go w.targets (slice_get (all_requests w) n) (states_of w t) e (states_of w t')) t e n
    (number_of w (slice_set (states_of w t) r.target t'))
    l he (slice_get_within (all_requests w) n r at) (states_number_below (target_sizes w.targets) (slice_set (states_of w t) r.target t') below)
    (grind arith)

-- Finality.

final_combined : (w : Several) (requests : List Request) (beh : Beh) (b : ℕ) → IsBeh w.env beh → is_final (combined_beh w.env.states requests beh) b ≡ is_final beh b
final_combined w requests beh b ok = same_test (is_final (combined_beh w.env.states requests beh) b) (is_final beh b)
    (from_made_final w.env.states (length requests) beh.states beh.start (is_final beh) (λ b e n b'. has_move_on beh (slice_get requests n) b e b') b)
    (λ t. made_final w.env.states (length requests) beh.states beh.start (is_final beh) (λ b e n b'. has_move_on beh (slice_get requests n) b e b') b (ok.finals b (number_listed beh.finals b t)) t)

pub all_final_combined : (w : Several) (requests : List Request) (seats : List Seat) (bs : List ℕ) → ((x : Seat) → IsIn x seats → IsBeh w.env x.beh) →
    all_final (map (combined_seat w.env.states requests) seats) bs ≡ all_final seats bs
all_final_combined w requests (seat ∷ seats) (b ∷ bs) ok = grind (arith, (final_combined w requests seat.beh b (ok seat (inl refl))), (all_final_combined w requests seats bs))
all_final_combined _ _ _ _ _ = refl

-- A combined action that is the request of a target.

-- the triples on a combined action are triples on its plain action
pub world_as : (w : Several) (e n e' : ℕ) (r : Request) → slice_get (all_requests w) n ≡ Some r → IsTrue (has_triple (combined w).env e n e') → IsTrue (has_triple w.env e r.action e')
world_as w e n e' r at t = grind (arith, (from_combined_triple w e n e' t))

-- the steps on a combined action are steps of its target
pub member_step : (w : Several) (t e n t' : ℕ) (r : Request) (target : Beh) → slice_get (all_requests w) n ≡ Some r → slice_get w.targets r.target ≡ Some target →
    IsTrue (has_move (combined w).target t e n t') → IsMemberStep w n (states_of w t) e (states_of w t') r target
member_step w t e n t' r target at member goes = grind (arith, same_Some, (from_combined_target w t e n t' goes))

-- a combined action is allowed only if its target allows it
pub from_combined_allows : (w : Several) (t e n : ℕ) → Allows (combined w) t e n →
    (r : Request) × (target : Beh) × (slice_get (all_requests w) n ≡ Some r) × (slice_get w.targets r.target ≡ Some target) × Allows (of_one w target) (slice_index (states_of w t) r.target) e r.action
from_combined_allows w t e n (t', e', joint) =
    let (ht, ht', r, target, step) = from_combined_target w t e n t' joint.1 in
    (r, target, step.request, step.member, (slice_index (states_of w t') r.target, e', (world_as w e n e' r step.request joint.0, step.goes)))

-- a combined action is allowed if its target allows it
pub combined_allows : (w : Several) (t e n : ℕ) (r : Request) (target : Beh) → IsSeveral w → t < total w → slice_get (all_requests w) n ≡ Some r → slice_get w.targets r.target ≡ Some target →
    Allows (of_one w target) (slice_index (states_of w t) r.target) e r.action → Allows (combined w) t e n
combined_allows w t e n r target ok l at member (t', e', step) =
    (number_of w (slice_set (states_of w t) r.target t'), e', (combined_triple w e n e' r ok.env at step.0, combined_target_goes w t e n t' r target ok l at member step.1))

-- each request that a target allows is a combined action
pub request_there : (w : Several) (t e i a : ℕ) (target : Beh) → IsSeveral w → slice_get w.targets i ≡ Some target → Allows (of_one w target) (slice_index (states_of w t) i) e a →
    (n : ℕ) × (slice_get (all_requests w) n ≡ Some (record { target = i; action = a }))
request_there w t e i a target ok member (t', e', step) =
    in_get (all_requests w) (record { target = i; action = a })
    (in_requests w.env w.targets i target (slice_index (states_of w t) i) e a t' member (ok.targets target (get_in w.targets i target member)).0 step.1)

-- The three clauses.

-- the couple of all targets that a combined couple stands for
abbrev pub decoded : Several → Couple → CoupleAll
decoded w c = record { ts = states_of w c.t; e = c.e; bs = c.bs; e2 = c.e2 }

abbrev pub encoded : Several → CoupleAll → Couple
encoded w d = record { t = number_of w d.ts; e = d.e; bs = d.bs; e2 = d.e2 }

-- a seat that serves a request for all targets serves the combined action
pub combined_served : (w : Several) (Related : CoupleAll → Type 0) (c : Couple) (n k : ℕ) (r : Request) (target : Beh) → IsSeveral w → slice_get (all_requests w) n ≡ Some r → slice_get w.targets r.target ≡ Some target →
    ServesAll w Related (decoded w c) r.target target r.action k → Serves (combined w) (λ d. (d.t < total w) × Related (decoded w d)) c n k
combined_served w Related c n k r target ok at member serves t' e' (world, goes) =
    let step : IsMemberStep w n (states_of w c.t) c.e (states_of w t') r target = member_step w c.t c.e n t' r target at member goes in
    let (ht, ht', r2, target2, step2) = from_combined_target w c.t c.e n t' goes in
    let (some, all) = serves (slice_index (states_of w t') r.target) e' (world_as w c.e n e' r at world, step.goes) in (
      (some.0, combined_sstep w target c.bs c.e2 n k some.0 e' r ok at some.1),
      λ bs' sstep. grind (arith, (from_combined_sstep w target c.bs c.e2 n k bs' e' r)),
    )

-- a seat that serves the combined action serves the request for all targets
pub member_served : (w : Several) (Related : Couple → Type 0) (More : CoupleAll → Type 0) (c : Couple) (n k : ℕ) (r : Request) (target : Beh) → IsSeveral w → c.t < total w →
    ((d : Couple) → d.t < total w → Related d → More (decoded w d)) → slice_get (all_requests w) n ≡ Some r → slice_get w.targets r.target ≡ Some target →
    Serves (combined w) Related c n k → ServesAll w More (decoded w c) r.target target r.action k
member_served w Related More c n k r target ok l more at member serves t' e' (world, goes) =
    let hb' : t' < target.states = (move_in_range w.env target (slice_index (states_of w c.t) r.target) c.e r.action t' (ok.targets target (get_in w.targets r.target target member)).0 goes).3 in
    let below : AreBelow (target_sizes w.targets) (slice_set (states_of w c.t) r.target t') = member_below w c.t r.target target t' l member hb' in
    let (some, all) = serves (number_of w (slice_set (states_of w c.t) r.target t')) e' (combined_triple w c.e n e' r ok.env at world, combined_target_goes w c.t c.e n t' r target ok l at member goes) in (
      (some.0, from_combined_sstep w target c.bs c.e2 n k some.0 e' r at (world_as w c.e2 n e' r at some.1.world) some.1),
      λ bs' sstep.
          subst (λ (ts : List ℕ). More (record { ts = ts; e = e'; bs = bs'; e2 = e' })) (states_at-number (target_sizes w.targets) (slice_set (states_of w c.t) r.target t') below)
          (more (record { t = number_of w (slice_set (states_of w c.t) r.target t'); e = e'; bs = bs'; e2 = e' }) (states_number_below (target_sizes w.targets) (slice_set (states_of w c.t) r.target t') below)
          (all bs' (combined_sstep w target c.bs c.e2 n k bs' e' r ok at sstep))),
    )

pub meets_combined : (w : Several) (Related : CoupleAll → Type 0) (c : Couple) → IsSeveral w → MeetsAll w Related (decoded w c) →
    Meets (combined w) (λ d. (d.t < total w) × Related (decoded w d)) c
meets_combined w Related c ok meets = record {
  shared = meets.shared;
  final = λ t. all_final_combined w (all_requests w) w.seats c.bs ok.seats ∙ (meets.final
      (from_made_final w.env.states (length (all_requests w)) (total w) (combined_start w.targets)
      (λ t. are_final w.targets (states_of w t)) (λ t e n t'. targets_go w.targets (slice_get (all_requests w) n) (states_of w t) e (states_of w t')) c.t t));
  served = λ n allows.
      let (r, target, at, member, allowed) = from_combined_allows w c.t c.e n allows in
      let (k, serves) = meets.served r.target target member r.action allowed in
      (k, combined_served w Related c n k r target ok at member serves);
}

pub meets_members : (w : Several) (Related : Couple → Type 0) (More : CoupleAll → Type 0) (c : Couple) → IsSeveral w → c.t < total w →
    ((d : Couple) → d.t < total w → Related d → More (decoded w d)) → Meets (combined w) Related c → MeetsAll w More (decoded w c)
meets_members w Related More c ok l more meets = record {
  shared = meets.shared;
  final = λ t. sym (all_final_combined w (all_requests w) w.seats c.bs ok.seats) ∙ (meets.final
      (made_final w.env.states (length (all_requests w)) (total w) (combined_start w.targets)
      (λ t. are_final w.targets (states_of w t)) (λ t e n t'. targets_go w.targets (slice_get (all_requests w) n) (states_of w t) e (states_of w t')) c.t l t));
  served = λ i target member a allows.
      let (n, at) = request_there w c.t c.e i a target ok member allows in
      let (k, serves) = meets.served n (combined_allows w c.t c.e n (record { target = i; action = a }) target ok l at member allows) in
      (k, member_served w Related More c n k (record { target = i; action = a }) target ok l more at member serves);
}

-- Related pairs.

-- the couple is the one that a combined couple stands for
abbrev is_encoded : Several → CoupleAll → Bool
is_encoded w d = nat_lt (number_of w d.ts) (total w) && same_numbers (states_of w (number_of w d.ts)) d.ts

encoded_back : (w : Several) (d : CoupleAll) → IsTrue (is_encoded w d) → (number_of w d.ts < total w) × (decoded w (encoded w d) ≡ d)
encoded_back w d t =
    let (small, same) = and_parts (nat_lt (number_of w d.ts) (total w)) (same_numbers (states_of w (number_of w d.ts)) d.ts) t in
    (ltb-true (number_of w d.ts) (total w) small, ap (λ ts. record { ts = ts; e = d.e; bs = d.bs; e2 = d.e2 }) (same_numbers_is (states_of w (number_of w d.ts)) d.ts same))

decoded_back : (w : Several) (c : Couple) → c.t < total w → encoded w (decoded w c) ≡ c
decoded_back w c l = ap (λ t. record { t = t; e = c.e; bs = c.bs; e2 = c.e2 }) (states_number-at (target_sizes w.targets) c.t l)

pub great_from_all : (w : Several) (c : Couple) → IsSeveral w → c.t < total w → GreatAll w (decoded w c) → GreatCouple (combined w) c
great_from_all w c ok l (R, sim, i) = (
  map (encoded w) (filter (is_encoded w) R),
  λ d j.
      let (m, k, same) = from_map (encoded w) d (filter (is_encoded w) R) j in
      let (h, valid) = filter_in (is_encoded w) m R k in
      let (small, back) = encoded_back w m valid in
      subst (Meets (combined w) (λ d. IsIn d (map (encoded w) (filter (is_encoded w) R)))) (sym same)
      (meets_more (combined w) (λ d. (d.t < total w) × IsIn (decoded w d) R) (λ d. IsIn d (map (encoded w) (filter (is_encoded w) R))) (encoded w m)
      (λ d r. kept d r.0 r.1)
      (meets_combined w (λ d. IsIn d R) (encoded w m) ok (subst (MeetsAll w (λ d. IsIn d R)) (sym back) (sim m h)))),
  kept c l i,
)
  where
    kept : (d : Couple) → d.t < total w → IsIn (decoded w d) R → IsIn d (map (encoded w) (filter (is_encoded w) R))
    kept d small j = grind (arith, decoded_back, in_filter, in_map, and_from, lt-ltb, same_numbers_itself, states_number-at, states_of, total)

pub all_from_great : (w : Several) (c : Couple) → IsSeveral w → c.t < total w → GreatCouple (combined w) c → GreatAll w (decoded w c)
all_from_great w c ok l (R, sim, i) = (
  map (decoded w) (filter (λ d. nat_lt d.t (total w)) R),
  λ d j.
      let (m, k, same) = from_map (decoded w) d (filter (λ d. nat_lt d.t (total w)) R) j in
      let (h, valid) = filter_in (λ d. nat_lt d.t (total w)) m R k in
      subst (MeetsAll w (λ d. IsIn d (map (decoded w) (filter (λ d. nat_lt d.t (total w)) R)))) (sym same)
      (meets_members w (λ d. IsIn d R) (λ d. IsIn d (map (decoded w) (filter (λ d. nat_lt d.t (total w)) R))) m ok (ltb-true m.t (total w) valid) kept (sim m h)),
  kept c l i,
)
  where
    kept : (d : Couple) → d.t < total w → IsIn d R → IsIn (decoded w d) (map (decoded w) (filter (λ d. nat_lt d.t (total w)) R))
    kept d small j = grind (arith, in_filter, in_map, total)

-- The combined system is well formed.

starts_below : (env : Env) (targets : List Beh) → ((target : Beh) → IsIn target targets → IsBeh env target × IsDeterministic target) →
    AreBelow (target_sizes targets) (map (λ target. target.start) targets)
starts_below env [] ok = tt
starts_below env (target ∷ targets) ok = ((ok target (inl refl)).0.start, starts_below env targets (λ x i. ok x (inr i)))

pub combined_single : (w : Several) → IsSeveral w → IsDeterministic (combined w).target
combined_single w ok b e n b1 b2 h1 h2 =
    let (l, l1, r1, target1, step1) = from_combined_target w b e n b1 h1 in
    let (m, l2, r2, target2, step2) = from_combined_target w b e n b2 h2 in
    let step : IsMemberStep w n (states_of w b) e (states_of w b2) r1 target1 = member_step w b e n b2 r1 target1 step1.request step1.member h2 in
    let one : slice_index (states_of w b1) r1.target ≡ slice_index (states_of w b2) r1.target =
    (ok.targets target1 (get_in w.targets r1.target target1 step1.member)).1 (slice_index (states_of w b) r1.target) e r1.action
    (slice_index (states_of w b1) r1.target) (slice_index (states_of w b2) r1.target) step1.goes step.goes in
    let lists : states_of w b1 ≡ states_of w b2 = sym step1.others ∙ ap (slice_set (states_of w b) r1.target) one ∙ step.others in
    sym (states_number-at (target_sizes w.targets) b1 l1) ∙ ap (number_of w) lists ∙ states_number-at (target_sizes w.targets) b2 l2

pub combined_system : (w : Several) → IsSeveral w → IsSys (combined w)
combined_system w ok =
    let start : combined_start w.targets < total w = grind (arith, states_number_below, (starts_below w.env w.targets ok.targets)) in
    record {
      env = IsEnv-made w.env.states (length (all_requests w)) w.env.start (λ e n e'. has_triple_on w.env (slice_get (all_requests w) n) e e') ok.env.states ok.actions ok.env.start;
      target = IsBeh-made (combined w).env (total w) (combined_start w.targets)
          (λ t. are_final w.targets (states_of w t)) (λ t e n t'. targets_go w.targets (slice_get (all_requests w) n) (states_of w t) e (states_of w t')) (omega arith, ok.states) start;
      single = combined_single w ok;
      seats = λ x i.
          let (seat, j, same) = from_map (combined_seat w.env.states (all_requests w)) x w.seats i in
          let own : IsBeh w.env seat.beh = ok.seats seat j in
          subst (λ (y : Seat). IsBeh (combined w).env y.beh) (sym same)
          (IsBeh-made (combined w).env seat.beh.states seat.beh.start (is_final seat.beh) (λ b e n b'. has_move_on seat.beh (slice_get (all_requests w) n) b e b') own.states own.start);
      few = subst (λ n. n ≤ MAX_SERVICES) (sym (length-map w.seats (combined_seat w.env.states (all_requests w)))) ok.few;
    }

-- A pair of the combined system is related exactly when it is related for all targets.
pub combined_is_all : CombinedIsAll
combined_is_all w ok = record {
  system = combined_system w ok;
  great = λ p pair. (all_from_great w (couple p) ok pair.t, great_from_all w (couple p) ok pair.t);
}
