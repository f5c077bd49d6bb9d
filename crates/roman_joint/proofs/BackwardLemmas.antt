-- The delegations that are found backwards are those that lead to the pair.
use Rattle.roman_joint.proofs.Common.{HasNoRepeats-below, HasNoRepeats-filter, HasNoRepeats-flat_map, HasNoRepeats-map, from_back, from_beh_prev, from_below, from_env_prev, from_flat_map, from_map, from_outcome, in_back, in_beh_prev, in_below, in_env_prev, in_flat_map, in_map, move_in_range, numbered_is_arena, numbered_is_same, numbers_are_pairs, outcome_in, outcome_pair, get_in, states_set, triple_in_range, Bool, IsFalse, IsTrue, List, None, Option, Some, [], ap, arith, cond, false, length, map, refl, slice_get, slice_index, slice_set, subst, sym, true, ℕ, ◌-◌, ◌<◌, ◌∙◌, ◌≡◌, Delegation, back, Env, IsBeh, IsPair, IsSys, Pair, Seat, Sys, has_move, has_triple, HasNoRepeats, HoldsEachOnce, IsIn, below, beh_prev, env_prev, outcomes, count, number, numbered, pair_at, sizes_of, flat_map, from_action, from_all, from_env, from_seat, from_target, seat_prev, get_or-set_same, set-get_or, set-set, slice_get_within, states_long}

-- the delegation of action a to seat k, from t, e and the seat's state b
abbrev pub delegation : Sys → Pair → ℕ → ℕ → ℕ → ℕ → ℕ → Delegation ℕ
delegation s q a e t k b = record { node = number (sizes_of s) (record { t = t; e = e; bs = slice_set q.bs k b }); action = a; seat = k }

-- the steps by which action a leads from these states to q
pub record Steps (s : Sys) (q : Pair) (a e t k b : ℕ) : Type 0 where
  pub seat : Seat
  pub seated : slice_get s.seats k ≡ Some seat
  pub ready : IsFalse seat.frozen
  pub world : IsTrue (has_triple s.env e a q.e)
  pub goal : IsTrue (has_move s.target t e a q.t)
  pub moves : IsTrue (has_move seat.beh b e a (slice_index q.bs k))

from_frozen : (seat : Seat) (frozen : Bool) (b' e a b : ℕ) → IsIn b (cond frozen [] (beh_prev seat.beh b' e a)) → IsFalse frozen × IsIn b (beh_prev seat.beh b' e a)
from_frozen seat true b' e a b i = absurd i
from_frozen seat false b' e a b i = (refl, i)

from_seat_prev : (o : Option Seat) (b' e a b : ℕ) → IsIn b (seat_prev o b' e a) → (seat : Seat) × (o ≡ Some seat) × IsFalse seat.frozen × IsTrue (has_move seat.beh b e a b')
from_seat_prev None b' e a b i = absurd i
from_seat_prev (Some seat) b' e a b i = let (ready, j) = from_frozen seat seat.frozen b' e a b i in (seat, refl, ready, from_beh_prev seat.beh b e a b' j)

pub in_seat_prev : (env : Env) (o : Option Seat) (seat : Seat) (b' e a b : ℕ) → o ≡ Some seat → IsBeh env seat.beh → IsFalse seat.frozen → IsTrue (has_move seat.beh b e a b') → IsIn b (seat_prev o b' e a)
in_seat_prev env o seat b' e a b seated ok ready moves =
    subst (λ y. IsIn b (seat_prev y b' e a)) (sym seated) (subst (λ f. IsIn b (cond f [] (beh_prev seat.beh b' e a))) (sym ready) (in_beh_prev env seat.beh b e a b' ok moves))

-- the steps from a predecessor state of a seat, with those of the environment and the target
state_steps : (s : Sys) (q : Pair) (a e t k b : ℕ) → IsIn e (env_prev s.env q.e a) → IsIn t (beh_prev s.target q.t e a) → IsIn b (seat_prev (slice_get s.seats k) (slice_index q.bs k) e a) → Steps s q a e t k b
state_steps s q a e t k b in_env in_target in_states = grind (arith, from_beh_prev, from_env_prev, from_seat_prev)

-- the pair from which the steps lead
abbrev pub origin : Pair → ℕ → ℕ → ℕ → ℕ → Pair
origin q e t k b = record { t = t; e = e; bs = slice_set q.bs k b }

origin_pair : (s : Sys) (q : Pair) (a e t k b : ℕ) → IsSys s → IsPair s q → Steps s q a e t k b → IsPair s (origin q e t k b)
origin_pair s q a e t k b sys ok steps =
    record {
      t = (move_in_range _ _ _ _ _ _ sys.target steps.goal).0;
      e = (triple_in_range _ _ _ _ sys.env steps.world).0;
      bs = states_set _ _ _ _ _ ok.bs steps.seated (move_in_range _ _ _ _ _ _ (sys.seats steps.seat (get_in _ _ _ steps.seated)) steps.moves).0;
    }

steps_lead : (s : Sys) (q : Pair) (a e t k b : ℕ) → IsSys s → IsPair s q → Steps s q a e t k b → IsIn q (outcomes s (origin q e t k b) a k)
steps_lead s q a e t k b sys ok steps =
    let within : k < length q.bs = omega (arith, states_long _ _ ok, slice_get_within s.seats k steps.seat steps.seated) in
    let here : slice_index (slice_set q.bs k b) k ≡ b = get_or-set_same q.bs k b 0 within in
    outcome_in _ _ _ _ _ _ _ sys (steps.world, steps.goal) (record {
      seat = steps.seat;
      seated = steps.seated;
      ready = steps.ready;
      world = steps.world;
      to = slice_index q.bs k;
      moves = subst (λ c. IsTrue (has_move steps.seat.beh c e a (slice_index q.bs k))) (sym here) steps.moves;
      is = sym (set-set q.bs k b (slice_index q.bs k) ∙ set-get_or q.bs k 0);
    })

-- the steps of a delegation that leads to q
pub record Comes (s : Sys) (q p : Pair) (a k : ℕ) : Type 0 where
  pub steps : Steps s q a p.e p.t k (slice_index p.bs k)
  pub from : origin q p.e p.t k (slice_index p.bs k) ≡ p

outcome_steps : (s : Sys) (q p : Pair) (a k : ℕ) → IsPair s p → IsIn q (outcomes s p a k) → Comes s q p a k
outcome_steps s q p a k ok i = grind (arith, from_outcome, get_or-set_same, states_long, set-get_or, set-set, slice_get_within)

-- the steps of a delegation that leads to the pair with the number r
pub pair_comes : (s : Sys) (p r a k : ℕ) → IsSys s → p < count (sizes_of s) → IsIn r ((numbered s).outcomes p a k) → Comes s (pair_at (sizes_of s) r) (pair_at (sizes_of s) p) a k
pair_comes s p r a k sys below_p led =
    let ok : IsPair s (pair_at (sizes_of s) p) = (numbers_are_pairs s).pair p below_p in
    let (x, l, same) = from_map (number (sizes_of s)) r (outcomes s (pair_at (sizes_of s) p) a k) led in
    let here : pair_at (sizes_of s) r ≡ x = ap (pair_at (sizes_of s)) same ∙ (numbers_are_pairs s).back x (outcome_pair s (pair_at (sizes_of s) p) a k x sys ok l) in
    outcome_steps s _ _ a k ok (subst (λ y. IsIn y (outcomes s (pair_at (sizes_of s) p) a k)) (sym here) l)

-- each delegation that is found leads to q
found_leads : (s : Sys) (p : ℕ) (d : Delegation ℕ) → IsSys s → p < count (sizes_of s) → IsIn d (from_all s (pair_at (sizes_of s) p)) → IsIn d (back (numbered s) p)
found_leads s p d sys below_p i =
    let n = sizes_of s in
    let q : Pair = pair_at n p in
    let ok : IsPair s q = (numbers_are_pairs s).pair p below_p in
    let (a, in_actions, i1) = from_flat_map (from_action s q) d (below s.env.actions) i in
    let (e, in_env, i2) = from_flat_map (from_env s q a) d (env_prev s.env q.e a) i1 in
    let (t, in_target, i3) = from_flat_map (from_target s q a e) d (beh_prev s.target q.t e a) i2 in
    let (k, in_seats, i4) = from_flat_map (from_seat s q a e t) d (below (length s.seats)) i3 in
    let (b, in_states, is) = from_map (delegation s q a e t k) d (seat_prev (slice_get s.seats k) (slice_index q.bs k) e a) i4 in
    let steps = state_steps s q a e t k b in_env in_target in_states in
    let r : Pair = origin q e t k b in
    let ok_r : IsPair s r = origin_pair s q a e t k b sys ok steps in
    let numbers : IsIn p (map (number n) (outcomes s r a k)) = rw ((numbers_are_pairs s).there p below_p) at (in_map (number n) q (outcomes s r a k) (steps_lead s q a e t k b sys ok steps)) in
    let there : IsIn p ((numbered s).outcomes (number n r) a k) = subst (λ x. IsIn p (map (number n) (outcomes s x a k))) (sym ((numbers_are_pairs s).back r ok_r)) numbers in
    subst (λ x. IsIn x (back (numbered s) p)) (sym is) (in_back (numbered s) (numbered_is_arena s sys) p (number n r) a k (in_below (count n) (number n r) ((numbers_are_pairs s).below r ok_r)) there)

-- each delegation that leads to q is found
leads_found : (s : Sys) (p : ℕ) (d : Delegation ℕ) → IsSys s → p < count (sizes_of s) → IsIn d (back (numbered s) p) → IsIn d (from_all s (pair_at (sizes_of s) p))
leads_found s p d sys below_p i =
    let (in_nodes, action, seat, j) = from_back (numbered s) (numbered_is_same s) p d i in
    let below_d : d.node < count (sizes_of s) = from_below (count (sizes_of s)) d.node in_nodes in
    let r : Pair = pair_at (sizes_of s) d.node in
    let comes = pair_comes s d.node p d.action d.seat sys below_d j in
    let steps = comes.steps in
    let states = in_seat_prev _ _ _ _ _ _ _ steps.seated (sys.seats steps.seat (get_in _ _ _ steps.seated)) steps.ready steps.moves in
    let node : number (sizes_of s) (origin (pair_at (sizes_of s) p) r.e r.t d.seat (slice_index r.bs d.seat)) ≡ d.node = ap (number (sizes_of s)) comes.from ∙ (numbers_are_pairs s).there d.node below_d in
    let found : IsIn (delegation s (pair_at (sizes_of s) p) d.action r.e r.t d.seat (slice_index r.bs d.seat)) (from_all s (pair_at (sizes_of s) p)) =
    in_flat_map _ _ _ _ (in_below _ _ (triple_in_range _ _ _ _ sys.env steps.world).1) (in_flat_map _ _ _ _ (in_env_prev _ _ _ _ sys.env steps.world)
    (in_flat_map _ _ _ _ (in_beh_prev _ _ _ _ _ _ sys.target steps.goal) (in_flat_map _ _ _ _ (in_below _ _ (slice_get_within s.seats d.seat steps.seat steps.seated)) (in_map _ _ _ states)))) in
    rw node at found

-- the states and the seat of a delegation are those by which it was found
pub record FoundAt (s : Sys) (q : Pair) (a e t k : ℕ) (d : Delegation ℕ) : Type 0 where
  pub action : d.action ≡ a
  pub env : (pair_at (sizes_of s) d.node).e ≡ e
  pub target : (pair_at (sizes_of s) d.node).t ≡ t
  pub seat : d.seat ≡ k

-- joined lists have no repeats if each element determines the list from which it comes
pub once_by : {X Y : Type 0} (f : X → List Y) (from : Y → X) (xs : List X) → HasNoRepeats xs → ((x : X) → IsIn x xs → HasNoRepeats (f x)) → ((x : X) (y : Y) → IsIn x xs → IsIn y (f x) → from y ≡ x) →
    HasNoRepeats (flat_map f xs)
once_by f from xs once each is = HasNoRepeats-flat_map f xs each (λ x z y i j l m. sym (is x y i l) ∙ is z y j m) once

seat_prev_once : (o : Option Seat) (b' e a : ℕ) → HasNoRepeats (seat_prev o b' e a)
seat_prev_once None b' e a = tt
seat_prev_once (Some seat) b' e a = grind (arith, HasNoRepeats-below, HasNoRepeats-filter)

module _ (s : Sys) (q : Pair) (sys : IsSys s) (ok : IsPair s q) where
  back_at : (a e t k b : ℕ) → Steps s q a e t k b → pair_at (sizes_of s) (number (sizes_of s) (origin q e t k b)) ≡ origin q e t k b
  back_at a e t k b steps = (numbers_are_pairs s).back (origin q e t k b) (origin_pair s q a e t k b sys ok steps)

  seat_at : (a e t k : ℕ) (d : Delegation ℕ) → IsIn e (env_prev s.env q.e a) → IsIn t (beh_prev s.target q.t e a) → IsIn d (from_seat s q a e t k) → FoundAt s q a e t k d
  seat_at a e t k d in_env in_target i =
      let (b, j, is) = from_map (delegation s q a e t k) d (seat_prev (slice_get s.seats k) (slice_index q.bs k) e a) i in
      let here : pair_at (sizes_of s) d.node ≡ origin q e t k b = ap (λ x. pair_at (sizes_of s) x.node) is ∙ back_at a e t k b (state_steps s q a e t k b in_env in_target j) in
      record { action = ap (λ x. x.action) is; env = ap (λ p. p.e) here; target = ap (λ p. p.t) here; seat = ap (λ x. x.seat) is }

  seat_once : (a e t k : ℕ) → IsIn e (env_prev s.env q.e a) → IsIn t (beh_prev s.target q.t e a) → HasNoRepeats (from_seat s q a e t k)
  seat_once a e t k in_env in_target =
      HasNoRepeats-map (delegation s q a e t k) (seat_prev (slice_get s.seats k) (slice_index q.bs k) e a)
      (λ b c i j same.
      let at_b : Steps s q a e t k b = state_steps s q a e t k b in_env in_target i in
      let at_c : Steps s q a e t k c = state_steps s q a e t k c in_env in_target j in
      let pairs : origin q e t k b ≡ origin q e t k c = sym (back_at a e t k b at_b) ∙ (ap (λ x. pair_at (sizes_of s) x.node) same ∙ back_at a e t k c at_c) in
      let within : k < length q.bs = omega (arith, states_long s q ok, slice_get_within s.seats k at_b.seat at_b.seated) in
      sym (get_or-set_same q.bs k b 0 within) ∙ (ap (λ p. slice_index p.bs k) pairs ∙ get_or-set_same q.bs k c 0 within))
      (seat_prev_once (slice_get s.seats k) (slice_index q.bs k) e a)

  pub all_once : HasNoRepeats (from_all s q)
  all_once =
      once_by (from_action s q) (λ d. d.action) (below s.env.actions) (HasNoRepeats-below s.env.actions)
      (λ a i. once_by (from_env s q a) (λ d. (pair_at (sizes_of s) d.node).e) (env_prev s.env q.e a) (HasNoRepeats-filter (λ e. has_triple s.env e a q.e) (below s.env.states) (HasNoRepeats-below s.env.states))
      (λ e in_env. once_by (from_target s q a e) (λ d. (pair_at (sizes_of s) d.node).t) (beh_prev s.target q.t e a) (HasNoRepeats-filter (λ t. has_move s.target t e a q.t) (below s.target.states) (HasNoRepeats-below s.target.states))
      (λ t in_target. once_by (from_seat s q a e t) (λ d. d.seat) (below (length s.seats)) (HasNoRepeats-below (length s.seats))
      (λ k j. seat_once a e t k in_env in_target)
      (λ k d j l. (seat_at a e t k d in_env in_target l).seat))
      (λ t d in_target l. grind (arith, from_flat_map, (seat_at a e t))))
      (λ e d in_env l. grind (arith, from_flat_map, (seat_at a e))))
      (λ a d i l.
      let (e, in_env, j) = from_flat_map (from_env s q a) d (env_prev s.env q.e a) l in
      let (t, in_target, m) = from_flat_map (from_target s q a e) d (beh_prev s.target q.t e a) j in
      let (k, in_seats, h) = from_flat_map (from_seat s q a e t) d (below (length s.seats)) m in
      (seat_at a e t k d in_env in_target h).action)

-- the delegations that are found backwards are those that lead to the pair, each once
pub found_backwards : (s : Sys) (p : ℕ) → IsSys s → p < count (sizes_of s) → HoldsEachOnce (from_all s (pair_at (sizes_of s) p)) (back (numbered s) p)
found_backwards s p sys below_p = record {
  once = all_once s (pair_at (sizes_of s) p) sys ((numbers_are_pairs s).pair p below_p);
  same = λ d. (found_leads s p d sys below_p, leads_found s p d sys below_p);
}
