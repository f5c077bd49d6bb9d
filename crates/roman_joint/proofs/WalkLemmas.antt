-- One step of a walk backwards: the delegations that are left, and the new position.
use Rattle.roman_joint.proofs.Common.{Beh, Env, IsBeh, IsEnv, IsSys, Pair, Seat, Sys, has_move, has_triple, Bool, List, None, Option, Some, [], ap, arith, cond, drop, false, get_or, inl, inr, length, refl, slice_get, slice_index, slice_set, subst, sym, true, ℕ, ◌++◌, ◌+◌, ◌-◌, ◌<◌, ◌∙◌, ◌∷◌, ◌≡◌, ◌≤◌, Delegation, back, HoldsEachOnce, below, IsWalk, WalkGoesOn, goal_of, left, left_of_action, left_of_all, left_of_env, left_of_seat, left_of_target, states_before, Walk, append_assoc, drop_all, drop_more, length-map, beh_prev, env_prev, cases_lt, count, number, numbered, pair_at, sizes_of, count_by-le-length, length-filter, flat_map, from_action, from_all, from_env, from_seat, from_states, from_target, seat_prev, get_or-below, length-below, get_in, slice_get_past}
use Rattle.roman_joint.proofs.BackwardLemmas.{found_backwards}

-- joined lists are the first one and the rest
flat_map-drop : {X Y : Type 0} (f : X → List Y) (xs : List X) (i : ℕ) (d : X) → i < length xs → flat_map f (drop i xs) ≡ f (get_or xs i d) ++ flat_map f (drop (i + 1) xs)
flat_map-drop f xs i d l = ap (flat_map f) (drop_more xs i d l)

pub flat_map-past : {X Y : Type 0} (f : X → List Y) (xs : List X) (i : ℕ) → length xs ≤ i → flat_map f (drop i xs) ≡ []
flat_map-past f xs i l = ap (flat_map f) (drop_all i xs l)

-- joined lists of the numbers from a place on are the first one and the rest
flat_map-below : {Y : Type 0} (f : ℕ → List Y) (n i : ℕ) → i < n → flat_map f (drop i (below n)) ≡ f i ++ flat_map f (drop (i + 1) (below n))
flat_map-below f n i l =
    flat_map-drop f (below n) i 0 (omega (arith, length-below n)) ∙ ap (λ j. f j ++ flat_map f (drop (i + 1) (below n))) (get_or-below n i 0 l)

pub below-past : {Y : Type 0} (f : ℕ → List Y) (n i : ℕ) → n ≤ i → flat_map f (drop i (below n)) ≡ []
below-past f n i l = flat_map-past f (below n) i (omega (arith, length-below n))

pub few_prev : (env : Env) (e' a : ℕ) → IsEnv env → length (env_prev env e' a) ≤ 64
few_prev env e' a ok = omega (arith, length-filter (λ e. has_triple env e a e') (below env.states), count_by-le-length (λ e. has_triple env e a e') (below env.states), length-below env.states, ok.states.1)

pub few_beh_prev : (env : Env) (beh : Beh) (b' e a : ℕ) → IsBeh env beh → length (beh_prev beh b' e a) ≤ 64
few_beh_prev env beh b' e a ok = omega (arith, length-filter (λ b. has_move beh b e a b') (below beh.states), count_by-le-length (λ b. has_move beh b e a b') (below beh.states), length-below beh.states, ok.states.1)

-- nothing is left of a seat past the last
past_seat : (s : Sys) (q : Pair) (a e t k n : ℕ) → length s.seats ≤ k → from_states s q a e t k (drop n (seat_prev (slice_get s.seats k) (slice_index q.bs k) e a)) ≡ []
past_seat s q a e t k n past =
    ap (λ o. from_states s q a e t k (drop n (seat_prev o (slice_index q.bs k) e a))) (slice_get_past s.seats k past) ∙ ap (from_states s q a e t k) (drop_all n [] (omega arith))

-- the seats from one on are that seat and those after it
seats_from : (s : Sys) (q : Pair) (a e t k : ℕ) →
    from_seat s q a e t k ++ flat_map (from_seat s q a e t) (drop (k + 1) (below (length s.seats))) ≡ flat_map (from_seat s q a e t) (drop k (below (length s.seats)))
seats_from s q a e t k = elim (cases_lt k (length s.seats)) [
  | inl there ↦ sym (flat_map-below f (length s.seats) k there)
  | inr past ↦ ap (λ xs. xs ++ flat_map f (drop (k + 1) (below (length s.seats)))) (past_seat s q a e t k 0 past)
      ∙ (below-past f (length s.seats) (k + 1) (omega arith) ∙ sym (below-past f (length s.seats) k past))
]
  where
    f : ℕ → List (Delegation ℕ)
    f = from_seat s q a e t

-- a new count is within its bound
none_taken : 0 ≤ 64
none_taken = omega arith

module _ (s : Sys) (sys : IsSys s) (w : Walk) (ok : IsWalk s w) where
  -- the walk at the next seat, also past the last
  abbrev pub seat_on : Walk
  seat_on = record w { seat = w.seat + 1; states_taken = 0 }

  pub goes_seat : left_of_seat s w ≡ [] → w.seat + 1 < length s.seats → WalkGoesOn s w seat_on
  goes_seat no_states more =
      let next : w.seat + 1 ≤ length s.seats = omega arith in
      record {
        walk = assumption (none_taken);
        left = rw (no_states, ← seats_from s (goal_of s w) w.action w.env w.target (w.seat + 1)) (sym (append_assoc (left_of_seat s seat_on) (left_of_target s seat_on) _));
        falls = omega arith;
      }

  -- the walk at the target's next predecessor state
  abbrev pub target_on : ℕ → Walk
  target_on t = record w { target = t; targets_taken = w.targets_taken + 1; seat = 0; states_taken = 0 }

  pub goes_target : (t : ℕ) → left_of_seat s w ≡ [] → left_of_target s w ≡ [] → w.targets_taken < length (beh_prev s.target (goal_of s w).t w.env w.action) →
      t ≡ get_or (beh_prev s.target (goal_of s w).t w.env w.action) w.targets_taken 0 → t < s.target.states → WalkGoesOn s w (target_on t)
  goes_target t no_states no_seats more is within =
      let targets = beh_prev s.target (goal_of s w).t w.env w.action in
      let f = from_target s (goal_of s w) w.action w.env in
      let new = target_on t in
      let next : left_of_env s w ≡ f t ++ left_of_env s new = flat_map-drop f targets w.targets_taken 0 more ∙ ap (λ u. f u ++ left_of_env s new) (sym is) in
      let first : 0 ≤ length s.seats = omega arith in
      let taken : w.targets_taken + 1 ≤ 64 = omega (arith, more, few_beh_prev s.env s.target (goal_of s w).t w.env w.action sys.target) in
      record { walk = assumption (none_taken); left = rw (no_states, no_seats, next, ← seats_from s (goal_of s w) w.action w.env t 0) (simp append_assoc); falls = omega (arith, sys.few, taken) }

  -- the walk at the environment's next predecessor state; k is the number of seats
  abbrev pub env_on : ℕ → ℕ → Walk
  env_on e k = record w { env = e; envs_taken = w.envs_taken + 1; targets_taken = 0; seat = k; states_taken = 0 }

  pub goes_env : (e k : ℕ) → left_of_seat s w ≡ [] → left_of_target s w ≡ [] → left_of_env s w ≡ [] → w.envs_taken < length (env_prev s.env (goal_of s w).e w.action) →
      e ≡ get_or (env_prev s.env (goal_of s w).e w.action) w.envs_taken 0 → e < s.env.states → k ≡ length s.seats → WalkGoesOn s w (env_on e k)
  goes_env e k no_states no_seats no_targets more is within all =
      let f = from_env s (goal_of s w) w.action in
      let new = env_on e k in
      let past : k ≤ length s.seats = omega arith in
      let next : left_of_action s w ≡ f e ++ left_of_action s new = flat_map-drop f (env_prev s.env (goal_of s w).e w.action) w.envs_taken 0 more ∙ ap (λ u. f u ++ left_of_action s new) (sym is) in
      let taken : w.envs_taken + 1 ≤ 64 = omega (arith, more, few_prev s.env (goal_of s w).e w.action sys.env) in
      record {
        walk = assumption (none_taken);
        left = rw (no_states, no_seats, no_targets, next, past_seat s (goal_of s w) w.action e w.target k 0 (omega arith), below-past (from_seat s (goal_of s w) w.action e w.target) (length s.seats) (k + 1) (omega arith))
            (sym (append_assoc (f e) (left_of_action s new) (left_of_all s w)));
        falls = omega (arith, sys.few, taken);
      }

  -- the walk at the next action; all states of the target count as taken
  abbrev pub action_on : ℕ → Walk
  action_on k = record w { action = w.action + 1; envs_taken = 0; targets_taken = 64; seat = k; states_taken = 0 }

  pub goes_action : (k : ℕ) → left_of_seat s w ≡ [] → left_of_target s w ≡ [] → left_of_env s w ≡ [] → left_of_action s w ≡ [] → w.action + 1 < s.env.actions → k ≡ length s.seats → WalkGoesOn s w (action_on k)
  goes_action k no_states no_seats no_targets no_envs more all =
      let q = goal_of s w in
      let a = w.action + 1 in
      let f = from_action s q in
      let new = action_on k in
      let past : k ≤ length s.seats = omega arith in
      let next : left_of_all s w ≡ f a ++ left_of_all s new = flat_map-below f s.env.actions a more in
      let targets = flat_map-past (from_target s q a w.env) (beh_prev s.target q.t w.env a) 64 (few_beh_prev s.env s.target q.t w.env a sys.target) in
      let taken : 64 ≤ 64 = omega arith in
      record {
        walk = assumption (none_taken);
        left = rw (no_states, no_seats, no_targets, no_envs, next, past_seat s q a w.env w.target k 0 (omega arith), below-past (from_seat s q a w.env w.target) (length s.seats) (k + 1) (omega arith), targets) refl;
        falls = omega (arith, sys.few);
      }

-- a seat has at most 64 predecessor states
pub few_seat_prev : (s : Sys) (k b' e a : ℕ) → IsSys s → length (seat_prev (slice_get s.seats k) b' e a) ≤ 64
few_seat_prev s k b' e a sys = by (slice_get s.seats k) (λ seat there. sys.seats seat (get_in s.seats k seat there))
  where
    by : (o : Option Seat) → ((seat : Seat) → o ≡ Some seat → IsBeh s.env seat.beh) → length (seat_prev o b' e a) ≤ 64
    by None ok = omega arith
    by (Some seat) ok = of seat.frozen (few_beh_prev s.env seat.beh b' e a (ok seat refl))
      where
        of : (f : Bool) → length (beh_prev seat.beh b' e a) ≤ 64 → length (cond f [] (beh_prev seat.beh b' e a)) ≤ 64
        of true few = omega arith
        of false few = few

-- a predecessor state of the current seat is taken
module _ (s : Sys) (sys : IsSys s) (w : Walk) (ok : IsWalk s w) where
  pub takes_state : (node : ℕ) → w.states_taken < length (states_before s w) →
      node ≡ number (sizes_of s) (record { t = w.target; e = w.env; bs = slice_set (goal_of s w).bs w.seat (get_or (states_before s w) w.states_taken 0) }) →
      let new : Walk = record w { states_taken = w.states_taken + 1 } in IsWalk s new × (left s w ≡ record { node = node; action = w.action; seat = w.seat } ∷ left s new)
  takes_state node more is =
      let q = goal_of s w in
      let few : length (states_before s w) ≤ 64 = few_seat_prev s w.seat (slice_index q.bs w.seat) w.env w.action sys in
      let taken : w.states_taken + 1 ≤ 64 = omega arith in
      let new : Walk = record w { states_taken = w.states_taken + 1 } in
      let split : left_of_seat s w ≡ delegation_of node w.action w.seat ∷ left_of_seat s new =
      ap (from_states s q w.action w.env w.target w.seat) (drop_more (states_before s w) w.states_taken 0 more) ∙ ap (λ x. delegation_of x w.action w.seat ∷ left_of_seat s new) (sym is) in
      (assumption, ap (λ xs. xs ++ (left_of_target s w ++ (left_of_env s w ++ (left_of_action s w ++ left_of_all s w)))) split)
    where
      delegation_of : ℕ → ℕ → ℕ → Delegation ℕ
      delegation_of node a k = record { node = node; action = a; seat = k }

-- the walk before its first delegation; m is the number of seats
abbrev pub first_walk : ℕ → ℕ → Walk
first_walk p m = record { pair = p; action = 0; envs_taken = 0; env = 0; targets_taken = 64; target = 0; seat = m; states_taken = 0 }

pub begins : (s : Sys) (p m : ℕ) → IsSys s → p < count (sizes_of s) → m ≡ length s.seats → IsWalk s (first_walk p m) × HoldsEachOnce (left s (first_walk p m)) (back (numbered s) p)
begins s p m sys below_p is_m =
    let q : Pair = pair_at (sizes_of s) p in
    let w : Walk = first_walk p m in
    let nothing : left s w ≡ left_of_action s w ++ left_of_all s w =
    rw (past_seat s q 0 0 0 m 0 (omega arith), below-past (from_seat s q 0 0 0) (length s.seats) (m + 1) (omega arith), flat_map-past (from_target s q 0 0) (beh_prev s.target q.t 0 0) 64 (few_beh_prev s.env s.target q.t 0 0 sys.target)) refl in
    let all : from_all s q ≡ left_of_action s w ++ left_of_all s w = flat_map-below (from_action s q) s.env.actions 0 sys.env.actions.0 in
    let walk : IsWalk s w = record {
      pair = below_p;
      action = sys.env.actions.0;
      env = sys.env.states.0;
      target = sys.target.states.0;
      seat = omega arith;
      states_taken = omega arith;
      targets_taken = omega arith;
      envs_taken = omega arith;
    } in
    (walk, subst (λ xs. HoldsEachOnce xs (back (numbered s) p)) (all ∙ sym nothing) (found_backwards s p sys below_p))

-- nothing is left past the last place
pub ruleset passed = (below-past, flat_map-past, length-map)
