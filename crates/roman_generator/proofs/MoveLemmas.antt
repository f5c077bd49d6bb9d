-- Moves by a served request.
use Rattle.roman_generator.proofs.Common.{◌≡◌, ℕ, ◌<◌, List, [], ◌∷◌, Option, Some, None, IsTrue, IsFalse, IfSome, IfNone, MatchOption, inl, length, slice_get, slice_index, refl, sym, ap, ◌∙◌, subst, arith, get_or-set_same, length-map, both_ways, not-true, slice_get_within, IsIn, listed_number, number_listed, size_at, in_env_next, from_env_next, in_beh_next, from_beh_next, move_in_range, triple_in_range, numbers_are_pairs, AreBelow-index, states_below, IsPairOf-from, IsPairOf-moved, pair_at-number, from_allowed, Sys, IsSys, Seat, Pair, IsPair, TStep, Allows, has, has_move, env_next, beh_next, is_ready, is_allowed, sizes_of, count, number, pair_at, Sizes, moved, CanMove, Becomes, IsBefore, Observation, states_long, get_in}

-- two seats at one place are equal
pub same_seat : (s : Sys) (k : ℕ) (x y : Seat) → slice_get s.seats k ≡ Some x → slice_get s.seats k ≡ Some y → x ≡ y
same_seat s k x y h g = cc

-- a ready seat exists
pub ready_seat : (o : Option Seat) → IsTrue (is_ready o) → (seat : Seat) × (o ≡ Some seat) × IsFalse seat.frozen
ready_seat None h = cc
ready_seat (Some seat) h = (seat, refl, not-true seat.frozen h)

-- a system step goes to the observed state
to_seen : (s : Sys) (p : Pair) (a k b e : ℕ) → IsPair s p → (step : CanMove s p a k b e) → step.to ≡ b
to_seen s p a k b e pair step =
    let within : k < length p.bs = omega (arith, states_long s p pair, slice_get_within s.seats k step.seat step.seated) in
    sym (get_or-set_same p.bs k step.to 0 within) ∙ ap (λ (bs : List ℕ). slice_index bs k) (sym step.is) ∙ get_or-set_same p.bs k b 0 within

-- if the environment has no step, no system step leads to the observed states
pub env_stays : (s : Sys) (t e b : ℕ) (x : Observation) (p : Pair) → IsSys s → IsFalse (has (env_next s.env e x.action) x.env) → IsBefore s t e b x p → CanMove s p x.action x.seat x.state x.env → ⊥
env_stays s t e b x p ok out before step = grind (arith, both_ways, in_env_next, listed_number)

-- if the service has no step, no system step leads to the observed states
pub seat_stays : (s : Sys) (t e b : ℕ) (x : Observation) (p : Pair) (seat : Seat) → IsSys s → slice_get s.seats x.seat ≡ Some seat → IsFalse (has (beh_next seat.beh b e x.action) x.state) → IsBefore s t e b x p →
    CanMove s p x.action x.seat x.state x.env → ⊥
seat_stays s t e b x p seat ok seated out before step =
    let same : step.seat ≡ seat = same_seat s x.seat step.seat seat step.seated seated in
    let moves : IsTrue (has_move seat.beh b e x.action x.state) = rw (← same, ← before.state, ← before.env, ← to_seen s p x.action x.seat x.state x.env before.pair step) step.moves in
    both_ways (has (beh_next seat.beh b e x.action) x.state) out
    (listed_number (beh_next seat.beh b e x.action) x.state (in_beh_next s.env seat.beh b e x.action x.state (ok.seats seat (get_in s.seats x.seat seat seated)) moves))

-- if the environment and the service have a step, a system step leads to the observed states
pub can_move : (s : Sys) (t e b : ℕ) (x : Observation) (p : Pair) (seat : Seat) → slice_get s.seats x.seat ≡ Some seat → IsTrue (is_ready (slice_get s.seats x.seat)) →
    IsTrue (has (env_next s.env e x.action) x.env) → IsTrue (has (beh_next seat.beh b e x.action) x.state) → IsBefore s t e b x p → CanMove s p x.action x.seat x.state x.env
can_move s t e b x p seat seated ready has_e has_b before = grind (arith, from_beh_next, from_env_next, number_listed, ready_seat, same_seat)

-- when the action is served, the target goes to the state that is looked up
pub target_goes : (s : Sys) (p : Pair) (a k b e : ℕ) (o : Option ℕ) → CanMove s p a k b e →
    MatchOption o (beh_next s.target p.t p.e a ≡ []) (λ to. beh_next s.target p.t p.e a ≡ to ∷ []) → IfSome o (λ to. TStep s p.t p.e a to e × CanMove s p a k b e)
target_goes s p a k b e None step next = tt
target_goes s p a k b e (Some to) step next = ((step.world, from_beh_next s.target p.t p.e a to (subst (IsIn to) (sym next) (inl refl))), step)

-- if the action is allowed, the target has a next state
pub target_there : (s : Sys) (t e a : ℕ) (o : Option ℕ) → IsSys s → Allows s t e a → MatchOption o (beh_next s.target t e a ≡ []) (λ to. beh_next s.target t e a ≡ to ∷ []) → IfNone o ⊥
target_there s t e a None ok (to, e', step) next = subst (IsIn to) next (in_beh_next s.env s.target t e a to ok.target step.1)
target_there s t e a (Some to) ok allowed next = tt

-- all numbers of an allowed action are in range
pub allowed_within : (s : Sys) (t e b : ℕ) (x : Observation) (p : Pair) → IsSys s → IsBefore s t e b x p → (t < s.target.states) × (e < s.env.states) × (x.action < s.env.actions)
allowed_within s t e b x p ok before =
    let (to, e', step) = from_allowed s p x.action before.allowed in
    let (from, env, action, there) = move_in_range s.env s.target p.t p.e x.action to ok.target step.1 in
    (subst (λ n. n < s.target.states) before.target from, subst (λ n. n < s.env.states) before.env env, action)

-- the observed state of a service is one of its states
pub seen_within : (s : Sys) (p : Pair) (a k b e : ℕ) → IsSys s → IsPair s p → CanMove s p a k b e → b < slice_index (sizes_of s).seats k
seen_within s p a k b e ok pair step =
    let within = (move_in_range s.env step.seat.beh (slice_index p.bs k) p.e a step.to (ok.seats step.seat (get_in s.seats k step.seat step.seated)) step.moves).3 in
    omega (arith, within, to_seen s p a k b e pair step, size_at s.seats k step.seat step.seated)

-- a system step and a target step lead to the pair with the number q
pub all_move : (s : Sys) (p a k b e to q : ℕ) → IsSys s → p < count (sizes_of s) → TStep s (pair_at (sizes_of s) p).t (pair_at (sizes_of s) p).e a to e → CanMove s (pair_at (sizes_of s) p) a k b e →
    q ≡ number (sizes_of s) (moved (pair_at (sizes_of s) p) to e k b) → q < count (sizes_of s) → Becomes s (pair_at (sizes_of s) p) a k b e q
all_move s p a k b e to q ok l target system is below =
    let n = sizes_of s in
    let here = pair_at n p in
    let pair = (numbers_are_pairs s).pair p l in
    let to_within = (move_in_range s.env s.target here.t here.e a to ok.target target.1).3 in
    let env_within = (triple_in_range s.env here.e a e ok.env target.0).2 in
    let there = IsPairOf-moved n here to e k b (IsPairOf-from s here pair) to_within env_within (seen_within s here a k b e ok pair system) in
    record {
      to = to;
      target = target;
      system = system;
      below = below;
      pair = ap (pair_at n) is ∙ pair_at-number n (moved here to e k b) there;
    }

-- the state of a seat is a state of its behaviour
pub state_within : (s : Sys) (p : Pair) (k : ℕ) (seat : Seat) → IsPair s p → slice_get s.seats k ≡ Some seat → slice_index p.bs k < seat.beh.states
state_within s p k seat pair seated = grind (arith, AreBelow-index, length-map, size_at, slice_get_within, states_below)

-- the state of the looked-up seat is a state of its behaviour
pub state_of_seat : (s : Sys) (t e b : ℕ) (x : Observation) (p : Pair) (seat : Seat) → IsBefore s t e b x p → slice_get s.seats x.seat ≡ Some seat → b < seat.beh.states
state_of_seat s t e b x p seat before seated = subst (λ n. n < seat.beh.states) before.state (state_within s p x.seat seat before.pair seated)

-- the states that a shape of the system reads from the number of a pair are those of the pair
pub at_number : (s : Sys) (shape : Sizes) (p t e b a k b' e' : ℕ) → shape ≡ sizes_of s → p < count (sizes_of s) → t ≡ (pair_at shape p).t → e ≡ (pair_at shape p).e → b ≡ slice_index (pair_at shape p).bs k →
    IsTrue (is_allowed s (pair_at (sizes_of s) p) a) → IsBefore s t e b (record { action = a; seat = k; state = b'; env = e' }) (pair_at (sizes_of s) p)
at_number s shape p t e b a k b' e' same l t_is e_is b_is allowed = record {
  pair = (numbers_are_pairs s).pair p l;
  target = ap (λ (m : Sizes). (pair_at m p).t) (sym same) ∙ sym t_is;
  env = ap (λ (m : Sizes). (pair_at m p).e) (sym same) ∙ sym e_is;
  state = ap (λ (m : Sizes). slice_index (pair_at m p).bs k) (sym same) ∙ sym b_is;
  allowed = allowed;
}
