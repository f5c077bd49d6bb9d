-- The numbers of the pairs to which a delegation can lead.
use Rattle.roman_joint.proofs.Common.{◌≡◌, ℕ, ◌+◌, ◌-◌, ◌*◌, ◌%◌, ◌<◌, ◌≤◌, cond, List, [], ◌∷◌, Option, Some, IsTrue, IsFalse, map, length, slice_get, slice_index, slice_set, refl, sym, ap, ap₂, ◌∙◌, subst, inl, arith, flat_map, map-append, length-map, get_or-set_same, append-nil, slice_get_within, not-true, IsIn, product_of, Sys, Seat, Pair, IsSys, IsPair, env_next, beh_next, seat_next, outcomes, is_ready, Sizes, IsPairOf, sizes_of, count, number, pair_at, states_number, triple_in_range, move_in_range, from_env_next, get_in, states_set, numbers_are_pairs, IsPairOf-from, IsPairOf-at, number-pair_at, AreBelow-length, number_below, from_beh_next, parts_of_number, states_number-set, stride_of, env_stride_of, target_stride_of, moved, IsPairWith}

-- the first number, and how the numbers change
pub record StartsAt (n : Sizes) (p k to row part env_stride stride : ℕ) : Type 0 where
  pub fits : row < count n
  pub taken : part * stride ≤ row
  pub number : (e b : ℕ) → row - part * stride + e * env_stride + b * stride ≡ number n (moved (pair_at n p) to e k b)

pub starts_at : (n : Sizes) (p k to from target_stride part env_stride stride : ℕ) → p < count n → k < length n.seats → to < n.target →
    from ≡ to → target_stride ≡ target_stride_of n → part ≡ slice_index (pair_at n p).bs k → env_stride ≡ env_stride_of n → stride ≡ stride_of n k →
    StartsAt n p k to (from * target_stride + p % env_stride) part env_stride stride
starts_at n p k to from target_stride part env_stride stride below_p within target is_from is_target is_part is_env is_stride =
    rw (is_from, is_target, is_part, is_env, is_stride) (
    let q : Pair = pair_at n p in
    let ok : IsPairOf n q = IsPairOf-at n p below_p in
    let long : length q.bs ≡ length n.seats = AreBelow-length n.seats q.bs ok.bs in
    let low : p % product_of n.seats ≡ states_number n.seats q.bs = ap (λ x. x % product_of n.seats) (sym (number-pair_at n p below_p)) ∙ (parts_of_number n q ok).2 in
    let bare : states_number n.seats (slice_set q.bs k 0) + slice_index q.bs k * stride_of n k ≡ states_number n.seats q.bs + 0 * stride_of n k = states_number-set n.seats q.bs k 0 within long in
    let first : Pair = record { t = to; e = 0; bs = q.bs } in
    let first_ok : IsPairOf n first = record { t = target; e = omega (arith, ok.e); bs = ok.bs } in
    let row : to * target_stride_of n + p % product_of n.seats ≡ number n first = omega (arith, low) in
    record {
      fits = subst (λ x. x < count n) (sym row) (number_below n first first_ok);
      taken = omega (arith, bare, low);
      number = λ e b.
          let there : states_number n.seats (slice_set q.bs k b) + slice_index q.bs k * stride_of n k ≡ states_number n.seats q.bs + b * stride_of n k = states_number-set n.seats q.bs k b within long in
          omega (arith, there, bare, low);
    })

-- the numbers of a list of pairs; g gives the number of each
numbers_of_states : (n : Sizes) (f : ℕ → Pair) (g : ℕ → ℕ) (bs : List ℕ) → ((b : ℕ) → g b ≡ number n (f b)) → map (number n) (map f bs) ≡ map g bs
numbers_of_states n f g [] h = refl
numbers_of_states n f g (b ∷ bs) h = ap₂ (λ x xs. x ∷ xs) (sym (h b)) (numbers_of_states n f g bs h)

numbers_of_envs : (n : Sizes) (f : ℕ → ℕ → ℕ → Pair) (g : ℕ → ℕ → ℕ) (to : ℕ) (envs states : List ℕ) → ((e b : ℕ) → g e b ≡ number n (f e to b)) →
    map (number n) (flat_map (λ e. flat_map (λ t. map (f e t) states) (to ∷ [])) envs) ≡ flat_map (λ e. map (g e) states) envs
numbers_of_envs n f g to [] states h = refl
numbers_of_envs n f g to (e ∷ envs) states h = grind (arith, append-nil, map-append, numbers_of_states, (numbers_of_envs n f g to envs states h))

-- the numbers of all outcomes
pub numbers_are : (s : Sys) (q : Pair) (a k to : ℕ) (g : ℕ → ℕ → ℕ) (envs states : List ℕ) → beh_next s.target q.t q.e a ≡ to ∷ [] → envs ≡ env_next s.env q.e a →
    states ≡ seat_next (slice_get s.seats k) (slice_index q.bs k) q.e a → ((e b : ℕ) → g e b ≡ number (sizes_of s) (moved q to e k b)) →
    map (number (sizes_of s)) (outcomes s q a k) ≡ flat_map (λ e. map (g e) states) envs
numbers_are s q a k to g envs states target is_envs is_states h =
    ap (λ ts. map (number (sizes_of s)) (flat_map (λ e. flat_map (λ t. map (λ b. moved q t e k b) (seat_next (slice_get s.seats k) (slice_index q.bs k) q.e a)) ts) (env_next s.env q.e a))) target
    ∙ (numbers_of_envs (sizes_of s) (λ e t b. moved q t e k b) g to (env_next s.env q.e a) (seat_next (slice_get s.seats k) (slice_index q.bs k) q.e a) h
    ∙ ap₂ (λ es bs. flat_map (λ e. map (g e) bs) es) (sym is_envs) (sym is_states))

-- a ready seat's next states are its behaviour's
pub ready_next : (o : Option Seat) (seat : Seat) (b e a : ℕ) → o ≡ Some seat → IsFalse seat.frozen → seat_next o b e a ≡ beh_next seat.beh b e a
ready_next o seat b e a is ready = ap (λ x. seat_next x b e a) is ∙ ap (λ f. cond f [] (beh_next seat.beh b e a)) ready

-- the target's one next state is in range
pub target_in_range : (s : Sys) (t e a to : ℕ) → IsSys s → beh_next s.target t e a ≡ to ∷ [] → to < s.target.states
target_in_range s t e a to sys next =
    let there : IsIn to (beh_next s.target t e a) = subst (λ ts. IsIn to ts) (sym next) (inl refl) in
    (move_in_range s.env s.target t e a to sys.target (from_beh_next s.target t e a to there)).3

-- a seat that is ready isn't frozen
pub seat_ready : (o : Option Seat) (seat : Seat) → o ≡ Some seat → IsTrue (is_ready o) → IsFalse seat.frozen
seat_ready o seat is ready = not-true seat.frozen (subst (λ x. IsTrue (is_ready x)) is ready)

-- the pairs to which the action can lead have these numbers
pub record AreOutcomes (s : Sys) (p a k : ℕ) (g : ℕ → ℕ → ℕ) (envs states : List ℕ) : Type 0 where
  pub numbers : map (number (sizes_of s)) (outcomes s (pair_at (sizes_of s) p) a k) ≡ flat_map (λ e. map (g e) states) envs
  pub places : (e b : ℕ) → IsIn e envs → IsIn b states → IsPairWith (sizes_of s) k (g e b) e b

pub are_outcomes : (s : Sys) (p a k to e b : ℕ) (seat : Seat) (g : ℕ → ℕ → ℕ) (envs states : List ℕ) → IsSys s → p < count (sizes_of s) → slice_get s.seats k ≡ Some seat → IsTrue (is_ready (slice_get s.seats k)) →
    e ≡ (pair_at (sizes_of s) p).e → b ≡ slice_index (pair_at (sizes_of s) p).bs k → beh_next s.target (pair_at (sizes_of s) p).t e a ≡ to ∷ [] →
    ((e b : ℕ) → g e b ≡ number (sizes_of s) (moved (pair_at (sizes_of s) p) to e k b)) → envs ≡ env_next s.env e a → states ≡ beh_next seat.beh b e a → AreOutcomes s p a k g envs states
are_outcomes s p a k to e b seat g envs states sys below_p seated ready is_e is_b target numbers is_envs is_states =
    rw (is_envs, is_states, is_e, is_b) (
    let next = rw is_e at target in
    let is_ready : IsFalse seat.frozen = seat_ready (slice_get s.seats k) seat seated ready in
    let n = sizes_of s in
    let q : Pair = pair_at n p in
    let pair : IsPair s q = (numbers_are_pairs s).pair p below_p in
    let within : k < length q.bs =
    omega (arith, slice_get_within s.seats k seat seated, AreBelow-length n.seats q.bs (IsPairOf-from s q pair).bs, length-map s.seats (λ (x : Seat). x.beh.states)) in
    record {
      numbers = numbers_are s q a k to g (env_next s.env q.e a) (beh_next seat.beh (slice_index q.bs k) q.e a) next refl (sym (ready_next (slice_get s.seats k) seat (slice_index q.bs k) q.e a seated is_ready)) numbers;
      places = λ e b in_env in_states.
          let r : Pair = moved q to e k b in
          let env : e < s.env.states = (triple_in_range s.env q.e a e sys.env (from_env_next s.env q.e a e in_env)).2 in
          let state : b < seat.beh.states = (move_in_range s.env seat.beh (slice_index q.bs k) q.e a b (sys.seats seat (get_in s.seats k seat seated)) (from_beh_next seat.beh (slice_index q.bs k) q.e a b in_states)).3 in
          let ok : IsPair s r = record { t = target_in_range s q.t q.e a to sys next; e = env; bs = states_set s.seats q.bs k b seat pair.bs seated state } in
          let here : pair_at n (g e b) ≡ r = ap (pair_at n) (numbers e b) ∙ (numbers_are_pairs s).back r ok in
          record {
            below = subst (λ x. x < count n) (sym (numbers e b)) ((numbers_are_pairs s).below r ok);
            env = ap (λ (x : Pair). x.e) here;
            state = ap (λ (x : Pair). slice_index x.bs k) here ∙ get_or-set_same q.bs k b 0 within;
          };
    })
