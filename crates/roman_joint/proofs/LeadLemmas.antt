-- The outcomes of a delegation, by rows and lanes.
use Rattle.roman_joint.proofs.Common.{AreSizes-drop, AreSizes-index, env_rows_are, low_of-le, product_more, product_positive, row_least, row_mod, tails_from, Arena, is_beaten, Bool, IsFalse, IsTrue, List, [], ap, ap₂, arith, drop, length, map, refl, slice_get, slice_index, subst, sym, true, ℕ, ◌%◌, ◌*◌, ◌+◌, ◌-◌, ◌/◌, ◌<◌, ◌∙◌, ◌∷◌, ◌≡◌, ◌≤◌, ◌||◌, IsIn, below, is_empty, product_of, IsNumbered, IsRow, lane_state_of, lanes_in, low_in, IsSizes, stride_of, IsSys, Seat, Sys, Row, Sizes, count, number, numbered, pair_at, sizes_of, any_from, any_same, any_true, in_flat_map, in_map, list_any-flat_map, list_any-map, not_empty_in, part_at, same_test, beh_next, env_next, outcomes, seat_next, div-add-mod', div_below, mod_below, mul-add-lt, env_rows_of, target_rows_of, flat_map, list_any, length-map, mul-add-div_right, mul-add-mod_self_right}
use Rattle.roman_joint.proofs.OutcomeLemmas.{StartsAt, starts_at, numbers_are, target_in_range}
use Rattle.roman_joint.proofs.Finds.{some_numbers, no_numbers}
use Rattle.roman_joint.proofs.SplitLemmas.{target_rows_are}

-- the outcomes have these numbers
pub record Leads (A : Arena ℕ) (p a k : ℕ) (envs states : List ℕ) (to : ℕ → ℕ → ℕ) : Type 0 where
  pub outcomes : A.outcomes p a k ≡ flat_map (λ e. map (to e) states) envs

pub leads_within : (A : Arena ℕ) (p a k e b : ℕ) (envs states : List ℕ) (to : ℕ → ℕ → ℕ) → IsNumbered A → p < length A.nodes → Leads A p a k envs states to →
    IsIn e envs → IsIn b states → to e b < length A.nodes
leads_within A p a k e b envs states to ok l leads in_envs in_states =
    ok.closed p a k (to e b) l (subst (λ qs. IsIn (to e b) qs) (sym leads.outcomes) (in_flat_map (λ x. map (to x) states) e (to e b) envs in_envs (in_map (to e) b states in_states)))

pub leads_served : (A : Arena ℕ) (gone : ℕ → Bool) (p a k : ℕ) (envs states : List ℕ) (to : ℕ → ℕ → ℕ) (test : ℕ → ℕ → Bool) → Leads A p a k envs states to →
    IsFalse (is_empty envs) → IsFalse (is_empty states) → ((e b : ℕ) → IsIn e envs → IsIn b states → test e b ≡ gone (to e b)) →
    list_any (λ e. list_any (test e) states) envs ≡ is_beaten A gone p a k
leads_served A gone p a k envs states to test leads some_env some_state same = grind (arith, any_same, list_any-flat_map, list_any-map, not_empty_in, some_numbers)

pub leads_nothing : (A : Arena ℕ) (gone : ℕ → Bool) (p a k : ℕ) (envs states : List ℕ) (to : ℕ → ℕ → ℕ) → Leads A p a k envs states to → states ≡ [] → is_beaten A gone p a k ≡ true
leads_nothing A gone p a k envs states to leads none = grind (arith, no_numbers)

-- the order of two searches doesn't matter
any_swap : (test : ℕ → ℕ → Bool) (xs ys : List ℕ) → IsTrue (list_any (λ x. list_any (test x) ys) xs) → IsTrue (list_any (λ y. list_any (λ x. test x y) xs) ys)
any_swap test xs ys t = grind (arith, any_from, any_true)

any_swapped : (test : ℕ → ℕ → Bool) (xs ys : List ℕ) → list_any (λ x. list_any (test x) ys) xs ≡ list_any (λ y. list_any (λ x. test x y) xs) ys
any_swapped test xs ys = same_test _ _ (any_swap test xs ys) (any_swap (λ y x. test x y) ys xs)

-- a seat is beaten exactly if it has no next state, or a dead one: from it, a next state of the environment leads to a node that is gone
pub leads_beaten : (A : Arena ℕ) (gone : ℕ → Bool) (p a k : ℕ) (envs states : List ℕ) (to : ℕ → ℕ → ℕ) (dead : ℕ → Bool) → Leads A p a k envs states to →
    IsFalse (is_empty envs) → ((b : ℕ) → IsIn b states → dead b ≡ list_any (λ e. gone (to e b)) envs) → (is_empty states || list_any dead states) ≡ is_beaten A gone p a k
leads_beaten A gone p a k envs [] to dead leads some_env same = sym (leads_nothing A gone p a k envs [] to leads refl)
leads_beaten A gone p a k envs (b ∷ states) to dead leads some_env same =
    any_same dead (λ c. list_any (λ e. gone (to e c)) envs) (b ∷ states) same ∙ any_swapped (λ c e. gone (to e c)) (b ∷ states) envs
    ∙ leads_served A gone p a k envs (b ∷ states) to (λ e c. gone (to e c)) leads some_env refl (λ e c i j. refl)

-- the first number for a seat
pub start_row : (s : Sys) (row : Row) (x lane k to part stride : ℕ) → IsRow s x row → lane < lanes_in s → k < length (sizes_of s).seats → to < s.target.states →
    part ≡ slice_index (pair_at (sizes_of s) (x * lanes_in s + lane)).bs k → stride ≡ stride_of (sizes_of s) k →
    StartsAt (sizes_of s) (x * lanes_in s + lane) k to (to * target_rows_of (sizes_of s) * lanes_in s + (row.part * lanes_in s + lane)) part (env_rows_of (sizes_of s) * lanes_in s) stride
start_row s row x lane k to part stride ok in_lanes seat in_target is_part is_stride =
    let n = sizes_of s in
    let w = lanes_in s in
    let R = env_rows_of n in
    let start = starts_at n (x * w + lane) k to to (target_rows_of n * w) part (R * w) stride (ok.below lane in_lanes) seat in_target refl (target_rows_are n) is_part (env_rows_are n) is_stride in
    let within_env : (x * w + lane) % (R * w) ≡ row.part * w + lane = row_mod x w lane R in_lanes ∙ ap (λ m. m * w + lane) (sym ok.part) in
    let whole : to * (target_rows_of n * w) + (x * w + lane) % (R * w) ≡ to * target_rows_of n * w + (row.part * w + lane) = ap (λ m. to * (target_rows_of n * w) + m) within_env ∙ omega arith in
    subst (λ m. StartsAt n (x * w + lane) k to m part (R * w) stride) whole start

-- the outcomes of a delegation, with their numbers counted from the first
leads_row : (s : Sys) (row : Row) (x lane a k to part stride : ℕ) (envs states : List ℕ) (number : ℕ → ℕ → ℕ) → IsSys s → IsRow s x row → lane < lanes_in s → k < length (sizes_of s).seats →
    part ≡ slice_index (pair_at (sizes_of s) (x * lanes_in s + lane)).bs k → stride ≡ stride_of (sizes_of s) k →
    beh_next s.target row.target row.env a ≡ to ∷ [] → envs ≡ env_next s.env row.env a → states ≡ seat_next (slice_get s.seats k) part row.env a →
    (part * stride ≤ to * target_rows_of (sizes_of s) * lanes_in s + (row.part * lanes_in s + lane) → (e b : ℕ) →
    number e b ≡ to * target_rows_of (sizes_of s) * lanes_in s + (row.part * lanes_in s + lane) - part * stride + e * (env_rows_of (sizes_of s) * lanes_in s) + b * stride) →
    Leads (numbered s) (x * lanes_in s + lane) a k envs states number
leads_row s row x lane a k to part stride envs states number sys ok in_lanes seat is_part is_stride target is_envs is_states counted =
    let start = start_row s row x lane k to part stride ok in_lanes seat (target_in_range s row.target row.env a to sys target) is_part is_stride in
    let env = sym (ok.envs lane in_lanes) in
    record {
      outcomes = numbers_are s (pair_at (sizes_of s) (x * lanes_in s + lane)) a k to number envs states
          (ap₂ (λ t e. beh_next s.target t e a) (ok.targets lane in_lanes) (ok.envs lane in_lanes) ∙ target)
          (is_envs ∙ ap (λ e. env_next s.env e a) env) (is_states ∙ ap₂ (λ b e. seat_next (slice_get s.seats k) b e a) is_part env)
          (λ e b. counted start.taken e b ∙ start.number e b);
    }

-- the first number for a seat before the lanes
pub start_before : (s : Sys) (row : Row) (x lane k to u : ℕ) → IsSys s → IsRow s x row → lane < lanes_in s → k < low_in s → to < s.target.states → u * lanes_in s ≡ stride_of (sizes_of s) k →
    StartsAt (sizes_of s) (x * lanes_in s + lane) k to (to * target_rows_of (sizes_of s) * lanes_in s + (row.part * lanes_in s + lane)) (slice_index row.states k) (env_rows_of (sizes_of s) * lanes_in s) (u * lanes_in s)
start_before s row x lane k to u sys ok in_lanes before in_target stride =
    start_row s row x lane k to (slice_index row.states k) (u * lanes_in s) ok in_lanes (omega (arith, low_of-le (sizes_of s).seats)) in_target (sym (ok.states k lane before in_lanes)) stride

-- the outcomes of a delegation to a seat before the lanes
pub leads_before : (s : Sys) (row : Row) (x lane a k to base u : ℕ) (envs states : List ℕ) → IsSys s → IsRow s x row → lane < lanes_in s → k < low_in s → u * lanes_in s ≡ stride_of (sizes_of s) k →
    beh_next s.target row.target row.env a ≡ to ∷ [] → envs ≡ env_next s.env row.env a → states ≡ seat_next (slice_get s.seats k) (slice_index row.states k) row.env a →
    base ≡ to * target_rows_of (sizes_of s) + row.part - slice_index row.states k * u →
    Leads (numbered s) (x * lanes_in s + lane) a k envs states (λ e b. (base + e * env_rows_of (sizes_of s) + b * u) * lanes_in s + lane)
leads_before s row x lane a k to base u envs states sys ok in_lanes before stride target is_envs is_states is_base =
    let n = sizes_of s in
    let w = lanes_in s in
    let R = env_rows_of n in
    let part = slice_index row.states k in
    leads_row s row x lane a k to part (u * w) envs states (λ e b. (base + e * R + b * u) * w + lane) sys ok in_lanes (omega (arith, low_of-le n.seats)) (sym (ok.states k lane before in_lanes)) stride target is_envs is_states
    (λ taken e b.
    let least : part * u ≤ to * target_rows_of n + row.part = row_least (part * u) (to * target_rows_of n + row.part) w lane in_lanes (omega (arith, taken)) in
    let whole : base + part * u ≡ to * target_rows_of n + row.part = omega (arith, least, is_base) in
    omega (arith, taken, ap (λ m. m * w) whole))

-- the state of a seat that is one of those from `from` on, at a lane of these
pub record LaneState (n : Sizes) (from k lane : ℕ) : Type 0 where
  pub taken : lane_state_of n k lane * stride_of n k ≤ lane
  pub moves : (b : ℕ) → b < slice_index n.seats k → lane + b * stride_of n k - lane_state_of n k lane * stride_of n k < product_of (drop from n.seats)

lane_moves : (lane st size m : ℕ) → 0 < st → 0 < size → lane < m * size * st → (lane / st % size * st ≤ lane) × ((b : ℕ) → b < size → lane + b * st - lane / st % size * st < m * size * st)
lane_moves lane st size m pos some h =
    let whole : (lane / st / size * size + lane / st % size) * st + lane % st ≡ lane = ap (λ x. x * st + lane % st) (div-add-mod' (lane / st) size) ∙ div-add-mod' lane st in
    let top : lane / st / size < m = div_below (lane / st) size m some (div_below lane st (m * size) pos h) in
    (omega (arith, whole), λ b l. omega (arith, whole, mul-add-lt (lane / st / size * size + b) st (lane % st) (size * m) (mul-add-lt (lane / st / size) size b m top l) (mod_below lane st pos)))

-- the stride times the size of a seat divides the product of the sizes from an earlier seat on, such as the lanes
pub lanes_parts : {from : ℕ} (n : Sizes) (k : ℕ) → from ≤ k → k < length n.seats → (m : ℕ) × (product_of (drop from n.seats) ≡ m * slice_index n.seats k * stride_of n k)
lanes_parts {from} n k within seat =
    let (m, e) = tails_from n.seats from k within in
    let next : product_of (drop (k + 1) n.seats) * slice_index n.seats k ≡ product_of (drop k n.seats) = product_more n.seats k (k + 1) (product_of (drop (k + 1) n.seats)) (slice_index n.seats k) refl seat refl refl in
    (m, e ∙ (ap (λ x. m * x) (sym next) ∙ omega arith))

pub stride_positive : (n : Sizes) (k : ℕ) → IsSizes n → 0 < stride_of n k
stride_positive n k h = product_positive (drop (k + 1) n.seats) (AreSizes-drop (k + 1) n.seats h.seats)

pub lane_state : {from : ℕ} (n : Sizes) (k lane : ℕ) → IsSizes n → from ≤ k → k < length n.seats → lane < product_of (drop from n.seats) → LaneState n from k lane
lane_state n k lane h within seat l =
    let (m, e) = lanes_parts n k within seat in
    let (taken, moves) = lane_moves lane (stride_of n k) (slice_index n.seats k) m (stride_positive n k h) (AreSizes-index n.seats k h.seats seat).0 (subst (λ x. lane < x) e l) in
    record {
      taken = taken;
      moves = λ b less. subst (λ x. lane + b * stride_of n k - lane_state_of n k lane * stride_of n k < x) (sym e) (moves b less);
    }

-- a seat's state at a pair is its state at the pair's lane
digit_at : (row lane st size m : ℕ) → 0 < st → (row * (m * size * st) + lane) / st % size ≡ lane / st % size
digit_at row lane st size m pos =
    let whole : row * (m * size * st) + lane ≡ row * m * size * st + lane = omega arith in
    ap (λ x. x / st % size) whole ∙ (ap (λ x. x % size) (mul-add-div_right pos (row * m * size) lane) ∙ mul-add-mod_self_right (row * m) size (lane / st))

pub lane_part : {from : ℕ} (n : Sizes) (x lane k : ℕ) → IsSizes n → x * product_of (drop from n.seats) + lane < count n → from ≤ k → k < length n.seats →
    slice_index (pair_at n (x * product_of (drop from n.seats) + lane)).bs k ≡ lane_state_of n k lane
lane_part {from} n x lane k h inside within seat =
    let (m, e) = lanes_parts n k within seat in
    part_at n (x * product_of (drop from n.seats) + lane) k inside seat
    ∙ (ap (λ w. (x * w + lane) / stride_of n k % slice_index n.seats k) e ∙ digit_at x lane (stride_of n k) (slice_index n.seats k) m (stride_positive n k h))

-- the outcomes of a delegation to a seat within the lanes
pub leads_lanes : (s : Sys) (row : Row) (x lane a k to base part : ℕ) (envs states : List ℕ) → IsSys s → IsSizes (sizes_of s) → IsRow s x row → lane < lanes_in s →
    low_in s ≤ k → k < length s.seats → part ≡ lane_state_of (sizes_of s) k lane →
    beh_next s.target row.target row.env a ≡ to ∷ [] → envs ≡ env_next s.env row.env a → states ≡ seat_next (slice_get s.seats k) part row.env a → base ≡ to * target_rows_of (sizes_of s) + row.part →
    Leads (numbered s) (x * lanes_in s + lane) a k envs states (λ e b. (base + e * env_rows_of (sizes_of s)) * lanes_in s + (lane + b * stride_of (sizes_of s) k - part * stride_of (sizes_of s) k))
leads_lanes s row x lane a k to base part envs states sys sizes ok in_lanes within seat is_part target is_envs is_states is_base =
    let n = sizes_of s in
    let w = lanes_in s in
    let R = env_rows_of n in
    let st = stride_of n k in
    let seats : k < length n.seats = omega (arith, length-map s.seats (λ (y : Seat). y.beh.states)) in
    let taken : part * st ≤ lane = subst (λ y. y * st ≤ lane) (sym is_part) (lane_state n k lane sizes within seats in_lanes).taken in
    leads_row s row x lane a k to part st envs states (λ e b. (base + e * R) * w + (lane + b * st - part * st)) sys ok in_lanes seats
    (is_part ∙ sym (lane_part n x lane k sizes (ok.below lane in_lanes) within seats)) refl target is_envs is_states (λ first e b.
    let spread : (base + e * R) * w ≡ to * target_rows_of n * w + row.part * w + e * (R * w) = ap (λ m. (m + e * R) * w) is_base ∙ omega arith in
    omega (arith, taken, spread))
