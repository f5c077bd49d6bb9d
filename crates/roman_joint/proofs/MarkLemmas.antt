-- Marks on the bands from which a band can be reached.
use Rattle.roman_joint.proofs.Common.{AnyOf, Grows, IsBeforeAction, IsBeforeEnv, IsBeforeSeat, IsMarked, Marks, action_work, env_work, row_at, seat_work, target_work, AreLeading, Arena, Delegation, back, delegations, is_among, Bool, IsTrue, List, [], add-one, ap, ap₂, arith, cond, count_by, drop, false, get_or, inl, inr, length, refl, slice_get, slice_index, subst, suc, sum_by, sym, take, true, zero, ℕ, ◌%◌, ◌*◌, ◌++◌, ◌+◌, ◌-◌, ◌/◌, ◌<◌, ◌^◌, ◌∙◌, ◌∷◌, ◌≡◌, ◌≤◌, ◌⊎◌, HasNoRepeats, HoldsEachOnce, IsIn, below, product_of, HasNoRepeats-below, HasNoRepeats-filter, HasNoRepeats-map, by_test, filter_in, from_below, from_flat_map, from_map, from_push, in_beh_prev, in_below, in_env_prev, in_filter, move_in_range, no_longer, numbers_are_pairs, get_in, sum_by_same, triple_in_range, IsBeh, IsSys, Pair, Seat, Sys, IsRow, lane_state_of, lanes_in, IsSizes, moved, stride_of, IsSizes-rows, env_rows_are, lanes_positive, length_rows, low_of-le, row_mod, row_stride_of, Row, Sizes, count, number, numbered, pair_at, sizes_of, band_in, mid_in, beh_prev, env_prev, outcomes, bit_at, bit_or, cases_eq, cases_lt, le-ltb, lt-ltb, div-add-mod', div-mul-add, div_below, mod_below, mul-add-lt, same_from_place, div-div-eq-div-mul, env_rows_of, lanes_of, low_of, row_sizes, filter, flat_map, from_action, from_all, from_env, from_seat, from_states, from_target, seat_prev, get_or-set_other, get_or-set_same, length-map, length-set, take_more, has_flag, is_on, length-filter, sum_by-append, sum_by-cons, set, slice_get_within, still, sum_cut, size_at}
use Rattle.std.specs.Prelude.{ltb}
use Rattle.roman_joint.proofs.BackwardLemmas.{once_by, delegation, Comes, origin, in_seat_prev, pair_comes, found_backwards}
use Rattle.roman_joint.proofs.WordLemmas.{on_set_same, on_set_other}
use Rattle.roman_joint.proofs.SplitLemmas.{stride_rows, quotient}
use Rattle.roman_joint.proofs.LeadLemmas.{start_row, lane_state, lane_part}
use Rattle.roman_joint.proofs.BandLemmas.{row_in, InBand, in_band, mid_low, mid_low_le, first_in}

-- Marks that are added.

pub marked_on : (a b : List ℕ) (y : ℕ) → Grows a b → IsMarked a y → IsMarked b y
marked_on a b y more m l = more.still y (m (subst (λ n. y < 64 * n) more.long l))

any_of : (P : ℕ → ℕ → Type 0) (xs : List ℕ) (y x : ℕ) → IsIn x xs → P x y → AnyOf P xs y
any_of P xs y x i h = record { one = x; among = i; holds = h }

-- the marks and the steps of one more element
marks_more : (P : ℕ → ℕ → Type 0) (f : ℕ → ℕ) (xs ys : List ℕ) (x : ℕ) (a b c : List ℕ) (l m n : ℕ) → ys ≡ xs ++ x ∷ [] → Marks (AnyOf P xs) (sum_by f xs) a b l m → Marks (P x) (f x) b c m n →
    Marks (AnyOf P ys) (sum_by f ys) a c l n
marks_more P f xs ys x a b c l m n is old new = rw is (record {
  grows = record { long = new.grows.long ∙ old.grows.long; still = λ y t. new.grows.still y (old.grows.still y t) };
  marked = λ y any. elim (from_push any.one x xs any.among) [
    | inl among ↦ marked_on b c y new.grows (old.marked y (any_of P xs y any.one among any.holds))
    | inr same ↦ new.marked y (subst (λ z. P z y) same any.holds)
  ];
  steps = omega (arith, old.steps, new.steps, sum_by-append f xs (x ∷ []));
})

pub marks_next : (P : ℕ → ℕ → Type 0) (f : ℕ → ℕ) (xs : List ℕ) (i : ℕ) (a b c : List ℕ) (l m n : ℕ) → i < length xs → Marks (AnyOf P (take i xs)) (sum_by f (take i xs)) a b l m →
    Marks (P (get_or xs i 0)) (f (get_or xs i 0)) b c m n → Marks (AnyOf P (take (i + 1) xs)) (sum_by f (take (i + 1) xs)) a c l n
marks_next P f xs i a b c l m n less = marks_more P f (take i xs) (take (i + 1) xs) (get_or xs i 0) a b c l m n (take_more xs i 0 less)

pub marks_above : (P : ℕ → ℕ → Type 0) (f : ℕ → ℕ) (k : ℕ) (a b c : List ℕ) (l m n : ℕ) → Marks (AnyOf P (below k)) (sum_by f (below k)) a b l m → Marks (P k) (f k) b c m n →
    Marks (AnyOf P (below (k + 1))) (sum_by f (below (k + 1))) a c l n
marks_above P f k a b c l m n = marks_more P f (below k) (below (k + 1)) k a b c l m n (rw add-one refl)

flag_is : (marks : List ℕ) (x : ℕ) → has_flag marks x ≡ is_on (slice_index marks (x / 64)) (x % 64)
unfolding has_flag is_on
flag_is marks x = refl

-- one more mark
pub put_mark : (marks : List ℕ) (y place lane : ℕ) → place < length marks → place ≡ y / 64 → lane ≡ y % 64 →
    Grows marks (set marks place (bit_or (get_or marks place 0) (1 * 2 ^ lane % 2 ^ 64))) × IsTrue (has_flag (set marks place (bit_or (get_or marks place 0) (1 * 2 ^ lane % 2 ^ 64))) y)
put_mark marks y place lane room at is =
    let word : ℕ = bit_or (get_or marks place 0) (1 * 2 ^ lane % 2 ^ 64) in
    let low : lane < 64 = omega (arith, is, mod_below y 64 (omega arith)) in
    let put = get_or-set_same marks place word 0 room in
    let here = on_set_same (get_or marks place 0) lane low in (
      record {
        long = length-set marks place word;
        still = λ z t. let new = flag_is (set marks place word) z in let old = flag_is marks z in elim (cases_eq (z / 64) place) [
          | inl same ↦ elim (cases_eq (z % 64) lane) [ inl own ↦ cc | inr other ↦ let kept = on_set_other (get_or marks place 0) lane (z % 64) low other in cc ]
          | inr far ↦ let kept = get_or-set_other marks place (z / 64) word 0 far in cc
        ];
      },
      let new = flag_is (set marks place word) y in grind (arith, get_or-set_same, on_set_same),
    )

-- The bands from which a band is reached.

-- the pairs of neighbouring rows
band_lanes : (n : Sizes) (j : ℕ) → j ≤ low_of n.seats → product_of (drop j (row_sizes n).seats) * lanes_of n.seats ≡ product_of (drop j n.seats)
band_lanes n zero l = env_rows_are n
band_lanes n (suc j) l = rw add-one at (row_stride_of n j l)

-- a band's first row at other states of the target and the environment is again the first row of a band
first_at : (s : Sys) (row : Row) (y e t : ℕ) → IsSizes (sizes_of s) → IsRow s (y * band_in s) row → (c : ℕ) × (row_at s row e t ≡ c * band_in s)
first_at s row y e t sizes ok =
    let n = sizes_of s in
    let m = row_sizes n in
    let v = band_in s in
    let g = env_rows_of m in
    let vpos : 0 < v = lanes_positive m.seats (IsSizes-rows n sizes).seats in
    let whole : g * v ≡ env_rows_of n = env_rows_are m in
    let at : y * v ≡ y * v + 0 = omega arith in
    let part : row.part ≡ y % g * v + 0 = ok.part ∙ (ap₂ (λ a b. a % b) at (sym whole) ∙ row_mod y v 0 g vpos) in
    (t * (n.env * g) + e * g + y % g, omega (arith, part, ap (λ r. t * (n.env * r) + e * r) whole))

-- a seat within the band keeps the band
own_band : (p w v c j o b : ℕ) → o ≤ j → j + b - o < w * v → p + o ≡ c * (w * v) + j + b → p / w / v ≡ c
own_band p w v c j o b taken l is =
    let whole : p ≡ c * (w * v) + (j + b - o) = omega (arith, taken, is) in
    div-div-eq-div-mul p w v ∙ (ap (λ x. x / (w * v)) whole ∙ div-mul-add c (w * v) (j + b - o) l)

-- a seat before the band's own changes the band
front_band : (p w v own b h c j : ℕ) → 0 < w * v → j < w * v → p + own * (h * (w * v)) ≡ c * (w * v) + j + b * (h * (w * v)) → p / w / v + own * h ≡ c + b * h
front_band p w v own b h c j pos l is =
    let split = div-add-mod' p (w * v) in
    let same = ap (λ z. z * (w * v)) (div-div-eq-div-mul p w v) in
    (same_from_place (p / w / v + own * h) (p % (w * v)) (c + b * h) j (w * v) (mod_below p (w * v) pos) l (omega (arith, split, same, is))).0

-- the table has a place for each pair's band
pub in_table : (s : Sys) (p long : ℕ) → IsSizes (sizes_of s) → p < count (sizes_of s) → count (sizes_of s) ≤ long * band_in s * lanes_in s → p / lanes_in s / band_in s < long
in_table s p long sizes l room = div_below _ _ long (first_in s sizes) (div_below p (lanes_in s) (long * band_in s) (lanes_positive (sizes_of s).seats sizes.seats) (omega (arith, l, room)))

-- from a pair's band, action a leads to a pair of the row's band
pub is_before : (s : Sys) (row : Row) (y i lane p a k : ℕ) → IsSys s → IsSizes (sizes_of s) → IsRow s (y * band_in s) row → i < band_in s → lane < lanes_in s → p < count (sizes_of s) →
    IsIn ((y * band_in s + i) * lanes_in s + lane) ((numbered s).outcomes p a k) → AnyOf (IsBeforeAction s row) (below s.env.actions) (p / lanes_in s / band_in s)
is_before s row y i lane p a k sys sizes first in_rows in_lanes below_p led =
    let n = sizes_of s in
    let w = lanes_in s in
    let v = band_in s in
    let x = y * v + i in
    let j = i * w + lane in
    let here = in_band s y i row sizes first in_rows in
    let ok = here.looked in
    let inside = ok.below lane in_lanes in
    let q = pair_at n (x * w + lane) in
    let e = (pair_at n p).e in
    let t = (pair_at n p).t in
    let b = slice_index (pair_at n p).bs k in
    let comes : Comes s q (pair_at n p) a k = pair_comes s p (x * w + lane) a k sys below_p led in
    let st = comes.steps in
    let own = slice_index q.bs k in
    let S = stride_of n k in
    let in_seats : k < length n.seats = omega (arith, length-map s.seats (λ (z : Seat). z.beh.states), slice_get_within s.seats k st.seat st.seated) in
    let beh : IsBeh s.env st.seat.beh = sys.seats st.seat (get_in s.seats k st.seat st.seated) in
    let start = start_row s (row_in s x row) x lane k t own S ok in_lanes in_seats ((numbers_are_pairs s).pair p below_p).t refl refl in
    let (c, bands) = first_at s row y e t sizes first in
    let node : number n (origin q e t k b) ≡ p = ap (number n) comes.from ∙ (numbers_are_pairs s).there p below_p in
    let sum : p + own * S ≡ c * (w * v) + j + b * S = omega (arith, start.taken, start.number e b, node, ap (λ m. m * w) here.part, ap (λ m. m * w) bands) in
    let pos : 0 < w = lanes_positive n.seats sizes.seats in
    let vpos : 0 < v = first_in s sizes in
    let l : j < w * v = mul-add-lt i w lane v in_rows in_lanes in
    let in_seat : IsIn b (seat_prev (slice_get s.seats k) own e a) = in_seat_prev s.env (slice_get s.seats k) st.seat own e a b st.seated beh st.ready st.moves in
    let either : (p / w / v ≡ row_at s row e t / v) ⊎ AnyOf (IsBeforeSeat s row a e (row_at s row e t)) (below (mid_in s)) (p / w / v) = elim (cases_lt k (mid_in s)) [
      | inl front ↦
          let m = row_sizes n in
          let low = mid_low s k front in
          let u : ℕ = S / w in
          let h : ℕ = stride_of m k / v in
          let rows : h * v ≡ u = stride_rows m k (IsSizes-rows n sizes) front ∙ sym (quotient S (stride_of m k) w pos (row_stride_of n k low)) in
          let whole : S ≡ h * (w * v) = sym (stride_rows n k sizes low) ∙ ap (λ z. z * w) (sym rows) ∙ omega arith in
          let same : own ≡ slice_index row.states k = ok.states k lane low in_lanes ∙ here.before k front in
          let z : ℕ = p / w / v in
          let bands_moved : z + own * h ≡ c + b * h = front_band p w v own b h c j (omega (arith, l)) l (omega (arith, sum, ap (λ z. own * z) whole, ap (λ z. b * z) whole)) in
          let moved : z * v + own * u ≡ row_at s row e t + b * u = omega (arith, bands, ap (λ m. m * v) bands_moved, ap (λ m. own * m) rows, ap (λ m. b * m) rows) in
          let at_b : IsBeforeSeat s row a e (row_at s row e t) k z =
          any_of _ _ z b (subst (λ d. IsIn b (seat_prev (slice_get s.seats k) d e a)) same in_seat)
          (record { row = z * v; moved = subst (λ d. z * v + d * u ≡ row_at s row e t + b * u) same moved; band_of = sym (quotient (z * v) z v vpos refl) }) in
          inr (any_of _ _ z k (in_below (mid_in s) k front) at_b)
      | inr past ↦
          let wide : v * w ≡ product_of (drop (mid_in s) n.seats) = band_lanes n (mid_in s) (mid_low_le s) in
          let place : x * w + lane ≡ y * product_of (drop (mid_in s) n.seats) + j = omega (arith, ap (λ m. y * m) wide) in
          let digit : own ≡ lane_state_of n k j = ap (λ r. slice_index (pair_at n r).bs k) place ∙ lane_part n y j k sizes (subst (λ r. r < count n) place inside) past in_seats in
          let state : b < slice_index n.seats k = subst (λ z. b < z) (sym (size_at s.seats k st.seat st.seated)) (move_in_range s.env st.seat.beh b e a own beh st.moves).0 in
          let within = lane_state n k j sizes past in_seats (omega (arith, l, wide)) in
          let taken : own * S ≤ j = rw digit within.taken in
          let there : j + b * S - own * S < w * v = omega (arith, rw (← digit) at (within.moves b state), wide) in
          inl (own_band p w v c j (own * S) (b * S) taken there sum ∙ sym (quotient (row_at s row e t) c v vpos (sym bands)))
    ] in
    let at_t : IsBeforeEnv s row a e (p / w / v) = any_of _ _ _ t (subst (λ z. IsIn t (beh_prev s.target z e a)) (ok.targets lane in_lanes) (in_beh_prev s.env s.target t e a q.t sys.target st.goal)) (record { either = either }) in
    let at_e : IsBeforeAction s row a (p / w / v) = any_of _ _ _ e (subst (λ z. IsIn e (env_prev s.env z a)) (ok.envs lane in_lanes) (in_env_prev s.env e a q.e sys.env st.world)) at_t in
    any_of _ _ _ a (in_below s.env.actions a (triple_in_range s.env e a q.e sys.env st.world).1) at_e

-- The number of steps.

-- a sum over joined lists, from the sum over each
sum_each : {X Y : Type 0} (f : Y → ℕ) (g : X → List Y) (h : X → ℕ) (xs : List X) → ((x : X) → sum_by f (g x) ≡ h x) → sum_by f (flat_map g xs) ≡ sum_by h xs
sum_each f g h [] same = refl
sum_each f g h (x ∷ xs) same = sum_by-append f (g x) (flat_map g xs) ∙ (ap₂ (λ m n. m + n) (same x) (sum_each f g h xs same) ∙ sym (sum_by-cons h x xs))

-- lists without repeats that hold the same elements have as many that pass a test
count_same : {X : Type 0} (f : X → Bool) (xs ys : List X) → HoldsEachOnce xs ys → HasNoRepeats ys → count_by f ys ≡ count_by f xs
count_same f xs ys each once =
    let up : length (filter f xs) ≤ length (filter f ys) = no_longer (filter f xs) (filter f ys) (HasNoRepeats-filter f xs each.once)
    (λ d i. let (j, t) = filter_in f d xs i in in_filter f d ys ((each.same d).0 j) t) in
    let down : length (filter f ys) ≤ length (filter f xs) = no_longer (filter f ys) (filter f xs) (HasNoRepeats-filter f ys once)
    (λ d i. let (j, t) = filter_in f d ys i in in_filter f d xs ((each.same d).1 j) t) in
    omega (arith, length-filter f xs, length-filter f ys)

-- no delegation leads to a node twice
back_once : (A : Arena ℕ) (q : ℕ) → HasNoRepeats A.nodes → HasNoRepeats (back A q)
back_once A q once =
    HasNoRepeats-filter (λ d. is_among A (A.outcomes d.node d.action d.seat) q) (delegations A) (once_by _ (λ d. d.node) A.nodes once
    (λ p i. once_by _ (λ d. d.action) (below A.actions) (HasNoRepeats-below A.actions)
    (λ a j. HasNoRepeats-map _ (below A.seats) (λ k o u v is. ap (λ (d : Delegation ℕ). d.seat) is) (HasNoRepeats-below A.seats))
    (λ a d i j. grind (arith, from_map))) (λ p d i j. grind (arith, from_flat_map, from_map)))

-- the delegations to a seat count only if it is before the band's own
count_states : (s : Sys) (q : Pair) (a e t k : ℕ) (bs : List ℕ) → count_by (λ d. ltb d.seat (mid_in s)) (from_states s q a e t k bs) ≡ cond (ltb k (mid_in s)) (sum_by (λ b. 1) bs) 0
count_states s q a e t k [] = grind (arith, by_test)
count_states s q a e t k (b ∷ bs) =
    sum_by-cons (λ d. cond (ltb d.seat (mid_in s)) 1 0) (delegation s q a e t k b) (from_states s q a e t k bs)
    ∙ (more (ltb k (mid_in s)) _ _ (count_states s q a e t k bs) ∙ ap (λ m. cond (ltb k (mid_in s)) m 0) (sym (sum_by-cons (λ z. 1) b bs)))
  where
    more : (t : Bool) (rest ones : ℕ) → rest ≡ cond t ones 0 → cond t 1 0 + rest ≡ cond t (1 + ones) 0
    more true rest ones e = omega (arith, e)
    more false rest ones e = omega (arith, e)

-- if an action doesn't lead to a band, nothing is marked
pub none_leads : (s : Sys) (row : Row) (a n : ℕ) (marks : List ℕ) → AreLeading s.env s.target row.target row.env row.leading → a < s.env.actions → bit_at row.leading a ≡ 0 →
    Marks (IsBeforeAction s row a) (action_work s row a) marks marks n n
none_leads s row a n marks leading l off = record {
  grows = record { long = refl; still = λ y t. t };
  marked = λ y any. absurd (subst (λ ts. IsIn any.holds.one ts) (leading.others a l off any.one any.among) any.holds.among);
  steps =
      let none : action_work s row a ≡ sum_by (λ e. 0) (env_prev s.env row.env a) =
      sum_by_same (env_work s row a) (λ e. 0) (env_prev s.env row.env a) (λ e i. ap (sum_by (λ t. target_work s row a e)) (leading.others a l off e i)) in
      omega (arith, none, nothing (env_prev s.env row.env a));
}
  where
    nothing : (xs : List ℕ) → sum_by (λ x. 0) xs ≡ 0
    nothing [] = refl
    nothing (x ∷ xs) = nothing xs

-- each pair of the band takes the same number of steps
pub count_front : (s : Sys) (row : Row) (y i lane : ℕ) → IsSys s → IsSizes (sizes_of s) → IsRow s (y * band_in s) row → i < band_in s → lane < lanes_in s →
    count_by (λ d. ltb d.seat (mid_in s)) (back (numbered s) ((y * band_in s + i) * lanes_in s + lane)) ≡ sum_by (action_work s row) (below s.env.actions)
count_front s row y i lane sys sizes first in_rows in_lanes =
    count_same _ (from_all s q) (back (numbered s) p) (found_backwards s p sys (here.looked.below lane in_lanes)) (back_once (numbered s) p (HasNoRepeats-below (count (sizes_of s))))
    ∙ sum_each f (from_action s q) (action_work s row) (below s.env.actions)
    (λ a. sum_each f (from_env s q a) (env_work s row a) (env_prev s.env q.e a)
    (λ e. sum_each f (from_target s q a e) (λ t. target_work s row a e) (beh_prev s.target q.t e a) (λ t. target a e t)
    ∙ ap (λ t. sum_by (λ u. target_work s row a e) (beh_prev s.target t e a)) (here.looked.targets lane in_lanes))
    ∙ ap (λ e. sum_by (env_work s row a) (env_prev s.env e a)) (here.looked.envs lane in_lanes))
  where
    here : InBand s y i row
    here = in_band s y i row sizes first in_rows

    p : ℕ
    p = (y * band_in s + i) * lanes_in s + lane

    q : Pair
    q = pair_at (sizes_of s) p

    f : Delegation ℕ → ℕ
    f d = cond (ltb d.seat (mid_in s)) 1 0

    prevs : ℕ → ℕ → ℕ → List ℕ
    prevs a e k = seat_prev (slice_get s.seats k) (slice_index q.bs k) e a

    states : ℕ → ℕ → ℕ → ℕ
    states a e k = cond (ltb k (mid_in s)) (sum_by (λ b. 1) (prevs a e k)) 0

    few : mid_in s ≤ length s.seats
    few = omega (arith, low_of-le (row_sizes (sizes_of s)).seats, length_rows (sizes_of s), low_of-le (sizes_of s).seats, length-map s.seats (λ (z : Seat). z.beh.states))

    target : (a e t : ℕ) → sum_by f (from_target s q a e t) ≡ target_work s row a e
    target a e t =
        sum_each f (from_seat s q a e t) (states a e) (below (length s.seats)) (λ k. count_states s q a e t k (prevs a e k))
        ∙ (sym (sum_cut (states a e) (mid_in s) (length s.seats) few (λ k l m. ap (λ z. cond z (sum_by (λ b. 1) (prevs a e k)) 0) (le-ltb k (mid_in s) l)))
        ∙ sum_by_same (states a e) (seat_work s row a e) (below (mid_in s)) (λ k j.
        let front : k < mid_in s = from_below (mid_in s) k j in
        ap (λ z. cond z (sum_by (λ b. 1) (prevs a e k)) 0) (lt-ltb k (mid_in s) front)
        ∙ ap (λ b. sum_by (λ z. 1) (seat_prev (slice_get s.seats k) b e a)) (here.looked.states k lane (mid_low s k front) in_lanes ∙ here.before k front)))
