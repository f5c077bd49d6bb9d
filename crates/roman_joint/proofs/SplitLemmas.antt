-- How rows are made and looked up.
use Rattle.roman_joint.proofs.Common.{AreBelow-index, IsPairOf-at, part_at, AreLeading, ArePermitted, IsLayoutOf, IsRow, lanes_in, low_in, lane_state_of, AreSizes, IsSizes, stride_of, target_stride_of, AreSizes-index, env_rows_are, exact, lanes_positive, low_of-le, row_below, row_div, tails_from, row_stride_of, row_size, IsBeh, Seat, Sys, IsIn, below, product_of, IsNamedSys, NamedSys, system_of, IsPairOf, Sizes, count, pair_at, sizes_of, List, [], ap, ap₂, arith, inl, inr, length, map, refl, slice_index, subst, suc, sym, zero, ℕ, ◌%◌, ◌*◌, ◌+◌, ◌-◌, ◌/◌, ◌<◌, ◌∙◌, ◌∷◌, ◌≡◌, Row, Layout, env_rows_of, lanes_of, low_of, target_rows_of, row_sizes, length-map, mul-add-lt, mul_cancel}
use Rattle.roman_joint.proofs.Rows.{count_fits}

-- the pairs of a joint have numbers of 32 bits
pub joint_sizes : (n : NamedSys) → IsNamedSys n → IsSizes (sizes_of (system_of n))
joint_sizes n known =
    let s = system_of n in
    record {
      target = (known.system.target.states.0, omega (arith, known.system.target.states.1));
      env = (known.system.env.states.0, omega (arith, known.system.env.states.1));
      seats = all_sizes s.seats (λ x i. known.system.seats x i);
      few = omega (arith, known.system.few, length-map s.seats (λ (x : Seat). x.beh.states));
      counted = omega (arith, count_fits n known);
    }
  where
    all_sizes : (seats : List Seat) → ((x : Seat) → IsIn x seats → IsBeh (system_of n).env x.beh) → AreSizes (map (λ x. x.beh.states) seats)
    all_sizes [] h = tt
    all_sizes (seat ∷ seats) h = let ok = h seat (inl refl) in (ok.states.0, omega (arith, ok.states.1), all_sizes seats (λ x i. h x (inr i)))

-- the factors of a positive product are positive
pub positive_of : (a w p : ℕ) → a * w ≡ p → 0 < p → 0 < a
positive_of zero w p e pos = absurd (omega (arith, e, pos))
positive_of (suc a) w p e pos = omega arith

-- each seat has states
pub size_positive : (n : Sizes) (k : ℕ) → IsSizes n → k < length n.seats → 0 < slice_index n.seats k
size_positive n k h l = (AreSizes-index n.seats k h.seats l).0

-- a stride in rows
pub stride_rows : (n : Sizes) (k : ℕ) → IsSizes n → k < low_of n.seats → stride_of n k / lanes_of n.seats * lanes_of n.seats ≡ stride_of n k
stride_rows n k h l =
    let (m, e) = tails_from n.seats (k + 1) (low_of n.seats) (omega arith) in
    exact (stride_of n k) m (lanes_of n.seats) (lanes_positive n.seats h.seats) e

-- the rows of the target
pub target_rows_are : (n : Sizes) → target_rows_of n * lanes_of n.seats ≡ target_stride_of n
target_rows_are n = grind (arith, env_rows_are)

-- a product divided by a factor
pub quotient : (a m w : ℕ) → 0 < w → m * w ≡ a → a / w ≡ m
quotient a m w pos is = mul_cancel (a / w) m w pos (exact a m w pos (sym is) ∙ sym is)

-- the stride of a seat before the lanes, counted in rows
pub row_stride : (n : Sizes) (r : Layout) (k : ℕ) → IsLayoutOf n r → k < low_of n.seats → slice_index r.strides k ≡ stride_of n k / lanes_of n.seats
row_stride n r k rows l = mul_cancel (slice_index r.strides k) (stride_of n k / lanes_of n.seats) (lanes_of n.seats) (lanes_positive n.seats rows.ok.seats) (rows.before k l ∙ sym (stride_rows n k rows.ok l))

-- the pairs of a row are in range
pub row_inside : (n : Sizes) (x lane rows : ℕ) → rows * lanes_of n.seats ≡ count n → x < rows → lane < lanes_of n.seats → x * lanes_of n.seats + lane < count n
row_inside n x lane rows is l m = omega (arith, is, mul-add-lt x (lanes_of n.seats) lane rows l m)

pub row_number : (x rows w c : ℕ) → 0 < w → rows * w ≡ c → x * w < c → x < rows
row_number x rows w c pos is l = row_below x w 0 rows (omega arith)

-- the looked-up facts of a row are right
pub row_made : (s : Sys) (x : ℕ) (row : Row) → IsSizes (sizes_of s) → x * lanes_in s < count (sizes_of s) → (rows : ℕ) → rows * lanes_in s ≡ count (sizes_of s) → row.part ≡ x % env_rows_of (sizes_of s) →
    row.target ≡ (pair_at (sizes_of s) (x * lanes_in s)).t → row.env ≡ (pair_at (sizes_of s) (x * lanes_in s)).e →
    ((k : ℕ) → k < low_in s → slice_index row.states k ≡ lane_state_of (row_sizes (sizes_of s)) k x) →
    ArePermitted s.env s.target row.target row.env row.allowed → AreLeading s.env s.target row.target row.env row.leading → IsRow s x row
row_made s x row sizes start rows is_rows part at_target at_env at_states allowed leading =
    let n = sizes_of s in
    let w = lanes_in s in
    let pos : 0 < w = lanes_positive n.seats sizes.seats in
    let in_rows : x < rows = row_number x rows w (count n) pos is_rows start in
    let first : x * w ≡ x * w + 0 = omega arith in
    let pair : IsPairOf n (pair_at n (x * w)) = IsPairOf-at n (x * w) start in
    let inside : (lane : ℕ) → lane < w → x * w + lane < count n = λ lane l. row_inside n x lane rows is_rows in_rows l in
    let front : (lane : ℕ) → lane < w → (x * w + lane) / product_of n.seats ≡ x * w / product_of n.seats = λ lane l.
    ap (λ y. (x * w + lane) / y) (sym (env_rows_are n)) ∙ (row_div x w lane (env_rows_of n) l
    ∙ sym (ap₂ (λ y z. y / z) first (sym (env_rows_are n)) ∙ row_div x w 0 (env_rows_of n) pos)) in
    let digit : (k lane : ℕ) → k < low_of n.seats → lane < w → slice_index (pair_at n (x * w + lane)).bs k ≡ lane_state_of (row_sizes n) k x = λ k lane l h.
    part_at n (x * w + lane) k (inside lane h) (omega (arith, low_of-le n.seats))
    ∙ ap₂ (λ y z. y % z) (ap (λ y. (x * w + lane) / y) (sym (row_stride_of n k l)) ∙ row_div x w lane (stride_of (row_sizes n) k) h) (sym (row_size n k l)) in
    let state : (k : ℕ) → k < low_of n.seats → slice_index row.states k ≡ slice_index (pair_at n (x * w)).bs k = λ k l.
    at_states k l ∙ sym (ap (λ p. slice_index (pair_at n p).bs k) first ∙ digit k 0 l pos) in
    record {
      part = part;
      target_range = subst (λ y. y < n.target) (sym at_target) pair.t;
      env_range = subst (λ y. y < n.env) (sym at_env) pair.e;
      state_range = λ k l. subst (λ y. y < slice_index n.seats k) (sym (state k l)) (AreBelow-index n.seats (pair_at n (x * w)).bs k pair.bs (omega (arith, low_of-le n.seats)));
      below = inside;
      targets = λ lane l. ap (λ y. y / n.env) (front lane l) ∙ sym at_target;
      envs = λ lane l. ap (λ y. y % n.env) (front lane l) ∙ sym at_env;
      states = λ k lane l h. digit k lane l h ∙ sym (at_states k l);
      allowed = allowed;
      leading = leading;
    }
