-- How a pair's number changes with its states.
use Rattle.roman_radix.proofs.Common.{◌^◌, ◌≡◌, ℕ, ◌+◌, ◌-◌, ◌*◌, ◌/◌, ◌%◌, ◌<◌, ◌≤◌, List, length, drop, slice_index, sym, ap, ◌∙◌, arith, drop_more, drop_all, product_of, Sizes, grown_sizes, sizes_without, count, states_number, number, pair_at, IsPairOf, IsSizes, stride_of, moved, with_part, MAX_SERVICES, Pair, grown, without, parts_of_number, number-pair_at, IsPairOf-at, number-set, IsPairOf-moved, IsPairOf-grown, number-grown, IsPairOf-without, number_without-is, AreBelow-length, number_below}

-- component k gets another state; the numbers in the code are equal to those of the sizes
pub record Replaced (n : Sizes) (p k b part state stride : ℕ) : Type 0 where
  pub taken : part * stride ≤ p
  pub number : p - part * stride + state * stride ≡ number n (with_part (pair_at n p) k b)
  pub below : p - part * stride + state * stride < count n

-- the amount that the state of component k contributes to a pair's number
pub taken : (n : Sizes) (p k : ℕ) → p < count n → k < length n.seats → slice_index (pair_at n p).bs k * stride_of n k ≤ p
taken n p k in_range component = omega (arith, number-set n (pair_at n p) k 0 component (AreBelow-length n.seats (pair_at n p).bs (IsPairOf-at n p in_range).bs), number-pair_at n p in_range)

pub replaced_by : (n : Sizes) (p k b : ℕ) → p < count n → k < length n.seats → b < slice_index n.seats k → Replaced n p k b (slice_index (pair_at n p).bs k) b (stride_of n k)
replaced_by n p k b in_range component state =
    let q : Pair = pair_at n p in
    let ok : IsPairOf n q = IsPairOf-at n p in_range in
    let below = number_below n (with_part q k b) (IsPairOf-moved n q q.t q.e k b ok ok.t ok.e state) in
    grind (arith, (number-set n q k b component), (number-pair_at n p in_range), (taken n p k in_range component), (AreBelow-length n.seats q.bs ok.bs))

pub replaced : (n : Sizes) (p k b part state stride : ℕ) → p < count n → k < length n.seats → b < slice_index n.seats k →
    part ≡ slice_index (pair_at n p).bs k → state ≡ b → stride ≡ stride_of n k → Replaced n p k b part state stride
replaced n p k b part state stride in_range component within is_part is_state is_stride = grind (arith, (replaced_by n p k b in_range component within))

-- the target, the environment and component k get other states
pub moves_by : (n : Sizes) (p t e k b : ℕ) → p < count n → t < n.target → e < n.env → k < length n.seats → b < slice_index n.seats k →
    (number n (moved (pair_at n p) t e k b) ≡ (t * n.env + e) * product_of n.seats + number n (with_part (pair_at n p) k b) % product_of n.seats)
    × (number n (moved (pair_at n p) t e k b) < count n)
moves_by n p t e k b in_range target env component state =
    let q : Pair = pair_at n p in
    let ok : IsPairOf n q = IsPairOf-at n p in_range in
    let parts = parts_of_number n (with_part q k b) (IsPairOf-moved n q q.t q.e k b ok ok.t ok.e state) in
    (ap (λ x. (t * n.env + e) * product_of n.seats + x) (sym parts.2), number_below n (moved q t e k b) (IsPairOf-moved n q t e k b ok target env state))

-- a component is added at the end
pub grows_by : (n : Sizes) (p size b : ℕ) → p < count n → b < size →
    (number (grown_sizes n size) (grown (pair_at n p) b) ≡ p * size + b) × (number (grown_sizes n size) (grown (pair_at n p) b) < count (grown_sizes n size))
grows_by n p size b in_range state =
    let ok : IsPairOf n (pair_at n p) = IsPairOf-at n p in_range in
    (number-grown n (pair_at n p) size b ok ∙ ap (λ x. x * size + b) (number-pair_at n p in_range), number_below (grown_sizes n size) (grown (pair_at n p) b) (IsPairOf-grown n (pair_at n p) size b ok state))

-- component k is dropped
pub shrinks : (n : Sizes) (p k : ℕ) → p < count n → k < length n.seats →
    (number (sizes_without k n) (without k (pair_at n p)) ≡ p / stride_of n k / slice_index n.seats k * stride_of n k + p % stride_of n k)
    × (number (sizes_without k n) (without k (pair_at n p)) < count (sizes_without k n))
shrinks n p k in_range component =
    (number_without-is n p k in_range component, number_below (sizes_without k n) (without k (pair_at n p)) (IsPairOf-without n (pair_at n p) k (IsPairOf-at n p in_range)))

-- a pair has one state for each component, and its number has 32 bits
pub number_few : (n : Sizes) (q : Pair) → IsSizes n → IsPairOf n q → (number n q < count n) × (number n q < 2 ^ 32) × (length q.bs ≡ length n.seats) × (length n.seats ≤ MAX_SERVICES)
number_few n q sizes pair = grind (arith, (AreBelow-length n.seats q.bs pair.bs), (number_below n q pair))

-- the number of the states from component k on
pub states_more : (sizes bs : List ℕ) (k : ℕ) → k < length sizes → k < length bs →
    states_number (drop k sizes) (drop k bs) ≡ slice_index bs k * product_of (drop (k + 1) sizes) + states_number (drop (k + 1) sizes) (drop (k + 1) bs)
states_more sizes bs k size state = grind (arith, (drop_more sizes k 0 size), (drop_more bs k 0 state))

-- if no state is left, the number is 0
pub states_end : (sizes bs : List ℕ) (k : ℕ) → length sizes ≤ k → states_number (drop k sizes) (drop k bs) ≡ 0
states_end sizes bs k past = grind (arith, drop_all)
