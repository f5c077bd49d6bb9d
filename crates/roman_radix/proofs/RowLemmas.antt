-- Rows and lanes.
use Rattle.roman_radix.proofs.Common.{◌≡◌, ℕ, zero, suc, ◌+◌, ◌*◌, ◌/◌, ◌%◌, ◌<◌, ◌≤◌, List, [], ◌∷◌, length, take, drop, slice_index, sym, ap, ◌∙◌, arith, cond, mul-le-mul, div-div-eq-div-mul, get_or-take, length-take-le, product_of, Sizes, count, AreSizes, IsSizes, env_stride_of, stride_of, low_of, lanes_of, row_sizes, env_rows_of, div-mul-add, div-add-mod', mul-le, cases_lt, lt-ltb, le-ltb}
use Rattle.roman_radix.proofs.Strides.{product_positive, AreSizes-drop}

pub low_of-le : (ns : List ℕ) → low_of ns ≤ length ns
low_of-le [] = omega arith
low_of-le (n ∷ ns) = grind (arith, cases_lt, le-ltb, lt-ltb, (low_of-le ns))

pub lanes_few : (ns : List ℕ) → lanes_of ns ≤ 64
lanes_few [] = omega arith
lanes_few (n ∷ ns) = grind (arith, cases_lt, le-ltb, lt-ltb, (lanes_few ns))

pub lanes_positive : (ns : List ℕ) → AreSizes ns → 0 < lanes_of ns
lanes_positive ns h = product_positive (drop (low_of ns) ns) (AreSizes-drop (low_of ns) ns h)

-- the lanes begin at the first component from which on the product of the sizes is at most 64
pub low_is : (ns : List ℕ) (k : ℕ) → AreSizes ns → product_of (drop k ns) ≤ 64 → ((j : ℕ) → j < k → 64 < product_of (drop j ns)) → k ≤ length ns → low_of ns ≡ k
low_is [] k h few more within = omega arith
low_is (n ∷ ns) zero h few more within = ap (λ b. cond b (suc (low_of ns)) 0) (le-ltb 64 (product_of (n ∷ ns)) few)
low_is (n ∷ ns) (suc k) h few more within = grind (arith, (lt-ltb 64 (product_of (n ∷ ns)) (more 0 (omega arith))), (low_is ns k h.2 few (λ j l. more (suc j) (omega arith)) (omega arith)))

pub AreSizes-take : (k : ℕ) (ns : List ℕ) → AreSizes ns → AreSizes (take k ns)
AreSizes-take zero ns h = tt
AreSizes-take (suc k) [] h = tt
AreSizes-take (suc k) (n ∷ ns) h = (h.0, h.1, AreSizes-take k ns h.2)

pub product_split : (ns : List ℕ) (j : ℕ) → product_of (take j ns) * product_of (drop j ns) ≡ product_of ns
product_split ns zero = omega arith
product_split [] (suc j) = omega arith
product_split (n ∷ ns) (suc j) = grind (arith, (product_split ns j))

-- the product from place j on is split at place k
pub product_middle : (ns : List ℕ) (j k : ℕ) → j ≤ k → product_of (drop j (take k ns)) * product_of (drop k ns) ≡ product_of (drop j ns)
product_middle ns zero k l = product_split ns k
product_middle [] (suc j) zero l = absurd (omega arith)
product_middle [] (suc j) (suc k) l = omega arith
product_middle (n ∷ ns) (suc j) zero l = absurd (omega arith)
product_middle (n ∷ ns) (suc j) (suc k) l = product_middle ns j k (omega arith)

-- the product from a later place on is at most that from an earlier one
pub product_drop-le : (ns : List ℕ) (j k : ℕ) → AreSizes ns → j ≤ k → product_of (drop k ns) ≤ product_of (drop j ns)
product_drop-le ns j k h l = grind (arith, mul-le-mul, (product_middle ns j k l), (product_positive (drop j (take k ns)) (AreSizes-drop j (take k ns) (AreSizes-take k ns h))))

-- the product of the last numbers divides that of all
pub tails_from : (ns : List ℕ) (i j : ℕ) → i ≤ j → (m : ℕ) × (product_of (drop i ns) ≡ m * product_of (drop j ns))
tails_from ns i j l = (product_of (drop i (take j ns)), sym (product_middle ns i j l))

-- the rows for a state of the environment, times the lanes, are the environment's stride
pub env_rows_are : (n : Sizes) → env_rows_of n * lanes_of n.seats ≡ env_stride_of n
env_rows_are n = product_split n.seats (low_of n.seats)

-- division by a factor leaves no remainder
pub exact : (a m w : ℕ) → 0 < w → a ≡ m * w → a / w * w ≡ a
exact a m w pos is = grind (arith, div-mul-add)

-- a pair divided by a number of rows is its row divided by that number
pub row_div : (row w lane r : ℕ) → lane < w → (row * w + lane) / (r * w) ≡ row / r
row_div row w lane r h =
    let turned : r * w ≡ w * r = omega arith in
    ap (λ x. (row * w + lane) / x) turned ∙ (sym (div-div-eq-div-mul (row * w + lane) w r) ∙ ap (λ x. x / r) (div-mul-add row w lane h))

pub row_mod : (row w lane r : ℕ) → lane < w → (row * w + lane) % (r * w) ≡ row % r * w + lane
row_mod row w lane r h =
    let whole = div-add-mod' (row * w + lane) (r * w) in
    let front = ap (λ x. x * (r * w)) (row_div row w lane r h) in
    let rows : (row / r * r + row % r) * w ≡ row * w = ap (λ x. x * w) (div-add-mod' row r) in
    omega arith

-- if a pair isn't before a row, neither is its own row
pub row_least : (x y w lane : ℕ) → lane < w → x * w ≤ y * w + lane → x ≤ y
row_least x y w lane h l = grind (arith, cases_lt, mul-le)

pub row_below : (row w lane rows : ℕ) → row * w + lane < rows * w → row < rows
row_below row w lane rows l = grind (arith, cases_lt, mul-le)

-- the number of pairs is a multiple of the lanes
pub rows_are : (n : Sizes) → IsSizes n → count n / lanes_of n.seats * lanes_of n.seats ≡ count n
rows_are n h =
    let (m, e) = tails_from n.seats 0 (low_of n.seats) (omega arith) in
    let whole : count n ≡ n.target * n.env * m * lanes_of n.seats = ap (λ x. n.target * n.env * x) e ∙ omega arith in
    exact (count n) (n.target * n.env * m) (lanes_of n.seats) (lanes_positive n.seats h.seats) whole

-- Rows are numbered like pairs of the sizes before the lanes.

-- the number of pairs of the sizes before the lanes is the number of rows
pub count_rows : (n : Sizes) → count (row_sizes n) * lanes_of n.seats ≡ count n
count_rows n = grind (arith, product_split)

pub length_rows : (n : Sizes) → length (row_sizes n).seats ≡ low_of n.seats
length_rows n = length-take-le (low_of n.seats) n.seats (low_of-le n.seats)

pub row_size : (n : Sizes) (k : ℕ) → k < low_of n.seats → slice_index (row_sizes n).seats k ≡ slice_index n.seats k
row_size n k l = get_or-take (low_of n.seats) n.seats k 0 l

-- how much a row's number grows if the state of a component grows by 1
pub row_stride_of : (n : Sizes) (k : ℕ) → k < low_of n.seats → stride_of (row_sizes n) k * lanes_of n.seats ≡ stride_of n k
row_stride_of n k l = product_middle n.seats (k + 1) (low_of n.seats) (omega arith)

pub IsSizes-rows : (n : Sizes) → IsSizes n → IsSizes (row_sizes n)
IsSizes-rows n h =
    let pos : 0 < lanes_of n.seats = lanes_positive n.seats h.seats in
    let less : count (row_sizes n) * 1 ≤ count (row_sizes n) * lanes_of n.seats = mul-le (count (row_sizes n)) 1 (count (row_sizes n)) (lanes_of n.seats) (omega arith) (omega arith) in
    record {
      target = h.target;
      env = h.env;
      seats = AreSizes-take (low_of n.seats) n.seats h.seats;
      few = omega (arith, length_rows n, low_of-le n.seats, h.few);
      counted = omega (arith, less, count_rows n, h.counted);
    }
