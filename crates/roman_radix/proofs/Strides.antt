-- Products of sizes, and the table of strides.
use Rattle.roman_radix.proofs.Common.{cases_lt, ext_get_or, length-append, drop_all, drop_more, get_or_append_left, length-replicate, length-take, get_or-append_right, get_or-replicate, get_or_past, ◌≡◌, ℕ, zero, suc, ◌+◌, ◌-◌, ◌*◌, ◌^◌, ◌<◌, ◌≤◌, List, [], ◌∷◌, length, take, drop, get_or, replicate, refl, sym, ap, ◌∙◌, arith, add-one, mul-le-mul_left, mul-pos, product_of, MAX_SERVICES, AreSizes, padded, strides_of, All, AllByRecursion, recursion_from_All, All-drop}

-- a product of positive numbers is positive
pub product_positive : (ns : List ℕ) → AreSizes ns → 0 < product_of ns
product_positive [] h = omega arith
product_positive (n ∷ ns) h = mul-pos h.0 (product_positive ns h.2)

pub AreSizes-drop : (k : ℕ) (ns : List ℕ) → AreSizes ns → AreSizes (drop k ns)
AreSizes-drop zero ns h = h
AreSizes-drop (suc k) [] h = h
AreSizes-drop (suc k) (n ∷ ns) h = AreSizes-drop k ns h.2

pub AreSizes-index : (ns : List ℕ) (k : ℕ) → AreSizes ns → k < length ns → (0 < get_or ns k 0) × (get_or ns k 0 < 2 ^ 8)
AreSizes-index [] k h l = absurd (omega arith)
AreSizes-index (n ∷ ns) zero h l = (h.0, h.1)
AreSizes-index (n ∷ ns) (suc k) h l = AreSizes-index ns k h.2 (omega arith)

pub length-strides_of : (ns : List ℕ) → length (strides_of ns) ≡ length ns
length-strides_of [] = refl
length-strides_of (n ∷ ns) = ap suc (length-strides_of ns)

pub strides_of-index : (ns : List ℕ) (k : ℕ) → k < length ns → get_or (strides_of ns) k 0 ≡ product_of (drop (k + 1) ns)
strides_of-index [] k h = omega arith
strides_of-index (n ∷ ns) zero h = refl
strides_of-index (n ∷ ns) (suc k) h = rw add-one (rw add-one at (strides_of-index ns k (omega arith)))

-- the number at each place of a padded table, also past its end
pub padded-index : (ns : List ℕ) (k : ℕ) → get_or (padded ns) k 0 ≡ get_or ns k 0
padded-index ns k = grind (arith, cases_lt, get_or_append_left, get_or-append_right, get_or-replicate, get_or_past, length-append, length-replicate)

pub length-padded : (ns : List ℕ) → length ns ≤ MAX_SERVICES → length (padded ns) ≡ MAX_SERVICES
length-padded ns h = length-append ns (replicate (MAX_SERVICES - length ns) zero) ∙ (rw length-replicate (omega arith))

-- a table with these numbers at its places, and zeros at the others
pub padded_from : (table ns : List ℕ) → length table ≡ MAX_SERVICES → length ns ≤ MAX_SERVICES → ((k : ℕ) → get_or table k 0 ≡ get_or ns k 0) → table ≡ padded ns
padded_from table ns long few same = ext_get_or 0 table (padded ns) (long ∙ sym (length-padded ns few)) (λ k l. same k ∙ sym (padded-index ns k))

pub stride_at : (ns strides : List ℕ) (k : ℕ) → strides ≡ padded (strides_of ns) → k < length ns → get_or strides k 0 ≡ product_of (drop (k + 1) ns)
stride_at ns strides k e h = grind (arith, padded-index, strides_of-index)

pub size_at : (ns sizes : List ℕ) (k : ℕ) → sizes ≡ padded ns → get_or sizes k 0 ≡ get_or ns k 0
size_at ns sizes k e = ap (λ xs. get_or xs k 0) e ∙ padded-index ns k

-- the first c numbers of a padded table are c numbers
pub length_first : (c : ℕ) (table : List ℕ) → table ≡ padded (take c table) → c ≤ MAX_SERVICES → length (take c table) ≡ c
length_first c table e h = grind (arith, length-padded, length-take)

-- the product from an earlier place on has one more factor
pub product_more : (ns : List ℕ) (j k stride size : ℕ) → k ≡ j + 1 → j < length ns → size ≡ get_or ns j 0 → stride ≡ product_of (drop k ns) → stride * size ≡ product_of (drop j ns)
product_more ns j k stride size here in_range is product =
    let next : product_of (drop j ns) ≡ get_or ns j 0 * product_of (drop k ns) = ap product_of (drop_more ns j 0 in_range ∙ ap (λ n. get_or ns j 0 ∷ drop n ns) (sym here)) in
    rw (is, product, next) (omega arith)

-- each number of a table of zeros is 0
pub zero_at : (n : ℕ) (zeros : List ℕ) (i : ℕ) → zeros ≡ replicate n zero → get_or zeros i 0 ≡ 0
zero_at n zeros i e = grind (arith, cases_lt, get_or-replicate, get_or_past, length-replicate)

-- a table that is filled in at each place is the table of strides
pub strides_all : (ns strides : List ℕ) → length strides ≡ MAX_SERVICES → length ns ≤ MAX_SERVICES → ((i : ℕ) → i < length ns → get_or strides i 0 ≡ product_of (drop (i + 1) ns)) → ((i : ℕ) → length ns ≤ i → get_or strides i 0 ≡ 0) →
    strides ≡ padded (strides_of ns)
strides_all ns strides long few table rest =
    padded_from strides (strides_of ns) long (omega (arith, length-strides_of ns)) (λ i. grind (arith, cases_lt, strides_of-index, get_or_past, length-strides_of, (table i), (rest i)))

pub product_none : (c : ℕ) (table : List ℕ) → 1 ≡ product_of (drop c (take c table))
product_none c table = grind (arith, drop_all, length-take)

positive_by_recursion : (ns : List ℕ) → AllByRecursion (λ n. 0 < n) ns → 0 < product_of ns
positive_by_recursion [] h = omega arith
positive_by_recursion (n ∷ ns) h = mul-pos h.0 (positive_by_recursion ns h.1)

pub positive_rest : (k : ℕ) (ns : List ℕ) → All (λ n. 0 < n) ns → 0 < product_of (drop k ns)
positive_rest k ns h = positive_by_recursion (drop k ns) (recursion_from_All (λ n. 0 < n) (drop k ns) (All-drop (λ n. 0 < n) k ns h))

-- if the product so far exceeds the cap, the whole product does
pub too_many : (pairs rest whole cap : ℕ) → 0 < rest → pairs * rest ≡ whole → cap < pairs → whole ≤ cap → ⊥
too_many pairs rest whole cap positive product more fits = grind (arith, mul-le-mul_left)
