-- Numbers of lists of states and of pairs: bounds, and the change of a number when a state is changed, added or removed.
use Rattle.roman_model.proofs.Common.{Some, slice_get, ◌≡◌, ℕ, zero, suc, ◌+◌, ◌*◌, ◌%◌, ◌<◌, List, [], ◌∷◌, ◌++◌, map, length, take, drop, slice_index, slice_set, remove, refl, sym, ap, ◌∙◌, arith, add-one, rules, ◌/◌, AllZip-long, AllZip, mul-add-lt, div-mul-add, mod-mul-add, div_below, mod_below, product_of, Seat, Sys, Pair, IsPair, Sizes, sizes_of, AreBelow, grown_sizes, sizes_without, count, states_number, states_at, number, pair_at, IsPairOf, NumbersArePairs, grown, without, number_without, AllZip-get_or, get_or_from_slice_get, div-lt_iff_lt-mul, IsSys, same_from_place}
use Rattle.roman_model.proofs.Lists.{get_map}

pub AreBelow-length : (sizes bs : List ℕ) → AreBelow sizes bs → length bs ≡ length sizes
AreBelow-length sizes bs h = AllZip-long (λ size b. b < size) sizes bs h

pub states_number_below : (sizes bs : List ℕ) → AreBelow sizes bs → states_number sizes bs < product_of sizes
states_number_below [] [] h = omega arith
states_number_below (size ∷ sizes) (b ∷ bs) h =
    let rest : states_number sizes bs < product_of sizes = states_number_below sizes bs h.1 in
    let here : b * product_of sizes + states_number sizes bs < product_of sizes * size = mul-add-lt b (product_of sizes) (states_number sizes bs) size h.0 rest in
    omega arith
states_number_below _ _ h = elim h [ ]

pub states_at-number : (sizes bs : List ℕ) → AreBelow sizes bs → states_at sizes (states_number sizes bs) ≡ bs
states_at-number [] [] h = refl
states_at-number (size ∷ sizes) (b ∷ bs) h = grind (arith, div-mul-add, mod-mul-add, states_number_below, (states_at-number sizes bs h.1))
states_at-number _ _ h = elim h [ ]

-- a factor of a product with a number below it isn't 0
factor_pos : (i a b : ℕ) → i < a * b → 0 < b
factor_pos i a zero h = omega arith
factor_pos i a (suc b) h = omega arith

-- a factor can be cancelled
pub mul_cancel : (x y w : ℕ) → 0 < w → x * w ≡ y * w → x ≡ y
mul_cancel x y w some e = (same_from_place x 0 y 0 w some some (ap (λ n. n + 0) e)).0

pub AreBelow-at : (sizes : List ℕ) (i : ℕ) → i < product_of sizes → AreBelow sizes (states_at sizes i)
AreBelow-at [] i h = tt
AreBelow-at (size ∷ sizes) i h = grind (arith, div_below, mod_below, (AreBelow-at sizes (i % product_of sizes)))

pub states_number-at : (sizes : List ℕ) (i : ℕ) → i < product_of sizes → states_number sizes (states_at sizes i) ≡ i
states_number-at [] zero h = refl
states_number-at [] (suc i) h = omega arith
states_number-at (size ∷ sizes) i h = grind (arith, mod_below, (states_number-at sizes (i % product_of sizes)))

-- Lists of states, cut in two or at a place

pub product_append : (ms ns : List ℕ) → product_of (ms ++ ns) ≡ product_of ms * product_of ns
product_append [] ns = omega arith
product_append (m ∷ ms) ns = rw (product_append ms ns) (omega arith)

states_number-append : (ms ns bs cs : List ℕ) → length bs ≡ length ms → states_number (ms ++ ns) (bs ++ cs) ≡ states_number ms bs * product_of ns + states_number ns cs
states_number-append [] ns [] cs h = omega arith
states_number-append [] ns (b ∷ bs) cs h = omega arith
states_number-append (m ∷ ms) ns [] cs h = omega arith
states_number-append (m ∷ ms) ns (b ∷ bs) cs h = rw (product_append ms ns, states_number-append ms ns bs cs (omega arith)) (omega arith)

product_split : (sizes : List ℕ) (k : ℕ) → k < length sizes → product_of sizes ≡ product_of (take k sizes) * (slice_index sizes k * product_of (drop (k + 1) sizes))
product_split (size ∷ sizes) (suc k) h = grind (arith, (product_split sizes k (omega arith)))
product_split _ _ h = omega arith

-- the number, split at place k: the part before it, the state, and the part after it
pub states_number-split : (sizes bs : List ℕ) (k : ℕ) → k < length sizes → length bs ≡ length sizes →
    states_number sizes bs
    ≡ (states_number (take k sizes) (take k bs) * slice_index sizes k + slice_index bs k) * product_of (drop (k + 1) sizes)
    + states_number (drop (k + 1) sizes) (drop (k + 1) bs)
states_number-split (size ∷ sizes) (b ∷ bs) (suc k) h l =
    let cut : product_of sizes ≡ product_of (take k sizes) * (slice_index sizes k * product_of (drop (suc k) sizes)) = rw add-one at (product_split sizes k (omega arith)) in
    let rest : states_number sizes bs
    ≡ (states_number (take k sizes) (take k bs) * slice_index sizes k + slice_index bs k) * product_of (drop (suc k) sizes)
    + states_number (drop (suc k) sizes) (drop (suc k) bs) = rw add-one at (states_number-split sizes bs k (omega arith) (omega arith)) in
    rw (add-one, cut, rest) (omega arith)
states_number-split _ _ _ h l = omega arith

-- Lists of states that are below their sizes

pub AreBelow-index : (sizes bs : List ℕ) (k : ℕ) → AreBelow sizes bs → k < length sizes → slice_index bs k < slice_index sizes k
AreBelow-index sizes bs k h l = AllZip-get_or (λ size b. b < size) sizes bs k 0 0 h l

pub AreBelow-set : (sizes bs : List ℕ) (k b : ℕ) → AreBelow sizes bs → b < slice_index sizes k → AreBelow sizes (slice_set bs k b)
AreBelow-set [] [] k b h l = h
AreBelow-set (size ∷ sizes) (x ∷ bs) zero b h l = (l, h.1)
AreBelow-set (size ∷ sizes) (x ∷ bs) (suc k) b h l = (h.0, AreBelow-set sizes bs k b h.1 l)
AreBelow-set _ _ _ _ h _ = elim h [ ]

pub AreBelow-append : (ms ns bs cs : List ℕ) → AreBelow ms bs → AreBelow ns cs → AreBelow (ms ++ ns) (bs ++ cs)
AreBelow-append [] ns [] cs h g = g
AreBelow-append (m ∷ ms) ns (b ∷ bs) cs h g = (h.0, AreBelow-append ms ns bs cs h.1 g)
AreBelow-append _ _ _ _ h _ = elim h [ ]

pub AreBelow-take : (sizes bs : List ℕ) (k : ℕ) → AreBelow sizes bs → AreBelow (take k sizes) (take k bs)
AreBelow-take sizes bs zero h = tt
AreBelow-take [] [] (suc k) h = tt
AreBelow-take [] (b ∷ bs) (suc k) h = elim h [ ]
AreBelow-take (size ∷ sizes) [] (suc k) h = elim h [ ]
AreBelow-take (size ∷ sizes) (b ∷ bs) (suc k) h = (h.0, AreBelow-take sizes bs k h.1)

pub AreBelow-drop : (sizes bs : List ℕ) (k : ℕ) → AreBelow sizes bs → AreBelow (drop k sizes) (drop k bs)
AreBelow-drop sizes bs zero h = h
AreBelow-drop [] [] (suc k) h = tt
AreBelow-drop (size ∷ sizes) (b ∷ bs) (suc k) h = AreBelow-drop sizes bs k h.1
AreBelow-drop _ _ _ h = elim h [ ]

-- The number of a changed list of states

-- the number with another state at place k
pub states_number-set : (sizes bs : List ℕ) (k b : ℕ) → k < length sizes → length bs ≡ length sizes →
    states_number sizes (slice_set bs k b) + slice_index bs k * product_of (drop (k + 1) sizes) ≡ states_number sizes bs + b * product_of (drop (k + 1) sizes)
states_number-set (size ∷ sizes) (x ∷ bs) (suc k) b h l = grind (arith, (states_number-set sizes bs k b (omega arith) (omega arith)))
states_number-set _ _ _ b h l = omega arith

-- the state at place k is a digit of the number
pub state_from_number : (sizes bs : List ℕ) (k : ℕ) → AreBelow sizes bs → k < length sizes →
    slice_index bs k ≡ states_number sizes bs / product_of (drop (k + 1) sizes) % slice_index sizes k
state_from_number sizes bs k h l = grind (arith, (AreBelow-drop sizes bs (k + 1) h), (AreBelow-index sizes bs k h l), (AreBelow-length sizes bs h), div-mul-add, (states_number-split sizes bs k l (AreBelow-length sizes bs h)), (states_number_below (drop (k + 1) sizes) (drop (k + 1) bs) (AreBelow-drop sizes bs (k + 1) h)))

pub length-states_at : (sizes : List ℕ) (i : ℕ) → length (states_at sizes i) ≡ length sizes
length-states_at [] i = refl
length-states_at (size ∷ sizes) i = ap suc (length-states_at sizes (i % product_of sizes))

-- the numbers of the states before and after place k
pub states_before : (sizes bs : List ℕ) (k : ℕ) → AreBelow sizes bs → k < length sizes →
    states_number (take k sizes) (take k bs) ≡ states_number sizes bs / product_of (drop (k + 1) sizes) / slice_index sizes k
states_before sizes bs k h l = grind (arith, (states_number_below (drop (k + 1) sizes) (drop (k + 1) bs) (AreBelow-drop sizes bs (k + 1) h)), (AreBelow-drop sizes bs (k + 1) h), (states_number-split sizes bs k l (AreBelow-length sizes bs h)), (AreBelow-length sizes bs h), div-mul-add, (AreBelow-index sizes bs k h l))

pub states_behind : (sizes bs : List ℕ) (k : ℕ) → AreBelow sizes bs → k < length sizes →
    states_number (drop (k + 1) sizes) (drop (k + 1) bs) ≡ states_number sizes bs % product_of (drop (k + 1) sizes)
states_behind sizes bs k h l = grind (arith, (AreBelow-drop sizes bs (k + 1) h), (AreBelow-length sizes bs h), mod-mul-add, (states_number-split sizes bs k l (AreBelow-length sizes bs h)), states_number_below)

-- the number without the state at place k
pub states_number-remove : (sizes bs : List ℕ) (k : ℕ) → AreBelow sizes bs → k < length sizes →
    states_number (remove sizes k) (remove bs k)
    ≡ states_number sizes bs / product_of (drop (k + 1) sizes) / slice_index sizes k * product_of (drop (k + 1) sizes)
    + states_number sizes bs % product_of (drop (k + 1) sizes)
states_number-remove sizes bs k h l =
    let cut : states_number (remove sizes k) (remove bs k) ≡ states_number (take k sizes) (take k bs) * product_of (drop (suc k) sizes) + states_number (drop (suc k) sizes) (drop (suc k) bs) =
    states_number-append (take k sizes) (drop (suc k) sizes) (take k bs) (drop (suc k) bs) (AreBelow-length (take k sizes) (take k bs) (AreBelow-take sizes bs k h)) in
    let before : states_number (take k sizes) (take k bs) ≡ states_number sizes bs / product_of (drop (suc k) sizes) / slice_index sizes k = rw add-one at (states_before sizes bs k h l) in
    let behind : states_number (drop (suc k) sizes) (drop (suc k) bs) ≡ states_number sizes bs % product_of (drop (suc k) sizes) = rw add-one at (states_behind sizes bs k h l) in
    rw (add-one, ← before, ← behind) cut

-- Pairs and their numbers

pub number_below : (n : Sizes) (p : Pair) → IsPairOf n p → number n p < count n
number_below n p ok = grind (arith, mul-add-lt, states_number_below)

-- the parts of the number: the target's state, the environment's state, and the list of states
pub parts_of_number : (n : Sizes) (p : Pair) → IsPairOf n p →
    (number n p / product_of n.seats / n.env ≡ p.t) × (number n p / product_of n.seats % n.env ≡ p.e) × (number n p % product_of n.seats ≡ states_number n.seats p.bs)
parts_of_number n p ok = grind (arith, div-mul-add, mod-mul-add, states_number_below)

pub pair_at-number : (n : Sizes) (p : Pair) → IsPairOf n p → pair_at n (number n p) ≡ p
pair_at-number n p ok = grind (arith, parts_of_number, states_at-number)

pub IsPairOf-at : (n : Sizes) (i : ℕ) → i < count n → IsPairOf n (pair_at n i)
IsPairOf-at n i h = grind (arith, AreBelow-at, div_below, factor_pos, mod_below)

pub number-pair_at : (n : Sizes) (i : ℕ) → i < count n → number n (pair_at n i) ≡ i
number-pair_at n i h = grind (arith, factor_pos, mod_below, states_number-at)

-- the number of a pair is the number of one list of states
number-list : (n : Sizes) (p : Pair) → number n p ≡ states_number (n.target ∷ n.env ∷ n.seats) (p.t ∷ p.e ∷ p.bs)
number-list n p = omega arith

AreBelow-list : (n : Sizes) (p : Pair) → IsPairOf n p → AreBelow (n.target ∷ n.env ∷ n.seats) (p.t ∷ p.e ∷ p.bs)
AreBelow-list n p ok = (ok.t, (ok.e, ok.bs))

-- each state of the pair is a digit of its number
pub part_from_number : (n : Sizes) (p : Pair) (k : ℕ) → IsPairOf n p → k < length n.seats →
    slice_index p.bs k ≡ number n p / product_of (drop (k + 1) n.seats) % slice_index n.seats k
part_from_number n p k ok h =
    let list : slice_index p.bs k ≡ states_number (n.target ∷ n.env ∷ n.seats) (p.t ∷ p.e ∷ p.bs) / product_of (drop (suc k) n.seats) % slice_index n.seats k =
    rw add-one at (state_from_number (n.target ∷ n.env ∷ n.seats) (p.t ∷ p.e ∷ p.bs) (suc (suc k)) (AreBelow-list n p ok) (omega arith)) in
    rw (add-one, number-list n p) list

pub part_at : (n : Sizes) (i k : ℕ) → i < count n → k < length n.seats →
    slice_index (states_at n.seats (i % product_of n.seats)) k ≡ i / product_of (drop (k + 1) n.seats) % slice_index n.seats k
part_at n i k h l = part_from_number n (pair_at n i) k (IsPairOf-at n i h) l ∙ ap (λ x. x / product_of (drop (k + 1) n.seats) % slice_index n.seats k) (number-pair_at n i h)

-- the number of a pair with another state of seat k
pub number-set : (n : Sizes) (p : Pair) (k b : ℕ) → k < length n.seats → length p.bs ≡ length n.seats →
    number n (record { t = p.t; e = p.e; bs = slice_set p.bs k b }) + slice_index p.bs k * product_of (drop (k + 1) n.seats)
    ≡ number n p + b * product_of (drop (k + 1) n.seats)
number-set n p k b h l = grind (arith, states_number-set)

pub IsPairOf-moved : (n : Sizes) (p : Pair) (t e k b : ℕ) → IsPairOf n p → t < n.target → e < n.env → b < slice_index n.seats k → IsPairOf n (record { t = t; e = e; bs = slice_set p.bs k b })
IsPairOf-moved n p t e k b ok x y z = record { t = x; e = y; bs = AreBelow-set n.seats p.bs k b ok.bs z }

-- Pairs with one more state or one less

pub IsPairOf-grown : (n : Sizes) (p : Pair) (size b : ℕ) → IsPairOf n p → b < size → IsPairOf (grown_sizes n size) (grown p b)
IsPairOf-grown n p size b ok h = record { t = ok.t; e = ok.e; bs = AreBelow-append n.seats (size ∷ []) p.bs (b ∷ []) ok.bs (h, tt) }

pub count-grown : (n : Sizes) (size : ℕ) → count (grown_sizes n size) ≡ count n * size
count-grown n size = rw (product_append n.seats (size ∷ [])) (omega arith)

pub number-grown : (n : Sizes) (p : Pair) (size b : ℕ) → IsPairOf n p → number (grown_sizes n size) (grown p b) ≡ number n p * size + b
number-grown n p size b ok = grind (arith, AreBelow-length, product_append, states_number-append)

pub pair_at-grown : (n : Sizes) (size i b : ℕ) → i < count n → b < size → pair_at (grown_sizes n size) (i * size + b) ≡ grown (pair_at n i) b
pair_at-grown n size i b h l =
    let ok : IsPairOf n (pair_at n i) = IsPairOf-at n i h in
    let is : number (grown_sizes n size) (grown (pair_at n i) b) ≡ i * size + b = number-grown n (pair_at n i) size b ok ∙ ap (λ x. x * size + b) (number-pair_at n i h) in
    ap (pair_at (grown_sizes n size)) (sym is) ∙ pair_at-number (grown_sizes n size) (grown (pair_at n i) b) (IsPairOf-grown n (pair_at n i) size b ok l)

pub IsPairOf-without : (n : Sizes) (p : Pair) (k : ℕ) → IsPairOf n p → IsPairOf (sizes_without k n) (without k p)
IsPairOf-without n p k ok = grind (arith, AreBelow-append, AreBelow-drop, AreBelow-take)

pub number-without : (n : Sizes) (p : Pair) (k : ℕ) → IsPairOf n p → k < length n.seats →
    number (sizes_without k n) (without k p)
    ≡ number n p / product_of (drop (k + 1) n.seats) / slice_index n.seats k * product_of (drop (k + 1) n.seats) + number n p % product_of (drop (k + 1) n.seats)
number-without n p k ok h =
    let list : states_number (n.target ∷ n.env ∷ remove n.seats k) (p.t ∷ p.e ∷ remove p.bs k)
    ≡ states_number (n.target ∷ n.env ∷ n.seats) (p.t ∷ p.e ∷ p.bs) / product_of (drop (suc k) n.seats) / slice_index n.seats k * product_of (drop (suc k) n.seats)
    + states_number (n.target ∷ n.env ∷ n.seats) (p.t ∷ p.e ∷ p.bs) % product_of (drop (suc k) n.seats) =
    rw add-one at (states_number-remove (n.target ∷ n.env ∷ n.seats) (p.t ∷ p.e ∷ p.bs) (suc (suc k)) (AreBelow-list n p ok) (omega arith)) in
    rw (add-one, number-list n p) (number-list (sizes_without k n) (without k p) ∙ list)

pub number_without-is : (n : Sizes) (i k : ℕ) → i < count n → k < length n.seats → number (sizes_without k n) (without k (pair_at n i)) ≡ number_without k n i
number_without-is n i k h l = number-without n (pair_at n i) k (IsPairOf-at n i h) l ∙ ap (number_without k n) (number-pair_at n i h)

pub pair_at-without : (n : Sizes) (i k : ℕ) → i < count n → k < length n.seats → pair_at (sizes_without k n) (number_without k n i) ≡ without k (pair_at n i)
pair_at-without n i k h l = grind (arith, (number_without-is n i k h l), (pair_at-number (sizes_without k n) (without k (pair_at n i)) (IsPairOf-without n (pair_at n i) k (IsPairOf-at n i h))))

pub count-without : (n : Sizes) (k : ℕ) → k < length n.seats → count n ≡ count (sizes_without k n) * slice_index n.seats k
count-without n k h =
    let cut : product_of n.seats ≡ product_of (take k n.seats) * (slice_index n.seats k * product_of (drop (suc k) n.seats)) = rw add-one at (product_split n.seats k h) in
    rw (cut, product_append (take k n.seats) (drop (suc k) n.seats)) (omega arith)

-- Pairs of a system

pub states_below : (seats : List Seat) (bs : List ℕ) → AllZip (λ seat b. b < seat.beh.states) seats bs → AreBelow (map (λ seat. seat.beh.states) seats) bs
states_below [] [] h = tt
states_below (seat ∷ seats) (b ∷ bs) h = (h.0, states_below seats bs h.1)
states_below _ _ h = elim h [ ]

pub below_states : (seats : List Seat) (bs : List ℕ) → AreBelow (map (λ seat. seat.beh.states) seats) bs → AllZip (λ seat b. b < seat.beh.states) seats bs
below_states [] [] h = tt
below_states (seat ∷ seats) (b ∷ bs) h = (h.0, below_states seats bs h.1)
below_states _ _ h = elim h [ ]

pub size_at : (seats : List Seat) (k : ℕ) (seat : Seat) → slice_get seats k ≡ Some seat → slice_index (map (λ seat. seat.beh.states) seats) k ≡ seat.beh.states
size_at seats k seat e = grind (arith, get_or_from_slice_get, (get_map (λ x. x.beh.states) seats k seat e))

pub IsPairOf-from : (s : Sys) (p : Pair) → IsPair s p → IsPairOf (sizes_of s) p
IsPairOf-from s p ok = record { t = ok.t; e = ok.e; bs = states_below s.seats p.bs ok.bs }

-- the number of a pair of the system is below their count
pub pair_number : (s : Sys) (i : ℕ) → IsSys s → IsPair s (pair_at (sizes_of s) i) → i < count (sizes_of s)
pair_number s i sys pair =
    let seats : 0 < product_of (sizes_of s).seats = factor_pos _ (s.target.states * s.env.states) _ (number_below (sizes_of s) _ (IsPairOf-from s _ pair)) in
    (div-lt_iff_lt-mul seats).0 ((div-lt_iff_lt-mul sys.env.states.0).0 pair.t)

pub IsPair-from : (s : Sys) (p : Pair) → IsPairOf (sizes_of s) p → IsPair s p
IsPair-from s p ok = record { t = ok.t; e = ok.e; bs = below_states s.seats p.bs ok.bs }

pub numbers_are_pairs : (s : Sys) → NumbersArePairs s
numbers_are_pairs s = search (rules, IsPair-from, IsPairOf-at, IsPairOf-from, number-pair_at, number_below, pair_at-number)
