-- The candidates for a system that a service has joined.
use Rattle.roman_repair.proofs.Common.{map_same_in, product_append, from_map, in_append_right, length-below, map-map, NumbersReplay, from_below, pair_at-grown, sizes-joined, from_flat_map, HasNoRepeats-map, HasNoRepeats-flat_map, HasNoRepeats-below, flat_map_same, map-flat_map, ◌≡◌, ℕ, ◌+◌, ◌*◌, ◌%◌, ◌<◌, ◌≤◌, List, [], ◌∷◌, ◌++◌, map, flat_map, drop, cond, zero, suc, IsTrue, inl, inr, refl, sym, ap, ◌∙◌, subst, arith, mul-le-mul_left, cases_lt, lt-ltb, le-ltb, same_from_place, mod_below, IsIn, HasNoRepeats, below, product_of, Sys, Seat, IsSys, Entry, Join, after, CanChange, Sizes, sizes_of, count, pair_at, numbered, Reason, Final, Act, grown_numbers, AreSizes, low_of, lanes_of, row_mod, lanes_few, lanes_in, NamedSys, system_of, IsNamedSys, nodes_of, as_entry, set_lanes, entries_in, is_possible, AreCandidates, AreSlices, length_push, flat_map-map, is_allowed}
use Rattle.roman_repair.proofs.Keeping.{grown_number}

-- if the new system is well formed, the service could join the old one
pub joined_can : (joint : NamedSys) (s : Sys) (seat : Seat) → IsNamedSys joint → system_of joint ≡ after (Join seat) s → CanChange (Join seat) s
joined_can joint s seat known system =
    let sys : IsSys (after (Join seat) s) = subst IsSys system known.system in
    (sys.seats seat (in_append_right seat s.seats (seat ∷ []) (inl refl)), omega (arith, sys.few, length_push s.seats seat))

-- a grown pair allows the actions of its old pair
pub possible-joined : (s : Sys) (seat : Seat) (p b : ℕ) (reason : Reason) → p < count (sizes_of s) → b < seat.beh.states →
    is_possible (numbered (after (Join seat) s)) (p * seat.beh.states + b) reason ≡ is_possible (numbered s) p reason
possible-joined s seat p b Final l m = refl
possible-joined s seat p b (Act a) l m =
    ap (λ n. is_allowed (after (Join seat) s) (pair_at n (p * seat.beh.states + b)) a) (sizes-joined s seat)
    ∙ ap (λ q. is_allowed (after (Join seat) s) q a) (pair_at-grown (sizes_of s) seat.beh.states p b l m)

-- the nodes of the candidates
grown_nodes : (states : ℕ) (L : List (Entry ℕ)) → nodes_of (flat_map (grown_numbers states) L) ≡ flat_map (λ p. map (λ b. p * states + b) (below states)) (nodes_of L)
grown_nodes states L = grind (arith, flat_map-map, flat_map_same, grown_number, map-flat_map, map-map)

grown_once : (states : ℕ) (L : List (Entry ℕ)) → HasNoRepeats (nodes_of L) → HasNoRepeats (nodes_of (flat_map (grown_numbers states) L))
grown_once states L once =
    subst HasNoRepeats (sym (grown_nodes states L)) (HasNoRepeats-flat_map (λ p. map (λ b. p * states + b) (below states)) (nodes_of L)
    (λ p i. HasNoRepeats-map (λ b. p * states + b) (below states) (λ b c j k e. omega arith) (HasNoRepeats-below states)) (λ p q r i j k l.
    let (b, m, e) = from_map (λ b. p * states + b) r (below states) k in
    let (c, n, f) = from_map (λ b. q * states + b) r (below states) l in
    (same_from_place p b q c states (from_below states b m) (from_below states c n) (sym e ∙ f)).0) once)

pub joined_candidates : (s : Sys) (seat : Seat) (L : List (Entry ℕ)) → AreCandidates (numbered s) [] L → NumbersReplay (Join seat) s L →
    AreCandidates (numbered (after (Join seat) s)) [] (flat_map (grown_numbers seat.beh.states) L)
joined_candidates s seat L are replays = record {
  once = grown_once seat.beh.states L are.once;
  new = λ x i. refl;
  nodes = λ x i. subst (λ n. x.node < n) (sym (length-below (count (sizes_of (after (Join seat) s))))) (replays.numbers x i);
  possible = λ x i. possible x i;
}
  where
    possible : (x : Entry ℕ) → IsIn x (flat_map (grown_numbers seat.beh.states) L) → IsTrue (is_possible (numbered (after (Join seat) s)) x.node x.reason)
    possible x i =
        let (y, j, k) = from_flat_map (grown_numbers seat.beh.states) x L i in
        let (b, l, e) = from_map (grown_number seat.beh.states y) x (below seat.beh.states) k in
        grind (arith, e, (are.nodes y j), (are.possible y j), (from_below seat.beh.states b l), (length-below (count (sizes_of s))), (possible-joined s seat y.node b y.reason))

-- ---- the rows of the grown pairs

-- a row, if the states of all components fit into it
pub whole_row : (ns : List ℕ) → product_of ns ≤ 64 → (low_of ns ≡ 0) × (lanes_of ns ≡ product_of ns)
whole_row [] few = (refl, refl)
whole_row (n ∷ ns) few = grind (arith, le-ltb)

-- a row, if the states of the first component don't fit into it
pub shorter_row : (n : ℕ) (ns : List ℕ) → 64 < product_of (n ∷ ns) → (low_of (n ∷ ns) ≡ suc (low_of ns)) × (lanes_of (n ∷ ns) ≡ lanes_of ns)
shorter_row n ns more = grind (arith, lt-ltb)

pub few_behind : (n : ℕ) (ns : List ℕ) → 0 < n → product_of (n ∷ ns) ≤ 64 → product_of ns ≤ 64
few_behind n ns some few = let less : product_of ns * 1 ≤ product_of ns * n = mul-le-mul_left (product_of ns) some in omega (arith, less, few)

-- a number that divides the lanes of a row divides the lanes of one with a component more in front
pub group_of_more : (n : ℕ) (ns : List ℕ) (w : ℕ) → 0 < n → (c : ℕ) × (lanes_of ns ≡ c * w) → (c : ℕ) × (lanes_of (n ∷ ns) ≡ c * w)
group_of_more n ns w some (c, is) = elim (cases_lt 64 (product_of (n ∷ ns))) [
  | inl more ↦ (c, (shorter_row n ns more).1 ∙ is)
  | inr few ↦
      let those : n * product_of ns ≡ n * (c * w) = ap (λ m. n * m) (sym (whole_row ns (few_behind n ns some few)).1 ∙ is) in
      (n * c, (whole_row (n ∷ ns) few).1 ∙ those ∙ omega arith)
]

-- with a last seat of n states, a row consists of m slices of n lanes; without it, a row consists of d groups of m lanes
lanes_last : (ns : List ℕ) (n : ℕ) → AreSizes ns → 0 < n → n ≤ 64 → (m : ℕ) × (lanes_of (ns ++ n ∷ []) ≡ m * n) × (d : ℕ) × (lanes_of ns ≡ d * m)
lanes_last [] n h some few = (1, ap (λ b. product_of (drop (cond b 1 0) (n ∷ []))) (le-ltb 64 (n * 1) (omega arith)) ∙ omega arith, 1, omega arith)
lanes_last (x ∷ ns) n h some few = elim (cases_lt 64 (product_of (x ∷ (ns ++ n ∷ [])))) [
  | inl more ↦
      let (m, is, d, group) = lanes_last ns n h.2 some few in
      let (e, more_group) = group_of_more x ns m h.0 (d, group) in
      (m, ap (λ b. product_of (drop (cond b (suc (low_of (ns ++ n ∷ []))) 0) (x ∷ (ns ++ n ∷ [])))) (lt-ltb 64 (product_of (x ∷ (ns ++ n ∷ []))) more) ∙ is, e, more_group)
  | inr less ↦
      let whole : product_of (x ∷ (ns ++ n ∷ [])) ≡ product_of (x ∷ ns) * n = product_append (x ∷ ns) (n ∷ []) ∙ omega arith in
      let most : product_of (x ∷ ns) * 1 ≤ product_of (x ∷ ns) * n = mul-le-mul_left (product_of (x ∷ ns)) some in
      let same = (whole_row (x ∷ ns) (omega (arith, most, whole, less))).1 in
      (product_of (x ∷ ns), ap (λ b. product_of (drop (cond b (suc (low_of (ns ++ n ∷ []))) 0) (x ∷ (ns ++ n ∷ [])))) (le-ltb 64 (product_of (x ∷ (ns ++ n ∷ []))) less) ∙ whole, 1, omega (arith, same))
]

pub joined_lanes : (s : Sys) (seat : Seat) → CanChange (Join seat) s → AreSizes (sizes_of s).seats → AreSlices (lanes_in (after (Join seat) s)) (lanes_in s) seat.beh.states
joined_lanes s seat can sizes =
    let (m, is, d, group) = lanes_last (sizes_of s).seats seat.beh.states sizes can.0.states.0 can.0.states.1 in
    record { few = lanes_few (sizes_of s).seats; slices = (m, ap (λ (n : Sizes). lanes_of n.seats) (sizes-joined s seat) ∙ is, d, group) }

-- the entries of a group are grown to those of a row
pub grown_group : (n m d states lanes x i word : ℕ) (reason : Reason) (L : List ℕ) → n ≡ m * states → lanes ≡ d * m → set_lanes word ≡ flat_map (λ lane. map (λ b. lane * states + b) (below states)) L →
    entries_in n (x * d + i) word reason ≡ flat_map (grown_numbers states) (map (λ lane. as_entry (x * lanes + i * m + lane, reason)) L)
grown_group n m d states lanes x i word reason L whole parts spread =
    let place : (lane b : ℕ) → (x * d + i) * n + (lane * states + b) ≡ (x * lanes + i * m + lane) * states + b = λ lane b.
    let row : (x * d + i) * n ≡ (x * d + i) * (m * states) = ap (λ k. (x * d + i) * k) whole in
    let first : x * lanes ≡ x * (d * m) = ap (λ k. x * k) parts in
    let times : (x * lanes + i * m + lane) * states ≡ (x * (d * m) + i * m + lane) * states = ap (λ k. (k + i * m + lane) * states) first in
    omega (arith, row, times) in
    ap (map (λ lane. as_entry ((x * d + i) * n + lane, reason))) spread
    ∙ map-flat_map (λ lane. as_entry ((x * d + i) * n + lane, reason)) (λ lane. map (λ b. lane * states + b) (below states)) L
    ∙ flat_map_same (λ lane. map (λ lane. as_entry ((x * d + i) * n + lane, reason)) (map (λ b. lane * states + b) (below states))) (λ lane. grown_numbers states (as_entry (x * lanes + i * m + lane, reason))) L (λ lane.
    map-map (λ lane. as_entry ((x * d + i) * n + lane, reason)) (λ b. lane * states + b) (below states)
    ∙ map_same_in (λ b. as_entry ((x * d + i) * n + (lane * states + b), reason)) (grown_number states (as_entry (x * lanes + i * m + lane, reason))) (below states) (λ b j. ap (λ p. as_entry (p, reason)) (place lane b)))
    ∙ sym (flat_map-map (grown_numbers states) (λ lane. as_entry (x * lanes + i * m + lane, reason)) L)

pub positive : (m n : ℕ) → 0 < m * n → (0 < m) × (0 < n)
positive zero n some = absurd (let none : zero * n ≡ 0 = omega arith in omega (arith, none, some))
positive (suc m) zero some = absurd (let none : suc m * zero ≡ 0 = omega arith in omega (arith, none, some))
positive (suc m) (suc n) some = (omega arith, omega arith)

-- neighbouring grown pairs lie in one row
pub grown_within : (n m states pair : ℕ) → n ≡ m * states → 0 < n → pair * states % n + states ≤ n
grown_within n m states pair is some =
    let both = positive m states (omega (arith, is, some)) in
    let slices : states * (pair % m + 1) ≤ states * m = mul-le-mul_left states (let below = mod_below pair m both.0 in omega arith) in
    grind (arith, slices, (row_mod pair states 0 m both.1))
