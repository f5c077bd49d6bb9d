-- The offered seats of a related pair: each has outcomes, all of them are related, and its cost is the one that the definition gives.
use Rattle.roman_cost.proofs.Common.{Outcomes, AreOutcomes, AreLeastCosts, IsOffered, ranked, IsRanked, IsPairWith, outcome_number, outcome_numbers, Sizes, sizes_of, count, pair_at, number, numbered, MAX_CELLS, in_flat_map, from_map, in_map, not_empty_in, ne_not_empty, outcome_pair, great_related, offer_is, numbers_are_pairs, max_over_le, number_listed, not_empty_ne, in_not_empty, outcome_seat, through_numbered, max_over_same, least_bound, related_great, related_offers, get_or, ◌≡◌, ◌≢◌, ℕ, ◌+◌, ◌*◌, ◌<◌, ◌≤◌, Bool, List, [], ◌∷◌, map, length, filter, slice_index, IsTrue, All, refl, sym, ap, ◌∙◌, subst, arith, Option, Some, ◌^◌, IsIn, below, Sys, Pair, IsSys, IsPair, has, outcomes, is_allowed, is_related, offers, Costs, max_over, least, least_at, choice, through, cond-true, has_seat_is, related_pairs, MAX_COST, HasBits, has_seat, length-map, NamedSys, system_of, seat_of, in_at, all_in, no_numbers}
use Rattle.std.proofs.Common.{flat_map}
use Rattle.roman_cost.proofs.Best.{best_of, best_of-first, filter_has}
use Rattle.roman_cost.proofs.Values.{all_from}
use Rattle.roman_cost.proofs.Ranks.{in_related, ranked_value}

-- an offered seat has outcomes, and leads only to related pairs
pub offered : (s : Sys) (p a k : ℕ) → IsSys s → p < count (sizes_of s) → IsIn k (offers s (pair_at (sizes_of s) p) a) → IsOffered s p a k
offered s p a k ok l i =
    let n = sizes_of s in
    let P : Pair = pair_at n p in
    let pair : IsPair s P = (numbers_are_pairs s).pair p l in
    let (allowed, below, some, all) = offer_is s P a k ok pair i in
    let (Q, j) = not_empty_in (outcomes s P a k) (ne_not_empty (outcomes s P a k) some) in
    record {
      pair = l;
      allowed = allowed;
      seat = below;
      ready = (outcome_seat s P a k Q j).1;
      some = not_empty_ne (map (number n) (outcomes s P a k)) (in_not_empty (number n Q) (map (number n) (outcomes s P a k)) (in_map (number n) Q (outcomes s P a k) j));
      related = λ q m.
          let (R, o, e) = from_map (number n) q (outcomes s P a k) m in
          let there : IsPair s R = outcome_pair s P a k R ok pair o in
          let back : pair_at n q ≡ R = ap (pair_at n) e ∙ (numbers_are_pairs s).back R there in
          in_related s q (subst (λ m. m < count n) (sym e) ((numbers_are_pairs s).below R there))
          (subst (λ X. IsTrue (is_related s X)) (sym back) (great_related s R ok (all R o)));
    }

-- a seat whose bit is 1 has outcomes, and leads only to related pairs
pub told_offered : (s : Sys) (p a k bits : ℕ) (has_it : Bool) → IsSys s → p < count (sizes_of s) → HasBits bits (has (offers s (pair_at (sizes_of s) p) a)) → k < 32 → has_it ≡ has_seat bits k → IsTrue has_it →
    IsOffered s p a k
told_offered s p a k bits has_it ok l tell few is it =
    let seats = offers s (pair_at (sizes_of s) p) a in
    offered s p a k ok l (number_listed seats k (sym (has_seat_is bits (has seats) k tell few) ∙ (sym is ∙ it)))

pub offered_ranked : (s : Sys) (C : Costs) (h p a k : ℕ) (ranks later : List ℕ) → IsOffered s p a k → AreLeastCosts s C h ranks later → All (IsRanked ranks later) ((numbered s).outcomes p a k)
offered_ranked s C h p a k ranks later is known =
    let long : length later ≡ length (related_pairs s) = ap length known.values ∙ length-map (related_pairs s) (least_at s C h) in
    all_from (IsRanked ranks later) ((numbered s).outcomes p a k) (λ q i. (known.places.within q (is.related q i), subst (λ m. slice_index ranks q < m) (sym long) (known.places.below q (is.related q i))))

-- the cost of an offered seat, by the costs of the requests that follow
pub cost_is : (s : Sys) (C : Costs) (h p a k : ℕ) (ranks later : List ℕ) → IsOffered s p a k → AreLeastCosts s C h ranks later →
    C k a + max_over (ranked ranks later) ((numbered s).outcomes p a k) ≡ through s C (least s C h) (pair_at (sizes_of s) p) a k
cost_is s C h p a k ranks later is known =
    ap (λ m. C k a + m) (max_over_same (ranked ranks later) (least_at s C h) ((numbered s).outcomes p a k)
    (λ q j. ranked_value s C h (related_pairs s) ranks later q known.places (is.related q j) known.values)) ∙ through_numbered s C h p a k known.system is.pair

-- every cost is a number of 32 bits
pub through_fits : (s : Sys) (C : Costs) (h a k : ℕ) (P : Pair) (ranks later : List ℕ) → AreLeastCosts s C h ranks later → through s C (least s C h) P a k < 2 ^ 32
through_fits s C h a k P ranks later known =
    let own : C k a ≤ MAX_COST = known.cheap k a in
    let rest : max_over (least s C h) (outcomes s P a k) ≤ h * MAX_COST = max_over_le (least s C h) (h * MAX_COST) (outcomes s P a k) (λ Q i. least_bound s C MAX_COST h Q known.cheap) in
    let few = known.few in
    omega arith

-- the seats of the system that are offered are the offers
pub offers_among : (s : Sys) (P : Pair) (a : ℕ) → IsTrue (is_allowed s P a) → filter (has (offers s P a)) (below (length s.seats)) ≡ offers s P a
offers_among s P a allowed = grind (arith, cond-true, filter_has)

-- the best of all offered seats is the choice, at its cost
pub best_chosen : (n : NamedSys) (C : Costs) (h p a k : ℕ) (best : Option (ℕ × ℕ)) → IsSys (system_of n) → p < count (sizes_of (system_of n)) → IsTrue (is_related (system_of n) (pair_at (sizes_of (system_of n)) p)) →
    IsTrue (is_allowed (system_of n) (pair_at (sizes_of (system_of n)) p) a) → k ≡ length n.seats →
    best ≡ best_of (through (system_of n) C (least (system_of n) C h) (pair_at (sizes_of (system_of n)) p) a) (filter (has (offers (system_of n) (pair_at (sizes_of (system_of n)) p) a)) (below k)) →
    best ≡ Some (choice (system_of n) C h (pair_at (sizes_of (system_of n)) p) a, through (system_of n) C (least (system_of n) C h) (pair_at (sizes_of (system_of n)) p) a (choice (system_of n) C h (pair_at (sizes_of (system_of n)) p) a))
best_chosen n C h p a k best ok l related allowed end is =
    let s = system_of n in
    let P = pair_at (sizes_of s) p in
    let cost = through s C (least s C h) P a in
    is ∙ ap (λ m. best_of cost (filter (has (offers s P a)) (below m))) (end ∙ sym (length-map n.seats (seat_of n.catalogue))) ∙ ap (best_of cost) (offers_among s P a allowed)
    ∙ best_of-first cost (offers s P a) (related_offers s P a ok (related_great s P ok ((numbers_are_pairs s).pair p l) related) allowed)

-- if a delegation has outcomes, the seat goes to some state
states_some : (g : ℕ → ℕ → ℕ) (envs states : List ℕ) → flat_map (λ e. map (g e) states) envs ≢ [] → 0 < length states
states_some g envs [] some = absurd (some (no_numbers g envs [] refl))
states_some g envs (b ∷ states) some = omega arith

-- all outcomes of a delegation are numbers of 32 bits with the property
pub are_outcomes : (n : Sizes) (k : ℕ) (P : ℕ → Type 0) (o : Outcomes) (numbers : List ℕ) → numbers ≡ outcome_numbers o → numbers ≢ [] → All P numbers →
    ((e b : ℕ) → IsIn e o.envs.now → IsIn b o.states.now → IsPairWith n k (outcome_number o e b) e b) → count n ≤ MAX_CELLS → AreOutcomes P o
are_outcomes n k P o numbers is some all places few = record {
  envs = λ i d l.
      let states : 0 < length o.states.now = states_some (outcome_number o) o.envs.now o.states.now (λ e. some (is ∙ e)) in
      omega (arith, (places (get_or o.envs.now i d) (get_or o.states.now 0 0) (in_at o.envs.now i d l) (in_at o.states.now 0 0 states)).below);
  fits = λ i d l j e m. omega (arith, (places (get_or o.envs.now i d) (get_or o.states.now j e) (in_at o.envs.now i d l) (in_at o.states.now j e m)).below);
  each = λ i d l j e m. all_in P numbers (outcome_number o (get_or o.envs.now i d) (get_or o.states.now j e)) all
      (rw is (in_flat_map _ (get_or o.envs.now i d) _ o.envs.now (in_at o.envs.now i d l) (in_map (outcome_number o (get_or o.envs.now i d)) (get_or o.states.now j e) o.states.now (in_at o.states.now j e m))));
}
