-- A system as an arena, the greatest ND-simulation, complete removal lists, and the offers.
use Rattle.roman_model.proofs.Common.{◌≡◌, ◌≢◌, ℕ, ◌<◌, Bool, not, List, [], map, length, IsTrue, IsFalse, filter, slice_set, refl, sym, subst, arith, rules, zero, suc, ◌+◌, ◌≤◌, ◌&&◌, ◌∷◌, ◌++◌, flat_map, append_assoc, append-nil, length-append, both_ways, or_cases, or_left, or_right, not-true, not-false, not_from_true, not_from_false, and_from, eq-eqb, or_from, and_parts, slice_get_within, IsIn, Sys, Pair, IsSys, IsPair, SStep, is_final, all_final, pairs, outcomes, is_allowed, is_fine, arena, Entry, is_listed, is_justified, IsOrder, loses, Couple, couple, Serves, Meets, GreatCouple, Great, IsNdSim, AreEntries, IsComplete, OrderCompletes, is_related, offers, OffersAreGenerator, Reason, Final, Act, reasons, list_any, Counts, related_count}
use Rattle.roman_model.proofs.Lists.{by_test, same_test, HasNoRepeats-filter, in_map, from_map, in_filter, filter_in, ne_not_empty, not_empty_in, not_empty_ne, in_not_empty, none_from, any_true, any_false, in_flat_map, from_flat_map, from_push}
use Rattle.roman_model.proofs.SystemLemmas.{same_pair_is, in_pairs, from_pairs, pairs_once, outcome_in, from_outcome, outcome_seat, outcome_pair, allowed_in, from_allowed, allowed_in_range, same_numbers_itself}
use Rattle.roman_model.proofs.ArenaLemmas.{IsSame, IsArena, Survives, survives_more, survivor_within, mask_not_empty, unallowed_unjustified, unbeaten_is, in_mask, from_mask, mask_same, reason_in}
use Rattle.roman_model.proofs.OrderLemmas.{listed_dead, order_push, order_fits}
use Rattle.roman_model.proofs.DepthLemmas.{lost_dead, unlost_survives}

-- The arena of a system.

pub system_is_same : (s : Sys) → IsSame (arena s)
system_is_same s = grind (arith, same_pair_is, and_from, eq-eqb, same_numbers_itself)

pub system_is_arena : (s : Sys) → IsSys s → IsArena (arena s)
system_is_arena s ok = record {
  same = system_is_same s;
  allowed = λ p a t. allowed_in_range s p a ok t;
  closed = λ p i a k q j. in_pairs s q (outcome_pair s p a k q ok (from_pairs s p i) j);
  served = λ p a k q i. grind (arith, (outcome_seat s p a k q i), allowed_in, (from_outcome s p a k q i));
  once = pairs_once s;
}

-- Clause 2.

pub fine_is : (s : Sys) (p : Pair) → IsTrue (is_fine s p) → IsTrue (is_final s.target p.t) → IsTrue (all_final s.seats p.bs)
fine_is s p fine final = grind (arith, both_ways, not-true, or_cases)

pub fine_from : (s : Sys) (p : Pair) → (IsTrue (is_final s.target p.t) → IsTrue (all_final s.seats p.bs)) → IsTrue (is_fine s p)
fine_from s p h = grind (arith, by_test, not_from_false, or_left, or_right)

-- Clause 3: a seat serves if it has an outcome, and each outcome is related. The guards read the environment's present state, so a seat that
-- has an outcome has one for each target step.

pub serves_outcomes : (s : Sys) (Related : Couple → Type 0) (p : Pair) (a k : ℕ) → IsSys s → IsTrue (is_allowed s p a) → Serves s Related (couple p) a k →
    (k < length s.seats) × (outcomes s p a k ≢ []) × ((q : Pair) → IsIn q (outcomes s p a k) → Related (couple q))
serves_outcomes s Related p a k ok allowed serves =
    let (t', e', step) = from_allowed s p a allowed in
    let (bs', r) = (serves t' e' step).0 in grind (arith, slice_get_within, (not_empty_ne (outcomes s p a k) (in_not_empty (record { t = t'; e = e'; bs = bs' }) (outcomes s p a k) (outcome_in s p a k t' e' bs' ok step r))), from_outcome)

pub outcomes_serve : (s : Sys) (Related : Couple → Type 0) (p : Pair) (a k : ℕ) → IsSys s → outcomes s p a k ≢ [] →
    ((q : Pair) → IsIn q (outcomes s p a k) → Related (couple q)) → Serves s Related (couple p) a k
outcomes_serve s Related p a k ok some all t' e' step =
    let (q, i) = not_empty_in (outcomes s p a k) (ne_not_empty (outcomes s p a k) some) in
    let r : SStep s p.bs p.e a k q.bs q.e = (from_outcome s p a k q i).1 in (
      (slice_set p.bs k r.to, record { seat = r.seat; seated = r.seated; ready = r.ready; world = step.0; to = r.to; moves = r.moves; is = refl }),
      λ bs' other. all (record { t = t'; e = e'; bs = bs' }) (outcome_in s p a k t' e' bs' ok step other),
    )

pub meets_survives : (s : Sys) (Related : Couple → Type 0) (p : Pair) → IsSys s → Meets s Related (couple p) → Survives (arena s) (λ q. Related (couple q)) p
meets_survives s Related p ok meets = record {
  final = fine_from s p meets.final;
  served = λ a allowed.
      let (k, serves) = meets.served a (from_allowed s p a allowed) in
      let (l, some, all) = serves_outcomes s Related p a k ok allowed serves in
      grind arith;
}

pub survives_meets : (s : Sys) (Related : Couple → Type 0) (p : Pair) → IsSys s → Survives (arena s) (λ q. Related (couple q)) p → Meets s Related (couple p)
survives_meets s Related p ok survives = record {
  shared = refl;
  final = fine_is s p survives.final;
  served = λ a allows.
      let (k, l, some, all) = survives.served a (allowed_in s p a ok allows) in
      (k, outcomes_serve s Related p a k ok some all);
}

-- The greatest ND-simulation.

-- the clauses still hold in a larger relation

pub serves_more : (s : Sys) (Related More : Couple → Type 0) (c : Couple) (a k : ℕ) → ((d : Couple) → Related d → More d) → Serves s Related c a k → Serves s More c a k
serves_more s Related More c a k more serves t' e' step = grind arith

pub meets_more : (s : Sys) (Related More : Couple → Type 0) (c : Couple) → ((d : Couple) → Related d → More d) → Meets s Related c → Meets s More c
meets_more s Related More c more meets = record {
  shared = meets.shared;
  final = meets.final;
  served = λ a allows. let (k, serves) = meets.served a allows in (k, serves_more s Related More c a k more serves);
}

pub great_meets : (s : Sys) (c : Couple) → GreatCouple s c → Meets s (GreatCouple s) c
great_meets s c (R, sim, i) = meets_more s (λ d. IsIn d R) (GreatCouple s) c (λ d j. (R, sim, j)) (sim c i)

pub great_survives : (s : Sys) (p : Pair) → IsSys s → Great s p → Survives (arena s) (Great s) p
great_survives s p ok great = meets_survives s (GreatCouple s) p ok (great_meets s (couple p) great)

-- pairs that survive among themselves are an ND-simulation
pub survivors_sim : (s : Sys) (ps : List Pair) → IsSys s → ((p : Pair) → IsIn p ps → Survives (arena s) (λ q. IsIn q ps) p) → IsNdSim s (map couple ps)
survivors_sim s ps ok survive c i =
    let (p, j, e) = from_map couple c ps i in
    subst (Meets s (λ d. IsIn d (map couple ps))) (sym e)
    (survives_meets s (λ d. IsIn d (map couple ps)) p ok
    (survives_more (arena s) (λ q. IsIn q ps) (λ q. IsIn (couple q) (map couple ps)) p (λ a k q l. in_map couple q ps) (survive p j)))

-- pairs that fail the test are related, if they survive among themselves
pub great_from : (s : Sys) (gone : Pair → Bool) → IsSys s →
    ((p : Pair) → IsPair s p → IsFalse (gone p) → Survives (arena s) (λ q. IsIn q (pairs s) × IsFalse (gone q)) p) →
    IsNdSim s (map couple (filter (λ p. not (gone p)) (pairs s)))
great_from s gone ok survive = survivors_sim s (filter (λ p. not (gone p)) (pairs s)) ok
    (λ p i. grind (arith, filter_in, from_pairs, in_filter, not-true, survives_more))

pub great_in : (s : Sys) (gone : Pair → Bool) (p : Pair) → IsNdSim s (map couple (filter (λ p. not (gone p)) (pairs s))) → IsPair s p → IsFalse (gone p) → Great s p
great_in s gone p sim ok f = (
  map couple (filter (λ p. not (gone p)) (pairs s)),
  sim,
  in_map couple p (filter (λ p. not (gone p)) (pairs s)) (in_filter (λ p. not (gone p)) p (pairs s) (in_pairs s p ok) (not_from_false (gone p) f)),
)

-- the pairs that aren't lost within as many requests as there are pairs are an ND-simulation
pub last_is_sim : (s : Sys) → IsSys s → IsNdSim s (map couple (filter (λ p. not (loses (arena s) (length (pairs s)) p)) (pairs s)))
last_is_sim s ok = search (rules, great_from, in_pairs, system_is_arena, unlost_survives)

pub lost_unrelated : (s : Sys) (n : ℕ) (p : Pair) → IsSys s → IsTrue (loses (arena s) n p) → Great s p → ⊥
lost_unrelated s n p ok t great = lost_dead (arena s) (Great s) (λ q. great_survives s q ok) n p t great

pub related_great : (s : Sys) (p : Pair) → IsSys s → IsPair s p → IsTrue (is_related s p) → Great s p
related_great s p ok pair t = great_in s (loses (arena s) (length (pairs s))) p (last_is_sim s ok) pair (not-true (loses (arena s) (length (pairs s)) p) t)

pub great_related : (s : Sys) (p : Pair) → IsSys s → Great s p → IsTrue (is_related s p)
great_related s p ok great = grind (arith, by_test, lost_unrelated, not_from_false)

-- Removal lists.

-- a listed pair isn't related
pub listed_unrelated : (s : Sys) (L : List (Entry Pair)) (p : Pair) → IsSys s → IsOrder (arena s) L → IsTrue (is_listed (arena s) L p) → Great s p → ⊥
listed_unrelated s L p ok order t great = listed_dead (arena s) (system_is_same s) (Great s) (λ q. great_survives s q ok) L order p t great

-- if no reason holds at an unlisted pair, the unlisted pairs are related
pub unlisted_related : (s : Sys) (L : List (Entry Pair)) → IsSys s →
    ((p : Pair) → IsPair s p → IsFalse (is_listed (arena s) L p) → IsTrue (is_fine s p)) →
    ((p : Pair) → IsPair s p → IsFalse (is_listed (arena s) L p) → (a : ℕ) → IsTrue (is_allowed s p a) → IsFalse (is_justified (arena s) (is_listed (arena s) L) p (Act a))) →
    (p : Pair) → IsPair s p → IsFalse (is_listed (arena s) L p) → Great s p
unlisted_related s L ok fine no_reason p pair f =
    great_in s (is_listed (arena s) L) p
    (great_from s (is_listed (arena s) L) ok
    (λ q q_pair g. survivor_within (arena s) (system_is_arena s ok) (is_listed (arena s) L) q (in_pairs s q q_pair) (fine q q_pair g) (no_reason q q_pair g)))
    pair f

-- a removal list is complete if no reason holds at an unlisted pair
pub completed_by : (s : Sys) (L : List (Entry Pair)) → IsSys s → AreEntries s L → IsOrder (arena s) L →
    ((p : Pair) → IsPair s p → IsFalse (is_listed (arena s) L p) → (r : Reason) → IsFalse (is_justified (arena s) (is_listed (arena s) L) p r)) → IsComplete s L
completed_by s L ok entries order no_reason = record {
  pairs = entries;
  order = order;
  exact = λ p pair. (
    λ t great. listed_unrelated s L p ok order t great,
    λ unrelated. by_test (is_listed (arena s) L p) (λ t. t)
        (λ f. absurd (unrelated (unlisted_related s L ok
        (λ q q_pair g. not-false (is_fine s q) (no_reason q q_pair g Final))
        (λ q q_pair g a allowed. no_reason q q_pair g (Act a)) p pair f))),
  );
}

pub order_completed : OrderCompletes
order_completed s L ok entries order fine some_left = completed_by s L ok entries order no_reason
  where
    no_reason : (p : Pair) → IsPair s p → IsFalse (is_listed (arena s) L p) → (r : Reason) → IsFalse (is_justified (arena s) (is_listed (arena s) L) p r)
    no_reason p pair f Final = not_from_true (is_fine s p) (fine p pair f)
    no_reason p pair f (Act a) = by_test (is_allowed s p a)
        (λ t. mask_not_empty (arena s) (is_listed (arena s) L) p a (some_left p pair f a t))
        (λ g. unallowed_unjustified (arena s) (is_listed (arena s) L) p a g)

-- a pair is listed in a complete list exactly when it isn't related
pub complete_listed : (s : Sys) (L : List (Entry Pair)) (p : Pair) → IsSys s → IsComplete s L → IsPair s p → is_listed (arena s) L p ≡ not (is_related s p)
complete_listed s L p ok complete pair = same_test (is_listed (arena s) L p) (not (is_related s p))
    (λ t. by_test (is_related s p) (λ r. absurd ((complete.exact p pair).0 t (related_great s p ok pair r))) (λ f. not_from_false (is_related s p) f))
    (λ t. (complete.exact p pair).1 (λ great. both_ways (is_related s p) (not-true (is_related s p) t) (great_related s p ok great)))

-- The offers, and the pairs to which they lead.

-- an offered seat has an outcome, and its outcomes are related
pub offer_is : (s : Sys) (p : Pair) (a k : ℕ) → IsSys s → IsPair s p → IsIn k (offers s p a) →
    IsTrue (is_allowed s p a) × (k < length s.seats) × (outcomes s p a k ≢ []) × ((q : Pair) → IsIn q (outcomes s p a k) → Great s q)
offer_is s p a k ok pair i =
    let (allowed, l, unbeaten) = from_mask (arena s) (λ q. not (is_related s q)) p a k i in
    let (some, all) = unbeaten_is (arena s) (λ q. not (is_related s q)) p a k unbeaten in
    (allowed, l, some, λ q j. related_great s q ok (outcome_pair s p a k q ok pair j) (not-false (is_related s q) (all q j)))

pub in_offers : (s : Sys) (p : Pair) (a k : ℕ) → IsSys s → IsTrue (is_allowed s p a) → k < length s.seats → outcomes s p a k ≢ [] →
    ((q : Pair) → IsIn q (outcomes s p a k) → Great s q) → IsIn k (offers s p a)
in_offers s p a k ok allowed l some all = search (rules, great_related, in_mask, not_from_true, ne_not_empty, none_from, or_from)

-- The offers are those of the orchestrator generator.
pub offers_are : OffersAreGenerator
offers_are s ok = record {
  related = λ p pair. (related_great s p ok pair, great_related s p ok);
  offered = λ p pair a allowed k. (
    λ i.
        let (allows, l, some, all) = offer_is s p a k ok pair i in
        (l, outcomes_serve s (GreatCouple s) p a k ok some all),
    λ h. grind (arith, (serves_outcomes s (GreatCouple s) p a k ok allowed h.1), in_offers),
  );
  masked = λ L complete p pair a. (search (rules, complete_listed, mask_same, outcome_pair));
}

-- at a related pair each allowed action has an offer
pub related_offers : (s : Sys) (p : Pair) (a : ℕ) → IsSys s → Great s p → IsTrue (is_allowed s p a) → offers s p a ≢ []
related_offers s p a ok great allowed = grind (arith, (great_survives s p ok great), not_empty_ne, in_not_empty, in_offers)

-- Every removal list can be extended to a complete one.

-- the entries of a pair with each reason
abbrev with_reasons : Sys → Pair → List (Entry Pair)
with_reasons s p = map (λ r. record { node = p; reason = r }) (reasons s.env.actions)

-- all possible entries
abbrev possible : Sys → List (Entry Pair)
possible s = flat_map (with_reasons s) (pairs s)

-- the entry can follow at the end of the list
abbrev can_follow : Sys → List (Entry Pair) → Entry Pair → Bool
can_follow s L x = not (is_listed (arena s) L x.node) && is_justified (arena s) (is_listed (arena s) L) x.node x.reason

in_possible : (s : Sys) (p : Pair) (r : Reason) → IsPair s p → IsIn r (reasons s.env.actions) → IsIn (record { node = p; reason = r }) (possible s)
in_possible s p r pair i = in_flat_map (with_reasons s) p (record { node = p; reason = r }) (pairs s) (in_pairs s p pair) (in_map (λ r. record { node = p; reason = r }) r (reasons s.env.actions) i)

-- a list that no entry can follow is complete
last_complete : (s : Sys) (L : List (Entry Pair)) → IsSys s → AreEntries s L → IsOrder (arena s) L → IsFalse (list_any (can_follow s L) (possible s)) → IsComplete s L
last_complete s L ok entries order none = completed_by s L ok entries order no_reason
  where
    no_reason : (p : Pair) → IsPair s p → IsFalse (is_listed (arena s) L p) → (r : Reason) → IsFalse (is_justified (arena s) (is_listed (arena s) L) p r)
    no_reason p pair unlisted r = by_test (is_justified (arena s) (is_listed (arena s) L) p r)
        (λ t. absurd (both_ways (can_follow s L (record { node = p; reason = r }))
        (any_false (can_follow s L) (record { node = p; reason = r }) (possible s) none (in_possible s p r pair (reason_in (arena s) (system_is_arena s ok) (is_listed (arena s) L) p r t)))
        (and_from (not (is_listed (arena s) L p)) (is_justified (arena s) (is_listed (arena s) L) p r) (not_from_false (is_listed (arena s) L p) unlisted) t)))
        (λ f. f)

-- a removal list with one more entry that can follow
one_more : (s : Sys) (L : List (Entry Pair)) → AreEntries s L → IsOrder (arena s) L → IsTrue (list_any (can_follow s L) (possible s)) →
    (x : Entry Pair) × AreEntries s (L ++ x ∷ []) × IsOrder (arena s) (L ++ x ∷ [])
one_more s L entries order some = grind (arith, and_parts, any_true, from_push, not-true, order_push, from_flat_map, from_map, from_pairs)

-- entries can be added until no entry can follow
complete_within : (s : Sys) (n : ℕ) (L : List (Entry Pair)) → IsSys s → AreEntries s L → IsOrder (arena s) L → length (pairs s) ≤ length L + n → (M : List (Entry Pair)) × IsComplete s (L ++ M)
complete_within s zero L ok entries order enough = grind (arith, by_test, can_follow, possible, one_more, order_fits, system_is_same, in_pairs, length-append, append-nil, last_complete)
complete_within s (suc n) L ok entries order enough = grind (arith, by_test, can_follow, possible, one_more, length-append, append_assoc, append-nil, last_complete, (complete_within s n))

-- every removal list can be extended to a complete one
pub order_goes_on : (s : Sys) (L : List (Entry Pair)) → IsSys s → AreEntries s L → IsOrder (arena s) L → (M : List (Entry Pair)) × IsComplete s (L ++ M)
order_goes_on s L ok entries order = complete_within s (length (pairs s)) L ok entries order (omega arith)

-- the number of related pairs
pub related_counted : (s : Sys) → IsSys s → Counts s (Great s) (related_count s)
related_counted s sys = grind (arith, HasNoRepeats-filter, filter_in, from_pairs, great_related, in_filter, in_pairs, pairs_once, related_great)
