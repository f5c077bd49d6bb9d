-- The related pairs are the greatest ND-simulation. No listed pair is related, depth is bounded, a replay keeps the most entries, also after a
-- change, and runs that follow the offers stay at related pairs.
use Rattle.roman_laws.proofs.Common.{length, List, [], arith, ◌∷◌, map, IsTrue, filter, inl, inr, not_from_false, cond-true, cond-false, or_cases, or_right, or_left, Sys, IsSys, Pair, IsPair, arena, pairs, Couple, couple, Meets, Great, by_test, related_great, lost_dead, meets_survives, system_is_same, sublist_length, join_once, new_from_once, new_once, new_same, order_new, renaming_keeps, replay_sublist, outcome_pair, great_meets, great_related, offer_is, related_offers, in_map, in_filter, sublist_skip, in_pairs, in_listed, justified_more, replay_order, great_survives, last_is_sim, lost_unrelated, listed_unrelated, loses, Entry, IsOrder, AreNew, Arena, is_among, IsOrderFrom, replay_from, after, Join, rename, Change, Freeze, Thaw, Die, CanChange, AreEntries, RepairsKeepTheMost, ReplaysKeepTheMost, is_related, IsSublist, GreatestIsGreatest, OrderRefutes, UnrelatedLoses, ReplayKeeps, FollowingStays}

-- Each relation that meets the three clauses of an ND-simulation is part of the greatest one, even if it can't be listed.

pub closed_great : (s : Sys) (Related : Couple → Type 0) → IsSys s → ((c : Couple) → Related c → Meets s Related c) →
    (p : Pair) → IsPair s p → Related (couple p) → Great s p
closed_great s Related ok closed p pair r =
    related_great s p ok pair (by_test (loses (arena s) (length (pairs s)) p)
    (λ t. absurd (lost_dead (arena s) (λ q. Related (couple q)) (λ q h. meets_survives s Related q ok (closed (couple q) h)) (length (pairs s)) p t r))
    (λ f. not_from_false (loses (arena s) (length (pairs s)) p) f))

-- The related pairs are the greatest ND-simulation.
pub greatest_is : GreatestIsGreatest
greatest_is s ok = record {
  closed = great_meets s;
  holds_each = λ R sim c i. (R, sim, i);
  finite = (
    map couple (filter (is_related s) (pairs s)),
    last_is_sim s ok,
    grind (arith, in_map, in_filter, in_pairs, great_related, (last_is_sim s ok)),
  );
}

-- No listed pair is related.
pub order_refuted : OrderRefutes
order_refuted s L ok order x i pair great = listed_unrelated s L x.node ok order (in_listed (arena s) (system_is_same s) L x i) great

-- Depth is bounded.
pub unrelated_lost : UnrelatedLoses
unrelated_lost s ok p pair = grind (arith, by_test, lost_unrelated, not_from_false, related_great)

-- a replay keeps each sublist that is a removal list
pub replay_from_keeps : {N : Type 0} (A : Arena N) (before kept : List N) (M L : List (Entry N)) → IsSublist M L → IsOrderFrom A before M →
    ((q : N) → IsTrue (is_among A before q) → IsTrue (is_among A kept q)) → IsSublist M (replay_from A kept L)
replay_from_keeps A before kept [] L s order within = tt
replay_from_keeps A before kept (m ∷ M) [] s order within = absurd s
replay_from_keeps A before kept (m ∷ M) (x ∷ L) (inl (e, s)) order within = grind (arith, cond-true, justified_more, or_cases, or_left, or_right, (replay_from_keeps A (m.node ∷ before) (x.node ∷ kept) M L s order.2))
replay_from_keeps A before kept (m ∷ M) (x ∷ L) (inr s) order within = grind (arith, by_test, cond-true, sublist_skip, or_right, cond-false, (replay_from_keeps A before (x.node ∷ kept) (m ∷ M) L s order), (replay_from_keeps A before kept (m ∷ M) L s order within))

-- The replay keeps the most entries.
pub replay_kept : ReplayKeeps
replay_kept s L new = record { order = replay_order (arena s) L new; best = λ M sub order. (replay_from_keeps (arena s) [] [] M L sub order (λ q t. t)) }

-- A run that follows the offers stays at related pairs.
pub following_related : FollowingStays
following_related s ok p pair great [] follows = grind (arith, great_survives, related_offers)
following_related s ok p pair great (m ∷ ms) follows =
    let (allowed, offered, reached, rest) = follows in
    let (allows, l, some, all) = offer_is s p m.action m.seat ok pair offered in
    following_related s ok m.to (outcome_pair s p m.action m.seat m.to ok pair reached) (all m.to reached) ms rest

-- The renamed list of a change has distinct pairs, so its replay keeps the most.

-- a renamed removal list has distinct pairs
renamed_new : (change : Change) (s : Sys) (L : List (Entry Pair)) → IsSys s → CanChange change s → AreEntries s L → IsOrder (arena s) L → AreNew (arena (after change s)) [] (rename change L)
renamed_new (Freeze k) s L ok can are order = new_same s (after (Freeze k) s) [] L (order_new (arena s) L order)
renamed_new (Thaw k) s L ok can are order = new_same s (after (Thaw k) s) [] L (order_new (arena s) L order)
renamed_new (Join seat) s L ok can are order = grind (arith, (new_from_once (after (Join seat) s)), (join_once seat L (new_once (arena s) (system_is_same s) [] L (order_new (arena s) L order))), (new_once (arena s) (system_is_same s)), (system_is_same s), (order_new (arena s) L order))
renamed_new (Die k seat) s L ok can are order = grind (arith, (renaming_keeps (Die k seat) s L ok can are order), order_new)

pub repairs_most : RepairsKeepTheMost
repairs_most change s L ok can are order =
    let new = renamed_new change s L ok can are order in
    let best = replay_kept (after change s) (rename change L) new in
    grind (arith, replay_sublist, sublist_length)

pub replays_most : ReplaysKeepTheMost
replays_most change s old new kept ok can are order begins count = grind (arith, repairs_most)
