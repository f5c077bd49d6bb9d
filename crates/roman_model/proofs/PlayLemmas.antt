-- The opponent's game, by a removal list and by the depths of pairs.
use Rattle.roman_model.proofs.Common.{Bool, find, ◌≡◌, ℕ, zero, suc, ◌<◌, ◌≤◌, not, if◌then◌else◌, List, [], ◌∷◌, ◌++◌, length, Option, Some, None, IsTrue, IsFalse, sym, ◌∙◌, subst, arith, inl, inr, refl, ap, rules, IsIn, is_empty, below, or_parts, cond-true, cond-false, both_ways, or_cases, not_from_false, cases_lt, Sys, Pair, IsSys, IsPair, outcomes, arena, pairs, Entry, is_listed, is_justified, IsOrder, loses, depth, entries_before, has_ready, WinsWithin, AreSeats, went_on, reason_of, play_at, play, OrderWins, refuting, request_at, depth_play_at, depth_play, DepthWins, DepthIsLeast, HoldsOut, Reason, Final, Act, list_any, Great, Couple, couple, GreatCouple}
use Rattle.std.specs.Option.{option_map}
use Rattle.roman_model.proofs.Lists.{by_test, find_some, find_found, any_from, split_at}
use Rattle.roman_model.proofs.ArenaLemmas.{listed_in, justified_is, survives_more, survivor_within}
use Rattle.roman_model.proofs.OrderLemmas.{order_middle}
use Rattle.roman_model.proofs.CompositionLemmas.{system_is_same, system_is_arena, lost_unrelated, related_great, fine_is, fine_from, great_meets, meets_more, meets_survives, survives_meets}
use Rattle.roman_model.proofs.ExplanationLemmas.{before_listed, before_falls, before_shorter, before_is}
use Rattle.roman_model.proofs.SystemLemmas.{in_pairs, from_pairs, outcome_pair}
use Rattle.roman_model.proofs.DepthLemmas.{lost_falls, unlost_fine, unlost_act, depth_is, depth_none, lost_depth}

-- The entry of a pair.

-- the reason of a new entry
reason_is : (s : Sys) (done : List (Entry Pair)) (x : Entry Pair) (rest : List (Entry Pair)) → IsFalse (is_listed (arena s) done x.node) →
    reason_of s (done ++ x ∷ rest) x.node ≡ Some x.reason
reason_is s [] x rest new = cond-true ((arena s).same x.node x.node) (Some x.reason) (reason_of s rest x.node) ((system_is_same s).itself x.node)
reason_is s (y ∷ done) x rest new = grind (arith, or_parts, (reason_is s done x rest))

-- a listed pair has a reason, which holds when the pairs before it are gone
pub reason_found : (s : Sys) (L : List (Entry Pair)) (p : Pair) → IsOrder (arena s) L → IsTrue (is_listed (arena s) L p) →
    (r : Reason) × (reason_of s L p ≡ Some r) × IsTrue (is_justified (arena s) (is_listed (arena s) (entries_before (arena s) L p)) p r)
reason_found s L p order t =
    let (x, i, same) = listed_in (arena s) (system_is_same s) L p t in
    let (done, rest, whole) = split_at x L i in
    let (new, holds) = order_middle (arena s) done rest x (subst (IsOrder (arena s)) whole order) in
    let before : entries_before (arena s) L p ≡ done = grind (arith, before_is, (system_is_same s)) in grind (arith, reason_is)

-- Wins.

pub wins_more : (m n : ℕ) (o : Option ℕ) → m ≤ n → WinsWithin m o → WinsWithin n o
wins_more m n None l w = w
wins_more m n (Some k) l w = omega arith

pub wins_after : (n : ℕ) (o : Option ℕ) → WinsWithin n o → WinsWithin (suc n) (option_map suc o)
wins_after n None w = w
wins_after n (Some k) w = omega arith

-- One request against a seat: if the action is a reason, the opponent has won, or continues from the first outcome that is gone.
pub answered_wins : (s : Sys) (gone : Pair → Bool) (rest : Pair → Option ℕ) (n : ℕ) (p : Pair) (a k : ℕ) → k < length s.seats → IsTrue (is_justified (arena s) gone p (Act a)) →
    ((q : Pair) → IsIn q (outcomes s p a k) → IsTrue (gone q) → WinsWithin n (rest q)) →
    WinsWithin (suc n) (if not (has_ready s.seats) then Some 1 else (if is_empty (outcomes s p a k) then Some 1 else went_on rest (find gone (outcomes s p a k))))
answered_wins s gone rest n p a k l j later = grind (arith, by_test, cond-true, cond-false, (justified_is (arena s) gone p a j), find_found, any_from, find_some, wins_after)

-- the same by the reason of a listed pair: the opponent continues from an earlier pair
pub request_wins : (s : Sys) (L : List (Entry Pair)) (n : ℕ) (p : Pair) (k : ℕ) (ks : List ℕ) (r : Reason) → k < length s.seats →
    IsTrue (is_justified (arena s) (is_listed (arena s) (entries_before (arena s) L p)) p r) →
    ((q : Pair) → IsTrue (is_listed (arena s) (entries_before (arena s) L p) q) → WinsWithin n (play s L q ks)) → WinsWithin (suc n) (play_at s L (k ∷ ks) p (Some r))
request_wins s L n p k ks Final l j later = omega arith
request_wins s L n p k ks (Act a) l j later =
    answered_wins s (is_listed (arena s) (entries_before (arena s) L p)) (λ q. play s L q ks) n p a k l j (λ q i t. later q t)

-- the opponent wins within more requests than there are entries before the pair's entry
pub list_wins : (s : Sys) (L : List (Entry Pair)) → IsOrder (arena s) L → (n : ℕ) (p : Pair) (ks : List ℕ) → AreSeats s ks → n ≤ length ks →
    IsTrue (is_listed (arena s) L p) → length (entries_before (arena s) L p) < n → WinsWithin n (play s L p ks)
list_wins s L order zero p ks seats enough t few = absurd (omega arith)
list_wins s L order (suc n) p [] seats enough t few = let none : ⊥ = omega arith in absurd none
list_wins s L order (suc n) p (k ∷ ks) seats enough t few = let (r, e, j) = reason_found s L p order t in
    subst (λ o. WinsWithin (suc n) (play_at s L (k ∷ ks) p o)) (sym e)
    (request_wins s L n p k ks r seats.0 j (grind (arith, before_falls, before_listed, (list_wins s L order n))))

-- The opponent that plays by a removal list wins.
pub order_won : OrderWins
order_won s L ok order p t = grind (arith, (before_shorter (arena s) L p t), list_wins, (reason_found s L p order t), wins_more)

-- The game by the depth.

-- some request refutes a pair that is lost within d + 1 requests, and not within d
pub refuting_found : (s : Sys) (d : ℕ) (p : Pair) → IsTrue (loses (arena s) (suc d) p) → IsFalse (loses (arena s) d p) →
    (a : ℕ) × (refuting s d p ≡ Some a) × IsTrue (is_justified (arena s) (loses (arena s) d) p (Act a))
refuting_found s d p t f = elim (or_cases (loses (arena s) d p) (list_any (λ a. is_justified (arena s) (loses (arena s) d) p (Act a)) (below s.env.actions)) t) [
  | inl sooner ↦ absurd (both_ways (loses (arena s) d p) f sooner)
  | inr now ↦
      let (a, e) = find_found (λ a. is_justified (arena s) (loses (arena s) d) p (Act a)) (below s.env.actions) now in
      let (i, j) = find_some (λ a. is_justified (arena s) (loses (arena s) d) p (Act a)) (below s.env.actions) a e in
      grind arith
]

-- the opponent wins within the depth, for all depths up to n
pub depth_wins_by : (s : Sys) → IsSys s → (n d : ℕ) (p : Pair) (ks : List ℕ) → IsPair s p → depth (arena s) p ≡ Some d → d ≤ n → AreSeats s ks → d ≤ length ks →
    WinsWithin d (depth_play s p ks)
depth_wins_by s ok n zero p ks pair e few seats enough = grind arith
depth_wins_by s ok zero (suc d) p ks pair e few seats enough = let none : ⊥ = omega arith in absurd none
depth_wins_by s ok (suc n) (suc d) p [] pair e few seats enough = let none : ⊥ = omega arith in absurd none
depth_wins_by s ok (suc n) (suc d) p (k ∷ ks) pair e few seats enough = let (bound, t, least) = depth_is (arena s) p (suc d) e in
    let (a, found, j) = refuting_found s d p t (least d (omega arith)) in
    subst (λ o. WinsWithin (suc d) (depth_play_at s (k ∷ ks) p o (request_at s p o))) (sym e)
    (subst (λ r. WinsWithin (suc d) (depth_play_at s (k ∷ ks) p (Some (suc d)) r)) (sym found)
    (answered_wins s (loses (arena s) d) (λ q. depth_play s q ks) d p a k seats.0 j
    (λ q i lost.
    let q_pair : IsPair s q = outcome_pair s p a k q ok pair i in
    let (c, l, f) = lost_depth (arena s) (system_is_arena s ok) q (in_pairs s q q_pair) d lost in
    grind (arith, (depth_wins_by s ok n c q ks q_pair f (omega arith) seats.1 (omega arith))))))

-- if no seat is ready, the first request wins
pub depth_unanswered_wins : (s : Sys) (d : ℕ) (p : Pair) → depth (arena s) p ≡ Some d → IsFalse (has_ready s.seats) → WinsWithin d (depth_play s p [])
depth_unanswered_wins s zero p e f = subst (λ o. WinsWithin zero (depth_play_at s [] p o (request_at s p o))) (sym e) (omega arith)
depth_unanswered_wins s (suc d) p e f = grind (arith, (depth_is (arena s) p (suc d) e), refuting_found)

-- The opponent that plays by depth wins.
pub depth_won : DepthWins
depth_won s ok p pair n e = search (rules, depth_unanswered_wins, depth_wins_by)

-- A couple that holds out against more requests holds out against fewer.
holds_less : (s : Sys) (n : ℕ) (c : Couple) → HoldsOut s (suc n) c → HoldsOut s n c
holds_less s zero c meets = meets.final
holds_less s (suc n) c meets = meets_more s (HoldsOut s (suc n)) (HoldsOut s n) c (holds_less s n) meets

-- a related couple holds out against any number of requests
pub great_holds : (s : Sys) (n : ℕ) (c : Couple) → GreatCouple s c → HoldsOut s n c
great_holds s zero c great = (great_meets s c great).final
great_holds s (suc n) c great = meets_more s (GreatCouple s) (HoldsOut s n) c (great_holds s n) (great_meets s c great)

-- a pair that is lost within n requests doesn't hold out against them
pub lost_fails : (s : Sys) → IsSys s → (n : ℕ) (p : Pair) → IsTrue (loses (arena s) n p) → HoldsOut s n (couple p) → ⊥
lost_fails s ok =
    lost_falls (arena s) (λ n q. HoldsOut s n (couple q)) (λ p meets. fine_from s p meets)
    (λ n p meets. (holds_less s n (couple p) meets, meets_survives s (HoldsOut s n) p ok meets))

-- a pair that isn't lost within n requests holds out against them
pub unlost_holds : (s : Sys) → IsSys s → (n : ℕ) (p : Pair) → IsPair s p → IsFalse (loses (arena s) n p) → HoldsOut s n (couple p)
unlost_holds s ok zero p pair f = fine_is s p (unlost_fine (arena s) zero p f)
unlost_holds s ok (suc n) p pair f =
    let Left = λ (q : Pair). IsIn q (pairs s) × IsFalse (loses (arena s) n q) in
    survives_meets s (HoldsOut s n) p ok
    (survives_more (arena s) Left (λ q. HoldsOut s n (couple q)) p (λ a k q i left. unlost_holds s ok n q (from_pairs s q left.0) left.1)
    (survivor_within (arena s) (system_is_arena s ok) (loses (arena s) n) p (in_pairs s p pair) (unlost_fine (arena s) (suc n) p f)
    (λ a allowed. unlost_act (arena s) (system_is_arena s ok) n p a f allowed)))

-- The depth is the least number of requests.
pub depth_least : DepthIsLeast
depth_least s ok p pair = record {
  least = λ n. (
    λ e. grind (arith, (depth_is (arena s) p n e), lost_fails, unlost_holds),
    λ is. by_test (loses (arena s) n p) (λ t.
        let (d, l, e) = lost_depth (arena s) (system_is_arena s ok) p (in_pairs s p pair) n t in
        let (bound, u, least) = depth_is (arena s) p d e in
        elim (cases_lt d n) [ inl less ↦ absurd (lost_fails s ok d p u (is.no_sooner d less)) | inr no_less ↦ e ∙ ap Some (omega arith) ])
        (λ f. absurd (is.lost (unlost_holds s ok n p pair f))),
  );
  none = (
    λ e. related_great s p ok pair (not_from_false (loses (arena s) (length (pairs s)) p) (depth_none (arena s) (system_is_arena s ok) p (in_pairs s p pair) e (length (pairs s)))),
    λ great. by_depth great (depth (arena s) p) refl,
  );
}
  where
    by_depth : Great s p → (o : Option ℕ) → depth (arena s) p ≡ o → depth (arena s) p ≡ None
    by_depth great None e = e
    by_depth great (Some d) e = let (bound, t, least) = depth_is (arena s) p d e in absurd (lost_unrelated s d p ok t great)
