-- The related pairs, and their ranks.
use Rattle.roman_cost.proofs.Common.{◌≡◌, ℕ, zero, suc, ◌+◌, ◌<◌, ◌≤◌, Bool, List, [], ◌∷◌, ◌++◌, map, length, get_or, filter, slice_index, IsTrue, sym, ap, ◌∙◌, subst, arith, add-one, length-append, ◌↔◌, length-map, get_or-map, map_push, IsIn, below, Sys, IsSys, IsPair, sizes_of, count, pair_at, is_related, Costs, least_at, Great, numbers_are_pairs, great_related, related_great, same_test, filter_in, in_filter, in_below, from_below, length-below, get_or-below, filter_below_more, rank, rank_at, related_pairs, HavePlaces, ranked}

-- whether the pair with that number is related
abbrev pub related_at : Sys → ℕ → Bool
related_at s p = is_related s (pair_at (sizes_of s) p)

pub in_related : (s : Sys) (p : ℕ) → p < count (sizes_of s) → IsTrue (related_at s p) → IsIn p (related_pairs s)
in_related s p l t = in_filter (related_at s) p (below (count (sizes_of s))) (in_below (count (sizes_of s)) p l) t

pub related_below : (s : Sys) (p : ℕ) → IsIn p (related_pairs s) → p < count (sizes_of s)
related_below s p i = grind (arith, filter_in, from_below)

pub related_is : (s : Sys) (p : ℕ) → IsIn p (related_pairs s) → IsTrue (related_at s p)
related_is s p i = grind (arith, filter_in)

-- the answer of a relation about a pair equals `related_at`
pub told_related : (s : Sys) (p : ℕ) (told : Bool) → IsSys s → p < count (sizes_of s) → (IsTrue told ↔ Great s (pair_at (sizes_of s) p)) → told ≡ related_at s p
told_related s p told ok l says =
    let pair : IsPair s (pair_at (sizes_of s) p) = (numbers_are_pairs s).pair p l in
    same_test told (related_at s p) (λ t. great_related s (pair_at (sizes_of s) p) ok (says.0 t)) (λ t. says.1 (related_great s (pair_at (sizes_of s) p) ok pair t))

-- The ranks so far.

pub rank-le : (q : ℕ → Bool) (n : ℕ) → rank q n ≤ n
rank-le q zero = omega arith
rank-le q (suc n) = grind (arith, filter_below_more, rank, length-append, (rank-le q n))

pub ranks_more : (q : ℕ → Bool) (n : ℕ) (ranks new : List ℕ) (r : ℕ) → ranks ≡ map (rank q) (below n) → r ≡ rank q n → new ≡ ranks ++ r ∷ [] →
    new ≡ map (rank q) (below (n + 1))
ranks_more q n ranks new r before is next =
    next ∙ ap (λ xs. xs ++ r ∷ []) before ∙ ap (λ k. map (rank q) (below n) ++ k ∷ []) is ∙ sym (map_push (rank q) (below n) n) ∙ ap (λ m. map (rank q) (below m)) (sym (add-one n))

-- the ranks after all numbers below n
pub ranks_done : (q : ℕ → Bool) (n : ℕ) (pairs ranks : List ℕ) → pairs ≡ filter q (below n) → ranks ≡ map (rank q) (below n) → HavePlaces pairs ranks
ranks_done q n pairs ranks ps rs = subst (λ xs. HavePlaces xs ranks) (sym ps) (subst (λ xs. HavePlaces (filter q (below n)) xs) (sym rs) (record {
  within = λ p i. let l : p < n = small p i in subst (λ m. p < m) (sym long) l;
  below = λ p i. subst (λ r. r < length (filter q (below n))) (sym (is p (small p i))) (rank_at q n p 0 (small p i) (passes p i)).0;
  at = λ p i. ap (λ r. get_or (filter q (below n)) r 0) (is p (small p i)) ∙ (rank_at q n p 0 (small p i) (passes p i)).1;
}))
  where
    long : length (map (rank q) (below n)) ≡ n
    long = length-map (below n) (rank q) ∙ length-below n

    small : (p : ℕ) → IsIn p (filter q (below n)) → p < n
    small p i = from_below n p (filter_in q p (below n) i).0

    passes : (p : ℕ) → IsIn p (filter q (below n)) → IsTrue (q p)
    passes p i = (filter_in q p (below n) i).1

    is : (p : ℕ) → p < n → slice_index (map (rank q) (below n)) p ≡ rank q p
    is p l = get_or-map (rank q) (below n) p 0 0 (subst (λ m. p < m) (sym (length-below n)) l) ∙ ap (rank q) (get_or-below n p 0 l)

-- the value of a related pair, among those of all of them
pub ranked_value : (s : Sys) (C : Costs) (h : ℕ) (pairs ranks values : List ℕ) (p : ℕ) → HavePlaces pairs ranks → IsIn p pairs → values ≡ map (least_at s C h) pairs →
    ranked ranks values p ≡ least_at s C h p
ranked_value s C h pairs ranks values p are i is =
    ap (λ xs. get_or xs (slice_index ranks p) 0) is ∙ get_or-map (least_at s C h) pairs (slice_index ranks p) 0 0 (are.below p i) ∙ ap (least_at s C h) (are.at p i)
