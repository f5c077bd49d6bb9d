-- The number of pairs that aren't listed.
use Rattle.roman_order.proofs.Common.{◌≡◌, ℕ, zero, suc, ◌+◌, ◌<◌, true, not, ◌&&◌, eqb, List, length, refl, sym, ap, arith, list_any, IsDistinct, cases_Bool, eq-eqb, ne_eqb, none_from, any_from, in_below, from_below, length-below, length-map, length-filter, IsDistinct-push, Entry, below, nodes_of, has_entry, count_by, nat_eq_equiv, length-IsIntersection, length-filter_both}
use Rattle.roman_order.proofs.Places.{has_entry-nodes}

below_apart : (n : ℕ) → IsDistinct eqb (below n)
unfolding IsDistinct
below_apart zero = tt
below_apart (suc n) = IsDistinct-push nat_eq_equiv (below n) n (below_apart n) (none_from (eqb n) (below n) (λ q i. ne_eqb n q (λ e. omega (arith, e, from_below n q i))))

-- the number of unlisted pairs plus the number of entries is the number of pairs
pub counted_unlisted : (n : ℕ) (L : List (Entry ℕ)) → IsDistinct eqb (nodes_of L) → ((p : ℕ) → has_entry L p ≡ true → p < n) → count_by (λ p. not (has_entry L p)) (below n) + length L ≡ n
counted_unlisted n L apart in_range =
    let among = λ (q : ℕ). list_any (eqb q) (nodes_of L) in
    let both : (q : ℕ) → among q ≡ (list_any (eqb q) (below n) && among q) = λ q. grind (arith, cases_Bool, (λ (t : has_entry L q ≡ true). any_from (eqb q) q (below n) (in_below n q (in_range q t)) (eq-eqb q q refl)), (has_entry-nodes L q)) in
    let listed = length-IsIntersection nat_eq_equiv (below n) (nodes_of L) (nodes_of L) (below_apart n) apart both in
    let others = length-filter_both among (λ q. not (has_entry L q)) (λ q. ap not (sym (has_entry-nodes L q))) (below n) in
    omega (arith, listed, others, length-filter among (below n), length-filter (λ q. not (has_entry L q)) (below n), length-below n, length-map L (λ (x : Entry ℕ). x.node))
