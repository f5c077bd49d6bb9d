-- A removal list is complete exactly if it lists the pairs that aren't related, validly.
use Rattle.roman_top.proofs.Common.{◌≡◌, ℕ, List, [], ◌∷◌, map, IsTrue, inl, inr, refl, sym, ap₂, ◌∙◌, subst, arith, length, not, ◌↔◌, ◌⊎◌, list_any, both_ways, or_cases, not-true, or_parts, not-false, and_from, not_from_false, or_left, or_right, IsIn, is_empty, all_below, Sys, Pair, IsSys, IsPair, is_final, all_final, pairs, outcomes, same_pair, is_fine, arena, is_allowed, Entry, is_among, is_justified, IsOrderFrom, is_beaten, is_listed, IsComplete, cert_text, sizes_of, count, pair_at, entry_at, IsCompleteList, Reason, Final, Act, any_true, any_from, in_map, from_map, from_allowed, outcome_in, from_outcome, listed_in, in_listed, length-pairs, numbers_are_pairs, map-map, system_is_same, justified_is, in_not_empty, all_below_from, allowed_in, not_empty_in, by_test, HoldsReason, AreValid, ListsUnrelated, numbered_entry, CertifiesUnrelated, LeadsTo, pair_number}

-- Reasons.

-- `is_among` is true exactly for the pairs of the list
among_is : (s : Sys) (before : List Pair) (q : Pair) → IsTrue (is_among (arena s) before q) ↔ IsIn q before
among_is s before q = (
  λ t. let (r, i, same) = any_true (same_pair q) before t in subst (λ x. IsIn x before) (sym ((system_is_same s).is q r same)) i,
  λ i. any_from (same_pair q) q before i ((system_is_same s).itself q),
)

-- a seat is beaten exactly if it has no outcome or one that is gone
beaten_is : (s : Sys) (before : List Pair) (p : Pair) (a k : ℕ) → IsSys s →
    IsTrue (is_beaten (arena s) (is_among (arena s) before) p a k) ↔ (((q : Pair) → LeadsTo s p a k q → ⊥) ⊎ ((q : Pair) × LeadsTo s p a k q × IsIn q before))
beaten_is s before p a k ok = (
  λ t. elim (or_cases (is_empty (outcomes s p a k)) (list_any (is_among (arena s) before) (outcomes s p a k)) t) [
    | inl none ↦ inl (λ q (target, system). both_ways (is_empty (outcomes s p a k)) (in_not_empty q (outcomes s p a k) (outcome_in s p a k q.t q.e q.bs ok target system)) none)
    | inr found ↦ let (q, i, t) = any_true (is_among (arena s) before) (outcomes s p a k) found in inr (q, from_outcome s p a k q i, (among_is s before q).0 t)
  ],
  λ each. elim each [
    | inl none ↦ or_left (is_empty (outcomes s p a k)) (list_any (is_among (arena s) before) (outcomes s p a k))
        (by_test (is_empty (outcomes s p a k)) (λ t. t) (λ f. let (q, i) = not_empty_in (outcomes s p a k) f in absurd (none q (from_outcome s p a k q i))))
    | inr (q, moves, gone) ↦ or_right (is_empty (outcomes s p a k)) (list_any (is_among (arena s) before) (outcomes s p a k))
        (any_from (is_among (arena s) before) q (outcomes s p a k) (outcome_in s p a k q.t q.e q.bs ok moves.0 moves.1) ((among_is s before q).1 gone))
  ],
)

unfine_is : (s : Sys) (p : Pair) → IsTrue (not (is_fine s p)) ↔ (IsTrue (is_final s.target p.t) × (IsTrue (all_final s.seats p.bs) → ⊥))
unfine_is s p = (λ t. grind (arith, both_ways, not-false, not-true, or_parts), λ (final, others). grind (arith, both_ways, by_test, not-true, not_from_false, or_cases))

reason_is : (s : Sys) (before : List Pair) (p : Pair) (reason : Reason) → IsSys s → IsTrue (is_justified (arena s) (is_among (arena s) before) p reason) ↔ HoldsReason s (λ q. IsIn q before) p reason
reason_is s before p Final ok = unfine_is s p
reason_is s before p (Act a) ok = (
  λ j. let (allowed, each) = justified_is (arena s) (is_among (arena s) before) p a j in (from_allowed s p a allowed, λ k l. (beaten_is s before p a k ok).0 (each k l)),
  λ (allows, each). and_from (is_allowed s p a) (all_below (is_beaten (arena s) (is_among (arena s) before) p a) (length s.seats)) (allowed_in s p a ok allows)
      (all_below_from (is_beaten (arena s) (is_among (arena s) before) p a) (length s.seats) (λ k l. (beaten_is s before p a k ok).1 (each k l))),
)

-- Removal lists.

valid_is : (s : Sys) (before : List Pair) (L : List (Entry Pair)) → IsSys s → IsOrderFrom (arena s) before L ↔ AreValid s before L
valid_is s before [] ok = (λ order. tt, λ valid. tt)
valid_is s before (x ∷ L) ok =
    let others = valid_is s (x.node ∷ before) L ok in
    let reason = reason_is s before x.node x.reason ok in (
      λ (new, justified, order). (λ i. both_ways (is_among (arena s) before x.node) new ((among_is s before x.node).1 i), reason.0 justified, others.0 order),
      λ (new, holds, valid). (by_test (is_among (arena s) before x.node) (λ t. absurd (new ((among_is s before x.node).0 t))) (λ f. f), reason.1 holds, others.1 valid),
    )

pub lists_unrelated : (s : Sys) (L : List (Entry Pair)) → IsSys s → IsComplete s L → ListsUnrelated s L
lists_unrelated s L ok complete = grind (arith, from_map, in_listed, in_map, listed_in, system_is_same, valid_is)

pub complete_from : (s : Sys) (L : List (Entry Pair)) → IsSys s → ListsUnrelated s L → IsComplete s L
complete_from s L ok lists = record {
  pairs = λ x i. ((lists.exact x.node).0 (in_map (λ x. x.node) x L i)).0;
  order = (valid_is s [] L ok).1 lists.valid;
  exact = λ p pair. (
    λ t. let (x, j, e) = listed_in (arena s) (system_is_same s) L p t in
        ((lists.exact p).0 (subst (λ q. IsIn q (map (λ x. x.node) L)) (sym e) (in_map (λ x. x.node) x L j))).1,
    λ unrelated.
        let (x, j, e) = from_map (λ x. x.node) p L ((lists.exact p).1 (pair, unrelated)) in
        subst (λ q. IsTrue (is_listed (arena s) L q)) (sym e) (in_listed (arena s) (system_is_same s) L x j),
  );
}

-- Numbers.

-- the entries of a complete list keep their numbers when they are read as pairs and numbered again
numbers_back : (s : Sys) (L : List (Entry ℕ)) → IsSys s → IsCompleteList s L → map (numbered_entry s) (map (entry_at s) L) ≡ L
numbers_back s L ok complete = map-map (numbered_entry s) (entry_at s) L ∙ each L (λ x i. complete.pairs (entry_at s x) (in_map (entry_at s) x L i))
  where
    each : (M : List (Entry ℕ)) → ((x : Entry ℕ) → IsIn x M → IsPair s (pair_at (sizes_of s) x.node)) → map (λ x. numbered_entry s (entry_at s x)) M ≡ M
    each [] pairs = refl
    each (x ∷ M) pairs =
        ap₂ (λ (n : ℕ) (ys : List (Entry ℕ)). record { node = n; reason = x.reason } ∷ ys)
        ((numbers_are_pairs s).there x.node (pair_number s x.node ok (pairs x (inl refl)))) (each M (λ y i. pairs y (inr i)))

pub certifies_unrelated : (s : Sys) (L : List (Entry ℕ)) (text : List ℕ) → IsSys s → IsCompleteList s L → text ≡ cert_text (count (sizes_of s)) L → CertifiesUnrelated s text
certifies_unrelated s L text ok complete says = record {
  entries = map (entry_at s) L;
  lists = lists_unrelated s (map (entry_at s) L) ok complete;
  says = says ∙ ap₂ cert_text (sym (length-pairs s)) (sym (numbers_back s L ok complete));
}
