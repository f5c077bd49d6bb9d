-- Facts about a complete relation for ranking its pairs.
use Rattle.roman_rank.proofs.Common.{◌≡◌, ℕ, ◌-◌, ◌^◌, ◌<◌, true, length, IsFalse, inl, inr, sym, ◌∙◌, subst, arith, not_from_false, cases_lt, Arena, sizes_of, count, pair_at, by_test, length-below, related_great, numbers_are_pairs, numbered_loses, last_is_steady, system_of, has_entry, arena_of, IsNumbered, numbered_arena, in_nodes, HoldsAllLost, is_related, lost_unrelated, loses_up, mul-le-mul_left, numbered_listed, settled_exact, NamedSys, IsNamedSys, Board, pairs_of, IsShaped, IsSettled, row_lanes, HasCompleteList, listed_numbers, from_nodes}

-- a joint has far fewer pairs than a number of 32 bits has values
pub few_pairs : (n : NamedSys) → IsNamedSys n → length (arena_of n).nodes < 2 ^ 32 - 1
few_pairs n known = grind (arith, length-below, mul-le-mul_left)

-- a complete list has every pair at which the opponent wins
pub complete_all : (n : NamedSys) (board : Board) → IsNamedSys n → HasCompleteList n board → IsShaped (arena_of n) (row_lanes n) board → ((p : ℕ) → has_entry board.list p ≡ true → p < pairs_of board) →
    HoldsAllLost (arena_of n) board.list
complete_all n board known complete shaped in_range = record {
  each = λ p l m t.
      let s = system_of n in
      let inside : p < count (sizes_of s) = subst (λ k. p < k) (length-below (count (sizes_of s))) l in
      let q = pair_at (sizes_of s) p in
      let unrelated : IsFalse (is_related s q) = by_test (is_related s q)
      (λ r. absurd (lost_unrelated s m q known.system (sym (numbered_loses s m p known.system inside) ∙ t) (related_great s q known.system ((numbers_are_pairs s).pair p inside) r)))
      (λ f. f) in
      numbered_listed s board.list p known.system (listed_numbers s board shaped.pairs in_range) complete.list inside ∙ not_from_false (is_related s q) unrelated;
}

-- a settled list has every pair at which the opponent wins
pub settled_all : (A : Arena ℕ) (board : Board) → IsNumbered A → IsSettled A board.list → HoldsAllLost A board.list
settled_all A board ok settled = record {
  each = λ p l n t.
      let exact = settled_exact A (numbered_arena A ok) board.list settled.order
      (λ q i f reason. settled.no_more q (from_nodes A ok q i) f reason) p (in_nodes A ok p l) in
      exact ∙ elim (cases_lt n (length A.nodes)) [
        | inl less ↦ loses_up A n (length A.nodes) p (omega arith) t
        | inr more ↦ sym (last_is_steady A (numbered_arena A ok) n more p (in_nodes A ok p l)) ∙ t
      ];
}
