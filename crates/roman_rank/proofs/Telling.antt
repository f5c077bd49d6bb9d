-- The facts that a table of depths states about its system.
use Rattle.roman_rank.proofs.Common.{◌≡◌, ◌≢◌, ℕ, suc, ◌+◌, ◌-◌, ◌^◌, ◌<◌, ◌≤◌, ◌==◌, cond, List, [], ◌++◌, length, drop, get_or, slice_index, Some, inl, inr, refl, sym, ap, ◌∙◌, subst, arith, add-one, count_by, both_ways, cases_lt, cond-true, cond-false, eqb-true, eq-eqb, ne_eqb, not_from_false, get_or_past, below, loses, sizes_of, count, pair_at, by_test, related_great, numbers_are_pairs, numbered_loses, IsRank, AreRanks, level_lines, none-some, IsLeast, Counts, ◌⊎◌, ◌↔◌, filter, Option, None, Result, ap₂, append_assoc, append-nil, drop-cons, IfSome, cases_order, length-filter, Puts, Sys, Pair, IsSys, IsPair, pairs, arena, couple, Great, number, numbered, DepthPlayWins, in_filter, filter_in, HasNoRepeats-filter, depth_won, depth_least, great_holds, lost_fails, unlost_holds, in_pairs, from_pairs, pairs_once, sum_over_pairs, IsDepth, IsGreatest, depth_in, AreDepths, IsRanking, head_lines, level_line, last_lines, TellsDepths, PutsDepths}
use Rattle.roman_rank.proofs.Tallies.{count_places, count_there, count_place}

-- ---- the depth of a pair

-- the depth of a pair by its rank
rank_depth : (s : Sys) (p d : ℕ) → IsSys s → p < count (sizes_of s) → IsRank (numbered s) p d → IsDepth s (pair_at (sizes_of s) p) (cond (d == 2 ^ 32 - 1) None (Some d))
rank_depth s p d ok l (inl (few, lost, least)) =
    let q = pair_at (sizes_of s) p in
    let other : d ≢ 2 ^ 32 - 1 = λ e. absurd (omega (arith, few, e)) in
    subst (IsDepth s q) (sym (cond-false (d == 2 ^ 32 - 1) None (Some d) (ne_eqb d (2 ^ 32 - 1) other))) (record {
      lost = lost_fails s ok d q (sym (numbered_loses s d p ok l) ∙ lost);
      no_sooner = λ m less. unlost_holds s ok m q ((numbers_are_pairs s).pair p l) (sym (numbered_loses s m p ok l) ∙ least m less);
    })
rank_depth s p d ok l (inr (is, never)) =
    let q = pair_at (sizes_of s) p in
    subst (IsDepth s q) (sym (cond-true (d == 2 ^ 32 - 1) None (Some d) (eq-eqb d (2 ^ 32 - 1) is))) (related_great s q ok ((numbers_are_pairs s).pair p l)
    (not_from_false (loses (arena s) (length (pairs s)) q) (sym (numbered_loses s (length (pairs s)) p ok l) ∙ never (length (pairs s)))))

-- a table of ranks is a table of depths
pub ranks_depths : (s : Sys) (table : List ℕ) → IsSys s → length (numbered s).nodes ≡ count (sizes_of s) → AreRanks (numbered s) table → AreDepths s table
ranks_depths s table ok nodes ranks = grind (arith, rank_depth)

-- the table has no depth of a related pair, and the depth of any other pair
pub depth_cases : (s : Sys) (table : List ℕ) (p : ℕ) → AreDepths s table → p < count (sizes_of s) →
    ((slice_index table p ≡ 2 ^ 32 - 1) × Great s (pair_at (sizes_of s) p)) ⊎ ((slice_index table p ≢ 2 ^ 32 - 1) × IsLeast s (pair_at (sizes_of s) p) (slice_index table p))
depth_cases s table p are l = grind (arith, both_ways, by_test, cond-false, cond-true, eq-eqb, eqb-true)

least_unrelated : (s : Sys) (p : Pair) (n : ℕ) → IsLeast s p n → Great s p → ⊥
least_unrelated s p n least great = least.lost (great_holds s n (couple p) great)

least_once : (s : Sys) (p : Pair) (m n : ℕ) → IsLeast s p m → IsLeast s p n → m ≡ n
least_once s p m n one two = elim (cases_order m n) [
  | inl e ↦ e
  | inr other ↦ elim other [ inl less ↦ absurd (one.lost (two.no_sooner m less)) | inr more ↦ absurd (two.lost (one.no_sooner n more)) ]
]

-- ---- counts

-- as many pairs have a property as a number occurs in the table, if it occurs exactly at their places
counts_by : (s : Sys) (table : List ℕ) (n : ℕ) (P : Pair → Type 0) → length table ≡ count (sizes_of s) →
    ((i : ℕ) → i < count (sizes_of s) → (slice_index table i ≡ n) ↔ P (pair_at (sizes_of s) i)) → Counts s P (count_by (λ d. d == n) table)
counts_by s table n P long is =
    let n_s = numbers_are_pairs s in
    let has = λ (p : Pair). slice_index table (number (sizes_of s) p) == n in
    record {
      pairs = filter has (pairs s);
      once = HasNoRepeats-filter has (pairs s) (pairs_once s);
      each = λ p. (
        λ i.
            let (j, t) = filter_in has p (pairs s) i in
            let pair = from_pairs s p j in
            (pair, subst P (n_s.back p pair) ((is (number (sizes_of s) p) (n_s.below p pair)).0 (eqb-true (slice_index table (number (sizes_of s) p)) n t))),
        λ (pair, holds). in_filter has p (pairs s) (in_pairs s p pair)
            (eq-eqb (slice_index table (number (sizes_of s) p)) n ((is (number (sizes_of s) p) (n_s.below p pair)).1 (subst P (sym (n_s.back p pair)) holds))),
      );
      count = length-filter has (pairs s) ∙ (sum_over_pairs s (λ p. cond (has p) 1 0)
          ∙ sym (count_places table (λ d. d == n) (λ i. has (pair_at (sizes_of s) i)) (count (sizes_of s)) long (λ i l. ap (λ m. get_or table m 0 == n) (sym (n_s.there i l)))));
    }

pub depth_counted : (s : Sys) (table : List ℕ) (n : ℕ) → AreDepths s table → n < 2 ^ 32 - 1 → Counts s (λ p. IsLeast s p n) (count_by (λ d. d == n) table)
depth_counted s table n are few = counts_by s table n (λ p. IsLeast s p n) are.long (λ i l. elim (depth_cases s table i are l) [
  | inl (none, great) ↦ (λ e. absurd (omega (arith, none, e, few)), λ least. absurd (least_unrelated s (pair_at (sizes_of s) i) n least great))
  | inr (some, least) ↦ (λ e. subst (IsLeast s (pair_at (sizes_of s) i)) e least, λ other. least_once s (pair_at (sizes_of s) i) (slice_index table i) n least other)
])

pub related_counted : (s : Sys) (table : List ℕ) → AreDepths s table → Counts s (Great s) (count_by (λ d. d == 2 ^ 32 - 1) table)
related_counted s table are = counts_by s table (2 ^ 32 - 1) (Great s) are.long (λ i l. elim (depth_cases s table i are l) [
  | inl (none, great) ↦ (λ e. great, λ g. none)
  | inr (some, least) ↦ (λ e. absurd (some e), λ great. absurd (least_unrelated s (pair_at (sizes_of s) i) (slice_index table i) least great))
])

-- ---- the greatest depth

-- a depth in the table is counted
within_counts : (table counts : List ℕ) (i : ℕ) → IsRanking table counts → i < length table → slice_index table i ≢ 2 ^ 32 - 1 → slice_index table i < length counts
within_counts table counts i ranking l some = elim (cases_lt (slice_index table i) (length counts)) [
  | inl h ↦ h
  | inr past ↦
      let few : slice_index table i < 2 ^ 32 - 1 = omega (arith, ranking.small i, some) in
      let none : slice_index counts (slice_index table i) ≡ 0 = get_or_past counts (slice_index table i) 0 past in
      let there : 0 < count_by (λ d. d == slice_index table i) table = count_there (λ d. d == slice_index table i) table i l (eq-eqb (slice_index table i) (slice_index table i) refl) in
      absurd (omega (arith, none, there, ranking.counted.each (slice_index table i) few))
]

-- a fact about each number of a pair holds for each pair
by_number : (s : Sys) (P : Pair → Type 0) → ((i : ℕ) → i < count (sizes_of s) → P (pair_at (sizes_of s) i)) → (p : Pair) → IsPair s p → P p
by_number s P each p pair = subst P ((numbers_are_pairs s).back p pair) (each (number (sizes_of s) p) ((numbers_are_pairs s).below p pair))

-- each pair is related, or its depth is counted
pub all_counted : (s : Sys) (table counts : List ℕ) → AreDepths s table → IsRanking table counts → (p : Pair) → IsPair s p → Great s p ⊎ ((n : ℕ) × (n < length counts) × IsLeast s p n)
all_counted s table counts are ranking =
    by_number s (λ p. Great s p ⊎ ((n : ℕ) × (n < length counts) × IsLeast s p n)) (λ i l. elim (depth_cases s table i are l) [
      | inl (none, great) ↦ inl great
      | inr (some, least) ↦ inr (slice_index table i, within_counts table counts i ranking (subst (λ m. i < m) (sym are.long) l) some, least)
    ])

pub last_greatest : (s : Sys) (table counts : List ℕ) → AreDepths s table → IsRanking table counts → 0 < length counts → IsGreatest s (length counts - 1)
last_greatest s table counts are ranking some =
    record {
      some =
          let n = length counts - 1 in
          let few : n < 2 ^ 32 - 1 = omega (arith, ranking.counted.within) in
          let counted : 0 < count_by (λ d. d == n) table = subst (λ m. 0 < m) (ranking.counted.each n few) (ranking.counted.last some) in
          let (i, l, t) = count_place (λ d. d == n) table counted in
          let inside : i < count (sizes_of s) = subst (λ m. i < m) are.long l in
          elim (depth_cases s table i are inside) [
            | inl (none, great) ↦ absurd (omega (arith, none, eqb-true (get_or table i 0) n t, few))
            | inr (deep, least) ↦ (pair_at (sizes_of s) i, (numbers_are_pairs s).pair i inside, subst (IsLeast s (pair_at (sizes_of s) i)) (eqb-true (get_or table i 0) n t) least)
          ];
      all = λ p pair. elim (all_counted s table counts are ranking p pair) [
        | inl great ↦ inl great
        | inr (n, less, least) ↦ inr (n, omega arith, least)
      ];
    }

-- every pair is related exactly if no depth is counted
pub none_counted : (s : Sys) (table counts : List ℕ) → AreDepths s table → IsRanking table counts → (length counts ≡ 0) ↔ ((p : Pair) → IsPair s p → Great s p)
none_counted s table counts are ranking = (
  λ e p pair. elim (all_counted s table counts are ranking p pair) [ inl great ↦ great | inr (n, less, least) ↦ absurd (omega (arith, e, less)) ],
  λ all. elim (cases_lt 0 (length counts)) [
    | inl some ↦
        let (p, pair, least) = (last_greatest s table counts are ranking some).some in
        absurd (least_unrelated s p (length counts - 1) least (all p pair))
    | inr none ↦ omega (arith, none)
  ],
)

-- ---- the text

-- the opponent that plays by the depths wins within the depth of the start pair
won_within : (s : Sys) (p : Pair) (o : Option ℕ) → IsSys s → IsPair s p → IsDepth s p o → IfSome o (λ n. DepthPlayWins s n p)
won_within s p None ok pair great = tt
won_within s p (Some n) ok pair least = depth_won s ok p pair n (((depth_least s ok p pair).least n).1 least)

-- the text by a table states the depths
pub table_tells : (s : Sys) (table counts : List ℕ) (p related : ℕ) (start : Option ℕ) → AreDepths s table → IsRanking table counts → p < length table →
    Counts s (Great s) related → start ≡ depth_in table p →
    TellsDepths s (pair_at (sizes_of s) p) (head_lines (length table) related ++ level_lines 0 counts ++ last_lines start)
table_tells s table counts p related start are ranking l great e =
    let inside : p < count (sizes_of s) = subst (λ m. p < m) are.long l in
    let depth : IsDepth s (pair_at (sizes_of s) p) start = subst (IsDepth s (pair_at (sizes_of s) p)) (sym e) (are.each p inside) in
    record {
      related = related;
      great = great;
      counts = counts;
      counted = λ n less.
          let few : n < 2 ^ 32 - 1 = omega (arith, ranking.counted.within) in
          subst (Counts s (λ q. IsLeast s q n)) (sym (ranking.counted.each n few)) (depth_counted s table n are few);
      all = all_counted s table counts are ranking;
      last = ranking.counted.last;
      start = start;
      depth = depth;
      wins = won_within s (pair_at (sizes_of s) p) start are.system ((numbers_are_pairs s).pair p inside) depth;
      says = ap (λ n. head_lines n related ++ level_lines 0 counts ++ last_lines start) are.long;
    }

-- a text that states the depths was written
pub told_puts : {T E : Type 0} (s : Sys) (table counts : List ℕ) (p pairs related : ℕ) (start : Option ℕ) (old new : Option (List ℕ)) (result : Result T E) → AreDepths s table → IsRanking table counts → p < length table →
    pairs ≡ length table → Counts s (Great s) related → start ≡ depth_in table p → Puts old new (head_lines pairs related ++ level_lines 0 counts ++ last_lines start) result →
    PutsDepths s (pair_at (sizes_of s) p) old new result
told_puts s table counts p pairs related start old new result are ranking l long is e puts = grind (arith, table_tells)

-- ---- the results of the calls

-- the depth of a pair
pub depth_is_least : (s : Sys) (table : List ℕ) (p : ℕ) (o : Option ℕ) → AreDepths s table → p < length table → o ≡ depth_in table p → IfSome o (IsLeast s (pair_at (sizes_of s) p))
depth_is_least s table p o are l e = grind arith

pub depth_is_none : (s : Sys) (table : List ℕ) (p : ℕ) (o : Option ℕ) → AreDepths s table → p < length table → o ≡ depth_in table p → (o ≡ None) ↔ Great s (pair_at (sizes_of s) p)
depth_is_none s table p o are l e = grind (arith, least_unrelated, none-some)

pub some_depth : (table : List ℕ) (p d : ℕ) → d ≡ slice_index table p → d ≢ 2 ^ 32 - 1 → Some d ≡ depth_in table p
some_depth table p d is other =
    ap Some is ∙ sym (cond-false (slice_index table p == 2 ^ 32 - 1) None (Some (slice_index table p)) (ne_eqb (slice_index table p) (2 ^ 32 - 1) (λ e. other (is ∙ e))))

-- ---- the lines, one by one

pub next_line : (counts : List ℕ) (n : ℕ) (bytes : List ℕ) → n < length counts → bytes ≡ level_line n (slice_index counts n) → level_lines n (drop n counts) ≡ bytes ++ level_lines (n + 1) (drop (n + 1) counts)
next_line counts n bytes l e =
    ap (level_lines n) (drop-cons counts n 0 l)
    ∙ (ap (λ line. line ++ level_lines (suc n) (drop (suc n) counts)) (sym e) ∙ ap (λ m. bytes ++ level_lines m (drop m counts)) (sym (add-one n)))

-- the pieces of the text
pub whole_pieces : (head lines last one three : List ℕ) → one ≡ head → three ≡ last → one ++ (lines ++ (three ++ [])) ≡ head ++ lines ++ last
whole_pieces head lines last one three e f = ap₂ (λ xs ys. xs ++ (lines ++ ys)) e (append-nil three ∙ f) ∙ sym (append_assoc head lines last)
