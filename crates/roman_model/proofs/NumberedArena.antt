-- The arenas over numbers of pairs and over pairs carry over to each other, with their removal lists, complete lists and counts.
use Rattle.roman_model.proofs.Common.{Sizes, sizes_of, count, number, pair_at, numbered, entry_at, IsCompleteList, ◌≡◌, ℕ, ◌<◌, ◌==◌, List, [], ◌∷◌, map, refl, sym, ap, ap₂, ◌∙◌, subst, inl, inr, arith, ◌+◌, not, length, IsFalse, filter, sum_by, rules, eqb-true, eq-eqb, both_ways, not-false, IsIn, below, Sys, Pair, IsSys, IsPair, outcomes, same_pair, arena, pairs, Entry, is_listed, mask, IsOrder, is_justified, loses, choices, Reason, AreEntries, IsComplete, NumberedCompletes, length-map, is_related, offers, choice_count, Final, Act, length-filter_both}
use Rattle.roman_model.proofs.Lists.{same_test, from_map, in_map, in_filter, filter_in, in_below, from_below, length-below, same_length, sum_by-map, sum_by_same, HasNoRepeats-filter, HasNoRepeats-below}
use Rattle.roman_model.proofs.SystemLemmas.{same_pair_is, same_pair_from, outcome_pair, in_pairs, from_pairs, pairs_at, pairs_once}
use Rattle.roman_model.proofs.NumberLemmas.{number-pair_at, numbers_are_pairs}
use Rattle.roman_model.proofs.Renames.{Renames, listed_renamed, mask_renamed, order_renamed, justified_renamed, loses_renamed}
use Rattle.roman_model.proofs.ArenaLemmas.{IsSame, IsArena, in_listed, listed_in, mask_empty, mask_same}
use Rattle.roman_model.proofs.OrderLemmas.{order_new, new_once}
use Rattle.roman_model.proofs.CompositionLemmas.{system_is_same, system_is_arena, complete_listed, order_completed}

-- numbers below the count are equal exactly when their pairs are
pub same_at : (n : Sizes) (i j : ℕ) → i < count n → j < count n → (i == j) ≡ same_pair (pair_at n i) (pair_at n j)
same_at n i j below_i below_j =
    same_test (i == j) (same_pair (pair_at n i) (pair_at n j))
    (λ h. same_pair_from (pair_at n i) (pair_at n j) (ap (pair_at n) (eqb-true i j h)))
    (λ h. eq-eqb i j (sym (number-pair_at n i below_i) ∙ ap (number n) (same_pair_is (pair_at n i) (pair_at n j) h) ∙ number-pair_at n j below_j))

module _ (s : Sys) where
  -- the number is the number of a pair
  abbrev pub IsNumber : ℕ → Type 0
  IsNumber i = i < count (sizes_of s)

  -- mapping pairs to numbers and back changes nothing
  there_and_back : (ps : List Pair) → ((p : Pair) → IsIn p ps → IsPair s p) → map (pair_at (sizes_of s)) (map (number (sizes_of s)) ps) ≡ ps
  there_and_back [] ok = refl
  there_and_back (p ∷ ps) ok = ap₂ (λ q qs. q ∷ qs) ((numbers_are_pairs s).back p (ok p (inl refl))) (there_and_back ps (λ q i. ok q (inr i)))

  pub outcomes_named : IsSys s → (p : Pair) → IsPair s p → (a k : ℕ) → map (pair_at (sizes_of s)) (map (number (sizes_of s)) (outcomes s p a k)) ≡ outcomes s p a k
  outcomes_named sys p ok a k = there_and_back (outcomes s p a k) (λ q i. outcome_pair s p a k q sys ok i)

  -- the numbers rename the pairs
  pub numbers_rename : IsSys s → Renames (numbered s) (arena s) (pair_at (sizes_of s)) IsNumber
  numbers_rename sys = record {
    same = same_at (sizes_of s);
    actions = refl;
    seats = refl;
    ready = λ k. refl;
    fine = λ i l. refl;
    allows = λ i l a. refl;
    outcomes = λ i l a k. outcomes_named sys (pair_at (sizes_of s) i) ((numbers_are_pairs s).pair i l) a k;
    within = λ i l a k j h.
        let (q, m, e) = from_map (number (sizes_of s)) j (outcomes s (pair_at (sizes_of s) i) a k) h in
        subst IsNumber (sym e) ((numbers_are_pairs s).below q (outcome_pair s (pair_at (sizes_of s) i) a k q sys ((numbers_are_pairs s).pair i l) m));
  }

  -- each entry is of the number of a pair
  abbrev pub AreNumbers : List (Entry ℕ) → Type 0
  AreNumbers L = (x : Entry ℕ) → IsIn x L → x.node < count (sizes_of s)

  pub entries_at : (L : List (Entry ℕ)) → AreNumbers L → AreEntries s (map (entry_at s) L)
  entries_at L are x i = grind (arith, (from_map (entry_at s) x L i), (numbers_are_pairs s))

  -- a number is listed exactly when its pair is listed
  pub listed_at : IsSys s → (L : List (Entry ℕ)) → AreNumbers L → (i : ℕ) → IsNumber i →
      is_listed (numbered s) L i ≡ is_listed (arena s) (map (entry_at s) L) (pair_at (sizes_of s) i)
  listed_at sys L are i l = listed_renamed (numbered s) (arena s) (pair_at (sizes_of s)) IsNumber (numbers_rename sys) L i are l

  pub mask_at : IsSys s → (L : List (Entry ℕ)) → AreNumbers L → (i : ℕ) → IsNumber i → (a : ℕ) →
      mask (numbered s) (is_listed (numbered s) L) i a ≡ mask (arena s) (is_listed (arena s) (map (entry_at s) L)) (pair_at (sizes_of s) i) a
  mask_at sys L are i l a =
      mask_renamed (numbered s) (arena s) (pair_at (sizes_of s)) IsNumber (numbers_rename sys)
      (is_listed (numbered s) L) (is_listed (arena s) (map (entry_at s) L)) (λ j m. listed_at sys L are j m) i l a

  -- a reason holds at a number exactly when it holds at its pair
  pub justified_at : IsSys s → (L : List (Entry ℕ)) → AreNumbers L → (i : ℕ) → IsNumber i → (r : Reason) →
      is_justified (numbered s) (is_listed (numbered s) L) i r ≡ is_justified (arena s) (is_listed (arena s) (map (entry_at s) L)) (pair_at (sizes_of s) i) r
  justified_at sys L are i l r =
      justified_renamed (numbered s) (arena s) (pair_at (sizes_of s)) IsNumber (numbers_rename sys)
      (is_listed (numbered s) L) (is_listed (arena s) (map (entry_at s) L)) (λ j m. listed_at sys L are j m) i l r

  pub order_at : IsSys s → (L : List (Entry ℕ)) → AreNumbers L → IsOrder (numbered s) L → IsOrder (arena s) (map (entry_at s) L)
  order_at sys L are order = order_renamed (numbered s) (arena s) (pair_at (sizes_of s)) IsNumber (numbers_rename sys) L are order

-- a settled list over numbers is complete, since the same list over pairs is
pub numbered_completed : NumberedCompletes
numbered_completed s L sys are order fine masked =
    order_completed s (map (entry_at s) L) sys (entries_at s L are) (order_at s sys L are order)
    (λ p ok unlisted.
    let i : IsNumber s (number (sizes_of s) p) = (numbers_are_pairs s).below p ok in
    let is : pair_at (sizes_of s) (number (sizes_of s) p) ≡ p = (numbers_are_pairs s).back p ok in
    grind (arith, (listed_at s sys L are (number (sizes_of s) p) i)))
    (λ p ok unlisted a allowed empty.
    let i : IsNumber s (number (sizes_of s) p) = (numbers_are_pairs s).below p ok in
    let is : pair_at (sizes_of s) (number (sizes_of s) p) ≡ p = (numbers_are_pairs s).back p ok in
    grind (arith, (listed_at s sys L are (number (sizes_of s) p) i), (mask_at s sys L are (number (sizes_of s) p) i a)))

-- The laws of the arena over numbers.

pub numbered_is_same : (s : Sys) → IsSame (numbered s)
numbered_is_same s = record { is = λ p q t. eqb-true p q t; itself = λ p. eq-eqb p p refl }

pub numbered_is_arena : (s : Sys) → IsSys s → IsArena (numbered s)
numbered_is_arena s ok = record {
  same = numbered_is_same s;
  allowed = λ i a t. (system_is_arena s ok).allowed (pair_at (sizes_of s) i) a t;
  closed = λ i h a k j l. in_below (count (sizes_of s)) j ((numbers_rename s ok).within i (from_below (count (sizes_of s)) i h) a k j l);
  served = λ i a k j l.
      let (q, m, e) = from_map (number (sizes_of s)) j (outcomes s (pair_at (sizes_of s) i) a k) l in
      (system_is_arena s ok).served (pair_at (sizes_of s) i) a k q m;
  once = HasNoRepeats-below (count (sizes_of s));
}

-- Complete lists.

-- a list of numbers is complete if no reason adds a number to it
pub numbered_completed_by : (s : Sys) (L : List (Entry ℕ)) → IsSys s → AreNumbers s L → IsOrder (numbered s) L →
    ((i : ℕ) → i < count (sizes_of s) → IsFalse (is_listed (numbered s) L i) → (r : Reason) → IsFalse (is_justified (numbered s) (is_listed (numbered s) L) i r)) →
    IsCompleteList s L
numbered_completed_by s L ok are order no_reason =
    numbered_completed s L ok are order
    (λ i l f. not-false ((numbered s).fine i) (no_reason i l f Final))
    (λ i l f a allowed empty.
    both_ways (is_justified (numbered s) (is_listed (numbered s) L) i (Act a)) (no_reason i l f (Act a))
    (mask_empty (numbered s) (is_listed (numbered s) L) i a allowed empty))

-- a complete list has exactly the numbers of the pairs that aren't related
pub numbered_listed : (s : Sys) (L : List (Entry ℕ)) (i : ℕ) → IsSys s → AreNumbers s L → IsCompleteList s L → i < count (sizes_of s) →
    is_listed (numbered s) L i ≡ not (is_related s (pair_at (sizes_of s) i))
numbered_listed s L i ok are complete l = grind (arith, (complete_listed s (map (entry_at s) L) (pair_at (sizes_of s) i) ok complete ((numbers_are_pairs s).pair i l)), (listed_at s ok L are i l))

-- the masks of a complete list are the offers
pub numbered_offers : (s : Sys) (L : List (Entry ℕ)) (i a : ℕ) → IsSys s → AreNumbers s L → IsCompleteList s L → i < count (sizes_of s) →
    mask (numbered s) (is_listed (numbered s) L) i a ≡ offers s (pair_at (sizes_of s) i) a
numbered_offers s L i a ok are complete l =
    mask_at s ok L are i l a
    ∙ mask_same (arena s) (is_listed (arena s) (map (entry_at s) L)) (λ q. not (is_related s q)) (pair_at (sizes_of s) i) a
    (λ k q j. complete_listed s (map (entry_at s) L) q ok complete (outcome_pair s (pair_at (sizes_of s) i) a k q ok ((numbers_are_pairs s).pair i l) j))

-- Depths.

pub numbered_loses : (s : Sys) (n i : ℕ) → IsSys s → i < count (sizes_of s) → loses (numbered s) n i ≡ loses (arena s) n (pair_at (sizes_of s) i)
numbered_loses s n i ok l = loses_renamed (numbered s) (arena s) (pair_at (sizes_of s)) (IsNumber s) (numbers_rename s ok) n i l

-- Counts.

-- there are as many pairs as numbers below the count
pub length-pairs : (s : Sys) → length (pairs s) ≡ count (sizes_of s)
length-pairs s = ap length (pairs_at s) ∙ length-map (below (count (sizes_of s))) (pair_at (sizes_of s)) ∙ length-below (count (sizes_of s))

-- a sum over the pairs equals the sum over their numbers
pub sum_over_pairs : (s : Sys) (g : Pair → ℕ) → sum_by g (pairs s) ≡ sum_by (λ i. g (pair_at (sizes_of s) i)) (below (count (sizes_of s)))
sum_over_pairs s g = ap (sum_by g) (pairs_at s) ∙ sum_by-map g (pair_at (sizes_of s)) (below (count (sizes_of s)))

-- the masks of a complete list over numbers have as many choices as the offers
pub numbered_choices : (s : Sys) (L : List (Entry ℕ)) → IsSys s → AreNumbers s L → IsCompleteList s L → choices (numbered s) (is_listed (numbered s) L) ≡ choice_count s
numbered_choices s L ok are complete = search (rules, from_below, numbered_offers, sum_by_same, sum_over_pairs)

-- the number of related pairs is the number of unlisted ones
pub related_count : (s : Sys) (L : List (Entry Pair)) → IsSys s → IsComplete s L → length (filter (is_related s) (pairs s)) + length L ≡ length (pairs s)
related_count s L ok complete = let listed : length L ≡ length (filter (λ p. not (is_related s p)) (pairs s)) =
    sym (length-map L (λ x. x.node))
    ∙ same_length (map (λ x. x.node) L) (filter (λ p. not (is_related s p)) (pairs s))
    (new_once (arena s) (system_is_same s) [] L (order_new (arena s) L complete.order))
    (HasNoRepeats-filter (λ p. not (is_related s p)) (pairs s) (pairs_once s))
    (λ p. (unrelated p, listed_node p)) in
    grind (arith, length-filter_both)
  where
    unrelated : (p : Pair) → IsIn p (map (λ x. x.node) L) → IsIn p (filter (λ q. not (is_related s q)) (pairs s))
    unrelated p i =
        let (x, j, e) = from_map (λ x. x.node) p L i in
        let pair : IsPair s p = subst (IsPair s) (sym e) (complete.pairs x j) in
        grind (arith, in_filter, (in_pairs s p pair), (complete_listed s L p ok complete pair), in_listed, (system_is_same s))

    listed_node : (p : Pair) → IsIn p (filter (λ q. not (is_related s q)) (pairs s)) → IsIn p (map (λ x. x.node) L)
    listed_node p i =
        let (j, t) = filter_in (λ q. not (is_related s q)) p (pairs s) i in
        let (x, k, e) = listed_in (arena s) (system_is_same s) L p (complete_listed s L p ok complete (from_pairs s p j) ∙ t) in
        subst (λ q. IsIn q (map (λ y. y.node) L)) (sym e) (in_map (λ y. y.node) x L k)

pub numbered_related_count : (s : Sys) (L : List (Entry ℕ)) → IsSys s → IsCompleteList s L → length (filter (is_related s) (pairs s)) + length L ≡ count (sizes_of s)
numbered_related_count s L ok complete = grind (arith, length-map, length-pairs, related_count)
