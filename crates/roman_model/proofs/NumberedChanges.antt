-- Changes over the numbers of pairs: renaming and replay agree with those over pairs.
use Rattle.roman_model.proofs.Common.{◌≡◌, ℕ, ◌+◌, ◌*◌, ◌<◌, ◌==◌, Bool, true, false, List, [], ◌∷◌, map, length, filter, flat_map, Some, if◌then◌else◌, slice_get, refl, sym, ap, ap₂, ◌∙◌, subst, inl, inr, arith, list_any, cond-true, length-map, flat_map-map, mul-add-lt, slice_get_within, IsIn, below, Seat, Sys, Pair, IsSys, is_allowed, same_pair, arena, Entry, IsOrder, replay, Freeze, Thaw, Join, Die, grown, without, may_go, firsts, entry_without, rename, after, Change, grown_entries, CanChange, KeepsAll, RenamedReplays, Sizes, sizes_of, grown_sizes, sizes_without, count, pair_at, numbered, entry_at, number_without, grown_numbers, number_entry_without, first_numbers, rename_numbers}
use Rattle.roman_model.proofs.Lists.{by_test, any_same, list_any-map, from_map, from_flat_map, filter_in, from_below, sublist_in, filter-map, flat_map_same_in, map_same_in, map-map, map-flat_map}
use Rattle.roman_model.proofs.OrderLemmas.{replay_whole, replay_sublist}
use Rattle.roman_model.proofs.NumberLemmas.{IsPairOf-at, number_below, pair_at-grown, count-grown, number_without-is, pair_at-without, IsPairOf-without}
use Rattle.roman_model.proofs.Renames.{order_named, replay_renamed}
use Rattle.roman_model.proofs.NumberedArena.{same_at, IsNumber, AreNumbers, numbers_rename, entries_at, order_at}
use Rattle.roman_model.proofs.ChangeLemmas.{sizes-turned, sizes-joined, sizes-left, turned, renaming_keeps}

-- the entry of a pair, from the sizes alone
abbrev pub pair_entry : Sizes → Entry ℕ → Entry Pair
pair_entry n x = record { node = pair_at n x.node; reason = x.reason }

-- The nodes of renamed entries

grown_named : (n : Sizes) (size : ℕ) (x : Entry ℕ) → x.node < count n →
    map (pair_entry (grown_sizes n size)) (grown_numbers size x) ≡ map (λ b. record { node = grown (pair_at n x.node) b; reason = x.reason }) (below size)
grown_named n size x l = grind (arith, from_below, map-map, map_same_in, pair_at-grown)

join_named : (n : Sizes) (seat : Seat) (L : List (Entry ℕ)) → ((x : Entry ℕ) → IsIn x L → x.node < count n) →
    map (pair_entry (grown_sizes n seat.beh.states)) (flat_map (grown_numbers seat.beh.states) L) ≡ flat_map (grown_entries seat) (map (pair_entry n) L)
join_named n seat L are = grind (arith, flat_map-map, flat_map_same_in, grown_named, map-flat_map)

firsts_named : (n : Sizes) (seen : List ℕ) (L : List (Entry ℕ)) → ((i : ℕ) → IsIn i seen → i < count n) → ((x : Entry ℕ) → IsIn x L → x.node < count n) →
    map (pair_entry n) (first_numbers seen L) ≡ firsts (map (pair_at n) seen) (map (pair_entry n) L)
firsts_named n seen [] known are = refl
firsts_named n seen (x ∷ L) known are =
    both (list_any (λ i. x.node == i) seen) (first_numbers seen L) (first_numbers (x.node ∷ seen) L)
    ∙ ap₂ (λ us ws. if list_any (λ i. x.node == i) seen then us else pair_entry n x ∷ ws)
    (firsts_named n seen L known (λ y i. are y (inr i)))
    (firsts_named n (x.node ∷ seen) L more (λ y i. are y (inr i)))
    ∙ ap (λ b. if b then firsts (map (pair_at n) seen) (map (pair_entry n) L) else pair_entry n x ∷ firsts (map (pair_at n) (x.node ∷ seen)) (map (pair_entry n) L))
    (any_same (λ i. x.node == i) (λ i. same_pair (pair_at n x.node) (pair_at n i)) seen (λ i m. same_at n x.node i (are x (inl refl)) (known i m))
    ∙ sym (list_any-map (pair_at n) (same_pair (pair_at n x.node)) seen))
  where
    both : (b : Bool) (us ws : List (Entry ℕ)) → map (pair_entry n) (if b then us else x ∷ ws) ≡ (if b then map (pair_entry n) us else pair_entry n x ∷ map (pair_entry n) ws)
    both true us ws = refl
    both false us ws = refl

    more : (i : ℕ) → IsIn i (x.node ∷ seen) → i < count n
    more i (inl e) = subst (λ j. j < count n) (sym e) (are x (inl refl))
    more i (inr m) = known i m

-- a number without the k-th state is the number of a pair
pub number_without_below : (n : Sizes) (i k : ℕ) → i < count n → k < length n.seats → number_without k n i < count (sizes_without k n)
number_without_below n i k l h = grind (arith, (number_below (sizes_without k n) (without k (pair_at n i)) (IsPairOf-without n (pair_at n i) k (IsPairOf-at n i l))), (number_without-is n i k l h))

first_numbers_in : (seen : List ℕ) (L : List (Entry ℕ)) (x : Entry ℕ) → IsIn x (first_numbers seen L) → IsIn x L
first_numbers_in seen [] x i = absurd i
first_numbers_in seen (y ∷ L) x i = grind (arith, by_test, cond-true, (first_numbers_in seen L x), (first_numbers_in (y.node ∷ seen) L x))

die_named : (n : Sizes) (k : ℕ) (seat : Seat) (L : List (Entry ℕ)) → k < length n.seats → ((x : Entry ℕ) → IsIn x L → x.node < count n) →
    map (pair_entry (sizes_without k n)) (rename_numbers (Die k seat) n L) ≡ rename (Die k seat) (map (pair_entry n) L)
die_named n k seat L h are = firsts_named (sizes_without k n) [] (map (number_entry_without k n) kept) (λ i none. absurd none) (λ x i. within x i)
    ∙ ap (firsts [])
    (map-map (pair_entry (sizes_without k n)) (number_entry_without k n) kept
    ∙ map_same_in (λ x. pair_entry (sizes_without k n) (number_entry_without k n x)) (λ x. entry_without k (pair_entry n x)) kept
    (λ x i. ap (λ p. record { node = p; reason = x.reason }) (pair_at-without n x.node k (are x (filter_in (λ x. may_go k seat (pair_at n x.node)) x L i).0) h))
    ∙ sym (map-map (entry_without k) (pair_entry n) kept)
    ∙ ap (map (entry_without k)) (sym (filter-map (λ x. may_go k seat x.node) (pair_entry n) L)))
  where
    kept : List (Entry ℕ)
    kept = filter (λ x. may_go k seat (pair_at n x.node)) L

    within : (x : Entry ℕ) → IsIn x (map (number_entry_without k n) (filter (λ x. may_go k seat (pair_at n x.node)) L)) → x.node < count (sizes_without k n)
    within x i = grind (arith, filter_in, from_map, number_without_below)

-- the sizes after a change
abbrev pub sizes_after : Change → Sizes → Sizes
sizes_after (Join seat) n = grown_sizes n seat.beh.states
sizes_after (Die k seat) n = sizes_without k n
sizes_after _ n = n

pub sizes-after : (change : Change) (s : Sys) → sizes_of (after change s) ≡ sizes_after change (sizes_of s)
sizes-after (Freeze k) s = sizes-turned s k true
sizes-after (Thaw k) s = sizes-turned s k false
sizes-after (Join seat) s = sizes-joined s seat
sizes-after (Die k seat) s = sizes-left s k

seat_place : (s : Sys) (k : ℕ) (seat : Seat) → slice_get s.seats k ≡ Some seat → k < length (sizes_of s).seats
seat_place s k seat seated = subst (λ m. k < m) (sym (length-map s.seats (λ x. x.beh.states))) (slice_get_within s.seats k seat seated)

named : (change : Change) (s : Sys) (L : List (Entry ℕ)) → CanChange change s → AreNumbers s L →
    map (pair_entry (sizes_after change (sizes_of s))) (rename_numbers change (sizes_of s) L) ≡ rename change (map (pair_entry (sizes_of s)) L)
named (Join seat) s L can are = join_named (sizes_of s) seat L are
named (Die k seat) s L can are = die_named (sizes_of s) k seat L (seat_place s k seat can) are
named _ _ _ _ _ = refl

-- the renamed numbers are the numbers of the renamed pairs, in the same order
pub numbers_renamed : (change : Change) (s : Sys) (L : List (Entry ℕ)) → CanChange change s → AreNumbers s L →
    map (entry_at (after change s)) (rename_numbers change (sizes_of s) L) ≡ rename change (map (entry_at s) L)
numbers_renamed change s L can are = ap (λ n. map (pair_entry n) (rename_numbers change (sizes_of s) L)) (sizes-after change s) ∙ named change s L can are

renamed_below : (change : Change) (s : Sys) (L : List (Entry ℕ)) → CanChange change s → AreNumbers s L → (x : Entry ℕ) → IsIn x (rename_numbers change (sizes_of s) L) → x.node < count (sizes_after change (sizes_of s))
renamed_below (Join seat) s L can are x i = let (y, j, m) = from_flat_map (grown_numbers seat.beh.states) x L i in
    let (b, l, e) = from_map (λ b. record { node = y.node * seat.beh.states + b; reason = y.reason }) x (below seat.beh.states) m in
    let fits : y.node * seat.beh.states + b < seat.beh.states * count (sizes_of s) = mul-add-lt y.node seat.beh.states b (count (sizes_of s)) (are y j) (from_below seat.beh.states b l) in
    let more : count (grown_sizes (sizes_of s) seat.beh.states) ≡ count (sizes_of s) * seat.beh.states = count-grown (sizes_of s) seat.beh.states in
    grind arith
renamed_below (Die k seat) s L can are x i =
    let (y, j, e) = from_map (number_entry_without k (sizes_of s)) x (filter (λ x. may_go k seat (pair_at (sizes_of s) x.node)) L) (first_numbers_in [] (map (number_entry_without k (sizes_of s)) (filter (λ x. may_go k seat (pair_at (sizes_of s) x.node)) L)) x i) in
    subst (λ z. z.node < count (sizes_without k (sizes_of s))) (sym e)
    (number_without_below (sizes_of s) y.node k (are y (filter_in (λ x. may_go k seat (pair_at (sizes_of s) x.node)) y L j).0) (seat_place s k seat can))
renamed_below _ _ _ _ are x i = are x i

-- the renamed entries are of the numbers of pairs
pub numbers_below : (change : Change) (s : Sys) (L : List (Entry ℕ)) → CanChange change s → AreNumbers s L → AreNumbers (after change s) (rename_numbers change (sizes_of s) L)
numbers_below change s L can are x i = subst (λ n. x.node < count n) (sym (sizes-after change s)) (renamed_below change s L can are x i)

-- The replay of the renamed list over numbers is a removal list of the new system, corresponds to the replay over pairs, and after a freeze
-- or a death is the whole renamed list.
pub record NumbersReplay (change : Change) (s : Sys) (L : List (Entry ℕ)) : Type 0 where
  pub system : IsSys (after change s)
  pub numbers : AreNumbers (after change s) (rename_numbers change (sizes_of s) L)
  pub order : IsOrder (numbered (after change s)) (replay (numbered (after change s)) (rename_numbers change (sizes_of s) L))
  pub whole : KeepsAll change → replay (numbered (after change s)) (rename_numbers change (sizes_of s) L) ≡ rename_numbers change (sizes_of s) L
  pub pairs : map (entry_at (after change s)) (replay (numbered (after change s)) (rename_numbers change (sizes_of s) L)) ≡ replay (arena (after change s)) (rename change (map (entry_at s) L))

pub numbers_replay : (change : Change) (s : Sys) (L : List (Entry ℕ)) → IsSys s → CanChange change s → AreNumbers s L → IsOrder (numbered s) L → NumbersReplay change s L
numbers_replay change s L ok can are order = record {
  system = kept.system;
  numbers = numbers_below change s L can are;
  order = order_named (numbered (after change s)) (arena (after change s)) (pair_at (sizes_of (after change s))) (IsNumber (after change s)) (numbers_rename (after change s) kept.system)
      (replay (numbered (after change s)) (rename_numbers change (sizes_of s) L))
      (λ x i. numbers_below change s L can are x (sublist_in x (replay (numbered (after change s)) (rename_numbers change (sizes_of s) L)) (rename_numbers change (sizes_of s) L) (replay_sublist (numbered (after change s)) (rename_numbers change (sizes_of s) L)) i))
      (subst (IsOrder (arena (after change s))) (sym over) kept.order);
  whole = λ all. grind (arith, (replay_whole (numbered (after change s)) (rename_numbers change (sizes_of s) L) (order_named (numbered (after change s)) (arena (after change s)) (pair_at (sizes_of (after change s))) (IsNumber (after change s)) (numbers_rename (after change s) kept.system) (rename_numbers change (sizes_of s) L) (numbers_below change s L can are) (subst (IsOrder (arena (after change s))) (kept.whole all ∙ sym (numbers_renamed change s L can are)) kept.order))));
  pairs = over;
}
  where
    kept : RenamedReplays change s (map (entry_at s) L)
    kept = renaming_keeps change s (map (entry_at s) L) ok can (entries_at s L are) (order_at s ok L are order)

    over : map (entry_at (after change s)) (replay (numbered (after change s)) (rename_numbers change (sizes_of s) L)) ≡ replay (arena (after change s)) (rename change (map (entry_at s) L))
    over = grind (arith, (replay_renamed (numbered (after change s)) (arena (after change s)) (pair_at (sizes_of (after change s))) (IsNumber (after change s)) (numbers_rename (after change s) (renaming_keeps change s (map (entry_at s) L) ok can (entries_at s L are) (order_at s ok L are order)).system) (rename_numbers change (sizes_of s) L) (numbers_below change s L can are)), (numbers_renamed change s L can are))

-- freezing and thawing keep the allowed actions
pub number_allows-turned : (s : Sys) (k : ℕ) (frozen : Bool) (i a : ℕ) → (numbered (turned s k frozen)).allows i a ≡ (numbered s).allows i a
number_allows-turned s k frozen i a = ap (λ n. is_allowed s (pair_at n i) a) (sizes-turned s k frozen)
