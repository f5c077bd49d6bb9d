-- Two neighbouring seats in each other's place: the outlook of a pair stays the same.
use Rattle.roman_whatif.proofs.Common.{◌≡◌, ℕ, zero, suc, ◌+◌, ◌<◌, Bool, true, false, not, List, [], ◌∷◌, map, length, IsTrue, slice_get, slice_index, refl, sym, ap, ap₂, ◌∙◌, subst, arith, ◌≤◌, cond, ◌&&◌, ◌||◌, filter, flat_map, slice_set, sum_by, unwrap_or, eqb-true, eq-eqb, length-set, Seat, Sys, Pair, has, IsPair, all_final, is_final, is_related, related_count, choice_count, leave_out, freeze_at, outlook, system_without, pair_without, Way, same_test, any_same, list_any-map, all_below_at, all_below_from, from_map, from_below, in_below, HasNoRepeats-below, HasNoRepeats-map, sum_by_same, sum_by_within, map-map, map-flat_map, from_outcome, in_pairs, from_pairs, pairs_once, list_any, AllZip, length-filter, AllZip-long, same_Some, unwrap_or-slice_get, IsIn, HasNoRepeats, below, all_below, is_empty, pairs, env_next, beh_next, seat_next, outcomes_by, outcomes, is_allowed, arena, is_beaten, mask, loses, sum_by-map, is_empty-map}
use Rattle.roman_model.specs.declared.way.Way.TheVariants as way

-- the list with the elements at the places k and k + 1 in each other's place
abbrev pub swapped : {X : Type 0} → ℕ → List X → List X
swapped k [] = []
swapped zero (x ∷ []) = x ∷ []
swapped zero (x ∷ y ∷ xs) = y ∷ x ∷ xs
swapped (suc k) (x ∷ xs) = x ∷ swapped k xs

-- the place of the element at place j after the swap
abbrev pub other : ℕ → ℕ → ℕ
other zero zero = 1
other zero (suc zero) = 0
other zero (suc (suc j)) = suc (suc j)
other (suc k) zero = 0
other (suc k) (suc j) = suc (other k j)

other_twice : (k j : ℕ) → other k (other k j) ≡ j
other_twice zero zero = refl
other_twice zero (suc zero) = refl
other_twice (suc k) (suc j) = ap suc (other_twice k j)
other_twice k j = refl

other_within : (k j n : ℕ) → suc k < n → j < n → other k j < n
other_within zero (suc zero) n w l = omega arith
other_within zero (suc (suc j)) n w l = omega arith
other_within (suc k) (suc j) (suc n) w l = let h : other k j < n = other_within k j n (omega arith) (omega arith) in omega arith
other_within k j n w l = omega arith

get-swapped : {X : Type 0} (k j : ℕ) (xs : List X) → suc k < length xs → slice_get (swapped k xs) (other k j) ≡ slice_get xs j
get-swapped zero zero (x ∷ y ∷ xs) w = refl
get-swapped zero (suc zero) (x ∷ y ∷ xs) w = refl
get-swapped zero (suc (suc j)) (x ∷ y ∷ xs) w = refl
get-swapped (suc k) zero (x ∷ xs) w = refl
get-swapped (suc k) (suc j) (x ∷ xs) w = get-swapped k j xs (omega arith)
get-swapped k j xs w = absurd (omega arith)

index-swapped : (k j : ℕ) (bs : List ℕ) → suc k < length bs → slice_index (swapped k bs) (other k j) ≡ slice_index bs j
index-swapped k j bs w = sym (unwrap_or-slice_get (swapped k bs) (other k j) 0) ∙ ap (λ o. unwrap_or o 0) (get-swapped k j bs w) ∙ unwrap_or-slice_get bs j 0

set-swapped : (k j : ℕ) (bs : List ℕ) (b : ℕ) → suc k < length bs → slice_set (swapped k bs) (other k j) b ≡ swapped k (slice_set bs j b)
set-swapped zero zero (c ∷ d ∷ bs) b w = refl
set-swapped zero (suc zero) (c ∷ d ∷ bs) b w = refl
set-swapped zero (suc (suc j)) (c ∷ d ∷ bs) b w = refl
set-swapped (suc k) zero (c ∷ bs) b w = refl
set-swapped (suc k) (suc j) (c ∷ bs) b w = ap (λ cs. c ∷ cs) (set-swapped k j bs b (omega arith))
set-swapped k j bs b w = absurd (omega arith)

swapped_twice : {X : Type 0} (k : ℕ) (xs : List X) → swapped k (swapped k xs) ≡ xs
swapped_twice zero (x ∷ []) = refl
swapped_twice (suc k) (x ∷ xs) = ap (λ ys. x ∷ ys) (swapped_twice k xs)
swapped_twice k xs = refl

length-swapped : {X : Type 0} (k : ℕ) (xs : List X) → length (swapped k xs) ≡ length xs
length-swapped zero (x ∷ []) = refl
length-swapped (suc k) (x ∷ xs) = ap suc (length-swapped k xs)
length-swapped k xs = refl

-- equal neighbours can be swapped
swapped_same : {X : Type 0} (k : ℕ) (xs : List X) → suc k < length xs → slice_get xs k ≡ slice_get xs (suc k) → swapped k xs ≡ xs
swapped_same zero (x ∷ y ∷ xs) w e = ap₂ (λ u v. u ∷ v ∷ xs) (sym (same_Some x y e)) (same_Some x y e)
swapped_same (suc k) (x ∷ xs) w e = ap (λ ys. x ∷ ys) (swapped_same k xs (omega arith) e)
swapped_same k xs w e = absurd (omega arith)

and_swap : (a b c : Bool) → (a && (b && c)) ≡ (b && (a && c))
and_swap true b c = refl
and_swap false true c = refl
and_swap false false c = refl

final-swapped : (k : ℕ) (seats : List Seat) (bs : List ℕ) → suc k < length seats → suc k < length bs → all_final (swapped k seats) (swapped k bs) ≡ all_final seats bs
final-swapped zero (x ∷ y ∷ seats) (b ∷ c ∷ bs) w l = and_swap (not y.rests || is_final y.beh c) (not x.rests || is_final x.beh b) (all_final seats bs)
final-swapped (suc k) (x ∷ seats) (b ∷ bs) w l = ap (λ t. (not x.rests || is_final x.beh b) && t) (final-swapped k seats bs (omega arith) (omega arith))
final-swapped k seats bs w l = absurd (omega arith)

states-swapped : (k : ℕ) (seats : List Seat) (bs : List ℕ) → AllZip (λ seat b. b < seat.beh.states) seats bs → AllZip (λ seat b. b < seat.beh.states) (swapped k seats) (swapped k bs)
states-swapped k [] (b ∷ bs) h = absurd h
states-swapped k (x ∷ seats) [] h = absurd h
states-swapped zero (x ∷ []) (b ∷ c ∷ bs) h = absurd h.1
states-swapped zero (x ∷ y ∷ seats) (b ∷ []) h = absurd h.1
states-swapped zero (x ∷ y ∷ seats) (b ∷ c ∷ bs) h = (h.1.0, (h.0, h.1.1))
states-swapped (suc k) (x ∷ seats) (b ∷ bs) h = (h.0, states-swapped k seats bs h.1)
states-swapped k seats bs h = h

-- f maps the elements of two lists to each other, and is its own converse
record Turns {X : Type 0} (f : X → X) (xs ys : List X) : Type 0 where
  twice : (x : X) → f (f x) ≡ x
  once : HasNoRepeats xs
  others_once : HasNoRepeats ys
  into : (x : X) → IsIn x xs → IsIn (f x) ys
  back : (y : X) → IsIn y ys → IsIn (f y) xs

sum_within : {X : Type 0} (f : X → X) (xs ys : List X) (g h : X → ℕ) → ((x : X) → f (f x) ≡ x) → HasNoRepeats xs → ((x : X) → IsIn x xs → IsIn (f x) ys) →
    ((x : X) → IsIn x xs → g x ≡ h (f x)) → sum_by g xs ≤ sum_by h ys
sum_within f xs ys g h twice once into same =
    let e : sum_by g xs ≡ sum_by (λ x. h (f x)) xs = sum_by_same g (λ x. h (f x)) xs same in
    let m = sum_by-map h f xs in
    let l : sum_by h (map f xs) ≤ sum_by h ys =
    sum_by_within h (map f xs) ys (HasNoRepeats-map f xs (λ x y i j e. sym (twice x) ∙ ap f e ∙ twice y) once)
    (λ y i. let (x, j, e) = from_map f y xs i in subst (λ z. IsIn z ys) (sym e) (into x j)) in
    omega arith

sum_turned : {X : Type 0} (f : X → X) (xs ys : List X) (g h : X → ℕ) → Turns f xs ys → ((x : X) → IsIn x xs → g x ≡ h (f x)) → sum_by g xs ≡ sum_by h ys
sum_turned f xs ys g h turns same =
    let up = sum_within f xs ys g h turns.twice turns.once turns.into same in
    let down = sum_within f ys xs h g turns.twice turns.others_once turns.back (λ y i. ap h (sym (turns.twice y)) ∙ sym (same (f y) (turns.back y i))) in
    omega arith

count_turned : {X : Type 0} (f : X → X) (xs ys : List X) (t u : X → Bool) → Turns f xs ys → ((x : X) → IsIn x xs → t x ≡ u (f x)) → length (filter t xs) ≡ length (filter u ys)
count_turned f xs ys t u turns same = length-filter t xs ∙ sum_turned _ _ _ _ _ turns (λ x i. ap (λ b. cond b 1 0) (same x i)) ∙ sym (length-filter u ys)

all_kept : {X : Type 0} (xs : List X) → filter (λ x. true) xs ≡ xs
all_kept [] = refl
all_kept (x ∷ xs) = ap (λ ys. x ∷ ys) (all_kept xs)

-- Tests of the places of seats.

places_swap : (k n : ℕ) → suc k < n → Turns (other k) (below n) (below n)
places_swap k n w = record {
  twice = other_twice k;
  once = HasNoRepeats-below n;
  others_once = HasNoRepeats-below n;
  into = λ j i. in_below n (other k j) (other_within k j n w (from_below n j i));
  back = λ j i. in_below n (other k j) (other_within k j n w (from_below n j i));
}

all_below-other : (k n : ℕ) (test : ℕ → Bool) → suc k < n → all_below (λ j. test (other k j)) n ≡ all_below test n
all_below-other k n test w =
    same_test _ _ (λ h. all_below_from _ _ (λ j l. subst (λ i. IsTrue (test i)) (other_twice _ _) (all_below_at _ _ _ h (other_within _ _ _ w l))))
    (λ h. all_below_from _ _ (λ j l. all_below_at _ _ _ h (other_within _ _ _ w l)))

has-other : (k : ℕ) (K : List ℕ) (j : ℕ) → has K (other k j) ≡ has (map (other k) K) j
has-other k K j = grind (arith, any_same, eq-eqb, eqb-true, list_any-map, other_twice, same_test)

-- Systems.

-- the system with two neighbouring seats swapped
abbrev swapped_system : ℕ → Sys → Sys
swapped_system k s = record { env = s.env; target = s.target; seats = swapped k s.seats }

-- the pair of the swapped system that corresponds to a pair
abbrev swapped_pair : ℕ → Pair → Pair
swapped_pair k p = record { t = p.t; e = p.e; bs = swapped k p.bs }

pair-swapped : (s : Sys) (k : ℕ) (p : Pair) → IsPair s p → IsPair (swapped_system k s) (swapped_pair k p)
pair-swapped s k p ok = record { t = ok.t; e = ok.e; bs = states-swapped k s.seats p.bs ok.bs }

pairs_swap : (s : Sys) (k : ℕ) → Turns (swapped_pair k) (pairs s) (pairs (swapped_system k s))
pairs_swap s k = record {
  twice = λ p. ap (λ bs. record { t = p.t; e = p.e; bs = bs }) (swapped_twice k p.bs);
  once = pairs_once s;
  others_once = pairs_once (swapped_system k s);
  into = λ p i. in_pairs (swapped_system k s) (swapped_pair k p) (pair-swapped s k p (from_pairs s p i));
  back = λ p i. in_pairs s (swapped_pair k p)
      (subst (λ seats. IsPair (record { env = s.env; target = s.target; seats = seats }) (swapped_pair k p)) (swapped_twice k s.seats)
      (pair-swapped (swapped_system k s) k p (from_pairs (swapped_system k s) p i)));
}

module _ (s : Sys) (k : ℕ) (within : suc k < length s.seats) where
  -- the pair has states for the two seats
  abbrev IsLong : Pair → Type 0
  IsLong p = suc k < length p.bs

  moved : (p : Pair) (a j : ℕ) (states : List ℕ) → IsLong p →
      outcomes_by (swapped_system k s) (swapped_pair k p) a (other k j) states ≡ map (swapped_pair k) (outcomes_by s p a j states)
  moved p a j states l =
      ap (λ (g : ℕ → List ℕ). flat_map (λ e'. flat_map (λ t'. map (λ b'. record { t = t'; e = e'; bs = g b' }) states) (beh_next s.target p.t p.e a)) (env_next s.env p.e a))
      (λ i b'. set-swapped k j p.bs b' l i)
      ∙ sym (
      map-flat_map (swapped_pair k) (λ e'. flat_map (λ t'. map (λ b'. record { t = t'; e = e'; bs = slice_set p.bs j b' }) states) (beh_next s.target p.t p.e a)) (env_next s.env p.e a)
      ∙ ap (λ (g : ℕ → List Pair). flat_map g (env_next s.env p.e a)) (λ i e'. (
      map-flat_map (swapped_pair k) (λ t'. map (λ b'. record { t = t'; e = e'; bs = slice_set p.bs j b' }) states) (beh_next s.target p.t p.e a)
      ∙ ap (λ (g : ℕ → List Pair). flat_map g (beh_next s.target p.t p.e a)) (λ i' t'. map-map (swapped_pair k) (λ b'. record { t = t'; e = e'; bs = slice_set p.bs j b' }) states i')
      ) i)
      )

  outcomes-swapped : (p : Pair) (a j : ℕ) → IsLong p → outcomes (swapped_system k s) (swapped_pair k p) a (other k j) ≡ map (swapped_pair k) (outcomes s p a j)
  outcomes-swapped p a j l =
      ap₂ (λ seat b. outcomes_by (swapped_system k s) (swapped_pair k p) a (other k j) (seat_next seat b p.e a)) (get-swapped k j s.seats within) (index-swapped k j p.bs l)
      ∙ moved p a j (seat_next (slice_get s.seats j) (slice_index p.bs j) p.e a) l

  outcome_long : (p : Pair) (a j : ℕ) (q : Pair) → IsLong p → IsIn q (outcomes s p a j) → IsLong q
  outcome_long p a j q l i = let r = (from_outcome s p a j q i).1 in subst (λ n. suc k < n) (sym (ap length r.is ∙ length-set p.bs j r.to)) l

  beaten-swapped : (gone lost : Pair → Bool) → ((q : Pair) → IsLong q → gone q ≡ lost (swapped_pair k q)) → (p : Pair) → IsLong p → (a j : ℕ) →
      is_beaten (arena s) gone p a j ≡ is_beaten (arena (swapped_system k s)) lost (swapped_pair k p) a (other k j)
  beaten-swapped gone lost agree p l a j =
      ap₂ (λ x y. x || y) (sym (is_empty-map (swapped_pair k) (outcomes s p a j)))
      (any_same gone (λ q. lost (swapped_pair k q)) (outcomes s p a j) (λ q i. agree q (outcome_long p a j q l i)) ∙ sym (list_any-map (swapped_pair k) lost (outcomes s p a j)))
      ∙ ap (λ qs. is_empty qs || list_any lost qs) (sym (outcomes-swapped p a j l))

  loses-swapped : (n : ℕ) (p : Pair) → IsLong p → loses (arena s) n p ≡ loses (arena (swapped_system k s)) n (swapped_pair k p)
  loses-swapped zero p l = ap (λ t. not (not (is_final s.target p.t) || t)) (sym (final-swapped k s.seats p.bs within l))
  loses-swapped (suc n) p l =
      let gone = loses (arena s) n in
      let lost = loses (arena (swapped_system k s)) n in
      let beaten = is_beaten (arena (swapped_system k s)) lost (swapped_pair k p) in
      ap₂ (λ x y. x || y) (loses-swapped n p l)
      (ap (λ g. list_any g (below s.env.actions)) (λ i a. is_allowed s p a && (
      ap (λ t. all_below t (length s.seats)) (λ i' j. beaten-swapped gone lost (λ q m. loses-swapped n q m) p l a j i')
      ∙ all_below-other k (length s.seats) (beaten a) within
      ∙ ap (all_below (beaten a)) (sym (length-swapped k s.seats))
      ) i))

  related-swapped : (p : Pair) → IsLong p → is_related s p ≡ is_related (swapped_system k s) (swapped_pair k p)
  related-swapped p l =
      let long : length (pairs s) ≡ length (pairs (swapped_system k s)) =
      ap length (sym (all_kept (pairs s))) ∙ count_turned (swapped_pair k) (pairs s) (pairs (swapped_system k s)) (λ q. true) (λ q. true) (pairs_swap s k) (λ q i. refl) ∙ ap length (all_kept (pairs (swapped_system k s))) in
      ap not (loses-swapped (length (pairs s)) p l ∙ ap (λ n. loses (arena (swapped_system k s)) n (swapped_pair k p)) long)

  pair_long : (p : Pair) → IsIn p (pairs s) → IsLong p
  pair_long p i = subst (λ n. suc k < n) (sym (AllZip-long (λ (seat : Seat) (b : ℕ). b < seat.beh.states) s.seats p.bs (from_pairs s p i).bs)) within

  mask-swapped : (p : Pair) (a : ℕ) → IsLong p → length (mask (arena s) (λ q. not (is_related s q)) p a) ≡ length (mask (arena (swapped_system k s)) (λ q. not (is_related (swapped_system k s) q)) (swapped_pair k p) a)
  mask-swapped p a l =
      let serves : ℕ → Bool = λ j. not (is_beaten (arena s) (λ q. not (is_related s q)) p a j) in
      let serves_there : ℕ → Bool = λ j. not (is_beaten (arena (swapped_system k s)) (λ q. not (is_related (swapped_system k s) q)) (swapped_pair k p) a j) in
      let same : length (filter serves (below (length s.seats))) ≡ length (filter serves_there (below (length (swapped k s.seats)))) =
      count_turned (other k) (below (length s.seats)) (below (length s.seats)) serves serves_there (places_swap k (length s.seats) within)
      (λ j i. ap not (beaten-swapped (λ q. not (is_related s q)) (λ q. not (is_related (swapped_system k s) q)) (λ q m. ap not (related-swapped q m)) p l a j))
      ∙ ap (λ n. length (filter serves_there (below n))) (sym (length-swapped k s.seats)) in
      elim (is_allowed s p a) as (λ x. length (cond x (filter serves (below (length s.seats))) []) ≡ length (cond x (filter serves_there (below (length (swapped k s.seats)))) [])) [ true ↦ same | false ↦ refl ]

  outlook-swapped : (p : Pair) → IsLong p → outlook s p ≡ outlook (swapped_system k s) (swapped_pair k p)
  outlook-swapped p l =
      let related : related_count s ≡ related_count (swapped_system k s) =
      count_turned (swapped_pair k) (pairs s) (pairs (swapped_system k s)) (is_related s) (is_related (swapped_system k s)) (pairs_swap s k) (λ q i. related-swapped q (pair_long q i)) in
      let chosen : choice_count s ≡ choice_count (swapped_system k s) =
      sum_turned (swapped_pair k) (pairs s) (pairs (swapped_system k s))
      (λ q. sum_by (λ a. length (mask (arena s) (λ r. not (is_related s r)) q a)) (below s.env.actions))
      (λ q. sum_by (λ a. length (mask (arena (swapped_system k s)) (λ r. not (is_related (swapped_system k s) r)) q a)) (below s.env.actions))
      (pairs_swap s k) (λ q i. ap (λ g. sum_by g (below s.env.actions)) (λ i' a. mask-swapped q a (pair_long q i) i')) in
      λ i. record { composes = related-swapped p l i; related = related i; choices = chosen i }

-- Equal neighbours, of which one fails.

freeze-swapped : (at : ℕ → Bool) (k : ℕ) (seats : List Seat) → suc k < length seats → freeze_at at (swapped k seats) ≡ swapped k (freeze_at (λ j. at (other k j)) seats)
freeze-swapped at zero (x ∷ y ∷ seats) w = refl
freeze-swapped at (suc k) (x ∷ seats) w =
    ap (λ ys. record { beh = x.beh; frozen = x.frozen || at 0; rests = x.rests } ∷ ys) (freeze-swapped (λ j. at (suc j)) k seats (omega arith))
freeze-swapped at k seats w = absurd (omega arith)

length-freeze : (at : ℕ → Bool) (seats : List Seat) → length (freeze_at at seats) ≡ length seats
length-freeze at [] = refl
length-freeze at (x ∷ seats) = ap suc (length-freeze (λ j. at (suc j)) seats)

leave-swapped : {X : Type 0} (at : ℕ → Bool) (k : ℕ) (xs : List X) → suc k < length xs → at k ≡ true → at (suc k) ≡ false → leave_out at (swapped k xs) ≡ leave_out (λ j. at (other k j)) xs
leave-swapped at zero (x ∷ y ∷ xs) w gone left = rw (gone, left) refl
leave-swapped at (suc k) (x ∷ xs) w gone left = ap (λ ys. cond (at 0) ys (x ∷ ys)) (leave-swapped (λ j. at (suc j)) k xs (omega arith) gone left)
leave-swapped at k xs w gone left = absurd (omega arith)

leave_same : {X : Type 0} (k : ℕ) (K : List ℕ) (xs : List X) → suc k < length xs → slice_get xs k ≡ slice_get xs (suc k) → has K k ≡ true → has K (suc k) ≡ false →
    leave_out (has K) xs ≡ leave_out (has (map (other k) K)) xs
leave_same k K xs w same gone left =
    ap (leave_out (has K)) (sym (swapped_same k xs w same)) ∙ leave-swapped (has K) k xs w gone left ∙ ap (λ t. leave_out t xs) (λ i j. has-other k K j i)

-- the outlook is the same if the seat at place k + 1 fails in place of its equal at place k
pub moved_on : (way : Way) (k : ℕ) (K : List ℕ) (s : Sys) (p : Pair) → suc k < length s.seats → suc k < length p.bs → slice_get s.seats k ≡ slice_get s.seats (suc k) →
    slice_get p.bs k ≡ slice_get p.bs (suc k) → has K k ≡ true → has K (suc k) ≡ false →
    outlook (system_without way (map (other k) K) s) (pair_without way (map (other k) K) p) ≡ outlook (system_without way K s) (pair_without way K p)
moved_on way.Die k K s p w l seats states gone left = ap₂ (λ ss bs. outlook (record { env = s.env; target = s.target; seats = ss }) (record { t = p.t; e = p.e; bs = bs }))
    (sym (leave_same k K s.seats w seats gone left)) (sym (leave_same k K p.bs l states gone left))
moved_on way.Freeze k K s p w l seats states gone left =
    let at : ℕ → Bool = has (map (other k) K) in
    outlook-swapped (record { env = s.env; target = s.target; seats = freeze_at at s.seats }) k (subst (λ n. suc k < n) (sym (length-freeze at s.seats)) w) p l
    ∙ ap₂ (λ ss bs. outlook (record { env = s.env; target = s.target; seats = ss }) (record { t = p.t; e = p.e; bs = bs }))
    (ap (λ t. swapped k (freeze_at t s.seats)) (λ i j. sym (has-other k K j) i) ∙ sym (freeze-swapped (has K) k s.seats w) ∙ ap (freeze_at (has K)) (swapped_same k s.seats w seats))
    (swapped_same k p.bs l states)
