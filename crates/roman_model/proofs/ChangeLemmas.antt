-- The effect of a change of the seats on systems, pairs, outcomes and removal lists: the replay of a renamed list is a removal list.
use Rattle.roman_model.proofs.Common.{length-append, ◌≡◌, ℕ, zero, suc, ◌<◌, ◌≤◌, Bool, true, not, ◌&&◌, ◌||◌, List, [], ◌∷◌, ◌++◌, map, length, Some, IsTrue, filter, flat_map, slice_get, slice_index, slice_set, remove, refl, sym, ap, ap₂, ◌∙◌, subst, inl, inr, arith, rules, length-take, length-drop, false, length-map, map-append, length_push, take-map, drop-map, same_from_push, IsPairOf, sizes_of, grown_sizes, sizes_without, AllZip-long, list_any, cases_eq, both_ways, or_cases, or_left, or_right, cond-true, cond-false, flat_map-map, none-some, same_Some, slice_get_within, IsIn, HasNoRepeats, below, Beh, Seat, Sys, Pair, IsBeh, IsSys, IsPair, is_final, all_final, env_next, beh_next, seat_next, outcomes_by, outcomes, is_fine, same_pair, arena, Entry, is_among, is_beaten, is_justified, IsOrderFrom, AreNew, AreEntries, Join, Die, set_frozen, grown, without, may_go, firsts, entry_without, rename, Freeze, Thaw, RenamingKeeps, MAX_SERVICES, Reason, Final, Act, Change, CanChange, after}
use Rattle.roman_model.proofs.NumberLemmas.{IsPair-from, IsPairOf-from, IsPairOf-grown, IsPairOf-without}
use Rattle.roman_model.proofs.Lists.{flat_map_same, map-map, map-flat_map, flat_map_none, by_test, any_true, any_from, list_any-map, is_empty-map, from_push, in_map, from_map, from_flat_map, filter_in, from_below, HasNoRepeats-map, HasNoRepeats-flat_map, HasNoRepeats-below}
use Rattle.roman_model.proofs.ArenaLemmas.{justified_by, justified_is}
use Rattle.roman_model.proofs.SystemLemmas.{same_pair_is, same_pair_from, from_beh_next, from_env_next}
use Rattle.roman_model.proofs.OrderLemmas.{order_new, new_once, replay_order, replay_whole}
use Rattle.roman_model.proofs.CompositionLemmas.{system_is_same}

-- Outcomes that are images of other outcomes

-- the outcomes of seat k are images of those of seat j, if g maps the states of seat j to those of seat k; the states of target and environment stay
pub moved_named : (s : Sys) (seats : List Seat) (p : Pair) (a j k : ℕ) (states : List ℕ) (g : List ℕ → List ℕ) (bs : List ℕ) →
    ((b' : ℕ) → slice_set bs k b' ≡ g (slice_set p.bs j b')) →
    outcomes_by (record { env = s.env; target = s.target; seats = seats }) (record { t = p.t; e = p.e; bs = bs }) a k states
    ≡ map (λ q. record { t = q.t; e = q.e; bs = g q.bs }) (outcomes_by s p a j states)
moved_named s seats p a j k states g bs is = flat_map_same (λ e'. flat_map (λ t'. map (λ b'. record { t = t'; e = e'; bs = slice_set bs k b' }) states) (beh_next s.target p.t p.e a))
    (λ e'. map f (flat_map (λ t'. map (λ b'. record { t = t'; e = e'; bs = slice_set p.bs j b' }) states) (beh_next s.target p.t p.e a)))
    (env_next s.env p.e a)
    (λ e'. flat_map_same (λ t'. map (λ b'. record { t = t'; e = e'; bs = slice_set bs k b' }) states) (λ t'. map f (map (λ b'. record { t = t'; e = e'; bs = slice_set p.bs j b' }) states)) (beh_next s.target p.t p.e a)
    (λ t'. grind (arith, f, map-map))
    ∙ sym (map-flat_map f (λ t'. map (λ b'. record { t = t'; e = e'; bs = slice_set p.bs j b' }) states) (beh_next s.target p.t p.e a)))
    ∙ sym (map-flat_map f (λ e'. flat_map (λ t'. map (λ b'. record { t = t'; e = e'; bs = slice_set p.bs j b' }) states) (beh_next s.target p.t p.e a)) (env_next s.env p.e a))
  where
    f : Pair → Pair
    f q = record { t = q.t; e = q.e; bs = g q.bs }

-- Lists without one seat

pub remove_in : {X : Type 0} (x : X) (xs : List X) (k : ℕ) → IsIn x (remove xs k) → IsIn x xs
remove_in x [] zero i = absurd i
remove_in x [] (suc k) i = absurd i
remove_in x (y ∷ xs) zero i = inr i
remove_in x (y ∷ xs) (suc k) (inl e) = inl e
remove_in x (y ∷ xs) (suc k) (inr i) = inr (remove_in x xs k i)

pub length-remove : {X : Type 0} (xs : List X) (k : ℕ) → k < length xs → suc (length (remove xs k)) ≡ length xs
length-remove xs k h = simp (length-append, length-take, length-drop) (omega arith)

-- the old place of seat j, before seat k left
abbrev pub place_before : ℕ → ℕ → ℕ
place_before zero j = suc j
place_before (suc k) zero = zero
place_before (suc k) (suc j) = suc (place_before k j)

pub get-remove : {X : Type 0} (xs : List X) (k j : ℕ) → slice_get (remove xs k) j ≡ slice_get xs (place_before k j)
get-remove [] (suc k) j = refl
get-remove (x ∷ xs) (suc k) (suc j) = get-remove xs k j
get-remove _ _ _ = refl

pub index-remove : (bs : List ℕ) (k j : ℕ) → slice_index (remove bs k) j ≡ slice_index bs (place_before k j)
index-remove [] (suc k) j = refl
index-remove (b ∷ bs) (suc k) (suc j) = index-remove bs k j
index-remove _ _ _ = refl

pub set-remove : (bs : List ℕ) (k j b : ℕ) → slice_set (remove bs k) j b ≡ remove (slice_set bs (place_before k j) b) k
set-remove [] (suc k) j b = refl
set-remove (c ∷ bs) (suc k) (suc j) b = ap (λ cs. c ∷ cs) (set-remove bs k j b)
set-remove _ _ _ _ = refl

-- the state at another place stays the same
pub index_set_place : (bs : List ℕ) (k j b : ℕ) → slice_index (slice_set bs (place_before k j) b) k ≡ slice_index bs k
index_set_place (c ∷ bs) (suc k) (suc j) b = index_set_place bs k j b
index_set_place _ _ _ _ = refl

pub place_within : (k j n : ℕ) → k < suc n → j < n → place_before k j < suc n
place_within (suc k) (suc j) zero h l = absurd (omega arith)
place_within (suc k) (suc j) (suc n) h l = let rest : place_before k j < suc n = place_within k j n (omega arith) (omega arith) in omega arith
place_within _ _ n h l = omega arith

-- Systems with other seats

-- the system with these seats is well formed, if each has the behaviour of one of the system's own seats, and there are at most as many
pub IsSys-seats : (s : Sys) (seats : List Seat) → ((x : Seat) → IsIn x seats → (y : Seat) × IsIn y s.seats × (x.beh ≡ y.beh)) → length seats ≤ length s.seats → IsSys s →
    IsSys (record { env = s.env; target = s.target; seats = seats })
IsSys-seats s seats own few ok = record {
  env = ok.env;
  target = ok.target;
  single = ok.single;
  seats = λ x i. let (y, j, e) = own x i in subst (IsBeh s.env) (sym e) (ok.seats y j);
  few = grind (arith, few, ok.few);
}

-- the behaviours of the seats
abbrev pub behaviours : List Seat → List Beh
behaviours seats = map (λ seat. seat.beh) seats

-- the system with these seats is well formed, if they have the same behaviours in the same order
pub IsSys-alike : (s : Sys) (seats : List Seat) → behaviours seats ≡ behaviours s.seats → IsSys s → IsSys (record { env = s.env; target = s.target; seats = seats })
IsSys-alike s seats same =
    IsSys-seats s seats (λ x i. from_map (λ seat. seat.beh) x.beh s.seats (subst (IsIn x.beh) same (in_map (λ seat. seat.beh) x seats i))) (grind (arith, length-map))

pub states-alike : (xs ys : List Seat) → behaviours xs ≡ behaviours ys → map (λ seat. seat.beh.states) xs ≡ map (λ seat. seat.beh.states) ys
states-alike xs ys same = sym (map-map (λ beh. beh.states) (λ seat. seat.beh) xs) ∙ ap (map (λ beh. beh.states)) same ∙ map-map (λ beh. beh.states) (λ seat. seat.beh) ys

pub sizes-alike : (s : Sys) (seats : List Seat) → behaviours seats ≡ behaviours s.seats → sizes_of (record { env = s.env; target = s.target; seats = seats }) ≡ sizes_of s
sizes-alike s seats same = grind (arith, (states-alike seats s.seats same))

pub IsPair-alike : (s : Sys) (seats : List Seat) (p : Pair) → behaviours seats ≡ behaviours s.seats → IsPair s p → IsPair (record { env = s.env; target = s.target; seats = seats }) p
IsPair-alike s seats p same ok = IsPair-from (record { env = s.env; target = s.target; seats = seats }) p (subst (λ n. IsPairOf n p) (sym (sizes-alike s seats same)) (IsPairOf-from s p ok))

-- Seats that are frozen or thawed

pub behaviours-frozen : (seats : List Seat) (k : ℕ) (frozen : Bool) → behaviours (set_frozen seats k frozen) ≡ behaviours seats
behaviours-frozen (seat ∷ seats) (suc k) frozen = ap (λ behs. seat.beh ∷ behs) (behaviours-frozen seats k frozen)
behaviours-frozen _ _ _ = refl

pub states_frozen : (seats : List Seat) (k : ℕ) (frozen : Bool) → map (λ seat. seat.beh.states) (set_frozen seats k frozen) ≡ map (λ seat. seat.beh.states) seats
states_frozen seats k frozen = states-alike (set_frozen seats k frozen) seats (behaviours-frozen seats k frozen)

pub length-set_frozen : (seats : List Seat) (k : ℕ) (frozen : Bool) → length (set_frozen seats k frozen) ≡ length seats
length-set_frozen seats k frozen = grind (arith, length-map, (states_frozen seats k frozen))

pub all_final-set_frozen : (seats : List Seat) (k : ℕ) (frozen : Bool) (bs : List ℕ) → all_final (set_frozen seats k frozen) bs ≡ all_final seats bs
all_final-set_frozen (seat ∷ seats) (suc k) frozen (b ∷ bs) = ap (λ x. (not seat.rests || is_final seat.beh b) && x) (all_final-set_frozen seats k frozen bs)
all_final-set_frozen _ _ _ _ = refl

-- the system with seat k frozen or made ready
abbrev pub turned : Sys → ℕ → Bool → Sys
turned s k frozen = record { env = s.env; target = s.target; seats = set_frozen s.seats k frozen }

pub IsSys-turned : (s : Sys) (k : ℕ) (frozen : Bool) → IsSys s → IsSys (turned s k frozen)
IsSys-turned s k frozen = IsSys-alike s (set_frozen s.seats k frozen) (behaviours-frozen s.seats k frozen)

pub sizes-turned : (s : Sys) (k : ℕ) (frozen : Bool) → sizes_of (turned s k frozen) ≡ sizes_of s
sizes-turned s k frozen = sizes-alike s (set_frozen s.seats k frozen) (behaviours-frozen s.seats k frozen)

pub IsPair-turned : (s : Sys) (k : ℕ) (frozen : Bool) (p : Pair) → IsPair s p → IsPair (turned s k frozen) p
IsPair-turned s k frozen p = IsPair-alike s (set_frozen s.seats k frozen) p (behaviours-frozen s.seats k frozen)

pub is_fine-turned : (s : Sys) (k : ℕ) (frozen : Bool) (p : Pair) → is_fine (turned s k frozen) p ≡ is_fine s p
is_fine-turned s k frozen p = ap (λ x. not (is_final s.target p.t) || x) (all_final-set_frozen s.seats k frozen p.bs)

-- freezing or thawing another seat keeps a seat as it is
pub get-set_frozen : (seats : List Seat) (k j : ℕ) (frozen : Bool) → (j ≡ k → ⊥) → slice_get (set_frozen seats k frozen) j ≡ slice_get seats j
get-set_frozen (seat ∷ seats) zero zero frozen ne = absurd (ne refl)
get-set_frozen (seat ∷ seats) (suc k) (suc j) frozen ne = get-set_frozen seats k j frozen (λ e. ne (ap suc e))
get-set_frozen _ _ _ _ _ = refl

-- a frozen seat has no next state
pub seat_next-frozen : (seats : List Seat) (k b e a : ℕ) → seat_next (slice_get (set_frozen seats k true) k) b e a ≡ []
seat_next-frozen (seat ∷ seats) (suc k) b e a = seat_next-frozen seats k b e a
seat_next-frozen _ _ _ _ _ = refl

pub outcomes-turned : (s : Sys) (k : ℕ) (frozen : Bool) (p : Pair) (a j : ℕ) → (j ≡ k → ⊥) → outcomes (turned s k frozen) p a j ≡ outcomes s p a j
outcomes-turned s k frozen p a j ne = ap (λ o. outcomes_by s p a j (seat_next o (slice_index p.bs j) p.e a)) (get-set_frozen s.seats k j frozen ne)

pub outcomes-frozen : (s : Sys) (k : ℕ) (p : Pair) (a : ℕ) → outcomes (turned s k true) p a k ≡ []
outcomes-frozen s k p a = search (rules, flat_map_none, seat_next-frozen)

-- a beaten seat stays beaten when a seat is frozen
pub freeze_beaten : (s : Sys) (k : ℕ) (gone : Pair → Bool) (p : Pair) (a j : ℕ) → IsTrue (is_beaten (arena s) gone p a j) → IsTrue (is_beaten (arena (turned s k true)) gone p a j)
freeze_beaten s k gone p a j h = grind (arith, cases_eq, outcomes-frozen, outcomes-turned)

pub freeze_justified : (s : Sys) (k : ℕ) (gone : Pair → Bool) (p : Pair) (reason : Reason) → IsTrue (is_justified (arena s) gone p reason) → IsTrue (is_justified (arena (turned s k true)) gone p reason)
freeze_justified s k gone p Final h = ap not (is_fine-turned s k true p) ∙ h
freeze_justified s k gone p (Act a) h =
    let (allowed, beaten) = justified_is (arena s) gone p a h in
    justified_by (arena (turned s k true)) gone p a allowed (λ j l. freeze_beaten s k gone p a j (beaten j (subst (λ n. j < n) (length-set_frozen s.seats k true) l)))

pub freeze_order : (s : Sys) (k : ℕ) (before : List Pair) (L : List (Entry Pair)) → IsOrderFrom (arena s) before L → IsOrderFrom (arena (turned s k true)) before L
freeze_order s k before [] order = tt
freeze_order s k before (x ∷ L) order = (order.0, freeze_justified s k (is_among (arena s) before) x.node x.reason order.1, freeze_order s k (x.node ∷ before) L order.2)

-- Distinct pairs, and lists of new ones

-- the arenas of two systems compare pairs in the same way
pub new_same : (s r : Sys) (before : List Pair) (L : List (Entry Pair)) → AreNew (arena s) before L → AreNew (arena r) before L
new_same s r before [] new = tt
new_same s r before (x ∷ L) new = (new.0, new_same s r (x.node ∷ before) L new.1)

pub new_from_once : (s : Sys) (before : List Pair) (L : List (Entry Pair)) → HasNoRepeats (map (λ x. x.node) L) → ((x : Entry Pair) → IsIn x L → IsIn x.node before → ⊥) → AreNew (arena s) before L
new_from_once s before [] once apart = tt
new_from_once s before (x ∷ L) once apart = (
  by_test (is_among (arena s) before x.node)
      (λ h. let (q, i, same) = any_true (same_pair x.node) before h in absurd (apart x (inl refl) (subst (λ r. IsIn r before) (sym (same_pair_is x.node q same)) i)))
      (λ f. f),
  new_from_once s (x.node ∷ before) L once.1 (λ y i j. next y i j),
)
  where
    next : (y : Entry Pair) → IsIn y L → IsIn y.node (x.node ∷ before) → ⊥
    next y i (inl e) = once.0 (subst (λ r. IsIn r (map (λ z. z.node) L)) e (in_map (λ z. z.node) y L i))
    next y i (inr j) = apart y (inr i) j

-- Joins

-- the system with a new last seat
abbrev pub joined : Sys → Seat → Sys
joined s seat = record { env = s.env; target = s.target; seats = s.seats ++ seat ∷ [] }

pub IsSys-joined : (s : Sys) (seat : Seat) → IsSys s → IsBeh s.env seat.beh → length s.seats < MAX_SERVICES → IsSys (joined s seat)
IsSys-joined s seat ok beh room = record {
  env = ok.env;
  target = ok.target;
  single = ok.single;
  seats = λ x i. elim (from_push x seat s.seats i) [ inl j ↦ ok.seats x j | inr e ↦ subst (λ y. IsBeh s.env y.beh) (sym e) beh ];
  few = subst (λ n. n ≤ MAX_SERVICES) (sym (length_push s.seats seat)) (omega arith);
}

pub sizes-joined : (s : Sys) (seat : Seat) → sizes_of (joined s seat) ≡ grown_sizes (sizes_of s) seat.beh.states
sizes-joined s seat = grind (arith, map-append)

pub IsPair-grown : (s : Sys) (seat : Seat) (p : Pair) (b : ℕ) → IsPair s p → b < seat.beh.states → IsPair (joined s seat) (grown p b)
IsPair-grown s seat p b ok l =
    IsPair-from (joined s seat) (grown p b) (subst (λ n. IsPairOf n (grown p b)) (sym (sizes-joined s seat)) (IsPairOf-grown (sizes_of s) p seat.beh.states b (IsPairOf-from s p ok) l))

pub join_entries : (s : Sys) (seat : Seat) (L : List (Entry Pair)) → AreEntries s L → AreEntries (joined s seat) (rename (Join seat) L)
join_entries s seat L are x i = grind (arith, IsPair-grown, from_below, from_flat_map, from_map)

-- the nodes of the renamed entries
pub join_nodes : (seat : Seat) (L : List (Entry Pair)) → map (λ x. x.node) (rename (Join seat) L) ≡ flat_map (λ p. map (grown p) (below seat.beh.states)) (map (λ x. x.node) L)
join_nodes seat L = grind (arith, flat_map-map, flat_map_same, map-flat_map, map-map)

pub join_once : (seat : Seat) (L : List (Entry Pair)) → HasNoRepeats (map (λ x. x.node) L) → HasNoRepeats (map (λ x. x.node) (rename (Join seat) L))
join_once seat L once = grind (arith, HasNoRepeats-below, HasNoRepeats-flat_map, HasNoRepeats-map, from_map, same_from_push, join_nodes)

-- Deaths

-- the system without seat k
abbrev pub left : Sys → ℕ → Sys
left s k = record { env = s.env; target = s.target; seats = remove s.seats k }

pub IsSys-left : (s : Sys) (k : ℕ) → IsSys s → IsSys (left s k)
IsSys-left s k = IsSys-seats s (remove s.seats k) (λ x i. (x, remove_in x s.seats k i, refl)) (simp (length-append, length-take, length-drop) (omega arith))

pub sizes-left : (s : Sys) (k : ℕ) → sizes_of (left s k) ≡ sizes_without k (sizes_of s)
sizes-left s k = grind (arith, map-append, take-map, drop-map)

pub IsPair-without : (s : Sys) (k : ℕ) (p : Pair) → IsPair s p → IsPair (left s k) (without k p)
IsPair-without s k p ok =
    IsPair-from (left s k) (without k p) (subst (λ n. IsPairOf n (without k p)) (sym (sizes-left s k)) (IsPairOf-without (sizes_of s) p k (IsPairOf-from s p ok)))

pub states_long : (s : Sys) (p : Pair) → IsPair s p → length p.bs ≡ length s.seats
states_long s p pair = AllZip-long (λ seat b. b < seat.beh.states) s.seats p.bs pair.bs

-- the outcomes of the other seats, without the state of the seat that left
pub outcomes-without : (s : Sys) (k : ℕ) (p : Pair) (a j : ℕ) → outcomes (left s k) (without k p) a j ≡ map (without k) (outcomes s p a (place_before k j))
outcomes-without s k p a j =
    ap₂ (λ o b. outcomes_by (left s k) (without k p) a j (seat_next o b p.e a)) (get-remove s.seats k j) (index-remove p.bs k j)
    ∙ moved_named s (remove s.seats k) p a (place_before k j) j (seat_next (slice_get s.seats (place_before k j)) (slice_index p.bs (place_before k j)) p.e a) (λ bs. remove bs k) (remove p.bs k)
    (λ b'. set-remove p.bs k j b')

-- an outcome of another seat keeps the state of seat k
pub outcome_keeps : (s : Sys) (k : ℕ) (p : Pair) (a j : ℕ) (q : Pair) → IsIn q (outcomes s p a (place_before k j)) → slice_index q.bs k ≡ slice_index p.bs k
outcome_keeps s k p a j q i = grind (arith, from_beh_next, from_env_next, from_flat_map, from_map, index_set_place)

pub all_final-remove : (seats : List Seat) (bs : List ℕ) (k : ℕ) (seat : Seat) → slice_get seats k ≡ Some seat → k < length bs → IsTrue (not seat.rests || is_final seat.beh (slice_index bs k)) →
    all_final seats bs ≡ all_final (remove seats k) (remove bs k)
all_final-remove [] bs k seat e l h = absurd (none-some seat e)
all_final-remove (x ∷ seats) [] k seat e l h = absurd (omega arith)
all_final-remove (x ∷ seats) (b ∷ bs) zero seat e l h = ap (λ y. y && all_final seats bs) (subst (λ (y : Seat). IsTrue (not y.rests || is_final y.beh b)) (sym (same_Some x seat e)) h)
all_final-remove (x ∷ seats) (b ∷ bs) (suc k) seat e l h = ap (λ y. (not x.rests || is_final x.beh b) && y) (all_final-remove seats bs k seat e (omega arith) h)

pub die_beaten : (s : Sys) (k : ℕ) (seat : Seat) (gone lost : Pair → Bool) → ((q : Pair) → IsTrue (gone q) → IsTrue (may_go k seat q) → IsTrue (lost (without k q))) →
    (p : Pair) (a j : ℕ) → IsTrue (may_go k seat p) → IsTrue (is_beaten (arena s) gone p a (place_before k j)) → IsTrue (is_beaten (arena (left s k)) lost (without k p) a j)
die_beaten s k seat gone lost carries p a j goes h = grind (arith, any_from, any_true, is_empty-map, list_any-map, outcomes-without, or_cases, or_left, or_right, outcome_keeps)

pub die_justified : (s : Sys) (k : ℕ) (seat : Seat) (gone lost : Pair → Bool) → slice_get s.seats k ≡ Some seat →
    ((q : Pair) → IsTrue (gone q) → IsTrue (may_go k seat q) → IsTrue (lost (without k q))) →
    (p : Pair) → IsPair s p → IsTrue (may_go k seat p) → (reason : Reason) → IsTrue (is_justified (arena s) gone p reason) → IsTrue (is_justified (arena (left s k)) lost (without k p) reason)
die_justified s k seat gone lost seated carries p ok goes Final h = ap not (sym (grind (arith, all_final-remove, slice_get_within, states_long))) ∙ h
die_justified s k seat gone lost seated carries p ok goes (Act a) h =
    let within : k < length s.seats = slice_get_within s.seats k seat seated in
    let shorter : suc (length (remove s.seats k)) ≡ length s.seats = length-remove s.seats k within in
    let (allowed, beaten) = justified_is (arena s) gone p a h in
    justified_by (arena (left s k)) lost (without k p) a allowed
    (λ j l. die_beaten s k seat gone lost carries p a j goes (beaten (place_before k j) (subst (λ n. place_before k j < n) shorter (place_within k j (length (remove s.seats k)) (omega arith) l))))

-- the rest of a removal list is a removal list without the seat, if the reduced pair of each earlier pair that may go was seen
pub die_order : (s : Sys) (k : ℕ) (seat : Seat) → slice_get s.seats k ≡ Some seat → (before seen : List Pair) (L : List (Entry Pair)) → AreEntries s L →
    ((q : Pair) → IsTrue (is_among (arena s) before q) → IsTrue (may_go k seat q) → IsTrue (is_among (arena (left s k)) seen (without k q))) →
    IsOrderFrom (arena s) before L →
    IsOrderFrom (arena (left s k)) seen (firsts seen (map (entry_without k) (filter (λ x. may_go k seat x.node) L)))
die_order s k seat seated before seen [] are carries order = tt
die_order s k seat seated before seen (x ∷ L) are carries order = by_test (may_go k seat x.node)
    (λ goes. subst (λ M. IsOrderFrom (arena (left s k)) seen (firsts seen (map (entry_without k) M))) (sym (cond-true (may_go k seat x.node) (x ∷ goers_of) goers_of goes))
    (by_test (list_any (same_pair (without k x.node)) seen)
    (λ known. grind (arith, rest, (die_order s k seat seated (x.node ∷ before) seen L (λ y i. are y (inr i)) (next seen (λ goes. known) (λ r m. m)) order.2)))
    (λ new. subst (λ M. IsOrderFrom (arena (left s k)) seen M) (sym (cond-false (list_any (same_pair (without k x.node)) seen) (firsts seen rest) (entry_without k x ∷ firsts (without k x.node ∷ seen) rest) new)) (
      new,
      die_justified s k seat (is_among (arena s) before) (is_among (arena (left s k)) seen) seated carries x.node (are x (inl refl)) goes x.reason order.1,
      die_order s k seat seated (x.node ∷ before) (without k x.node ∷ seen) L (λ y i. are y (inr i))
          (next (without k x.node ∷ seen) (λ goes. or_left (same_pair (without k x.node) (without k x.node)) (list_any (same_pair (without k x.node)) seen) (same_pair_from (without k x.node) (without k x.node) refl))
          (λ r m. or_right (same_pair r (without k x.node)) (list_any (same_pair r) seen) m)) order.2,
    ))))
    (λ stays. grind (arith, (die_order s k seat seated (x.node ∷ before) seen L (λ y i. are y (inr i)) (next seen (λ goes. absurd (both_ways (may_go k seat x.node) stays goes)) (λ r m. m)) order.2)))
  where
    goers_of : List (Entry Pair)
    goers_of = filter (λ y. may_go k seat y.node) L

    rest : List (Entry Pair)
    rest = map (entry_without k) (filter (λ y. may_go k seat y.node) L)

    -- each earlier pair that may go is among more pairs, if x's pair is too
    next : (more : List Pair) → (IsTrue (may_go k seat x.node) → IsTrue (is_among (arena (left s k)) more (without k x.node))) →
        ((r : Pair) → IsTrue (is_among (arena (left s k)) seen r) → IsTrue (is_among (arena (left s k)) more r)) →
        (q : Pair) → IsTrue (is_among (arena s) (x.node ∷ before) q) → IsTrue (may_go k seat q) → IsTrue (is_among (arena (left s k)) more (without k q))
    next more here there q h goes = elim (or_cases (same_pair q x.node) (list_any (same_pair q) before) h) [
      | inl e ↦ (let same : q ≡ x.node = same_pair_is q x.node e in subst (λ r. IsTrue (is_among (arena (left s k)) more (without k r))) (sym same) (here (subst (λ r. IsTrue (may_go k seat r)) same goes)))
      | inr b ↦ there (without k q) (carries q b goes)
    ]

pub firsts_in : (seen : List Pair) (L : List (Entry Pair)) (x : Entry Pair) → IsIn x (firsts seen L) → IsIn x L
firsts_in seen [] x i = absurd i
firsts_in seen (y ∷ L) x i = grind (arith, by_test, cond-true, (firsts_in seen L x), (firsts_in (y.node ∷ seen) L x))

pub die_entries : (s : Sys) (k : ℕ) (seat : Seat) (L : List (Entry Pair)) → AreEntries s L → AreEntries (left s k) (rename (Die k seat) L)
die_entries s k seat L are x i = grind (arith, IsPair-without, filter_in, firsts_in, from_map)

-- The replay of a renamed list

pub renaming_keeps : RenamingKeeps
renaming_keeps (Freeze k) s L ok can are order = search (rules, IsPair-turned, IsSys-turned, freeze_order, replay_whole, turned)
renaming_keeps (Thaw k) s L ok can are order = grind (arith, IsPair-turned, (IsSys-turned s k false ok), (new_same s (turned s k false)), (order_new (arena s) L order), replay_order, (turned s k false))
renaming_keeps (Join seat) s L ok can are order = grind (arith, (IsSys-joined s seat ok can.0 can.1), (join_entries s seat L are), join_once, (joined s seat), (new_from_once (joined s seat)), (new_once (arena s) (system_is_same s)), (order_new (arena s) L order), (replay_order (arena (joined s seat)) (rename (Join seat) L)), (system_is_same s))
renaming_keeps (Die k seat) s L ok can are order = grind (arith, (IsSys-left s k ok), (die_entries s k seat L are), die_order, (left s k), replay_whole)

-- a system after a change is well formed
pub IsSys-after : (change : Change) (s : Sys) → IsSys s → CanChange change s → IsSys (after change s)
IsSys-after change s ok can = (renaming_keeps change s [] ok can (λ x none. absurd none) tt).system
