-- Lemmas on the pairs of a system, its steps and outcomes.
use Rattle.roman_model.proofs.Common.{◌≡◌, ℕ, ◌<◌, ◌==◌, not, ◌&&◌, List, [], ◌∷◌, map, length, Option, Some, None, IsTrue, IsFalse, flat_map, slice_get, slice_index, slice_set, refl, sym, ap, ◌∙◌, subst, arith, rules, ◌+◌, ◌*◌, AllZip, false≢true, and_parts, and_from, not-true, not_from_false, eqb-true, eq-eqb, cond-true, cond-false, slice_get_within, IsIn, HasNoRepeats, below, is_empty, product_of, Env, Beh, Seat, Sys, Pair, has, has_triple, has_move, IsEnv, IsBeh, IsSys, IsPair, SStep, Move, TStep, Allows, pairs, env_next, beh_next, seat_next, outcomes_by, outcomes, is_allowed, same_numbers, same_pair, combinations, env_prev, beh_prev, is_ready, states_at, sizes_of, count, pair_at, number, Sizes, div-mul-add, mod-mul-add}
use Rattle.roman_model.proofs.NumberLemmas.{AreBelow-at, numbers_are_pairs, pair_at-number, states_number-at, AreBelow-set, below_states, size_at, states_below}
use Rattle.roman_model.proofs.Lists.{get_in, flat_map_same, flat_map_same_in, map-map, map_same_in, map_rows, by_test, in_map, from_map, in_flat_map, from_flat_map, in_filter, filter_in, any_true, any_from, in_not_empty, not_empty_in, in_below, from_below, HasNoRepeats-map, HasNoRepeats-below}

-- Membership of numbers.

pub number_listed : (ns : List ℕ) (n : ℕ) → IsTrue (has ns n) → IsIn n ns
number_listed ns n h = grind (arith, any_true, eqb-true)

pub listed_number : (ns : List ℕ) (n : ℕ) → IsIn n ns → IsTrue (has ns n)
listed_number ns n i = any_from (λ m. m == n) n ns i (eq-eqb n n refl)

-- Equal pairs.

pub same_numbers_is : (ms ns : List ℕ) → IsTrue (same_numbers ms ns) → ms ≡ ns
same_numbers_is [] [] h = refl
same_numbers_is (m ∷ ms) (n ∷ ns) h = grind (arith, eqb-true, (same_numbers_is ms ns))
same_numbers_is _ _ h = absurd (false≢true h)

pub same_numbers_itself : (ns : List ℕ) → IsTrue (same_numbers ns ns)
same_numbers_itself [] = refl
same_numbers_itself (n ∷ ns) = and_from (n == n) (same_numbers ns ns) (eq-eqb n n refl) (same_numbers_itself ns)

pub same_pair_is : (p q : Pair) → IsTrue (same_pair p q) → p ≡ q
same_pair_is p q h = grind (arith, eqb-true, pair_path, same_numbers_is)
  where
    pair_path : p.t ≡ q.t → p.e ≡ q.e → p.bs ≡ q.bs → p ≡ q
    pair_path t e bs = λ i. record { t = t i; e = e i; bs = bs i }

pub same_pair_from : (p q : Pair) → p ≡ q → IsTrue (same_pair p q)
same_pair_from p q e = grind (arith, and_from, eq-eqb, same_numbers_itself)

-- The pairs of a system, in the order of their numbers.

combinations_at : (seats : List Seat) → combinations seats ≡ map (states_at (map (λ seat. seat.beh.states) seats)) (below (product_of (map (λ seat. seat.beh.states) seats)))
combinations_at [] = refl
combinations_at (seat ∷ seats) =
    let sizes : List ℕ = map (λ seat. seat.beh.states) seats in
    flat_map_same (λ b. map (λ bs. b ∷ bs) (combinations seats)) (λ b. map (λ j. states_at (seat.beh.states ∷ sizes) (b * product_of sizes + j)) (below (product_of sizes))) (below seat.beh.states)
    (λ b. ap (map (λ bs. b ∷ bs)) (combinations_at seats) ∙ map-map (λ bs. b ∷ bs) (states_at sizes) (below (product_of sizes))
    ∙ map_same_in (λ j. b ∷ states_at sizes j) (λ j. states_at (seat.beh.states ∷ sizes) (b * product_of sizes + j)) (below (product_of sizes)) (λ j i. grind (arith, (from_below (product_of sizes) j i), div-mul-add, mod-mul-add)))
    ∙ sym (map_rows (states_at (seat.beh.states ∷ sizes)) seat.beh.states (product_of sizes))

pub pairs_at : (s : Sys) → pairs s ≡ map (pair_at (sizes_of s)) (below (count (sizes_of s)))
pairs_at s =
    flat_map_same_in (λ t. flat_map (λ e. map (λ bs. record { t = t; e = e; bs = bs }) (combinations s.seats)) (below s.env.states)) (λ t. map (λ j. pair_at n (t * (s.env.states * rest) + j)) (below (s.env.states * rest)))
    (below s.target.states)
    (λ t i. flat_map_same_in (λ e. map (λ bs. record { t = t; e = e; bs = bs }) (combinations s.seats)) (λ e. map (λ j. pair_at n (t * (s.env.states * rest) + (e * rest + j))) (below rest)) (below s.env.states)
    (grind (arith, combinations_at, map-map, rest, map_same_in, n, is, from_below))
    ∙ sym (map_rows (λ j. pair_at n (t * (s.env.states * rest) + j)) s.env.states rest))
    ∙ sym (map_rows (pair_at n) s.target.states (s.env.states * rest)) ∙ ap (λ m. map (pair_at n) (below m)) whole
  where
    n : Sizes
    n = sizes_of s

    rest : ℕ
    rest = product_of (sizes_of s).seats

    whole : s.target.states * (s.env.states * rest) ≡ count (sizes_of s)
    whole = omega arith

    is : (t e j : ℕ) → t < s.target.states → e < s.env.states → j < rest → record { t = t; e = e; bs = states_at n.seats j } ≡ pair_at n (t * (s.env.states * rest) + (e * rest + j))
    is t e j ht he hj =
        let p : Pair = record { t = t; e = e; bs = states_at n.seats j } in
        let same : number n p ≡ t * (s.env.states * rest) + (e * rest + j) = rw (states_number-at n.seats j hj) (omega arith) in
        sym (pair_at-number n p (record { t = ht; e = he; bs = AreBelow-at n.seats j hj })) ∙ ap (pair_at n) same

pub in_pairs : (s : Sys) (p : Pair) → IsPair s p → IsIn p (pairs s)
in_pairs s p ok =
    subst (λ q. IsIn q (pairs s)) ((numbers_are_pairs s).back p ok)
    (subst (IsIn (pair_at (sizes_of s) (number (sizes_of s) p))) (sym (pairs_at s))
    (in_map (pair_at (sizes_of s)) (number (sizes_of s) p) (below (count (sizes_of s))) (in_below (count (sizes_of s)) (number (sizes_of s) p) ((numbers_are_pairs s).below p ok))))

pub from_pairs : (s : Sys) (p : Pair) → IsIn p (pairs s) → IsPair s p
from_pairs s p i = grind (arith, (pairs_at s), from_below, from_map, (numbers_are_pairs s))

pub pairs_once : (s : Sys) → HasNoRepeats (pairs s)
pairs_once s = grind (arith, (pairs_at s), (HasNoRepeats-below (count (sizes_of s))), HasNoRepeats-map, from_below, (numbers_are_pairs s))

-- Triples and moves are in range.

pub triple_in : (env : Env) (e a e' : ℕ) → IsTrue (has_triple env e a e') → IsIn (record { from = e; action = a; to = e' }) env.triples
triple_in env e a e' h =
    let (x, i, t) = any_true (λ x. x.from == e && x.action == a && x.to == e') env.triples h in
    let (front, to) = and_parts (x.from == e && x.action == a) (x.to == e') t in
    let (from, action) = and_parts (x.from == e) (x.action == a) front in
    let same : x ≡ record { from = e; action = a; to = e' } = λ k. record { from = eqb-true x.from e from k; action = eqb-true x.action a action k; to = eqb-true x.to e' to k } in
    grind arith

pub triple_in_range : (env : Env) (e a e' : ℕ) → IsEnv env → IsTrue (has_triple env e a e') → (e < env.states) × (a < env.actions) × (e' < env.states)
triple_in_range env e a e' ok h = ok.triples (record { from = e; action = a; to = e' }) (triple_in env e a e' h)

-- the move that the test of a step finds
pub move_test : (m : Move) (b e a b' : ℕ) → IsTrue (m.from == b && m.action == a && has m.guard e && m.to == b') →
    (m.from ≡ b) × (m.action ≡ a) × IsIn e m.guard × (m.to ≡ b')
move_test m b e a b' t = grind (arith, any_true, eqb-true)

-- the guard of the step's move
pub move_in : (beh : Beh) (b e a b' : ℕ) → IsTrue (has_move beh b e a b') → (guard : List ℕ) × IsIn (record { from = b; guard = guard; action = a; to = b' }) beh.steps × IsIn e guard
move_in beh b e a b' h =
    let (m, i, t) = any_true (λ m. m.from == b && m.action == a && has m.guard e && m.to == b') beh.steps h in
    let (from, action, guard, to) = move_test m b e a b' t in
    let same : m ≡ record { from = b; guard = m.guard; action = a; to = b' } = λ k. record { from = from k; guard = m.guard; action = action k; to = to k } in
    grind arith

pub move_in_range : (env : Env) (beh : Beh) (b e a b' : ℕ) → IsBeh env beh → IsTrue (has_move beh b e a b') →
    (b < beh.states) × (e < env.states) × (a < env.actions) × (b' < beh.states)
move_in_range env beh b e a b' ok h =
    let (guard, i, j) = move_in beh b e a b' h in
    let (k, l, n) = ok.steps (record { from = b; guard = guard; action = a; to = b' }) i in
    (k, ok.guards (record { from = b; guard = guard; action = a; to = b' }) i e j, l, n)

-- Next states.

pub in_env_next : (env : Env) (e a e' : ℕ) → IsEnv env → IsTrue (has_triple env e a e') → IsIn e' (env_next env e a)
in_env_next env e a e' ok h = grind (arith, (in_below env.states e' (triple_in_range env e a e' ok h).2), in_filter, (triple_in_range env e a e' ok h))

pub from_env_next : (env : Env) (e a e' : ℕ) → IsIn e' (env_next env e a) → IsTrue (has_triple env e a e')
from_env_next env e a e' i = (filter_in (has_triple env e a) e' (below env.states) i).1

pub in_beh_next : (env : Env) (beh : Beh) (b e a b' : ℕ) → IsBeh env beh → IsTrue (has_move beh b e a b') → IsIn b' (beh_next beh b e a)
in_beh_next env beh b e a b' ok h = grind (arith, (in_below beh.states b' (move_in_range env beh b e a b' ok h).3), in_filter, (move_in_range env beh b e a b' ok h))

pub from_beh_next : (beh : Beh) (b e a b' : ℕ) → IsIn b' (beh_next beh b e a) → IsTrue (has_move beh b e a b')
from_beh_next beh b e a b' i = (filter_in (has_move beh b e a) b' (below beh.states) i).1

pub in_seat_next : (env : Env) (seat : Seat) (b e a b' : ℕ) → IsBeh env seat.beh → IsFalse seat.frozen → IsTrue (has_move seat.beh b e a b') →
    IsIn b' (seat_next (Some seat) b e a)
in_seat_next env seat b e a b' ok ready h = search (rules, cond-false, in_beh_next)

pub from_seat_next : (o : Option Seat) (b e a b' : ℕ) → IsIn b' (seat_next o b e a) →
    (seat : Seat) × (o ≡ Some seat) × IsFalse seat.frozen × IsTrue (has_move seat.beh b e a b')
from_seat_next None b e a b' i = absurd i
from_seat_next (Some seat) b e a b' i = grind (arith, by_test, cond-false, cond-true, from_beh_next)

-- Previous states.

pub in_env_prev : (env : Env) (e a e' : ℕ) → IsEnv env → IsTrue (has_triple env e a e') → IsIn e (env_prev env e' a)
in_env_prev env e a e' ok h = grind (arith, (in_below env.states e (triple_in_range env e a e' ok h).0), in_filter)

pub from_env_prev : (env : Env) (e a e' : ℕ) → IsIn e (env_prev env e' a) → IsTrue (has_triple env e a e')
from_env_prev env e a e' i = (filter_in (λ d. has_triple env d a e') e (below env.states) i).1

pub in_beh_prev : (env : Env) (beh : Beh) (b e a b' : ℕ) → IsBeh env beh → IsTrue (has_move beh b e a b') → IsIn b (beh_prev beh b' e a)
in_beh_prev env beh b e a b' ok h = grind (arith, (in_below beh.states b (move_in_range env beh b e a b' ok h).0), in_filter)

pub from_beh_prev : (beh : Beh) (b e a b' : ℕ) → IsIn b (beh_prev beh b' e a) → IsTrue (has_move beh b e a b')
from_beh_prev beh b e a b' i = (filter_in (λ c. has_move beh c e a b') b (below beh.states) i).1

-- Outcomes are the ends of joint steps.

pub in_moved : (s : Sys) (p : Pair) (a k : ℕ) (states : List ℕ) (t' e' b' : ℕ) → IsSys s → TStep s p.t p.e a t' e' → IsIn b' states →
    IsIn (record { t = t'; e = e'; bs = slice_set p.bs k b' }) (outcomes_by s p a k states)
in_moved s p a k states t' e' b' ok step i =
    in_flat_map (λ e'. flat_map (λ t'. map (λ b'. record { t = t'; e = e'; bs = slice_set p.bs k b' }) states) (beh_next s.target p.t p.e a))
    e' (record { t = t'; e = e'; bs = slice_set p.bs k b' }) (env_next s.env p.e a) (in_env_next s.env p.e a e' ok.env step.0)
    (in_flat_map (λ t'. map (λ b'. record { t = t'; e = e'; bs = slice_set p.bs k b' }) states)
    t' (record { t = t'; e = e'; bs = slice_set p.bs k b' }) (beh_next s.target p.t p.e a) (in_beh_next s.env s.target p.t p.e a t' ok.target step.1)
    (in_map (λ b'. record { t = t'; e = e'; bs = slice_set p.bs k b' }) b' states i))

pub outcome_in : (s : Sys) (p : Pair) (a k t' e' : ℕ) (bs' : List ℕ) → IsSys s → TStep s p.t p.e a t' e' → SStep s p.bs p.e a k bs' e' →
    IsIn (record { t = t'; e = e'; bs = bs' }) (outcomes s p a k)
outcome_in s p a k t' e' bs' ok step r = grind (arith, (in_seat_next s.env r.seat (slice_index p.bs k) p.e a r.to (ok.seats r.seat (get_in s.seats k r.seat r.seated)) r.ready r.moves), in_moved)

pub from_outcome : (s : Sys) (p : Pair) (a k : ℕ) (q : Pair) → IsIn q (outcomes s p a k) → TStep s p.t p.e a q.t q.e × SStep s p.bs p.e a k q.bs q.e
from_outcome s p a k q i = grind (arith, from_beh_next, from_env_next, from_flat_map, from_map, from_seat_next)

-- An outcome belongs to a seat that exists and is ready.
pub outcome_seat : (s : Sys) (p : Pair) (a k : ℕ) (q : Pair) → IsIn q (outcomes s p a k) → (k < length s.seats) × IsTrue (is_ready (slice_get s.seats k))
outcome_seat s p a k q i = grind (arith, from_outcome, not_from_false, slice_get_within)

-- A list of one state for each seat stays in range when one state is replaced.
pub states_set : (seats : List Seat) (bs : List ℕ) (k b : ℕ) (seat : Seat) → AllZip (λ seat b. b < seat.beh.states) seats bs →
    slice_get seats k ≡ Some seat → b < seat.beh.states → AllZip (λ seat b. b < seat.beh.states) seats (slice_set bs k b)
states_set seats bs k b seat h e l = grind (arith, below_states, AreBelow-set, states_below, size_at)

pub outcome_pair : (s : Sys) (p : Pair) (a k : ℕ) (q : Pair) → IsSys s → IsPair s p → IsIn q (outcomes s p a k) → IsPair s q
outcome_pair s p a k q ok pair i =
    let (step, r) = from_outcome s p a k q i in
    record {
      t = (move_in_range s.env s.target p.t p.e a q.t ok.target step.1).3;
      e = (triple_in_range s.env p.e a q.e ok.env step.0).2;
      bs = subst (λ bs. AllZip (λ (seat : Seat) (b : ℕ). b < seat.beh.states) s.seats bs) (sym r.is)
          (states_set s.seats p.bs k r.to r.seat pair.bs r.seated
          (move_in_range s.env r.seat.beh (slice_index p.bs k) p.e a r.to (ok.seats r.seat (get_in s.seats k r.seat r.seated)) r.moves).3);
    }

-- Allowed actions.

pub allowed_in : (s : Sys) (p : Pair) (a : ℕ) → IsSys s → Allows s p.t p.e a → IsTrue (is_allowed s p a)
allowed_in s p a ok (t', e', step) = grind (arith, (and_from (not (is_empty (env_next s.env p.e a))) (not (is_empty (beh_next s.target p.t p.e a)))), (not_from_false (is_empty (env_next s.env p.e a)) (in_not_empty e' (env_next s.env p.e a) (in_env_next s.env p.e a e' ok.env step.0))), (not_from_false (is_empty (beh_next s.target p.t p.e a)) (in_not_empty t' (beh_next s.target p.t p.e a) (in_beh_next s.env s.target p.t p.e a t' ok.target step.1))))

pub from_allowed : (s : Sys) (p : Pair) (a : ℕ) → IsTrue (is_allowed s p a) → Allows s p.t p.e a
from_allowed s p a h = grind (arith, and_parts, from_beh_next, from_env_next, not-true, not_empty_in)

pub allowed_in_range : (s : Sys) (p : Pair) (a : ℕ) → IsSys s → IsTrue (is_allowed s p a) → a < s.env.actions
allowed_in_range s p a ok h = grind (arith, from_allowed, triple_in_range)
