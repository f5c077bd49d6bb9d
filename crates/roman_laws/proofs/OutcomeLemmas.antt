-- The tests and lists of a system agree with its steps, and its pairs with their numbers.
use Rattle.roman_laws.proofs.Common.{◌≡◌, ℕ, zero, suc, ◌==◌, ◌&&◌, ◌||◌, not, ◌<◌, List, [], ◌∷◌, Some, IsTrue, slice_get, slice_index, refl, arith, eqb-true, and_parts, and_from, eq-eqb, or_cases, both_ways, not-true, or_right, or_left, not_from_false, false≢true, AllZip, IsIn, Env, Beh, Seat, has_triple, has_move, is_final, all_final, any_true, any_from, number_listed, listed_number, outcome_in, from_outcome, allowed_in, from_allowed, fine_is, fine_from, by_test, triple_in, states_number_below, states_at-number, AreBelow-at, states_number-at, number_below, pair_at-number, IsPairOf-at, number-pair_at, HasStep, OutcomesAreSteps, TestsAreMembership, none-some, same_Some, ShapesAreNumbered}

-- Membership

pub listed_triple : (env : Env) (e a e' : ℕ) → IsIn (record { from = e; action = a; to = e' }) env.triples → IsTrue (has_triple env e a e')
listed_triple env e a e' i = grind (arith, and_from, any_from, eq-eqb)

pub step_listed : (beh : Beh) (b e a b' : ℕ) → IsTrue (has_move beh b e a b') → HasStep beh b e a b'
step_listed beh b e a b' h = grind (arith, and_parts, any_true, eqb-true, number_listed)

pub listed_step : (beh : Beh) (b e a b' : ℕ) → HasStep beh b e a b' → IsTrue (has_move beh b e a b')
listed_step beh b e a b' h = grind (arith, and_from, any_from, eq-eqb, listed_number)

-- Finality, seat by seat

-- if all seats are final, the seat at each place is loose or final
pub final_at : (seats : List Seat) (bs : List ℕ) → IsTrue (all_final seats bs) → (k : ℕ) (seat : Seat) → slice_get seats k ≡ Some seat →
    IsTrue (not seat.rests || is_final seat.beh (slice_index bs k))
final_at [] bs all k seat e = absurd (none-some seat e)
final_at (x ∷ seats) [] all k seat e = absurd (false≢true all)
final_at (x ∷ seats) (b ∷ bs) all zero seat e = grind (arith, same_Some, and_parts)
final_at (x ∷ seats) (b ∷ bs) all (suc k) seat e = final_at seats bs (and_parts (not x.rests || is_final x.beh b) (all_final seats bs) all).1 k seat e

all_final_each : (seats : List Seat) (bs : List ℕ) → IsTrue (all_final seats bs) → (k : ℕ) (seat : Seat) → slice_get seats k ≡ Some seat → IsTrue seat.rests → IsTrue (is_final seat.beh (slice_index bs k))
all_final_each seats bs all k seat e rests = grind (arith, (final_at seats bs all k seat e), or_cases, both_ways, not-true)

all_final_from : (seats : List Seat) (bs : List ℕ) → AllZip (λ seat b. b < seat.beh.states) seats bs →
    ((k : ℕ) (seat : Seat) → slice_get seats k ≡ Some seat → IsTrue seat.rests → IsTrue (is_final seat.beh (slice_index bs k))) → IsTrue (all_final seats bs)
all_final_from [] bs zip each = refl
all_final_from (x ∷ xs) [] zip each = absurd zip
all_final_from (x ∷ xs) (b ∷ bs) zip each =
    and_from (not x.rests || is_final x.beh b) (all_final xs bs) (by_test x.rests (λ t. or_right (not x.rests) (is_final x.beh b) (each 0 x refl t)) (λ f. or_left (not x.rests) (is_final x.beh b) (not_from_false x.rests f)))
    (all_final_from xs bs zip.1 (λ k seat there rests. each (suc k) seat there rests))

pub outcomes_steps : OutcomesAreSteps
outcomes_steps s p ok = record {
  allowed = λ a. (from_allowed s p a, allowed_in s p a ok);
  reached = λ a k q. (from_outcome s p a k q, λ (target, system). outcome_in s p a k q.t q.e q.bs ok target system);
  fine = (fine_is s p, fine_from s p);
  rests = λ pair. (all_final_each s.seats p.bs, all_final_from s.seats p.bs pair.bs);
}

pub tests_membership : TestsAreMembership
tests_membership = grind (arith, listed_number, listed_step, listed_triple, number_listed, step_listed, triple_in)

-- The numbers of pairs and of lists of states, for all sizes.

pub shapes_numbered : ShapesAreNumbered
shapes_numbered = grind (arith, AreBelow-at, IsPairOf-at, number-pair_at, number_below, pair_at-number, states_at-number, states_number-at, states_number_below)
