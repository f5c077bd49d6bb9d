-- A system as an arena, by lists and tests: its pairs, next states, outcomes, allowed actions, and the test of clause 2.
use Rattle.std.specs.Prelude.{ℕ, ◌==◌, Bool, true, false, not, ◌&&◌, ◌||◌, List, [], ◌∷◌, map, length, Option, None, Some, if◌then◌else◌, slice_get, slice_index, slice_set}
use Rattle.std.specs.List.{filter, flat_map}
use Rattle.roman_model.specs.Lists.{below, is_empty}
use Rattle.roman_model.specs.Arena.{Arena}
use Rattle.roman_model.specs.System.{Env, Beh, Seat, Sys, Pair, has_triple, has_move, is_final, all_final}

-- all lists with one state for each seat
abbrev pub combinations : List Seat → List (List ℕ)
combinations [] = [] ∷ []
combinations (seat ∷ seats) = flat_map (λ b. map (λ bs. b ∷ bs) (combinations seats)) (below seat.beh.states)

-- all pairs of the system
abbrev pub pairs : Sys → List Pair
pairs s =
    flat_map (λ t. flat_map (λ e. map (λ bs. record { t = t; e = e; bs = bs }) (combinations s.seats)) (below s.env.states))
    (below s.target.states)

-- the environment's next states after e by a, rising
abbrev pub env_next : Env → ℕ → ℕ → List ℕ
env_next env e a = filter (has_triple env e a) (below env.states)

-- a behaviour's next states after b by a in environment state e, rising
abbrev pub beh_next : Beh → ℕ → ℕ → ℕ → List ℕ
beh_next beh b e a = filter (has_move beh b e a) (below beh.states)

-- the states from which the environment goes by a to e', rising
abbrev pub env_prev : Env → ℕ → ℕ → List ℕ
env_prev env e' a = filter (λ e. has_triple env e a e') (below env.states)

-- the states from which a behaviour goes by a to b' in environment state e, rising
abbrev pub beh_prev : Beh → ℕ → ℕ → ℕ → List ℕ
beh_prev beh b' e a = filter (λ b. has_move beh b e a b') (below beh.states)

-- a seat's next states, rising; none if the seat is frozen or doesn't exist
abbrev pub seat_next : Option Seat → ℕ → ℕ → ℕ → List ℕ
seat_next None b e a = []
seat_next (Some seat) b e a = if seat.frozen then [] else beh_next seat.beh b e a

-- the pairs to which a leads from p if seat k goes to one of the states: ordered by the environment's next state, then by the seat's
abbrev pub outcomes_by : Sys → Pair → ℕ → ℕ → List ℕ → List Pair
outcomes_by s p a k states =
    flat_map (λ e'. flat_map (λ t'. map (λ b'. record { t = t'; e = e'; bs = slice_set p.bs k b' }) states)
    (beh_next s.target p.t p.e a))
    (env_next s.env p.e a)

-- the pairs to which a leads from p, delegated to seat k
abbrev pub outcomes : Sys → Pair → ℕ → ℕ → List Pair
outcomes s p a k = outcomes_by s p a k (seat_next (slice_get s.seats k) (slice_index p.bs k) p.e a)

-- some target step on a exists
abbrev pub is_allowed : Sys → Pair → ℕ → Bool
is_allowed s p a = not (is_empty (env_next s.env p.e a)) && not (is_empty (beh_next s.target p.t p.e a))

-- clause 2 holds: if the target is in a final state, each seat that rests is too
abbrev pub is_fine : Sys → Pair → Bool
is_fine s p = not (is_final s.target p.t) || all_final s.seats p.bs

-- the seat exists and isn't frozen
abbrev pub is_ready : Option Seat → Bool
is_ready None = false
is_ready (Some seat) = not seat.frozen

-- the lists are equal
abbrev pub same_numbers : List ℕ → List ℕ → Bool
same_numbers [] [] = true
same_numbers [] (n ∷ ns) = false
same_numbers (m ∷ ms) [] = false
same_numbers (m ∷ ms) (n ∷ ns) = m == n && same_numbers ms ns

-- the pairs are equal
abbrev pub same_pair : Pair → Pair → Bool
same_pair p q = p.t == q.t && p.e == q.e && same_numbers p.bs q.bs

-- the system as an arena over its pairs
abbrev pub arena : Sys → Arena Pair
arena s = record {
  same = same_pair;
  nodes = pairs s;
  actions = s.env.actions;
  seats = length s.seats;
  fine = is_fine s;
  allows = is_allowed s;
  ready = λ k. is_ready (slice_get s.seats k);
  outcomes = outcomes s;
}
