-- The delegations that lead to a pair, by the states from which the environment, the target and a seat come.
use Rattle.std.specs.Prelude.{ℕ, List, [], map, length, Option, None, Some, if◌then◌else◌, slice_get, slice_index, slice_set}
use Rattle.std.specs.List.{flat_map}
use Rattle.roman_model.specs.Lists.{below}
use Rattle.roman_model.specs.System.{Sys, Seat, Pair}
use Rattle.roman_model.specs.SystemArena.{env_prev, beh_prev}
use Rattle.roman_model.specs.Arena.{Delegation}
use Rattle.roman_model.specs.Numbers.{sizes_of, number}

-- a seat's predecessor states, from which it goes to b', in rising order; a frozen seat has none
abbrev pub seat_prev : Option Seat → ℕ → ℕ → ℕ → List ℕ
seat_prev None b' e a = []
seat_prev (Some seat) b' e a = if seat.frozen then [] else beh_prev seat.beh b' e a

-- the delegations of action a to seat k from the target's state t, the environment's e and one of these states of the seat
abbrev pub from_states : Sys → Pair → ℕ → ℕ → ℕ → ℕ → List ℕ → List (Delegation ℕ)
from_states s q a e t k bs =
    map (λ b. record { node = number (sizes_of s) (record { t = t; e = e; bs = slice_set q.bs k b }); action = a; seat = k }) bs

-- the delegations of action a to seat k from the target's state t and the environment's e that lead to q
abbrev pub from_seat : Sys → Pair → ℕ → ℕ → ℕ → ℕ → List (Delegation ℕ)
from_seat s q a e t k = from_states s q a e t k (seat_prev (slice_get s.seats k) (slice_index q.bs k) e a)

-- the delegations of action a, to any seat, from the target's state t and the environment's e that lead to q
abbrev pub from_target : Sys → Pair → ℕ → ℕ → ℕ → List (Delegation ℕ)
from_target s q a e t = flat_map (from_seat s q a e t) (below (length s.seats))

-- the delegations of action a from the environment's state e that lead to q
abbrev pub from_env : Sys → Pair → ℕ → ℕ → List (Delegation ℕ)
from_env s q a e = flat_map (from_target s q a e) (beh_prev s.target q.t e a)

-- the delegations of action a that lead to q
abbrev pub from_action : Sys → Pair → ℕ → List (Delegation ℕ)
from_action s q a = flat_map (from_env s q a) (env_prev s.env q.e a)

-- all delegations that lead to q
abbrev pub from_all : Sys → Pair → List (Delegation ℕ)
from_all s q = flat_map (from_action s q) (below s.env.actions)
