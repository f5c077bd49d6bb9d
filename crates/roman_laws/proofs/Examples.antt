-- The definitions, computed for three small systems. A lamp is off or on. A flaky lamp may also stick when it is turned on. The target
-- turns a lamp on and off, and may rest while it is off.
use Rattle.roman_laws.proofs.Common.{◌≡◌, [], ◌∷◌, length, refl, arith, true, false, ℕ, ◌+◌, ◌<◌, List, map, Some, filter, pairs, arena, offers, is_related, choice_count, Several, IsSeveral, all_requests, combined, Beh, Sys, Pair, Env, Seat, IsSys, system_without, pair_without, IsOrder, depth, Join, after, Final, Act}
use Rattle.roman_model.specs.declared.way.Way.TheVariants as way

-- The one environment state is 0. The action 0 turns a lamp on, and the action 1 turns it off. A lamp is off at 0, on at 1 and stuck at 2.

abbrev pub room : Env
room = record {
  states = 1;
  actions = 2;
  start = 0;
  triples = record { from = 0; action = 0; to = 0 } ∷ record { from = 0; action = 1; to = 0 } ∷ [];
}

abbrev pub lamp : Beh
lamp = record {
  states = 2;
  start = 0;
  finals = 0 ∷ [];
  steps = record { from = 0; guard = 0 ∷ []; action = 0; to = 1 } ∷ record { from = 1; guard = 0 ∷ []; action = 1; to = 0 } ∷ [];
}

abbrev pub flaky : Beh
flaky = record {
  states = 3;
  start = 0;
  finals = 0 ∷ 2 ∷ [];
  steps =
      record { from = 0; guard = 0 ∷ []; action = 0; to = 1 } ∷ record { from = 0; guard = 0 ∷ []; action = 0; to = 2 }
      ∷ record { from = 1; guard = 0 ∷ []; action = 1; to = 0 } ∷ [];
}

-- a ready seat that rests
abbrev pub seat_of : Beh → Seat
seat_of beh = record { beh = beh; frozen = false; rests = true }

abbrev pub lamp_system : Sys
lamp_system = record { env = room; target = lamp; seats = seat_of lamp ∷ [] }

abbrev pub flaky_system : Sys
flaky_system = record { env = room; target = lamp; seats = seat_of flaky ∷ [] }

abbrev pub joined_system : Sys
joined_system = after (Join (seat_of lamp)) flaky_system

abbrev pub pair_of : ℕ → List ℕ → Pair
pair_of t bs = record { t = t; e = 0; bs = bs }

abbrev pub related_pairs : Sys → List Pair
related_pairs s = filter (is_related s) (pairs s)

-- One lamp, at the seat 0: it follows the target. The numbers of pairs and of choices, the related pairs, and the offers.
lamp_follows :
    (length (pairs lamp_system) ≡ 4)
    × (related_pairs lamp_system ≡ pair_of 0 (0 ∷ []) ∷ pair_of 1 (1 ∷ []) ∷ [])
    × (offers lamp_system (pair_of 0 (0 ∷ [])) 0 ≡ 0 ∷ [])
    × (offers lamp_system (pair_of 1 (1 ∷ [])) 1 ≡ 0 ∷ [])
    × (choice_count lamp_system ≡ 2)
lamp_follows = (refl, refl, refl, refl, refl)

-- One flaky lamp: no pair is related. One pair has the depth 0, three have 1, one has 2 and one has 3.
flaky_fails :
    (length (pairs flaky_system) ≡ 6)
    × (related_pairs flaky_system ≡ [])
    × (map (depth (arena flaky_system)) (pairs flaky_system) ≡ Some 2 ∷ Some 0 ∷ Some 1 ∷ Some 1 ∷ Some 3 ∷ Some 1 ∷ [])
flaky_fails = (refl, refl, refl)

-- A flaky lamp at the seat 0, joined by a lamp at the seat 1: only the lamp is offered.
joined_follows :
    (length (pairs joined_system) ≡ 12)
    × (length (related_pairs joined_system) ≡ 5)
    × (offers joined_system (pair_of 0 (0 ∷ 0 ∷ [])) 0 ≡ 1 ∷ [])
joined_follows = (refl, refl, refl)

-- The lamp's system is well formed, so the premises of the laws can be met.

pub lamp_is_system : IsSys lamp_system
lamp_is_system = grind (arith, room)

-- The removal list of the flaky lamp's system that a certificate lists: each entry is justified by the entries before it.
flaky_order : IsOrder (arena flaky_system)
    (record { node = pair_of 0 (1 ∷ []); reason = Final } ∷ record { node = pair_of 0 (2 ∷ []); reason = Act 0 }
    ∷ record { node = pair_of 1 (0 ∷ []); reason = Act 1 } ∷ record { node = pair_of 1 (2 ∷ []); reason = Act 1 }
    ∷ record { node = pair_of 0 (0 ∷ []); reason = Act 0 } ∷ record { node = pair_of 1 (1 ∷ []); reason = Act 1 } ∷ [])
flaky_order = (refl, refl, (refl, refl, (refl, refl, (refl, refl, (refl, refl, (refl, refl, tt))))))

-- Two lamps, and two targets that each turn a lamp on and off.

abbrev two : Several
two = record { env = room; targets = lamp ∷ lamp ∷ []; seats = seat_of lamp ∷ seat_of lamp ∷ [] }

two_is : IsSeveral two
two_is = grind (arith, room)

-- Exactly the pairs with as many lit lamps as the targets need are related. If the second lamp is on for the second target, the first lamp
-- is offered to the first target.
two_follow :
    (all_requests two ≡ record { target = 0; action = 0 } ∷ record { target = 0; action = 1 } ∷ record { target = 1; action = 0 } ∷ record { target = 1; action = 1 } ∷ [])
    × (length (pairs (combined two)) ≡ 16)
    × (related_pairs (combined two)
    ≡ pair_of 0 (0 ∷ 0 ∷ []) ∷ pair_of 1 (0 ∷ 1 ∷ []) ∷ pair_of 1 (1 ∷ 0 ∷ []) ∷ pair_of 2 (0 ∷ 1 ∷ []) ∷ pair_of 2 (1 ∷ 0 ∷ []) ∷ pair_of 3 (1 ∷ 1 ∷ []) ∷ [])
    × (offers (combined two) (pair_of 0 (0 ∷ 0 ∷ [])) 0 ≡ 0 ∷ 1 ∷ [])
    × (offers (combined two) (pair_of 1 (0 ∷ 1 ∷ [])) 0 ≡ 0 ∷ [])
two_follow = (refl, refl, refl, refl, refl)

-- The loss of a seat that rests outside a final state helps: a lamp with another seat that is never final.

-- the behaviour that does nothing, and is never final
abbrev busy : Beh
busy = record { states = 1; start = 0; finals = []; steps = [] }

abbrev lamp_and : Beh → Sys
lamp_and beh = record { env = room; target = lamp; seats = seat_of lamp ∷ seat_of beh ∷ [] }

-- the start pair: the target and both seats are in their first states
abbrev begun : Pair
begun = record { t = 0; e = 0; bs = 0 ∷ 0 ∷ [] }

busy_helps_by_leaving :
    (is_related (lamp_and busy) begun ≡ false)
    × (is_related (system_without way.Freeze (1 ∷ []) (lamp_and busy)) begun ≡ false)
    × (is_related (system_without way.Die (1 ∷ []) (lamp_and busy)) (pair_without way.Die (1 ∷ []) begun) ≡ true)
busy_helps_by_leaving = (refl, refl, refl)

-- one of two lamps is enough: the least set whose loss fails has both
one_lamp_is_enough :
    (is_related (system_without way.Freeze (0 ∷ []) (lamp_and lamp)) begun ≡ true) × (is_related (system_without way.Freeze (0 ∷ 1 ∷ []) (lamp_and lamp)) begun ≡ false)
one_lamp_is_enough = (refl, refl)
