use Rattle.roman_start.proofs.Common.{◌≡◌, ◌≤◌, map, take, vec_capacity, MAX_SERVICES, state_of_service}
use Rattle.roman_start.proofs.seating.states_of.Given as goal

-- the states so far
abbrev pub invariant-loop-service : goal.invariant-loop-service
invariant-loop-service l = record {
  items : l.states.items ≡ map state_of_service (take l.service-index l.services);
  room : MAX_SERVICES ≤ vec_capacity l.states;
}
