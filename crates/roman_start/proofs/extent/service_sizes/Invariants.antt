use Rattle.roman_start.proofs.Common.{◌≡◌, map, take, plain, states_in}
use Rattle.roman_start.proofs.extent.service_sizes.Given as goal

-- the sizes so far
abbrev pub invariant-loop-service : goal.invariant-loop-service
invariant-loop-service l = l.sizes.items ≡ map (states_in (plain l.library)) (take l.service-index l.library.services.items)
