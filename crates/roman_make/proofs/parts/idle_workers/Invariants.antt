use Rattle.roman_make.proofs.Common.{◌≡◌, map, take, idle_worker}
use Rattle.roman_make.proofs.parts.idle_workers.Given as goal

abbrev pub invariant-loop-name : goal.invariant-loop-name
invariant-loop-name l = l.services.items ≡ map (λ name. idle_worker name.now) (take l.name-index l.names)
