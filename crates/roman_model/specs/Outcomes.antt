-- The steps of target and system together.
use Rattle.std.specs.Prelude.{ℕ}
use Rattle.roman_model.specs.System.{Sys, Pair, TStep, SStep}

-- the target and the system, delegated to seat k, have a step by a from p to q
abbrev pub LeadsTo : Sys → Pair → ℕ → ℕ → Pair → Type 0
LeadsTo s p a k q = TStep s p.t p.e a q.t q.e × SStep s p.bs p.e a k q.bs q.e
