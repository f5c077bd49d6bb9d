-- The remaining guards give the result of all guards.
use Rattle.roman_guard.proofs.Common.{◌≡◌, map, drop, holds, intersection, union}
use Rattle.roman_guard.proofs.formula.+guard.Given as goal

abbrev pub invariant-all_hold-loop-part : goal.invariant-all_hold-loop-part
invariant-all_hold-loop-part l = intersection (map holds (drop l.part-index l.parts)) l.e ≡ intersection (map holds l.parts) l.e

abbrev pub invariant-some_holds-loop-part : goal.invariant-some_holds-loop-part
invariant-some_holds-loop-part l = union (map holds (drop l.part-index l.parts)) l.e ≡ union (map holds l.parts) l.e
