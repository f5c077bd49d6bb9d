use Rattle.roman_joint.proofs.Common.{◌≡◌, take}
use Rattle.roman_joint.proofs.joint.copies.copy_catalogue.Given as goal

-- the behaviours so far are copied
abbrev pub invariant-loop-behaviour : goal.invariant-loop-behaviour
invariant-loop-behaviour l = l.copies.items ≡ take l.behaviour-index l.catalogue
