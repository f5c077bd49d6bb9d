-- The calls of `roman_repair` keep the most entries: no list that can be kept is longer than the one that they keep.
use Rattle.roman_model.specs.Change.{Change}
use Rattle.roman_joint.specs.NamedSys.{system_of}
use Rattle.roman_relation.specs.declared.relation.Relation.{Relation}
use Rattle.roman_repair.specs.declared.tally.Tally.{Tally}
use Rattle.roman_laws.specs.Repairs.{KeepsTheMost}

-- the tally counts the most entries of the old list that the change can keep, and the new list begins with these
abbrev pub CallKeepsTheMost : Change → Relation → Relation → Tally → Type 0
CallKeepsTheMost change old new tally = KeepsTheMost change (system_of old.joint) old.order.list new.order.list tally.kept
