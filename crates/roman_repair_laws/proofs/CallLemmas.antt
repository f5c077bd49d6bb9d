-- A repaired list begins with the replay, which keeps the most entries.
use Rattle.std.proofs.Common.{[], ◌∷◌, inl, refl, subst, arith}
use Rattle.std.proofs.lemmas.List.{length_push}
use Rattle.roman_model.proofs.CallerLemmas.{in_append_right}
use Rattle.roman_model.specs.Change.{Change, CanChange, Join, after}
use Rattle.roman_model.specs.System.{Seat, IsSys}
use Rattle.roman_joint.specs.NamedSys.{IsNamedSys, system_of}
use Rattle.roman_relation.specs.Greatest.{IsUpToDate}
use Rattle.roman_relation.specs.declared.relation.Relation.{Relation}
use Rattle.roman_repair.specs.Repairs.{Repairs}
use Rattle.roman_repair.specs.declared.tally.Tally.{Tally}
use Rattle.roman_laws.specs.Repairs.{ReplaysKeepTheMost}
use Rattle.roman_repair_laws.specs.Calls.{CallKeepsTheMost}

pub call_most : ReplaysKeepTheMost → (change : Change) (old new : Relation) (tally : Tally) → IsNamedSys old.joint → IsUpToDate old → CanChange change (system_of old.joint) →
    Repairs change old new tally → CallKeepsTheMost change old new tally
call_most keeps change old new tally known relation can repaired =
    keeps change (system_of old.joint) old.order.list new.order.list tally.kept known.system can relation.complete.list.pairs relation.complete.list.order repaired.list.begins repaired.list.kept

-- a seat that joined could join, as the new system is well formed
pub joined_most : ReplaysKeepTheMost → (seat : Seat) (old new : Relation) (tally : Tally) → IsNamedSys old.joint → IsUpToDate old → IsNamedSys new.joint →
    Repairs (Join seat) old new tally → CallKeepsTheMost (Join seat) old new tally
joined_most keeps seat old new tally known relation afterwards repaired =
    let s = system_of old.joint in
    let sys : IsSys (after (Join seat) s) = subst IsSys repaired.system afterwards.system in
    call_most keeps (Join seat) old new tally known relation (sys.seats seat (in_append_right seat s.seats (seat ∷ []) (inl refl)), omega (arith, sys.few, length_push s.seats seat)) repaired
