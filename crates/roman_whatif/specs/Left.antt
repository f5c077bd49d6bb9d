-- What remains when services fail.
use Rattle.std.specs.Prelude.{◌≡◌, ℕ, ◌<◌, List, [], ◌∷◌, length, Option, None, Some}
use Rattle.roman_model.specs.Numbers.{sizes_of, count, pair_at}
use Rattle.roman_model.specs.Without.{system_without, pair_without}
use Rattle.roman_model.specs.declared.way.Way.{Way}
use Rattle.roman_joint.specs.NamedSys.{NamedSys, system_of}
use Rattle.roman_joint.specs.Pairs.{joint_pairs}
use Rattle.roman_joint.specs.Parts.{HasSameParts}
use Rattle.roman_order.specs.Board.{Board}
use Rattle.roman_relation.specs.Greatest.{HasCaps, IsRelation}
use Rattle.roman_relation.specs.declared.relation.Relation.{Relation}

-- the places of the seats that fail
abbrev pub failing_places : ℕ → Option ℕ → List ℕ
failing_places first None = first ∷ []
failing_places first (Some second) = first ∷ second ∷ []

-- p is the number of a pair, and k is the place of a seat
abbrev pub HasPairAndSeat : NamedSys → ℕ → ℕ → Type 0
HasPairAndSeat joint p k = (p < joint_pairs joint) × (k < length joint.seats)

-- changes of the base can be tried on this relation: it differs from the base only in its services and its list, and has room for the base
pub record IsScratchOf (base : NamedSys) (scratch : Relation) : Type 0 where
  pub parts : HasSameParts scratch.joint base
  pub caps : HasCaps scratch.joint scratch.order

-- changes of the base can be tried on this relation, and it has no waiting entries
pub record IsIdleScratchOf (base : NamedSys) (scratch : Relation) : Type 0 where
  pub is_scratch : IsScratchOf base scratch
  pub idle : scratch.order.waiting ≡ []

-- the relation is that of the system without the seats at the places K of the old system, and q is the pair that remains of p
pub record IsLeft (way : Way) (K : List ℕ) (old : NamedSys) (p : ℕ) (joint : NamedSys) (order : Board) (q : ℕ) : Type 0 where
  pub relation : IsRelation joint order
  pub parts : HasSameParts joint old
  pub system : system_of joint ≡ system_without way K (system_of old)
  pub within : q < count (sizes_of (system_of joint))
  pub pair : pair_at (sizes_of (system_of joint)) q ≡ pair_without way K (pair_at (sizes_of (system_of old)) p)

-- by this failure the relation becomes the other one
abbrev pub FailsTo : Way → List ℕ → Relation → ℕ → Relation → ℕ → Type 0
FailsTo way K old p new q = IsLeft way K old.joint p new.joint new.order q
