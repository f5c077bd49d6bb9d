-- The fields of a joint, and its tables.
use Rattle.std.specs.Prelude.{◌≡◌, ◌≤◌, vec_capacity}
use Rattle.roman_model.specs.Numbers.{Sizes, sizes_of}
use Rattle.roman_model.specs.declared.limits.TheConstants.{MAX_SERVICES}
use Rattle.roman_joint.specs.declared.joint.Joint.TheInside.{Inside}
use Rattle.roman_joint.specs.declared.seat.Parts.{Parts}
use Rattle.roman_joint.specs.declared.tables.Tables.{Tables}
use Rattle.roman_joint.specs.NamedSys.{NamedSys, system_of, IsNamedSys}
use Rattle.roman_joint.specs.TargetViews.{AreTargetViews}
use Rattle.roman_joint.specs.Rows.{IsLayoutOf}
use Rattle.roman_joint.specs.Moves.{HoldsMoves, system_in}

-- the system with its names that the fields hold
abbrev pub named_sys_in : Inside → NamedSys
named_sys_in a = record {
  environment = a.environment;
  catalogue = a.catalogue.items;
  target = a.target;
  seats = a.seats.items;
  limit = a.limit;
}

-- the parts are those of this system, the tables are its tables, and there is room for the greatest number of services
pub record IsJointOf (a : Inside) (n : NamedSys) : Type 0 where
  pub known : IsNamedSys n
  pub shape : a.shape ≡ sizes_of (system_of n)
  pub rows : IsLayoutOf (sizes_of (system_of n)) a.rows
  pub moves : HoldsMoves (system_of n) a.moves
  pub target_views : AreTargetViews a.environment.env a.target.beh a.target_views.items
  pub room : MAX_SERVICES ≤ vec_capacity a.seats

-- the fields are those of a joint of the system that they hold
abbrev pub IsJoint : Inside → Type 0
IsJoint a = IsJointOf a (named_sys_in a)

-- the tables are those of the parts and the sizes, and there is room for the greatest number of services
pub record AreTables (parts : Parts) (sizes : Sizes) (tables : Tables) : Type 0 where
  pub places : tables.places.items ≡ parts.seats.now
  pub room : MAX_SERVICES ≤ vec_capacity tables.places
  pub target_views : AreTargetViews parts.environment.now.env parts.target.now.beh tables.target_views.items
  pub rows : IsLayoutOf sizes tables.rows
  pub moves : HoldsMoves (system_in parts) tables.moves
