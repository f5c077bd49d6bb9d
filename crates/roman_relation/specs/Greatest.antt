-- Relations: a joint with an order of its pairs.
use Rattle.std.specs.Prelude.{◌≡◌, ℕ, ◌/◌, ◌⊎◌, [], drop, length}
use Rattle.roman_model.specs.Arena.{IsOrder, fall}
use Rattle.roman_model.specs.Numbers.{IsCompleteList}
use Rattle.roman_joint.specs.NamedSys.{NamedSys, system_of}
use Rattle.roman_joint.specs.Pairs.{arena_of}
use Rattle.roman_joint.specs.Rows.{lanes_in}
use Rattle.roman_order.specs.Board.{Board}
use Rattle.roman_relation.specs.Shaped.{IsShaped}
use Rattle.roman_relation.specs.Settled.{AreLevels, RisesByDepth}
use Rattle.roman_relation.specs.declared.relation.Relation.{Relation}

-- the number of pairs in a row of the joint
abbrev pub row_lanes : NamedSys → ℕ
row_lanes joint = lanes_in (system_of joint)

-- the order is shaped for the joint's pairs
abbrev pub IsShapedFor : NamedSys → Board → Type 0
IsShapedFor joint order = IsShaped (arena_of joint) (row_lanes joint) order

-- the order has room for exactly as many pairs as a system within the joint's limit can have
pub record HasCaps (joint : NamedSys) (order : Board) : Type 0 where
  pub pairs : joint.limit / (system_of joint).env.actions ≡ order.cap_pairs

-- the list is complete, no entry waits, and the levels, unless they were forgotten, are those of the list
pub record HasCompleteList (joint : NamedSys) (order : Board) : Type 0 where
  pub list : IsCompleteList (system_of joint) order.list
  pub idle : order.waiting ≡ []
  pub levels : (order.levels ≡ []) ⊎ AreLevels (arena_of joint) order.levels order.list

-- the state of a relation between two changes: its list is complete, and its order is shaped for the joint, with room
-- for every system within the limit
pub record IsRelation (joint : NamedSys) (order : Board) : Type 0 where
  pub complete : HasCompleteList joint order
  pub shaped : IsShapedFor joint order
  pub caps : HasCaps joint order

-- the relation's list is complete
abbrev pub HasAllLost : Relation → Type 0
HasAllLost relation = HasCompleteList relation.joint relation.order

-- no entry of the relation's order waits
abbrev pub IsIdle : Relation → Type 0
IsIdle relation = relation.order.waiting ≡ []

-- the relation's order is shaped for its joint
abbrev pub HasShape : Relation → Type 0
HasShape relation = IsShapedFor relation.joint relation.order

-- the relation's order has room for every system within the joint's limit
abbrev pub HasCapacity : Relation → Type 0
HasCapacity relation = HasCaps relation.joint relation.order

-- the entries of the relation's list rise by depth
abbrev pub RisesInDepth : Relation → Type 0
RisesInDepth relation = RisesByDepth (arena_of relation.joint) relation.order.list

-- the relation's levels are those of its list
abbrev pub HasLevels : Relation → Type 0
HasLevels relation = AreLevels (arena_of relation.joint) relation.order.levels relation.order.list

-- the joint and the order are those of a relation between two changes
abbrev pub IsUpToDate : Relation → Type 0
IsUpToDate relation = IsRelation relation.joint relation.order

-- the relation's list can be completed: it is a removal list, the order is shaped for the joint, and no entry waits
pub record CanSettle (relation : Relation) : Type 0 where
  pub shaped : HasShape relation
  pub valid : IsOrder (arena_of relation.joint) relation.order.list
  pub idle : IsIdle relation

-- the number of delegations that lead to the pairs that the new relation's list has after those of the old one's
abbrev pub fall_since : Relation → Relation → ℕ
fall_since old new = fall (arena_of old.joint) (drop (length old.order.list) new.order.list)
