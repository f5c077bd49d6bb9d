-- Repairs: the relation is complete for the changed system, and its list begins with the replay.
use Rattle.std.specs.Prelude.{◌≡◌, ℕ, ◌+◌, ◌<◌, ◌≤◌, IsFalse, List, [], map, length, take, drop}
use Rattle.roman_model.specs.Lists.{IsIn}
use Rattle.roman_model.specs.System.{Sys, Pair}
use Rattle.roman_model.specs.Arena.{Entry, IsOrder, replay, fall, readings}
use Rattle.roman_model.specs.SystemArena.{arena}
use Rattle.roman_model.specs.Change.{Change, Join, rename, after}
use Rattle.roman_model.specs.Numbers.{entry_at}
use Rattle.roman_joint.specs.NamedSys.{NamedSys, seat_of, system_of}
use Rattle.roman_joint.specs.declared.seat.Seat.{Seat}
use Rattle.roman_joint.specs.Pairs.{arena_of}
use Rattle.roman_joint.specs.Rows.{lanes_in}
use Rattle.roman_order.specs.Board.{Board}
use Rattle.roman_relation.specs.Shaped.{IsShaped}
use Rattle.roman_relation.specs.Greatest.{HasCaps, IsRelation}
use Rattle.roman_relation.specs.Settled.{Begins}
use Rattle.roman_relation.specs.declared.relation.Relation.{Relation}
use Rattle.roman_repair.specs.declared.tally.Tally.{Tally}

-- the replay of the renamed old list, in the system after the change
abbrev pub replayed : Change → Sys → List (Entry ℕ) → List (Entry Pair)
replayed change s old = replay (arena (after change s)) (rename change (map (entry_at s) old))

-- the new list, as pairs of the new system, begins with exactly the replay; the tally counts the entries of the replay and the entries after it
pub record GoesOnFromReplay (change : Change) (s : Sys) (old new : List (Entry ℕ)) (tally : Tally) : Type 0 where
  pub begins : take tally.kept (map (entry_at (after change s)) new) ≡ replayed change s old
  pub kept : tally.kept ≡ length (replayed change s old)
  pub added : tally.kept + tally.added ≡ length new

-- the relation is that of the system after the change, and its list begins with the replay of the renamed old list
pub record IsRepaired (change : Change) (old_joint : NamedSys) (old : Board) (new_joint : NamedSys) (new : Board) (tally : Tally) : Type 0 where
  pub system : system_of new_joint ≡ after change (system_of old_joint)
  pub relation : IsRelation new_joint new
  pub list : GoesOnFromReplay change (system_of old_joint) old.list new.list tally

-- the second relation is the first one after the change and its repair
abbrev pub Repairs : Change → Relation → Relation → Tally → Type 0
Repairs change old new tally = IsRepaired change old.joint old.order new.joint new.order tally

-- the seat can join: it is ready, its name is new, and its behaviour is one of the catalogue
pub record IsNewSeat (joint : NamedSys) (seat : Seat) : Type 0 where
  pub behaviour : seat.behaviour < length joint.catalogue
  pub name : IsIn seat.name (map (λ other. other.name) joint.seats) → ⊥
  pub ready : IsFalse seat.frozen

-- the change by which the seat joins
abbrev pub joining : NamedSys → Seat → Change
joining joint seat = Join (seat_of joint.catalogue seat)

-- the second relation has these seats, and otherwise the parts of the first one's joint
abbrev pub HasSeats : Relation → Relation → List Seat → Type 0
HasSeats old new seats = new.joint ≡ record old.joint { seats = seats }

-- a removal list of the joint's system, in an order that is shaped for it, has room and has no waiting entries
pub record IsBegun (joint : NamedSys) (order : Board) : Type 0 where
  pub valid : IsOrder (arena_of joint) order.list
  pub shaped : IsShaped (arena_of joint) (lanes_in (system_of joint)) order
  pub caps : HasCaps joint order
  pub idle : order.waiting ≡ []

-- the list, which began as `begun`, is complete, the joint is as before, and the tally counts both parts of the list
pub record IsSettledOn (old : NamedSys) (begun : List (Entry ℕ)) (new : NamedSys) (order : Board) (tally : Tally) : Type 0 where
  pub joint : new ≡ old
  pub relation : IsRelation new order
  pub begins : Begins begun order.list
  pub kept : tally.kept ≡ length begun
  pub added : tally.kept + tally.added ≡ length order.list

-- the relation, in the joint `old`, was completed from the list `begun`
abbrev pub SettlesFrom : NamedSys → List (Entry ℕ) → Relation → Tally → Type 0
SettlesFrom old begun new tally = IsSettledOn old begun new.joint new.order tally

-- the fall of a repair: the number of delegations that lead to the pairs that it added
abbrev pub fall_of : Relation → Tally → ℕ
fall_of relation tally = fall (arena_of relation.joint) (drop tally.kept relation.order.list)

-- the steps are at most the fall plus the number of delegations of an allowed action to a ready seat in the new system
abbrev pub IsWithinReading : Relation → Tally → ℕ → ℕ → Type 0
IsWithinReading relation tally before now = now ≤ before + (fall_of relation tally + readings (arena_of relation.joint))
