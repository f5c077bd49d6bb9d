-- Each change of the services that isn't refused can be made.
use Rattle.roman_hearing.proofs.Common.{AreBehaviours, CanChange, Change, Die, Freeze, IsIn, IsNamedSys, IsPair, IsPair-grown, IsPair-turned, IsPair-without, IsSituation, Join, MAX_SERVICES, NamedSys, Pair, ServiceChange, Situation, Some, State, Sys, Thaw, [], after, arith, beh_at, cells, change_at, false, frozen_known, frozen_system, get_or_from_slice_get, gone_known, gone_system, joined_known, joined_system, length, length-map, map, present_system, remove, seat_name, seat_of, services_after, shown, slice_get, states_after, subst, sym, there_is, true, with_frozen, with_services, ℕ, ◌++◌, ◌<◌, ◌∷◌, ◌≡◌, ◌≤◌}
use Rattle.roman_model.specs.System.{Seat}
use Rattle.roman_joint.specs.declared.seat.Seat.{Seat as Service}
use Rattle.roman_joint.specs.NamedSys as joint
use Rattle.roman_session.specs.declared.events.ServiceChange.TheVariants as kind
use Rattle.roman_hearing.proofs.WithinLemmas.{beh_within}

-- the change leads to a well-formed system and to one of its pairs
pub record CanMake (s : Situation) (change : Change) (next : State) : Type 0 where
  pub can : CanChange change (present_system s)
  pub same : joint.system_of next.parts ≡ after change (present_system s)
  pub known : IsNamedSys next.parts
  pub pair : IsPair (joint.system_of next.parts) next.here

module _ (s : Situation) (is : IsSituation s) where
  -- a pair of the changed system
  pair_then : (change : Change) (parts : NamedSys) (p : Pair) → joint.system_of parts ≡ after change (present_system s) → IsPair (after change (present_system s)) p → IsPair (joint.system_of parts) p
  pair_then change parts p same pair = subst (λ (s : Sys). IsPair s p) (sym same) pair

  -- the seat of a present service
  pub seat_there : (k : ℕ) → k < length s.parts.seats → (seat : Seat) × (slice_get (present_system s).seats k ≡ Some seat)
  seat_there k l = there_is (present_system s).seats k (omega (arith, l, length-map s.parts.seats (seat_of s.parts.catalogue)))

  pub changes_can : (change : ServiceChange) (k : ℕ) (seat : Seat) → k < length s.parts.seats → slice_get (present_system s).seats k ≡ Some seat →
      CanMake s (change_at change k seat) (with_services (shown s) (services_after change s.parts.seats k) (states_after change s.here.bs k))
  changes_can kind.Freeze k seat l at = record {
    can = omega (arith, l, length-map s.parts.seats (seat_of s.parts.catalogue));
    same = frozen_system s.parts k true;
    known = frozen_known s.parts k true is.parts l;
    pair = pair_then (Freeze k) (record s.parts { seats = with_frozen s.parts.seats k true }) s.here (frozen_system s.parts k true) (IsPair-turned (present_system s) k true s.here is.here);
  }
  changes_can kind.Thaw k seat l at = record {
    can = omega (arith, l, length-map s.parts.seats (seat_of s.parts.catalogue));
    same = frozen_system s.parts k false;
    known = frozen_known s.parts k false is.parts l;
    pair = pair_then (Thaw k) (record s.parts { seats = with_frozen s.parts.seats k false }) s.here (frozen_system s.parts k false) (IsPair-turned (present_system s) k false s.here is.here);
  }
  changes_can kind.Die k seat l at =
      let (x, there) = there_is s.parts.seats k l in
      record {
        can = at;
        same = gone_system s.parts k seat;
        known = gone_known s.parts k x is.parts l (sym (get_or_from_slice_get s.parts.seats k x x there));
        pair = pair_then (Die k seat) (record s.parts { seats = remove s.parts.seats k }) (record s.here { bs = remove s.here.bs k }) (gone_system s.parts k seat) (IsPair-without (present_system s) k s.here is.here);
      }

  pub joins_can : (seat : Service) (b : ℕ) → AreBehaviours s.parts → seat.behaviour < length s.parts.catalogue → b < (beh_at s.parts.catalogue seat.behaviour).states → (IsIn seat.name (map seat_name s.parts.seats) → ⊥) →
      length s.parts.seats < MAX_SERVICES → cells (joint.system_of (record s.parts { seats = s.parts.seats ++ seat ∷ [] })) ≤ s.parts.limit →
      CanMake s (Join (seat_of s.parts.catalogue seat)) (with_services (shown s) (s.parts.seats ++ seat ∷ []) (s.here.bs ++ b ∷ []))
  joins_can seat b behaviours place state free few fits =
      let beh = beh_within s.parts.environment s.parts.catalogue seat.behaviour behaviours place in
      let same = joined_system s.parts seat in
      record {
        can = (beh, omega (arith, few, length-map s.parts.seats (seat_of s.parts.catalogue)));
        same = same;
        known = joined_known s.parts seat is.parts few place beh free (subst (λ (s' : Sys). cells s' ≤ s.parts.limit) same fits);
        pair = pair_then (Join (seat_of s.parts.catalogue seat)) (record s.parts { seats = s.parts.seats ++ seat ∷ [] }) (record s.here { bs = s.here.bs ++ b ∷ [] }) same (IsPair-grown (present_system s) (seat_of s.parts.catalogue seat) s.here b is.here state);
      }
