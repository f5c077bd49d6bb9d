-- The situation that the fields of a session hold.
use Rattle.std.specs.Prelude.{◌≡◌, ℕ, ◌≤◌, length, map, vec_capacity}
use Rattle.roman_model.specs.System.{has}
use Rattle.roman_model.specs.Numbers.{sizes_of, number, entry_at}
use Rattle.roman_model.specs.Offers.{offers}
use Rattle.roman_model.specs.declared.limits.TheConstants.{MAX_BEHAVIOURS, MAX_SERVICES}
use Rattle.roman_rules.specs.Bits.{HasBits}
use Rattle.roman_joint.specs.NamedSys.{system_of}
use Rattle.roman_relation.specs.Greatest.{IsRelation}
use Rattle.roman_session.specs.Situations.{Situation, IsSituation}
use Rattle.roman_session.specs.declared.phase.Phase.TheVariants.{Offered}
use Rattle.roman_session.specs.declared.session.Session.TheInside.{Inside}

-- the situation that the fields hold
abbrev pub situation_in : Inside → Situation
situation_in a = record {
  parts = a.relation.joint;
  here = record { t = a.target; e = a.env; bs = a.states.items };
  phase = a.phase;
  list = map (entry_at (system_of a.relation.joint)) a.relation.order.list;
}

-- the relation's list is complete, the situation is well formed, the catalogue has at most as many behaviours as a document,
-- there is room for the greatest number of services, the number is that of the current pair, and the mask has exactly the
-- offered services
pub record IsSession (a : Inside) : Type 0 where
  pub relation : IsRelation a.relation.joint a.relation.order
  pub known : IsSituation (situation_in a)
  pub few : length a.relation.joint.catalogue ≤ MAX_BEHAVIOURS
  pub room : MAX_SERVICES ≤ vec_capacity a.states
  pub numbered : a.number ≡ number (sizes_of (system_of a.relation.joint)) (situation_in a).here
  pub offered : (action : ℕ) → a.phase ≡ Offered action → HasBits a.mask (has (offers (system_of a.relation.joint) (situation_in a).here action))
