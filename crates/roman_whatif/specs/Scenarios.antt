-- Scenarios: a relation, a pair of it, and the way in which services fail.
use Rattle.std.specs.Prelude.{◌≡◌, ℕ, ◌*◌, ◌<◌, List, length}
use Rattle.std.specs.Global.{Vec}
use Rattle.roman_model.specs.Without.{Outlook}
use Rattle.roman_joint.specs.Pairs.{joint_pairs}
use Rattle.roman_relation.specs.Greatest.{IsUpToDate}
use Rattle.roman_relation.specs.declared.relation.Relation.{Relation}
use Rattle.roman_whatif.specs.Left.{FailsTo}
use Rattle.roman_whatif.specs.Losses.{left_of, told_at, AreTold, AreTrialsOf, IsToldOf}
use Rattle.roman_whatif.specs.declared.losses.Scenario.{Scenario}
use Rattle.roman_whatif.specs.declared.losses.Trials.{Trials}
use Rattle.roman_whatif.specs.declared.outlook.Outlook as declared

-- the relation is up to date, and the number is that of one of its pairs
pub record HasPair (relation : Relation) (p : ℕ) : Type 0 where
  pub base : IsUpToDate relation
  pub pair : p < joint_pairs relation.joint

-- the relation is up to date, and the pair is one of its pairs
abbrev pub IsScenario : Scenario → Type 0
IsScenario scenario = HasPair scenario.base.now scenario.pair

-- the outlook after the seats at the places K fail
abbrev pub left_in : Scenario → List ℕ → Outlook
left_in scenario K = left_of scenario.base.now.joint scenario.pair scenario.way K

-- the relation is that without the seats at the places K, and q is the pair that remains
abbrev pub IsLeftIn : Scenario → List ℕ → Relation → ℕ → Type 0
IsLeftIn scenario K relation q = FailsTo scenario.way K scenario.base.now scenario.pair relation q

-- the table has the outlooks after the seat at place j fails, alone or together with each earlier one
abbrev pub IsToldIn : Scenario → ℕ → List declared.Outlook → Type 0
IsToldIn scenario j table = IsToldOf scenario.base.now.joint scenario.pair scenario.way j table

-- the table has the outlooks after each seat fails, and after each two fail
abbrev pub AreToldIn : Scenario → Vec declared.Outlook → Type 0
AreToldIn scenario = λ table. AreTold scenario.base.now.joint scenario.pair scenario.way table.items

-- failures of the relation can be tried on both copies
abbrev pub AreTrialsIn : Scenario → Trials → Type 0
AreTrialsIn scenario trials = AreTrialsOf scenario.base.now.joint trials

-- the failures of the seat at place j can be tried: the table has places for the outlooks of each seat
pub record CanTry (scenario : Scenario) (j : ℕ) (copies : Trials) (table : List declared.Outlook) : Type 0 where
  pub known : IsScenario scenario
  pub place : (j < length scenario.base.now.joint.seats) × (j < 32)
  pub trials : AreTrialsIn scenario copies
  pub room : length table ≡ 32 * length scenario.base.now.joint.seats

-- the failures of the seat at place j were tried: the table has its outlooks, and those before are unchanged
pub record HasTried (scenario : Scenario) (j : ℕ) (old new : List declared.Outlook) (copies : Trials) : Type 0 where
  pub told : IsToldIn scenario j new
  pub before : (i : ℕ) → i < 32 * j → told_at new i ≡ told_at old i
  pub room : length new ≡ length old
  pub trials : AreTrialsIn scenario copies
