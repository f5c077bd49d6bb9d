-- Rows that were probed for a reason, and the cost of probing in steps.
use Rattle.std.specs.Prelude.{ℕ, ◌+◌, ◌*◌, ◌≡◌, ◌<◌, Bool, true, IsTrue, count_by, if◌then◌else◌}
use Rattle.roman_lanes.specs.Rows.{is_on}
use Rattle.roman_model.specs.Lists.{below}
use Rattle.roman_model.specs.Arena.{Arena, is_justified}
use Rattle.roman_model.specs.declared.reason.Reason.{Reason}
use Rattle.roman_model.specs.declared.reason.Reason.TheVariants.{Final, Act}
use Rattle.roman_rules.specs.declared.probe.RowProbe.{RowProbe}

-- with these pairs gone, the reason holds at each pair of the row whose lane is recorded as known
pub record HoldsWhereKnown (A : Arena ℕ) (lanes : ℕ) (gone : ℕ → Bool) (probe : RowProbe) : Type 0 where
  pub each : (lane : ℕ) → lane < lanes → is_on probe.lanes lane ≡ true → IsTrue (is_justified A gone (probe.row * lanes + lane) probe.reason)

-- with these pairs gone, exactly those lanes of row x are set at which the reason holds
abbrev pub AreJustified : Arena ℕ → ℕ → (ℕ → Bool) → ℕ → Reason → ℕ → Type 0
AreJustified A lanes gone x reason word = (lane : ℕ) → lane < lanes → is_on word lane ≡ is_justified A gone (x * lanes + lane) reason

-- the action of the reason, if it names one, is one of the system
abbrev pub IsReasonOf : Arena ℕ → Reason → Type 0
IsReasonOf A Final = Unit {0}
IsReasonOf A (Act a) = a < A.actions

-- the number of seats that are probed for an action at a pair: the ready ones if it is allowed
unfoldable pub readings_of : Arena ℕ → ℕ → ℕ → ℕ
readings_of A p a = if A.allows p a then count_by A.ready (below A.seats) else 0

-- the number of seats that are probed for a reason at a pair
abbrev pub readings_of_reason : Arena ℕ → ℕ → Reason → ℕ
readings_of_reason A p Final = 0
readings_of_reason A p (Act a) = readings_of A p a
