-- One seat that is probed alone, while no entry of a replay has been dropped.
use Rattle.std.specs.Prelude.{ℕ, ◌<◌, ◌==◌, Bool, true, List, [], ◌∷◌, ◌++◌, Option, None, Some, IsTrue, if◌then◌else◌}
use Rattle.roman_model.specs.Arena.{Arena, Entry, is_beaten, is_justified, is_listed}
use Rattle.roman_model.specs.declared.reason.Reason.{Reason}
use Rattle.roman_model.specs.declared.reason.Reason.TheVariants.{Final, Act}
use Rattle.roman_rules.specs.Probes.{readings_of_reason}

-- the system in which seat k has no outcomes
abbrev pub without_seat : {N : Type 0} → Arena N → ℕ → Arena N
without_seat A k = record A { outcomes = λ p a j. if j == k then [] else A.outcomes p a j }

-- each entry of the second list is justified by the first list and by the entries before it
abbrev pub AreKept : {N : Type 0} → Arena N → List (Entry N) → List (Entry N) → Type 0
AreKept A kept [] = Unit {0}
AreKept A kept (x ∷ L) = IsTrue (is_justified A (is_listed A kept) x.node x.reason) × AreKept A (kept ++ x ∷ []) L

-- the seat, if it is given, is in the system
abbrev pub IsSeatOf : Arena ℕ → Option ℕ → Type 0
IsSeatOf A None = Unit {0}
IsSeatOf A (Some k) = k < A.seats

-- the seat, if it is given, is ready, and without its outcomes all candidates would be kept
abbrev pub MayProbeAlone : Arena ℕ → Option ℕ → List (Entry ℕ) → List (Entry ℕ) → Type 0
MayProbeAlone A None kept L = Unit {0}
MayProbeAlone A (Some k) kept L = (k < A.seats) × IsTrue (A.ready k) × AreKept (without_seat A k) kept L

-- the seats that are probed let the reason hold: all of them, or seat k alone, which doesn't serve its action
abbrev pub passes : Arena ℕ → (ℕ → Bool) → Option ℕ → ℕ → Reason → Bool
passes A gone None p reason = is_justified A gone p reason
passes A gone (Some k) p Final = true
passes A gone (Some k) p (Act a) = is_beaten A gone p a k

-- the number of seats that are probed for the reason
abbrev pub probes_of : Arena ℕ → Option ℕ → ℕ → Reason → ℕ
probes_of A None p reason = readings_of_reason A p reason
probes_of A (Some k) p Final = 0
probes_of A (Some k) p (Act a) = 1
