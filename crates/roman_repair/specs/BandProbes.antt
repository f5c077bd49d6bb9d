-- A row and a band of rows that were probed for reasons.
use Rattle.std.specs.Prelude.{ℕ, ◌+◌, ◌*◌, ◌≡◌, ◌<◌, Bool, true, not, List, length, slice_index, Option, Some, IsTrue}
use Rattle.roman_lanes.specs.Rows.{is_on, AreRows}
use Rattle.roman_model.specs.Arena.{Arena}
use Rattle.roman_model.specs.declared.reason.Reason.{Reason}
use Rattle.roman_rules.specs.Probes.{IsReasonOf}
use Rattle.roman_rules.specs.declared.rules.Rules.{Ghosts as RulesView}
use Rattle.roman_order.specs.declared.batch.Batch.{Batch}
use Rattle.roman_repair.specs.Alone.{IsSeatOf, passes, probes_of}
use Rattle.roman_repair.specs.Replays.{is_possible}
use Rattle.roman_repair.specs.declared.band_probe.BandProbe.{BandProbe}

-- the seats that are probed let the reason hold at the lanes of the row that the word has
pub record IsKnown (A : Arena ℕ) (lanes : ℕ) (gone : ℕ → Bool) (alone : Option ℕ) (x : ℕ) (reason : Reason) (word : ℕ) : Type 0 where
  pub each : (lane : ℕ) → lane < lanes → is_on word lane ≡ true → IsTrue (passes A gone alone (x * lanes + lane) reason)

-- the stored results are right: the row's reason holds at its lanes, and the band's reason at each lane that its words have
pub record HoldsInBand (A : Arena ℕ) (lanes : ℕ) (gone : ℕ → Bool) (probe : BandProbe) : Type 0 where
  pub row : IsKnown A lanes gone probe.alone probe.row.row probe.row.reason probe.row.lanes
  pub rows : (i : ℕ) → i < probe.rows → IsKnown A lanes gone probe.alone (probe.first + i) probe.reason (slice_index probe.words i)

-- the word has the lanes of the batch's row at which seat k keeps its reason from holding
abbrev pub HasServed : {J R : Type 0} → RulesView J R → J → List ℕ → ℕ → Batch → ℕ → Type 0
HasServed J joint words k e word =
    (gone : ℕ → Bool) → AreRows (J.lanes joint) (λ q. not (gone q)) words → (lane : ℕ) → lane < J.lanes joint →
    is_on word lane ≡ not (passes (J.arena joint) gone (Some k) (e.row * J.lanes joint + lane) e.reason)

-- the row of the batch can be probed for its reason, which is one of the system; the words have a bit for each pair
pub record CanProbe (A : Arena ℕ) (lanes : ℕ) (alone : Option ℕ) (words : List ℕ) (e : Batch) : Type 0 where
  pub seat : IsSeatOf A alone
  pub row : e.row * lanes < length A.nodes
  pub reason : IsReasonOf A e.reason
  pub room : length words * lanes ≡ length A.nodes

-- the row was probed: the result has the lanes at which the reason passes, the stored results stay right, and the steps are the probes
pub record HasProbed (A : Arena ℕ) (lanes : ℕ) (words : List ℕ) (e : Batch) (old new : BandProbe) (answer before after : ℕ) : Type 0 where
  pub holds : (gone : ℕ → Bool) → AreRows lanes (λ q. not (gone q)) words → (lane : ℕ) → lane < lanes → is_on answer lane ≡ passes A gone old.alone (e.row * lanes + lane) e.reason
  pub known : (gone : ℕ → Bool) → AreRows lanes (λ q. not (gone q)) words → HoldsInBand A lanes gone old → HoldsInBand A lanes gone new
  pub alone : new.alone ≡ old.alone
  pub cost : (lane : ℕ) → lane < lanes → IsTrue (is_possible A (e.row * lanes + lane) e.reason) → after ≡ before + probes_of A old.alone (e.row * lanes + lane) e.reason
