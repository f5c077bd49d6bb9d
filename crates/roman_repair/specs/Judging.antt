-- The state of a replay, and its steps.
use Rattle.std.specs.Prelude.{◌≡◌, ◌≢◌, ℕ, ◌+◌, ◌<◌, ◌≤◌, true, List, [], ◌++◌, length}
use Rattle.roman_lanes.specs.Rows.{is_on}
use Rattle.roman_model.specs.Arena.{Arena, Entry, is_listed}
use Rattle.roman_rules.specs.declared.rules.Rules.{Ghosts as RulesView}
use Rattle.roman_order.specs.Board.{Board, set_lanes}
use Rattle.roman_order.specs.Batches.{IsBatch, entries_at}
use Rattle.roman_order.specs.declared.batch.Batch.{Batch}
use Rattle.roman_relation.specs.Shaped.{IsShaped}
use Rattle.roman_repair.specs.Alone.{MayProbeAlone}
use Rattle.roman_repair.specs.BandProbes.{HoldsInBand}
use Rattle.roman_repair.specs.Replays.{AreCandidates, with_replay, readings_of_entries}
use Rattle.roman_repair.specs.declared.band_probe.BandProbe.{BandProbe}

-- the entries can be replayed after those of a list
pub record CanReplay (A : Arena ℕ) (lanes : ℕ) (kept : List (Entry ℕ)) (probe : BandProbe) (L : List (Entry ℕ)) : Type 0 where
  pub candidates : AreCandidates A kept L
  pub may : MayProbeAlone A probe.alone kept L
  pub known : HoldsInBand A lanes (is_listed A kept) probe

-- a replay of M after the list `now` has the same result as one of L after the list `kept`, and the readings of L that aren't readings of M pay for the steps
pub record GoesOnTo (A : Arena ℕ) (lanes : ℕ) (L M kept now : List (Entry ℕ)) (on : BandProbe) (before after : ℕ) : Type 0 where
  pub list : with_replay A now M ≡ with_replay A kept L
  pub can : CanReplay A lanes now on M
  pub cost : after + readings_of_entries A M ≤ before + readings_of_entries A L

-- for any later entries, a replay of L and these goes on to one of M and these
pub record Replays (A : Arena ℕ) (lanes : ℕ) (L M kept now : List (Entry ℕ)) (probe on : BandProbe) (before after : ℕ) : Type 0 where
  pub goes_on : (N : List (Entry ℕ)) → CanReplay A lanes kept probe (L ++ N) → GoesOnTo A lanes (L ++ N) (M ++ N) kept now on before after

-- the entries for which a batch stands can be replayed, and other entries after them; the batch's lanes are lanes of a row
pub record CanReplayBatch (A : Arena ℕ) (row lanes : ℕ) (entries : Batch → List (Entry ℕ)) (order : Board) (probe : BandProbe) (e : Batch) : Type 0 where
  pub shaped : IsShaped A row order
  pub batch : IsBatch lanes e
  pub ready : (N : List (Entry ℕ)) × CanReplay A row order.list probe (entries e ++ N)

-- the entries for which a batch stands were replayed, except those for its lanes `left`
pub record HasJudged (A : Arena ℕ) (row : ℕ) (entries : Batch → List (Entry ℕ)) (e : Batch) (left : ℕ) (old new : Board) (probe on : BandProbe) (before after : ℕ) : Type 0 where
  pub some : left ≢ 0 → 0 < length (set_lanes left)
  pub within : (lane : ℕ) → is_on left lane ≡ true → is_on e.lanes lane ≡ true
  pub replayed : Replays A row (entries e) (entries (record e { lanes = left })) old.list new.list probe on before after
  pub rest : new ≡ record old { list = new.list }

-- the first entries of a batch were judged, and fewer lanes, those of `left`, remain
pub record HasJudgedFront (A : Arena ℕ) (row : ℕ) (e : Batch) (left : ℕ) (old new : Board) (probe on : BandProbe) (before after : ℕ) : Type 0 where
  pub fewer : length (set_lanes left) < length (set_lanes e.lanes)
  pub judged : HasJudged A row (entries_at row) e left old new probe on before after

-- each entry for which a batch stands can be replayed in its own row, and other entries after them
abbrev pub CanReplayLanes : {J R : Type 0} → RulesView J R → J → Board → BandProbe → Batch → Type 0
CanReplayLanes J joint order probe e = let lanes = J.lanes joint in CanReplayBatch (J.arena joint) lanes lanes (entries_at lanes) order probe e

-- all entries of L are replayed: a replay of L and any later entries goes on to one of the later entries
abbrev pub ReplaysAll : {J R : Type 0} → RulesView J R → J → List (Entry ℕ) → Board → Board → BandProbe → BandProbe → ℕ → ℕ → Type 0
ReplaysAll J joint L old new probe on before after = Replays (J.arena joint) (J.lanes joint) L [] old.list new.list probe on before after
