-- The beginning and the end of a replay of grown entries.
use Rattle.std.specs.Prelude.{◌≡◌, ℕ, ◌+◌, ◌<◌, ◌≤◌, ◌^◌, true, List, [], ◌++◌, Some, flat_map, length}
use Rattle.roman_lanes.specs.Rows.{is_on}
use Rattle.roman_model.specs.Lists.{IsIn}
use Rattle.roman_model.specs.System.{Sys}
use Rattle.roman_model.specs.Numbers.{numbered}
use Rattle.roman_model.specs.Arena.{Arena, Entry, IsOrder, replay}
use Rattle.roman_model.specs.NumberedChange.{grown_numbers}
use Rattle.roman_order.specs.Board.{Board, set_lanes}
use Rattle.roman_order.specs.Batches.{IsBatch, entries_at}
use Rattle.roman_order.specs.declared.batch.Batch.{Batch}
use Rattle.roman_joint.specs.Rows.{lanes_in}
use Rattle.roman_joint.specs.NamedSys.{system_of}
use Rattle.roman_relation.specs.Shaped.{IsShaped}
use Rattle.roman_relation.specs.Greatest.{HasCaps}
use Rattle.roman_relation.specs.declared.relation.Relation.{Relation}
use Rattle.roman_repair.specs.Alone.{MayProbeAlone}
use Rattle.roman_repair.specs.Replays.{AreCandidates, AreSlices, candidates, readings_of_entries, with_replay}
use Rattle.roman_rules.specs.declared.rules.Rules.{Ghosts as RulesView}
use Rattle.roman_repair.specs.Judging.{CanReplayBatch}
use Rattle.roman_repair.specs.Repairs.{SettlesFrom}
use Rattle.roman_repair.specs.declared.band_probe.BandProbe.{BandProbe}
use Rattle.roman_repair.specs.declared.tally.Tally.{Tally}
use Rattle.roman_repair.specs.declared.replaying.Newcomer.{Newcomer}

-- the entries to which those of a batch from before the newcomer grow
abbrev pub entries_grown : Newcomer → Batch → List (Entry ℕ)
entries_grown newcomer e = flat_map (grown_numbers newcomer.states) (entries_at newcomer.lanes e)

-- the entries of a batch from before the newcomer grow to entries of whole rows of `row` lanes, and of nodes of the arena
pub record CanGrow (A : Arena ℕ) (row : ℕ) (newcomer : Newcomer) (e : Batch) : Type 0 where
  pub slices : AreSlices row newcomer.lanes newcomer.states
  pub batch : IsBatch newcomer.lanes e
  pub nodes : (x : Entry ℕ) → IsIn x (entries_grown newcomer e) → x.node < length A.nodes

-- the first entries of a batch grow to the entries of another batch, and the entries for the lanes `rest` are left
pub record IsGrown (row : ℕ) (newcomer : Newcomer) (e grown : Batch) (rest : ℕ) : Type 0 where
  pub batch : IsBatch row grown
  pub parts : entries_grown newcomer e ≡ entries_at row grown ++ entries_grown newcomer (record e { lanes = rest })
  pub in_rest : (lane : ℕ) → is_on rest lane ≡ true → is_on e.lanes lane ≡ true
  pub fits : rest < 2 ^ 64
  pub fewer : length (set_lanes rest) < length (set_lanes e.lanes)

-- the entries for which the waiting ones from before the newcomer stand can be replayed, and the newcomer may be probed alone
pub record CanReplayAll (A : Arena ℕ) (row : ℕ) (newcomer : Newcomer) (order : Board) : Type 0 where
  pub shaped : IsShaped A row order
  pub slices : AreSlices row newcomer.lanes newcomer.states
  pub lanes : order.waiting_lanes ≡ newcomer.lanes
  pub are : AreCandidates A order.list (candidates newcomer.states order)
  pub may : MayProbeAlone A (Some newcomer.k) order.list (candidates newcomer.states order)

-- all waiting entries were replayed, each as the entries that it stands for
pub record HasReplayedAll (A : Arena ℕ) (L : List (Entry ℕ)) (old new : Board) (before after : ℕ) : Type 0 where
  pub list : new.list ≡ with_replay A old.list L
  pub rest : new ≡ record old { list = new.list; waiting = [] }
  pub cost : after ≤ before + readings_of_entries A L

-- the entries for which a batch from before the newcomer stands can be replayed, and other entries after them
pub record CanReplayGrown {J R : Type 0} (V : RulesView J R) (joint : J) (newcomer : Newcomer) (order : Board) (probe : BandProbe) (e : Batch) : Type 0 where
  pub ready : CanReplayBatch (V.arena joint) (V.lanes joint) newcomer.lanes (entries_grown newcomer) order probe e
  pub slices : AreSlices (V.lanes joint) newcomer.lanes newcomer.states

-- the entries to which the list grows
abbrev pub list_grown : Newcomer → Board → List (Entry ℕ)
list_grown newcomer order = flat_map (grown_numbers newcomer.states) order.list

-- the replay, in a system, of the entries to which the list grows
abbrev pub replay_grown : Sys → Newcomer → Board → List (Entry ℕ)
replay_grown s newcomer order = replay (numbered s) (list_grown newcomer order)

-- the entries to which the list grows can be replayed in the system, and their replay is a removal list there; the newcomer may be probed alone
pub record CanReadmit (s : Sys) (newcomer : Newcomer) (order : Board) : Type 0 where
  pub idle : order.waiting ≡ []
  pub lanes : order.lanes ≡ newcomer.lanes
  pub slices : AreSlices (lanes_in s) newcomer.lanes newcomer.states
  pub are : AreCandidates (numbered s) [] (list_grown newcomer order)
  pub may : MayProbeAlone (numbered s) (Some newcomer.k) [] (list_grown newcomer order)
  pub valid : IsOrder (numbered s) (replay_grown s newcomer order)

-- the order of the relation has room for every system within the joint's limit
abbrev pub IsCapped : Relation → Type 0
IsCapped relation = HasCaps relation.joint relation.order

-- the entries to which the relation's list grows can be replayed in its system
abbrev pub CanAdmit : Relation → Newcomer → Type 0
CanAdmit relation newcomer = CanReadmit (system_of relation.joint) newcomer relation.order

-- the new relation was completed from the replay of the entries to which the old list grows
abbrev pub Admits : Newcomer → Relation → Relation → Tally → Type 0
Admits newcomer old new tally = SettlesFrom old.joint (replay_grown (system_of old.joint) newcomer old.order) new tally
