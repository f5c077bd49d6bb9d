-- The shelf and the sink before and after a call, as far as their types expose them.
use Rattle.std.specs.Prelude.{ℕ, List, Option}
use Rattle.roman_io.specs.Shelf.{Texts}
use Rattle.roman_io.specs.declared.shelf.Shelf.{Ghosts as ShelfView}
use Rattle.roman_io.specs.declared.sink.Sink.{Ghosts as SinkView}

-- the state of the shelf and the sink
pub record Outputs : Type 0 where
  pub texts : Option Texts
  pub written : Option (List ℕ)
  pub shelf_faults : ℕ
  pub out_faults : ℕ

-- the state of the shelf and the sink with these parts
abbrev pub outputs : Option Texts → ℕ → Option (List ℕ) → ℕ → Outputs
outputs texts shelf_faults written out_faults = record { texts = texts; written = written; shelf_faults = shelf_faults; out_faults = out_faults }

-- the shelf and the sink as far as their types expose them, in words for contracts at bounds `F: Shelf` and `O: Sink`
abbrev pub outputs_of : {F O : Type 0} → ShelfView F → SinkView O → F → O → Outputs
outputs_of F O shelf out = outputs (F.texts shelf) (F.faults shelf) (O.written out) (O.faults out)
