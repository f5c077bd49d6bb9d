-- The outside before and after a call, as far as its types expose it.
use Rattle.std.specs.Prelude.{ℕ, List, [], Option}
use Rattle.roman_io.specs.Shelf.{Texts}
use Rattle.roman_io.specs.Sink.{Wrote}
use Rattle.roman_io.specs.declared.shelf.Shelf.{Ghosts as ShelfView}
use Rattle.roman_io.specs.declared.sink.Sink.{Ghosts as SinkView}
use Rattle.roman_io.specs.declared.source.Source.{Ghosts as SourceView}
use Rattle.roman_opening.specs.Outputs.{Outputs}

-- the shelf's texts, the rest of the input, the written bytes, and the counts of faults of the shelf, the input and the output
pub record World : Type 0 where
  pub texts : Option Texts
  pub rest : Option (List ℕ)
  pub written : Option (List ℕ)
  pub shelf_faults : ℕ
  pub input_faults : ℕ
  pub out_faults : ℕ

-- an outside with these parts
abbrev pub world : Option Texts → ℕ → Option (List ℕ) → ℕ → Option (List ℕ) → ℕ → World
world texts shelf_faults rest input_faults written out_faults = record {
  texts = texts;
  rest = rest;
  written = written;
  shelf_faults = shelf_faults;
  input_faults = input_faults;
  out_faults = out_faults;
}

-- the outside as far as its types expose it, in words for contracts at bounds `F: Shelf`, `I: Source` and `O: Sink`
abbrev pub world_of : {F I O : Type 0} → ShelfView F → SourceView I → SinkView O → F → I → O → World
world_of F I O shelf input out = world (F.texts shelf) (F.faults shelf) (I.rest input) (I.faults input) (O.written out) (O.faults out)

-- the outside with this shelf, this sink and an input with these parts
abbrev pub beside : Outputs → Option (List ℕ) → ℕ → World
beside d rest faults = world d.texts d.shelf_faults rest faults d.written d.out_faults

-- nothing was written
abbrev pub IsUnwritten : World → World → Type 0
IsUnwritten old new = Wrote old.written new.written []
