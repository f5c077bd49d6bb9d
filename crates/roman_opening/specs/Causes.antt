-- The counts of faults that rose, by the status.
use Rattle.std.specs.Prelude.{◌≡◌, ℕ}
use Rattle.roman_io.specs.Faults.{Rose}
use Rattle.roman_opening.specs.declared.status.Status.{Status}
use Rattle.roman_opening.specs.declared.status.Status.TheVariants as status

-- the shelf's count of faults rose at the status ShelfFault, and stayed the same at any other
abbrev pub ShelfCause : ℕ → ℕ → Status → Type 0
ShelfCause old new status.ShelfFault = Rose old new
ShelfCause old new _ = new ≡ old

-- the sink's count of faults rose at the status WriteFault, and stayed the same at any other
abbrev pub SinkCause : ℕ → ℕ → Status → Type 0
SinkCause old new status.WriteFault = Rose old new
SinkCause old new _ = new ≡ old
