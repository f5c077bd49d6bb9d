-- Whether the input's count of faults rose, by the status.
use Rattle.std.specs.Prelude.{◌≡◌, ℕ}
use Rattle.roman_io.specs.Faults.{Rose}
use Rattle.roman_opening.specs.declared.status.Status.{Status}
use Rattle.roman_opening.specs.declared.status.Status.TheVariants as status

-- the input's count of faults rose at the status ReadFault, and stayed the same at any other
abbrev pub InputCause : ℕ → ℕ → Status → Type 0
InputCause old new status.ReadFault = Rose old new
InputCause old new _ = new ≡ old
