-- The exit statuses of the program.
use Rattle.std.specs.Prelude.{ℕ}
use Rattle.roman_opening.specs.declared.status.Status.{Status}
use Rattle.roman_opening.specs.declared.status.Status.TheVariants as status

-- the number of a status, in the order of the variants
abbrev pub status_number : Status → ℕ
status_number status.Done = 0
status_number status.No = 1
status_number status.Usage = 2
status_number status.Refused = 3
status_number status.Limit = 4
status_number status.ShelfFault = 5
status_number status.ReadFault = 6
status_number status.WriteFault = 7
status_number status.TooLong = 8
status_number status.Memory = 9
