-- The broken rules, and their numbers.
use Rattle.std.specs.Prelude.{ℕ}
use Rattle.roman_read.specs.declared.rules.Kind.{Kind}
use Rattle.roman_read.specs.declared.rules.Kind.TheVariants as kind
use Rattle.roman_read.specs.declared.rules.Miss.{Miss}
use Rattle.roman_read.specs.declared.rules.Miss.TheVariants as miss

-- the numbers of the kinds, in their order
abbrev pub kind_number : Kind → ℕ
kind_number kind.Missing = 1
kind_number kind.Form = 2
kind_number kind.BadName = 3
kind_number kind.Repeated = 4
kind_number kind.Unknown = 5
kind_number kind.Count = 6
kind_number (kind.Choice first state) = 7
kind_number kind.Version = 8
kind_number kind.NotJson = 9
kind_number kind.TooLong = 10

-- the kind with the same name
abbrev pub kind_of : Miss → Kind
kind_of miss.Missing = kind.Missing
kind_of miss.Form = kind.Form

-- a miss has the number of the kind with the same name
abbrev pub miss_number : Miss → ℕ
miss_number m = kind_number (kind_of m)
