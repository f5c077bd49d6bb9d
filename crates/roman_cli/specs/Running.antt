-- The effect of a run of the program with the arguments that the system passes to it.
use Rattle.std.specs.Prelude.{◌≡◌, ◌⊎◌, ℕ, List, [], ◌∷◌, Option}
use Rattle.roman_top.specs.Command.{Command, command_of}
use Rattle.roman_top.specs.Served.{Served}
use Rattle.roman_top.specs.World.{World}
use Rattle.roman_opening.specs.declared.status.Status.{Status}
use Rattle.roman_opening.specs.declared.status.Status.TheVariants as status

-- the words after the program's name, which is the first argument
abbrev pub words_after_name : List (List ℕ) → List (List ℕ)
words_after_name [] = []
words_after_name (name ∷ words) = words

-- the command that the arguments form, if they form one
abbrev pub asked_by : List (List ℕ) → Option Command
asked_by arguments = command_of (words_after_name arguments)

-- the command of the arguments was served, or there was no memory for its words, and nothing was done
abbrev pub ServesArguments : List (List ℕ) → World → World → Status → Type 0
ServesArguments arguments old new ended = Served (asked_by arguments) old new ended ⊎ ((ended ≡ status.Memory) × (new ≡ old))
