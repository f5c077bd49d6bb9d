-- The words of a command, and the request that they form.
use Rattle.std.specs.Prelude.{ℕ, List, [], ◌∷◌, Option, None, Some, codes, if◌then◌else◌}
use Rattle.std.specs.Option.{option_map}
use Rattle.std.specs.Str.{bytes_eq}
use Rattle.roman_top.specs.Arguments.{request_count_of, workers_of}
use Rattle.roman_top.specs.declared.command.Command.{Command as Asked}
use Rattle.roman_top.specs.declared.command.Command.TheVariants as asked

-- a job on a system; a session without a name is read from the input, and a session with a name from the shelf
pub data Job : Type 0 where
  Synth : Job
  Run : (session : Option (List ℕ)) → Job
  Certify : Job
  Check : (certificate : List ℕ) → Job
  Shortest : Job
  Advise : (costs : List ℕ) (requests : ℕ) → Job
  Resilience : Job

-- the request of a command: a job on the system document of that name, or a made system of n workers
pub data Command : Type 0 where
  On : (system : List ℕ) (job : Job) → Command
  Make : (n : ℕ) → Command

-- the command of a word and one argument
abbrev pub command_with_one : List ℕ → List ℕ → Option Command
command_with_one word name =
    if bytes_eq word (codes "synth") then Some (On name Synth)
    else if bytes_eq word (codes "run") then Some (On name (Run None))
    else if bytes_eq word (codes "certify") then Some (On name Certify)
    else if bytes_eq word (codes "shortest") then Some (On name Shortest)
    else if bytes_eq word (codes "resilience") then Some (On name Resilience)
    else if bytes_eq word (codes "make") then option_map Make (workers_of name)
    else None

-- the command of a word and two arguments
abbrev pub command_with_two : List ℕ → List ℕ → List ℕ → Option Command
command_with_two word name other =
    if bytes_eq word (codes "run") then Some (On name (Run (Some other)))
    else if bytes_eq word (codes "check") then Some (On name (Check other))
    else None

-- the command of a word and three arguments
abbrev pub command_with_three : List ℕ → List ℕ → List ℕ → List ℕ → Option Command
command_with_three word name other third =
    if bytes_eq word (codes "advise") then option_map (λ requests. On name (Advise other requests)) (request_count_of third)
    else None

-- the command that the words form, if they form one
abbrev pub command_of : List (List ℕ) → Option Command
command_of [] = None
command_of (word ∷ []) = None
command_of (word ∷ name ∷ []) = command_with_one word name
command_of (word ∷ name ∷ other ∷ []) = command_with_two word name other
command_of (word ∷ name ∷ other ∷ third ∷ []) = command_with_three word name other third
command_of (word ∷ name ∷ other ∷ third ∷ another ∷ more) = None

-- the line that is written for words that form no command
abbrev pub usage_line : List ℕ
usage_line = codes "usage: roman synth SYSTEM | run SYSTEM [SESSION] | certify SYSTEM | check SYSTEM CERT | make N | resilience SYSTEM | shortest SYSTEM | advise SYSTEM COSTS H\n"

-- a command of the program as a command of the definitions, with its names as bytes
abbrev pub command_as : Asked → Command
command_as (asked.Synth system) = On system.now Synth
command_as (asked.Run system) = On system.now (Run None)
command_as (asked.RunOnShelf system session) = On system.now (Run (Some session.now))
command_as (asked.Certify system) = On system.now Certify
command_as (asked.Check system certificate) = On system.now (Check certificate.now)
command_as (asked.Shortest system) = On system.now Shortest
command_as (asked.Advise system costs requests) = On system.now (Advise costs.now requests.count)
command_as (asked.Resilience system) = On system.now Resilience
command_as (asked.Make workers) = Make workers.count
