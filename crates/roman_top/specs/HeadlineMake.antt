-- The text of `make`: the figures of a session of the made system at each stage, in terms of the greatest ND-simulation.
use Rattle.std.specs.Prelude.{◌≡◌, ◌↔◌, ℕ, Bool, List, [], ◌∷◌, ◌++◌, codes, IsTrue}
use Rattle.roman_model.specs.Composition.{Great}
use Rattle.roman_model.specs.Counting.{Counts}
use Rattle.roman_model.specs.Numbers.{sizes_of, count}
use Rattle.roman_joint.specs.NamedSys.{system_of}
use Rattle.roman_library.specs.Library.{PlainLibrary}
use Rattle.roman_session.specs.States.{State, start_state, IsGreat}
use Rattle.roman_make.specs.Made.{made}
use Rattle.roman_opening.specs.declared.status.Status.TheVariants as status
use Rattle.roman_opening.specs.declared.status.Status.{Status}
use Rattle.roman_top.specs.HeadlineTurns.{Turn, AreTurns, after_turns}
use Rattle.roman_top.specs.MakeText.{stage_line, stages, made_line}

-- a line states how many pairs the present system has, how many are related, and whether the current one is
pub record TellsStanding (word : List ℕ) (s : State) (text : List ℕ) : Type 0 where
  pub related : ℕ
  pub great : Counts (system_of s.parts) (Great (system_of s.parts)) related
  pub composes : Bool
  pub here : IsTrue composes ↔ IsGreat s
  pub says : text ≡ stage_line word (count (sizes_of (system_of s.parts))) related composes

-- the lines of each stage have their turns, and the stage's line gives the figures of the state to which they lead
abbrev pub TellsStages : PlainLibrary → State → List (List ℕ × List (List ℕ)) → List ℕ → Type 0
TellsStages library s [] text = text ≡ codes "end\n"
TellsStages library s (stage ∷ more) text =
    (turns : List Turn) × (line rest : List ℕ) × AreTurns library s stage.1 turns × TellsStanding stage.0 (after_turns s turns) line
    × TellsStages library (after_turns s turns) more rest × (text ≡ line ++ rest)

-- make: the figures of the session of the made system at its start, and after the lines of each stage of the script
pub record FulfilsMake (n : ℕ) (text : List ℕ) (result : Status) : Type 0 where
  pub rest : List ℕ
  pub tells : TellsStages (made n) (start_state (made n)) stages rest
  pub says : text ≡ made_line n ++ rest
  pub ends : result ≡ status.Done
