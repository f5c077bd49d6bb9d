-- The stages of the script, as the program stores them.
use Rattle.std.specs.Prelude.{ℕ, List, [], ◌∷◌, ◌++◌, codes}
use Rattle.roman_session.specs.Situations.{Situation}
use Rattle.roman_hearing.specs.Told.{Answers}
use Rattle.roman_top.specs.MakeText.{stage_line}
use Rattle.roman_top.specs.declared.make_stage.MakeStage.{MakeStage}

-- the line of a stage
abbrev pub line_of_stage : MakeStage → List ℕ
line_of_stage stage = stage_line stage.word.now stage.pairs stage.related stage.composes

-- the lines of the stages, and the last line
abbrev pub lines_of : List MakeStage → List ℕ
lines_of [] = codes "end\n"
lines_of (stage ∷ more) = line_of_stage stage ++ lines_of more

-- a session answered these lines, and they lead from one situation to the other
pub record HasComeTo (old : Situation) (lines : List (List ℕ)) (new : Situation) : Type 0 where
  pub replies : List ℕ
  pub answers : Answers old lines replies new
