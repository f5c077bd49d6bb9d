-- Runs that end because there is no memory for their words.
use Rattle.roman_opening.proofs.CallerLemmas.{told_all}
use Rattle.std.proofs.Common.{ℕ, List, Option, inr, refl}
use Rattle.roman_cli.specs.Running.{ServesArguments}
use Rattle.roman_top.specs.Command.{Command}
use Rattle.roman_top.specs.Complete.{AnswersWherePossible, CanAnswer, IsAnswered}
use Rattle.roman_top.specs.Headline.{HasHeadline}
use Rattle.roman_top.specs.Run.{texts_for}
use Rattle.roman_top.specs.World.{World}
use Rattle.roman_opening.specs.declared.status.Status.TheVariants as status

pub answers_out : (asked : Option Command) (old new : World) → AnswersWherePossible asked old new status.Memory
answers_out asked old new quiet = told_all (texts_for asked old.texts) (λ texts. CanAnswer asked texts old.rest → IsAnswered status.Memory) (λ texts can. tt)

pub headline_out : (asked : Option Command) (old new : World) → HasHeadline asked old new status.Memory
headline_out asked old new free = absurd free

pub stopped : (arguments : List (List ℕ)) (old : World) → ServesArguments arguments old old status.Memory
stopped arguments old = inr (refl, refl)
