-- The effect of a call of `serve`, given its words and the outside before and after it.
use Rattle.std.specs.Prelude.{◌≡◌, ℕ, List, Option}
use Rattle.roman_opening.specs.Causes.{ShelfCause, SinkCause}
use Rattle.roman_opening.specs.Outputs.{Outputs}
use Rattle.roman_opening.specs.declared.status.Status.TheVariants as status
use Rattle.roman_opening.specs.declared.status.Status.{Status}
use Rattle.roman_top.specs.Command.{Command}
use Rattle.roman_top.specs.Run.{WithTexts, HasRun}
use Rattle.roman_top.specs.Causes.{InputCause}
use Rattle.roman_top.specs.Faults.{IsFree, AtShelfFault, AtReadFault, AtWriteFault, AtMemory, EndsInput}
use Rattle.roman_top.specs.World.{World, beside}

-- unless a fault or running out of memory ended it, the call is a run; after each such end, the text that was written; the counts of
-- faults that rose; the rest of the input after a session from it; and that the shelf's texts are the same
pub record Served (asked : Option Command) (old new : World) (result : Status) : Type 0 where
  pub run : IsFree result → WithTexts asked old.texts (λ texts. HasRun asked texts old new result)
  pub shelf_fault : result ≡ status.ShelfFault → AtShelfFault asked old new
  pub read_fault : result ≡ status.ReadFault → AtReadFault asked old new
  pub write_fault : result ≡ status.WriteFault → AtWriteFault asked old new
  pub memory : result ≡ status.Memory → AtMemory asked old new
  pub shelf : ShelfCause old.shelf_faults new.shelf_faults result
  pub input : InputCause old.input_faults new.input_faults result
  pub out : SinkCause old.out_faults new.out_faults result
  pub ends : EndsInput asked old new result
  pub texts : new.texts ≡ old.texts

-- the effect of a call that leaves the input unchanged, for any input
pub record ServedBeside (asked : Option Command) (old new : Outputs) (result : Status) : Type 0 where
  pub served : (rest : Option (List ℕ)) (faults : ℕ) → Served asked (beside old rest faults) (beside new rest faults) result
