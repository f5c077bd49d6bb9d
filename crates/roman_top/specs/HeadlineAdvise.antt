-- The text of `advise`: the least worst costs of plans in which each action goes to a service that serves it.
use Rattle.std.specs.Prelude.{◌≡◌, ℕ, ◌<◌, ◌≤◌, ◌*◌, false, List, Ok, Err}
use Rattle.roman_io.specs.Shelf.{Texts}
use Rattle.roman_model.specs.System.{Pair}
use Rattle.roman_model.specs.Composition.{Great}
use Rattle.roman_model.specs.Counting.{Counts}
use Rattle.roman_parts.specs.declared.error.PartError.{PartError}
use Rattle.roman_joint.specs.NamedSys.{NamedSys, system_of}
use Rattle.roman_library.specs.Library.{PlainLibrary}
use Rattle.roman_library.specs.Refusals.{refusal_of}
use Rattle.roman_library.specs.declared.refusal.Part.TheVariants as part
use Rattle.roman_start.specs.Starts.{parts_of, start_pair_of}
use Rattle.roman_text.specs.Report.{line_text}
use Rattle.roman_text.specs.declared.report.ReportLine.TheVariants as line
use Rattle.roman_cost.specs.Costs.{costs_of}
use Rattle.roman_cost.specs.Laws.{TellsLeast}
use Rattle.roman_cost.specs.Tables.{seat_costs}
use Rattle.roman_cost.specs.declared.costs.Listed.{Listed}
use Rattle.roman_cost.specs.declared.limits.TheConstants.{MAX_VALUES}
use Rattle.roman_opening.specs.Opening.{EndsSaying, limit_line}
use Rattle.roman_opening.specs.RefusalLine.{refusal_line}
use Rattle.roman_opening.specs.declared.status.Status.{Status}
use Rattle.roman_opening.specs.declared.status.Status.TheVariants as status

-- the text by accepted costs: `answer none` if the pair isn't related; the line of the limit if the related pairs times the
-- requests are too many; and otherwise the least worst cost of the requests
pub record AdvisesBy (n : NamedSys) (listed : List Listed) (requests : ℕ) (p : Pair) (text : List ℕ) (result : Status) : Type 0 where
  pub related : ℕ
  pub great : Counts (system_of n) (Great (system_of n)) related
  pub unrelated : (Great (system_of n) p → ⊥) → EndsSaying (line_text (line.Answer false)) status.No text result
  pub many : Great (system_of n) p → MAX_VALUES < related * requests → EndsSaying (limit_line MAX_VALUES) status.Limit text result
  pub told : Great (system_of n) p → related * requests ≤ MAX_VALUES → TellsLeast n (seat_costs n listed) requests p text × (result ≡ status.Done)

-- advise: the refusal line of the costs if they are refused; otherwise the advice for the starting states
pub record FulfilsAdvise (costs : List ℕ) (requests : ℕ) (texts : Texts) (library : PlainLibrary) (text : List ℕ) (result : Status) : Type 0 where
  pub refused : (error : PartError) → costs_of texts costs (parts_of library) ≡ Err error → EndsSaying (refusal_line (refusal_of costs part.Costs error)) status.Refused text result
  pub advised : (listed : List Listed) → costs_of texts costs (parts_of library) ≡ Ok listed → AdvisesBy (parts_of library) listed requests (start_pair_of library) text result
