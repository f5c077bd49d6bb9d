-- The text of `advise`: the refusal of costs, and the advice by accepted costs.
use Rattle.std.specs.Prelude.{◌≡◌, ℕ, ◌≤◌, ◌*◌, false, List, Result, Ok, Err}
use Rattle.roman_io.specs.Shelf.{Texts}
use Rattle.roman_model.specs.Offers.{related_count}
use Rattle.roman_parts.specs.declared.error.PartError.{PartError}
use Rattle.roman_library.specs.Library.{PlainLibrary}
use Rattle.roman_library.specs.Refusals.{refusal_of}
use Rattle.roman_library.specs.declared.refusal.Part.TheVariants as part
use Rattle.roman_start.specs.Starts.{parts_of, start_pair_of}
use Rattle.roman_text.specs.Report.{line_text}
use Rattle.roman_text.specs.declared.report.ReportLine.TheVariants as line
use Rattle.roman_cost.specs.AdviceText.{Advising, Unrelated, TooMany, Told, advised_by}
use Rattle.roman_cost.specs.Costs.{costs_of}
use Rattle.roman_cost.specs.declared.costs.Listed.{Listed}
use Rattle.roman_cost.specs.declared.limits.TheConstants.{MAX_VALUES}
use Rattle.roman_opening.specs.Opening.{EndsSaying, library_system, limit_line}
use Rattle.roman_opening.specs.RefusalLine.{refusal_line}
use Rattle.roman_opening.specs.declared.status.Status.{Status}
use Rattle.roman_opening.specs.declared.status.Status.TheVariants as status

-- the text and status of `advise`: the pair isn't related, there are too many values, or the advice follows
abbrev pub SaysAdvice : Advising → List ℕ → Status → Type 0
SaysAdvice Unrelated out result = EndsSaying (line_text (line.Answer false)) status.No out result
SaysAdvice TooMany out result = EndsSaying (limit_line MAX_VALUES) status.Limit out result
SaysAdvice (Told text) out result = EndsSaying text status.Done out result

-- if the costs are refused, the text is their refusal line; if they are accepted, the given work is done
abbrev pub OnCosts : List ℕ → (List Listed → List ℕ → Status → Type 0) → Result (List Listed) PartError → List ℕ → Status → Type 0
OnCosts name Work (Err error) out result = EndsSaying (refusal_line (refusal_of name part.Costs error)) status.Refused out result
OnCosts name Work (Ok listed) out result = Work listed out result

-- advise: the advice for that many requests from the library's start pair, by the costs of that name
abbrev pub DoesAdvise : List ℕ → ℕ → Texts → PlainLibrary → List ℕ → Status → Type 0
DoesAdvise name requests texts library =
    OnCosts name (λ listed. SaysAdvice (advised_by (parts_of library) listed requests (start_pair_of library))) (costs_of texts name (parts_of library))

-- the costs of that name are accepted, and the number of values is within the limit
pub record Affords (name : List ℕ) (requests : ℕ) (texts : Texts) (library : PlainLibrary) : Type 0 where
  pub listed : List Listed
  pub read : costs_of texts name (parts_of library) ≡ Ok listed
  pub few : related_count (library_system library) * requests ≤ MAX_VALUES
