-- Words for contracts within this crate: the effects of sessions and calls, and the values and texts of parts of `check`, `advise` and `resilience`.
use Rattle.std.specs.Prelude.{◌≡◌, ℕ, ◌+◌, ◌⊎◌, List, [], ◌∷◌, map, length, drop, Option, Some, Result, Ok}
use Rattle.std.specs.List.{flat_map}
use Rattle.roman_io.specs.Shelf.{Texts, rest_from}
use Rattle.roman_io.specs.declared.shelf.Shelf.{Ghosts as ShelfView}
use Rattle.roman_io.specs.declared.sink.Sink.{Ghosts as SinkView}
use Rattle.roman_io.specs.declared.source.Source.{Ghosts as SourceView}
use Rattle.roman_model.specs.Lists.{below}
use Rattle.roman_model.specs.Numbers.{numbered}
use Rattle.roman_model.specs.Without.{outlook}
use Rattle.roman_parts.specs.declared.error.PartError.{PartError}
use Rattle.roman_joint.specs.NamedSys.{NamedSys, system_of}
use Rattle.roman_library.specs.Refusals.{refusal_of}
use Rattle.roman_library.specs.declared.refusal.Part.TheVariants as part
use Rattle.roman_session.specs.Situations.{Situation}
use Rattle.roman_hearing.specs.Hearing.{CausedBy, cursor, stream_state}
use Rattle.roman_hearing.specs.declared.hearing.HearError.{HearError}
use Rattle.roman_hearing.specs.declared.hearing.HearError.TheVariants.{ReadFault}
use Rattle.roman_check.specs.declared.verdict.Verdict.{Verdict}
use Rattle.roman_cost.specs.AdviceText.{advised_by}
use Rattle.roman_cost.specs.Costs.{costs_of}
use Rattle.roman_cost.specs.NamedWords.{numbered_pair}
use Rattle.roman_cost.specs.Tables.{CostTable}
use Rattle.roman_cost.specs.declared.costs.Listed.{Listed}
use Rattle.roman_opening.specs.Endings.{EndsEarly, Opens}
use Rattle.roman_opening.specs.Opening.{EndsSaying}
use Rattle.roman_opening.specs.Outputs.{Outputs, outputs}
use Rattle.roman_opening.specs.RefusalLine.{refusal_line}
use Rattle.roman_opening.specs.declared.status.Status.{Status}
use Rattle.roman_opening.specs.declared.status.Status.TheVariants as status
use Rattle.roman_top.specs.AdviseText.{OnCosts, SaysAdvice}
use Rattle.roman_top.specs.Command.{Command}
use Rattle.roman_top.specs.Endings.{FindsVerdict, IsTooLong, PrintsTo, RunsText}
use Rattle.roman_top.specs.Faults.{TakesInput}
use Rattle.roman_top.specs.Served.{Served}
use Rattle.roman_top.specs.World.{world_of}
use Rattle.roman_top.specs.ResilienceText.{head_text, lines_without, ones, twos, outlook_text}

-- ---- sessions

-- the session was read from the text of that name on the shelf
abbrev pub HearsText : {X Y : Type 0} → ShelfView X → SinkView Y → List ℕ → Situation → X → Y → Situation → Y → Result (Unit {0}) HearError → Type 0
HearsText F O name old shelf out new out_now result =
    RunsText (stream_state old (rest_from (F.texts shelf) name 0) (O.written out)) (cursor new (O.written out_now)) result

-- the shelf's count of faults rose if `ReadFault` is returned, and stayed the same otherwise
abbrev pub CausedByShelf : {X T : Type 0} → ShelfView X → X → X → Result T HearError → Type 0
CausedByShelf F old new result = CausedBy ReadFault (F.faults old) (F.faults new) result

-- ---- calls

-- the effect of a command, in words for contracts at bounds `F: Shelf`, `I: Source` and `O: Sink`
abbrev pub ServesCommand : {X Y Z : Type 0} → ShelfView X → SourceView Y → SinkView Z → Command → X → Y → Z → X → Y → Z → Status → Type 0
ServesCommand F I O command shelf input out shelf_now input_now out_now result =
    Served (Some command) (world_of F I O shelf input out) (world_of F I O shelf_now input_now out_now) result

-- the input is unchanged, or the command took bytes from it
abbrev pub LeavesOrTakesInput : {X Y Z : Type 0} → ShelfView X → SourceView Y → SinkView Z → Command → X → Y → Z → X → Y → Z → Status → Type 0
LeavesOrTakesInput F I O command shelf input out shelf_now input_now out_now result =
    (input_now ≡ input) ⊎ TakesInput (Some command) (world_of F I O shelf input out) (world_of F I O shelf_now input_now out_now) result

-- ---- check

-- the certificate of that name has a verdict for a joint and its start pair, or the run ended without one; any sink is unchanged
abbrev pub OpensVerdict : {X : Type 0} → ShelfView X → NamedSys → ℕ → List ℕ → X → X → Result Verdict Status → Type 0
OpensVerdict F n start name old new result =
    let A = numbered (system_of n) in
    (written : Option (List ℕ)) (faults : ℕ) → Opens (FindsVerdict A start name) (IsTooLong A start name)
    (outputs (F.texts old) (F.faults old) written faults) (outputs (F.texts new) (F.faults new) written faults) result

-- ---- advise

-- the advice by the costs was printed, for that many requests from the pair with the number
abbrev pub PrintsAdvice : {X : Type 0} → SinkView X → NamedSys → List Listed → ℕ → ℕ → X → X → Status → Type 0
PrintsAdvice O n listed requests start old new result = PrintsTo O (SaysAdvice (advised_by n listed requests (numbered_pair n start))) old new result

-- the costs of that name were read, or the run ended with the line that refuses them
abbrev pub OpensCosts : List ℕ → NamedSys → Outputs → Outputs → Result CostTable Status → Type 0
OpensCosts name n old new result =
    Opens (λ texts costs. costs_of texts name n ≡ Ok costs.listed) (λ texts. OnCosts name (λ listed out result. ⊥) (costs_of texts name n)) old new result

-- the run ended with the line that refuses the costs of that name, for any texts of the shelf
abbrev pub RefusesCosts : {X : Type 0} → SinkView X → List ℕ → PartError → X → X → Status → Type 0
RefusesCosts O name error old new result = (told : Option Texts) (shelf : ℕ) →
    EndsEarly (λ texts. EndsSaying (refusal_line (refusal_of name part.Costs error)) status.Refused)
    (outputs told shelf (O.written old) (O.faults old)) (outputs told shelf (O.written new) (O.faults new)) result

-- ---- resilience, from the pair with the number

-- the first lines, and the whole text
abbrev pub head_for : NamedSys → ℕ → List ℕ
head_for n p = head_text n (outlook (system_of n) (numbered_pair n p))

abbrev pub outlooks_for : NamedSys → ℕ → List ℕ
outlooks_for n p = outlook_text n (numbered_pair n p)

-- the lines for one or two services at the places K
abbrev pub lines_for : NamedSys → ℕ → List ℕ → List ℕ
lines_for n p K = lines_without n (numbered_pair n p) K

-- the lines for each service, for each two services, and for the one at place k with each later one
abbrev pub ones_for : NamedSys → ℕ → List ℕ
ones_for n p = flat_map (lines_without n (numbered_pair n p)) (ones (length n.seats))

abbrev pub twos_for : NamedSys → ℕ → List ℕ
twos_for n p = flat_map (lines_without n (numbered_pair n p)) (twos (length n.seats))

abbrev pub twos_with : NamedSys → ℕ → ℕ → List ℕ
twos_with n p k = flat_map (lines_without n (numbered_pair n p)) (map (λ j. k ∷ j ∷ []) (drop (k + 1) (below (length n.seats))))
