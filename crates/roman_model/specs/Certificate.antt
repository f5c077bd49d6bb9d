-- Certificates: the text of a removal list, and the verdict on a text.
use Rattle.std.specs.Prelude.{◌≡◌, ℕ, ◌+◌, ◌*◌, ◌<◌, ◌≤◌, Bool, not, ◌&&◌, List, [], ◌∷◌, ◌++◌, map, length, take, Option, None, Some, if◌then◌else◌, nat_le, slice_get, slice_index_or, codes, decimal}
use Rattle.std.specs.List.{list_any, filter, flat_map, filter_map, find}
use Rattle.std.specs.Option.{option_map}
use Rattle.roman_model.specs.Lists.{IsIn, below}
use Rattle.roman_model.specs.Lines.{lines, ended_lines, text_of_lines}
use Rattle.roman_model.specs.System.{Sys, IsSys}
use Rattle.roman_model.specs.SystemArena.{same_numbers}
use Rattle.roman_model.specs.Arena.{Arena, Entry, is_listed, is_justified}
use Rattle.roman_model.specs.Numbers.{sizes_of, count, pair_at, numbered, IsCompleteList}
use Rattle.roman_model.specs.Offers.{is_related, related_count}
use Rattle.roman_model.specs.declared.limits.TheConstants.{MAX_CELLS, MAX_CERTIFICATE_BYTES}
use Rattle.roman_model.specs.declared.reason.Reason.{Reason}
use Rattle.roman_model.specs.declared.reason.Reason.TheVariants.{Final, Act}

-- The text

-- the first line
abbrev pub head_line : List ℕ
head_line = codes "roman-order 1"

-- the second line: the number of pairs
abbrev pub count_line : ℕ → List ℕ
count_line pairs = codes "pairs " ++ decimal pairs

-- `f` for clause 2, or the number of the action
abbrev pub reason_text : Reason → List ℕ
reason_text Final = codes "f"
reason_text (Act a) = decimal a

-- the line of an entry: the number of the pair, one space, and the reason
abbrev pub entry_line : Entry ℕ → List ℕ
entry_line x = decimal x.node ++ 32 ∷ reason_text x.reason

-- the last line
abbrev pub end_line : List ℕ
end_line = codes "end"

-- the lines: the first two, a line for each entry, and the last one
abbrev pub cert_lines : ℕ → List (Entry ℕ) → List (List ℕ)
cert_lines pairs L = head_line ∷ count_line pairs ∷ (map entry_line L ++ end_line ∷ [])

-- the certificate of a removal list over `pairs` pairs
abbrev pub cert_text : ℕ → List (Entry ℕ) → List ℕ
cert_text pairs L = text_of_lines (cert_lines pairs L)

-- The verdict

-- the fault of a line
pub data Why : Type 0 where
  Form : Why
  Repeated : Why
  Unjustified : Why
  Unlisted : (pair : ℕ) → Why

-- the number of related pairs, and whether the start pair is related; or the first faulty line, counted from 1; or a text that is too long
pub data Verdict : Type 0 where
  Greatest : (related : ℕ) → (start : Bool) → Verdict
  Rejected : (line : ℕ) → (why : Why) → Verdict
  TooLong : Verdict

-- all reasons for this number of actions
abbrev pub reasons : ℕ → List Reason
reasons actions = Final ∷ map Act (below actions)

-- all entries that can occur in a certificate, for these numbers of pairs and actions
abbrev pub possible_entries : ℕ → ℕ → List (Entry ℕ)
possible_entries pairs actions = flat_map (λ p. map (λ r. record { node = p; reason = r }) (reasons actions)) (below pairs)

-- the entry that the line states, if any
abbrev pub entry_of : ℕ → ℕ → List ℕ → Option (Entry ℕ)
entry_of pairs actions line = find (λ x. same_numbers (entry_line x) line) (possible_entries pairs actions)

-- the entries on the lines
abbrev pub entries_on : Arena ℕ → List (List ℕ) → List (Entry ℕ)
entries_on A lines = filter_map (entry_of (length A.nodes) A.actions) lines

-- no fault if the line is the expected one, and `Form` otherwise
abbrev pub unless_is : List ℕ → Option (List ℕ) → Option Why
unless_is due None = Some Form
unless_is due (Some line) = if same_numbers due line then None else Some Form

-- no fault if no line follows, and `Form` otherwise
abbrev pub unless_over : Option (List ℕ) → Option Why
unless_over None = None
unless_over (Some line) = Some Form

-- no fault if the entry's pair isn't listed yet and its reason holds with the listed pairs removed
abbrev pub entry_fault : Arena ℕ → List (Entry ℕ) → Option (Entry ℕ) → Option Why
entry_fault A L None = Some Form
entry_fault A L (Some x) =
    if is_listed A L x.node then Some Repeated
    else (if is_justified A (is_listed A L) x.node x.reason then None else Some Unjustified)

-- the pair isn't listed, and some reason holds there
abbrev pub could_be_listed : Arena ℕ → List (Entry ℕ) → ℕ → Bool
could_be_listed A L p = not (is_listed A L p) && list_any (is_justified A (is_listed A L) p) (reasons A.actions)

-- the fault at the end of the list: the least pair that could still be listed
abbrev pub end_fault : Arena ℕ → List (Entry ℕ) → Option Why
end_fault A L = option_map Unlisted (find (could_be_listed A L) A.nodes)

-- the fault of a line after the first two: an entry or the line `end` is expected
abbrev pub body_fault : Arena ℕ → List (Entry ℕ) → Option (List ℕ) → Option Why
body_fault A L None = Some Form
body_fault A L (Some line) = if same_numbers end_line line then end_fault A L else entry_fault A L (entry_of (length A.nodes) A.actions line)

-- the fault of the line that follows the given lines, or the fault that no line follows
abbrev pub line_fault : Arena ℕ → List (List ℕ) → Option (List ℕ) → Option Why
line_fault A [] line = unless_is head_line line
line_fault A (head ∷ []) line = unless_is (count_line (length A.nodes)) line
line_fault A (head ∷ size ∷ body) line =
    if list_any (same_numbers end_line) body then unless_over line else body_fault A (entries_on A body) line

-- none of the first n lines has a fault
abbrev pub IsClean : Arena ℕ → List (List ℕ) → ℕ → Type 0
IsClean A text n = (i : ℕ) → i < n → line_fault A (take i text) (slice_get text i) ≡ None

-- the faults of the lines at the places below n, in order
abbrev pub faults : Arena ℕ → List (List ℕ) → ℕ → List Verdict
faults A text n = filter_map (λ i. option_map (Rejected (i + 1)) (line_fault A (take i text) (slice_get text i))) (below n)

-- the number of pairs that aren't listed, and whether the start pair is one of them
abbrev pub unlisted : Arena ℕ → ℕ → List (Entry ℕ) → Verdict
unlisted A start L =
    Greatest (length (filter (λ p. not (is_listed A L p)) A.nodes)) (not (is_listed A L start))

-- the verdict on a text; `start` is the number of the start pair
abbrev pub cert_verdict : Arena ℕ → ℕ → List ℕ → Verdict
cert_verdict A start bytes =
    if nat_le (length bytes) MAX_CERTIFICATE_BYTES
    then slice_index_or (faults A (lines bytes) (length (lines bytes) + 1)) 0 (unlisted A start (entries_on A (lines bytes)))
    else slice_index_or (faults A (ended_lines (take MAX_CERTIFICATE_BYTES bytes)) (length (ended_lines (take MAX_CERTIFICATE_BYTES bytes)))) 0 TooLong

-- The laws

-- the number of related pairs of the system, and whether the pair with the number `start` is related
abbrev pub greatest : Sys → ℕ → Verdict
greatest s start = Greatest (related_count s) (is_related s (pair_at (sizes_of s) start))

-- the system has no more cells than the greatest limit of a document
abbrev pub IsWithinCells : Sys → Type 0
IsWithinCells s = count (sizes_of s) * s.env.actions ≤ MAX_CELLS

-- the certificate of a complete removal list is accepted if the system is within the limit on cells
abbrev pub WrittenIsGreatest : Type 0
WrittenIsGreatest = (s : Sys) (start : ℕ) (L : List (Entry ℕ)) → IsSys s → IsWithinCells s → start < count (sizes_of s) →
    ((x : Entry ℕ) → IsIn x L → x.node < count (sizes_of s)) → IsCompleteList s L →
    cert_verdict (numbered s) start (cert_text (count (sizes_of s)) L) ≡ greatest s start

-- the entries of an accepted text are a complete removal list, and its verdict states the related pairs
pub record AcceptedIsComplete (s : Sys) (start : ℕ) (bytes : List ℕ) (related : ℕ) (starts : Bool) : Type 0 where
  pub numbers : (x : Entry ℕ) → IsIn x (entries_on (numbered s) (lines bytes)) → x.node < count (sizes_of s)
  pub complete : IsCompleteList s (entries_on (numbered s) (lines bytes))
  pub said : Greatest related starts ≡ greatest s start

-- an accepted text holds a complete removal list if the system is within the limit on cells
abbrev pub GreatestIsComplete : Type 0
GreatestIsComplete = (s : Sys) (start : ℕ) (bytes : List ℕ) (related : ℕ) (starts : Bool) → IsSys s → IsWithinCells s → start < count (sizes_of s) →
    cert_verdict (numbered s) start bytes ≡ Greatest related starts → AcceptedIsComplete s start bytes related starts
