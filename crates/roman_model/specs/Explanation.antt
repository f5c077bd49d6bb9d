-- Explanations: the part of a removal list on which one of its entries depends.
use Rattle.std.specs.Prelude.{◌≡◌, ℕ, zero, suc, Bool, ◌&&◌, ◌||◌, List, [], ◌∷◌, ◌++◌, map, length, Option, None, Some, IsTrue, if◌then◌else◌, slice_index, slice_index_or, codes}
use Rattle.std.specs.List.{list_any, filter, flat_map, find, join_with_byte}
use Rattle.std.specs.Option.{option_to_list}
use Rattle.roman_model.specs.Lists.{IsIn, below}
use Rattle.roman_model.specs.Lines.{text_of_lines}
use Rattle.roman_model.specs.System.{Sys, Pair, IsSys}
use Rattle.roman_model.specs.Arena.{Arena, Entry, is_among, is_listed, IsOrder}
use Rattle.roman_model.specs.SystemArena.{arena}
use Rattle.roman_model.specs.declared.reason.Reason.{Reason}
use Rattle.roman_model.specs.declared.reason.Reason.TheVariants.{Final, Act}

-- The entries

-- the entries before the entry of p
abbrev pub entries_before : {N : Type 0} → Arena N → List (Entry N) → N → List (Entry N)
entries_before A [] p = []
entries_before A (x ∷ L) p = if A.same p x.node then [] else x ∷ entries_before A L p

-- the defeating answer of seat k: its first outcome that is listed before p
abbrev pub answer : {N : Type 0} → Arena N → List (Entry N) → N → ℕ → ℕ → Option N
answer A L p a k = find (is_listed A (entries_before A L p)) (A.outcomes p a k)

-- the seats that aren't frozen
abbrev pub ready_seats : {N : Type 0} → Arena N → List ℕ
ready_seats A = filter A.ready (below A.seats)

-- the defeating answers of an entry: one for each ready seat that has an outcome
abbrev pub answers : {N : Type 0} → Arena N → List (Entry N) → N → Reason → List N
answers A L p Final = []
answers A L p (Act a) = flat_map (λ k. option_to_list (answer A L p a k)) (ready_seats A)

-- the entry of p depends on the entry of q, by at most n steps from an entry to one of its defeating answers
abbrev pub rests_on : {N : Type 0} → Arena N → List (Entry N) → ℕ → N → N → Bool
rests_on A L zero p q = A.same q p
rests_on A L (suc n) p q = rests_on A L n p q || list_any (λ x. rests_on A L n p x.node && is_among A (answers A L x.node x.reason) q) L

-- the entries on which p's entry depends, with its own, in the order of the list
abbrev pub explanation : {N : Type 0} → Arena N → List (Entry N) → N → List (Entry N)
explanation A L p = filter (λ x. rests_on A L (length L) p x.node) L

-- the set holds p, and with each entry's node the nodes of its defeating answers
pub record IsClosed {N : Type 0} (A : Arena N) (L : List (Entry N)) (p : N) (holds : N → Bool) : Type 0 where
  pub first : IsTrue (holds p)
  pub answered : (x : Entry N) → IsIn x L → IsTrue (holds x.node) → (q : N) → IsIn q (answers A L x.node x.reason) → IsTrue (holds q)

-- the explanation is closed, and is part of each closed set
pub record IsLeastClosed {N : Type 0} (A : Arena N) (L : List (Entry N)) (p : N) : Type 0 where
  pub closed : IsClosed A L p (is_listed A (explanation A L p))
  pub least : (holds : N → Bool) → IsClosed A L p holds → (x : Entry N) → IsIn x (explanation A L p) → IsTrue (holds x.node)

-- the explanation of a listed pair is the least set that holds its entry and, with each entry, its defeating answers
abbrev pub ExplanationIsLeast : Type 0
ExplanationIsLeast = (s : Sys) (L : List (Entry Pair)) (p : Pair) → IsTrue (is_listed (arena s) L p) → IsLeastClosed (arena s) L p

-- the explanation is a removal list by itself, and p's entry is its last
pub record ExplainedOrder (s : Sys) (L : List (Entry Pair)) (p : Pair) : Type 0 where
  pub order : IsOrder (arena s) (explanation (arena s) L p)
  pub last : (front : List (Entry Pair)) × (x : Entry Pair) × (explanation (arena s) L p ≡ front ++ x ∷ []) × (x.node ≡ p)

-- an explanation is a removal list by itself
abbrev pub ExplanationIsOrder : Type 0
ExplanationIsOrder = (s : Sys) (L : List (Entry Pair)) (p : Pair) → IsSys s → IsOrder (arena s) L → IsTrue (is_listed (arena s) L p) → ExplainedOrder s L p

-- The text

-- the names of a service and of its behaviour's states
pub record SeatNames : Type 0 where
  pub service : List ℕ
  pub states : List (List ℕ)

-- the names of the target's states, of the environment's states, of the actions, and of each seat
pub record Names : Type 0 where
  pub target : List (List ℕ)
  pub env : List (List ℕ)
  pub actions : List (List ℕ)
  pub seats : List SeatNames

-- the name with number i
abbrev pub name_at : List (List ℕ) → ℕ → List ℕ
name_at names i = slice_index_or names i []

-- the names of seat k
abbrev pub seat_names : Names → ℕ → SeatNames
seat_names names k = slice_index_or names.seats k (record { service = []; states = [] })

-- the names of the seats' states
abbrev pub state_names : List SeatNames → List ℕ → List (List ℕ)
state_names [] bs = []
state_names (seat ∷ seats) [] = []
state_names (seat ∷ seats) (b ∷ bs) = name_at seat.states b ∷ state_names seats bs

-- the names of the target's state, the environment's state and the seats' states, with one space between them
abbrev pub pair_text : Names → Pair → List ℕ
pair_text names p = join_with_byte 32 (name_at names.target p.t ∷ name_at names.env p.e ∷ state_names names.seats p.bs)

-- `final`, or the name of the action
abbrev pub reason_name : Names → Reason → List ℕ
reason_name names Final = codes "final"
reason_name names (Act a) = name_at names.actions a

-- the line of an entry: the pair, and why it is lost
abbrev pub lost_line : Names → Entry Pair → List ℕ
lost_line names x = codes "lost " ++ pair_text names x.node ++ codes ": " ++ reason_name names x.reason

-- the line of seat k: it states that the seat cannot answer, or the states to which it may lead
abbrev pub answer_line : Names → ℕ → Option Pair → List ℕ
answer_line names k None = codes "  " ++ (seat_names names k).service ++ codes " cannot"
answer_line names k (Some q) =
    codes "  " ++ (seat_names names k).service ++ codes " may answer " ++ name_at (seat_names names k).states (slice_index q.bs k) ++ codes " " ++ name_at names.env q.e

-- a line for each ready seat
abbrev pub answer_lines : Sys → Names → List (Entry Pair) → Pair → Reason → List (List ℕ)
answer_lines s names L p Final = []
answer_lines s names L p (Act a) = map (λ k. answer_line names k (answer (arena s) L p a k)) (ready_seats (arena s))

-- all lines of an entry
abbrev pub entry_lines : Sys → Names → List (Entry Pair) → Entry Pair → List (List ℕ)
entry_lines s names L x = lost_line names x ∷ answer_lines s names L x.node x.reason

-- the text of the explanation of p
abbrev pub explain_text : Sys → Names → List (Entry Pair) → Pair → List ℕ
explain_text s names L p = text_of_lines (flat_map (entry_lines s names L) (explanation (arena s) L p) ++ codes "end" ∷ [])
