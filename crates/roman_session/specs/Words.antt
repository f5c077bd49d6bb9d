-- The meaning of a session's answers, in terms of the greatest ND-simulation, steps and names.
use Rattle.std.specs.Prelude.{◌≡◌, ℕ, ◌+◌, ◌<◌, Bool, List, [], ◌∷◌, ◌++◌, map, length, codes, Option, Some, IsTrue, IsFalse, ◌↔◌, slice_get}
use Rattle.std.specs.List.{flat_map}
use Rattle.roman_model.specs.Lists.{IsIn, IsSublist, below}
use Rattle.roman_model.specs.Lines.{text_of_lines}
use Rattle.roman_model.specs.System.{Seat, Pair, is_final}
use Rattle.roman_model.specs.Arena.{Entry}
use Rattle.roman_model.specs.Composition.{Great}
use Rattle.roman_model.specs.Counting.{Counts}
use Rattle.roman_model.specs.Explanation.{Names, name_at, lost_line, answer_line}
use Rattle.roman_model.specs.Numbers.{sizes_of, count}
use Rattle.roman_model.specs.declared.reason.Reason.{Reason}
use Rattle.roman_model.specs.declared.reason.Reason.TheVariants.{Final, Act}
use Rattle.roman_text.specs.Replies.{reply_text}
use Rattle.roman_text.specs.declared.replies.Reply.{Reply}
use Rattle.roman_text.specs.declared.replies.Reply.TheVariants as reply
use Rattle.roman_text.specs.declared.report.ReportLine.TheVariants as line
use Rattle.roman_joint.specs.NamedSys.{system_of}
use Rattle.roman_joint.specs.Names.{seat_name, names_in}
use Rattle.roman_session.specs.Reports.{lines_text, service_lines}
use Rattle.roman_session.specs.States.{State, IsGreat, MayRequest, ServesHere}
use Rattle.roman_session.specs.Refutations.{AreLost, WinsBy}

-- the text is that reply
abbrev pub Replies : Reply → List ℕ → Type 0
Replies said text = text ≡ reply_text said

-- ---- offers

-- exactly the services that serve the action, in the order of their places
pub record AreServing (s : State) (a : ℕ) (ks : List ℕ) : Type 0 where
  pub order : IsSublist ks (below (length (system_of s.parts).seats))
  pub exact : (k : ℕ) → IsIn k ks ↔ ((k < length (system_of s.parts).seats) × ServesHere s a k)

-- the text offers exactly these services
pub record OffersServing (s : State) (a : ℕ) (text : List ℕ) : Type 0 where
  pub services : List ℕ
  pub serving : AreServing s a services
  pub says : text ≡ codes "offer" ++ flat_map (λ k. codes " " ++ name_at (map seat_name s.parts.seats) k) services ++ codes "\n"

-- ---- changes

-- the numbers of kept and of added entries add up to the number of pairs that aren't related
pub record CountsLost (s : State) (text : List ℕ) : Type 0 where
  pub kept : ℕ
  pub added : ℕ
  pub lost : Counts (system_of s.parts) (λ p. Great (system_of s.parts) p → ⊥) (kept + added)
  pub says : Replies (reply.Kept kept added) text

-- ---- reports

-- the report states how many pairs are related and whether the current one is; if it is, also the services that serve each
-- action that the target allows
pub record ReportsGreat (s : State) (text : List ℕ) : Type 0 where
  pub related : ℕ
  pub counted : Counts (system_of s.parts) (Great (system_of s.parts)) related
  pub composes : Bool
  pub great : IsTrue composes ↔ IsGreat s
  pub actions : List ℕ
  pub order : IsSublist actions (below s.parts.environment.env.actions)
  pub allowed : (a : ℕ) → IsIn a actions ↔ (IsGreat s × MayRequest s a)
  pub services : ℕ → List ℕ
  pub serving : (a : ℕ) → IsIn a actions → AreServing s a (services a)
  pub says : text ≡ lines_text (
      line.Pairs (count (sizes_of (system_of s.parts)))
      ∷ line.Related related
      ∷ line.Environment (name_at s.parts.environment.states s.here.e)
      ∷ line.Target (name_at s.parts.target.states s.here.t) (is_final s.parts.target.beh s.here.t)
      ∷ (service_lines s.parts.catalogue s.parts.seats s.here.bs
      ++ line.Answer composes
      ∷ (flat_map (λ a.
      line.Offer (name_at s.parts.environment.actions a)
      ∷ (map (λ k. line.Serves (name_at (map seat_name s.parts.seats) k)) (services a) ++ line.Stop ∷ [])) actions
      ++ line.End ∷ [])))

-- ---- explanations

-- the service at place k isn't frozen
abbrev pub IsReady : State → ℕ → Type 0
IsReady s k = (seat : Seat) × (slice_get (system_of s.parts).seats k ≡ Some seat) × IsFalse seat.frozen

-- if the reason is a request, a line for the answer of each of these services; no lines if it is `final`
abbrev pub lines_of_answers : Names → (ℕ → Option Pair) → List ℕ → Reason → List (List ℕ)
lines_of_answers names answers ks Final = []
lines_of_answers names answers ks (Act a) = map (λ k. answer_line names k (answers k)) ks

-- the text gives a removal list that ends with the current pair, with the answers of the services that are ready; the opponent who
-- plays by it wins
pub record Refutes (s : State) (text : List ℕ) : Type 0 where
  pub entries : List (Entry Pair)
  pub answers : Entry Pair → ℕ → Option Pair
  pub lost : AreLost (system_of s.parts) answers [] entries
  pub last : (front : List (Entry Pair)) × (x : Entry Pair) × (entries ≡ front ++ x ∷ []) × (x.node ≡ s.here)
  pub wins : WinsBy (system_of s.parts) answers entries (length entries) s.here
  pub ready : List ℕ
  pub order : IsSublist ready (below (length (system_of s.parts).seats))
  pub exact : (k : ℕ) → IsIn k ready ↔ IsReady s k
  pub says : text ≡ text_of_lines (
      flat_map (λ x. lost_line (names_in s.parts) x ∷ lines_of_answers (names_in s.parts) (answers x) ready x.reason) entries
      ++ codes "end" ∷ [])
