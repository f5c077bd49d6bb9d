-- The text of `certify`: exactly the pairs that aren't related, each with a reason that holds by the pairs before it.
use Rattle.std.specs.Prelude.{◌≡◌, ◌⊎◌, ◌↔◌, ℕ, ◌<◌, List, [], ◌∷◌, map, length, IsTrue}
use Rattle.roman_model.specs.Lists.{IsIn}
use Rattle.roman_model.specs.System.{Sys, Pair, IsPair, Allows, is_final, all_final}
use Rattle.roman_model.specs.SystemArena.{pairs}
use Rattle.roman_model.specs.Arena.{Entry}
use Rattle.roman_model.specs.Composition.{Great}
use Rattle.roman_model.specs.Certificate.{cert_text}
use Rattle.roman_model.specs.Numbers.{sizes_of, number}
use Rattle.roman_model.specs.declared.reason.Reason.{Reason}
use Rattle.roman_model.specs.declared.reason.Reason.TheVariants.{Final, Act}
use Rattle.roman_library.specs.Library.{PlainLibrary}
use Rattle.roman_model.specs.Outcomes.{LeadsTo}
use Rattle.roman_opening.specs.Opening.{library_system}
use Rattle.roman_opening.specs.declared.status.Status.{Status}
use Rattle.roman_opening.specs.declared.status.Status.TheVariants as status

-- the reason holds at the pair: the target is final and the system isn't; or the target allows the action, and each seat has no outcome
-- on it or one that is gone
abbrev pub HoldsReason : Sys → (Pair → Type 0) → Pair → Reason → Type 0
HoldsReason s Gone p Final = IsTrue (is_final s.target p.t) × (IsTrue (all_final s.seats p.bs) → ⊥)
HoldsReason s Gone p (Act a) =
    Allows s p.t p.e a × ((k : ℕ) → k < length s.seats → ((q : Pair) → LeadsTo s p a k q → ⊥) ⊎ ((q : Pair) × LeadsTo s p a k q × Gone q))

-- no pair repeats, and each reason holds when the pairs before its own are gone
abbrev pub AreValid : Sys → List Pair → List (Entry Pair) → Type 0
AreValid s before [] = Unit {0}
AreValid s before (x ∷ entries) = (IsIn x.node before → ⊥) × HoldsReason s (λ q. IsIn q before) x.node x.reason × AreValid s (x.node ∷ before) entries

-- the entries list exactly the pairs that aren't related, and they are valid in their order
pub record ListsUnrelated (s : Sys) (entries : List (Entry Pair)) : Type 0 where
  pub valid : AreValid s [] entries
  pub exact : (p : Pair) → IsIn p (map (λ x. x.node) entries) ↔ (IsPair s p × (Great s p → ⊥))

-- an entry with the number of its pair in place of the pair
abbrev pub numbered_entry : Sys → Entry Pair → Entry ℕ
numbered_entry s x = record { node = number (sizes_of s) x.node; reason = x.reason }

-- the text is the certificate of such a list
pub record CertifiesUnrelated (s : Sys) (text : List ℕ) : Type 0 where
  pub entries : List (Entry Pair)
  pub lists : ListsUnrelated s entries
  pub says : text ≡ cert_text (length (pairs s)) (map (numbered_entry s) entries)

-- certify: the text is a certificate of the library's system
abbrev pub FulfilsCertify : PlainLibrary → List ℕ → Status → Type 0
FulfilsCertify library text result = CertifiesUnrelated (library_system library) text × (result ≡ status.Done)
