-- The text of `check` for a certificate: `greatest` only if it validly lists all pairs that aren't related, and no others.
use Rattle.std.specs.Prelude.{◌≡◌, ◌⊎◌, ◌↔◌, ℕ, Bool, List, [], map, length, IsTrue}
use Rattle.std.specs.List.{filter_map}
use Rattle.roman_model.specs.Lines.{lines}
use Rattle.roman_model.specs.System.{Sys, Pair}
use Rattle.roman_model.specs.SystemArena.{pairs}
use Rattle.roman_model.specs.Arena.{Entry}
use Rattle.roman_model.specs.Composition.{Great}
use Rattle.roman_model.specs.Counting.{Counts}
use Rattle.roman_model.specs.Certificate.{Why, entry_of}
use Rattle.roman_model.specs.Numbers.{entry_at}
use Rattle.roman_library.specs.Library.{PlainLibrary}
use Rattle.roman_start.specs.Starts.{start_pair_of}
use Rattle.roman_opening.specs.Opening.{library_system}
use Rattle.roman_opening.specs.declared.status.Status.TheVariants as status
use Rattle.roman_opening.specs.declared.status.Status.{Status}
use Rattle.roman_top.specs.HeadlineCertify.{ListsUnrelated, CertifiesUnrelated}
use Rattle.roman_top.specs.CheckText.{greatest_text, rejected_text}

-- the text states how many pairs are related, and whether the given pair is
pub record TellsGreatest (s : Sys) (p : Pair) (text : List ℕ) : Type 0 where
  pub related : ℕ
  pub great : Counts s (Great s) related
  pub starts : Bool
  pub start : IsTrue starts ↔ Great s p
  pub says : text ≡ greatest_text related starts

-- the entries of the lines of a certificate; lines that aren't the text of an entry have none
abbrev pub certified_entries : Sys → List ℕ → List (Entry Pair)
certified_entries s certificate = map (entry_at s) (filter_map (entry_of (length (pairs s)) s.env.actions) (lines certificate))

-- the verdict on a certificate: if it is accepted, its entries list exactly the pairs that aren't related, and the text counts the
-- related ones; the certificate of each such list is accepted; a certificate that isn't accepted is rejected at a line, or too long
pub record JudgesCertificate (s : Sys) (p : Pair) (certificate text : List ℕ) (result : Status) : Type 0 where
  pub accepted : result ≡ status.Done → ListsUnrelated s (certified_entries s certificate) × TellsGreatest s p text
  pub accepts : CertifiesUnrelated s certificate → result ≡ status.Done
  pub others : (result ≡ status.Done → ⊥) → ((line : ℕ) × (why : Why) × (text ≡ rejected_text line why) × (result ≡ status.No)) ⊎ ((text ≡ []) × (result ≡ status.TooLong))

-- check: the verdict on the certificate for the library's system
abbrev pub FulfilsCheck : List ℕ → PlainLibrary → List ℕ → Status → Type 0
FulfilsCheck certificate library text result = JudgesCertificate (library_system library) (start_pair_of library) certificate text result
