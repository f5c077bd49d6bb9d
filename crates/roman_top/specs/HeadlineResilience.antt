-- The text of `resilience`, in terms of the greatest ND-simulations of the system and of the systems without one or two of its services.
use Rattle.std.specs.Prelude.{◌≡◌, ◌⊎◌, ◌↔◌, ℕ, List, ◌++◌, length, codes, IsTrue}
use Rattle.std.specs.List.{flat_map}
use Rattle.roman_model.specs.Lists.{IsIn, HasNoRepeats}
use Rattle.roman_model.specs.System.{Sys, Pair, IsPair, Allows}
use Rattle.roman_model.specs.Counting.{Counts}
use Rattle.roman_model.specs.Composition.{couple, Serves, GreatCouple, Great}
use Rattle.roman_model.specs.Without.{Outlook, system_without, pair_without}
use Rattle.roman_model.specs.declared.way.Way.{Way}
use Rattle.roman_model.specs.declared.way.Way.TheVariants.{Freeze, Die}
use Rattle.roman_joint.specs.NamedSys.{NamedSys}
use Rattle.roman_library.specs.Library.{PlainLibrary}
use Rattle.roman_start.specs.Starts.{parts_of, start_pair_of}
use Rattle.roman_opening.specs.Opening.{library_system}
use Rattle.roman_opening.specs.declared.status.Status.TheVariants as status
use Rattle.roman_opening.specs.declared.status.Status.{Status}
use Rattle.roman_top.specs.ResilienceText.{line_without, ones, twos, head_text}

-- a pair, an action that is requested there, and a seat
pub record Serving : Type 0 where
  pub pair : Pair
  pub action : ℕ
  pub seat : ℕ

-- at the pair, related or not, the target allows the action, and the seat serves it with the related pairs
pub record IsServing (s : Sys) (x : Serving) : Type 0 where
  pub pair : IsPair s x.pair
  pub allowed : Allows s x.pair.t x.pair.e x.action
  pub serves : Serves s (GreatCouple s) (couple x.pair) x.action x.seat

-- the list has all such servings, each once
pub record AreServings (s : Sys) (servings : List Serving) : Type 0 where
  pub once : HasNoRepeats servings
  pub each : (x : Serving) → IsIn x servings ↔ IsServing s x

-- an outlook is right: it states whether the pair is related, how many pairs are, and in how many cases a seat serves an action
pub record IsRightOutlook (s : Sys) (p : Pair) (told : Outlook) : Type 0 where
  pub composes : IsTrue told.composes ↔ Great s p
  pub related : Counts s (Great s) told.related
  pub servings : List Serving
  pub serve : AreServings s servings
  pub choices : told.choices ≡ length servings

-- K is the place of one of n services, or the places of two of them
abbrev pub AreFailing : ℕ → List ℕ → Type 0
AreFailing n K = IsIn K (ones n) ⊎ IsIn K (twos n)

-- the lines with the outlooks after the services at the places K freeze, and after they die
abbrev pub loss_lines : NamedSys → (Way → List ℕ → Outlook) → List ℕ → List ℕ
loss_lines parts left K = line_without parts K Freeze (left Freeze K) ++ line_without parts K Die (left Die K)

-- the text gives the outlook of a pair, and its outlook in the system without each one and each two of the services
pub record TellsLosses (parts : NamedSys) (s : Sys) (p : Pair) (text : List ℕ) : Type 0 where
  pub now : Outlook
  pub whole : IsRightOutlook s p now
  pub left : Way → List ℕ → Outlook
  pub reduced : (how : Way) (K : List ℕ) → AreFailing (length parts.seats) K → IsRightOutlook (system_without how K s) (pair_without how K p) (left how K)
  pub says : text
      ≡ head_text parts now
      ++ (flat_map (loss_lines parts left) (ones (length parts.seats)) ++ (flat_map (loss_lines parts left) (twos (length parts.seats)) ++ codes "end\n"))

-- resilience: the outlooks of the library's starting states
abbrev pub FulfilsResilience : PlainLibrary → List ℕ → Status → Type 0
FulfilsResilience library text result = TellsLosses (parts_of library) (library_system library) (start_pair_of library) text × (result ≡ status.Done)
