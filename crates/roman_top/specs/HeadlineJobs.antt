-- The promise of each command but `synth` and `run` for its text and its status.
use Rattle.std.specs.Prelude.{◌≡◌, ℕ, List, Option, None, Some, IfSome}
use Rattle.roman_io.specs.Shelf.{Texts, shelf_text}
use Rattle.roman_library.specs.Library.{PlainLibrary}
use Rattle.roman_start.specs.Starts.{start_pair_of}
use Rattle.roman_rank.specs.DepthText.{TellsDepths}
use Rattle.roman_opening.specs.Endings.{WritesText}
use Rattle.roman_opening.specs.Opening.{Accepted, document_opening, library_system}
use Rattle.roman_opening.specs.declared.status.Status.TheVariants as status
use Rattle.roman_opening.specs.declared.status.Status.{Status}
use Rattle.roman_top.specs.Command.{Job, Certify, Check, Shortest, Advise, Resilience, Command, On, Make}
use Rattle.roman_top.specs.HeadlineAdvise.{FulfilsAdvise}
use Rattle.roman_top.specs.HeadlineCertify.{FulfilsCertify}
use Rattle.roman_top.specs.HeadlineCheck.{FulfilsCheck}
use Rattle.roman_top.specs.HeadlineMake.{FulfilsMake}
use Rattle.roman_top.specs.HeadlineResilience.{FulfilsResilience}
use Rattle.roman_top.specs.World.{World}

-- shortest: the text gives the depths of the library's pairs, and for its starting states the least number of requests within which
-- the opponent wins against every delegation
abbrev pub FulfilsShortest : PlainLibrary → List ℕ → Status → Type 0
FulfilsShortest library text result = TellsDepths (library_system library) (start_pair_of library) text × (result ≡ status.Done)

-- the promise of each other command is on the page with its name; that of `synth` and `run` is on the page `Headline`
abbrev pub FulfilsJob : Job → Texts → PlainLibrary → List ℕ → Status → Type 0
FulfilsJob Certify texts library text result = FulfilsCertify library text result
FulfilsJob (Check certificate) texts library text result = FulfilsCheck (shelf_text texts certificate) library text result
FulfilsJob Shortest texts library text result = FulfilsShortest library text result
FulfilsJob (Advise costs requests) texts library text result = FulfilsAdvise costs requests texts library text result
FulfilsJob Resilience texts library text result = FulfilsResilience library text result
FulfilsJob _ texts library text result = Unit {0}

-- the text that was written keeps its promise: that of a job, for an accepted document within its limit if the texts are known, or
-- that of `make`
abbrev pub FulfilsText : Option Command → World → World → Status → Type 0
FulfilsText (Some (On system job)) old new result =
    IfSome old.texts (λ texts. (library : PlainLibrary) → document_opening texts system ≡ Accepted library → WritesText (FulfilsJob job texts library) old.written new.written result)
FulfilsText (Some (Make n)) old new result = WritesText (FulfilsMake n) old.written new.written result
FulfilsText None old new result = Unit {0}
