-- A run of a job on an accepted document keeps its promise.
use Rattle.roman_top.proofs.Common.{◌≡◌, ℕ, ◌≤◌, List, [], Option, None, Some, sym, subst, arith, Texts, shelf_text, IsSys, IsPair, IsWithinCells, GreatestIsComplete, cells, library_of, PlainLibrary, libraries_known, parts_of, start_pair_of, start_pair, LinesAreRead, Job, Synth, Run, Certify, Check, Shortest, Advise, Resilience, Command, On, Make, IsFree, TellsLosses, Accepted, document_opening, library_system, JobDoes, HasRun, Served, World, Status, WritesText, MAX_CELLS, FulfilsJob, FulfilsText, IfSome_then, work_of, accepted_is}
use Rattle.roman_top.proofs.AdvisedLemmas.{fulfils_advice}
use Rattle.roman_top.proofs.CertifiedLemmas.{certifies_unrelated}
use Rattle.roman_top.proofs.CheckedLemmas.{judges_certificate}
use Rattle.roman_top.proofs.ResilienceLemmas.{tells_losses}
use Rattle.roman_top.proofs.MadeLemmas.{fulfils_made}
use Rattle.roman_top.proofs.StartsKnown.{library_parts}

-- the library's system is well formed and has few enough cells, and its starting states are one of its pairs
record Begins (library : PlainLibrary) : Type 0 where
  system : IsSys (library_system library)
  cells : IsWithinCells (library_system library)
  pair : IsPair (library_system library) (start_pair_of library)

library_begins : (texts : Texts) (system : List ℕ) (library : PlainLibrary) → document_opening texts system ≡ Accepted library → Begins library
library_begins texts system library accepted =
    let is = accepted_is (library_of texts system) library accepted in
    let known = libraries_known texts system library is.means in
    let parts = library_parts library known.known is.within in
    let fits : cells (library_system library) ≤ library.limit = parts.fits in
    let most : library.limit ≤ MAX_CELLS = parts.limit.1 in
    record { system = parts.system; cells = omega arith; pair = start_pair library known.known }

job_fulfilled : GreatestIsComplete → (job : Job) (texts : Texts) (session : List ℕ) (library : PlainLibrary) (text : List ℕ) (result : Status) → Begins library → JobDoes job texts session library text result → FulfilsJob job texts library text result
job_fulfilled law Synth texts session library text result begins does = tt
job_fulfilled law (Run name) texts session library text result begins does = tt
job_fulfilled law Certify texts session library text result begins does = (certifies_unrelated (library_system library) does.list text begins.system does.complete does.says.0, does.says.1)
job_fulfilled law (Check certificate) texts session library text result begins does =
    judges_certificate law (library_system library) (start_pair_of library) (shelf_text texts certificate) text result begins.system begins.cells begins.pair does
job_fulfilled law Shortest texts session library text result begins does = does
job_fulfilled law (Advise costs requests) texts session library text result begins does = fulfils_advice costs requests texts library text result begins.system begins.pair does
job_fulfilled law Resilience texts session library text result begins does = (
  subst (TellsLosses (parts_of library) (library_system library) (start_pair_of library)) (sym does.0) (tells_losses (parts_of library) (start_pair_of library) begins.system begins.pair),
  does.1,
)

pub fulfils_text : LinesAreRead → GreatestIsComplete → (asked : Option Command) (old new : World) (result : Status) → Served asked old new result → IsFree result → FulfilsText asked old new result
fulfils_text read law (Some (On system job)) old new result served free = IfSome_then _ {Q = (λ texts. (library : PlainLibrary) → document_opening texts system ≡ Accepted library → WritesText (FulfilsJob job texts library) old.written new.written result)} (served.run free)
    (λ texts run library accepted. record {
      text = run.text;
      run = job_fulfilled law job texts run.session library run.text result (library_begins texts system library accepted)
          (work_of (JobDoes job texts run.session) (document_opening texts system) library run.text result accepted run.run);
      wrote = run.wrote;
    })
fulfils_text read law (Some (Make n)) old new result served free =
    let run : HasRun (Some (Make n)) [] old new result = served.run free in
    record { text = run.text; run = fulfils_made n run.text result read run.run; wrote = run.wrote }
fulfils_text read law None old new result served free = tt
