-- The text of a session keeps its promise.
use Rattle.roman_top.proofs.Common.{◌≡◌, ℕ, List, length, take, nat_le, Option, Some, sym, subst, arith, if◌then◌else◌, Texts, Wrote, GreatestIsComplete, lines, ended_lines, IsIn, MAX_SESSION_BYTES, PlainLibrary, Situation, report_text, parts_of, start_pair_of, Answers, State, start_state, IsState, LinesAreRead, Synth, Run, Command, On, IsFree, MeansTargets, IsTurnOfTargets, FulfilsTargets, HasAnsweredTargets, Turn, Means, HasAnsweredLines, Accepted, document_opening, DoesRun, DoesSynth, HasRun, Served, World, Status, PlainTargets, NamesTargets, library_of, targets_combined, ReportsGreat, reports_great, answered_heard, FulfilsPromise, HasHeadline, HasReported, work_of, opens_within, IfSome_then}
use Rattle.roman_top.proofs.JobLemmas.{fulfils_text}
use Rattle.roman_top.proofs.StartsKnown.{starts_known, some_start}
use Rattle.roman_top.proofs.TargetLemmas.{means_targets, steps_tell}
use Rattle.roman_top.proofs.TurnLemmas.{StepsTell, HasTurns, state_known, start_seen, start_from, turns_of}

-- the document is accepted, and its library is within the limit
means_accepted : (texts : Texts) (system : List ℕ) (library : PlainLibrary) → Means texts system library → document_opening texts system ≡ Accepted library
means_accepted texts system library (is, fits) = opens_within (library_of texts system) library is fits

-- the lines of a session, or those that end within the limit
abbrev lines_within : List ℕ → List (List ℕ)
lines_within session = if nat_le (length session) MAX_SESSION_BYTES then lines session else ended_lines (take MAX_SESSION_BYTES session)

run_told : (P : Turn → Type 0) (texts : Texts) (system session : List ℕ) (library : PlainLibrary) (text : List ℕ) (result : Status) → LinesAreRead → StepsTell library P → document_opening texts system ≡ Accepted library → DoesRun session library text result →
    (now : Situation) × HasTurns P library (start_state library) now (lines_within session) text
run_told P texts system session library text result read tell accepted talks =
    let tells = talks.0 in
    let known = starts_known texts system library tells.start accepted tells.begins in
    let told = subst (λ (ls : List (List ℕ)). Answers tells.start ls text tells.now) (answered_heard session) tells.told in (
      tells.now,
      subst (λ (s : State). HasTurns P library s tells.now (lines_within session) text) (start_seen library tells.start tells.begins)
          (turns_of P library tells.start tells.now (lines_within session) text read tell (start_from library tells.start tells.begins) known told),
    )

-- the report of a synthesis
reported : (texts : Texts) (system : List ℕ) (library : PlainLibrary) (text : List ℕ) → document_opening texts system ≡ Accepted library → text ≡ report_text (parts_of library) (start_pair_of library) →
    IsState library (start_state library) × ReportsGreat (start_state library) text
reported texts system library text accepted says = grind (arith, reports_great, some_start, start_from, start_seen, starts_known, state_known)

-- the lines of a session are answered by turns that all have the property P
answered_lines : (P : Turn → Type 0) (texts : Texts) (system : List ℕ) (name : Option (List ℕ)) (library : PlainLibrary) (old new : World) (result : Status) → LinesAreRead → StepsTell library P →
    Means texts system library → HasRun (Some (On system (Run name))) texts old new result →
    (answered : HasAnsweredLines (Some (On system (Run name))) library texts old new) × ((x : Turn) → IsIn x answered.turns → P x)
answered_lines P texts system name library old new result read tell means run =
    let accepted = means_accepted texts system library means in
    let (now, all) = run_told P texts system run.session library run.text result read tell accepted (work_of (DoesRun run.session) (document_opening texts system) library run.text result accepted run.run) in (
      record {
        session = run.session;
        given = run.given;
        turns = all.turns;
        are = all.are;
        wrote = subst (λ (text : List ℕ). Wrote old.written new.written text) (sym all.texts) run.wrote;
      },
      all.each,
    )

-- a run keeps the promise
fulfils_promise : (asked : Option Command) (old new : World) (result : Status) → LinesAreRead → Served asked old new result → IsFree result → FulfilsPromise asked old new
fulfils_promise (Some (On system Synth)) old new result read served free =
    IfSome_then _ {Q = (λ texts. (library : PlainLibrary) → Means texts system library → HasReported library old new)} (served.run free) (λ texts run library means.
    let accepted = means_accepted texts system library means in
    let (start, great) = reported texts system library run.text accepted (work_of DoesSynth (document_opening texts system) library run.text result accepted run.run).0 in
    record { start = start; text = run.text; great = great; wrote = run.wrote })
fulfils_promise (Some (On system (Run name))) old new result read served free =
    IfSome_then _ {Q = (λ texts. (library : PlainLibrary) → Means texts system library → HasAnsweredLines (Some (On system (Run name))) library texts old new)} (served.run free) (λ texts run library means.
    (answered_lines (λ x. Unit {0}) texts system name library old new result read (λ s mid line said from known onward next turn. tt) means run).0)
fulfils_promise _ old new result read served free = tt

-- if a document names several targets, a run keeps the promise target by target
fulfils_targets : (asked : Option Command) (old new : World) (result : Status) → LinesAreRead → Served asked old new result → IsFree result → FulfilsTargets asked old new
fulfils_targets (Some (On system Synth)) old new result read served free =
    IfSome_then _ {Q = (λ texts. (library : PlainLibrary) (said : PlainTargets) → Means texts system library → NamesTargets texts system said → MeansTargets said (start_state library))} (served.run free) (λ texts run library said means names.
    let accepted = means_accepted texts system library means in
    let (start, begins) = some_start texts system library accepted in
    subst (MeansTargets said) (start_seen library start begins)
    (means_targets said library start (targets_combined texts system library said means.0 names) (start_from library start begins) (starts_known texts system library start accepted begins)))
fulfils_targets (Some (On system (Run name))) old new result read served free =
    IfSome_then _ {Q = (λ texts. (library : PlainLibrary) (said : PlainTargets) → Means texts system library → NamesTargets texts system said → HasAnsweredTargets (Some (On system (Run name))) library said texts old new)} (served.run free)
    (λ texts run library said means names.
    let (answered, each) = answered_lines (IsTurnOfTargets said) texts system name library old new result read (steps_tell said library (targets_combined texts system library said means.0 names)) means run in
    record { answered = answered; each = each })
fulfils_targets _ old new result read served free = tt

pub has_headline : (asked : Option Command) (old new : World) (result : Status) → LinesAreRead → GreatestIsComplete → Served asked old new result → HasHeadline asked old new result
has_headline asked old new result read complete served free = (fulfils_promise asked old new result read served free, fulfils_targets asked old new result read served free, fulfils_text read complete asked old new result served free)
