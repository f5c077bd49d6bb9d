-- The conditions under which commands are answered.
use Rattle.roman_opening.specs.declared.status.Status.TheVariants as status
use Rattle.roman_top.proofs.Common.{◌∙◌, ◌≡◌, ◌≢◌, ℕ, IsTrue, List, Option, None, Some, IfSome, refl, sym, subst, Texts, shelf_text, Sys, Pair, sizes_of, number, numbered, Verdict, Greatest, Rejected, TooLong, cert_verdict, PlainLibrary, start_pair_of, is_heard_out, Job, Synth, Run, Certify, Check, Shortest, Advise, Resilience, Command, On, Make, IsAnswered, Suffices, CanAnswer, IsUndisturbed, AnswersWherePossible, library_system, document_opening, EndsBy, SaysVerdict, DoesRun, JobDoes, IsSessionText, HasRun, texts_for, Served, World, Status, cond-true, told_all, work_of, IfSome_then}
use Rattle.roman_top.proofs.AdviseLemmas.{advice_answered}

-- The answers

is_done : (result : Status) → result ≡ status.Done → IsAnswered result
is_done result e = subst IsAnswered (sym e) tt

ends_answered : (s : Sys) (p : Pair) (result : Status) → EndsBy s p result → IsAnswered result
ends_answered s p status.Done ends = tt
ends_answered s p status.No ends = tt
ends_answered s p status.Memory ends = tt
ends_answered s p _ ends = ends

judged_answered : (verdict : Verdict) (text : List ℕ) (result : Status) → verdict ≢ TooLong → SaysVerdict verdict text result → IsAnswered result
judged_answered (Greatest related start) text result short judges = is_done result judges.1
judged_answered (Rejected line why) text result short judges = subst IsAnswered (sym judges.1) tt
judged_answered TooLong text result short judges = absurd (short refl)

run_answered : (session : List ℕ) (library : PlainLibrary) (text : List ℕ) (result : Status) → IsTrue (is_heard_out session) → DoesRun session library text result → IsAnswered result
run_answered session library text result short talks = is_done result (talks.1 ∙ cond-true (is_heard_out session) status.Done status.TooLong short)

-- a job is answered if its conditions hold
job_answered : (job : Job) (texts : Texts) (system : List ℕ) (rest : Option (List ℕ)) (session text : List ℕ) (library : PlainLibrary) (result : Status) → IsSessionText (Some (On system job)) texts rest session → Suffices job texts rest library →
    JobDoes job texts session library text result → IsAnswered result
job_answered Synth texts system rest session text library result given enough does = ends_answered (library_system library) (start_pair_of library) result does.1
job_answered (Run None) texts system None session text library result given enough does = absurd enough
job_answered (Run None) texts system (Some bytes) session text library result given enough does = run_answered session library text result (subst (λ (b : List ℕ). IsTrue (is_heard_out b)) given enough) does
job_answered (Run (Some name)) texts system rest session text library result given enough does = run_answered session library text result (subst (λ (b : List ℕ). IsTrue (is_heard_out b)) (sym given) enough) does
job_answered Certify texts system rest session text library result given enough does = is_done result does.says.1
job_answered Resilience texts system rest session text library result given enough does = is_done result does.1
job_answered (Check certificate) texts system rest session text library result given enough does =
    judged_answered (cert_verdict (numbered (library_system library)) (number (sizes_of (library_system library)) (start_pair_of library)) (shelf_text texts certificate)) text result enough does
job_answered Shortest texts system rest session text library result given enough does = is_done result does.1
job_answered (Advise costs requests) texts system rest session text library result given enough does = advice_answered costs requests texts library text result enough does

answered : (asked : Option Command) (texts : Texts) (old new : World) (result : Status) → HasRun asked texts old new result → CanAnswer asked texts old.rest → IsAnswered result
answered None texts old new result run can = absurd can
answered (Some (On system job)) texts old new result run (library, accepted, enough) =
    job_answered job texts system old.rest run.session run.text library result run.given enough (work_of (JobDoes job texts run.session) (document_opening texts system) library run.text result accepted run.run)
answered (Some (Make n)) texts old new result run can = is_done result run.run.1

-- if no count of faults rose, a command whose conditions hold is answered
by_status : (asked : Option Command) (old new : World) (result : Status) → Served asked old new result → IsUndisturbed old new → IfSome (texts_for asked old.texts) (λ texts. CanAnswer asked texts old.rest → IsAnswered result)
by_status asked old new status.ShelfFault served quiet = absurd (quiet.shelf served.shelf)
by_status asked old new status.ReadFault served quiet = absurd (quiet.input served.input)
by_status asked old new status.WriteFault served quiet = absurd (quiet.out served.out)
by_status asked old new status.Memory served quiet = told_all _ (λ texts. CanAnswer asked texts old.rest → IsAnswered status.Memory) (λ texts can. tt)
by_status asked old new result served quiet =
    IfSome_then _ {Q = (λ texts. CanAnswer asked texts old.rest → IsAnswered result)} (served.run tt) (λ texts run can. answered asked texts old new result run can)

pub completes : (asked : Option Command) (old new : World) (result : Status) → Served asked old new result → AnswersWherePossible asked old new result
completes asked old new result served quiet = by_status asked old new result served quiet
