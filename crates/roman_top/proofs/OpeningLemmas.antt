-- Jobs on opened documents.
use Rattle.roman_top.proofs.Common.{◌≡◌, ℕ, List, [], Option, IfSome, Result, Ok, refl, ◌∙◌, subst, HasCause, Texts, rest_from, Puts, Pair, sizes_of, pair_at, NamedSys, system_of, PlainLibrary, parts_of, start_pair_of, Job, JobDoes, Ends, Prints, EndsEarly, Opened, OpensDocument, DoesJob, TurnsAway, Accepts, IsRelated, Finishes, document_opening, library_system, OnOpening, Related, Outputs, Status, told_all, IfSome_then, told_both, IsSaid, put_ends, ends_weaker, opened_from, on_accepted, away_is_run}

-- a source over a whole text has that text
pub text_source : (told given : Option Texts) (name given_name : List ℕ) (at : ℕ) → given ≡ told → given_name ≡ name → at ≡ 0 → rest_from given given_name at ≡ rest_from told name 0
text_source told given name given_name at same_texts same_name at_start = rw (same_texts, same_name, at_start) refl

-- a run ends after it put a text or a prefix of it, for any texts of the shelf
pub says_ends : {T E : Type 0} (Run : List ℕ → Status → Type 0) (old new : Option (List ℕ)) (faults faults_now : ℕ) (text : List ℕ) (ends result : Status) (r : Result T E) → IsSaid ends → Run text ends →
    Puts old new text r → HasCause faults faults_now r → Finishes r ends result → Prints Run old faults new faults_now result
says_ends Run old new faults faults_now text ends result r said run puts cause finishes = record {
  ends = λ told shelf. put_ends (λ texts. Run) told shelf old new faults faults_now text ends result r said (told_all told (λ texts. Run text ends) (λ texts. run)) puts cause finishes;
}

-- ---- endings without a value

-- the run ended without a value, and nothing changed before that
pub early_from : (One Other : Texts → List ℕ → Status → Type 0) (old mid new : Outputs) (result : Status) → mid ≡ old → IfSome old.texts (λ texts. (text : List ℕ) (ends : Status) → One texts text ends → Other texts text ends) → EndsEarly One mid new result →
    EndsEarly Other old new result
early_from One Other old mid new result same weaker away = record { ends = ends_weaker One Other old new result weaker (subst (λ (now : Outputs). Ends One now new result) same away.ends); early = away.early }

-- ---- opened values

-- one value was opened after another
pub opened_both : {X Y : Type 0} (One : Texts → X → Type 0) (Two : Texts → Y → Type 0) (x : X) (y : Y) (old mid new : Outputs) → Opened One old mid x → Opened Two mid new y → Opened (λ texts y. One texts x × Two texts y) old new y
opened_both One Two x y old mid new one two = record {
  holds = told_both old.texts _ _ (λ texts. One texts x × Two texts y) one.holds (subst (λ (now : Outputs). IfSome now.texts (λ texts. Two texts y)) one.same two.holds) (λ texts is then. (is, then));
  same = two.same ∙ one.same;
}

-- a property of a system with its start pair is a property of its library
pub at_start : (Tells : NamedSys → Pair → Type 0) (joint : NamedSys) (start : ℕ) (library : PlainLibrary) → joint ≡ parts_of library → pair_at (sizes_of (library_system library)) start ≡ start_pair_of library →
    Tells joint (pair_at (sizes_of (system_of joint)) start) → Tells (parts_of library) (start_pair_of library)
at_start Tells joint start library parts pair tells =
    subst (Tells (parts_of library)) pair (subst (λ (n : NamedSys). Tells n (pair_at (sizes_of (system_of n)) start)) parts tells)

-- ---- jobs

-- a document that is turned away ends its job
pub early_does : (system : List ℕ) (job : Job) (old new : Outputs) (result : Status) → EndsEarly (TurnsAway system) old new result → DoesJob system job old new result
early_does system job old new result away = record {
  ends = ends_weaker _ _ old new result (told_all old.texts _ (λ texts text ends. away_is_run (JobDoes job texts []) (document_opening texts system) text ends)) away.ends;
}

-- the work on an opened value does the job
pub work_does : {X : Type 0} (Holds : Texts → X → Type 0) (x : X) (Work : Texts → List ℕ → Status → Type 0) (system : List ℕ) (job : Job) (old mid new : Outputs) (result : Status) → Opened Holds old mid x →
    ((texts : Texts) → Holds texts x → (text : List ℕ) (ends : Status) → Work texts text ends → OnOpening (JobDoes job texts []) (document_opening texts system) text ends) → Ends Work mid new result → DoesJob system job old new result
work_does Holds x Work system job old mid new result opened is_run ends =
    opened_from Holds x old mid (λ (now : Outputs). DoesJob system job now new result) opened (λ holds. record { ends = ends_weaker Work _ mid new result (IfSome_then mid.texts holds is_run) ends })

-- the work on an opened document does the job
pub opened_does : {X : Type 0} (Holds : PlainLibrary → X → Type 0) (x : X) (Work : List ℕ → Status → Type 0) (system : List ℕ) (job : Job) (old mid new : Outputs) (result : Status) → OpensDocument Holds system old mid (Ok x) →
    ((texts : Texts) (library : PlainLibrary) → Holds library x → (text : List ℕ) (ends : Status) → Work text ends → JobDoes job texts [] library text ends) → Ends (λ texts. Work) mid new result → DoesJob system job old new result
opened_does Holds x Work system job old mid new result opened is_run ends =
    work_does (λ texts x. Accepts system texts (λ library. Holds library x)) x (λ texts. Work) system job old mid new result opened
    (λ texts accepts text ends work. on_accepted (JobDoes job texts []) (document_opening texts system) accepts.library text ends accepts.accepted (is_run texts accepts.library accepts.holds text ends work)) ends

-- the work on an opened relation does the job, if the job is about the system and its start pair
pub related_does : (Tells : NamedSys → Pair → List ℕ → Status → Type 0) (related : Related) (system : List ℕ) (job : Job) (old mid new : Outputs) (result : Status) → OpensDocument IsRelated system old mid (Ok related) →
    ((texts : Texts) (library : PlainLibrary) (text : List ℕ) (ends : Status) → Tells (parts_of library) (start_pair_of library) text ends → JobDoes job texts [] library text ends) →
    Ends (λ texts. Tells related.relation.joint (pair_at (sizes_of (system_of related.relation.joint)) related.start)) mid new result → DoesJob system job old new result
related_does Tells related system job old mid new result opened is_run ends =
    opened_does IsRelated related (Tells related.relation.joint (pair_at (sizes_of (system_of related.relation.joint)) related.start)) system job old mid new result opened
    (λ texts library is text ends tells. is_run texts library text ends (at_start (λ (n : NamedSys) (p : Pair). Tells n p text ends) related.relation.joint related.start library is.parts is.start tells)) ends
