-- How the parts of a run end.
use Rattle.roman_opening.proofs.Common.{◌≡◌, ℕ, IsTrue, IsFalse, List, Option, None, Some, IfSome, Result, Ok, Err, sym, ap, ◌∙◌, subst, arith, refl, ◌≤◌, cond-true, cond-false, le-ltb, HasCause, Texts, Puts, Wrote-nil, cells, PlainLibrary, Refusal, WritesText, WritesPrefix, Writes, Ends, Opened, Finishes, Accepted, OnOpening, library_system, is_past_limit, Past, opening_of, Opening, Refused, Status, Outputs, outputs, IfSome_then}
use Rattle.roman_opening.specs.declared.status.Status.TheVariants as status

pub told_both : {X : Type 0} (o : Option X) (P Q R : X → Type 0) → IfSome o P → IfSome o Q → ((x : X) → P x → Q x → R x) → IfSome o R
told_both None P Q R p q more = tt
told_both (Some x) P Q R p q more = more x p q

pub told_known : {X : Type 0} (o : Option X) (P Q : X → Type 0) → IfSome o P → ((x : X) → o ≡ Some x → P x → Q x) → IfSome o Q
told_known None P Q p more = tt
told_known (Some x) P Q p more = more x refl p

pub told_all : {X : Type 0} (o : Option X) (P : X → Type 0) → ((x : X) → P x) → IfSome o P
told_all None P all = tt
told_all (Some x) P all = all x

-- ---- how a part of a run ends

-- the statuses with which a run ends only after its text was put
abbrev pub IsSaid : Status → Type 0
IsSaid status.Done = Unit {0}
IsSaid status.No = Unit {0}
IsSaid status.Refused = Unit {0}
IsSaid status.Limit = Unit {0}
IsSaid _ = ⊥

-- a part of a run ends after it put a text or a prefix of it
pub put_ends : {T E : Type 0} (IsRun : Texts → List ℕ → Status → Type 0) (told : Option Texts) (shelf : ℕ) (old new : Option (List ℕ)) (faults faults_now : ℕ) (text : List ℕ) (ends result : Status) (r : Result T E) → IsSaid ends →
    IfSome told (λ texts. IsRun texts text ends) → Puts old new text r → HasCause faults faults_now r → Finishes r ends result → Ends IsRun (outputs told shelf old faults) (outputs told shelf new faults_now) result
put_ends IsRun told shelf old new faults faults_now text ends result (Ok x) said run puts cause finishes =
    subst (Ends IsRun (outputs told shelf old faults) (outputs told shelf new faults_now)) (sym finishes) (whole ends said (IfSome_then told run (λ texts is. record { text = text; run = is; wrote = puts })))
  where
    whole : (ends : Status) → IsSaid ends → IfSome told (λ texts. WritesText (IsRun texts) old new ends) → Ends IsRun (outputs told shelf old faults) (outputs told shelf new faults_now) ends
    whole status.Done said writes = record { writes = writes; stops = tt; texts = refl; shelf = refl; out = cause.stays }
    whole status.No said writes = record { writes = writes; stops = tt; texts = refl; shelf = refl; out = cause.stays }
    whole status.Refused said writes = record { writes = writes; stops = tt; texts = refl; shelf = refl; out = cause.stays }
    whole status.Limit said writes = record { writes = writes; stops = tt; texts = refl; shelf = refl; out = cause.stays }
    whole _ said writes = absurd said
put_ends IsRun told shelf old new faults faults_now text ends result (Err e) said run puts cause finishes =
    subst (Ends IsRun (outputs told shelf old faults) (outputs told shelf new faults_now)) (sym finishes) (record {
      writes = IfSome_then told {Q = (λ texts. WritesPrefix (IsRun texts) old new)} run (λ texts is. record { text = text; ends = ends; run = is; wrote = puts });
      stops = tt;
      texts = refl;
      shelf = refl;
      out = cause.failed;
    })

-- a part of a run ends out of memory, and nothing was written
pub none_ends : (IsRun : Texts → List ℕ → Status → Type 0) (now : Outputs) → Ends IsRun now now status.Memory
none_ends IsRun now = record { writes = told_all now.texts (λ texts. Unit {0}) (λ texts. tt); stops = Wrote-nil now.written; texts = refl; shelf = refl; out = refl }

-- the texts of one kind of run are texts of another kind
pub writes_weaker : (One Other : List ℕ → Status → Type 0) (old new : Option (List ℕ)) (result : Status) → ((text : List ℕ) (ends : Status) → One text ends → Other text ends) → Writes One old new result → Writes Other old new result
writes_weaker One Other old new status.ShelfFault weaker w = tt
writes_weaker One Other old new status.ReadFault weaker w = tt
writes_weaker One Other old new status.WriteFault weaker w = record { text = w.text; ends = w.ends; run = weaker w.text w.ends w.run; wrote = w.wrote }
writes_weaker One Other old new status.Memory weaker w = tt
writes_weaker One Other old new result weaker w = record { text = w.text; run = weaker w.text result w.run; wrote = w.wrote }

pub ends_weaker : (One Other : Texts → List ℕ → Status → Type 0) (old new : Outputs) (result : Status) → IfSome old.texts (λ texts. (text : List ℕ) (ends : Status) → One texts text ends → Other texts text ends) →
    Ends One old new result → Ends Other old new result
ends_weaker One Other old new result weaker ends = record {
  writes = told_both old.texts _ _ (λ texts. Writes (Other texts) old.written new.written result) weaker ends.writes (λ texts weaker writes. writes_weaker (One texts) (Other texts) old.written new.written result weaker writes);
  stops = ends.stops;
  texts = ends.texts;
  shelf = ends.shelf;
  out = ends.out;
}

-- a property of the state after an opening is a property of the state before it
pub opened_from : {X : Type 0} (Holds : Texts → X → Type 0) (x : X) (old mid : Outputs) (P : Outputs → Type 0) → Opened Holds old mid x → (IfSome mid.texts (λ texts. Holds texts x) → P mid) → P old
opened_from Holds x old mid P opened serve =
    subst P opened.same (serve (subst (λ (now : Outputs). IfSome now.texts (λ texts. Holds texts x)) (sym opened.same) opened.holds))

-- ---- results of opening a document

pub opens_past : (meaning : Result PlainLibrary Refusal) (library : PlainLibrary) → meaning ≡ Ok library → IsTrue (is_past_limit library) → opening_of meaning ≡ Past library
opens_past meaning library means past = ap opening_of means ∙ cond-true (is_past_limit library) (Past library) (Accepted library) past

pub opens_within : (meaning : Result PlainLibrary Refusal) (library : PlainLibrary) → meaning ≡ Ok library → cells (library_system library) ≤ library.limit → opening_of meaning ≡ Accepted library
opens_within meaning library means fits = ap opening_of means ∙ cond-false (is_past_limit library) (Past library) (Accepted library) (le-ltb library.limit (cells (library_system library)) fits)

-- an accepted document means its library, and is within its limit
pub record IsAccepted (meaning : Result PlainLibrary Refusal) (library : PlainLibrary) : Type 0 where
  pub means : meaning ≡ Ok library
  pub within : IsFalse (is_past_limit library)

pub accepted_is : (meaning : Result PlainLibrary Refusal) (library : PlainLibrary) → opening_of meaning ≡ Accepted library → IsAccepted meaning library
accepted_is (Err refusal) library h = absurd (let e : ⊥ = cc in e)
accepted_is (Ok other) library h = grind arith

-- the line that turns a document away ends each job on it
pub away_is_run : (Work : PlainLibrary → List ℕ → Status → Type 0) (opening : Opening) (text : List ℕ) (ends : Status) → OnOpening (λ library out result. ⊥) opening text ends → OnOpening Work opening text ends
away_is_run Work (Refused refusal) text ends away = away
away_is_run Work (Past library) text ends away = away
away_is_run Work (Accepted library) text ends away = absurd away

-- the work on an accepted document
pub on_accepted : (Work : PlainLibrary → List ℕ → Status → Type 0) (opening : Opening) (library : PlainLibrary) (text : List ℕ) (ends : Status) → opening ≡ Accepted library → Work library text ends → OnOpening Work opening text ends
on_accepted Work opening library text ends accepted work = subst (λ (opening : Opening). OnOpening Work opening text ends) (sym accepted) work

pub work_of : (Work : PlainLibrary → List ℕ → Status → Type 0) (opening : Opening) (library : PlainLibrary) (text : List ℕ) (ends : Status) → opening ≡ Accepted library → OnOpening Work opening text ends → Work library text ends
work_of Work opening library text ends accepted run = subst (λ (opening : Opening). OnOpening Work opening text ends) accepted run
