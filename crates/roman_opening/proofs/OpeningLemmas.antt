-- Opening documents, and how a run ends without one.
use Rattle.roman_opening.specs.declared.status.Status.TheVariants as status
use Rattle.roman_opening.proofs.Common.{◌≡◌, ◌≢◌, ℕ, ◌<◌, List, Option, IfSome, Result, Ok, Err, refl, sym, ap, ◌∙◌, subst, ◌≤◌, HasCause, Rose, Texts, Wrote-nil, Puts, sizes_of, pair_at, count, numbers_are_pairs, NamedSys, system_of, cells, PlainLibrary, IsSeated, Seated, start_pair_of, IsRelation, Ends, EndsEarly, OpensDocument, MeansLibrary, TurnsAway, Accepts, IsRelated, Finishes, library_of, limit_line, library_system, Opening, OnOpening, lt-ltb, Related, outputs, Outputs, Status, IfSome_then}
use Rattle.roman_opening.proofs.EndingLemmas.{told_all, opens_past, opens_within, IsSaid, put_ends, none_ends}

-- ---- endings without a value

-- the shelf and the sink are the same if the texts and the count of faults are
pub same_outputs : (told told_now : Option Texts) (shelf shelf_now : ℕ) (written : Option (List ℕ)) (faults : ℕ) → told_now ≡ told → shelf_now ≡ shelf → outputs told_now shelf_now written faults ≡ outputs told shelf written faults
same_outputs told told_now shelf shelf_now written faults texts shelves = rw (texts, shelves) refl

-- the ending out of memory
pub opens_none : (IsRun : Texts → List ℕ → Status → Type 0) (old mid : Outputs) → mid ≡ old → EndsEarly IsRun old mid status.Memory
opens_none IsRun old mid same = record { ends = subst (λ (now : Outputs). Ends IsRun now mid status.Memory) same (none_ends IsRun mid); early = λ e. let h : ⊥ = cc in h }

-- the ending after a fault of the shelf
pub opens_fault : (IsRun : Texts → List ℕ → Status → Type 0) (told told_now : Option Texts) (shelf shelf_now : ℕ) (written : Option (List ℕ)) (faults : ℕ) → told_now ≡ told → Rose shelf shelf_now →
    EndsEarly IsRun (outputs told shelf written faults) (outputs told_now shelf_now written faults) status.ShelfFault
opens_fault IsRun told told_now shelf shelf_now written faults same rose = record {
  ends = record { writes = told_all told (λ texts. Unit {0}) (λ texts. tt); stops = Wrote-nil written; texts = same; shelf = rose; out = refl };
  early = λ e. let h : ⊥ = cc in h;
}

-- the ending after a line was put
pub opens_line : {T E : Type 0} (IsRun : Texts → List ℕ → Status → Type 0) (old mid : Outputs) (new : Option (List ℕ)) (faults_now : ℕ) (text : List ℕ) (ends result : Status) (r : Result T E) → mid ≡ old → IsSaid ends → ends ≢ status.Done →
    IfSome old.texts (λ texts. IsRun texts text ends) → Puts mid.written new text r → HasCause mid.out_faults faults_now r → Finishes r ends result → EndsEarly IsRun old (outputs mid.texts mid.shelf_faults new faults_now) result
opens_line {T} {E} IsRun old mid new faults_now text ends result r same said early run puts cause finishes = record {
  ends = subst (λ (now : Outputs). Ends IsRun now (outputs mid.texts mid.shelf_faults new faults_now) result) same
      (put_ends IsRun mid.texts mid.shelf_faults mid.written new mid.out_faults faults_now text ends result r said (subst (λ (now : Outputs). IfSome now.texts (λ texts. IsRun texts text ends)) (sym same) run) puts cause finishes);
  early = other r finishes;
}
  where
    other : (r : Result T E) → Finishes r ends result → result ≢ status.Done
    other (Ok x) finishes e = early (sym finishes ∙ e)
    other (Err e) finishes is = let h : status.WriteFault ≡ status.Done = sym finishes ∙ is in let h : ⊥ = cc in h

-- the ending after the line of the limit was put
pub opens_past_limit : {T E : Type 0} (name : List ℕ) (library : PlainLibrary) (old mid : Outputs) (new : Option (List ℕ)) (faults_now : ℕ) (result : Status) (r : Result T E) → IfSome old.texts (λ texts. MeansLibrary name texts library) → mid ≡ old →
    library.limit < cells (library_system library) → Puts mid.written new (limit_line library.limit) r → HasCause mid.out_faults faults_now r → Finishes r status.Limit result →
    EndsEarly (TurnsAway name) old (outputs mid.texts mid.shelf_faults new faults_now) result
opens_past_limit name library old mid new faults_now result r means same past puts cause finishes =
    opens_line (TurnsAway name) old mid new faults_now (limit_line library.limit) status.Limit result r same tt (λ e. let h : ⊥ = cc in h)
    (IfSome_then old.texts {Q = (λ texts. TurnsAway name texts (limit_line library.limit) status.Limit)} means (λ texts is.
    subst (λ (opening : Opening). OnOpening (λ other out result. ⊥) opening (limit_line library.limit) status.Limit) (sym (opens_past (library_of texts name) library is (lt-ltb library.limit (cells (library_system library)) past))) (refl, refl)))
    puts cause finishes

-- ---- opened values

-- a library within its limit is accepted
pub opens_ok : {X : Type 0} (Holds : PlainLibrary → X → Type 0) (x : X) (name : List ℕ) (library : PlainLibrary) (old mid : Outputs) → IfSome old.texts (λ texts. MeansLibrary name texts library) → mid ≡ old →
    cells (library_system library) ≤ library.limit → Holds library x → OpensDocument Holds name old mid (Ok x)
opens_ok Holds x name library old mid means same fits holds = record {
  holds = IfSome_then old.texts {Q = (λ texts. Accepts name texts (λ library. Holds library x))} means (λ texts is. record { library = library; accepted = opens_within (library_of texts name) library is fits; holds = holds });
  same = same;
}

-- the start pair of a seated library is that of the library
pub seated_start : (library : PlainLibrary) (seated : Seated) → IsSeated library seated → pair_at (sizes_of (library_system library)) seated.start ≡ start_pair_of library
seated_start library seated is = ap (pair_at (sizes_of (library_system library))) is.start ∙ (numbers_are_pairs (library_system library)).back (start_pair_of library) is.pair

-- the start pair is a pair of the system
pub start_below : (library : PlainLibrary) (seated : Seated) (joint : NamedSys) → IsSeated library seated → joint ≡ seated.joint → seated.start < count (sizes_of (system_of joint))
start_below library seated joint is same = subst (λ (n : NamedSys). seated.start < count (sizes_of (system_of n))) (sym (same ∙ is.parts)) is.below

-- the greatest relation of a seated system
pub relation_is : (library : PlainLibrary) (seated : Seated) (related : Related) → IsSeated library seated → related.relation.joint ≡ seated.joint → related.start ≡ seated.start → IsRelation related.relation.joint related.relation.order →
    IsRelated library related
relation_is library seated related is joint start whole = record {
  parts = joint ∙ is.parts;
  start = ap (pair_at (sizes_of (library_system library))) start ∙ seated_start library seated is;
  below = subst (λ (p : ℕ). p < count (sizes_of (system_of related.relation.joint))) (sym start) (start_below library seated related.relation.joint is joint);
  whole = whole;
}
