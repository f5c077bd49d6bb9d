-- The effect of a call, derived from the effects of its parts.
use Rattle.roman_opening.specs.declared.status.Status.TheVariants as status
use Rattle.roman_top.proofs.Common.{◌≡◌, ◌≢◌, ℕ, List, [], Option, None, Some, Result, Ok, Err, inl, refl, sym, subst, arith, IsSome, HasCause, Rose, Texts, shelf_text, Puts, SinkCause, ShelfCause, InputCause, Job, Run, Command, On, Make, usage_line, Writes, EndsBare, Prints, EndsEarly, TurnsAway, Finishes, WritesPrefix, DoesJob, IsFree, HasRunPrefix, AtReadFault, AtWriteFault, AtMemory, AtShelfFault, EndsInput, IsOfTaken, document_opening, OnOpening, JobDoes, DoesMake, IsSessionText, HasRun, DoesRun, Runs, WithTexts, Served, ServedBeside, World, outputs, Outputs, beside, IsUnwritten, world, Status, Gave, Had, Gave-nil, away_is_run, IfSome_then}

-- equal commands have the same effect
pub served_as : (asked other : Option Command) (old new : World) (result : Status) → asked ≡ other → Served other old new result → Served asked old new result
served_as asked other old new result same served = subst (λ (a : Option Command). Served a old new result) (sym same) served

-- By the status

-- the bytes that were written and taken, by the status
abbrev pub Says : Option Command → World → World → Status → Type 0
Says asked old new status.ShelfFault = AtShelfFault asked old new
Says asked old new status.ReadFault = AtReadFault asked old new
Says asked old new status.WriteFault = AtWriteFault asked old new
Says asked old new status.Memory = AtMemory asked old new
Says asked old new result = WithTexts asked old.texts (λ texts. HasRun asked texts old new result)

pub served_by : (asked : Option Command) (old new : World) (result : Status) → Says asked old new result → ShelfCause old.shelf_faults new.shelf_faults result → InputCause old.input_faults new.input_faults result →
    SinkCause old.out_faults new.out_faults result → EndsInput asked old new result → new.texts ≡ old.texts → Served asked old new result
served_by asked old new result says shelf input out ends texts = record {
  run = λ free. ran result free says;
  shelf_fault = λ is. subst (Says asked old new) is says;
  read_fault = λ is. subst (Says asked old new) is says;
  write_fault = λ is. subst (Says asked old new) is says;
  memory = λ is. subst (Says asked old new) is says;
  shelf = shelf;
  input = input;
  out = out;
  ends = ends;
  texts = texts;
}
  where
    ran : (result : Status) → IsFree result → Says asked old new result → WithTexts asked old.texts (λ texts. HasRun asked texts old new result)
    ran status.ShelfFault free says = absurd free
    ran status.ReadFault free says = absurd free
    ran status.WriteFault free says = absurd free
    ran status.Memory free says = absurd free
    ran _ free says = says

-- the input wasn't read, and its count of faults stays the same
input_stays : (old new : Option (List ℕ)) (n : ℕ) (result : Status) → EndsBare old new result → InputCause n n result
input_stays old new n status.ReadFault stops = absurd stops
input_stays old new n _ stops = refl

-- Commands that take nothing from the input

-- the written text is that of a run for some session, and the effects at each fault hold
record TakesNothing (asked : Option Command) (IsRun : Texts → List ℕ → Status → Type 0) (old new : World) (result : Status) : Type 0 where
  run : (texts : Texts) → (session : List ℕ) × IsSessionText asked texts old.rest session × ((text : List ℕ) (ends : Status) → IsRun texts text ends → Runs asked texts session text ends)
  shelf : result ≡ status.ShelfFault → IsUnwritten old new → AtShelfFault asked old new
  taken : (texts : Texts) → WritesPrefix (IsRun texts) old.written new.written → IsOfTaken asked texts old new
  ends : EndsInput asked old new result

says_of : (asked : Option Command) (IsRun : Texts → List ℕ → Status → Type 0) (old new : World) (result : Status) → IsSome asked → TakesNothing asked IsRun old new result → EndsBare old.written new.written result →
    WithTexts asked old.texts (λ texts. Writes (IsRun texts) old.written new.written result) → Says asked old new result
says_of asked IsRun old new status.ShelfFault some takes stops writes = takes.shelf refl stops
says_of asked IsRun old new status.ReadFault some takes stops writes = absurd stops
says_of asked IsRun old new status.WriteFault some takes stops writes = IfSome_then _ {Q = (λ texts. HasRunPrefix asked texts old.rest old new × IsOfTaken asked texts old new)} writes (λ texts w.
    let (session, given, is_run) = takes.run texts in
    (record { session = session; given = given; text = w.text; ends = w.ends; run = is_run w.text w.ends w.run; wrote = w.wrote }, takes.taken texts w))
says_of asked IsRun old new status.Memory some takes stops writes = (some, stops)
says_of asked IsRun old new result some takes stops writes = IfSome_then _ {Q = (λ texts. HasRun asked texts old new result)} writes (λ texts w.
    let (session, given, is_run) = takes.run texts in
    record { session = session; given = given; text = w.text; run = is_run w.text result w.run; wrote = w.wrote })

takes_served : (asked : Option Command) (IsRun : Texts → List ℕ → Status → Type 0) (old new : Outputs) (rest : Option (List ℕ)) (faults : ℕ) (result : Status) → IsSome asked → TakesNothing asked IsRun (beside old rest faults) (beside new rest faults) result →
    WithTexts asked old.texts (λ texts. Writes (IsRun texts) old.written new.written result) → EndsBare old.written new.written result → ShelfCause old.shelf_faults new.shelf_faults result → SinkCause old.out_faults new.out_faults result →
    new.texts ≡ old.texts → Served asked (beside old rest faults) (beside new rest faults) result
takes_served asked IsRun old new rest faults result some takes writes stops shelf out texts =
    served_by asked (beside old rest faults) (beside new rest faults) result (says_of asked IsRun (beside old rest faults) (beside new rest faults) result some takes stops writes)
    shelf (input_stays old.written new.written faults result stops) out takes.ends texts

-- a session whose document isn't opened takes nothing from the input
away_takes : (system : List ℕ) (name : Option (List ℕ)) (old new : World) (result : Status) → Gave old.rest new.rest [] → result ≢ status.Done → TakesNothing (Some (On system (Run name))) (TurnsAway system) old new result
away_takes system None old new result gave early = record {
  run = λ texts. let (session, had) = some_rest old.rest in (session, had, away_is_run (DoesRun session) (document_opening texts system));
  shelf = λ is unwritten. unwritten;
  taken = λ texts w. record {
    taken = [];
    more = [];
    gave = gave;
    ends = inl refl;
    run = record { session = []; given = refl; text = w.text; ends = w.ends; run = away_is_run (DoesRun []) (document_opening texts system) w.text w.ends w.run; wrote = w.wrote };
  };
  ends = not_done result early;
}
  where
    some_rest : (rest : Option (List ℕ)) → (session : List ℕ) × Had rest session
    some_rest None = ([], tt)
    some_rest (Some bytes) = (bytes, refl)

    not_done : (result : Status) → result ≢ status.Done → EndsInput (Some (On system (Run None))) old new result
    not_done status.Done early = absurd (early refl)
    not_done _ early = tt
away_takes system (Some name) old new result gave early = record {
  run = λ texts. (shelf_text texts name, refl, away_is_run (DoesRun (shelf_text texts name)) (document_opening texts system));
  shelf = λ is unwritten. inl unwritten;
  taken = λ texts w. tt;
  ends = tt;
}

pub away_served : (system : List ℕ) (name : Option (List ℕ)) (old new : Outputs) (result : Status) → EndsEarly (TurnsAway system) old new result → ServedBeside (Some (On system (Run name))) old new result
away_served system name old new result away = record {
  served = λ rest faults.
      takes_served (Some (On system (Run name))) (TurnsAway system) old new rest faults result refl (away_takes system name (beside old rest faults) (beside new rest faults) result (Gave-nil rest) away.early)
      away.ends.writes away.ends.stops away.ends.shelf away.ends.out away.ends.texts;
}

-- the job isn't a session
abbrev IsPlain : Job → Type 0
IsPlain (Run name) = ⊥
IsPlain _ = Unit {0}

plain_takes : (system : List ℕ) (job : Job) (old new : World) (result : Status) → IsPlain job → TakesNothing (Some (On system job)) (λ texts. OnOpening (JobDoes job texts []) (document_opening texts system)) old new result
plain_takes system (Run name) old new result plain = absurd plain
plain_takes system _ old new result plain = record { run = λ texts. ([], tt, λ text ends run. run); shelf = λ is unwritten. unwritten; taken = λ texts w. tt; ends = tt }

-- a command with a job that isn't a session is served
pub job_served : (system : List ℕ) (job : Job) (told told_now : Option Texts) (shelf shelf_now : ℕ) (rest : Option (List ℕ)) (input : ℕ) (old new : Option (List ℕ)) (out out_now : ℕ) (result : Status) → IsPlain job →
    DoesJob system job (outputs told shelf old out) (outputs told_now shelf_now new out_now) result → Served (Some (On system job)) (world told shelf rest input old out) (world told_now shelf_now rest input new out_now) result
job_served system job told told_now shelf shelf_now rest input old new out out_now result plain does = takes_served (Some (On system job)) _ (outputs told shelf old out) (outputs told_now shelf_now new out_now) rest input result refl
    (plain_takes system job _ _ result plain) does.ends.writes does.ends.stops does.ends.shelf does.ends.out does.ends.texts

-- a made system is served
pub made_served : (n : ℕ) (told : Option Texts) (shelf : ℕ) (rest : Option (List ℕ)) (input : ℕ) (old new : Option (List ℕ)) (out out_now : ℕ) (result : Status) → Prints (DoesMake n) old out new out_now result →
    Served (Some (Make n)) (world told shelf rest input old out) (world told shelf rest input new out_now) result
made_served n told shelf rest input old new out out_now result prints =
    let made = prints.ends (Some []) shelf in
    takes_served (Some (Make n)) (λ texts. DoesMake n) (outputs told shelf old out) (outputs told shelf new out_now) rest input result refl (record {
      run = λ texts. ([], tt, λ text ends run. run);
      shelf = λ is unwritten. let rose : Rose 0 0 = subst (ShelfCause 0 0) is (prints.ends None 0).shelf in absurd (omega arith);
      taken = λ texts w. tt;
      ends = tt;
    }) made.writes made.stops made.shelf made.out refl

-- Words that form no command

pub usage_served : {T E : Type 0} (told : Option Texts) (shelf : ℕ) (rest : Option (List ℕ)) (input : ℕ) (old new : Option (List ℕ)) (out out_now : ℕ) (result : Status) (r : Result T E) →
    Puts old new usage_line r → Finishes r status.Usage result → HasCause out out_now r → Served None (world told shelf rest input old out) (world told shelf rest input new out_now) result
usage_served told shelf rest input old new out out_now result (Ok x) puts finishes cause = grind arith
usage_served told shelf rest input old new out out_now result (Err e) puts finishes cause = grind arith
