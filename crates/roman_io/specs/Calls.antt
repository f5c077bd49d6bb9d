-- The calls of an object in memory.
use Rattle.std.specs.Prelude.{◌≡◌, ℕ, Bool, List, Result, OnOk, OnErr, ◌==◌}
use Rattle.std.specs.List.{list_any}
use Rattle.roman_io.specs.Faults.{one_more, HasCause}

-- the numbers of the calls that fail, the number of the next call, and how many calls failed
pub record Calls : Type 0 where
  pub failing : List ℕ
  pub next : ℕ
  pub faults : ℕ

-- the record before the first call
abbrev pub no_calls : List ℕ → Calls
no_calls failing = record { failing = failing; next = 0; faults = 0 }

-- the next call is one of those that fail
abbrev pub is_failing : Calls → Bool
is_failing calls = list_any (λ call. call == calls.next) calls.failing

-- the record after a call
abbrev pub after_call : Calls → Calls
after_call calls = record { failing = calls.failing; next = one_more calls.next; faults = calls.faults }

-- the record after a fault
abbrev pub after_fault : Calls → Calls
after_fault calls = record { failing = calls.failing; next = calls.next; faults = one_more calls.faults }

-- the record after a call that failed
abbrev pub after_failed : Calls → Calls
after_failed calls = after_fault (after_call calls)

-- the record counts the call, and its fault at an error
pub record CountsCall {T E : Type 0} (old new : Calls) (result : Result T E) : Type 0 where
  pub cause : HasCause old.faults new.faults result
  pub ok : OnOk result (new ≡ after_call old)
  pub err : OnErr result (new ≡ after_failed old)
