-- Writing reports as part of a run.
use Rattle.roman_top.proofs.Common.{◌≡◌, ℕ, List, Bool, true, false, sym, subst, arith, both_ways, is_related, related_great, great_related, PlainLibrary, Situation, present_system, IsSituation, report_text, IsStart, EndsBy, DoesSynth, Status, status_of, IsSaid}

-- the status states whether the pair is related
ends_by : (s : Situation) → IsSituation s → (related : Bool) → related ≡ is_related (present_system s) s.here → IsSaid (status_of related) × EndsBy (present_system s) s.here (status_of related)
ends_by s known true e = (tt, related_great (present_system s) s.here known.parts.system known.here (sym e))
ends_by s known false e = (tt, λ great. both_ways (is_related (present_system s) s.here) (sym e) (great_related (present_system s) s.here known.parts.system great))

pub ends_as : (s : Situation) (related : Bool) (result : Status) → IsSituation s → related ≡ is_related (present_system s) s.here → result ≡ status_of related → IsSaid result × EndsBy (present_system s) s.here result
ends_as s related result known e is = subst (λ (ends : Status). IsSaid ends × EndsBy (present_system s) s.here ends) (sym is) (ends_by s known related e)

-- the report on the starting situation is that of the library
pub reported_is_run : (s : Situation) (library : PlainLibrary) → IsStart library s → (text : List ℕ) (ends : Status) → (text ≡ report_text s.parts s.here) × EndsBy (present_system s) s.here ends → DoesSynth library text ends
reported_is_run s library start text ends reports = grind arith
