-- The numbers that a handle returns about its session.
use Rattle.std.specs.Prelude.{◌≡◌, ◌==◌, ℕ, List, [], Option, None, Some, length, min, nat_lt, slice_index, unwrap_or, if◌then◌else◌}
use Rattle.roman_model.specs.System.{has}
use Rattle.roman_model.specs.Offers.{offers}
use Rattle.roman_read.specs.Names.{place_of}
use Rattle.roman_rules.specs.Bits.{HasBits}
use Rattle.roman_session.specs.Situations.{Situation, present_system}
use Rattle.roman_session.specs.declared.phase.Phase.{Phase}
use Rattle.roman_session.specs.declared.phase.Phase.TheVariants.{Idle, Offered, Delegated}
use Rattle.roman_c.specs.Events.{numbered_name, numbered_names}
use Rattle.roman_c.specs.declared.names.Kind.{Kind}
use Rattle.roman_c.specs.declared.names.Kind.TheVariants as kind

-- the value that stands for no number
abbrev pub no_number : ℕ
no_number = 4294967295

-- the bits of the services that are offered for the open request; no bits if there is no such request
abbrev pub AreOffered : Situation → Phase → ℕ → Type 0
AreOffered s (Offered a) bits = HasBits bits (has (offers (present_system s) s.here a))
AreOffered s _ bits = bits ≡ 0

-- the bits of the services that are offered in an open session; no bits if no session is open
abbrev pub HaveOffered : Option Situation → ℕ → Type 0
HaveOffered None bits = bits ≡ 0
HaveOffered (Some s) bits = AreOffered s s.phase bits

-- 0 if no request is open, 1 if services are offered for it, 2 if it is delegated
abbrev pub phase_number : Phase → ℕ
phase_number Idle = 0
phase_number (Offered a) = 1
phase_number (Delegated a k) = 2

-- the present state of that kind
abbrev pub numbered_state : Situation → Kind → ℕ
numbered_state s kind.EnvState = s.here.e
numbered_state s kind.TargetState = s.here.t
numbered_state s (kind.ServiceState k) = if nat_lt k (length s.parts.seats) then slice_index s.here.bs k else no_number
numbered_state s _ = no_number

-- a number of an open session, or `no_number` if no session is open
abbrev pub figure_of : (Situation → ℕ) → Option Situation → ℕ
figure_of number None = no_number
figure_of number (Some s) = number s

-- a name of an open session, or no bytes if no session is open
abbrev pub session_name : Kind → ℕ → Option Situation → List ℕ
session_name kind i None = []
session_name kind i (Some s) = numbered_name s kind i

-- the number of the name of that kind, or `no_number`; a behaviour past the greatest number has none
abbrev pub find_number : Kind → List ℕ → Situation → ℕ
find_number kind.Behaviour name s = min (unwrap_or (place_of (numbered_names s kind.Behaviour) name) no_number) no_number
find_number kind name s = unwrap_or (place_of (numbered_names s kind) name) no_number

-- the kind with that number; `of` is the service or the behaviour that has the states
abbrev pub kind_from : ℕ → ℕ → Option Kind
kind_from number of =
    if number == 0 then Some kind.Action
    else if number == 1 then Some kind.EnvState
    else if number == 2 then Some kind.TargetState
    else if number == 3 then Some kind.Service
    else if number == 4 then Some (kind.ServiceState of)
    else if number == 5 then Some kind.Behaviour
    else if number == 6 then Some (kind.BehaviourState of)
    else None

-- the value for a kind, or the given value if there is no kind
abbrev pub by_kind : {X : Type 0} → Option Kind → X → (Kind → X) → X
by_kind None none some = none
by_kind (Some kind) none some = some kind
