-- The lines of events that are given by numbers: they name the things that have the numbers.
use Rattle.std.specs.Prelude.{ℕ, Bool, List, [], ◌∷◌, ◌++◌, map, codes, slice_index_or, if◌then◌else◌}
use Rattle.roman_read.specs.Names.{is_name}
use Rattle.roman_model.specs.Explanation.{seat_names}
use Rattle.roman_joint.specs.Names.{beh_name, names_in, seat_name, states_of_behaviour}
use Rattle.roman_session.specs.Situations.{Situation}
use Rattle.roman_session.specs.declared.phase.Phase.{Phase}
use Rattle.roman_session.specs.declared.phase.Phase.TheVariants.{Delegated}
use Rattle.roman_c.specs.declared.events.NumberedEvent.{NumberedEvent}
use Rattle.roman_c.specs.declared.events.NumberedEvent.TheVariants as event
use Rattle.roman_c.specs.declared.names.Kind.{Kind}
use Rattle.roman_c.specs.declared.names.Kind.TheVariants as kind

-- the names of that kind, in the order of their numbers
abbrev pub numbered_names : Situation → Kind → List (List ℕ)
numbered_names s kind.Action = s.parts.environment.actions
numbered_names s kind.EnvState = s.parts.environment.states
numbered_names s kind.TargetState = s.parts.target.states
numbered_names s kind.Service = map seat_name s.parts.seats
numbered_names s (kind.ServiceState k) = (seat_names (names_in s.parts) k).states
numbered_names s kind.Behaviour = map beh_name s.parts.catalogue
numbered_names s (kind.BehaviourState i) = states_of_behaviour s.parts.catalogue i

-- the name of that kind and number, or no bytes if there is none
abbrev pub numbered_name : Situation → Kind → ℕ → List ℕ
numbered_name s kind i = slice_index_or (numbered_names s kind) i []

-- the word, or `+`, which isn't a valid name, if it is empty
abbrev pub or_plus : List ℕ → List ℕ
or_plus [] = codes "+"
or_plus (byte ∷ bytes) = byte ∷ bytes

-- a space and the name of that kind and number
abbrev pub named_by : Situation → Kind → ℕ → List ℕ
named_by s kind i = codes " " ++ or_plus (numbered_name s kind i)

-- a space and the name of that state of the delegate
abbrev pub named_by_delegate : Situation → Phase → ℕ → List ℕ
named_by_delegate s (Delegated a k) b = named_by s (kind.ServiceState k) b
named_by_delegate s _ b = codes " +"

-- a name, or `+` if the bytes aren't a valid name
abbrev pub name_or_plus : List ℕ → List ℕ
name_or_plus bytes = if is_name bytes then bytes else codes "+"

-- the line by which a service joins
abbrev pub join_line : Situation → List ℕ → ℕ → ℕ → Bool → List ℕ
join_line s name behaviour state loose =
    codes "join " ++ name_or_plus name ++ named_by s kind.Behaviour behaviour ++ named_by s (kind.BehaviourState behaviour) state
    ++ (if loose then codes " loose" else [])

-- the line of an event
abbrev pub event_line : Situation → NumberedEvent → List ℕ
event_line s (event.Request action) = codes "do" ++ named_by s kind.Action action
event_line s (event.Delegate service) = codes "use" ++ named_by s kind.Service service
event_line s (event.Observe state env) = codes "saw" ++ named_by_delegate s s.phase state ++ named_by s kind.EnvState env
event_line s (event.Freeze service) = codes "freeze" ++ named_by s kind.Service service
event_line s (event.Thaw service) = codes "thaw" ++ named_by s kind.Service service
event_line s (event.Die service) = codes "die" ++ named_by s kind.Service service
event_line s (event.Jump service state) = codes "jump" ++ named_by s kind.Service service ++ named_by s (kind.ServiceState service) state
event_line s (event.JumpEnv env) = codes "jumpenv" ++ named_by s kind.EnvState env
event_line s (event.Join name behaviour state loose) = join_line s name.now behaviour state loose
