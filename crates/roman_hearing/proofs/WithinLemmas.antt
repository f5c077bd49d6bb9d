-- The numbers of the services, states and behaviours that an event names are in range.
use Rattle.roman_hearing.proofs.Common.{All, All-get_or, AreBehaviours, IfSome, IsAt, IsBeh, IsBehaviour, IsSituation, List, NamedBeh, NamedEnv, Option, Situation, Some, arith, beh_at, beh_name, beh_read, get_or_from_slice_get, length, length-map, map, mapped_at, names_in, present_system, seat_name, seat_names, seat_read, slice_get, slice_get_within, states_named, states_of_behaviour, subst, sym, there_is, ℕ, ◌<◌, ◌≡◌}
use Rattle.roman_model.specs.System.{Seat}

-- a named service is present
pub seat_within : (s : Situation) (service : List ℕ) (k : ℕ) → IsAt s service k → k < length s.parts.seats
seat_within s service k at = omega (arith, slice_get_within (map seat_name s.parts.seats) k service at, length-map s.parts.seats seat_name)

-- the behaviour at a place of a catalogue is well formed, and has a name for each of its states
placed_behaviour : (env : NamedEnv) (catalogue : List NamedBeh) (i : ℕ) → All (IsBehaviour env) catalogue → i < length catalogue → (y : NamedBeh) × (slice_get catalogue i ≡ Some y) × IsBehaviour env y
placed_behaviour env catalogue i behaviours l = grind (arith, (there_is catalogue i l), get_or_from_slice_get, All-get_or)

pub beh_within : (env : NamedEnv) (catalogue : List NamedBeh) (i : ℕ) → All (IsBehaviour env) catalogue → i < length catalogue → IsBeh env.env (beh_at catalogue i)
beh_within env catalogue i behaviours l =
    let (y, there, is) = placed_behaviour env catalogue i behaviours l in
    subst (IsBeh env.env) (sym (beh_read catalogue i y there)) (is.known env.env (sym is.env_states) (sym is.actions))

states_counted : (s : Situation) (i : ℕ) → AreBehaviours s.parts → i < length s.parts.catalogue → length (states_of_behaviour s.parts.catalogue i) ≡ (beh_at s.parts.catalogue i).states
states_counted s i behaviours l = grind (arith, (placed_behaviour s.parts.environment s.parts.catalogue i behaviours l), mapped_at, beh_read)

-- a named state of a service is in range
pub state_within : (s : Situation) (k b : ℕ) (state : List ℕ) → IsSituation s → AreBehaviours s.parts → k < length s.parts.seats → slice_get (seat_names (names_in s.parts) k).states b ≡ Some state →
    IfSome (slice_get (present_system s).seats k) (λ seat. b < seat.beh.states)
state_within s k b state is behaviours l h =
    let (seat, seated) = there_is s.parts.seats k l in
    let inside : seat.behaviour < length s.parts.catalogue = grind (arith, (get_or_from_slice_get s.parts.seats k seat seat seated), All-get_or) in
    let (beh, placed, known) = placed_behaviour s.parts.environment s.parts.catalogue seat.behaviour behaviours inside in
    let names = states_named s.parts k beh (record { seat = seat; seated = seated; placed = placed }) in
    let less : b < length (seat_names (names_in s.parts) k).states = slice_get_within (seat_names (names_in s.parts) k).states b state h in
    let count : length (seat_names (names_in s.parts) k).states ≡ (beh_at s.parts.catalogue seat.behaviour).states = grind (arith, (beh_read s.parts.catalogue seat.behaviour beh placed)) in
    let fits : b < (beh_at s.parts.catalogue seat.behaviour).states = omega (arith, less, count) in
    subst (λ (o : Option Seat). IfSome o (λ seat. b < seat.beh.states)) (sym (seat_read s.parts k seat seated)) fits

-- a named behaviour is in the catalogue
pub behaviour_within : (s : Situation) (i : ℕ) (behaviour : List ℕ) → slice_get (map beh_name s.parts.catalogue) i ≡ Some behaviour → i < length s.parts.catalogue
behaviour_within s i behaviour at = omega (arith, slice_get_within (map beh_name s.parts.catalogue) i behaviour at, length-map s.parts.catalogue beh_name)

-- a named state of a behaviour is in range
pub new_state_within : (s : Situation) (i b : ℕ) (state : List ℕ) → AreBehaviours s.parts → i < length s.parts.catalogue → slice_get (states_of_behaviour s.parts.catalogue i) b ≡ Some state →
    b < (beh_at s.parts.catalogue i).states
new_state_within s i b state behaviours l at = omega (arith, slice_get_within (states_of_behaviour s.parts.catalogue i) b state at, states_counted s i behaviours l)
