-- The behaviours of services.
use Rattle.std.specs.Prelude.{◌≡◌, ℕ, ◌<◌, All, List, Some, map, length, slice_get, slice_index}
use Rattle.roman_model.specs.System.{Env, IsBeh}
use Rattle.roman_parts.specs.Named.{NamedBeh}
use Rattle.roman_model.specs.Numbers.{sizes_of}
use Rattle.roman_joint.specs.NamedSys.{NamedSys, system_of, seat_of, beh_at}
use Rattle.roman_joint.specs.declared.seat.Seat.{Seat}

-- each service's behaviour is at a place of the catalogue
abbrev pub ArePlaced : List NamedBeh → List Seat → Type 0
ArePlaced catalogue seats = All (λ seat. seat.behaviour < length catalogue) seats

-- each service's behaviour is one over the environment
abbrev pub HaveBehaviours : Env → List NamedBeh → List Seat → Type 0
HaveBehaviours env catalogue seats = All (λ seat. IsBeh env (beh_at catalogue seat.behaviour)) seats

-- the number of states of each service
abbrev pub seat_sizes : List NamedBeh → List Seat → List ℕ
seat_sizes catalogue seats = map (λ seat. (beh_at catalogue seat.behaviour).states) seats

-- the behaviour is that of the service at place k
pub record IsSeatBehaviour (n : NamedSys) (k : ℕ) (beh : NamedBeh) : Type 0 where
  pub seat : Seat
  pub seated : slice_get n.seats k ≡ Some seat
  pub placed : slice_get n.catalogue seat.behaviour ≡ Some beh

-- the service at place k has this seat and this behaviour
pub record IsServiceAt (n : NamedSys) (k : ℕ) (x : Seat) (y : NamedBeh) : Type 0 where
  pub beh : y.beh ≡ beh_at n.catalogue x.behaviour
  pub seated : slice_get (system_of n).seats k ≡ Some (seat_of n.catalogue x)
  pub size : slice_index (sizes_of (system_of n)).seats k ≡ y.beh.states
  pub env_states : y.env_states ≡ (system_of n).env.states
  pub actions : y.actions ≡ (system_of n).env.actions
