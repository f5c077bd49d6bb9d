-- States that differ at most in the starting states of the environment and the target of their parts.
use Rattle.std.specs.Prelude.{◌≡◌, ℕ}
use Rattle.roman_joint.specs.NamedSys.{NamedSys}
use Rattle.roman_session.specs.States.{State}

-- the parts, with other starting states of the environment and the target
abbrev pub starting_at : ℕ → ℕ → NamedSys → NamedSys
starting_at e t parts = record {
  environment = record parts.environment { env = record parts.environment.env { start = e } };
  catalogue = parts.catalogue;
  target = record parts.target { beh = record parts.target.beh { start = t } };
  seats = parts.seats;
  limit = parts.limit;
}

-- the state, with other starting states of its parts
abbrev pub state_at : ℕ → ℕ → State → State
state_at e t s = record { parts = starting_at e t s.parts; here = s.here; phase = s.phase }

-- the states are equal, except for the starting states of their parts
abbrev pub DifferInStarts : State → State → Type 0
DifferInStarts one other = state_at 0 0 one ≡ state_at 0 0 other
