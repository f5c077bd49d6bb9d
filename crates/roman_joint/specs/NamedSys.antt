-- A system with its names, and what holds of every joint.
use Rattle.std.specs.Prelude.{◌≡◌, ℕ, zero, suc, ◌<◌, ◌≤◌, ◌*◌, List, [], ◌∷◌, map, length, All}
use Rattle.roman_model.specs.Lists.{HasNoRepeats}
use Rattle.roman_model.specs.System.{Beh, Sys, IsSys}
use Rattle.roman_model.specs.System as model
use Rattle.roman_model.specs.Numbers.{sizes_of, count}
use Rattle.roman_model.specs.declared.limits.TheConstants.{MAX_CELLS}
use Rattle.roman_parts.specs.Named.{NamedEnv, NamedBeh, NamedTarget}
use Rattle.roman_joint.specs.declared.seat.Seat.{Seat}

-- an environment, the behaviours that services can have, a target, the services, and the limit on cells
pub record NamedSys : Type 0 where
  pub environment : NamedEnv
  pub catalogue : List NamedBeh
  pub target : NamedTarget
  pub seats : List Seat
  pub limit : ℕ

-- an environment, a catalogue, a target, services and a limit as a system with its names
abbrev pub named_parts : NamedEnv → List NamedBeh → NamedTarget → List Seat → ℕ → NamedSys
named_parts environment catalogue target seats limit = record { environment = environment; catalogue = catalogue; target = target; seats = seats; limit = limit }

-- a behaviour of one state, with no final state and no steps
abbrev pub still : Beh
still = record { states = 1; start = 0; finals = []; steps = [] }

-- the behaviour at a place of the catalogue
abbrev pub beh_at : List NamedBeh → ℕ → Beh
beh_at [] i = still
beh_at (beh ∷ behs) zero = beh.beh
beh_at (beh ∷ behs) (suc i) = beh_at behs i

-- the seat of a service in a system
abbrev pub seat_of : List NamedBeh → Seat → model.Seat
seat_of catalogue seat = record { beh = beh_at catalogue seat.behaviour; frozen = seat.frozen; rests = seat.rests }

-- the system without its names
abbrev pub system_of : NamedSys → Sys
system_of n = record { env = n.environment.env; target = n.target.beh; seats = map (seat_of n.catalogue) n.seats }

-- the number of cells of the system: pairs times actions
abbrev pub cells : Sys → ℕ
cells s = count (sizes_of s) * s.env.actions

-- the behaviour was made over the environment
abbrev pub IsOverEnv : NamedEnv → NamedBeh → Type 0
IsOverEnv environment beh = (beh.env_states ≡ environment.env.states) × (beh.actions ≡ environment.env.actions)

-- the target was made over the environment
abbrev pub TargetIsOverEnv : NamedEnv → NamedTarget → Type 0
TargetIsOverEnv environment target = (target.env_states ≡ environment.env.states) × (target.actions ≡ environment.env.actions)

-- the parts are made over one environment and are those of a system within the limit, the limit is in range, and no two services have the same name
pub record IsNamedSys (n : NamedSys) : Type 0 where
  pub system : IsSys (system_of n)
  pub fits : cells (system_of n) ≤ n.limit
  pub limit : (0 < n.limit) × (n.limit ≤ MAX_CELLS)
  pub behaviours : All (λ seat. seat.behaviour < length n.catalogue) n.seats
  pub names : HasNoRepeats (map (λ seat. seat.name) n.seats)
  pub catalogue : All (IsOverEnv n.environment) n.catalogue
  pub target : TargetIsOverEnv n.environment n.target
