-- Short names for contracts: the pairs, actions and seats of a joint.
use Rattle.std.specs.Prelude.{ℕ, Option, IsTrue, slice_get, slice_index}
use Rattle.roman_model.specs.Arena.{Arena}
use Rattle.roman_model.specs.System.{Pair, Seat}
use Rattle.roman_model.specs.Numbers.{sizes_of, count, pair_at, numbered}
use Rattle.roman_joint.specs.NamedSys.{NamedSys, system_of}

-- the number of pairs
abbrev pub joint_pairs : NamedSys → ℕ
joint_pairs joint = count (sizes_of (system_of joint))

-- the pair with the number p
abbrev pub joint_pair : NamedSys → ℕ → Pair
joint_pair joint p = pair_at (sizes_of (system_of joint)) p

-- the number of actions
abbrev pub joint_actions : NamedSys → ℕ
joint_actions joint = (system_of joint).env.actions

-- the seat at place k, if there is one
abbrev pub joint_seat : NamedSys → ℕ → Option Seat
joint_seat joint k = slice_get (system_of joint).seats k

-- the number of states of seat k
abbrev pub seat_states : NamedSys → ℕ → ℕ
seat_states joint k = slice_index (sizes_of (system_of joint)).seats k

-- the arena over the numbers of the pairs
abbrev pub arena_of : NamedSys → Arena ℕ
arena_of joint = numbered (system_of joint)

-- the action is allowed at the pair with the number p
abbrev pub IsAllowed : NamedSys → ℕ → ℕ → Type 0
IsAllowed joint p a = IsTrue ((arena_of joint).allows p a)
