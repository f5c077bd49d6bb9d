-- Moves of services within the lanes.
use Rattle.std.specs.Prelude.{◌≡◌, ℕ, ◌+◌, ◌-◌, ◌*◌, ◌/◌, ◌%◌, ◌^◌, ◌<◌, ◌≤◌, ◌==◌, ◌&&◌, Bool, true, false, not, List, [], ◌∷◌, Some, map, length, slice_get, slice_index, slice_index_or, slice_range, ◌++◌, vec_capacity}
use Rattle.std.specs.List.{list_any, filter}
use Rattle.roman_model.specs.Lists.{IsIn, is_empty, below}
use Rattle.roman_model.specs.System.{Env, Sys, Beh, Seat}
use Rattle.roman_model.specs.SystemArena.{beh_next}
use Rattle.roman_model.specs.Numbers.{Sizes, sizes_of}
use Rattle.roman_radix.specs.Radix.{stride_of}
use Rattle.roman_radix.specs.Rows.{low_of, lanes_of}
use Rattle.roman_lanes.specs.Rows.{is_on}
use Rattle.roman_parts.specs.Named.{NamedBeh}
use Rattle.roman_joint.specs.NamedSys.{system_of, IsNamedSys}
use Rattle.roman_joint.specs.Parts.{named_in}
use Rattle.roman_joint.specs.Rows.{low_in, lane_state_of, IsLayoutOf}
use Rattle.roman_joint.specs.declared.layout.Layout.{Layout}
use Rattle.roman_joint.specs.declared.moves.Move.{Move}
use Rattle.roman_joint.specs.declared.moves.Span.{Span}
use Rattle.roman_joint.specs.declared.moves.Moves.{Moves}
use Rattle.roman_joint.specs.declared.seat.Parts.{Parts}
use Rattle.roman_joint.specs.declared.shifts.Shifts.{Shifts}

-- each move is by fewer than 64 lanes
abbrev pub AreSmall : List Move → Type 0
AreSmall moves = (move : Move) → IsIn move moves → (move.from < 64) × (move.to < 64)

-- the moves from the lane lead to lanes of the word
abbrev pub StaysWithin : List Move → ℕ → Type 0
StaysWithin moves lane = (move : Move) → IsIn move moves → is_on move.lanes lane ≡ true → (move.from ≤ lane) × (lane + move.to - move.from < 64)

-- a move leads from the lane to one that isn't alive
abbrev pub leads_away : List Move → ℕ → ℕ → Bool
leads_away moves alive lane = list_any (λ move. is_on move.lanes lane && not (is_on alive (lane + move.to - move.from))) moves

-- these are the moves of seat k, from each lane to those of the next states of its state there; `some` are the lanes with a next state
pub record AreLaneMoves (n : Sizes) (k : ℕ) (next : ℕ → List ℕ) (some : ℕ) (moves : List Move) : Type 0 where
  pub each : (lane : ℕ) → lane < lanes_of n.seats → is_on some lane ≡ not (is_empty (next (lane_state_of n k lane)))
  pub rest : (lane : ℕ) → lanes_of n.seats ≤ lane → is_on some lane ≡ false
  pub small : (move : Move) → IsIn move moves → (move.from < 64) × (move.to < 64)
  pub within : (move : Move) (lane : ℕ) → IsIn move moves → lane < lanes_of n.seats → is_on move.lanes lane ≡ true → (move.from ≤ lane) × (lane + move.to - move.from < lanes_of n.seats)
  pub leads : (test : ℕ → Bool) (lane : ℕ) → lane < lanes_of n.seats → list_any (λ move. is_on move.lanes lane && test (lane + move.to - move.from)) moves
      ≡ list_any (λ b. test (lane + b * stride_of n k - lane_state_of n k lane * stride_of n k)) (next (lane_state_of n k lane))

-- these are the moves of seat k with the behaviour on action a in environment state e
abbrev pub AreMovesOf : Sizes → ℕ → Beh → ℕ → ℕ → ℕ → List Move → Type 0
AreMovesOf n k beh e a some moves = AreLaneMoves n k (λ b. beh_next beh b e a) some moves

-- there are words of alive lanes for `many` rows, and the moves stay below 64 lanes
pub record SuitsMoving (alive : List ℕ) (moves : List Move) (many : ℕ) : Type 0 where
  pub long : many ≤ length alive
  pub small : AreSmall moves

-- the word has those lanes of `good` from which all moves lead to alive lanes
pub record HasAliveMoves (good : ℕ) (moves : List Move) (alive word : ℕ) : Type 0 where
  pub each : (lane : ℕ) → lane < 64 → StaysWithin moves lane → is_on word lane ≡ (is_on good lane && not (leads_away moves alive lane))
  pub none : (lane : ℕ) → is_on good lane ≡ false → is_on word lane ≡ false

-- the new word is the old one without those lanes of `some` from which all moves lead to alive lanes
pub record LosesMoving (some : ℕ) (moves : List Move) (alive old new : ℕ) : Type 0 where
  pub each : (lane : ℕ) → lane < 64 → StaysWithin moves lane → is_on new lane ≡ (is_on old lane && not (is_on some lane && not (leads_away moves alive lane)))
  pub none : (lane : ℕ) → is_on old lane ≡ false → is_on new lane ≡ false

-- the rows are those of the sizes, seat k is within the lanes and has the behaviour, and e and a are a state of its environment and an action
pub record SuitsShifts (n : Sizes) (rows : Layout) (k : ℕ) (behaviour : NamedBeh) (e a : ℕ) : Type 0 where
  pub laid : IsLayoutOf n rows
  pub within : low_of n.seats ≤ k
  pub seat : k < length n.seats
  pub states : behaviour.beh.states ≡ slice_index n.seats k
  pub few : behaviour.beh.states ≤ 64
  pub env : e < behaviour.env_states
  pub action : a < behaviour.actions

-- the lanes of each shift are those of seat k with the behaviour on action a in environment state e; shift j leads j + 1 - n states up, of n states
pub record AreShifts (n : Sizes) (k : ℕ) (beh : Beh) (e a : ℕ) (shifts : Shifts) : Type 0 where
  pub each : (lane : ℕ) → lane < lanes_of n.seats → is_on shifts.some lane ≡ not (is_empty (beh_next beh (lane_state_of n k lane) e a))
  pub rest : (lane : ℕ) → lanes_of n.seats ≤ lane → is_on shifts.some lane ≡ false
  pub goes : (j lane : ℕ) → lane < lanes_of n.seats → is_on (slice_index shifts.lanes j) lane ≡ list_any (λ b. b + slice_index n.seats k == j + 1 + lane_state_of n k lane) (beh_next beh (lane_state_of n k lane) e a)

-- the move of these lanes by shift j
abbrev pub move_by : ℕ → ℕ → ℕ → ℕ → Move
move_by lanes last stride j = record { lanes = lanes; from = (last - j) * stride; to = (j - last) * stride }

-- the move of a shift
abbrev pub lane_move : List ℕ → ℕ → ℕ → ℕ → Move
lane_move lanes last stride j = move_by (slice_index lanes j) last stride j

-- the moves of the first `count` shifts, without the shifts by which no lane moves
abbrev pub lane_moves_from : List ℕ → ℕ → ℕ → ℕ → List Move
lane_moves_from lanes last stride count = map (lane_move lanes last stride) (filter (λ j. not (slice_index lanes j == 0)) (below count))

-- the greatest number of shifts of seats of these sizes
abbrev pub shifts_room : List ℕ → ℕ
shifts_room [] = 0
shifts_room (size ∷ sizes) = 2 * size - 1 + shifts_room sizes

-- the number of seats within the lanes
abbrev pub within_in : Sys → ℕ
within_in s = length s.seats - low_in s

-- the place of a span in a table that is ordered by the environment's state, then by the action and then by the seat
abbrev pub span_place : Sys → ℕ → ℕ → ℕ → ℕ
span_place s e a k = (e * s.env.actions + a) * within_in s + (k - low_in s)

-- the span at place i of a table has the moves of the seat, the action and the environment's state with that place
pub record IsSpan (s : Sys) (i : ℕ) (span : Span) (moves : List Move) : Type 0 where
  pub first : span.first ≤ span.end
  pub last : span.end ≤ length moves
  pub moves_of : (e a k : ℕ) (seat : Seat) → i ≡ span_place s e a k → a < s.env.actions → low_in s ≤ k → slice_get s.seats k ≡ Some seat →
      AreMovesOf (sizes_of s) k seat.beh e a span.some (slice_range moves span.first span.end)

-- each span of the table is right for its place
pub record HoldsSpans (s : Sys) (spans : List Span) (moves : List Move) : Type 0 where
  pub each : (i : ℕ) (span : Span) → i < length spans → span ≡ slice_index_or spans i span → IsSpan s i span moves

-- the table has the moves of all seats within the lanes, in the first `columns` columns, each for a state of the environment and an action
pub record HoldsColumns (s : Sys) (columns : ℕ) (table : Moves) : Type 0 where
  pub long : length table.spans.items ≡ columns * within_in s
  pub few : length table.moves.items ≤ columns * 160
  pub spans_at : HoldsSpans s table.spans.items table.moves.items

-- the table is one for e states of the environment and n actions, and has room for the moves of the greatest number of services
pub record HasRoomFor (e n : ℕ) (table : Moves) : Type 0 where
  pub envs : table.envs ≡ e
  pub actions : table.actions ≡ n
  pub for_spans : vec_capacity table.spans ≡ e * n * 32
  pub for_moves : vec_capacity table.moves ≡ e * n * 160

-- the table is one for systems with this environment
abbrev pub SuitsEnv : Env → Moves → Type 0
SuitsEnv env table = HasRoomFor env.states env.actions table

-- the table is one for the system's environment, and has the moves of all seats within the lanes in the first `many` columns
pub record FillsColumns (s : Sys) (many : ℕ) (table : Moves) : Type 0 where
  pub suits : SuitsEnv s.env table
  pub columns : HoldsColumns s many table

-- the table has the moves of all seats within the lanes
abbrev pub HoldsMoves : Sys → Moves → Type 0
HoldsMoves s table = FillsColumns s (s.env.states * s.env.actions) table

-- the table has the same numbers of states of the environment and of actions as before, and the same room
pub record IsKept (old new : Moves) : Type 0 where
  pub same_envs : new.envs ≡ old.envs
  pub same_actions : new.actions ≡ old.actions
  pub spans_room : vec_capacity new.spans ≡ vec_capacity old.spans
  pub moves_room : vec_capacity new.moves ≡ vec_capacity old.moves

-- the system of the parts
abbrev pub system_in : Parts → Sys
system_in parts = system_of (named_in parts 0)

-- the parts are those of a joint with these sizes
pub record AreSeatsIn (parts : Parts) (sizes : Sizes) : Type 0 where
  pub limit : ℕ
  pub known : IsNamedSys (named_in parts limit)
  pub sizes_are : sizes ≡ sizes_of (system_in parts)

-- there is room for one more span, with so many moves, and places of moves are small
pub record HasPlaces (many : ℕ) (table : Moves) : Type 0 where
  pub few : length table.moves.items + many ≤ vec_capacity table.moves
  pub place : length table.spans.items < vec_capacity table.spans
  pub small : vec_capacity table.moves < 2 ^ 31

-- one more span, with its moves, is added at the end
pub record IsAdded (n : Sizes) (k : ℕ) (beh : Beh) (e a : ℕ) (old new : Moves) : Type 0 where
  pub span : Span
  pub more : List Move
  pub spans : new.spans.items ≡ old.spans.items ++ span ∷ []
  pub moves : new.moves.items ≡ old.moves.items ++ more
  pub few : length more ≤ 2 * slice_index n.seats k - 1
  pub first : span.first ≡ length old.moves.items
  pub end : span.end ≡ length new.moves.items
  pub moves_of : AreMovesOf n k beh e a span.some more
  pub kept : IsKept old new
