-- Environments, behaviours, systems and pairs, and their steps: the Roman model of behaviour composition,
-- after De Giacomo, Patrizi and Sardina, "Automatic Behavior Composition Synthesis" (2013).
use Rattle.std.specs.Prelude.{◌≡◌, ℕ, ◌<◌, ◌≤◌, ◌==◌, Bool, true, false, not, ◌&&◌, ◌||◌, List, [], ◌∷◌, length, Some, IsTrue, IsFalse, slice_get, slice_index, slice_set}
use Rattle.std.specs.List.{list_any, AllZip}
use Rattle.roman_model.specs.Lists.{IsIn}
use Rattle.roman_model.specs.declared.limits.TheConstants.{MAX_STATES, MAX_ACTIONS, MAX_SERVICES}

-- a transition of an environment: from a state, by an action, to a state
pub record Triple : Type 0 where
  pub from : ℕ
  pub action : ℕ
  pub to : ℕ

-- an environment, its states and actions as numbers
pub record Env : Type 0 where
  pub states : ℕ
  pub actions : ℕ
  pub start : ℕ
  pub triples : List Triple

-- a step of a behaviour: from a state, by an action, to a state, while the environment is in a state of the guard
pub record Move : Type 0 where
  pub from : ℕ
  pub guard : List ℕ
  pub action : ℕ
  pub to : ℕ

-- a behaviour, or a target
pub record Beh : Type 0 where
  pub states : ℕ
  pub start : ℕ
  pub finals : List ℕ
  pub steps : List Move

-- a service's place in a system: it is ready or frozen, and rests or is loose
pub record Seat : Type 0 where
  pub beh : Beh
  pub frozen : Bool
  pub rests : Bool

-- an environment, a target, and the seats that serve it
pub record Sys : Type 0 where
  pub env : Env
  pub target : Beh
  pub seats : List Seat

-- the target's state, the environment's, and one for each seat
pub record Pair : Type 0 where
  pub t : ℕ
  pub e : ℕ
  pub bs : List ℕ

-- the list has this number
abbrev pub has : List ℕ → ℕ → Bool
has ns n = list_any (λ m. m == n) ns

-- the triple (e, a, e') is in the environment
abbrev pub has_triple : Env → ℕ → ℕ → ℕ → Bool
has_triple env e a e' = list_any (λ x. x.from == e && x.action == a && x.to == e') env.triples

-- the behaviour has a step (b, G, a, b') with e in G
abbrev pub has_move : Beh → ℕ → ℕ → ℕ → ℕ → Bool
has_move beh b e a b' = list_any (λ m. m.from == b && m.action == a && has m.guard e && m.to == b') beh.steps

-- the numbers of an environment are in range
pub record IsEnv (env : Env) : Type 0 where
  pub states : (0 < env.states) × (env.states ≤ MAX_STATES)
  pub actions : (0 < env.actions) × (env.actions ≤ MAX_ACTIONS)
  pub start : env.start < env.states
  pub triples : (x : Triple) → IsIn x env.triples → (x.from < env.states) × (x.action < env.actions) × (x.to < env.states)

-- the numbers of a behaviour over that environment are in range
pub record IsBeh (env : Env) (beh : Beh) : Type 0 where
  pub states : (0 < beh.states) × (beh.states ≤ MAX_STATES)
  pub start : beh.start < beh.states
  pub finals : (b : ℕ) → IsIn b beh.finals → b < beh.states
  pub steps : (m : Move) → IsIn m beh.steps → (m.from < beh.states) × (m.action < env.actions) × (m.to < beh.states)
  pub guards : (m : Move) → IsIn m beh.steps → (e : ℕ) → IsIn e m.guard → e < env.states

-- in each state of the environment, each state has at most one successor by each action
abbrev pub IsDeterministic : Beh → Type 0
IsDeterministic beh = (b e a b1 b2 : ℕ) → IsTrue (has_move beh b e a b1) → IsTrue (has_move beh b e a b2) → b1 ≡ b2

-- the parts are in range over one environment, the target is deterministic, and the seats are few enough
pub record IsSys (s : Sys) : Type 0 where
  pub env : IsEnv s.env
  pub target : IsBeh s.env s.target
  pub single : IsDeterministic s.target
  pub seats : (x : Seat) → IsIn x s.seats → IsBeh s.env x.beh
  pub few : length s.seats ≤ MAX_SERVICES

-- each state of the pair is in range, and there is one for each seat
pub record IsPair (s : Sys) (p : Pair) : Type 0 where
  pub t : p.t < s.target.states
  pub e : p.e < s.env.states
  pub bs : AllZip (λ seat b. b < seat.beh.states) s.seats p.bs

-- the target part (t, e) goes by a to (t', e')
abbrev pub TStep : Sys → ℕ → ℕ → ℕ → ℕ → ℕ → Type 0
TStep s t e a t' e' = IsTrue (has_triple s.env e a e') × IsTrue (has_move s.target t e a t')

-- the target allows a at (t, e)
abbrev pub Allows : Sys → ℕ → ℕ → ℕ → Type 0
Allows s t e a = (t' : ℕ) × (e' : ℕ) × TStep s t e a t' e'

-- the system part (bs, e) goes by a, delegated to seat k, to (bs', e')
pub record SStep (s : Sys) (bs : List ℕ) (e a k : ℕ) (bs' : List ℕ) (e' : ℕ) : Type 0 where
  pub seat : Seat
  pub seated : slice_get s.seats k ≡ Some seat
  pub ready : IsFalse seat.frozen
  pub world : IsTrue (has_triple s.env e a e')
  pub to : ℕ
  pub moves : IsTrue (has_move seat.beh (slice_index bs k) e a to)
  pub is : bs' ≡ slice_set bs k to

-- b is a final state
abbrev pub is_final : Beh → ℕ → Bool
is_final beh b = has beh.finals b

-- each seat that rests is in a final state
abbrev pub all_final : List Seat → List ℕ → Bool
all_final [] bs = true
all_final (seat ∷ seats) [] = false
all_final (seat ∷ seats) (b ∷ bs) = (not seat.rests || is_final seat.beh b) && all_final seats bs
