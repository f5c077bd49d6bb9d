-- Moves of a system by one served request.
use Rattle.std.specs.Prelude.{◌≡◌, ℕ, ◌<◌, List, Option, IsTrue, IfSome, IfNone, slice_index, slice_set}
use Rattle.roman_model.specs.System.{Sys, Pair, IsPair, TStep, SStep, has}
use Rattle.roman_model.specs.SystemArena.{is_allowed}
use Rattle.roman_model.specs.Offers.{is_related, offers}
use Rattle.roman_model.specs.Numbers.{sizes_of, count, pair_at}
use Rattle.roman_rules.specs.Bits.{HasBits}
use Rattle.roman_joint.specs.NamedSys.{NamedSys, system_of}
use Rattle.roman_joint.specs.Pairs.{joint_pair}
use Rattle.roman_generator.specs.declared.observation.Observation.{Observation}

-- a system step by action a, delegated to seat k, leads from p to the seat's state b and the environment's e
abbrev pub CanMove : Sys → Pair → ℕ → ℕ → ℕ → ℕ → Type 0
CanMove s p a k b e = SStep s p.bs p.e a k (slice_set p.bs k b) e

-- a system step leads from p to the observed states
abbrev pub MayBeObserved : Sys → Pair → Observation → Type 0
MayBeObserved s p x = CanMove s p x.action x.seat x.state x.env

-- the action is allowed at the pair with number p
abbrev pub IsAllowedAt : NamedSys → ℕ → ℕ → Type 0
IsAllowedAt joint p a = IsTrue (is_allowed (system_of joint) (joint_pair joint p) a)

-- the pair with number p is related
abbrev pub IsRelatedAt : NamedSys → ℕ → Type 0
IsRelatedAt joint p = IsTrue (is_related (system_of joint) (joint_pair joint p))

-- the bits are those of the seats that can be offered for action a at the pair with number p
abbrev pub AreOffers : NamedSys → ℕ → ℕ → ℕ → Type 0
AreOffers joint p a bits = HasBits bits (has (offers (system_of joint) (joint_pair joint p) a))

-- a system step by action a, delegated to seat k, to the seat's state b and the environment's e, with a target step, leads from p to the pair with number q
pub record Becomes (s : Sys) (p : Pair) (a k b e q : ℕ) : Type 0 where
  pub to : ℕ
  pub target : TStep s p.t p.e a to e
  pub system : CanMove s p a k b e
  pub below : q < count (sizes_of s)
  pub pair : pair_at (sizes_of s) q ≡ record { t = to; e = e; bs = slice_set p.bs k b }

-- a system step leads from p to the observed states, and the target goes to this state then
abbrev pub GoesTo : Sys → Pair → Observation → ℕ → Type 0
GoesTo s p x to = TStep s p.t p.e x.action to x.env × MayBeObserved s p x

-- the pair with these states
abbrev pub pair_with : ℕ → ℕ → List ℕ → Pair
pair_with t e states = record { t = t; e = e; bs = states }

-- a system step of action a, delegated to seat k, leads from the pair with number p to the seat's state b and the environment's e
abbrev pub CanMoveAt : NamedSys → ℕ → ℕ → ℕ → ℕ → ℕ → Type 0
CanMoveAt joint p a k b e = CanMove (system_of joint) (joint_pair joint p) a k b e

-- that step, with a target step, leads to the pair with number q
abbrev pub MovesAt : NamedSys → ℕ → ℕ → ℕ → ℕ → ℕ → ℕ → Type 0
MovesAt joint p a k b e q = Becomes (system_of joint) (joint_pair joint p) a k b e q

-- the pair has these states of the target, the environment and the seat, and the action is allowed there
pub record IsBefore (s : Sys) (t e b : ℕ) (x : Observation) (p : Pair) : Type 0 where
  pub pair : IsPair s p
  pub target : p.t ≡ t
  pub env : p.e ≡ e
  pub state : slice_index p.bs x.seat ≡ b
  pub allowed : IsTrue (is_allowed s p x.action)

-- the target's state after the observation, from each pair with these states; none if no step of the system leads to the observed states
pub record FindsTarget (s : Sys) (t e b : ℕ) (x : Observation) (found : Option ℕ) : Type 0 where
  pub moves : (p : Pair) → IsBefore s t e b x p → IfSome found (GoesTo s p x)
  pub none : (p : Pair) → IsBefore s t e b x p → IfNone found (MayBeObserved s p x → ⊥)
