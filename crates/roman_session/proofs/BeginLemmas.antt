-- A session begins in the starting states of its library.
use Rattle.roman_session.proofs.Common.{◌≡◌, ℕ, ◌≤◌, length, sym, subst, arith, Pair, IsPair, MAX_BEHAVIOURS, NamedSys, system_of, IsNamedSys, Relation, situation_in, IsSession, Idle, Inside, IsRelation, PlainLibrary, start_pair_of, IsSeated, Seated, IsStart}

-- the fields hold a starting situation
pub record HasBegun (library : PlainLibrary) (a : Inside) : Type 0 where
  pub session : IsSession a
  pub start : IsStart library (situation_in a)

-- the starting states are those of the library
begins_at : (library : PlainLibrary) (x : Seated) (t e : ℕ) → IsSeated library x → t ≡ x.joint.target.beh.start → e ≡ x.joint.environment.env.start →
    ◌≡◌ {A = Pair} (record { t = t; e = e; bs = x.states.items }) (start_pair_of library)
begins_at library x t e seated is_t is_e = grind arith

-- the starting states are a pair of the system
abbrev pub first_pair : Seated → ℕ → ℕ → Pair
first_pair x t e = record { t = t; e = e; bs = x.states.items }

pub begins_in : (library : PlainLibrary) (x : Seated) (t e : ℕ) → IsSeated library x → t ≡ x.joint.target.beh.start → e ≡ x.joint.environment.env.start → IsPair (system_of x.joint) (first_pair x t e)
begins_in library x t e seated is_t is_e =
    subst (λ (p : Pair). IsPair (system_of x.joint) p) (sym (begins_at library x t e seated is_t is_e)) (subst (λ (n : NamedSys). IsPair (system_of n) (start_pair_of library)) (sym seated.parts) seated.pair)

-- the fields at the start
abbrev pub first_fields : Seated → Relation → ℕ → ℕ → Inside
first_fields x relation t e = record { relation = relation; target = t; env = e; states = x.states; number = x.start; phase = Idle; mask = 0 }

pub begun : (library : PlainLibrary) (x : Seated) (relation : Relation) (t e : ℕ) → IsSeated library x → length library.catalogue ≤ MAX_BEHAVIOURS → IsNamedSys x.joint → relation.joint ≡ x.joint → IsRelation relation.joint relation.order →
    t ≡ x.joint.target.beh.start → e ≡ x.joint.environment.env.start → HasBegun library (first_fields x relation t e)
begun library x relation t e seated few known joint ok is_t is_e = grind (arith, begins_at, begins_in)
