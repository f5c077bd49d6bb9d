-- Several targets over one environment, served by the same seats, and their ND-simulations.
use Rattle.std.specs.Prelude.{◌≡◌, ℕ, Bool, true, false, ◌&&◌, List, [], ◌∷◌, Some, IsTrue, slice_get, slice_index, slice_set}
use Rattle.roman_model.specs.Lists.{IsIn}
use Rattle.roman_model.specs.System.{Env, Beh, Seat, Sys, TStep, SStep, Allows, is_final, all_final}

-- an environment, the targets, and the seats that serve all targets
pub record Several : Type 0 where
  pub env : Env
  pub targets : List Beh
  pub seats : List Seat

-- the system with this target alone
abbrev pub of_one : Several → Beh → Sys
of_one w target = record { env = w.env; target = target; seats = w.seats }

-- the targets' states (t1 .. tm) with an environment state e, and a system part (bs, e2)
pub record CoupleAll : Type 0 where
  pub ts : List ℕ
  pub e : ℕ
  pub bs : List ℕ
  pub e2 : ℕ

-- every target is in a final state
abbrev pub are_final : List Beh → List ℕ → Bool
are_final [] ts = true
are_final (target ∷ targets) [] = false
are_final (target ∷ targets) (t ∷ ts) = is_final target t && are_final targets ts

-- seat k serves a for the target at place i: for each step of that target some system step of k ends in the same environment state, and
-- each such system step leads into the relation, and no other target moves
abbrev pub ServesAll : Several → (CoupleAll → Type 0) → CoupleAll → ℕ → Beh → ℕ → ℕ → Type 0
ServesAll w Related c i target a k =
    (t' e' : ℕ) → TStep (of_one w target) (slice_index c.ts i) c.e a t' e' →
    ((bs' : List ℕ) × SStep (of_one w target) c.bs c.e2 a k bs' e')
    × ((bs' : List ℕ) → SStep (of_one w target) c.bs c.e2 a k bs' e' → Related (record { ts = slice_set c.ts i t'; e = e'; bs = bs'; e2 = e' }))

-- the three clauses at one couple: a shared environment state, finality, and a seat for each request of each target
pub record MeetsAll (w : Several) (Related : CoupleAll → Type 0) (c : CoupleAll) : Type 0 where
  pub shared : c.e ≡ c.e2
  pub final : IsTrue (are_final w.targets c.ts) → IsTrue (all_final w.seats c.bs)
  pub served : (i : ℕ) (target : Beh) → slice_get w.targets i ≡ Some target → (a : ℕ) → Allows (of_one w target) (slice_index c.ts i) c.e a →
      (k : ℕ) × ServesAll w Related c i target a k

-- each couple of the relation meets the three clauses
abbrev pub IsNdSimAll : Several → List CoupleAll → Type 0
IsNdSimAll w R = (c : CoupleAll) → IsIn c R → MeetsAll w (λ d. IsIn d R) c

-- some ND-simulation of all the targets holds the couple
abbrev pub GreatAll : Several → CoupleAll → Type 0
GreatAll w c = (R : List CoupleAll) × IsNdSimAll w R × IsIn c R
