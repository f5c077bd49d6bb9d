-- ND-simulations, and the greatest one.
use Rattle.std.specs.Prelude.{◌≡◌, ℕ, List, IsTrue}
use Rattle.roman_model.specs.Lists.{IsIn}
use Rattle.roman_model.specs.System.{Sys, Pair, TStep, Allows, SStep, is_final, all_final}

-- a target part (t, e) and a system part (bs, e2)
pub record Couple : Type 0 where
  pub t : ℕ
  pub e : ℕ
  pub bs : List ℕ
  pub e2 : ℕ

-- the couple of a pair
abbrev pub couple : Pair → Couple
couple p = record { t = p.t; e = p.e; bs = p.bs; e2 = p.e }

-- seat k serves a at the couple: for each target step some system step of k ends in its environment state,
-- and each such system step leads, with the target step, into the relation
abbrev pub Serves : Sys → (Couple → Type 0) → Couple → ℕ → ℕ → Type 0
Serves s Related c a k =
    (t' e' : ℕ) → TStep s c.t c.e a t' e' →
    ((bs' : List ℕ) × SStep s c.bs c.e2 a k bs' e')
    × ((bs' : List ℕ) → SStep s c.bs c.e2 a k bs' e' → Related (record { t = t'; e = e'; bs = bs'; e2 = e' }))

-- the three clauses of an ND-simulation, at one couple
pub record Meets (s : Sys) (Related : Couple → Type 0) (c : Couple) : Type 0 where
  pub shared : c.e ≡ c.e2
  pub final : IsTrue (is_final s.target c.t) → IsTrue (all_final s.seats c.bs)
  pub served : (a : ℕ) → Allows s c.t c.e a → (k : ℕ) × Serves s Related c a k

-- each couple of the relation meets the three clauses
abbrev pub IsNdSim : Sys → List Couple → Type 0
IsNdSim s R = (c : Couple) → IsIn c R → Meets s (λ d. IsIn d R) c

-- some ND-simulation holds the couple
abbrev pub GreatCouple : Sys → Couple → Type 0
GreatCouple s c = (R : List Couple) × IsNdSim s R × IsIn c R

-- the pair is related: the greatest ND-simulation holds it
abbrev pub Great : Sys → Pair → Type 0
Great s p = GreatCouple s (couple p)
