-- The terms from which the values for one more request are computed.
use Rattle.std.specs.Prelude.{ℕ, ◌+◌, List, [], ◌∷◌, ◌++◌, map, Option, None, Some, unwrap_or, max, min, nat_le, if◌then◌else◌, slice_index}
use Rattle.std.specs.List.{flat_map}
use Rattle.roman_model.specs.Numbers.{sizes_of, pair_at, numbered}
use Rattle.roman_model.specs.Offers.{offers}
use Rattle.roman_model.specs.Plans.{Costs, allowed_actions}
use Rattle.roman_model.specs.System.{Sys}
use Rattle.roman_cost.specs.declared.terms.Term.{Term}
use Rattle.roman_cost.specs.declared.terms.Term.TheVariants as term
use Rattle.roman_cost.specs.declared.terms.Standing.{Standing}

-- the state before the first term of a pair
abbrev pub nothing_yet : Standing
nothing_yet = record { worst = 0; cheapest = None; dearest = 0 }

-- the lesser of the best cost so far, if there is one, and another
abbrev pub cheaper_of : Option ℕ → ℕ → ℕ
cheaper_of None cost = cost
cheaper_of (Some best) cost = if nat_le best cost then best else cost

-- the state after one more term
abbrev pub standing_after : List ℕ → Term → Standing → Standing
standing_after later (term.Outcome rank) s = record { worst = s.worst; cheapest = s.cheapest; dearest = max s.dearest (slice_index later rank) }
standing_after later (term.Service cost) s = record { worst = s.worst; cheapest = Some (cheaper_of s.cheapest (min (cost + s.dearest) 4294967295)); dearest = 0 }
standing_after later term.Action s = record { worst = max s.worst (unwrap_or s.cheapest 0); cheapest = None; dearest = 0 }
standing_after later term.Pair s = nothing_yet

-- the value of the pair that a term ends, if it ends one
abbrev pub ended : Term → Standing → List ℕ
ended (term.Outcome rank) s = []
ended (term.Service cost) s = []
ended term.Action s = []
ended term.Pair s = s.worst ∷ []

-- the values that the terms give, by those for one request fewer
abbrev pub worked_out : List ℕ → List Term → Standing → List ℕ
worked_out later [] s = []
worked_out later (t ∷ terms) s = ended t s ++ worked_out later terms (standing_after later t s)

-- the terms of outcomes, of a delegation, of an action at a pair, and of a pair
abbrev pub outcome_terms : List ℕ → List ℕ → List Term
outcome_terms ranks qs = map (λ q. term.Outcome (slice_index ranks q)) qs

abbrev pub service_terms : Sys → Costs → List ℕ → ℕ → ℕ → ℕ → List Term
service_terms s C ranks p a k = outcome_terms ranks ((numbered s).outcomes p a k) ++ term.Service (C k a) ∷ []

abbrev pub action_terms : Sys → Costs → List ℕ → ℕ → ℕ → List Term
action_terms s C ranks p a = flat_map (service_terms s C ranks p a) (offers s (pair_at (sizes_of s) p) a) ++ term.Action ∷ []

abbrev pub pair_terms : Sys → Costs → List ℕ → ℕ → List Term
pair_terms s C ranks p = flat_map (action_terms s C ranks p) (allowed_actions s (pair_at (sizes_of s) p)) ++ term.Pair ∷ []
