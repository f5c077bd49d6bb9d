-- Records built from tests of their triples, steps and final states: they are in normal form by construction.
use Rattle.std.specs.Prelude.{ℕ, Bool, List, [], ◌∷◌, map}
use Rattle.std.specs.List.{filter, flat_map}
use Rattle.roman_model.specs.Lists.{below}
use Rattle.roman_model.specs.System.{Env, Beh, Move}

-- the environment with exactly the triples (e, a, e') that pass the test, rising
abbrev pub env_from : ℕ → ℕ → ℕ → (ℕ → ℕ → ℕ → Bool) → Env
env_from states actions start goes = record {
  states = states;
  actions = actions;
  start = start;
  triples =
      flat_map (λ e. flat_map (λ a. map (λ e'. record { from = e; action = a; to = e' }) (filter (goes e a) (below states))) (below actions))
      (below states);
}

-- the step with the guard, or no step if the guard is empty
abbrev pub guarded_step : ℕ → ℕ → ℕ → List ℕ → List Move
guarded_step b a b' [] = []
guarded_step b a b' (e ∷ es) = record { from = b; guard = e ∷ es; action = a; to = b' } ∷ []

-- the behaviour with exactly the final states and the steps (b, e, a, b') that pass the tests, rising
abbrev pub beh_from : ℕ → ℕ → ℕ → ℕ → (ℕ → Bool) → (ℕ → ℕ → ℕ → ℕ → Bool) → Beh
beh_from env_states actions states start final goes = record {
  states = states;
  start = start;
  finals = filter final (below states);
  steps =
      flat_map (λ b. flat_map (λ a. flat_map (λ b'. guarded_step b a b' (filter (λ e. goes b e a b') (below env_states))) (below states)) (below actions))
      (below states);
}
