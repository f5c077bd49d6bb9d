-- The normal form of a record: its triples, steps, final states and guards rise without repeats, and no guard is empty.
use Rattle.std.specs.Prelude.{ℕ}
use Rattle.roman_model.specs.System.{Env, Beh, has_triple, has_move, is_final}
use Rattle.roman_model.specs.Made.{env_from, beh_from}

-- the environment with the same triples, in normal form
abbrev pub normal_env : Env → Env
normal_env env = env_from env.states env.actions env.start (has_triple env)

-- the behaviour with the same steps, in normal form, for this number of environment states and actions
abbrev pub normal_beh : ℕ → ℕ → Beh → Beh
normal_beh env_states actions beh = beh_from env_states actions beh.states beh.start (is_final beh) (has_move beh)
