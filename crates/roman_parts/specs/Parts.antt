-- The environments, behaviours and targets that values mean, or the first rule that they break.
use Rattle.std.specs.Prelude.{ℕ, List, length, Result, Ok, is_some, codes}
use Rattle.serde_json.specs.Data.{Data}
use Rattle.serde_json.specs.Find.{as_object}
use Rattle.roman_model.specs.Normal.{normal_env, normal_beh}
use Rattle.roman_model.specs.declared.limits.TheConstants.{MAX_STATES, MAX_ACTIONS}
use Rattle.roman_read.specs.Items.{◌>>=◌}
use Rattle.roman_read.specs.Json.{member_of}
use Rattle.roman_read.specs.declared.rules.Kind.TheVariants.{Form}
use Rattle.roman_parts.specs.Choices.{single_of}
use Rattle.roman_parts.specs.Lists.{name_in, names_of, start_of, finals_of}
use Rattle.roman_parts.specs.Named.{NamedEnv, NamedBeh, NamedTarget}
use Rattle.roman_parts.specs.Reading.{looked, check}
use Rattle.roman_parts.specs.Steps.{triples_of, moves_of}
use Rattle.roman_parts.specs.declared.error.List.TheVariants.{Whole, Name, States, Actions}
use Rattle.roman_parts.specs.declared.error.PartError.{PartError}

-- the environment that a value means: its names, and its record in normal form
unfoldable pub environment_of : Data → Result NamedEnv PartError
environment_of d = do
  part ← check (is_some (as_object d)) Form Whole 0 d
  states ← names_of States (codes "states") MAX_STATES part
  start ← start_of states part
  actions ← names_of Actions (codes "actions") MAX_ACTIONS part
  steps ← triples_of states actions part
  Ok (record {
    states = states;
    actions = actions;
    env = normal_env (record { states = length states; actions = length actions; start = start; triples = steps });
  })

-- the name of a part
unfoldable pub name_of : Data → Result (List ℕ) PartError
name_of d = do
  name ← looked Name 0 (member_of d (codes "name"))
  name_in Name 0 name

-- the behaviour over the environment that a value means
unfoldable pub behaviour_of : NamedEnv → Data → Result NamedBeh PartError
behaviour_of env d = do
  part ← check (is_some (as_object d)) Form Whole 0 d
  name ← name_of part
  states ← names_of States (codes "states") MAX_STATES part
  start ← start_of states part
  finals ← finals_of states part
  steps ← moves_of env.states env.actions states part
  Ok (record {
    name = name;
    states = states;
    env_states = env.env.states;
    actions = env.env.actions;
    beh = normal_beh env.env.states env.env.actions (record { states = length states; start = start; finals = finals; steps = steps });
  })

-- the target over the environment that a value means, whose steps form no choice
unfoldable pub target_of : NamedEnv → Data → Result NamedTarget PartError
target_of env d = do
  part ← check (is_some (as_object d)) Form Whole 0 d
  states ← names_of States (codes "states") MAX_STATES part
  start ← start_of states part
  finals ← finals_of states part
  moves ← moves_of env.states env.actions states part
  steps ← single_of env.states moves
  Ok (record {
    states = states;
    env_states = env.env.states;
    actions = env.env.actions;
    beh = normal_beh env.env.states env.env.actions (record { states = length states; start = start; finals = finals; steps = steps });
  })
