-- The parts of an environment, read one by one.
use Rattle.roman_parts.proofs.Common.{map, is_some, Ok, IsTrue, ap, sym, ◌∙◌, arith, common_steps, as_object, view, triple_of}
use Rattle.roman_parts.proofs.PartLemmas.{env_read}
use Rattle.roman_parts.proofs.parts.read_environment.Goals as goal

pub returns : goal.returns
returns c =
    let d = view c.args.v.now in
    let steps = c.deref.result.now in
    let object : IsTrue (is_some (as_object d)) = grind (arith, common_steps) in
    record {
      environment = env_read d c.in_ok-states.states c.in_ok-actions.actions c.in_ok-start.start (map triple_of steps) object c.in_ok-states.ensures.names c.in_ok-start.ensures.start c.in_ok-actions.ensures.names
          (rw c.deref.ensures.value c.in_ok-steps.ensures.steps)
          ∙ ap Ok (sym c.in_ok-from_lists.ensures);
    }
