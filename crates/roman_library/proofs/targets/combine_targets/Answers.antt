-- The combined parts are those of a library, and an error is the broken rule.
use Rattle.roman_library.proofs.Common.{arith, subst, sym, ArePartsOf}
use Rattle.roman_library.proofs.TargetLemmas.{made_gives, broken_gives, combined_parts_known}
use Rattle.roman_library.proofs.targets.combine_targets.Goals as goal

pub returns-in-Ok : goal.returns-in-Ok
returns-in-Ok c = record {
  parts = made_gives c.args.environment.now c.args.catalogue.now c.args.targets.now c.in-Ok.made c.in-Ok.ensures.parts c.in-Ok.ensures.rules;
  known = subst (ArePartsOf c.args.catalogue.now) (sym c.in-Ok.ensures.parts)
      (combined_parts_known c.args.environment.now c.args.catalogue.now c.args.targets.now c.known.ensures.known c.requires.catalogue c.requires.targets.known c.in-Ok.ensures.rules);
}

pub returns-in-Err : goal.returns-in-Err
returns-in-Err c = grind (arith, broken_gives)
