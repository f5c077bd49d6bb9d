-- A target that is read is appended to those before it.
use Rattle.roman_library.proofs.Common.{All-push, Named, target_known, IsTarget}
use Rattle.roman_library.proofs.targets.NamedListed.read_after.Goals as goal

pub returns-clause-known : goal.returns-clause-known
returns-clause-known c = λ before. All-push (λ (n : Named). IsTarget c.args.environment.now n.target) c.args.before.now _ before (target_known _ _ _ c.in_ok-target.ensures.target)
