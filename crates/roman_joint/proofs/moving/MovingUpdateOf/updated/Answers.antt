use Rattle.roman_joint.proofs.WordLemmas.{all_clear, loses_nothing}
use Rattle.roman_joint.proofs.moving.MovingUpdateOf.updated.Goals as goal

pub returns-then-words-eq0-clause-each : goal.returns-then-words-eq0-clause-each
returns-then-words-eq0-clause-each g c i l = loses_nothing _ _ _ _ ((all_clear c.args.words 0 c.if-words-eq0.true).1 i)
