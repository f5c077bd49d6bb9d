use Rattle.roman_joint.proofs.good.good_on.Goals as goal

pub returns-then-k-layout : goal.returns-then-k-layout
returns-then-k-layout c = c.good_before.ensures c.args.alive
