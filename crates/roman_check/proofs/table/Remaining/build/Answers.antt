use Rattle.roman_check.proofs.Common.{refl}
use Rattle.roman_check.proofs.RemainLemmas.{remain_all}
use Rattle.roman_check.proofs.table.Remaining.build.Goals as goal

pub returns-clause-all : goal.returns-clause-all
returns-clause-all c =
    remain_all c.args.pairs c.args.rows c.args.lanes _ c.requires.lanes.1 refl (c.in_ok-vec.ensures.items_if_clones_equal (λ y same. same)) refl
