use Rattle.roman_whatif.proofs.Common.{◌≡◌, ◌+◌, ◌-◌, ◌*◌, suc, [], ◌∷◌, refl, sym, ap, ◌∙◌, arith, told, told_at, left_of}
use Rattle.roman_whatif.proofs.Lasting.{still_there, left_again, told_left}
use Rattle.roman_whatif.proofs.Repeats.{alike_first}
use Rattle.roman_whatif.proofs.losses.try_second.Goals as goal

pub fail_on-last-requires-clause-place : goal.fail_on-last-requires-clause-place
fail_on-last-requires-clause-place g c = (c.requires.middle.within, grind (arith, still_there))

pub returns-clause-told : goal.returns-clause-told
returns-clause-told g c =
    let base = c.args.scenario.now.base.now.joint in
    let mid = c.args.trials.now.middle in
    let new = c.fail_on-last.new.scratch in
    let j = c.args.j in
    let k = c.args.k in
    let both = left_again c.args.scenario.now.way k j base mid.joint new.joint mid.order new.order c.args.scenario.now.pair c.args.left c.fail_on-last.result c.requires.places.0 c.requires.middle c.fail_on-last.ensures in
    told_left c.args.scenario.now.way (k ∷ j ∷ []) (k ∷ j ∷ []) base base new.joint new.order c.args.scenario.now.pair c.fail_on-last.result (told c.now.result) refl refl both c.now.ensures.outlook

pub returns-then-is_repeated-clause-told : goal.returns-then-is_repeated-clause-told
returns-then-is_repeated-clause-told g c =
    let base = c.args.scenario.now.base.now.joint in
    let j = c.args.j in
    let (some, alike) = c.is_repeated.ensures c.if-is_repeated.true in
    let i = c.args.k - 1 in
    let next : c.args.k ≡ suc i = omega arith in
    let there : 32 * j + c.args.k - 1 ≡ 32 * j + i = omega arith in
    ap (told_at c.args.table.now) there ∙ c.requires.two i (omega arith) ∙ sym (alike_first base c.args.scenario.now.pair i j c.args.scenario.now.way alike (omega arith)) ∙ ap (λ m. left_of base c.args.scenario.now.pair c.args.scenario.now.way (m ∷ j ∷ [])) (sym next)
