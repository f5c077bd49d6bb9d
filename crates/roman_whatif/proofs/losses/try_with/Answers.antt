use Rattle.roman_whatif.proofs.Common.{ℕ, ◌+◌, ◌*◌, ◌<◌, [], ◌∷◌, length, refl, sym, ◌∙◌, subst, arith, length-set, Relation, IsLeft, told, left_of}
use Rattle.roman_whatif.proofs.Lasting.{told_left}
use Rattle.roman_whatif.proofs.Telling.{told_there, told_elsewhere, told_one_more}
use Rattle.roman_whatif.proofs.losses.try_with.Goals as goal

pub loop-k-init : goal.loop-k-init
loop-k-init g c =
    let base = c.args.scenario.now.base.now.joint in
    let mid = c.fail_on-left.new.scratch in
    let table = c.args.table.now in
    let j = c.args.j in
    let at = 32 * j + j in
    let few = c.requires.place in
    let room : at < length table = omega (arith, few.0, few.1, c.requires.room) in
    record {
      middle = c.fail_on-left.ensures;
      scratch = c.requires.trials.scratch;
      alone =
          told_there table at at c.now.result refl room
          ∙ told_left c.args.scenario.now.way (j ∷ []) (j ∷ []) base base mid.joint mid.order c.args.scenario.now.pair c.fail_on-left.result (told c.now.result) refl refl c.fail_on-left.ensures c.now.ensures.outlook;
      two = λ i l. absurd (omega (arith, l));
      before = λ i l. told_elsewhere table at i c.now.result (omega (arith, l));
      room = length-set table at c.now.result;
    }

pub loop-k-preserved : goal.loop-k-preserved
loop-k-preserved g c =
    let base = c.args.scenario.now.base.now.joint in
    let second = c.try_second-outlook in
    let table = c.loop-k.table in
    let before = c.loop-k.invariant in
    let j = c.args.j in
    let k = c.loop-k.k in
    let less = c.loop-k-test.true in
    let few = c.requires.place in
    let at = 32 * j + k in
    let room : at < length table = omega (arith, few.0, few.1, less, c.requires.room, before.room) in
    record {
      middle = subst (λ (r : Relation). IsLeft c.args.scenario.now.way (j ∷ []) base c.args.scenario.now.pair r.joint r.order c.fail_on-left.result) (sym second.ensures.middle) before.middle;
      scratch = second.ensures.scratch;
      alone = told_elsewhere table at (32 * j + j) second.result (omega (arith, less)) ∙ before.alone;
      two = told_one_more table (32 * j) k second.result (λ (i : ℕ). left_of base c.args.scenario.now.pair c.args.scenario.now.way (i ∷ j ∷ [])) room second.ensures.told before.two;
      before = λ i l. told_elsewhere table at i second.result (omega (arith, l)) ∙ before.before i l;
      room = length-set table at second.result ∙ before.room;
    }
