use Rattle.roman_whatif.proofs.Common.{◌≡◌, ◌-◌, suc, subst, arith, IsToldOf}
use Rattle.roman_whatif.proofs.Repeats.{outlooks_repeat}
use Rattle.roman_whatif.proofs.losses.fill_outlooks.Goals as goal

pub returns-then-is_third : goal.returns-then-is_third
returns-then-is_third g c =
    let n = c.args.scenario.now.base.now.joint in
    let (some, own) = c.is_third.ensures.own c.if-is_third.true in
    let (more, before) = c.is_third.ensures.before c.if-is_third.true in
    let copied = c.repeat_outlooks.ensures in
    let b = c.args.j - 1 in
    let next : suc b ≡ c.args.j = omega arith in
    record {
      told = subst (λ m. IsToldOf n c.args.scenario.now.pair c.args.scenario.now.way m c.repeat_outlooks.new.table) next
          (outlooks_repeat n c.args.scenario.now.pair b (b - 1) c.args.scenario.now.way c.args.table.now c.repeat_outlooks.new.table (omega arith) before own (c.requires.outlooks b (omega arith)) copied.two copied.last copied.alone);
      before = λ i l. copied.before i (omega (arith, l, next));
      room = copied.room;
      trials = c.requires.ready.trials;
    }
