use Rattle.roman_whatif.proofs.Common.{◌≡◌, ℕ, ◌*◌, ◌<◌, length, sym, ap, ◌∙◌, subst, arith, told_at, IsToldOf}
use Rattle.roman_whatif.proofs.Telling.{outlooks_more, lent_back}
use Rattle.roman_whatif.proofs.losses.try_all.Goals as goal

pub loop-j-preserved : goal.loop-j-preserved
loop-j-preserved g c =
    let n = c.args.scenario.now.base.now.joint in
    let old = c.loop-j.table in
    let new = c.fill_outlooks.new.table in
    let lent = c.deref_mut.ensures.value in
    let room : length new ≡ length old.items = c.fill_outlooks.ensures.room ∙ ap length lent in
    let back = lent_back old.len old.items new old.ok.0 room in
    let few : c.loop-j.j < 32 = omega (arith, c.loop-j-test.true, c.seats-seats.ensures.few) in
    let before = subst (λ xs. (x : ℕ) → x < 32 * c.loop-j.j → told_at new x ≡ told_at xs x) lent c.fill_outlooks.ensures.before in
    record {
      trials = c.fill_outlooks.ensures.trials;
      room = ap length back ∙ room ∙ c.loop-j.invariant.room;
      outlooks = λ i l. subst (IsToldOf n c.args.scenario.now.pair c.args.scenario.now.way i) (sym back) (outlooks_more n c.args.scenario.now.pair c.args.scenario.now.way c.loop-j.j old.items new few before c.loop-j.invariant.outlooks c.fill_outlooks.ensures.told i l);
    }

pub fill_outlooks-requires-clause-outlooks : goal.fill_outlooks-requires-clause-outlooks
fill_outlooks-requires-clause-outlooks g c =
    let n = c.args.scenario.now.base.now.joint in
    λ i l. subst (IsToldOf n c.args.scenario.now.pair c.args.scenario.now.way i) (sym c.deref_mut.ensures.value) (c.loop-j.invariant.outlooks i l)
