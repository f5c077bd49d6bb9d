use Rattle.roman_joint.proofs.Common.{arith, is_beaten, numbered, system_of}
use Rattle.roman_joint.proofs.GoodLemmas.{known, full_on, full_off, rows_few, none_served, beaten_before, suits_rows, before_there, before_beaten}
use Rattle.roman_joint.proofs.good.good_before.Goals as goal

pub returns-in_default : goal.returns-in_default
returns-in_default c alive = record {
  each = λ x gone ok rows living.
      let n = c.args.joint.now in
      none_served _ _ (λ p. is_beaten (numbered (system_of n)) gone p c.args.attempt.now.action c.args.k) (λ lane l.
      beaten_before _ _ x _ _ lane _ _ gone (known n x c.args.attempt.now.row.now c.layout-rows.ensures.known ok) c.layout-rows.ensures.rows c.requires.attempt.1.to c.requires.seat c.in_default.ensures l);
}

pub all_alive-requires : goal.all_alive-requires
all_alive-requires c =
    let (x, is) = c.requires.attempt in
    let h = known c.args.joint.now x c.args.attempt.now.row.now c.layout-rows.ensures.known is.row in
    let s = system_of c.args.joint.now in
    suits_rows _ _ _ (omega arith) (rows_few s _ h.sizes is.room) c.in-Some.ensures.some (λ e b i j. omega (arith, before_there s x _ _ _ _ _ h is.to c.requires.seat c.in-Some.ensures _ e b is.room i j))

pub returns : goal.returns
returns c alive = record {
  each = λ x gone ok rows living.
      let h = known c.args.joint.now x c.args.attempt.now.row.now c.layout-rows.ensures.known ok in
      let laid = c.layout-rows.ensures.rows in
      record {
        each = λ lane l. let beaten = before_beaten _ x _ _ _ _ _ h c.requires.attempt.1.to c.requires.seat c.in-Some.ensures lane _ gone c.requires.attempt.1.room rows l in grind (arith, full_on, c.all_alive.ensures lane);
        rest = λ lane l. grind (arith, full_off, c.all_alive.ensures lane);
      };
}
