use Rattle.roman_joint.proofs.Common.{arith, system_of}
use Rattle.roman_joint.proofs.GoodLemmas.{known, full_on, are_within, rows_there, alive_there}
use Rattle.roman_joint.proofs.good.alive_on.Goals as goal

pub rows_alive-requires : goal.rows_alive-requires
rows_alive-requires c =
    let (x, is) = c.requires in
    let row = c.args.attempt.now.row.now in
    let there = rows_there (system_of c.args.joint.now) _ x c.args.attempt.now.action _ row c.args.attempt.now.to (known c.args.joint.now x row c.layout-rows.ensures.known is.row) c.layout-rows.ensures.rows is.to is.room in
    are_within _ _ 1 _ _ there.few (λ e i. omega (arith, there.there e i))

pub returns : goal.returns
returns c gone rows =
    let (x, is) = c.requires in
    let row = c.args.attempt.now.row.now in
    let a = c.args.attempt.now.action in
    let h = known c.args.joint.now x row c.layout-rows.ensures.known is.row in
    alive_there (system_of c.args.joint.now) c.layout-rows.result.now x a c.rows_alive.result row c.args.attempt.now.to c.args.attempt.now.words.now gone h c.layout-rows.ensures.rows is.to is.room rows
    (λ lane l. grind (arith, full_on, c.rows_alive.ensures lane))
