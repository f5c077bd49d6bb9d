use Rattle.roman_relation.proofs.Common.{◌≡◌, ◌+◌, ◌*◌, ◌/◌, ◌%◌, div-add-mod', is_listed}
use Rattle.roman_relation.proofs.Lanes.{words_rows}
use Rattle.roman_relation.proofs.masks.mask.Goals as goal

pub returns : goal.returns
returns g c =
    let p = c.args.p in
    let m = c.lanes-lanes.result in
    let rows = words_rows _ c.known.ensures.numbered _ _ _ c.requires.shaped c.words.ensures.alive in
    let place : p / m * g.J.Rules.lanes c.args.joint.now + p % m ≡ p = rw (← c.lanes-lanes.ensures.value) (div-add-mod' p m) in
    let is = c.mask.ensures (p / m) (is_listed (g.J.Rules.arena c.args.joint.now) c.args.order.now.list) c.row-row.ensures rows in
    rw place at is
