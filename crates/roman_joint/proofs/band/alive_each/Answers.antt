use Rattle.roman_joint.proofs.Common.{◌+◌, ◌-◌, ◌*◌, ◌<◌, ◌∙◌, not, ◌&&◌, ap, drop, length, slice_index, arith, get_or_append_left, length-take, list_any, is_on, sizes_of, system_of, band_in}
use Rattle.roman_joint.proofs.GoodLemmas.{known, full_on}
use Rattle.roman_joint.proofs.BandLemmas.{band_there, alive_at}
use Rattle.roman_joint.proofs.band.alive_each.Goals as goal

pub rows_alive_each-requires : goal.rows_alive_each-requires
rows_alive_each-requires c =
    let (y, is) = c.requires.attempt in
    let s = system_of c.args.joint.now in
    let all = band_there s _ y _ _ _ (known c.args.joint.now (y * band_in s) c.args.attempt.now.row.now c.layout-rows.ensures.known is.row) c.layout-rows.ensures.rows is.to _ is.room in
    record { fits = all.fits; within = λ i d l. omega (arith, all.within i d l, c.layout-rows.ensures.rows.band, c.set_first.ensures.long, length-take c.layout-rows.result.now.band c.args.alive.now, c.requires.long) }

pub returns-clause-alive : goal.returns-clause-alive
returns-clause-alive c gone rows =
    let n = c.args.joint.now in
    let s = system_of n in
    let r = c.layout-rows.result.now in
    let attempt = c.args.attempt.now.to in
    let (y, is) = c.requires.attempt in
    let row = c.args.attempt.now.row.now in
    let h = known n (y * band_in s) row c.layout-rows.ensures.known is.row in
    alive_at s r y c.args.attempt.now.action row attempt h c.layout-rows.ensures.rows is.to _ c.args.attempt.now.words.now gone is.room rows (λ i lane l m.
    let many : i < r.band = omega (arith, l, c.layout-rows.ensures.rows.band) in
    let within : i < length c.set_first.new.to = omega (arith, many, c.set_first.ensures.long, length-take r.band c.args.alive.now, c.layout-rows.ensures.rows.band, c.requires.long) in
    ap (λ z. is_on z lane) (get_or_append_left c.rows_alive_each.new.all (drop r.band c.args.alive.now) 0 i (omega (arith, within, c.rows_alive_each.ensures.long)))
    ∙ c.rows_alive_each.ensures.each i lane within
    ∙ ap (λ t. t && not (list_any (λ e. not (is_on (slice_index c.args.attempt.now.words.now (attempt.base + i + e * r.env_rows)) lane)) attempt.envs.now)) (ap (λ z. is_on z lane) (c.set_first.ensures.each i many) ∙ full_on (sizes_of s) r lane c.layout-rows.ensures.rows m))
