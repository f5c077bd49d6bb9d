use Rattle.roman_relation.proofs.Common.{◌≡◌, ℕ, ◌+◌, ◌*◌, ◌/◌, ◌%◌, ◌<◌, true, false, length, slice_index, inl, inr, refl, sym, ap, ◌∙◌, subst, arith, rules, ltb, cases_eq, mod_below, div-add-mod', mul-le, IsIn, is_on, count_by, Board, count_by-le-length, rewritten_whole, Delegation}
use Rattle.roman_model.specs.Arena.{back as back_of}
use Rattle.roman_relation.proofs.Bands.{band_begins, in_band, outside_band, pair_in, row_band, row_of_band}
use Rattle.roman_relation.proofs.Lanes.{unlisted_row}
use Rattle.roman_relation.proofs.Losses.{fall_one, first_lane}
use Rattle.roman_relation.proofs.Noting.{IsNoted, noted_more, noted_off, noted_on, noted_same}
use Rattle.roman_relation.proofs.rounds.losses.mark_batch.Goals as goal

pub returns-then-not-meets-clause-noted : goal.returns-then-not-meets-clause-noted
returns-then-not-meets-clause-noted g c start noted more is new own others =
    let A = g.J.Rules.arena c.args.joint.now in
    let n = g.J.Rules.lanes c.args.joint.now in
    let w = g.J.Rules.band c.args.joint.now in
    let b = c.args.order.now in
    let e = c.args.batch in
    let (lane, low, on) = first_lane e.lanes c.requires.batch.some in
    let off : is_on (slice_index b.before e.row) lane ≡ false = rw (← c.before-2.ensures.value) (c.meets.ensures.none c.if-not-meets.true lane on) in
    let noted_y = noted_off A n w start e.row lane noted b is c.requires.row (c.requires.batch.within lane on) off (new lane on) in
    let (after, sum) = noted_same A n w (g.J.Rules.mid c.args.joint.now) start b.rows noted more b (λ z. elim (cases_eq z (e.row / w)) [ inl h ↦ rw h (own ∙ sym noted_y) | inr ne ↦ others z ne ]) is in
    (after, omega (arith, sum))

pub first_row-row-requires : goal.first_row-row-requires
first_row-row-requires g c =
    let first = in_band (g.J.Rules.band c.args.joint.now) _ c.args.batch.row c.known.ensures.band.0 refl in
    rw c.band-band.ensures.value (band_begins _ _ _ c.args.order.now c.requires.shaped (omega (arith, first.0, c.requires.row)) c.known.ensures.lanes.0)

pub mark_before-requires-clause-room : goal.mark_before-requires-clause-room
mark_before-requires-clause-room g c =
    let b = c.args.order.now in
    let long = length c.marks_mut.result.now in
    let bands = mul-le (64 * long) 1 (64 * long) (g.J.Rules.band c.args.joint.now) (omega arith) c.known.ensures.band.0 in
    let all = mul-le (64 * long * g.J.Rules.band c.args.joint.now) 1 (64 * long * g.J.Rules.band c.args.joint.now) (g.J.Rules.lanes c.args.joint.now) (omega arith) c.known.ensures.lanes.0 in
    omega (arith, c.requires.shaped.pairs, c.marks_mut.ensures.long, bands, all)

pub keep_rows-requires : goal.keep_rows-requires
keep_rows-requires g c = grind (arith, row_band)

pub returns : goal.returns
returns g c =
    let A = g.J.Rules.arena c.args.joint.now in
    let n = g.J.Rules.lanes c.args.joint.now in
    let w = g.J.Rules.band c.args.joint.now in
    let mid = g.J.Rules.mid c.args.joint.now in
    let b = c.args.order.now in
    let d = c.keep_rows.new.self in
    let e = c.args.batch in
    let x = e.row in
    let y = x / w in
    let some = c.known.ensures.lanes.0 in
    let many = c.known.ensures.band.0 in
    let keep = rw c.band-band.ensures.value at c.keep_rows.ensures in
    let row = rw c.band-band.ensures.value at c.first_row-row.ensures in
    let marks : d.marks ≡ c.mark_before.new.marks = ap (λ (z : Board). z.marks) keep.rest ∙ rewritten_whole b.marks c.mark_before.new.marks (c.mark_before.ensures.long ∙ ap length c.marks_mut.ensures.value) in
    let now : IsNoted A n w y b d = record {
      same = ap (λ (z : Board). z.list) keep.rest;
      rows = ap (λ (z : Board). z.rows) keep.rest;
      kept = λ r h. let within = in_band w y r many h in unlisted_row A c.known.ensures.numbered n r b.list (slice_index d.before r) (rw c.requires.shaped.lanes at (keep.kept r within.0 within.1));
      others = λ r ne. keep.others r (outside_band w y r many ne);
      still = λ z on. rw marks (c.mark_before.ensures.still z (rw c.marks_mut.ensures.value on));
      marked = λ p q a k l h i.
          let place : (y * w + q / n % w) * n + q % n ≡ q = ap (λ z. (z * w + q / n % w) * n + q % n) (sym h) ∙ pair_in n w q in
          rw marks (c.mark_before.ensures.marked y (q / n % w) (q % n) p a k row (mod_below (q / n) w many) (mod_below q n some) l (subst (λ r. IsIn r (A.outcomes p a k)) (sym place) i));
    } in
    let (lane, was, on) = c.meets.ensures.some c.if-not-meets.false in
    let l : lane < n = c.requires.batch.within lane on in
    let place : (y * w + x % w) * n + lane ≡ x * n + lane = ap (λ z. z * n + lane) (div-add-mod' x w) in
    let spent = c.mark_before.ensures.steps y (x % w) lane row (mod_below x w many) l in
    let less = count_by-le-length (λ (v : Delegation ℕ). ltb v.seat mid) (back_of A ((y * w + x % w) * n + lane)) in
    let all = fall_one A n e lane (omega (arith, l, c.known.ensures.lanes.1)) on in
    record {
      rest = search rules;
      cost = omega (arith, spent, less, all, ap (λ q. length (back_of A q)) place);
      noted = λ start noted more is new own others.
          let kept : is_on (slice_index b.before x) lane ≡ true = rw (← c.before-2.ensures.value) was in
          let off = noted_on A n w start x lane noted b is c.requires.row l kept (c.requires.listed lane on) in
          let (after, sum) = noted_more A n w mid start y noted more b d now (row_of_band w x b.rows c.requires.row) off own others is in
          let first : (y * w + 0) * n + 0 ≡ y * w * n = omega arith in
          let moved = c.mark_before.ensures.steps y 0 0 row many some in
          (after, omega (arith, sum, moved, ap (λ q. count_by (λ (v : Delegation ℕ). ltb v.seat mid) (back_of A q)) first));
    }
