use Rattle.roman_relation.proofs.Common.{◌≡◌, ℕ, ◌+◌, ◌*◌, ◌/◌, ◌%◌, Bool, not, IsTrue, length, inl, inr, refl, sym, ap, ◌∙◌, subst, arith, AreRows, AddsTo, falls, IsJudged, cases_eq, both_ways, lt-ltb, ltb-true, mod_below, has_flag, Board}
use Rattle.roman_relation.proofs.Bands.{band_inside, band_of, pair_in}
use Rattle.roman_relation.proofs.Beginnings.{begins_unlisted}
use Rattle.roman_relation.proofs.Marks.{count_falls, marked_within, still_marked}
use Rattle.roman_relation.proofs.Pushing.{adds_on}
use Rattle.roman_relation.proofs.rounds.judging.judge_marked.Goals as goal

pub judge-requires-clause-band : goal.judge-requires-clause-band
judge-requires-clause-band g c t =
    omega (
      arith,
      band_inside _ _ _ _ _ c.args.order.now c.requires.shaped c.known.ensures.lanes.0 c.bands-bands.ensures (ltb-true c.in-Some.y c.bands-bands.result t),
      ap (λ (d : Board). d.rows) c.in-Some.ensures.rest,
      ap (λ (d : Board). d.rows) c.bands.invariant.rest,
    )

pub bands-preserved : goal.bands-preserved
bands-preserved g c =
    let A = g.J.Rules.arena c.args.joint.now in
    let n = g.J.Rules.lanes c.args.joint.now in
    let w = g.J.Rules.band c.args.joint.now in
    let y = c.in-Some.y in
    let b = c.args.order.now in
    let old = c.bands.order in
    let mid = c.next_marked.new.self in
    let new = c.judge.new.order in
    let inv = c.bands.invariant in
    let list : mid.list ≡ old.list = ap (λ (d : Board). d.list) c.in-Some.ensures.rest in
    let marks : new.marks ≡ mid.marks = ap (λ (d : Board). d.marks) c.judge.ensures.rest in
    let same : mid.before ≡ b.before = ap (λ (d : Board). d.before) c.in-Some.ensures.rest ∙ ap (λ (d : Board). d.before) inv.rest in
    let adds : (gone : ℕ → Bool) → AreRows n (λ p. not (gone p)) b.before → AddsTo A gone (λ p. IsTrue (falls A gone p) × (p / n / w ≡ y)) old.list new.list = λ gone kept.
    rw (← list) (c.judge.ensures.adds gone (rw same kept)) in
    record {
      rest = rw (c.judge.ensures.rest, c.in-Some.ensures.rest, inv.rest) refl;
      long = c.judge.ensures.long ∙ inv.long;
      fewer = λ z on. inv.fewer z (still_marked old mid y z c.in-Some.ensures.taken.was (λ ne. c.in-Some.ensures.taken.others z ne) (rw marks at on));
      adds = λ gone kept. adds_on A gone _ _ b.list old.list new.list (inv.adds gone kept) (adds gone kept) (λ p m. (m.0, rw m.1 (inv.fewer y c.in-Some.ensures.taken.was)));
      done = λ gone p kept l on. elim (inv.done gone p kept l on) [
        | inl still ↦ elim (cases_eq (p / n / w) y) [
          | inl e ↦
              let is_band = lt-ltb y c.bands-bands.result (rw e at (band_of A n w _ p b c.requires.shaped c.known.ensures.lanes.0 c.known.ensures.band.0 c.bands-bands.ensures l)) in
              let judged = c.judge.ensures.done gone (p / n % w) (p % n) (rw same kept) is_band (mod_below (p / n) w c.known.ensures.band.0) (mod_below p n c.known.ensures.lanes.0) in
              inr (subst (IsJudged A gone new.list) (ap (λ z. (z * w + p / n % w) * n + p % n) (sym e) ∙ pair_in n w p) judged)
          | inr ne ↦ inl (rw marks (c.in-Some.ensures.taken.others (p / n / w) ne ∙ still))
        ]
        | inr done ↦ inr (λ off. done (begins_unlisted A old.list new.list p (adds gone kept).begins off))
      ];
    }

pub bands-smaller : goal.bands-smaller
bands-smaller g c =
    let old = c.bands.order in
    let marks = ap (λ (d : Board). d.marks) c.judge.ensures.rest in
    let fewer = count_falls (has_flag old.marks) (has_flag c.next_marked.new.self.marks) (64 * length old.marks) c.in-Some.y (marked_within old.marks c.in-Some.y c.in-Some.ensures.taken.was) c.in-Some.ensures.taken.was c.in-Some.ensures.taken.cleared c.in-Some.ensures.taken.others in
    rw (marks, c.in-Some.ensures.long) fewer

pub returns-clause-unmarked : goal.returns-clause-unmarked
returns-clause-unmarked g c p l =
    rw c.in_default.ensures.same (c.in_default.ensures.none _ (band_of _ _ _ _ p c.args.order.now c.requires.shaped c.known.ensures.lanes.0 c.known.ensures.band.0 c.bands-bands.ensures l))

pub returns-clause-done : goal.returns-clause-done
returns-clause-done g c gone p kept l on =
    let none = c.in_default.ensures.none _ (band_of _ _ _ _ p c.args.order.now c.requires.shaped c.known.ensures.lanes.0 c.known.ensures.band.0 c.bands-bands.ensures l) in
    elim (c.bands.invariant.done gone p kept l on) [ inl still ↦ absurd (both_ways _ none still) | inr done ↦ rw c.in_default.ensures.same done ]
