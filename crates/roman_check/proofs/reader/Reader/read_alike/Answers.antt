use Rattle.roman_check.proofs.Common.{◌≡◌, ◌+◌, None, refl, sym, ap, ◌∙◌, subst, rules, arith, ReadsPart, TakesEntry, entry_with}
use Rattle.roman_check.proofs.ReaderLemmas.{entry_read, reads_then}
use Rattle.roman_check.proofs.reader.Reader.read_alike.Goals as goal

pub loop-start-preserved : goal.loop-start-preserved
loop-start-preserved g c =
    let A = g.J.Rules.arena c.args.joint.now in
    let lanes = g.J.Rules.lanes c.args.joint.now in
    let ok = c.known.ensures.numbered in
    let start = c.loop-start.start in
    let mid = c.loop-start.self in
    let new = record mid { audit = c.take_known.new.self; lines = mid.lines + 1 } in
    let shape = c.args.pattern.now.shape in
    let end : start + shape.len + 1 ≡ start + (shape.len + 1) = omega arith in
    let same : shape.reason ≡ c.args.self.now.audit.probe.reason = search rules in
    let probe = ap (λ a. a.reason) c.loop-start.invariant.probe ∙ sym same in
    let taken = subst (λ r. TakesEntry A lanes mid.audit c.take_known.new.self (entry_with (c.in-Some-fit.pair, r)) None) probe (c.take_known.ensures.taken c.if-not-take_known.false) in
    let read = entry_read A lanes mid new c.args.piece.now start shape.len ok (entry_with (c.in-Some-fit.pair, shape.reason)) None c.loop-start.invariant.read.high c.loop-start.invariant.between
    (record { space = shape.place + 2; parts = c.in-Some-fit.ensures.pair; inside = taken.inside; given = c.requires.pattern.reason }) taken refl refl in
    record {
      pattern = c.fit.ensures.pattern;
      probe = c.take_known.ensures.probe ∙ c.loop-start.invariant.probe;
      read = subst (λ n. ReadsPart A lanes c.args.self.now new c.args.piece.now c.args.from n None) end (reads_then A lanes c.args.self.now mid new _ _ _ _ None c.loop-start.invariant.read read);
      between = record { due = taken.due ∙ c.loop-start.invariant.between.due; line = c.loop-start.invariant.between.line };
    }
