use Rattle.roman_check.proofs.Common.{◌++◌, take, ◌∙◌, subst, arith, length-append, length-take-le, refl, ◌≡◌, ◌≤◌, Gave-then, had_all, length-take, err_from_is_err_and, Rose, IsReading}
use Rattle.roman_check.proofs.SourceSteps.{at_end, failed_clean, first_part, gave_within, passed_limit, rejected_at, told}
use Rattle.roman_check.proofs.certificate.read.Goals as goal

pub returns-in_err-count-clause-comes : goal.returns-in_err-count-clause-comes
returns-in_err-count-clause-comes g c =
    let p = err_from_is_err_and c.from_residual.result c.from_residual.ensures.1 in
    rw (p.1, p.2) (record {
      is = (
        failed_clean _ _ _ _ _ _ c.takes.invariant.reading c.takes.invariant.gave c.in_err-count.ensures.moves,
        subst (λ n. Rose n (g.S.Source.faults c.take.new.self)) c.takes.invariant.faults c.in_err-count.ensures.cause.failed,
      );
    })

pub returns-then-count-eq0-clause-comes : goal.returns-then-count-eq0-clause-comes
returns-then-count-eq0-clause-comes g c = record {
  is = (
    record {
      bytes = c.takes.invariant.taken;
      had = had_all (g.S.Source.rest c.args.source.now) (g.S.Source.rest c.takes.source) c.takes.invariant.taken c.in_ok-count.count c.takes.invariant.gave (c.in_ok-count.ensures.ends (omega (arith, c.takes.invariant.piece, c.take.auto.into))) c.if-count-eq0.true;
      judged = c.finish.ensures c.takes.invariant.taken c.takes.invariant.reading (omega (arith, c.takes.invariant.room));
    },
    c.in_ok-count.ensures.cause.stays ∙ c.takes.invariant.faults,
  );
}

pub returns-then-count-eq0-clause-taken : goal.returns-then-count-eq0-clause-taken
returns-then-count-eq0-clause-taken g c = gave_within _ _ _ _ _ _ _ c.takes.invariant.gave c.in_ok-count.ensures.moves c.in_ok-count.ensures.bound (c.take.auto.into ∙ c.takes.invariant.piece) c.takes.invariant.room

pub returns-then-count-eq0-clause-whole : goal.returns-then-count-eq0-clause-whole
returns-then-count-eq0-clause-whole g c says =
    at_end (g.S.Source.rest c.takes.source) (g.S.Source.rest c.take.new.self) c.take.new.into c.in_ok-count.count c.in_ok-count.ensures.moves (c.in_ok-count.ensures.ends (omega (arith, c.takes.invariant.piece, c.take.auto.into))) c.if-count-eq0.true

pub returns-in-Some-clause-comes : goal.returns-in-Some-clause-comes
returns-in-Some-clause-comes g c =
    let fed = c.in-Some.ensures.read in
    let low : c.in-Some.ensures.to ≤ c.min-due.result = omega (arith, fed.high, length-take c.min-due.result c.take.new.into) in
    record {
      is = (
        told _ c.args.start _ _ _ _ c.take.new.into c.in_ok-count.count c.in-Some.ensures.to _ c.takes.invariant.gave c.in_ok-count.ensures.moves (omega (arith, c.min-due.ensures)) c.in_ok-count.ensures.bound
            (λ more long room. rejected_at _ _ _ more _ _ (first_part _ _ _ _ _ _ _ _ _ fed c.takes.invariant.reading) (omega (arith, c.min-due.ensures, c.takes.invariant.room))),
        c.in_ok-count.ensures.cause.stays ∙ c.takes.invariant.faults,
      );
    }

pub returns-in-Some-clause-taken : goal.returns-in-Some-clause-taken
returns-in-Some-clause-taken g c = gave_within _ _ _ _ _ _ _ c.takes.invariant.gave c.in_ok-count.ensures.moves c.in_ok-count.ensures.bound (c.take.auto.into ∙ c.takes.invariant.piece) c.takes.invariant.room

pub returns-then-due-count-clause-comes : goal.returns-then-due-count-clause-comes
returns-then-due-count-clause-comes g c =
    let fed = rw c.in_default.is at c.feed.ensures in
    let to : fed.to ≡ c.min-due.result = omega (arith, fed.whole refl, c.min-due.ensures, c.in_ok-count.ensures.bound, length-take-le c.min-due.result c.take.new.into) in
    record {
      is = (
        told _ c.args.start _ _ _ _ c.take.new.into c.in_ok-count.count fed.to _ c.takes.invariant.gave c.in_ok-count.ensures.moves (omega (arith, c.if-due-count.true)) c.in_ok-count.ensures.bound
            (λ more long room. passed_limit _ _ _ more _ (first_part _ _ _ _ _ _ _ _ _ fed.read c.takes.invariant.reading) (omega (arith, c.if-due-count.true, c.min-due.ensures, c.takes.invariant.room)) (omega (arith, c.if-due-count.true))),
        c.in_ok-count.ensures.cause.stays ∙ c.takes.invariant.faults,
      );
    }

pub returns-then-due-count-clause-taken : goal.returns-then-due-count-clause-taken
returns-then-due-count-clause-taken g c = gave_within _ _ _ _ _ _ _ c.takes.invariant.gave c.in_ok-count.ensures.moves c.in_ok-count.ensures.bound (c.take.auto.into ∙ c.takes.invariant.piece) c.takes.invariant.room

pub takes-preserved : goal.takes-preserved
takes-preserved g c =
    let fed = rw c.in_default.is at c.feed.ensures in
    let to : fed.to ≡ c.in_ok-count.count = omega (arith, fed.whole refl, c.min-due.ensures, c.if-due-count.false, c.in_ok-count.ensures.bound, length-take-le c.min-due.result c.take.new.into) in
    record {
      taken = c.takes.invariant.taken ++ take c.in_ok-count.count c.take.new.into;
      gave = Gave-then _ _ _ _ _ c.takes.invariant.gave c.in_ok-count.ensures.moves;
      reading = subst (λ n. IsReading (g.J.Rules.arena c.args.joint.now) (c.takes.invariant.taken ++ take n c.take.new.into) c.feed.new.self) to (first_part _ _ _ _ _ _ _ _ _ fed.read c.takes.invariant.reading);
      room = omega (arith, c.takes.invariant.room, c.min-due.ensures, c.if-due-count.false, length-append c.takes.invariant.taken (take c.in_ok-count.count c.take.new.into), length-take-le c.in_ok-count.count c.take.new.into c.in_ok-count.ensures.bound);
      lines = omega (arith, c.takes.invariant.lines, c.min-due.ensures, c.if-due-count.false, c.feed.ensures.read.lines, c.feed.ensures.read.high, length-take c.min-due.result c.take.new.into);
      shaped = c.feed.ensures.read.shaped;
      piece = c.take.auto.into ∙ c.takes.invariant.piece;
      faults = c.in_ok-count.ensures.cause.stays ∙ c.takes.invariant.faults;
      borrowed = c.in_ok-count.ensures.borrowed ∙ c.takes.invariant.borrowed;
      texts = c.in_ok-count.ensures.texts ∙ c.takes.invariant.texts;
    }
