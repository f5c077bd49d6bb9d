use Rattle.roman_hearing.proofs.Common.{◌++◌, sym, ◌∙◌, unfinished}
use Rattle.roman_hearing.proofs.HearingLemmas.{alone_head, more_head, hears_ended}
use Rattle.roman_hearing.proofs.hearing.hear_ended.Goals as goal

pub returns-then-not-rest-clause-hears : goal.returns-then-not-rest-clause-hears
returns-then-not-rest-clause-hears g c old taken is =
    let whole = unfinished taken ++ c.args.part.now in
    let (empty, kept) = alone_head old taken _ c.args.part.now is c.requires (sym c.rest.ensures.rest ∙ c.if-not-rest.true) in
    hears_ended old taken _ c.args.part.now is c.requires _ _ _ _ c.hear_line.result empty (c.hear_line.ensures.step whole kept) (c.hear_line.ensures.next whole kept) c.hear_line.ensures.known

pub returns-clause-hears : goal.returns-clause-hears
returns-clause-hears g c old taken is =
    let whole = unfinished taken ++ c.args.part.now in
    let heard = c.hear_line-heard in
    let kept = more_head old taken _ c.args.part.now is c.requires c.line.result.now (c.line.ensures.line ∙ c.hold.ensures) in
    hears_ended old taken _ c.args.part.now is c.requires _ _ _ _ heard.result c.clear.ensures.empty (heard.ensures.step whole kept) (heard.ensures.next whole kept) heard.ensures.known
