use Rattle.roman_hearing.proofs.Common.{sym, ◌∙◌, unfinished, line_head-again}
use Rattle.roman_hearing.proofs.HearingLemmas.{hears_no_rest, hears_rest, fails_put, fails_rest}
use Rattle.roman_hearing.proofs.hearing.hear_rest.Goals as goal

pub returns-then-not-rest-clause-hears : goal.returns-then-not-rest-clause-hears
returns-then-not-rest-clause-hears g c old taken is = hears_no_rest old taken _ is c.requires (sym c.rest.ensures.rest ∙ c.if-not-rest.true)

pub returns-in_default-clause-hears : goal.returns-in_default-clause-hears
returns-in_default-clause-hears g c old taken is =
    let same = line_head-again c.line.result.now (unfinished taken) (c.line.ensures.line ∙ is.rest) in
    fails_rest old taken _ is (sym c.rest.ensures.rest ∙ c.if-not-rest.false) _ _ c.hear_line.new.page _ (c.in_default.ensures.step (unfinished taken) same) c.in_default.ensures.known

pub returns-in-Err-clause-hears : goal.returns-in-Err-clause-hears
returns-in-Err-clause-hears g c old taken is =
    let same = line_head-again c.line.result.now (unfinished taken) (c.line.ensures.line ∙ is.rest) in
    fails_put old taken _ is (sym c.rest.ensures.rest ∙ c.if-not-rest.false) _ _ c.hear_line.new.page c.in-Ok.field-0 _ (c.in-Ok.ensures.step (unfinished taken) same) c.in-Err.ensures.puts c.in-Ok.ensures.known

pub returns-clause-hears : goal.returns-clause-hears
returns-clause-hears g c old taken is =
    let same = line_head-again c.line.result.now (unfinished taken) (c.line.ensures.line ∙ is.rest) in
    hears_rest old taken _ is (sym c.rest.ensures.rest ∙ c.if-not-rest.false) _ _ c.hear_line.new.page c.in-Ok.field-0 _ (c.in-Ok.ensures.step (unfinished taken) same) c.in_default-flush.ensures.puts
