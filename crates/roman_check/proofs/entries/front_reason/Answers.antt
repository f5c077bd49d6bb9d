use Rattle.roman_check.proofs.Common.{arith, act_reason}
use Rattle.roman_check.proofs.entries.front_reason.Goals as goal

pub returns : goal.returns
returns c =
    let (small, text) = c.in_ok-action.ensures in
    let number = c.in_ok-value.ensures.0 in
    (act_reason c.args.actions c.in_ok-action.action (omega (arith, c.from.ensures, small)), record { within = number.within; newline = number.stops }, text)
