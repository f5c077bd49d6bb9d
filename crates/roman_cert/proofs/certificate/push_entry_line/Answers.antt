use Rattle.roman_cert.proofs.Common.{arith}
use Rattle.roman_cert.proofs.Certificates.{action_pushed, one_digit, two_digits, three_digits}
use Rattle.roman_cert.proofs.certificate.push_entry_line.Goals as goal

pub returns-then-action-lt10-clause-gathers : goal.returns-then-action-lt10-clause-gathers
returns-then-action-lt10-clause-gathers g c =
    action_pushed (g.O.Sink.written c.args.out.now) (g.O.Sink.written c.push_number_then-then-action-lt10.new.out) c.args.page.now c.push_number_then-then-action-lt10.new.self c.args.pair c.in-Act.action c.args.reason _ c.push_number_then-then-action-lt10.result c.in-Act.is (one_digit c.in-Act.action c.if-action-lt10.true) c.push_number_then-then-action-lt10.ensures.gathers

pub returns-then-action-lt100-clause-gathers : goal.returns-then-action-lt100-clause-gathers
returns-then-action-lt100-clause-gathers g c =
    action_pushed (g.O.Sink.written c.args.out.now) (g.O.Sink.written c.push_number_then-then-action-lt100.new.out) c.args.page.now c.push_number_then-then-action-lt100.new.self c.args.pair c.in-Act.action c.args.reason _ c.push_number_then-then-action-lt100.result c.in-Act.is (two_digits c.in-Act.action c.if-action-lt10.false c.if-action-lt100.true) c.push_number_then-then-action-lt100.ensures.gathers

pub returns-clause-gathers : goal.returns-clause-gathers
returns-clause-gathers g c =
    action_pushed (g.O.Sink.written c.args.out.now) (g.O.Sink.written c.push_number_then-2.new.out) c.args.page.now c.push_number_then-2.new.self c.args.pair c.in-Act.action c.args.reason _ c.push_number_then-2.result c.in-Act.is (three_digits c.in-Act.action c.if-action-lt100.false (omega arith)) c.push_number_then-2.ensures.gathers
