use Rattle.roman_hearing.proofs.Common.{arith}
use Rattle.roman_hearing.proofs.HearingLemmas.{due_part, put_whole_piece, put_part, put_quit, put_failed}
use Rattle.roman_hearing.proofs.hearing.hear_piece.Goals as goal

pub returns-in_default-clause-hears : goal.returns-in_default-clause-hears
returns-in_default-clause-hears g c old taken is = grind (arith, due_part, (c.in_default.ensures.hears old taken is))

pub returns-in-Err-clause-hears : goal.returns-in-Err-clause-hears
returns-in-Err-clause-hears g c old taken is =
    put_failed old taken _ c.args.room _ c.min-due.ensures c.hear_bytes.new.session (g.O.Sink.written c.hear_bytes.new.out) _ c.hear_bytes.new.page c.hear_bytes.new.splitter c.in-Ok.next
    (c.in-Ok.ensures.hears old taken is) c.in-Err.ensures.puts c.known.ensures

pub returns-in-More-clause-hears : goal.returns-in-More-clause-hears
returns-in-More-clause-hears g c old taken is = put_part old taken _ c.args.room _ c.min-due.ensures _ _ _ _ _ c.if-due-piece.true (rw c.in-More.is at (c.in-Ok.ensures.hears old taken is)) c.in_default-flush.ensures.puts

pub returns-in_default-next-clause-hears : goal.returns-in_default-next-clause-hears
returns-in_default-next-clause-hears g c old taken is =
    rw c.in-More.is (put_whole_piece old taken _ c.args.room _ c.min-due.ensures _ _ _ _ _ c.if-due-piece.false (rw c.in-More.is at (c.in-Ok.ensures.hears old taken is)) c.in_default-flush.ensures.puts)

pub returns-in_default-next-2-clause-hears : goal.returns-in_default-next-2-clause-hears
returns-in_default-next-2-clause-hears g c old taken is =
    rw c.in_default-next.is (put_quit old taken _ c.args.room _ c.min-due.ensures _ _ _ _ c.hear_bytes.new.splitter (rw c.in_default-next.is at (c.in-Ok.ensures.hears old taken is)) c.in_default-flush.ensures.puts)
