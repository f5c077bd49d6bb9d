use Rattle.roman_order.proofs.Common.{refl, arith}
use Rattle.roman_order.proofs.Kept.{apart_more}
use Rattle.roman_order.proofs.order.reading.next_kept.Goals as goal

pub loop-j-preserved : goal.loop-j-preserved
loop-j-preserved c = apart_more c.args.words.now c.args.batches.now c.args.from c.loop-j.j _ (omega arith) (omega arith) (c.if-not-is_apart.ensures refl) c.loop-j.invariant
