use Rattle.roman_cert.proofs.Common.{◌≡◌, ℕ, is_marked}
use Rattle.roman_cert.proofs.MarkLemmas.{rests_from}
use Rattle.roman_cert.proofs.marking.mark_slice.Given as goal

-- the answers to the entries from place i on are marked
abbrev pub invariant-loop-i : goal.invariant-loop-i
invariant-loop-i g l = record {
  marked : (q : ℕ) → is_marked l.order q ≡ rests_from (g.J.Rules.arena l.joint) l.fn.order.list l.p l.i q;
  rest : l.order ≡ record l.fn.order { marks = l.order.marks };
}
