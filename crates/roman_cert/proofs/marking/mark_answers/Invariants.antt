use Rattle.roman_cert.proofs.Common.{◌≡◌, ℕ, ◌||◌, is_marked}
use Rattle.roman_cert.proofs.MarkLemmas.{answers_up_to}
use Rattle.roman_cert.proofs.marking.mark_answers.Given as goal

-- the answers of the seats so far are marked
abbrev pub invariant-loop-k : goal.invariant-loop-k
invariant-loop-k g l = record {
  marked : (q : ℕ) → is_marked l.order q ≡ (is_marked l.fn.order q || answers_up_to (g.J.Rules.arena l.joint) l.fn.order.list l.p l.a l.k q);
  rest : l.order ≡ record l.fn.order { marks = l.order.marks };
}
