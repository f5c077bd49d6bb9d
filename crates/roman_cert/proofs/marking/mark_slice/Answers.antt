use Rattle.roman_cert.proofs.Common.{◌≡◌, length, ap, ◌∙◌, arith, Board, is_marked, numbered_same}
use Rattle.roman_cert.proofs.MarkLemmas.{rests_from, rests_all, rests_back}
use Rattle.roman_cert.proofs.marking.mark_slice.Goals as goal

pub loop-i-preserved : goal.loop-i-preserved
loop-i-preserved g c =
    let A = g.J.Rules.arena c.args.joint.now in
    let L = c.args.order.now.list in
    let list : c.loop-i.order.list ≡ L = ap (λ (b : Board). b.list) c.loop-i.invariant.rest in
    let begun : length c.mark.new.self.list ≡ length L = ap (λ (b : Board). length b.list) (c.mark.ensures.rest ∙ ap (λ (b : Board). record b { marks = c.mark.new.self.marks }) c.clear_marks.ensures.rest) in
    record {
      marked = rests_back A (numbered_same A c.known.ensures.numbered) L c.requires.order.1 c.args.p c.loop-i.order.list c.loop-i.i (is_marked c.loop-i.order) (is_marked c.visit.new.order) list c.loop-i-test.true
          (omega (arith, c.len-i.ensures.value)) c.loop-i.invariant.marked c.visit.ensures.marked;
      rest = c.visit.ensures.rest ∙ ap (λ (b : Board). record b { marks = c.visit.new.order.marks }) c.loop-i.invariant.rest;
    }

pub returns-clause-marked : goal.returns-clause-marked
returns-clause-marked g c q = grind (arith, numbered_same, rests_all, rests_from)
