use Rattle.roman_relation.proofs.Common.{◌≡◌, ◌+◌, ◌*◌, ◌≤◌, length, sum_by, below, is_listed, mask}
use Rattle.roman_relation.proofs.masks.band_choices.Given as goal

-- the actions so far are counted
abbrev pub invariant-loop-a : goal.invariant-loop-a
invariant-loop-a g l =
    let A = g.J.Rules.arena l.joint in
    let n = g.J.Rules.lanes l.joint in
    let w = g.J.Rules.band l.joint in
    record {
      counted : l.count ≡ sum_by (λ a. sum_by (λ i. sum_by (λ lane. length (mask A (is_listed A l.order.list) ((l.y * w + i) * n + lane) a)) (below n)) (below w)) (below l.a);
      bound : l.count ≤ 131072 * l.a;
    }
