use Rattle.roman_relation.proofs.Common.{◌≡◌, ◌+◌, ◌*◌, ◌≤◌, length, sum_by, below, is_listed, mask}
use Rattle.roman_relation.proofs.masks.choices.Given as goal

-- the bands so far are counted
abbrev pub invariant-loop-y : goal.invariant-loop-y
invariant-loop-y g l =
    let A = g.J.Rules.arena l.joint in
    let n = g.J.Rules.lanes l.joint in
    let w = g.J.Rules.band l.joint in
    record {
      counted : l.count ≡ sum_by (λ y. sum_by (λ a. sum_by (λ i. sum_by (λ lane. length (mask A (is_listed A l.order.list) ((y * w + i) * n + lane) a)) (below n)) (below w)) (below A.actions)) (below l.y);
      bound : l.count ≤ 4194304 * l.y;
    }
