use Rattle.roman_relation.proofs.Common.{◌≡◌, ℕ, ◌+◌, ◌*◌, ◌/◌, ◌<◌, Bool, true, not, length, IsTrue, IsFalse, is_listed, is_justified, is_on, AreRows, Act, AddsTo, falls}
use Rattle.roman_relation.proofs.rounds.judging.judge.Given as goal

-- the band's pairs are judged for the actions so far
abbrev pub invariant-loop-a : goal.invariant-loop-a
invariant-loop-a g l =
    let A = g.J.Rules.arena l.joint in
    let n = g.J.Rules.lanes l.joint in
    let w = g.J.Rules.band l.joint in
    record {
      rest : l.order ≡ record l.fn.order { list = l.order.list };
      long : length l.left ≡ w;
      adds : (gone : ℕ → Bool) → AreRows n (λ p. not (gone p)) l.fn.order.before → AddsTo A gone (λ p. IsTrue (falls A gone p) × (p / n / w ≡ l.y)) l.fn.order.list l.order.list;
      judged : (gone : ℕ → Bool) (i lane b : ℕ) → AreRows n (λ p. not (gone p)) l.fn.order.before → i < w → lane < n → b < l.a → is_on l.allowed b ≡ true →
          IsFalse (is_listed A l.order.list ((l.x + i) * n + lane)) → IsFalse (is_justified A gone ((l.x + i) * n + lane) (Act b));
    }
