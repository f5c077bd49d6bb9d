use Rattle.roman_relation.proofs.Common.{AddsUnfine, IsFineOrListed, ◌≡◌, ℕ, ◌*◌, ◌<◌, length, SettlesOn}
use Rattle.roman_relation.proofs.rounds.unfine.list_unfine.Given as goal

-- the pairs of the bands so far are listed or meet clause 2
abbrev pub invariant-loop-y : goal.invariant-loop-y
invariant-loop-y g l =
    let A = g.J.Rules.arena l.joint in
    record {
      goes_on : SettlesOn A l.fn.order l.order;
      long : length l.left ≡ g.J.Rules.band l.joint;
      fine : (p : ℕ) → p < l.y * g.J.Rules.band l.joint * g.J.Rules.lanes l.joint → IsFineOrListed A l.order.list p;
      because : AddsUnfine A l.fn.order.list l.order.list;
    }
