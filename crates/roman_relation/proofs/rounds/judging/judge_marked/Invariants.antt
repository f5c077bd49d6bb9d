use Rattle.roman_relation.proofs.Common.{◌≡◌, ℕ, ◌*◌, ◌/◌, ◌<◌, ◌⊎◌, Bool, true, not, length, IsTrue, count_by, below, is_marked, AreRows, AddsTo, falls, IsJudged}
use Rattle.roman_relation.proofs.rounds.judging.judge_marked.Given as goal

-- the pairs of each band that was marked are judged, or the band is still marked
abbrev pub invariant-bands : goal.invariant-bands
invariant-bands g l =
    let A = g.J.Rules.arena l.joint in
    let n = g.J.Rules.lanes l.joint in
    let w = g.J.Rules.band l.joint in
    record {
      rest : l.order ≡ record l.fn.order { list = l.order.list; marks = l.order.marks };
      long : length l.left ≡ w;
      fewer : (z : ℕ) → is_marked l.order z ≡ true → is_marked l.fn.order z ≡ true;
      adds : (gone : ℕ → Bool) → AreRows n (λ p. not (gone p)) l.fn.order.before → AddsTo A gone (λ p. IsTrue (falls A gone p) × (is_marked l.fn.order (p / n / w) ≡ true)) l.fn.order.list l.order.list;
      done : (gone : ℕ → Bool) (p : ℕ) → AreRows n (λ q. not (gone q)) l.fn.order.before → p < length A.nodes → is_marked l.fn.order (p / n / w) ≡ true →
          (is_marked l.order (p / n / w) ≡ true) ⊎ IsJudged A gone l.order.list p;
    }

-- each iteration clears a mark
abbrev pub decreases-bands : goal.decreases-bands
decreases-bands g l = count_by (is_marked l.order) (below (64 * length l.order.marks))
