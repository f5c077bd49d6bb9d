use Rattle.roman_check.proofs.Common.{◌≡◌, ℕ, ◌+◌, ◌*◌, ◌<◌, not, List, length, Entry, is_listed, AreRows, HasLanes, could_be_by}
use Rattle.roman_check.proofs.missing.misses_some.Given as goal

-- clause 2 and the actions so far aren't reasons at the band's pairs that aren't listed
abbrev pub invariant-loop-a : goal.invariant-loop-a
invariant-loop-a g l =
    let A = g.J.Rules.arena l.joint in
    let n = g.J.Rules.lanes l.joint in
    let w = g.J.Rules.band l.joint in
    record {
      long : length l.left ≡ length l.fn.left;
      none : (L : List (Entry ℕ)) → AreRows n (λ p. not (is_listed A L p)) l.words → (i : ℕ) → i < w → HasLanes n (l.y * w + i) (could_be_by A L l.a) 0;
    }
