use Rattle.roman_check.proofs.Common.{List, ℕ, not, Entry, is_listed, AreRows, HasLanes, could_be_by}
use Rattle.roman_check.proofs.missing.missing_in.Given as goal

-- clause 2 and the actions so far are probed for
abbrev pub invariant-loop-a : goal.invariant-loop-a
invariant-loop-a g l =
    let A = g.J.Rules.arena l.joint in
    let lanes = g.J.Rules.lanes l.joint in
    (L : List (Entry ℕ)) → AreRows lanes (λ p. not (is_listed A L p)) l.words → HasLanes lanes l.x (could_be_by A L l.a) l.missing
