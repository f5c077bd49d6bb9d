use Rattle.roman_joint.proofs.Common.{◌≡◌, ℕ, ◌+◌, ◌*◌, ◌≤◌, Bool, not, sum_by, below, numbered, AreRows, served_by, system_of, lanes_in, IsRow, band_in, AllAlive}
use Rattle.roman_joint.proofs.band.served_by.Given as goal

-- the pairs of the rows so far at which the seat serves are counted
abbrev pub invariant-loop-i : goal.invariant-loop-i
invariant-loop-i l =
    let s = system_of l.joint in
    record {
      counted : (y : ℕ) (gone : ℕ → Bool) → IsRow s (y * band_in s) l.attempt.row.now → AreRows (lanes_in s) (λ q. not (gone q)) l.attempt.words.now → AllAlive s gone l.attempt.to l.alive →
          l.count ≡ sum_by (λ i. served_by (numbered s) gone (lanes_in s) (y * band_in s + i) l.attempt.action l.k) (below l.i);
      bound : l.count ≤ 64 * l.i;
    }
