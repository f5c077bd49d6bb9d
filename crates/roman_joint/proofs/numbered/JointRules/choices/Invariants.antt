use Rattle.roman_joint.proofs.Common.{◌≡◌, ℕ, ◌+◌, ◌*◌, ◌≤◌, Bool, not, sum_by, below, numbered, AreRows, served_by, system_of, lanes_in, IsRow, band_in}
use Rattle.roman_joint.proofs.numbered.JointRules.choices.Given as goal

-- the pairs that the seats so far serve are counted
abbrev pub invariant-loop-k : goal.invariant-loop-k
invariant-loop-k l =
    let s = system_of l.self in
    record {
      counted : (y : ℕ) (gone : ℕ → Bool) → IsRow s (y * band_in s) l.row → AreRows (lanes_in s) (λ q. not (gone q)) l.words →
          l.count ≡ sum_by (λ k. sum_by (λ i. served_by (numbered s) gone (lanes_in s) (y * band_in s + i) l.a k) (below (band_in s))) (below l.k);
      bound : l.count ≤ 4096 * l.k;
    }
