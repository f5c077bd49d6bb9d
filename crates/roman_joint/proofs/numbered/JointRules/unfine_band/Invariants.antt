use Rattle.roman_joint.proofs.Common.{◌≡◌, ℕ, ◌*◌, length, not, numbered, Keeps, system_of, lanes_in, IsRow, band_in}
use Rattle.roman_joint.proofs.numbered.JointRules.unfine_band.Given as goal

-- in the rows so far, the pairs that meet clause 2 are cleared
abbrev pub invariant-loop-i : goal.invariant-loop-i
invariant-loop-i l =
    let s = system_of l.self in
    record {
      long : length l.left ≡ length l.fn.left;
      unfine : (y : ℕ) → IsRow s (y * band_in s) l.row → Keeps (lanes_in s) (y * band_in s) l.i (λ p. not ((numbered s).fine p)) l.fn.left l.left;
    }
