use Rattle.roman_joint.proofs.Common.{◌≡◌, ℕ, ◌+◌, ◌*◌, ◌<◌, Bool, false, not, ◌&&◌, all_below, is_beaten, numbered, is_on, AreRows, system_of, lanes_in, IsRow}
use Rattle.roman_joint.proofs.numbered.JointRules.unserved.Given as goal

-- the pairs that no seat so far serves are left
abbrev pub invariant-loop-k : goal.invariant-loop-k
invariant-loop-k l = record {
  lost : (x : ℕ) (gone : ℕ → Bool) → IsRow (system_of l.self) x l.row → AreRows (lanes_in (system_of l.self)) (λ q. not (gone q)) l.words → (lane : ℕ) → lane < lanes_in (system_of l.self) →
      is_on l.left lane ≡ (is_on l.wanted lane && all_below (is_beaten (numbered (system_of l.self)) gone (x * lanes_in (system_of l.self) + lane) l.a) l.k);
  within : (lane : ℕ) → is_on l.wanted lane ≡ false → is_on l.left lane ≡ false;
}
