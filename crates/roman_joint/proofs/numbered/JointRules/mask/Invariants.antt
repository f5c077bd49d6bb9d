use Rattle.roman_joint.proofs.Common.{◌≡◌, ℕ, ◌+◌, ◌*◌, ◌<◌, ◌≤◌, Bool, not, bit_at, has, mask, numbered, AreRows, bit_of, system_of, lanes_in, IsRow}
use Rattle.roman_joint.proofs.numbered.JointRules.mask.Given as goal

-- the mask is right for the seats so far, and has no other seat
abbrev pub invariant-loop-k : goal.invariant-loop-k
invariant-loop-k l =
    let s = system_of l.self in
    record {
      bits : (x : ℕ) (gone : ℕ → Bool) → IsRow s x l.row → AreRows (lanes_in s) (λ q. not (gone q)) l.words → (j : ℕ) → j < l.k → bit_at l.mask j ≡ bit_of (has (mask (numbered s) gone (x * lanes_in s + l.lane) l.a) j);
      rest : (j : ℕ) → l.k ≤ j → bit_at l.mask j ≡ 0;
    }
