use Rattle.roman_radix.proofs.Common.{◌≡◌, ℕ, ◌+◌, ◌<◌, ◌≤◌, length, get_or, take, drop, product_of}
use Rattle.roman_radix.proofs.shape.strides_over.Given as goal

abbrev pub invariant-loop-k : goal.invariant-loop-k
invariant-loop-k l =
    let ns = take l.components l.sizes in
    record {
      within : l.k ≤ l.components;
      product : l.stride ≡ product_of (drop l.k ns);
      long : length l.strides ≡ 32;
      table : (i : ℕ) → l.k ≤ i → i < l.components → get_or l.strides i 0 ≡ product_of (drop (i + 1) ns);
      rest : (i : ℕ) → l.components ≤ i → get_or l.strides i 0 ≡ 0;
    }

abbrev pub decreases-loop-k : goal.decreases-loop-k
decreases-loop-k l = l.k
