-- Sets of small numbers, as the bits of a word.
use Rattle.std.specs.Prelude.{◌≡◌, ℕ, ◌<◌, ◌==◌, Bool, if◌then◌else◌}
use Rattle.std.specs.Int.{bit_at}

-- 1 for true, 0 for false
abbrev pub bit_of : Bool → ℕ
bit_of b = if b then 1 else 0

-- bit k is set exactly when k passes the test, for each k below 32
pub record HasBits (bits : ℕ) (test : ℕ → Bool) : Type 0 where
  pub each : (k : ℕ) → k < 32 → bit_at bits k ≡ bit_of (test k)

-- seat k is in the set of seats with these bits
abbrev pub has_seat : ℕ → ℕ → Bool
has_seat bits k = bit_at bits k == 1
