-- Known answers of a row remain correct, and counts of the numbers below a bound.
use Rattle.roman_rules.proofs.Common.{◌≡◌, ◌≢◌, ℕ, ◌+◌, ◌*◌, ◌%◌, ◌^◌, ◌<◌, bit_at, bit_or, w32, bit_at_set_same, bit_at_set_other, Bool, true, false, cond, [], ◌∷◌, count_by, IsTrue, IsFalse, refl, ◌∙◌, arith, cond-true, below, Arena, justified_more, unallowed_unjustified, on_zero, on_full, shr_and_one, bit_of, HoldsWhereKnown, readings_of, RowProbe}
use Rattle.roman_rules.proofs.Serving.{sum_below_more}

-- known answers remain correct after more pairs are gone
pub known_more : (A : Arena ℕ) (lanes : ℕ) (gone more : ℕ → Bool) (probe : RowProbe) → ((q : ℕ) → IsTrue (gone q) → IsTrue (more q)) → HoldsWhereKnown A lanes gone probe → HoldsWhereKnown A lanes more probe
known_more A lanes gone more probe h known = grind (arith, justified_more)

-- Bits of a set.

pub added_same : (bits k : ℕ) → k < 32 → bit_at (bit_or bits (1 * 2 ^ k % 2 ^ 32)) k ≡ 1
added_same = bit_at_set_same w32

pub added_other : (bits k : ℕ) → k < 32 → (j : ℕ) → j ≢ k → bit_at (bit_or bits (1 * 2 ^ k % 2 ^ 32)) j ≡ bit_at bits j
added_other = bit_at_set_other w32

pub bit_off : (test : Bool) → bit_of test ≡ 0 → IsFalse test
bit_off true off = absurd (omega arith)
bit_off false off = refl

-- Counts.

pub count_below_more : (f : ℕ → Bool) (n : ℕ) → count_by f (below (n + 1)) ≡ count_by f (below n) + cond (f n) 1 0
count_below_more f n = sum_below_more (λ i. cond (f i) 1 0) n

pub readings_of-allowed : (A : Arena ℕ) (p a : ℕ) → IsTrue (A.allows p a) → readings_of A p a ≡ count_by A.ready (below A.seats)
unfolding readings_of
readings_of-allowed A p a t = cond-true (A.allows p a) (count_by A.ready (below A.seats)) 0 t

-- the answers of a row's seats, and the cost of probing them
pub ruleset probing = (bit_off, on_zero, on_full, shr_and_one, unallowed_unjustified)
