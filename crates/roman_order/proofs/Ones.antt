-- The number of lanes of a word.
use Rattle.roman_order.proofs.Common.{◌≡◌, ℕ, ◌%◌, ◌^◌, ◌<◌, cond, filter, length, sym, ap, ◌∙◌, arith, count_ones, ◌*◌, ◌-◌, bit_and, bit_at, length-filter, below, sum_by_same, is_on, set_lanes, pow-lt, and_mask, low_ones, bit_is}

-- the number of lanes below a lane
ones_before : (word lane : ℕ) → count_ones (word % 2 ^ lane) ≡ length (filter (is_on word) (below lane))
ones_before word lane = low_ones word lane ∙ (sum_by_same (bit_at word) (λ l. cond (is_on word l) 1 0) (below lane) (λ l i. bit_is word l) ∙ sym (length-filter (is_on word) (below lane)))

-- the number of lanes below a lane, as the code counts it
pub ones_below : (word lane : ℕ) → lane < 64 → count_ones (bit_and word (1 * 2 ^ lane % 2 ^ 64 - 1)) ≡ length (filter (is_on word) (below lane))
ones_below word lane l = grind (arith, (and_mask word lane), (ones_before word lane), (pow-lt l))

-- a word has as many ones as lanes
pub ones_of : (word : ℕ) → word < 2 ^ 64 → count_ones word ≡ length (set_lanes word)
unfolding set_lanes
ones_of word fits = let whole : word % 2 ^ 64 ≡ word = omega arith in sym (ap count_ones whole) ∙ ones_before word 64
