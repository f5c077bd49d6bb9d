-- The ones of a number in base 2.
use Rattle.roman_model.proofs.Common.{◌≡◌, ℕ, zero, suc, ◌%◌, ◌^◌, ◌<◌, inl, inr, sym, ap, ◌∙◌, arith, count_ones, sum_by, bit_at, cases_eq, sum_by_push, below, pow_pos, ones_cat, ones_le_self, zero_from_ones, mod-pow-add, bit_at-lt}

bit_ones : (b : ℕ) → b < 2 → count_ones b ≡ b
bit_ones b l = elim (cases_eq (count_ones b) 0) [ inl e ↦ e ∙ sym (zero_from_ones b e) | inr some ↦ omega (arith, ones_le_self b) ]

-- the number of ones among the lowest digits is the sum of these bits
pub low_ones : (n k : ℕ) → count_ones (n % 2 ^ k) ≡ sum_by (bit_at n) (below k)
low_ones n zero = let none : n % 1 ≡ 0 = omega arith in ap count_ones none ∙ bit_ones 0 (omega arith)
low_ones n (suc k) = grind (arith, (bit_at-lt n k), (bit_ones (bit_at n k) (bit_at-lt n k)), (mod-pow-add n 1 k), ones_cat, (pow_pos k), (sum_by_push (bit_at n) (below k) k), (low_ones n k))
