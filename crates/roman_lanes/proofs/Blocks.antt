-- Lists of words of which a block is updated.
use Rattle.roman_lanes.proofs.Common.{◌≡◌, ℕ, ◌+◌, ◌-◌, ◌<◌, ◌≤◌, List, length, get_or, arith, bit_or, chunk, put_chunk, zip2, get_or-chunk, get_or-zip2, length-chunk, length-zip2, get_or-put_chunk_below, get_or-put_chunk_at, get_or-put_chunk_above, UpdatesBetween, AreClear, le_or_l, le_or_r, get_or_past, cases_lt}

-- a vector that is loaded, updated and stored updates the words of its places
pub updates_block : (makes : ℕ → ℕ → ℕ → Type 0) (n at : ℕ) (words lanes : List ℕ) → at + n ≤ length words → length lanes ≡ n → ((k : ℕ) → k < n → makes (at + k) (get_or (chunk at n words) k 0) (get_or lanes k 0)) → UpdatesBetween makes at (at + n) words (put_chunk at words lanes)
updates_block makes n at words lanes room long made = record {
  below = λ i low. get_or-put_chunk_below at words lanes i 0 low;
  each = λ i low high. let here : at + (i - at) ≡ i = omega arith in grind (arith, get_or-chunk, get_or-put_chunk_at, (made (i - at)));
  above = λ i high. get_or-put_chunk_above at words lanes i 0 (omega (arith, long));
}

-- blocks, and the combination of two of them, place by place
pub ruleset chunks = (get_or-chunk, get_or-zip2, length-chunk, length-zip2)

-- if the bitwise or of two vectors is 0, both are 0
either_at : (xs ys : List ℕ) (k : ℕ) → length xs ≡ length ys → get_or (zip2 bit_or xs ys) k 0 ≡ 0 → (get_or xs k 0 ≡ 0) × (get_or ys k 0 ≡ 0)
either_at xs ys k same none = grind (arith, cases_lt, (get_or_past xs k 0), (get_or_past ys k 0), (get_or-zip2 bit_or xs ys k 0 0 0), le_or_l, le_or_r)

pub either_clear : (xs ys : List ℕ) → length xs ≡ length ys → AreClear (zip2 bit_or xs ys) → AreClear xs × AreClear ys
either_clear xs ys same clear = (λ k. (either_at xs ys k same (clear k)).0, λ k. (either_at xs ys k same (clear k)).1)
