-- The seats that may rest.
use Rattle.roman_joint.proofs.Common.{◌≡◌, ℕ, ◌+◌, ◌*◌, ◌<◌, ◌≤◌, Bool, true, false, not, ◌&&◌, ◌||◌, inl, inr, ltb, length, slice_get, slice_index, ap, ap₂, ◌∙◌, sym, arith, and_parts, both_ways, cases_lt, lt-ltb, le-ltb, or_right, by_test, all_below_at, all_below_from, same_test, length-map, low_of-le, row_sizes, all_below, is_final, Sys, Seat, is_on, sizes_of, numbered, IsSizes, lanes_in, low_in, lane_state_of, IsRow, may_rest, HasResting, mid_in, band_in, Row}
use Rattle.roman_joint.proofs.AllowedLemmas.{fine_there}
use Rattle.roman_joint.proofs.LeadLemmas.{lane_part}
use Rattle.roman_joint.proofs.BandLemmas.{row_in, in_band, mid_low_le}

pub low_seats : (s : Sys) → low_in s ≤ length s.seats
low_seats s = omega (arith, low_of-le (sizes_of s).seats, length-map s.seats (λ (seat : Seat). seat.beh.states))

pub none_own : (mid : ℕ) (p : ℕ → Bool) → all_below (λ k. ltb k mid || p k) mid ≡ true
none_own mid p = all_below_from (λ k. ltb k mid || p k) mid (λ k l. ap (λ t. t || p k) (lt-ltb k mid l))

-- one number that doesn't pass decides
pub stopped : (p : ℕ → Bool) (k n : ℕ) → k < n → p k ≡ false → false ≡ all_below p n
stopped p k n l off = by_test (all_below p n) (λ t. absurd (both_ways (p k) off (all_below_at p n k t l))) (λ f. sym f)

-- a test of all numbers, split at one of them
split_at : (f q p : ℕ → Bool) (m n : ℕ) → m ≤ n → ((k : ℕ) → k < m → f k ≡ p k) → ((k : ℕ) → m ≤ k → k < n → q k ≡ p k) → (all_below f m && all_below (λ k. ltb k m || q k) n) ≡ all_below p n
split_at f q p m n l front back = same_test _ _
    (λ t. let (u, v) = and_parts (all_below f m) (all_below (λ k. ltb k m || q k) n) t in all_below_from p n (λ k i. elim (cases_lt k m) [
      | inl low ↦ sym (front k low) ∙ all_below_at f m k u low
      | inr past ↦ sym (ap (λ b. b || q k) (le-ltb k m past) ∙ back k past i) ∙ all_below_at (λ k. ltb k m || q k) n k v i
    ]))
    (λ t. ap₂ (λ u v. u && v) (all_below_from f m (λ k i. front k i ∙ all_below_at p n k t (omega arith))) (all_below_from (λ k. ltb k m || q k) n (λ k i. elim (cases_lt k m) [
      | inl low ↦ ap (λ b. b || q k) (lt-ltb k m low)
      | inr past ↦ or_right (ltb k m) (q k) (back k past i ∙ all_below_at p n k t i)
    ])))

-- clause 2 at a pair of a row, by the seats before the lanes and those within them
pub fine_row : (s : Sys) (row : Row) (x lane : ℕ) → IsSizes (sizes_of s) → IsRow s x row → lane < lanes_in s →
    (numbered s).fine (x * lanes_in s + lane) ≡ (not (is_final s.target row.target) || (all_below (λ k. may_rest (slice_get s.seats k) (slice_index row.states k)) (low_in s)
    && all_below (λ k. ltb k (low_in s) || may_rest (slice_get s.seats k) (lane_state_of (sizes_of s) k lane)) (length s.seats)))
fine_row s row x lane sizes ok l =
    fine_there s row x lane ok l
    ∙ ap (λ b. not (is_final s.target row.target) || b) (sym (split_at (λ k. may_rest (slice_get s.seats k) (slice_index row.states k)) (λ k. may_rest (slice_get s.seats k) (lane_state_of (sizes_of s) k lane)) _ (low_in s) (length s.seats) (low_seats s)
    (λ k low. ap (may_rest (slice_get s.seats k)) (sym (ok.states k lane low l)))
    (λ k past inside. ap (may_rest (slice_get s.seats k)) (sym (lane_part (sizes_of s) x lane k sizes (ok.below lane l) past (omega (arith, inside, length-map s.seats (λ (seat : Seat). seat.beh.states))))))))

-- clause 2 at a pair of a band, by the seats before the band's own, the band's own and those within the lanes
pub fine_band : (s : Sys) (row : Row) (y i lane resting : ℕ) → IsSizes (sizes_of s) → IsRow s (y * band_in s) row → i < band_in s → lane < lanes_in s → HasResting s resting →
    (numbered s).fine ((y * band_in s + i) * lanes_in s + lane)
    ≡ (not (is_final s.target row.target) || ((all_below (λ k. may_rest (slice_get s.seats k) (slice_index row.states k)) (mid_in s) && all_below (λ k. ltb k (mid_in s) || may_rest (slice_get s.seats k) (lane_state_of (row_sizes (sizes_of s)) k i)) (low_in s)) && is_on resting lane))
fine_band s row y i lane resting sizes ok h l rests =
    let here = in_band s y i row sizes ok h in
    let now = row_in s (y * band_in s + i) row in
    let split = split_at (λ k. may_rest (slice_get s.seats k) (slice_index row.states k)) (λ k. may_rest (slice_get s.seats k) (lane_state_of (row_sizes (sizes_of s)) k i)) (λ k. may_rest (slice_get s.seats k) (slice_index now.states k))
    (mid_in s) (low_in s) (mid_low_le s) (λ k low. ap (may_rest (slice_get s.seats k)) (sym (here.before k low))) (λ k past low. ap (may_rest (slice_get s.seats k)) (sym (here.within k past low))) in
    fine_row s now (y * band_in s + i) lane sizes here.looked l ∙ ap₂ (λ a b. not (is_final s.target row.target) || (a && b)) (sym split) (sym (rests lane l))
