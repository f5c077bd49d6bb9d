-- A word whose bits are set one by one, and its states.
use Rattle.roman_guard.proofs.Common.{◌≡◌, ℕ, ◌+◌, ◌-◌, ◌*◌, ◌%◌, ◌^◌, ◌<◌, ◌≤◌, ◌==◌, ◌↔◌, Bool, true, false, IsTrue, Contains, ap, sym, ◌∙◌, arith, w64, bit_or, below_more, true≢false, if◌then◌else◌, pow-lt, mod-le, cases_lt, or_lt, bit_at_above, bit_at_set_same, bit_at_set_other, has_state, states_below, states_of}
use Rattle.roman_guard.proofs.StateLemmas.{states_below-same, states_below-past, in_states_below, states_below_are}

-- the word has exactly the states below n that pass the test
pub record Marks (word n : ℕ) (test : ℕ → Bool) : Type 0 where
  pub fits : word < 2 ^ n
  pub has : (e : ℕ) → e < n → has_state word e ≡ test e

-- a state past the bits of a word isn't in its set
pub has_state_past : (word e : ℕ) → word < 2 ^ 64 → 64 ≤ e → has_state word e ≡ false
has_state_past word e fits past = ap (λ n. n == 1) (bit_at_above word 64 e fits past)

-- a state that fails the test needs no bit
pub marks_skip : (word n : ℕ) (test : ℕ → Bool) → Marks word n test → test n ≡ false → Marks word (n + 1) test
marks_skip word n test m fails = grind (arith, bit_at_above, pow-lt)

-- a state that passes the test gets its bit
pub marks_one : (word n : ℕ) (test : ℕ → Bool) → n < 64 → Marks word n test → test n ≡ true → Marks (bit_or word (1 * 2 ^ n % 2 ^ 64)) (n + 1) test
marks_one word n test within m passes =
    record {
      fits =
          let wider : 2 ^ n < 2 ^ (n + 1) = pow-lt (omega arith) in
          let cut : 1 * 2 ^ n % 2 ^ 64 ≤ 1 * 2 ^ n = mod-le (1 * 2 ^ n) (2 ^ 64) in
          or_lt (n + 1) word (1 * 2 ^ n % 2 ^ 64) (omega (arith, m.fits)) (omega arith);
      has = below_more (λ e. has_state (bit_or word (1 * 2 ^ n % 2 ^ 64)) e ≡ test e) n (λ e h. ap (λ b. b == 1) (bit_at_set_other w64 word n within e (λ same. omega arith)) ∙ m.has e h)
          (ap (λ b. b == 1) (bit_at_set_same w64 word n within) ∙ sym passes);
    }

-- the word has no state from n on
pub marked_past : (word n : ℕ) (test : ℕ → Bool) → Marks word n test → (e : ℕ) → n ≤ e → has_state word e ≡ false
marked_past word n test m e h = ap (λ b. b == 1) (bit_at_above word n e m.fits h)

-- the states of the word are the states below n that pass
pub marked_states : (word n : ℕ) (test : ℕ → Bool) → n ≤ 64 → Marks word n test → states_of word ≡ states_below test n
marked_states word n test h m =
    let whole : 64 ≡ n + (64 - n) = omega arith in
    ap (states_below (has_state word)) whole ∙ states_below-past _ _ _ (marked_past _ _ _ m) ∙ states_below-same _ _ _ m.has

has_below : (word n : ℕ) (test : ℕ → Bool) → Marks word n test → (e : ℕ) → has_state word e ≡ true → Contains (states_below test n) e
has_below word n test m e has = grind (arith, cases_lt, in_states_below, (m.has e), (marked_past word n test m e), true≢false)

-- the word has exactly the states below n that pass
pub marked_has_exactly : (word n : ℕ) (test : ℕ → Bool) → Marks word n test → (e : ℕ) → IsTrue (has_state word e) ↔ Contains (states_below test n) e
marked_has_exactly word n test m e = (has_below word n test m e, λ c. let p = states_below_are test n e c in m.has e p.0 ∙ p.1)
