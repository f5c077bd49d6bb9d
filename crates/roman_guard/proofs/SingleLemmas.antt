-- A word with one bit stands for one state.
use Rattle.roman_guard.proofs.Common.{◌≡◌, ℕ, ◌+◌, ◌*◌, ◌%◌, ◌^◌, ◌<◌, ◌==◌, false, [], ◌∷◌, ◌++◌, refl, ap, sym, subst, ◌∙◌, arith, or_zero_l, eq-eqb, ne_eqb, one_shl, pow_pos, bit_at-zero, states_of}
use Rattle.roman_guard.proofs.StateLemmas.{states_below-passing, states_below-none}
use Rattle.roman_guard.proofs.MarkLemmas.{Marks, marks_one, marked_states}

other : (k e : ℕ) → k < e → (k == e) ≡ false
other k e h = ne_eqb k e (λ same. omega arith)

-- one bit marks one state
pub marks_single : (e : ℕ) → e < 64 → Marks (1 * 2 ^ e % 2 ^ 64) (e + 1) (λ k. k == e)
marks_single e h =
    subst (λ w. Marks w (e + 1) (λ k. k == e)) (or_zero_l (1 * 2 ^ e % 2 ^ 64))
    (marks_one 0 e (λ k. k == e) h (record { fits = pow_pos e; has = λ k l. ap (λ b. b == 1) (bit_at-zero k) ∙ sym (other k e l) }) (eq-eqb e e refl))

pub single_states : (e : ℕ) → e < 64 → states_of (1 * 2 ^ e % 2 ^ 64) ≡ e ∷ []
single_states e h =
    marked_states _ _ _ (omega arith) (marks_single _ h) ∙ states_below-passing _ _ (eq-eqb e e refl) ∙ ap (λ xs. xs ++ e ∷ []) (states_below-none _ _ (λ k l. other _ _ l))

pub states_of-single : (e : ℕ) → e < 64 → states_of (2 ^ e) ≡ e ∷ []
states_of-single e h = ap states_of (sym (one_shl e 64 h)) ∙ single_states e h
