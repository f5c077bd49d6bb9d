-- The numbers below a bound that pass a test.
use Rattle.roman_guard.proofs.Common.{◌≡◌, ℕ, zero, suc, ◌+◌, ◌<◌, ◌≤◌, inl, inr, Bool, true, false, cond, [], ◌∷◌, ◌++◌, filter, Contains, refl, ap, sym, ◌∙◌, arith, add-one, below_more, range_with_len, append-nil, filter-append, Contains-append_left, Contains-append_right, Contains-append_cases, states_below}

range_more : (a n : ℕ) → range_with_len a (suc n) ≡ range_with_len a n ++ (a + n) ∷ []
range_more a zero = let e : a ≡ a + 0 = omega arith in ap (λ x. x ∷ []) e
range_more a (suc n) = grind (arith, (range_more (a + 1) n))

-- n comes last if it passes
pub states_below-suc : (test : ℕ → Bool) (n : ℕ) → states_below test (suc n) ≡ states_below test n ++ cond (test n) (n ∷ []) []
unfolding states_below
states_below-suc test n =
    let e : 0 + n ≡ n = omega arith in
    ap (filter test) (range_more 0 n ∙ ap (λ x. range_with_len 0 n ++ x ∷ []) e) ∙ filter-append test (range_with_len 0 n) (n ∷ [])

pub states_below-more : (test : ℕ → Bool) (n : ℕ) → states_below test (n + 1) ≡ states_below test n ++ cond (test n) (n ∷ []) []
states_below-more test n = rw (add-one n) (states_below-suc test n)

-- no number is below 0
pub states_below-zero : (test : ℕ → Bool) → states_below test 0 ≡ []
unfolding states_below
states_below-zero test = refl

-- a number that passes comes last
pub states_below-passing : (test : ℕ → Bool) (n : ℕ) → test n ≡ true → states_below test (n + 1) ≡ states_below test n ++ n ∷ []
states_below-passing test n h = states_below-more test n ∙ rw h

-- tests that agree below n are passed by the same numbers
pub states_below-same : (p q : ℕ → Bool) (n : ℕ) → ((e : ℕ) → e < n → p e ≡ q e) → states_below p n ≡ states_below q n
states_below-same p q zero h = states_below-zero p ∙ sym (states_below-zero q)
states_below-same p q (suc n) h =
    rw (
      states_below-suc p n,
      states_below-suc q n,
      h n (omega arith),
      states_below-same p q n (λ e k. h e (omega arith)),
    )

-- no number passes if the test fails below n
pub states_below-none : (test : ℕ → Bool) (n : ℕ) → ((e : ℕ) → e < n → test e ≡ false) → states_below test n ≡ []
states_below-none test zero h = states_below-zero test
states_below-none test (suc n) h = rw (states_below-suc test n, h n (omega arith), states_below-none test n (λ e k. h e (omega arith)))

-- a higher bound adds nothing if no number from n on passes
pub states_below-past : (test : ℕ → Bool) (n m : ℕ) → ((e : ℕ) → n ≤ e → test e ≡ false) → states_below test (n + m) ≡ states_below test n
states_below-past test n zero h = let e : n + 0 ≡ n = omega arith in ap (states_below test) e
states_below-past test n (suc m) h =
    let e : n + suc m ≡ suc (n + m) = omega arith in
    let past : n ≤ n + m = omega arith in
    rw (e, states_below-suc _ _, h (n + m) past) (append-nil (states_below test (n + m)) ∙ states_below-past _ _ _ h)

-- a number below n that passes is in the list
pub in_states_below : (test : ℕ → Bool) (n e : ℕ) → e < n → test e ≡ true → Contains (states_below test n) e
in_states_below test zero e h passes = absurd (omega arith)
in_states_below test (suc n) e h passes =
    let last : test n ≡ true → Contains (states_below test n ++ cond (test n) (n ∷ []) []) n =
    λ k. rw k (Contains-append_right (states_below test n) (n ∷ []) n (0, omega arith, refl)) in
    let earlier : (k : ℕ) → k < n → test k ≡ true → Contains (states_below test n ++ cond (test n) (n ∷ []) []) k =
    λ k lt t. Contains-append_left (states_below test n) (cond (test n) (n ∷ []) []) k (in_states_below test n k lt t) in
    rw (states_below-suc test n)
    (below_more (λ k. test k ≡ true → Contains (states_below test n ++ cond (test n) (n ∷ []) []) k) n earlier last e (omega (arith, add-one n, h)) passes)

last_one : (b : Bool) (n e : ℕ) → Contains (cond b (n ∷ []) []) e → (b ≡ true) × (e ≡ n)
last_one true n e (zero, h, same) = (refl, sym same)
last_one true n e (suc k, h, same) = absurd (omega arith)
last_one false n e (k, h, same) = absurd (omega arith)

-- each number in the list is below n and passes
pub states_below_are : (test : ℕ → Bool) (n e : ℕ) → Contains (states_below test n) e → (e < n) × (test e ≡ true)
states_below_are test zero e c = grind (arith, states_below-zero)
states_below_are test (suc n) e c =
    elim (Contains-append_cases (states_below test n) (cond (test n) (n ∷ []) []) e (rw (states_below-suc test n) at c)) [
      | inl before ↦ let p = states_below_are test n e before in (omega (arith, p.0), p.1)
      | inr last ↦ let p = last_one (test n) n e last in (omega (arith, p.1), ap test p.1 ∙ p.0)
    ]
