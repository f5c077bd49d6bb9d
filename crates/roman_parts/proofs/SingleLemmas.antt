-- Steps without a choice go to at most one state, and a choice has a state of both guards.
use Rattle.roman_parts.proofs.Common.{◌≡◌, ℕ, ◌<◌, ◌==◌, ◌&&◌, ◌^◌, not, List, length, get_or, map, All, true, Option, Some, None, is_some, option_map, IsTrue, refl, sym, ap, ◌∙◌, arith, slice_get, inl, inr, and_from, cases_lt, cases_order, eq-eqb, eqb-true, true≢false, get_or-map, length-map, same_Some, slice_get-get_or, none-some, IsIn, below, normal_beh, Beh, Move, has, IsDeterministic, any_from, any_true, in_below, in_contains, by_test, find_found, find_least, find_some, move_test, has_state, states_of, move_of, listed_beh, first_below, choice_between, choice_at, choice_with, choice_of, option_and_then, bit_at_above, states_below_are}
use Rattle.roman_parts.proofs.NormalLemmas.{from_normal_move}

-- ---- results of the search for the first value

-- if the search finds a number, f has the value there
found_at : {X : Type 0} (f : ℕ → Option X) (n k : ℕ) (x : X) → first_below f n ≡ Some (k, x) → (k < n) × (f k ≡ Some x)
unfolding first_below
found_at {X} f n k x h = grind (arith, find_least, none-some, same_Some)

-- if the search finds no number, f has no value
nothing_at : {X : Type 0} (f : ℕ → Option X) (n j : ℕ) → first_below f n ≡ None → j < n → f j ≡ None
unfolding first_below
nothing_at {X} f n j h less = by_given (f j) refl
  where
    by_place : (k : ℕ) (o : Option X) → f k ≡ o → is_some o ≡ true → option_map {U = ℕ × X} (λ y. (k, y)) o ≡ None → ⊥
    by_place k None e t g = true≢false (sym t)
    by_place k (Some y) e t g = none-some (k, y) (sym g)

    by_given : (o : Option X) → f j ≡ o → f j ≡ None
    by_given None e = e
    by_given (Some y) e =
        let (k, found) = find_found (λ i. is_some (f i)) (below n) (any_from (λ i. is_some (f i)) j (below n) (in_below n j less) (ap is_some e)) in
        let (in', t, least) = find_least (λ i. is_some (f i)) n k found in
        absurd (by_place k (f k) refl t (sym (ap (λ o. option_and_then (λ i. option_map {U = ℕ × X} (λ z. (i, z)) (f i)) o) found) ∙ h))

-- ---- no choice

-- two steps from one state by one action to different states, with a state in both guards, form a choice
no_choice : (m n : Move) (e : ℕ) → choice_between (Some m) (Some n) ≡ None → m.from ≡ n.from → m.action ≡ n.action → IsIn e m.guard → IsTrue (has n.guard e) → m.to ≡ n.to
unfolding choice_between
no_choice m n e none from action here there = grind (arith, (and_from (m.from == n.from && m.action == n.action) (not (m.to == n.to))), (and_from (m.from == n.from) (m.action == n.action) (eq-eqb m.from n.from from) (eq-eqb m.action n.action action)), (any_from (has n.guard) e m.guard here there), by_test, (eq-eqb m.from n.from from), (eq-eqb m.action n.action action), eqb-true, (find_found (has n.guard) m.guard (any_from (has n.guard) e m.guard here there)), none-some)

module _ (steps : List Move) (none : choice_of steps ≡ None) where
  apart : (i j : ℕ) (m n : Move) → i < j → j < length steps → slice_get steps i ≡ Some m → slice_get steps j ≡ Some n → choice_between (Some n) (Some m) ≡ None
  unfolding choice_of choice_with choice_at
  apart i j m n less within at_i at_j =
      let nothing : choice_at steps j i ≡ None = nothing_at (choice_at steps j) j i (nothing_at (choice_with steps) (length steps) j none within) less in
      sym (ap (λ o. choice_between o (Some m)) at_j) ∙ sym (ap (λ o. choice_between (slice_get steps j) o) at_i) ∙ nothing

  one_to : (b e a : ℕ) (m n : Move) (b1 b2 : ℕ) → IsIn m steps → IsIn n steps → IsTrue (m.from == b && m.action == a && has m.guard e && m.to == b1)
      → IsTrue (n.from == b && n.action == a && has n.guard e && n.to == b2) → b1 ≡ b2
  one_to b e a m n b1 b2 m_in n_in m_test n_test =
      let (m_from, m_action, m_guard, m_to) = move_test m b e a b1 m_test in
      let (n_from, n_action, n_guard, n_to) = move_test n b e a b2 n_test in
      let (i, i_in, at_i) = in_contains steps m m_in in
      let (j, j_in, at_j) = in_contains steps n n_in in
      let get_i : slice_get steps i ≡ Some m = slice_get-get_or steps i m i_in ∙ ap Some at_i in
      let get_j : slice_get steps j ≡ Some n = slice_get-get_or steps j n j_in ∙ ap Some at_j in
      elim (cases_order i j) [
        | inl same ↦ sym m_to ∙ ap (λ (x : Move). x.to) (same_Some m n (sym get_i ∙ ap (slice_get steps) same ∙ get_j)) ∙ n_to
        | inr (inl before) ↦
            sym m_to ∙ sym (no_choice n m e (apart i j m n before j_in get_i get_j) (n_from ∙ sym m_from) (n_action ∙ sym m_action) n_guard (any_from (λ s. s == e) e m.guard m_guard (eq-eqb e e refl))) ∙ n_to
        | inr (inr after) ↦
            sym m_to ∙ no_choice m n e (apart j i n m after i_in get_j get_i) (m_from ∙ sym n_from) (m_action ∙ sym n_action) m_guard (any_from (λ s. s == e) e n.guard n_guard (eq-eqb e e refl)) ∙ n_to
      ]

-- a behaviour whose steps form no choice goes to at most one state
pub single_moves : (env_states actions : ℕ) (beh : Beh) → choice_of beh.steps ≡ None → IsDeterministic (normal_beh env_states actions beh)
single_moves env_states actions beh none b e a b1 b2 h1 h2 =
    let own1 = (from_normal_move env_states actions beh b e a b1 h1).4 in
    let own2 = (from_normal_move env_states actions beh b e a b2 h2).4 in
    let (m, m_in, m_test) = any_true (λ x. x.from == b && x.action == a && has x.guard e && x.to == b1) beh.steps own1 in
    let (n, n_in, n_test) = any_true (λ x. x.from == b && x.action == a && has x.guard e && x.to == b2) beh.steps own2 in
    one_to beh.steps none b e a m n b1 b2 m_in n_in m_test n_test

-- the same for a target from lists
pub single_steps : (env_states actions states start : ℕ) (finals : List ℕ) (steps : List (ℕ × ℕ × ℕ × ℕ)) → choice_of (map move_of steps) ≡ None
    → IsDeterministic (normal_beh env_states actions (listed_beh states start finals steps))
single_steps env_states actions states start finals steps none = single_moves env_states actions (listed_beh states start finals steps) none

-- ---- a choice

guard_has : (m : Move) (o : Option Move) (e : ℕ) → choice_between (Some m) o ≡ Some e → IsIn e m.guard
unfolding choice_between
guard_has m None e h = absurd (none-some e h)
guard_has m (Some n) e h = grind (arith, find_some, none-some)

state_below : (word n e : ℕ) → word < 2 ^ n → IsIn e (states_of word) → e < n
state_below word n e fits i =
    let (small, has) = states_below_are (has_state word) 64 e (in_contains (states_of word) e i) in
    elim (cases_lt e n) [
      | inl less ↦ less
      | inr past ↦ absurd (true≢false (sym has ∙ ap (λ b. b == 1) (bit_at_above word n e fits past)))
    ]

-- a choice is between two steps of the list, in a state below the bound of their guards
pub choice_within : (steps : List (ℕ × ℕ × ℕ × ℕ)) (n j i e : ℕ) → All (λ m. m.1 < 2 ^ n) steps → choice_of (map move_of steps) ≡ Some (j, (i, e))
    → (j < length steps) × (i < j) × (e < n)
unfolding choice_of choice_with choice_at
choice_within steps n j i e bound h =
    let (j_in, with_j) = found_at (choice_with (map move_of steps)) (length (map move_of steps)) j (i, e) h in
    let (less, at) = found_at (choice_at (map move_of steps) j) j i e with_j in
    let within : j < length steps = omega (arith, j_in, length-map steps move_of) in
    let d : ℕ × ℕ × ℕ × ℕ = (0, 0, 0, 0) in
    let get : slice_get (map move_of steps) j ≡ Some (move_of (get_or steps j d)) =
    slice_get-get_or (map move_of steps) j (move_of d) j_in ∙ ap Some (get_or-map move_of steps j d (move_of d) within) in
    let in_guard : IsIn e (states_of (get_or steps j d).1) =
    guard_has (move_of (get_or steps j d)) (slice_get (map move_of steps) i) e (sym (ap (λ o. choice_between o (slice_get (map move_of steps) i)) get) ∙ at) in
    (within, less, state_below (get_or steps j d).1 n e (bound j d within) in_guard)
