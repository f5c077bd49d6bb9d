-- Lists made from the masks of a list of steps hold the steps of the record in normal form.
use Rattle.roman_parts.proofs.Common.{Bool, IsTrue, List, Some, [], ap, arith, false, filter, length, map, refl, slice_get, subst, suc, sym, true, zero, ℕ, ◌*◌, ◌++◌, ◌+◌, ◌-◌, ◌<◌, ◌==◌, ◌∙◌, ◌∷◌, ◌≡◌, ◌≤◌, get_or, and_parts, eq-eqb, eqb-true, false_from_ne_true, get_or-map, length-map, All-contains, All-filter, filter-append, mul-add-lt, get_or_from_slice_get, slice_get-get_or, list_any, if◌then◌else◌, slice_index_or, states_below-past, states_below-same, states_below-suc, states_below-zero, has_state, states_of, states_below, any_from, any_same, any_true, filter_in, env_from_same, beh_from_same, get_or-below, in_below, in_contains, in_filter, length-below, list_any-map, same_test, below, env_from, normal_env, Env, has, has_move, has_triple, beh_next, beh_prev, env_next, env_prev, MAX_ACTIONS, MAX_STATES, HasMoves, HasTriples, goes, leads, cell_has, automaton_of, list_has, HasGuardedLists, HasStateLists, move_of, triple_of, AreInRange, AreTriples, Cells, IsCountUpTo, guarded_beh, listed_beh, listed_env}
use Rattle.roman_parts.proofs.CellLemmas.{and_turned, four_turned}
use Rattle.roman_parts.proofs.NormalLemmas.{env_next-normal, env_prev-normal, IsEnv-normal, beh_next-normal, beh_prev-normal, IsOver-normal, is_final-normal}

-- the numbers below a bound that pass
pub states_below-filter : (p : ℕ → Bool) (n : ℕ) → states_below p n ≡ filter p (below n)
states_below-filter p zero = states_below-zero p
states_below-filter p (suc n) = states_below-suc p n ∙ ap (λ xs. xs ++ filter p (n ∷ [])) (states_below-filter p n) ∙ sym (filter-append p (below n) (n ∷ []))

-- the list of a cell
list_of_cell : (masks : List ℕ) (k n : ℕ) (p : ℕ → Bool) → k < length masks → n ≤ 64 → ((i : ℕ) → cell_has masks k i ≡ p i) → ((i : ℕ) → n ≤ i → p i ≡ false) →
    slice_get (map states_of masks) k ≡ Some (filter p (below n))
unfolding cell_has
list_of_cell masks k n p within small same past =
    slice_get-get_or _ k [] (omega (arith, length-map masks states_of)) ∙ ap Some (get_or-map states_of masks k 0 [] within ∙ (grind (arith, (states_below-filter p n), (states_below-past p n (64 - n) past), states_below-same)))

-- the steps that lead from a state to another are the steps of the record
triples_added : (back : Bool) (states actions start : ℕ) (steps : List (ℕ × ℕ × ℕ)) (e a n : ℕ) →
    list_any (λ t. leads back t e a n) steps ≡ (if back then has_triple (listed_env states actions start steps) n a e else has_triple (listed_env states actions start steps) e a n)
triples_added false states actions start steps e a n = sym (list_any-map triple_of _ steps)
triples_added true states actions start steps e a n = any_same _ _ steps (λ t i. and_turned (t.2 == e) (t.1 == a) (t.0 == n)) ∙ sym (list_any-map triple_of _ steps)

-- a number below the bound is in the filtered list exactly when it passes
pub has_filter : (p : ℕ → Bool) (n i : ℕ) → i < n → has (filter p (below n)) i ≡ p i
has_filter p n i less = grind (arith, any_from, any_true, (eq-eqb i i refl), eqb-true, filter_in, (in_below n i less), in_filter, (same_test (has (filter p (below n)) i) (p i)))

pub has_states_of : (mask i : ℕ) → i < 64 → has (states_of mask) i ≡ has_state mask i
has_states_of mask i less = ap (λ xs. has xs i) (states_below-filter (has_state mask) 64) ∙ has_filter (has_state mask) 64 i less

-- a list has the numbers below the bound that pass
list_keeps : (p : ℕ → Bool) (lists : List (List ℕ)) (k n i : ℕ) → slice_get lists k ≡ Some (filter p (below n)) → i < n → has (slice_index_or lists k []) i ≡ p i
list_keeps p lists k n i is less = ap (λ xs. has xs i) (get_or_from_slice_get lists k _ [] is) ∙ has_filter p n i less

-- the lists make the normal form, and give its look-ups
pub record AreLaidTriples (states actions start : ℕ) (steps : List (ℕ × ℕ × ℕ)) (to from : List ℕ) : Type 0 where
  pub env : env_from states actions start (list_has actions (map states_of to)) ≡ normal_env (listed_env states actions start steps)
  pub lists : HasStateLists (normal_env (listed_env states actions start steps)) (map states_of to) (map states_of from)

-- the lists made from the masks of a list of steps
module _ (states actions start : ℕ) (steps : List (ℕ × ℕ × ℕ)) (to from : List ℕ)
    (many_states : (0 < states) × (states ≤ MAX_STATES)) (many_actions : (0 < actions) × (actions ≤ MAX_ACTIONS)) (starts : start < states)
    (range : AreTriples states actions steps)
    (to_len : length to ≡ states * actions) (from_len : length from ≡ states * actions)
    (to_has : HasTriples false actions steps to) (from_has : HasTriples true actions steps from) where
  steps_in_range : (e a e' : ℕ) → IsTrue (has_triple (listed_env states actions start steps) e a e') → (e < states) × (a < actions) × (e' < states)
  steps_in_range e a e' t = grind (arith, All-contains, and_parts, any_true, eqb-true, in_contains, list_any-map)

  next_list : (e a : ℕ) → e < states → a < actions → slice_get (map states_of to) (e * actions + a) ≡ Some (env_next (listed_env states actions start steps) e a)
  next_list e a he ha =
      list_of_cell to (e * actions + a) states (has_triple (listed_env states actions start steps) e a) (omega (arith, mul-add-lt e actions a states he ha)) (omega arith)
      (λ e'. to_has.has e a e' ha ∙ triples_added false states actions start steps e a e')
      (λ e' past. false_from_ne_true _ (λ t. let (l, m, n) = steps_in_range e a e' t in let none : ⊥ = omega arith in none))

  prev_list : (e' a : ℕ) → e' < states → a < actions → slice_get (map states_of from) (e' * actions + a) ≡ Some (env_prev (listed_env states actions start steps) e' a)
  prev_list e' a he' ha =
      list_of_cell from (e' * actions + a) states (λ e. has_triple (listed_env states actions start steps) e a e') (omega (arith, mul-add-lt e' actions a states he' ha)) (omega arith)
      (λ e. from_has.has e' a e ha ∙ triples_added true states actions start steps e' a e)
      (λ e past. false_from_ne_true _ (λ t. let (l, m, n) = steps_in_range e a e' t in let none : ⊥ = omega arith in none))

  pub laid_triples : AreLaidTriples states actions start steps to from
  laid_triples = record {
    env = env_from_same states actions start _ _ (λ e a e' he ha he'. list_keeps _ (map states_of to) (e * actions + a) states e' (next_list e a he ha) he');
    lists = record {
      known = IsEnv-normal (listed_env states actions start steps) many_states many_actions starts;
      next = λ e a he ha. next_list e a he ha ∙ ap Some (sym (env_next-normal (listed_env states actions start steps) e a he ha));
      prev = λ e' a he' ha. prev_list e' a he' ha ∙ ap Some (sym (env_prev-normal (listed_env states actions start steps) e' a he' ha));
    };
  }

-- the numbers that are kept are below the bound
pub kept_below : (p : ℕ → Bool) (n k d : ℕ) → k < length (filter p (below n)) → get_or (filter p (below n)) k d < n
kept_below p n k d less = All-filter p (λ x. x < n) (below n) (λ k d less. subst (λ x. x < n) (sym (get_or-below n k d (omega (arith, length-below n)))) (omega (arith, length-below n))) k d less

-- The table of a behaviour.

-- the steps that go from a state to another are the steps of the record
moves_added : (back : Bool) (states start : ℕ) (finals : List ℕ) (steps : List (ℕ × ℕ × ℕ × ℕ)) (b e a n : ℕ) → e < 64 →
    list_any (λ m. goes back m b e a n) steps
    ≡ (if back then has_move (listed_beh states start finals steps) n e a b else has_move (listed_beh states start finals steps) b e a n)
moves_added false states start finals steps b e a n small = any_same _ _ steps (λ m i. rw (has_states_of m.1 e small) refl) ∙ sym (list_any-map move_of _ steps)
moves_added true states start finals steps b e a n small =
    any_same _ _ steps (λ m i. rw (has_states_of m.1 e small) (four_turned (m.3 == b) (m.2 == a) (has_state m.1 e) (m.0 == n))) ∙ sym (list_any-map move_of _ steps)

-- the lists and the mask make the normal form, and give its look-ups
pub record AreLaidMoves (cells : Cells) (start : ℕ) (finals : List ℕ) (steps : List (ℕ × ℕ × ℕ × ℕ)) (mask : ℕ) (to from : List ℕ) : Type 0 where
  pub automaton : automaton_of cells.states cells.env_states cells.actions start mask (map states_of to) ≡ guarded_beh cells start finals steps
  pub lists : HasGuardedLists (guarded_beh cells start finals steps) mask (map states_of to) (map states_of from)

-- the lists made from the masks of a list of steps
module _ (cells : Cells) (start : ℕ) (finals : List ℕ) (steps : List (ℕ × ℕ × ℕ × ℕ)) (mask : ℕ) (to from : List ℕ)
    (many_env_states : IsCountUpTo MAX_STATES cells.env_states) (many_actions : IsCountUpTo MAX_ACTIONS cells.actions)
    (lists : AreInRange cells.states cells.actions start finals steps)
    (mask_has : (b : ℕ) → has_state mask b ≡ has finals b)
    (to_len : length to ≡ cells.states * cells.env_states * cells.actions) (from_len : length from ≡ cells.states * cells.env_states * cells.actions)
    (to_has : HasMoves false cells.env_states cells.actions steps to) (from_has : HasMoves true cells.env_states cells.actions steps from) where
  moves_in_range : (b e a b' : ℕ) → IsTrue (has_move (listed_beh cells.states start finals steps) b e a b') → (b < cells.states) × (a < cells.actions) × (b' < cells.states)
  moves_in_range b e a b' t = grind (arith, All-contains, and_parts, any_true, eqb-true, in_contains, list_any-map)

  place : (b e a : ℕ) → b < cells.states → e < cells.env_states → a < cells.actions → (b * cells.env_states + e) * cells.actions + a < cells.states * cells.env_states * cells.actions
  place b e a hb he ha =
      let row : b * cells.env_states + e < cells.states * cells.env_states = omega (arith, mul-add-lt b cells.env_states e cells.states hb he) in
      omega (arith, mul-add-lt (b * cells.env_states + e) cells.actions a (cells.states * cells.env_states) row ha)

  out_list : (b e a : ℕ) → b < cells.states → e < cells.env_states → a < cells.actions →
      slice_get (map states_of to) ((b * cells.env_states + e) * cells.actions + a) ≡ Some (beh_next (listed_beh cells.states start finals steps) b e a)
  out_list b e a hb he ha =
      list_of_cell to ((b * cells.env_states + e) * cells.actions + a) cells.states (has_move (listed_beh cells.states start finals steps) b e a) (omega (arith, place b e a hb he ha)) (omega arith)
      (λ b'. to_has.has b e a b' he ha ∙ moves_added false cells.states start finals steps b e a b' (omega arith))
      (λ b' past. false_from_ne_true _ (λ t. let (l, m, n) = moves_in_range b e a b' t in let none : ⊥ = omega arith in none))

  into_list : (b' e a : ℕ) → b' < cells.states → e < cells.env_states → a < cells.actions →
      slice_get (map states_of from) ((b' * cells.env_states + e) * cells.actions + a) ≡ Some (beh_prev (listed_beh cells.states start finals steps) b' e a)
  into_list b' e a hb' he ha =
      list_of_cell from ((b' * cells.env_states + e) * cells.actions + a) cells.states (λ b. has_move (listed_beh cells.states start finals steps) b e a b') (omega (arith, place b' e a hb' he ha)) (omega arith)
      (λ b. from_has.has b' e a b he ha ∙ moves_added true cells.states start finals steps b' e a b (omega arith))
      (λ b past. false_from_ne_true _ (λ t. let (l, m, n) = moves_in_range b e a b' t in let none : ⊥ = omega arith in none))

  pub laid_moves : AreLaidMoves cells start finals steps mask to from
  laid_moves = record {
    automaton = ap (λ beh. record { env_states = cells.env_states; actions = cells.actions; beh = beh })
        (beh_from_same cells.env_states cells.actions cells.states start _ _ _ _ (λ b hb. mask_has b) (λ b e a b' hb he ha hb'. list_keeps _ (map states_of to) ((b * cells.env_states + e) * cells.actions + a) cells.states b' (out_list b e a hb he ha) hb'));
    lists = record {
      env_states = many_env_states;
      actions = many_actions;
      start = lists.begins;
      nexts = length-map to states_of ∙ to_len;
      prevs = length-map from states_of ∙ from_len;
      known = IsOver-normal cells.env_states cells.actions (listed_beh cells.states start finals steps) lists.count lists.begins;
      final = λ b hb. is_final-normal cells.env_states cells.actions (listed_beh cells.states start finals steps) b hb ∙ sym (mask_has b);
      next = λ b e a hb he ha. out_list b e a hb he ha ∙ ap Some (sym (beh_next-normal cells.env_states cells.actions (listed_beh cells.states start finals steps) b e a hb he ha));
      prev = λ b' e a hb' he ha. into_list b' e a hb' he ha ∙ ap Some (sym (beh_prev-normal cells.env_states cells.actions (listed_beh cells.states start finals steps) b' e a hb' he ha));
    };
  }

pub env_lists : (env seen : Env) (to from : List (List ℕ)) (e a n : ℕ) → HasStateLists env to from → env ≡ seen → e < seen.states → a < seen.actions → n ≡ env.actions →
    (slice_get to (e * n + a) ≡ Some (env_next seen e a)) × (slice_get from (e * n + a) ≡ Some (env_prev seen e a))
env_lists env seen to from e a n lists is he ha width = grind arith

-- the rules for looking up a list
pub ruleset look_ups = (kept_below)
