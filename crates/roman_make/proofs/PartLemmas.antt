-- The parts that are made are the parts of the definitions.
use Rattle.roman_make.proofs.Common.{◌≡◌, ℕ, ◌<◌, ◌==◌, ◌&&◌, ◌∷◌, [], List, length, get_or, map, take, Bor, Bool, true, IsTrue, nat_lt, codes, refl, ap, sym, ◌∙◌, subst, inl, inr, arith, list_all, and_parts, eqb-true, ltb-true, All-from_recursion, take-map, map-map, states_below, IsIn, normal_beh, Beh, Move, has_move, IsDeterministic, any_true, move_test, from_normal_move, named_env, named_beh, named_target, listed_beh, AreInRange, All, ◌≤◌, MAX_STATES, NamedEnv, idle_worker, floor, floor_states, floor_actions, worker, worker_states, shift, shift_states, FLOOR_STEPS, WORKER_STEPS, SHIFT_STEPS}
use Rattle.std.specs.List.{AllByRecursion as ByRecursion}

-- ---- the environment

-- the environment from the tables is the floor
pub floor_is : (states actions : List (List ℕ)) → states ≡ floor_states → actions ≡ floor_actions → named_env states actions 0 FLOOR_STEPS ≡ floor
unfolding floor
floor_is states actions s a = rw (s, a) refl

-- ---- the steps of machines

-- the steps of a table, each with the guard of every environment state
abbrev pub always : List (ℕ × ℕ × ℕ) → List (ℕ × ℕ × ℕ × ℕ)
always transitions = map (λ t. (t.0, 1, t.1, t.2)) transitions

-- the numbers of a step are in range
abbrev is_within : ℕ → ℕ × ℕ × ℕ × ℕ → Bool
is_within states m = nat_lt m.0 states && nat_lt m.2 5 && nat_lt m.3 states

-- the numbers of a machine over the floor are in range
pub lists_within : (env : NamedEnv) (states : List (List ℕ)) (finals : List ℕ) (steps transitions : List (ℕ × ℕ × ℕ × ℕ)) (n : ℕ) → env ≡ floor → length states ≡ n → steps ≡ transitions
    → (0 < n) × (n ≤ MAX_STATES) → All (λ b. b < n) finals → list_all (is_within n) transitions ≡ true → AreInRange (length states) env.env.actions 0 finals steps
unfolding floor
lists_within env states finals steps transitions n e l r many ends t = rw (e, l, r) (record { count = many; begins = many.0; stops = ends; moves = All-from_recursion (λ m. (m.0 < n) × (m.2 < 5) × (m.3 < n)) transitions (each transitions t) })
  where
    each : (ms : List (ℕ × ℕ × ℕ × ℕ)) → list_all (is_within n) ms ≡ true → ByRecursion (λ m. (m.0 < n) × (m.2 < 5) × (m.3 < n)) ms
    each [] h = tt
    each (m ∷ ms) h =
        let (here, rest) = and_parts (is_within n m) (list_all (is_within n) ms) h in
        let (ends, to) = and_parts (nat_lt m.0 n && nat_lt m.2 5) (nat_lt m.3 n) here in
        let (from, action) = and_parts (nat_lt m.0 n) (nat_lt m.2 5) ends in
        ((ltb-true m.0 n from, ltb-true m.2 5 action, ltb-true m.3 n to), each ms rest)

-- a property of all elements holds of each
each_in : (p : Move → Bool) (ms : List Move) (m : Move) → list_all p ms ≡ true → IsIn m ms → p m ≡ true
each_in p [] m t i = absurd i
each_in p (x ∷ xs) m t (inl e) = subst (λ y. p y ≡ true) (sym e) (and_parts (p x) (list_all p xs) t).0
each_in p (x ∷ xs) m t (inr i) = each_in p xs m (and_parts (p x) (list_all p xs) t).1 i

-- the behaviour over the floor from a table
over_floor : (env : NamedEnv) (states : List (List ℕ)) (finals : List ℕ) (steps transitions : List (ℕ × ℕ × ℕ × ℕ)) (n : ℕ) → env ≡ floor → length states ≡ n → steps ≡ transitions
    → normal_beh env.env.states env.env.actions (listed_beh (length states) 0 finals steps) ≡ normal_beh 1 5 (listed_beh n 0 finals transitions)
unfolding floor
over_floor env states finals steps transitions n e l r = rw (e, l, r) refl

-- ---- the worker

-- the behaviour from the tables is the worker
pub worker_is : (env : NamedEnv) (name : List ℕ) (states : List (List ℕ)) (steps : List (ℕ × ℕ × ℕ × ℕ)) → env ≡ floor → name ≡ codes "worker" → states ≡ worker_states → steps ≡ always WORKER_STEPS
    → named_beh env name states 0 (0 ∷ 2 ∷ []) steps ≡ worker
unfolding floor worker states_below
worker_is env name states steps e n s transitions = rw (e, n, s, transitions) refl

-- ---- the target

-- the state to which each action of the shift leads
abbrev shift_to : ℕ → ℕ
shift_to a = get_or (1 ∷ 2 ∷ 0 ∷ 3 ∷ 1 ∷ []) a 0

one_to : (beh : Beh) (b e a b' : ℕ) → list_all (λ m. m.to == shift_to m.action) beh.steps ≡ true → IsTrue (has_move (normal_beh 1 5 beh) b e a b') → b' ≡ shift_to a
one_to beh b e a b' all t = grind (arith, any_true, each_in, eqb-true, from_normal_move, move_test)

-- the shift is deterministic, since each of its actions leads to one state
pub shift_single : (env : NamedEnv) (states : List (List ℕ)) (steps : List (ℕ × ℕ × ℕ × ℕ)) → env ≡ floor → states ≡ shift_states → steps ≡ always SHIFT_STEPS
    → IsDeterministic (normal_beh env.env.states env.env.actions (listed_beh (length states) 0 (0 ∷ []) steps))
shift_single env states steps e s transitions =
    subst IsDeterministic (sym (over_floor env states (0 ∷ []) steps (always SHIFT_STEPS) 4 e (ap length s) transitions)) (λ b e a b1 b2 h1 h2.
    let beh = listed_beh 4 0 (0 ∷ []) (always SHIFT_STEPS) in
    one_to beh b e a b1 refl h1 ∙ sym (one_to beh b e a b2 refl h2))

-- the target from the tables is the shift
pub shift_is : (env : NamedEnv) (states : List (List ℕ)) (steps : List (ℕ × ℕ × ℕ × ℕ)) → env ≡ floor → states ≡ shift_states → steps ≡ always SHIFT_STEPS
    → named_target env states 0 (0 ∷ []) steps ≡ shift
unfolding floor shift states_below
shift_is env states steps e s transitions = rw (e, s, transitions) refl

-- ---- the services

-- workers with names from references
pub taken : (n : ℕ) (words : List (Bor (List ℕ))) (names : List (List ℕ)) → map (λ word. word.now) words ≡ names
    → map (λ word. idle_worker word.now) (take n words) ≡ map idle_worker (take n names)
taken n words names e = rw (← e, take-map (λ (word : Bor (List ℕ)). word.now) n words, map-map) refl
