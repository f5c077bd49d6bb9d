-- The normal form has the same steps, and its numbers are in range.
use Rattle.roman_parts.proofs.Common.{◌≡◌, ℕ, ◌<◌, ◌≤◌, IsTrue, List, [], ◌∷◌, refl, subst, inl, inr, slice_get, MatchOption, rules, IsIn, below, HasNoRepeats, Env, Beh, has_triple, has_move, IsEnv, IsDeterministic, IsBeh, is_final, env_next, env_prev, beh_next, beh_prev, MAX_STATES, MAX_ACTIONS, normal_env, normal_beh, same_test, filter_in, from_below, filter_same, HasNoRepeats-below, HasNoRepeats-filter, IsEnv-made, IsBeh-made, from_made_triple, made_triple, from_made_move, made_move, from_made_final, made_final, IsOver}

-- a triple of the normal form is a triple of the environment, in range
pub from_normal_triple : (env : Env) (e a e' : ℕ) → IsTrue (has_triple (normal_env env) e a e') →
    (e < env.states) × (a < env.actions) × (e' < env.states) × IsTrue (has_triple env e a e')
from_normal_triple env e a e' t = from_made_triple env.states env.actions env.start (has_triple env) e a e' t

pub has_triple-normal : (env : Env) (e a e' : ℕ) → e < env.states → a < env.actions → e' < env.states → has_triple (normal_env env) e a e' ≡ has_triple env e a e'
has_triple-normal env e a e' he ha he' = same_test _ _ (λ t. (from_normal_triple env e a e' t).3) (λ t. made_triple env.states env.actions env.start _ e a e' he ha he' t)

pub env_next-normal : (env : Env) (e a : ℕ) → e < env.states → a < env.actions → env_next (normal_env env) e a ≡ env_next env e a
env_next-normal env e a he ha = filter_same _ _ (below env.states) (λ e' i. has_triple-normal env e a e' he ha (from_below env.states e' i))

pub env_prev-normal : (env : Env) (e' a : ℕ) → e' < env.states → a < env.actions → env_prev (normal_env env) e' a ≡ env_prev env e' a
env_prev-normal env e' a he' ha = filter_same _ _ (below env.states) (λ e i. has_triple-normal env e a e' (from_below env.states e i) ha he')

-- the numbers of the normal form of an environment are in range, whatever its triples
pub IsEnv-normal : (env : Env) → (0 < env.states) × (env.states ≤ MAX_STATES) → (0 < env.actions) × (env.actions ≤ MAX_ACTIONS) → env.start < env.states → IsEnv (normal_env env)
IsEnv-normal env states actions start = IsEnv-made env.states env.actions env.start (has_triple env) states actions start

-- a step of the normal form is a step of the behaviour, in range
pub from_normal_move : (env_states actions : ℕ) (beh : Beh) (b e a b' : ℕ) → IsTrue (has_move (normal_beh env_states actions beh) b e a b') →
    (b < beh.states) × (e < env_states) × (a < actions) × (b' < beh.states) × IsTrue (has_move beh b e a b')
from_normal_move env_states actions beh b e a b' t = from_made_move env_states actions beh.states beh.start (is_final beh) (has_move beh) b e a b' t

pub has_move-normal : (env_states actions : ℕ) (beh : Beh) (b e a b' : ℕ) → b < beh.states → e < env_states → a < actions → b' < beh.states →
    has_move (normal_beh env_states actions beh) b e a b' ≡ has_move beh b e a b'
has_move-normal env_states actions beh b e a b' hb he ha hb' =
    same_test (has_move (normal_beh env_states actions beh) b e a b') (has_move beh b e a b') (λ t. (from_normal_move env_states actions beh b e a b' t).4)
    (λ t. made_move env_states actions beh.states beh.start (is_final beh) (has_move beh) b e a b' hb he ha hb' t)

pub beh_next-normal : (env_states actions : ℕ) (beh : Beh) (b e a : ℕ) → b < beh.states → e < env_states → a < actions →
    beh_next (normal_beh env_states actions beh) b e a ≡ beh_next beh b e a
beh_next-normal env_states actions beh b e a hb he ha = search (rules, filter_same, from_below, has_move-normal)

pub beh_prev-normal : (env_states actions : ℕ) (beh : Beh) (b' e a : ℕ) → b' < beh.states → e < env_states → a < actions →
    beh_prev (normal_beh env_states actions beh) b' e a ≡ beh_prev beh b' e a
beh_prev-normal env_states actions beh b' e a hb' he ha = search (rules, filter_same, from_below, has_move-normal)

pub is_final-normal : (env_states actions : ℕ) (beh : Beh) (b : ℕ) → b < beh.states → is_final (normal_beh env_states actions beh) b ≡ is_final beh b
is_final-normal env_states actions beh b hb = same_test (is_final (normal_beh env_states actions beh) b) (is_final beh b)
    (λ t. from_made_final env_states actions beh.states beh.start (is_final beh) (has_move beh) b t)
    (λ t. made_final env_states actions beh.states beh.start (is_final beh) (has_move beh) b hb t)

-- the numbers of the normal form of a behaviour are in range, whatever its steps
pub IsOver-normal : (env_states actions : ℕ) (beh : Beh) → (0 < beh.states) × (beh.states ≤ MAX_STATES) → beh.start < beh.states → IsOver env_states actions (normal_beh env_states actions beh)
IsOver-normal env_states actions beh states start =
    λ env hs ha. subst (λ n. IsBeh env (normal_beh n actions beh)) hs (subst (λ n. IsBeh env (normal_beh env.states n beh)) ha (IsBeh-made env beh.states beh.start (is_final beh) (has_move beh) states start))

-- the bounds on the numbers of a behaviour in range
pub IsOver-states : (env_states actions : ℕ) (beh : Beh) → IsOver env_states actions beh → (0 < beh.states) × (beh.states ≤ MAX_STATES)
IsOver-states env_states actions beh over = (over (record { states = env_states; actions = actions; start = 0; triples = [] }) refl refl).states

pub IsOver-start : (env_states actions : ℕ) (beh : Beh) → IsOver env_states actions beh → beh.start < beh.states
IsOver-start env_states actions beh over = (over (record { states = env_states; actions = actions; start = 0; triples = [] }) refl refl).start

-- a deterministic behaviour has at most one next state
pub single_next : (beh : Beh) (b e a : ℕ) → IsDeterministic beh →
    MatchOption (slice_get (beh_next beh b e a) 0) (beh_next beh b e a ≡ []) (λ to. beh_next beh b e a ≡ to ∷ [])
single_next beh b e a single =
    one (beh_next beh b e a) (HasNoRepeats-filter (has_move beh b e a) (below beh.states) (HasNoRepeats-below beh.states))
    (λ x y i j. single b e a x y (filter_in (has_move beh b e a) x (below beh.states) i).1 (filter_in (has_move beh b e a) y (below beh.states) j).1)
  where
    one : (xs : List ℕ) → HasNoRepeats xs → ((x y : ℕ) → IsIn x xs → IsIn y xs → x ≡ y) → MatchOption (slice_get xs 0) (xs ≡ []) (λ to. xs ≡ to ∷ [])
    one [] once same = refl
    one (x ∷ []) once same = refl
    one (x ∷ y ∷ ys) once same = absurd (once.0 (inl (same x y (inl refl) (inr (inl refl)))))
