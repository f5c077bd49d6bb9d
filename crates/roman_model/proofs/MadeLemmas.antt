-- Records built from tests: their steps are exactly those that pass, their numbers are in range, and equal tests build equal records.
use Rattle.roman_model.proofs.Common.{◌≡◌, ℕ, ◌<◌, ◌≤◌, ◌==◌, Bool, ◌&&◌, IsTrue, List, [], ◌∷◌, filter, ap, ap₂, inl, inr, refl, arith, eq-eqb, eqb-true, and_from, IsIn, below, Env, has, has_triple, has_move, IsEnv, IsBeh, is_final, Move, Triple, MAX_ACTIONS, MAX_STATES, env_from, guarded_step, beh_from}
use Rattle.roman_model.proofs.SystemLemmas.{move_in, triple_in}
use Rattle.roman_model.proofs.Lists.{any_true, any_from, in_map, from_map, in_flat_map, from_flat_map, in_filter, filter_in, in_below, from_below, filter_same, flat_map_same_in}

-- An environment's triples.

pub from_made_triples : (states actions start : ℕ) (goes : ℕ → ℕ → ℕ → Bool) (x : Triple) → IsIn x (env_from states actions start goes).triples →
    (x.from < states) × (x.action < actions) × (x.to < states) × IsTrue (goes x.from x.action x.to)
from_made_triples states actions start goes x i = grind (arith, filter_in, from_below, from_flat_map, from_map)

pub from_made_triple : (states actions start : ℕ) (goes : ℕ → ℕ → ℕ → Bool) (e a e' : ℕ) → IsTrue (has_triple (env_from states actions start goes) e a e') →
    (e < states) × (a < actions) × (e' < states) × IsTrue (goes e a e')
from_made_triple states actions start goes e a e' t =
    from_made_triples states actions start goes (record { from = e; action = a; to = e' }) (triple_in (env_from states actions start goes) e a e' t)

pub made_triple : (states actions start : ℕ) (goes : ℕ → ℕ → ℕ → Bool) (e a e' : ℕ) → e < states → a < actions → e' < states → IsTrue (goes e a e') →
    IsTrue (has_triple (env_from states actions start goes) e a e')
made_triple states actions start goes e a e' he ha he' t =
    any_from (λ x. x.from == e && x.action == a && x.to == e') (record { from = e; action = a; to = e' }) (env_from states actions start goes).triples
    (in_flat_map _ e (record { from = e; action = a; to = e' }) (below states) (in_below states e he)
    (in_flat_map _ a (record { from = e; action = a; to = e' }) (below actions) (in_below actions a ha)
    (in_map _ e' (filter (goes e a) (below states)) (in_filter (goes e a) e' (below states) (in_below states e' he') t))))
    (and_from (e == e && a == a) (e' == e') (and_from (e == e) (a == a) (eq-eqb e e refl) (eq-eqb a a refl)) (eq-eqb e' e' refl))

pub IsEnv-made : (states actions start : ℕ) (goes : ℕ → ℕ → ℕ → Bool) → (0 < states) × (states ≤ MAX_STATES) → (0 < actions) × (actions ≤ MAX_ACTIONS) → start < states →
    IsEnv (env_from states actions start goes)
IsEnv-made states actions start goes some few begins = record {
  states = some;
  actions = few;
  start = begins;
  triples = λ x i. let (l, m, n, own) = from_made_triples states actions start goes x i in (l, m, n);
}

-- A behaviour's steps.

pub from_guarded : (b a b' : ℕ) (guard : List ℕ) (m : Move) → IsIn m (guarded_step b a b' guard) → m ≡ record { from = b; guard = guard; action = a; to = b' }
from_guarded b a b' [] m i = absurd i
from_guarded b a b' (e ∷ es) m (inl same) = same
from_guarded b a b' (e ∷ es) m (inr none) = absurd none

pub in_guarded : (b a b' : ℕ) (guard : List ℕ) (e : ℕ) → IsIn e guard → IsIn (record { from = b; guard = guard; action = a; to = b' }) (guarded_step b a b' guard)
in_guarded b a b' [] e i = absurd i
in_guarded b a b' (g ∷ gs) e i = inl refl

from_made_steps : (env_states actions states start : ℕ) (final : ℕ → Bool) (goes : ℕ → ℕ → ℕ → ℕ → Bool) (m : Move) →
    IsIn m (beh_from env_states actions states start final goes).steps →
    (m.from < states) × (m.action < actions) × (m.to < states) × ((e : ℕ) → IsIn e m.guard → (e < env_states) × IsTrue (goes m.from e m.action m.to))
from_made_steps env_states actions states start final goes m i = grind (arith, filter_in, from_below, from_flat_map, from_guarded)

pub move_passes : (b e a b' : ℕ) (guard : List ℕ) → IsIn e guard → IsTrue (b == b && a == a && has guard e && b' == b')
move_passes b e a b' guard i = grind (arith, and_from, any_from, eq-eqb)

pub from_made_move : (env_states actions states start : ℕ) (final : ℕ → Bool) (goes : ℕ → ℕ → ℕ → ℕ → Bool) (b e a b' : ℕ) →
    IsTrue (has_move (beh_from env_states actions states start final goes) b e a b') →
    (b < states) × (e < env_states) × (a < actions) × (b' < states) × IsTrue (goes b e a b')
from_made_move env_states actions states start final goes b e a b' t =
    let (guard, i, j) = move_in (beh_from env_states actions states start final goes) b e a b' t in
    let (hb, ha, hb', each) = from_made_steps env_states actions states start final goes (record { from = b; guard = guard; action = a; to = b' }) i in
    (hb, (each e j).0, ha, hb', (each e j).1)

pub made_move : (env_states actions states start : ℕ) (final : ℕ → Bool) (goes : ℕ → ℕ → ℕ → ℕ → Bool) (b e a b' : ℕ) →
    b < states → e < env_states → a < actions → b' < states → IsTrue (goes b e a b') → IsTrue (has_move (beh_from env_states actions states start final goes) b e a b')
made_move env_states actions states start final goes b e a b' hb he ha hb' t =
    let guard : List ℕ = filter (λ e. goes b e a b') (below env_states) in
    let move : Move = record { from = b; guard = guard; action = a; to = b' } in
    let i : IsIn e guard = in_filter (λ e. goes b e a b') e (below env_states) (in_below env_states e he) t in
    any_from (λ m. m.from == b && m.action == a && has m.guard e && m.to == b') move (beh_from env_states actions states start final goes).steps
    (in_flat_map _ b move (below states) (in_below states b hb)
    (in_flat_map _ a move (below actions) (in_below actions a ha)
    (in_flat_map _ b' move (below states) (in_below states b' hb') (in_guarded b a b' guard e i))))
    (move_passes b e a b' guard i)

pub IsBeh-made : (env : Env) (states start : ℕ) (final : ℕ → Bool) (goes : ℕ → ℕ → ℕ → ℕ → Bool) → (0 < states) × (states ≤ MAX_STATES) → start < states →
    IsBeh env (beh_from env.states env.actions states start final goes)
IsBeh-made env states start final goes some begins = record {
  states = some;
  start = begins;
  finals = λ b i. from_below states b (filter_in final b (below states) i).0;
  steps = λ m i. let (hb, ha, hb', each) = from_made_steps env.states env.actions states start final goes m i in (hb, ha, hb');
  guards = λ m i e ie. let (hb, ha, hb', each) = from_made_steps env.states env.actions states start final goes m i in (each e ie).0;
}

pub from_made_final : (env_states actions states start : ℕ) (final : ℕ → Bool) (goes : ℕ → ℕ → ℕ → ℕ → Bool) (b : ℕ) →
    IsTrue (is_final (beh_from env_states actions states start final goes) b) → IsTrue (final b)
from_made_final env_states actions states start final goes b t = grind (arith, any_true, eqb-true, filter_in)

pub made_final : (env_states actions states start : ℕ) (final : ℕ → Bool) (goes : ℕ → ℕ → ℕ → ℕ → Bool) (b : ℕ) → b < states → IsTrue (final b) →
    IsTrue (is_final (beh_from env_states actions states start final goes) b)
made_final env_states actions states start final goes b hb t = grind (arith, any_from, (eq-eqb b b refl), (in_below states b hb), in_filter)

-- Tests that agree in range build equal records.

pub env_from_same : (states actions start : ℕ) (goes others : ℕ → ℕ → ℕ → Bool) →
    ((e a e' : ℕ) → e < states → a < actions → e' < states → goes e a e' ≡ others e a e') → env_from states actions start goes ≡ env_from states actions start others
env_from_same states actions start goes others same =
    ap (λ triples. record { states = states; actions = actions; start = start; triples = triples })
    (flat_map_same_in _ _ (below states) (λ e ie. flat_map_same_in _ _ (below actions) (λ a ia. grind (arith, filter_same, from_below))))

pub beh_from_same : (env_states actions states start : ℕ) (final finals : ℕ → Bool) (goes others : ℕ → ℕ → ℕ → ℕ → Bool) →
    ((b : ℕ) → b < states → final b ≡ finals b) →
    ((b e a b' : ℕ) → b < states → e < env_states → a < actions → b' < states → goes b e a b' ≡ others b e a b') →
    beh_from env_states actions states start final goes ≡ beh_from env_states actions states start finals others
beh_from_same env_states actions states start final finals goes others ends same = ap₂ (λ (fs : List ℕ) (ms : List Move). record { states = states; start = start; finals = fs; steps = ms })
    (filter_same final finals (below states) (λ b i. ends b (from_below states b i)))
    (flat_map_same_in _ _ (below states) (λ b ib. flat_map_same_in _ _ (below actions) (λ a ia. flat_map_same_in _ _ (below states) (λ b' ib'. grind (arith, filter_same, from_below)))))
