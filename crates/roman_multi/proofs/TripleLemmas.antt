-- The triples that the loops list are the triples of the combined environment.
use Rattle.roman_multi.proofs.Common.{◌≡◌, ℕ, ◌<◌, ◌==◌, ◌&&◌, List, [], ◌∷◌, map, length, get_or, Option, Some, None, IsTrue, slice_get, refl, sym, ap, ap₂, ◌∙◌, subst, arith, false≢true, and_parts, and_from, eq-eqb, eqb-true, IsIn, Env, IsEnv, Triple, has_triple, Request, next_on, listed_triples, same_test, any_true, any_from, in_map, from_map, in_flat_map, from_flat_map, in_below, from_below, triple_in_range, in_env_next, from_env_next, env_from_same, normal_env, combined_env, has_triple_on, triple_of, listed_env, AreTriples, in_at}

from_next_on : (env : Env) (e : ℕ) (o : Option Request) (to : ℕ) → IsIn to (next_on env e o) → IsTrue (has_triple_on env o e to)
from_next_on env e None to i = absurd i
from_next_on env e (Some r) to i = from_env_next env e r.action to i

in_next_on : (env : Env) (e : ℕ) (o : Option Request) (to : ℕ) → IsEnv env → IsTrue (has_triple_on env o e to) → IsIn to (next_on env e o)
in_next_on env e None to ok t = absurd (false≢true t)
in_next_on env e (Some r) to ok t = in_env_next env e r.action to ok t

from_listed : (env : Env) (requests : List Request) (x : ℕ × ℕ × ℕ) → IsIn x (listed_triples env requests) →
    (x.0 < env.states) × (x.1 < length requests) × IsTrue (has_triple_on env (slice_get requests x.1) x.0 x.2)
from_listed env requests x i = grind (arith, from_below, from_flat_map, from_map, from_next_on)

in_listed : (env : Env) (requests : List Request) (e n to : ℕ) → IsEnv env → e < env.states → n < length requests → IsTrue (has_triple_on env (slice_get requests n) e to) →
    IsIn (e, n, to) (listed_triples env requests)
in_listed env requests e n to ok he hn t = in_flat_map _ _ _ _ (in_below _ _ he) (in_flat_map _ _ _ _ (in_below _ _ hn) (in_map _ _ _ (in_next_on _ _ _ _ ok t)))

pub combined_env_is : (env : Env) (requests : List Request) → IsEnv env →
    normal_env (listed_env env.states (length requests) env.start (listed_triples env requests)) ≡ combined_env requests env
combined_env_is env requests ok =
    env_from_same env.states (length requests) env.start (has_triple (listed_env env.states (length requests) env.start (listed_triples env requests)))
    (λ e n e'. has_triple_on env (slice_get requests n) e e')
    (λ e n e' he hn he'.
    same_test (has_triple (listed_env env.states (length requests) env.start (listed_triples env requests)) e n e') (has_triple_on env (slice_get requests n) e e')
    (λ t. there e n e' t)
    (λ t. any_from (λ x. x.from == e && x.action == n && x.to == e') (record { from = e; action = n; to = e' }) (map triple_of (listed_triples env requests))
    (in_map triple_of (e, n, e') (listed_triples env requests) (in_listed env requests e n e' ok he hn t))
    (and_from (e == e && n == n) (e' == e') (and_from (e == e) (n == n) (eq-eqb e e refl) (eq-eqb n n refl)) (eq-eqb e' e' refl))))
  where
    there : (e n e' : ℕ) → IsTrue (has_triple (listed_env env.states (length requests) env.start (listed_triples env requests)) e n e') → IsTrue (has_triple_on env (slice_get requests n) e e')
    there e n e' t =
        let (x, i, passes) = any_true (λ x. x.from == e && x.action == n && x.to == e') (map triple_of (listed_triples env requests)) t in
        let (y, j, same) = from_map triple_of x (listed_triples env requests) i in
        let (front, to) = and_parts (x.from == e && x.action == n) (x.to == e') passes in
        let (from, action) = and_parts (x.from == e) (x.action == n) front in
        let (l, m, own) = from_listed env requests y j in
        let e0 : y.0 ≡ e = ap (λ (z : Triple). z.from) (sym same) ∙ eqb-true x.from e from in
        let e1 : y.1 ≡ n = ap (λ (z : Triple). z.action) (sym same) ∙ eqb-true x.action n action in
        let e2 : y.2 ≡ e' = ap (λ (z : Triple). z.to) (sym same) ∙ eqb-true x.to e' to in
        subst (λ k. IsTrue (has_triple_on env (slice_get requests n) e k)) e2
        (subst (λ k. IsTrue (has_triple_on env (slice_get requests k) e y.2)) e1 (subst (λ k. IsTrue (has_triple_on env (slice_get requests y.1) k y.2)) e0 own))

next_in_range : (env : Env) (e : ℕ) (o : Option Request) (to : ℕ) → IsEnv env → IsTrue (has_triple_on env o e to) → to < env.states
next_in_range env e None to ok t = absurd (false≢true t)
next_in_range env e (Some r) to ok t = (triple_in_range env e r.action to ok t).2

pub listed_in_range : (env : Env) (requests : List Request) → IsEnv env → AreTriples env.states (length requests) (listed_triples env requests)
listed_in_range env requests ok k d l =
    let i : IsIn (get_or (listed_triples env requests) k d) (listed_triples env requests) = in_at (listed_triples env requests) k d l in
    let (he, hn, t) = from_listed env requests (get_or (listed_triples env requests) k d) i in
    (he, hn, next_in_range env (get_or (listed_triples env requests) k d).0 (slice_get requests (get_or (listed_triples env requests) k d).1) (get_or (listed_triples env requests) k d).2 ok t)

pub made_env_is : (env : Env) (requests : List Request) (states actions start : ℕ) (steps : List (ℕ × ℕ × ℕ)) → IsEnv env → states ≡ env.states → actions ≡ length requests →
    start ≡ env.start → steps ≡ listed_triples env requests → normal_env (listed_env states actions start steps) ≡ combined_env requests env
made_env_is env requests states actions start steps ok s a b l =
    ap₂ (λ n m. normal_env (listed_env n m start steps)) s a ∙ ap₂ (λ n xs. normal_env (listed_env env.states (length requests) n xs)) b l ∙ combined_env_is env requests ok
