-- The steps that the loops list are the steps of the combined behaviours, and the requests are the combined actions.
use Rattle.roman_multi.proofs.Common.{◌≡◌, ℕ, ◌<◌, ◌≤◌, ◌^◌, ◌==◌, ◌&&◌, Bool, List, [], ◌∷◌, map, length, Option, Some, None, IsTrue, flat_map, filter, slice_get, inl, inr, refl, sym, ap, ap₂, ◌∙◌, subst, get_or, arith, All, IsIn, below, Beh, Env, has, has_move, IsBeh, Move, normal_beh, beh_from, Request, listed_beh, AreMoves, move_of, listed_moves, used_at, same_test, any_true, any_from, in_map, from_map, in_flat_map, from_flat_map, in_below, from_below, beh_from_same, listed_number, number_listed, get_in, filter_in, filter_same, flat_map_same_in, move_test, move_passes, stands_uses, length-map, NamedEnv, IsTarget, machines, requests_in, Named, has_filter, states_of, stands_in, uses, requests_of, states_of-single, in_at}
use Rattle.roman_multi.proofs.KnownLemmas.{machines_known}

from_moves : (env_states actions states : ℕ) (next : ℕ → ℕ → ℕ → List ℕ) (x : ℕ × ℕ × ℕ × ℕ) → IsIn x (listed_moves env_states actions states next) →
    (e : ℕ) × (e < env_states) × (x.0 < states) × (x.2 < actions) × (x.1 ≡ 2 ^ e) × IsIn x.3 (next x.0 x.2 e)
from_moves env_states actions states next x i = grind (arith, from_below, from_flat_map, from_map)

in_moves : (env_states actions states : ℕ) (next : ℕ → ℕ → ℕ → List ℕ) (b e n to : ℕ) → b < states → e < env_states → n < actions → IsIn to (next b n e) →
    IsIn (b, 2 ^ e, n, to) (listed_moves env_states actions states next)
in_moves env_states actions states next b e n to hb he hn i =
    in_flat_map _ _ _ _ (in_below _ _ hb) (in_flat_map _ _ _ _ (in_below _ _ hn) (in_flat_map _ _ _ _ (in_below _ _ he) (in_map _ _ _ i)))

-- the listed steps are in range if the next states are
pub moves_in_range : (env_states actions states : ℕ) (next : ℕ → ℕ → ℕ → List ℕ) →
    ((b n e to : ℕ) → b < states → n < actions → e < env_states → IsIn to (next b n e) → to < states) → AreMoves states actions (listed_moves env_states actions states next)
moves_in_range env_states actions states next within k d l =
    let x : ℕ × ℕ × ℕ × ℕ = get_or (listed_moves env_states actions states next) k d in
    let (e, he, hb, hn, is, it) = from_moves env_states actions states next (get_or (listed_moves env_states actions states next) k d) (in_at (listed_moves env_states actions states next) k d l) in
    (hb, hn, within x.0 x.2 e x.3 hb hn he it)

-- the numbers that pass the test are below the bound
pub passing_below : (p : ℕ → Bool) (n : ℕ) → All (λ b. b < n) (filter p (below n))
passing_below p n k d l = from_below n (get_or (filter p (below n)) k d) (filter_in p (get_or (filter p (below n)) k d) (below n) (in_at (filter p (below n)) k d l)).0

-- the lists from which a behaviour is made: its final states, and its steps to the next states by each action in each environment state, which are states of it
pub record AreListsOf (env_states actions states start : ℕ) (final : ℕ → Bool) (goes : ℕ → ℕ → ℕ → ℕ → Bool) (size begin : ℕ) (ends : List ℕ) (moves : List (ℕ × ℕ × ℕ × ℕ)) : Type 0 where
  pub next : ℕ → ℕ → ℕ → List ℕ
  pub few : env_states ≤ 64
  pub count : size ≡ states
  pub begins : begin ≡ start
  pub finals : ends ≡ filter final (below states)
  pub steps : moves ≡ listed_moves env_states actions states next
  pub same : (b e n b' : ℕ) → b < states → e < env_states → n < actions → b' < states → has (next b n e) b' ≡ goes b e n b'
  pub within : (b n e to : ℕ) → b < states → n < actions → e < env_states → IsIn to (next b n e) → to < states

module _ (env_states actions states start : ℕ) (final : ℕ → Bool) (goes : ℕ → ℕ → ℕ → ℕ → Bool) (size begin : ℕ) (ends : List ℕ) (moves : List (ℕ × ℕ × ℕ × ℕ))
    (lists : AreListsOf env_states actions states start final goes size begin ends moves) where
  abbrev listed : List (ℕ × ℕ × ℕ × ℕ)
  listed = listed_moves env_states actions states lists.next

  single : (e : ℕ) → e < env_states → states_of (2 ^ e) ≡ e ∷ []
  single e he = let few : env_states ≤ 64 = lists.few in states_of-single e (omega arith)

  there : (b e n b' : ℕ) → IsTrue (has_move (listed_beh states start ends listed) b e n b') → IsIn b' (lists.next b n e)
  there b e n b' t =
      let (m, i, passes) = any_true (λ m. m.from == b && m.action == n && has m.guard e && m.to == b') (map move_of listed) t in
      let (y, j, same) = from_map move_of m listed i in
      let (from, action, guard, to) = move_test m b e n b' passes in
      let (d, hd, hb, hn, is, own) = from_moves env_states actions states lists.next y j in
      let e0 : y.0 ≡ b = ap (λ (z : Move). z.from) (sym same) ∙ from in
      let e2 : y.2 ≡ n = ap (λ (z : Move). z.action) (sym same) ∙ action in
      let e3 : y.3 ≡ b' = ap (λ (z : Move). z.to) (sym same) ∙ to in
      let guard2 : IsIn e (d ∷ []) = subst (λ es. IsIn e es) (single d hd) (subst (λ w. IsIn e (states_of w)) is (subst (λ (z : Move). IsIn e z.guard) same guard)) in
      let e1 : e ≡ d = elim guard2 [ inl f ↦ f | inr none ↦ absurd none ] in
      rw (e0, e2, e3, ← e1) at own

  back : (b e n b' : ℕ) → b < states → e < env_states → n < actions → IsIn b' (lists.next b n e) → IsTrue (has_move (listed_beh states start ends listed) b e n b')
  back b e n b' hb he hn i =
      any_from (λ m. m.from == b && m.action == n && has m.guard e && m.to == b') (record { from = b; guard = states_of (2 ^ e); action = n; to = b' }) (map move_of listed)
      (in_map move_of (b, 2 ^ e, n, b') listed (in_moves env_states actions states lists.next b e n b' hb he hn i))
      (move_passes b e n b' (states_of (2 ^ e)) (subst (λ es. IsIn e es) (sym (single e he)) (inl refl)))

  -- the behaviour made from the lists has exactly the steps that pass the test
  pub made_is : (es ns : ℕ) → es ≡ env_states → ns ≡ actions → normal_beh es ns (listed_beh size begin ends moves) ≡ beh_from env_states actions states start final goes
  made_is es ns is_env is_actions =
      rw (is_env, is_actions, lists.count, lists.begins, lists.steps)
      (beh_from_same env_states actions states start (has ends) final (has_move (listed_beh states start ends listed)) goes
      (λ b hb. ap (λ xs. has xs b) lists.finals ∙ has_filter final states b hb)
      (λ b e n b' hb he hn hb'.
      same_test (has_move (listed_beh states start ends listed) b e n b') (has (lists.next b n e) b') (λ t. listed_number (lists.next b n e) b' (there b e n b' t))
      (λ t. back b e n b' hb he hn (number_listed (lists.next b n e) b' t))
      ∙ lists.same b e n b' hb he hn hb'))

  pub made_steps_in_range : (ns : ℕ) → ns ≡ actions → AreMoves size ns moves
  made_steps_in_range ns is_actions = rw (lists.steps, lists.count, is_actions) (moves_in_range env_states actions states lists.next lists.within)

  pub made_finals_below : All (λ b. b < size) ends
  made_finals_below = rw (lists.finals, lists.count) (passing_below final states)

-- the requests of all targets
abbrev pub used_requests : ℕ → ℕ → List Beh → List Request
used_requests env_states actions targets = flat_map (λ i. used_at env_states actions (slice_get targets i) i) (below (length targets))

-- the combined actions
pub requests_are : (env : Env) (targets : List Beh) → ((target : Beh) → IsIn target targets → IsBeh env target) → used_requests env.states env.actions targets ≡ requests_of env.actions targets
requests_are env targets ok =
    flat_map_same_in (λ i. used_at env.states env.actions (slice_get targets i) i) (λ i. map (λ a. record { target = i; action = a }) (filter (stands_in (slice_get targets i)) (below env.actions)))
    (below (length targets)) (λ i h. one i (slice_get targets i) refl)
  where
    none : (xs : List ℕ) → filter (stands_in None) xs ≡ []
    none [] = refl
    none (x ∷ xs) = none xs

    one : (i : ℕ) (o : Option Beh) → slice_get targets i ≡ o → used_at env.states env.actions o i ≡ map (λ a. record { target = i; action = a }) (filter (stands_in o) (below env.actions))
    one i None at = ap (map (λ a. record { target = i; action = a })) (sym (none (below env.actions)))
    one i (Some target) at =
        ap (map (λ a. record { target = i; action = a }))
        (filter_same (uses env.states target) (stands_in (Some target)) (below env.actions) (λ a j. sym (stands_uses env target a (ok target (get_in targets i target at)))))

pub all_requests_are : (env : NamedEnv) (targets : List Named) (env_states actions i : ℕ) (items : List Request) → All (λ named. IsTarget env named.target) targets →
    env_states ≡ env.env.states → actions ≡ env.env.actions → i ≡ length targets →
    items ≡ flat_map (λ i. used_at env_states actions (slice_get (machines targets) i) i) (below i) → items ≡ requests_in env targets
all_requests_are env targets env_states actions i items known es ns done is =
    is ∙ ap (λ n. flat_map (λ i. used_at env_states actions (slice_get (machines targets) i) i) (below n)) (done ∙ sym (length-map targets (λ (named : Named). named.target.beh)))
    ∙ ap₂ (λ n m. used_requests n m (machines targets)) es ns ∙ requests_are _ _ (λ target j. (machines_known _ _ known _ j).0)

-- the combined actions are actions of the environment, and each belongs to one of the targets
pub requests_in_range : (env : NamedEnv) (targets : List Named) (requests : List Request) → requests ≡ requests_in env targets →
    All (λ r. (r.target < length targets) × (r.action < env.env.actions)) requests
requests_in_range env targets requests is k d l =
    let i : IsIn (get_or requests k d) (requests_in env targets) = subst (λ rs. IsIn (get_or requests k d) rs) is (in_at requests k d l) in
    let (p, ip, ir) = from_flat_map (λ i. map (λ a. record { target = i; action = a }) (filter (stands_in (slice_get (machines targets) i)) (below env.env.actions))) (get_or requests k d) (below (length (machines targets))) i in
    let (a, ia, same) = from_map (λ a. record { target = p; action = a }) (get_or requests k d) (filter (stands_in (slice_get (machines targets) p)) (below env.env.actions)) ir in
    let (ib, stands) = filter_in (stands_in (slice_get (machines targets) p)) a (below env.env.actions) ia in
    subst (λ (r : Request). (r.target < length targets) × (r.action < env.env.actions)) (sym same)
    (subst (λ n. p < n) (length-map targets (λ (named : Named). named.target.beh)) (from_below (length (machines targets)) p ip), from_below env.env.actions a ib)
