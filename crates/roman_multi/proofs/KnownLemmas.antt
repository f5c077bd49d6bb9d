-- Known targets: their machines are in range and deterministic, and their sizes are those of a shape.
use Rattle.roman_multi.proofs.Common.{◌≡◌, ℕ, zero, suc, ◌+◌, ◌<◌, ◌≤◌, List, [], ◌∷◌, ◌++◌, map, length, take, get_or, All, Some, slice_get, slice_index, inl, inr, refl, sym, ap, ◌∙◌, subst, arith, AllZip, take_more, length-map, map-append, slice_get-get_or, slice_get-map, IsIn, product_of, Env, Beh, IsEnv, IsBeh, IsDeterministic, Several, target_sizes, IsSeveral, MAX_STATES, MAX_ACTIONS, from_map, target_size_at, NamedEnv, IsTarget, IsOver-states, machines, requests_in, Named, option_map, all_in}

-- the machines are in range and deterministic
pub machines_known : (env : NamedEnv) (targets : List Named) → All (λ named. IsTarget env named.target) targets → (target : Beh) → IsIn target (machines targets) →
    IsBeh env.env target × IsDeterministic target
machines_known env targets known target i =
    let (named, j, same) = from_map (λ (named : Named). named.target.beh) target targets i in
    let is : IsTarget env named.target = all_in (λ (named : Named). IsTarget env named.target) targets named known j in
    subst (λ b. IsBeh env.env b × IsDeterministic b) (sym same) (is.known env.env (sym is.env_states) (sym is.actions), is.single)

-- the machine at a place, and its number of states
pub machine_at : (targets : List Named) (i : ℕ) (d : Named) → i < length targets → slice_get (machines targets) i ≡ Some (get_or targets i d).target.beh
machine_at targets i d l = slice_get-map (λ (named : Named). named.target.beh) targets i ∙ ap (option_map (λ (named : Named). named.target.beh)) (slice_get-get_or targets i d l)

pub size_is : (targets : List Named) (i : ℕ) (d : Named) → i < length targets → slice_index (target_sizes (machines targets)) i ≡ (get_or targets i d).target.beh.states
size_is targets i d l = target_size_at (machines targets) i (get_or targets i d).target.beh (machine_at targets i d l)

pub sizes_length : (targets : List Named) → length (target_sizes (machines targets)) ≡ length targets
sizes_length targets = length-map (machines targets) (λ (b : Beh). b.states) ∙ length-map targets (λ (named : Named). named.target.beh)

-- the sizes of the targets so far, with one more target
pub sizes_more : (targets : List Named) (i : ℕ) (d : Named) → i < length targets →
    target_sizes (machines (take (i + 1) targets)) ≡ target_sizes (machines (take i targets)) ++ (get_or targets i d).target.beh.states ∷ []
sizes_more targets i d l =
    ap (λ xs. target_sizes (machines xs)) (take_more targets i d l)
    ∙ ap target_sizes (map-append (λ (named : Named). named.target.beh) (take i targets) (get_or targets i d ∷ []))
    ∙ map-append (λ (b : Beh). b.states) (machines (take i targets)) ((get_or targets i d).target.beh ∷ [])

-- the start states are states
pub starts_below : (env : Env) (targets : List Beh) → ((target : Beh) → IsIn target targets → IsBeh env target × IsDeterministic target) →
    AllZip (λ size b. b < size) (target_sizes targets) (map (λ (b : Beh). b.start) targets)
starts_below env [] ok = tt
starts_below env (target ∷ targets) ok = ((ok target (inl refl)).0.start, starts_below env targets (λ x i. ok x (inr i)))

-- no size is 0
pub sizes_positive : (env : NamedEnv) (targets : List Named) → All (λ named. IsTarget env named.target) targets → All (λ size. 0 < size) (target_sizes (machines targets))
sizes_positive env targets known k d l =
    let within : k < length targets = subst (λ n. k < n) (sizes_length targets) l in
    all_of targets known k d within
  where
    all_of : (targets : List Named) → All (λ named. IsTarget env named.target) targets → (k d : ℕ) → k < length targets → 0 < get_or (target_sizes (machines targets)) k d
    all_of [] known k d l = absurd (omega arith)
    all_of (named ∷ targets) known zero d l =
        let is : IsTarget env named.target = known 0 named (omega arith) in
        (IsOver-states named.target.env_states named.target.actions named.target.beh is.known).0
    all_of (named ∷ targets) known (suc k) d l = all_of targets (λ j e m. known (suc j) e (omega arith)) k d (omega arith)

-- the targets without any seats
abbrev pub several : NamedEnv → List Named → Several
several env targets = record { env = env.env; targets = machines targets; seats = [] }

pub several_is : (env : NamedEnv) (targets : List Named) → IsEnv env.env → All (λ named. IsTarget env named.target) targets → product_of (target_sizes (machines targets)) ≤ MAX_STATES →
    (0 < length (requests_in env targets)) × (length (requests_in env targets) ≤ MAX_ACTIONS) → IsSeveral (several env targets)
several_is env targets ok known few some = record {
  env = ok;
  targets = machines_known env targets known;
  seats = λ x i. absurd i;
  few = omega arith;
  states = few;
  actions = some;
}

-- the bounds on the numbers of a behaviour in range
pub ruleset over_states = (IsOver-states)
