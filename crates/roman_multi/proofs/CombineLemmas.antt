-- The rule that forbids the targets to be combined.
use Rattle.roman_multi.proofs.Common.{All, ◌≡◌, ℕ, ◌<◌, ◌≤◌, List, [], ◌∷◌, map, length, None, Ok, Err, IsTrue, IsFalse, refl, ap, ap₂, ◌∙◌, arith, IsTarget, NamedEnv, NamedBeh, NamedTarget, ltb-false, lt-ltb, le-ltb, true≢false, false≢true, length-map, below, product_of, target_sizes, count, MAX_STATES, MAX_ACTIONS, Request, length-below, machines, requests_in, has_many_states, has_bad_count, forbidding, combined_behaviour, PlainCombined, combined_state_names, request_names, ObeysRules, combined_parts, flat, AreCombinedNames, Named, IsMerge, combined_environment, one_target, Merge, CombineError}
use Rattle.roman_multi.specs.declared.error.CombineError.TheVariants as error
use Rattle.roman_multi.proofs.FlatLemmas.{fits_within, within_fits}
use Rattle.roman_multi.proofs.MoveLemmas.{requests_in_range}

-- an error of the names is the first rule that forbids the combination
pub names_forbid : (env : NamedEnv) (targets : List Named) (why : CombineError) → IsFalse (has_many_states targets) → IsFalse (has_bad_count (requests_in env targets)) → AreCombinedNames env targets (Err why) →
    ObeysRules (Err why) (forbidding env targets)
unfolding forbidding
names_forbid env targets error.States few good h = absurd h
names_forbid env targets error.Actions few good h = absurd h
names_forbid env targets error.LongName few good h = rw (few, good, h) refl
names_forbid env targets error.Repeated few good h = rw (few, good, h.0, h.1) refl
names_forbid env targets error.Memory few good h = tt

-- names that break no rule allow the combination
pub names_allow : (env : NamedEnv) (targets : List Named) (names : List (List ℕ) × List (List ℕ)) → IsFalse (has_many_states targets) → IsFalse (has_bad_count (requests_in env targets)) →
    AreCombinedNames env targets (Ok names) → forbidding env targets ≡ None
unfolding forbidding
names_allow env targets names few good h = rw (few, good, h.2, h.3) refl

-- a count that isn't bad is within the limits
pub good_count : (requests : List Request) → IsFalse (has_bad_count requests) → (0 < length requests) × (length requests ≤ MAX_ACTIONS)
good_count [] good = absurd (true≢false good)
good_count (r ∷ requests) good = grind (arith, ltb-false)

pub few_states : (targets : List Named) → product_of (target_sizes (machines targets)) ≤ MAX_STATES → IsFalse (has_many_states targets)
few_states targets few = le-ltb MAX_STATES (product_of (target_sizes (machines targets))) few

pub many_states : (targets : List Named) → (product_of (target_sizes (machines targets)) ≤ MAX_STATES → ⊥) → IsTrue (has_many_states targets)
many_states targets many = lt-ltb MAX_STATES (product_of (target_sizes (machines targets))) (omega arith)

pub state_count : (targets : List Named) → length (combined_state_names targets) ≡ product_of (target_sizes (machines targets))
state_count targets = length-map (below (product_of (target_sizes (machines targets)))) _ ∙ length-below (product_of (target_sizes (machines targets)))

pub request_count : (env : NamedEnv) (targets : List Named) → length (request_names env targets) ≡ length (requests_in env targets)
request_count env targets = length-map (requests_in env targets) _

-- parts with these names and records are the combined parts
pub parts_are : (env : NamedEnv) (catalogue : List NamedBeh) (targets : List Named) (requests : List Request) (states actions : List (List ℕ)) (environment : NamedEnv) (made : List NamedBeh) (target : NamedTarget) →
    requests ≡ requests_in env targets → states ≡ combined_state_names targets → actions ≡ request_names env targets →
    environment ≡ combined_environment env requests actions → made ≡ map (combined_behaviour env requests) catalogue → target ≡ one_target env requests targets states →
    ◌≡◌ {A = PlainCombined} (record { environment = environment; catalogue = made; target = target }) (combined_parts env catalogue targets)
unfolding combined_parts
parts_are env catalogue targets requests states actions environment made target asked named called world behaviours goes = grind arith

-- the targets and their requests are a merge if their shape fits and the count of the requests isn't bad
pub merge_is : (m : Merge) (sizes : List ℕ) (cap : ℕ) → (2 ≤ length m.targets.now) × (length m.targets.now ≤ 4) → All (λ named. IsTarget m.env.now named.target) m.targets.now → m.shape.now ≡ flat sizes →
    sizes ≡ target_sizes (machines m.targets.now) → cap ≡ MAX_STATES → count (flat sizes) ≤ cap → m.requests.now ≡ requests_in m.env.now m.targets.now → IsFalse (has_bad_count m.requests.now) → IsMerge m
merge_is m sizes cap some known shape same is fits asked good = record {
  count = (omega arith, some.1);
  known = known;
  shape = shape ∙ ap flat same;
  few = fits_within sizes _ cap same is fits;
  requests = asked;
  some = good_count m.requests.now good;
  in_range = requests_in_range m.env.now m.targets.now m.requests.now asked;
}

few_requests : (requests : List Request) → (0 < length requests) × (length requests ≤ MAX_ACTIONS) → IsFalse (has_bad_count requests)
few_requests [] some = absurd (let none : ⊥ = omega arith in none)
few_requests (r ∷ requests) some = le-ltb MAX_ACTIONS (length (r ∷ requests)) some.1

-- the counts of a merge break no rule
pub merge_allows : (m : Merge) → IsMerge m → IsFalse (has_many_states m.targets.now) × IsFalse (has_bad_count (requests_in m.env.now m.targets.now))
merge_allows m is = (few_states m.targets.now is.few, rw is.requests at (few_requests m.requests.now is.some))

-- the lengths of the lists of names
pub ruleset name_counts = (length-below, length-map)

-- whether the shape of the targets fits, and which rule it breaks otherwise
pub ruleset fitting = (few_states, many_states, fits_within, within_fits, false≢true)
