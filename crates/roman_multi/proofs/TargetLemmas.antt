-- The steps that the loops list are the steps of the combined target.
use Rattle.roman_multi.proofs.Common.{◌≡◌, ℕ, zero, suc, ◌+◌, get_or, add-one, ◌^◌, ◌&&◌, ◌++◌, ◌<◌, ◌≤◌, Bool, drop, filter, List, [], ◌∷◌, length, Option, Some, None, IsTrue, slice_get, slice_index, slice_set, refl, sym, ap, ap₂, ◌∙◌, subst, arith, Sizes, pair_at, states_number, states_at, flat, moves_in, listed_moves, member_next, next_of_all, length-states_at, same_test, in_map, from_map, in_beh_next, from_beh_next, get_in, listed_number, number_listed, states_number-at, from_made_move, made_move, IsMemberStep, from_combined_target, combined_target_goes, Named, none-some, same_Some, IsIn, below, product_of, Beh, has, has_move, is_final, IsEnv, beh_next, Several, are_final, target_sizes, combined, IsSeveral, combined_start, targets_go, all_requests, Request, machines, MAX_ACTIONS, IsMerge, next_in, state_total, Merge, append-nil}
use Rattle.roman_multi.proofs.KnownLemmas.{several, several_is, machine_at, sizes_length}
use Rattle.roman_multi.proofs.FlatLemmas.{part_is}
use Rattle.roman_multi.proofs.MoveLemmas.{AreListsOf}

from_next_of_all : (targets : List Beh) (ts : List ℕ) (e : ℕ) (o : Option Request) (t' : ℕ) → IsIn t' (next_of_all targets ts e o) →
    (r : Request) × (target : Beh) × (x : ℕ) × (o ≡ Some r) × (slice_get targets r.target ≡ Some target) × IsTrue (has_move target (slice_index ts r.target) e r.action x)
    × (t' ≡ states_number (target_sizes targets) (slice_set ts r.target x))
from_next_of_all targets ts e None t' i = absurd i
from_next_of_all targets ts e (Some r) t' i =
    let (x, j, same) = from_map (λ t'. states_number (target_sizes targets) (slice_set ts r.target t')) t' (member_next (slice_get targets r.target) (slice_index ts r.target) e r.action) i in
    let (target, member, goes) = by_member (slice_get targets r.target) x j in
    (r, target, x, refl, member, goes, same)
  where
    by_member : (o : Option Beh) (x : ℕ) → IsIn x (member_next o (slice_index ts r.target) e r.action) → (target : Beh) × (o ≡ Some target) × IsTrue (has_move target (slice_index ts r.target) e r.action x)
    by_member None x j = absurd j
    by_member (Some target) x j = (target, refl, from_beh_next target (slice_index ts r.target) e r.action x j)

-- a listed step is a step of the combined target
next_goes : (w : Several) (t e n t' : ℕ) → IsSeveral w → t < product_of (target_sizes w.targets) → IsIn t' (next_of_all w.targets (states_at (target_sizes w.targets) t) e (slice_get (all_requests w) n)) →
    IsTrue (has_move (combined w).target t e n t')
next_goes w t e n t' ok ht i =
    let (r, target, x, at, member, moves, same) = from_next_of_all w.targets (states_at (target_sizes w.targets) t) e (slice_get (all_requests w) n) t' i in
    subst (λ k. IsTrue (has_move (combined w).target t e n k)) (sym same) (combined_target_goes w t e n x r target ok ht at member moves)

-- the targets and their requests are several targets
pub merge_several : (m : Merge) → IsEnv m.env.now.env → IsMerge m → IsSeveral (several m.env.now m.targets.now)
merge_several m world is = several_is _ _ world is.known is.few (subst (λ (xs : List Request). (0 < length xs) × (length xs ≤ MAX_ACTIONS)) is.requests is.some)

-- the lists from which the combined target is made
pub merge_lists : (m : Merge) (size begin : ℕ) (ends : List ℕ) (moves : List (ℕ × ℕ × ℕ × ℕ)) → IsEnv m.env.now.env → IsMerge m → size ≡ state_total m → begin ≡ combined_start (machines m.targets.now) →
    ends ≡ filter (λ t. are_final (machines m.targets.now) (states_at (target_sizes (machines m.targets.now)) t)) (below (state_total m)) →
    moves ≡ listed_moves m.env.now.env.states (length m.requests.now) (state_total m) (next_in m) →
    let w = several m.env.now m.targets.now in
    AreListsOf w.env.states (length (all_requests w)) (product_of (target_sizes w.targets)) (combined_start w.targets) (λ t. are_final w.targets (states_at (target_sizes w.targets) t))
    (λ t e n t'. targets_go w.targets (slice_get (all_requests w) n) (states_at (target_sizes w.targets) t) e (states_at (target_sizes w.targets) t')) size begin ends moves
merge_lists m size begin ends moves world is s b f l = record {
  next = next;
  few = world.states.1;
  count = s;
  begins = b;
  finals = f;
  steps = l ∙ ap (λ (xs : List Request). listed_moves m.env.now.env.states (length xs) (state_total m)
      (λ t n e. next_of_all (machines m.targets.now) (states_at (target_sizes (machines m.targets.now)) t) e (slice_get xs n))) is.requests;
  same = λ t e n t' ht he hn ht'. same_test (has (next t n e) t') (goes t e n t') (λ h. there t e n t' ht (number_listed (next t n e) t' h)) (λ h. listed_number (next t n e) t' (back t e n t' ht he hn ht' h));
  within = λ t n e to ht hn he i. (from_combined_target w t e n to (next_goes w t e n to ok ht i)).1;
}
  where
    w : Several
    w = several m.env.now m.targets.now

    ok : IsSeveral w
    ok = merge_several m world is

    size' : ℕ
    size' = product_of (target_sizes w.targets)

    start : ℕ
    start = combined_start w.targets

    next : ℕ → ℕ → ℕ → List ℕ
    next t n e = next_of_all w.targets (states_at (target_sizes w.targets) t) e (slice_get (all_requests w) n)

    goes : ℕ → ℕ → ℕ → ℕ → Bool
    goes t e n t' = targets_go w.targets (slice_get (all_requests w) n) (states_at (target_sizes w.targets) t) e (states_at (target_sizes w.targets) t')

    there : (t e n t' : ℕ) → t < size' → IsIn t' (next t n e) → IsTrue (goes t e n t')
    there t e n t' ht i =
        let step : IsTrue (has_move (combined w).target t e n t') = next_goes w t e n t' ok ht i in
        (from_made_move w.env.states (length (all_requests w)) size' start (λ t. are_final w.targets (states_at (target_sizes w.targets) t)) goes t e n t' step).4

    back : (t e n t' : ℕ) → t < size' → e < w.env.states → n < length (all_requests w) → t' < size' → IsTrue (goes t e n t') → IsIn t' (next t n e)
    back t e n t' ht he hn ht' h =
        let moves : IsTrue (has_move (combined w).target t e n t') = made_move w.env.states (length (all_requests w)) size' start (λ t. are_final w.targets (states_at (target_sizes w.targets) t)) goes t e n t' ht he hn ht' h in
        let (l, m, r, target, step) = from_combined_target w t e n t' moves in
        subst (λ o. IsIn t' (next_of_all w.targets (states_at (target_sizes w.targets) t) e o)) (sym step.request) (found t e n t' r target ht' step)
      where
        found : (t e n t' : ℕ) (r : Request) (target : Beh) → t' < size' → IsMemberStep w n (states_at (target_sizes w.targets) t) e (states_at (target_sizes w.targets) t') r target →
            IsIn t' (next_of_all w.targets (states_at (target_sizes w.targets) t) e (Some r))
        found t e n t' r target ht' step =
            let x : ℕ = slice_index (states_at (target_sizes w.targets) t') r.target in
            let there : states_number (target_sizes w.targets) (slice_set (states_at (target_sizes w.targets) t) r.target (slice_index (states_at (target_sizes w.targets) t') r.target)) ≡ t' =
            ap (states_number (target_sizes w.targets)) step.others ∙ states_number-at (target_sizes w.targets) t' ht' in
            subst (λ k. IsIn k (next_of_all w.targets (states_at (target_sizes w.targets) t) e (Some r))) there
            (in_map (λ t'. states_number (target_sizes w.targets) (slice_set (states_at (target_sizes w.targets) t) r.target t')) (slice_index (states_at (target_sizes w.targets) t') r.target)
            (member_next (slice_get w.targets r.target) (slice_index (states_at (target_sizes w.targets) t) r.target) e r.action)
            (subst (λ o. IsIn (slice_index (states_at (target_sizes w.targets) t') r.target) (member_next o (slice_index (states_at (target_sizes w.targets) t) r.target) e r.action)) (sym step.member)
            (in_beh_next w.env target (slice_index (states_at (target_sizes w.targets) t) r.target) e r.action (slice_index (states_at (target_sizes w.targets) t') r.target)
            (ok.targets target (get_in w.targets r.target target step.member)).0 step.goes)))

-- ---- one step at a time

-- there is no step if the target has no next state
pub no_step : (targets : List Beh) (ts : List ℕ) (t n e : ℕ) (o : Option Request) (r : Request) (target : Beh) (state : ℕ) (old : List (ℕ × ℕ × ℕ × ℕ)) → o ≡ Some r → slice_get targets r.target ≡ Some target →
    state ≡ slice_index ts r.target → beh_next target state e r.action ≡ [] → old ≡ old ++ moves_in t n e (next_of_all targets ts e o)
no_step targets ts t n e o r target state old asks at is none = grind (arith, append-nil)

-- there is one step if the target has a next state
pub one_step : (targets : List Beh) (ts : List ℕ) (t n e : ℕ) (o : Option Request) (r : Request) (target : Beh) (state to next word : ℕ) (old new : List (ℕ × ℕ × ℕ × ℕ)) → o ≡ Some r → slice_get targets r.target ≡ Some target →
    state ≡ slice_index ts r.target → beh_next target state e r.action ≡ to ∷ [] → next ≡ states_number (target_sizes targets) (slice_set ts r.target to) → word ≡ 2 ^ e →
    new ≡ old ++ (t, word, n, next) ∷ [] → new ≡ old ++ moves_in t n e (next_of_all targets ts e o)
one_step targets ts t n e o r target state to next word old new asks at is one there bits step = grind arith

-- the states from a place on are final
pub final_drop : (targets : List Beh) (ts : List ℕ) (i : ℕ) (target : Beh) (t : ℕ) → slice_get targets i ≡ Some target → i < length ts → t ≡ slice_index ts i →
    are_final (drop i targets) (drop i ts) ≡ (is_final target t && are_final (drop (suc i) targets) (drop (suc i) ts))
final_drop [] ts i target t at l is = absurd (none-some target at)
final_drop (x ∷ targets) [] i target t at l is = absurd (omega arith)
final_drop (x ∷ targets) (u ∷ ts) zero target t at l is = ap₂ (λ b v. is_final b v && are_final targets ts) (same_Some x target at) (sym is)
final_drop (x ∷ targets) (u ∷ ts) (suc i) target t at l is = final_drop targets ts i target t at (omega arith) is

-- the test whether the targets from a place on are final, given the test of the target at that place
pub final_next : (targets : List Named) (shape : Sizes) (t i state : ℕ) (d : Named) (told : Bool) → shape ≡ flat (target_sizes (machines targets)) → t < product_of (target_sizes (machines targets)) → i < length targets →
    state ≡ slice_index (pair_at shape t).bs i → told ≡ is_final (get_or targets i d).target.beh state →
    let ts = states_at (target_sizes (machines targets)) t in are_final (drop i (machines targets)) (drop i ts) ≡ (told && are_final (drop (i + 1) (machines targets)) (drop (i + 1) ts))
final_next targets shape t i state d told same l within is says =
    let sizes = target_sizes (machines targets) in
    rw (says, add-one) (final_drop (machines targets) (states_at sizes t) i (get_or targets i d).target.beh state (machine_at targets i d within)
    (omega (arith, length-states_at sizes t, sizes_length targets)) (part_is sizes shape t i state same l is))
