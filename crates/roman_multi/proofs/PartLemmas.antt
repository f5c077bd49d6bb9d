-- The lists from which a behaviour over the combined actions is made.
use Rattle.roman_multi.proofs.Common.{◌≡◌, ℕ, ◌<◌, List, length, filter, slice_get, Err, Option, Some, None, refl, sym, arith, Result, Ok, IfOk, below, IsIn, from_below, filter_in, same_test, listed_number, number_listed, in_beh_next, from_beh_next, Env, Beh, IsEnv, IsBeh, is_final, has, has_move, has_move_on, beh_next, Request, NamedEnv, NamedBeh, IsOver, listed_moves, moves_on, IsBehaviourOf}
use Rattle.roman_multi.proofs.MoveLemmas.{AreListsOf}

-- the next states of a behaviour are states of it
moves_on_below : (beh : Beh) (b e : ℕ) (o : Option Request) (to : ℕ) → IsIn to (moves_on beh b e o) → to < beh.states
moves_on_below beh b e None to i = absurd i
moves_on_below beh b e (Some r) to i = from_below beh.states to (filter_in (has_move beh b e r.action) to (below beh.states) i).0

moves_on_are : (env : Env) (beh : Beh) (b e : ℕ) (o : Option Request) (b' : ℕ) → IsBeh env beh → has (moves_on beh b e o) b' ≡ has_move_on beh o b e b'
moves_on_are env beh b e None b' ok = refl
moves_on_are env beh b e (Some r) b' ok = same_test (has (beh_next beh b e r.action) b') (has_move beh b e r.action b')
    (λ t. from_beh_next beh b e r.action b' (number_listed (beh_next beh b e r.action) b' t))
    (λ t. listed_number (beh_next beh b e r.action) b' (in_beh_next env beh b e r.action b' ok t))

-- the lists from which a behaviour over the combined actions is made
pub behaviour_lists : (env : NamedEnv) (requests : List Request) (behaviour : NamedBeh) (size begin : ℕ) (ends : List ℕ) (moves : List (ℕ × ℕ × ℕ × ℕ)) →
    IsEnv env.env → IsBehaviourOf env behaviour → IsOver behaviour.env_states behaviour.actions behaviour.beh → size ≡ behaviour.beh.states → begin ≡ behaviour.beh.start →
    ends ≡ filter (is_final behaviour.beh) (below behaviour.beh.states) →
    moves ≡ listed_moves env.env.states (length requests) behaviour.beh.states (λ b n e. moves_on behaviour.beh b e (slice_get requests n)) →
    AreListsOf env.env.states (length requests) behaviour.beh.states behaviour.beh.start (is_final behaviour.beh) (λ b e n b'. has_move_on behaviour.beh (slice_get requests n) b e b') size begin ends moves
behaviour_lists env requests behaviour size begin ends moves world of known s b f l = record {
  next = λ b n e. moves_on behaviour.beh b e (slice_get requests n);
  few = world.states.1;
  count = s;
  begins = b;
  finals = f;
  steps = l;
  same = λ b e n b' hb he hn hb'. moves_on_are env.env behaviour.beh b e (slice_get requests n) b' (known env.env (sym of.env_states) (sym of.actions));
  within = λ b n e to hb hn he i. moves_on_below behaviour.beh b e (slice_get requests n) to i;
}
