-- Allowed actions and clause 2 at the pairs of a row.
use Rattle.roman_joint.proofs.Common.{◌≡◌, ℕ, ◌+◌, ◌*◌, ◌<◌, ◌≤◌, Bool, true, false, not, ◌&&◌, ◌||◌, length, refl, sym, ap, ap₂, ◌∙◌, arith, zero, suc, List, [], ◌∷◌, inl, inr, slice_get, slice_index, both_ways, cases_lt, same_test, by_test, AreBelow-length, IsPairOf-at, all_below_at, all_below_from, is_empty, all_below, Sys, Seat, is_final, all_final, env_next, beh_next, is_allowed, is_beaten, is_justified, Act, sizes_of, pair_at, numbered, IsNumbered, lanes_in, IsRow, IsTargetMove, may_rest, is_open, Row, TargetMove, and-true, and_assoc, length-map}
use Rattle.roman_joint.proofs.ArenaFacts.{beaten_where}

pub open_here : (s : Sys) (row : Row) (x a lane : ℕ) → IsRow s x row → lane < lanes_in s → is_allowed s (pair_at (sizes_of s) (x * lanes_in s + lane)) a ≡ is_open s row a
open_here s row x a lane ok l = ap₂ (λ t e. not (is_empty (env_next s.env e a)) && not (is_empty (beh_next s.target t e a))) (ok.targets lane l) (ok.envs lane l)

-- an action that leads somewhere is allowed
pub target_move_open : (s : Sys) (row : Row) (a : ℕ) (target_move : TargetMove) → IsTargetMove s row a target_move → is_open s row a ≡ true
target_move_open s row a target_move ok = grind arith

-- an action is a reason exactly if it is allowed and no seat serves it
pub judged : (s : Sys) (row : Row) (x a lane : ℕ) (allowed : Bool) (gone : ℕ → Bool) → IsRow s x row → lane < lanes_in s → is_open s row a ≡ allowed →
    (allowed && all_below (is_beaten (numbered s) gone (x * lanes_in s + lane) a) (length s.seats)) ≡ is_justified (numbered s) gone (x * lanes_in s + lane) (Act a)
judged s row x a lane allowed gone ok l is =
    sym (ap (λ b. b && all_below (is_beaten (numbered s) gone (x * lanes_in s + lane) a) (length s.seats)) (open_here s row x a lane ok l ∙ is))

-- no seat serves an action that isn't allowed
pub unopened : (s : Sys) (row : Row) (x a k lane : ℕ) (gone : ℕ → Bool) → IsNumbered (numbered s) → IsRow s x row → lane < lanes_in s → is_open s row a ≡ false →
    is_beaten (numbered s) gone (x * lanes_in s + lane) a k ≡ true
unopened s row x a k lane gone nodes ok l off =
    beaten_where (numbered s) gone (x * lanes_in s + lane) a k
    (λ q i. both_ways (is_allowed s (pair_at (sizes_of s) (x * lanes_in s + lane)) a) (open_here s row x a lane ok l ∙ off) (nodes.served (x * lanes_in s + lane) a k q i).0)

pub and_nothing : (b c : Bool) → false ≡ c → false ≡ (b && c)
and_nothing b c e = grind arith

-- if nothing is left after the first k numbers, nothing is left after n
pub cut_off : (p : ℕ → Bool) (k n : ℕ) (wanted : Bool) → k ≤ n → (wanted && all_below p k) ≡ false → (wanted && all_below p n) ≡ false
cut_off p k n false l e = refl
cut_off p k n true l e = by_test (all_below p n) (λ t. absurd (both_ways (all_below p k) e (all_below_from p k (λ i m. all_below_at p n i t (omega arith))))) (λ f. f)

-- further numbers that all pass change nothing
pub all_further : (p : ℕ → Bool) (k n : ℕ) → k ≤ n → ((j : ℕ) → k ≤ j → j < n → p j ≡ true) → all_below p k ≡ all_below p n
all_further p k n l on = same_test _ _ (λ t. all_below_from p n (λ j m. elim (cases_lt j k) [ inl low ↦ all_below_at p k j t low | inr past ↦ on j past m ])) (λ t. all_below_from p k (λ j m. all_below_at p n j t (omega arith)))

-- the test of all numbers below a bound, with the first one split off
all_first : (p : ℕ → Bool) (n : ℕ) → all_below p (suc n) ≡ (p 0 && all_below (λ k. p (suc k)) n)
all_first p zero = sym (and-true (p 0))
all_first p (suc n) = ap (λ b. b && p (suc n)) (all_first p n) ∙ and_assoc (p 0) (all_below (λ k. p (suc k)) n) (p (suc n))

-- all services that rest are final exactly if each seat may rest
pub all_rest : (seats : List Seat) (bs : List ℕ) → length bs ≡ length seats → all_final seats bs ≡ all_below (λ k. may_rest (slice_get seats k) (slice_index bs k)) (length seats)
all_rest [] bs h = refl
all_rest (seat ∷ seats) [] h = absurd (omega (arith, h))
all_rest (seat ∷ seats) (b ∷ bs) h =
    ap (λ t. (not seat.rests || is_final seat.beh b) && t) (all_rest seats bs (omega (arith, h)))
    ∙ sym (all_first (λ k. may_rest (slice_get (seat ∷ seats) k) (slice_index (b ∷ bs) k)) (length seats))

-- clause 2 at a pair of a row
pub fine_there : (s : Sys) (row : Row) (x lane : ℕ) → IsRow s x row → lane < lanes_in s →
    (numbered s).fine (x * lanes_in s + lane) ≡ (not (is_final s.target row.target) || all_below (λ k. may_rest (slice_get s.seats k) (slice_index (pair_at (sizes_of s) (x * lanes_in s + lane)).bs k)) (length s.seats))
fine_there s row x lane ok l =
    let p = x * lanes_in s + lane in
    let long : length (pair_at (sizes_of s) p).bs ≡ length s.seats = AreBelow-length (sizes_of s).seats (pair_at (sizes_of s) p).bs (IsPairOf-at (sizes_of s) p (ok.below lane l)).bs ∙ length-map s.seats (λ (y : Seat). y.beh.states) in
    ap₂ (λ t b. not (is_final s.target t) || b) (ok.targets lane l) (all_rest s.seats (pair_at (sizes_of s) p).bs long)
