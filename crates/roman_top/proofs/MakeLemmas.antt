-- Made systems, as part of a run.
use Rattle.roman_top.proofs.Common.{◌≡◌, ℕ, ◌<◌, ◌≤◌, Bool, IsTrue, IsFalse, length, nat_le, refl, sym, subst, arith, ltb-true, all_below, by_test, all_below_at, PlainLibrary, IsLibrary, made, floor, worker, shift, cells, Situation, IsStart, IsKnownSituation, library_system, is_past_limit, leb-true}
use Rattle.roman_top.proofs.StartsKnown.{start_known}

-- ---- the limit

made_limit : (n : ℕ) → (made n).limit ≡ 4194304
unfolding made
made_limit n = refl

-- a made system has at most 4,194,304 cells
are_few : ℕ → Bool
are_few n = nat_le (cells (library_system (made n))) 4194304

all_few : IsTrue (all_below are_few 11)
unfolding are_few made floor worker shift
all_few = refl

few_cells : (n : ℕ) → n ≤ 10 → cells (library_system (made n)) ≤ 4194304
unfolding are_few
few_cells n few = leb-true (cells (library_system (made n))) 4194304 (all_below_at are_few 11 n all_few (omega arith))

-- the cells of a made system don't exceed its limit
pub not_past_limit : (library : PlainLibrary) (n : ℕ) → library ≡ made n → n ≤ 10 → library.limit < cells (library_system library) → ⊥
not_past_limit library n is few past = grind (arith, few_cells, made_limit)

-- a session of a made system begins in a well-formed situation
named_made : (n : ℕ) → (length (made n).environment.states ≡ (made n).environment.env.states) × (length (made n).environment.actions ≡ (made n).environment.env.actions)
unfolding made floor
named_made n = (refl, refl)

pub made_start : (library : PlainLibrary) (n : ℕ) (s : Situation) → library ≡ made n → n ≤ 10 → IsLibrary library → IsStart library s → IsKnownSituation s
made_start library n s is few known start =
    let (states, actions) = subst (λ (l : PlainLibrary). (length l.environment.states ≡ l.environment.env.states) × (length l.environment.actions ≡ l.environment.env.actions)) (sym is) (named_made n) in
    let within : IsFalse (is_past_limit library) = by_test (is_past_limit library)
    (λ past. absurd (not_past_limit library n is few (ltb-true library.limit (cells (library_system library)) past))) (λ within. within) in
    start_known library s (record { known = known; states = states; actions = actions }) within start
