-- Choices between steps, searched pair by pair.
use Rattle.roman_parts.proofs.Common.{◌≡◌, ℕ, zero, suc, ◌+◌, ◌<◌, ◌≤◌, ◌==◌, ◌&&◌, List, [], ◌∷◌, length, get_or, take, map, filter, cond, Bool, Option, Some, None, is_some, option_map, refl, ap, ◌∙◌, arith, slice_get, find, below_more, eq-eqb, ne_eqb, get_or-map, length-map, get_or-take, length-take, slice_get-get_or, below, has, from_below, find_first, find_not_found, none_from, has_state, states_of, states_below, has_both, least_below, move_of, first_below, choice_between, choice_at, range_with_len}
use Rattle.roman_parts.proofs.TableLemmas.{has_states_of}

-- ---- the least number at which a function has a value

-- f has no value at the numbers below k
pub record NoneBelow {X : Type 0} (f : ℕ → Option X) (k : ℕ) : Type 0 where
  pub none : (j : ℕ) → j < k → f j ≡ None

module _ {X : Type 0} (f : ℕ → Option X) where
  pub none_below_zero : NoneBelow f 0
  none_below_zero = record { none = λ j h. absurd (omega arith) }

  pub none_below_more : (k : ℕ) → f k ≡ None → NoneBelow f k → NoneBelow f (k + 1)
  none_below_more k here before = record { none = below_more (λ j. f j ≡ None) k before.none here }

  pub first_below-found : (n k : ℕ) (x : X) → k < n → f k ≡ Some x → NoneBelow f k → first_below f n ≡ Some (k, x)
  unfolding first_below
  first_below-found n k x h is before =
      rw (find_first (λ j. is_some (f j)) n k h (ap is_some is) (λ j less. ap is_some (before.none j less)))
      (ap (option_map (λ y. (k, y))) is)

  pub first_below-none : (n k : ℕ) → n ≤ k → NoneBelow f k → first_below f n ≡ None
  unfolding first_below
  first_below-none n k h all =
      rw (find_not_found (λ j. is_some (f j)) (below n) (none_from (λ j. is_some (f j)) (below n)
      (λ j i. ap is_some (all.none j (let less : j < n = from_below n j i in omega arith)))))

pub ruleset searching = (none_below_zero, none_below_more, first_below-found, first_below-none)

-- ---- two steps

find-filter : {X : Type 0} (p q : X → Bool) (xs : List X) → find q (filter p xs) ≡ find (λ x. p x && q x) xs
find-filter p q [] = refl
find-filter p q (x ∷ xs) = grind (arith, (find-filter p q xs))

find_same : (p q : ℕ → Bool) (a m : ℕ) → ((e : ℕ) → a ≤ e → e < a + m → p e ≡ q e) → find p (range_with_len a m) ≡ find q (range_with_len a m)
find_same p q a zero same = refl
find_same p q a (suc m) same =
    rw (same a (omega arith) (omega arith)) (ap (λ r. cond (q a) (Some a) r) (find_same p q (a + 1) m (λ e low high. same e (omega arith) (omega arith))))

-- the first state of one guard that is in the other is the least state of both
pub common_first : (a b : ℕ) → find (has (states_of b)) (states_of a) ≡ least_below (has_both a b) 64
unfolding states_below least_below
common_first a b = grind (arith, (find-filter (has_state a) (has (states_of b)) (range_with_len 0 64)), find_same, has_states_of)

-- the rules for the tests of two steps
pub ruleset pairs = (common_first, eq-eqb, ne_eqb)

-- ---- steps of a list

move_at : (steps : List (ℕ × ℕ × ℕ × ℕ)) (k : ℕ) (d : ℕ × ℕ × ℕ × ℕ) → k < length steps → slice_get (map move_of steps) k ≡ Some (move_of (get_or steps k d))
move_at steps k d h = grind (arith, (get_or-map move_of steps k d (move_of d) h), (length-map steps move_of), (slice_get-get_or (map move_of steps) k (move_of d) (rw (length-map steps move_of) h)))

pub choice_at-read : (steps : List (ℕ × ℕ × ℕ × ℕ)) (j i : ℕ) (m n : ℕ × ℕ × ℕ × ℕ) → j < length steps → i < length (take j steps) → m ≡ get_or steps j m
    → n ≡ get_or (take j steps) i n → choice_at (map move_of steps) j i ≡ choice_between (Some (move_of m)) (Some (move_of n))
unfolding choice_at
choice_at-read steps j i m n h less is has = grind (arith, get_or-take, length-take, move_at)

pub front_length : (steps : List (ℕ × ℕ × ℕ × ℕ)) (j : ℕ) → j < length steps → length (take j steps) ≡ j
front_length steps j h = omega (arith, length-take j steps)

pub moves_length : (steps : List (ℕ × ℕ × ℕ × ℕ)) → length (map move_of steps) ≡ length steps
moves_length steps = length-map steps move_of

pub ruleset choice_steps = (choice_at-read, front_length, moves_length)
