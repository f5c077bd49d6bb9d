-- The numbers of pairs, and the arena over them.
use Rattle.std.specs.Prelude.{◌≡◌, ℕ, ◌<◌, ◌==◌, ◌+◌, ◌*◌, ◌/◌, ◌%◌, List, [], ◌∷◌, ◌++◌, map, length, slice_get}
use Rattle.std.specs.List.{AllZip, remove}
use Rattle.roman_model.specs.Lists.{below, product_of}
use Rattle.roman_model.specs.Arena.{Arena, Entry}
use Rattle.roman_model.specs.System.{Sys, Pair, IsPair}
use Rattle.roman_model.specs.SystemArena.{outcomes, is_allowed, is_fine, is_ready}
use Rattle.roman_model.specs.CompleteLists.{IsComplete}

-- the numbers of states of the target, of the environment and of each seat
pub record Sizes : Type 0 where
  pub target : ℕ
  pub env : ℕ
  pub seats : List ℕ

-- the sizes of a system
abbrev pub sizes_of : Sys → Sizes
sizes_of s = record { target = s.target.states; env = s.env.states; seats = map (λ seat. seat.beh.states) s.seats }

-- the list has one state for each size, each below its size
abbrev pub AreBelow : List ℕ → List ℕ → Type 0
AreBelow sizes bs = AllZip (λ size b. b < size) sizes bs

-- each state of the pair is below its size, and there is one for each seat
pub record IsPairOf (n : Sizes) (p : Pair) : Type 0 where
  pub t : p.t < n.target
  pub e : p.e < n.env
  pub bs : AreBelow n.seats p.bs

-- the sizes with a last seat of `size` states
abbrev pub grown_sizes : Sizes → ℕ → Sizes
grown_sizes n size = record { target = n.target; env = n.env; seats = n.seats ++ size ∷ [] }

-- the sizes without the k-th seat
abbrev pub sizes_without : ℕ → Sizes → Sizes
sizes_without k n = record { target = n.target; env = n.env; seats = remove n.seats k }

-- the number of pairs
abbrev pub count : Sizes → ℕ
count n = n.target * n.env * product_of n.seats

-- the number of a list of one state for each seat: the last state changes fastest
abbrev pub states_number : List ℕ → List ℕ → ℕ
states_number [] bs = 0
states_number (size ∷ sizes) [] = 0
states_number (size ∷ sizes) (b ∷ bs) = b * product_of sizes + states_number sizes bs

-- the list of states with number i
abbrev pub states_at : List ℕ → ℕ → List ℕ
states_at [] i = []
states_at (size ∷ sizes) i = i / product_of sizes ∷ states_at sizes (i % product_of sizes)

-- the number of a pair: the target's state is the most significant digit, then the environment's, then the seats'; the last seat's state changes fastest
abbrev pub number : Sizes → Pair → ℕ
number n p = (p.t * n.env + p.e) * product_of n.seats + states_number n.seats p.bs

-- the pair with number i
abbrev pub pair_at : Sizes → ℕ → Pair
pair_at n i = record {
  t = i / product_of n.seats / n.env;
  e = i / product_of n.seats % n.env;
  bs = states_at n.seats (i % product_of n.seats);
}

-- the numbers below the count are exactly the numbers of the pairs
pub record NumbersArePairs (s : Sys) : Type 0 where
  pub below : (p : Pair) → IsPair s p → number (sizes_of s) p < count (sizes_of s)
  pub back : (p : Pair) → IsPair s p → pair_at (sizes_of s) (number (sizes_of s) p) ≡ p
  pub pair : (i : ℕ) → i < count (sizes_of s) → IsPair s (pair_at (sizes_of s) i)
  pub there : (i : ℕ) → i < count (sizes_of s) → number (sizes_of s) (pair_at (sizes_of s) i) ≡ i

-- the system as an arena over the numbers of its pairs
abbrev pub numbered : Sys → Arena ℕ
numbered s = record {
  same = λ p q. p == q;
  nodes = below (count (sizes_of s));
  actions = s.env.actions;
  seats = length s.seats;
  fine = λ p. is_fine s (pair_at (sizes_of s) p);
  allows = λ p a. is_allowed s (pair_at (sizes_of s) p) a;
  ready = λ k. is_ready (slice_get s.seats k);
  outcomes = λ p a k. map (number (sizes_of s)) (outcomes s (pair_at (sizes_of s) p) a k);
}

-- the entry of the pair whose number the given entry has
abbrev pub entry_at : Sys → Entry ℕ → Entry Pair
entry_at s x = record { node = pair_at (sizes_of s) x.node; reason = x.reason }

-- the entries, taken as entries of pairs, are a complete removal list
abbrev pub IsCompleteList : Sys → List (Entry ℕ) → Type 0
IsCompleteList s L = IsComplete s (map (entry_at s) L)
