-- The numbers of a system's pairs, and of the pairs of any sizes, even beyond the limits of documents.
use Rattle.std.specs.Prelude.{◌≡◌, ℕ, ◌<◌, List}
use Rattle.roman_model.specs.Lists.{product_of}
use Rattle.roman_model.specs.System.{Sys, Pair, IsSys}
use Rattle.roman_model.specs.Numbers.{Sizes, AreBelow, IsPairOf, NumbersArePairs, count, states_number, states_at, number, pair_at}

-- the pairs and the numbers below their count correspond one to one
abbrev pub PairsAreNumbered : Type 0
PairsAreNumbered = (s : Sys) → IsSys s → NumbersArePairs s

-- the numbers below the count are exactly the numbers of the pairs with these sizes
pub record NumbersArePairsOf (n : Sizes) : Type 0 where
  pub below : (p : Pair) → IsPairOf n p → number n p < count n
  pub back : (p : Pair) → IsPairOf n p → pair_at n (number n p) ≡ p
  pub pair : (i : ℕ) → i < count n → IsPairOf n (pair_at n i)
  pub there : (i : ℕ) → i < count n → number n (pair_at n i) ≡ i

-- the numbers below the product of the sizes are exactly the numbers of the lists with one state for each size
pub record NumbersAreStatesOf (sizes : List ℕ) : Type 0 where
  pub below : (bs : List ℕ) → AreBelow sizes bs → states_number sizes bs < product_of sizes
  pub back : (bs : List ℕ) → AreBelow sizes bs → states_at sizes (states_number sizes bs) ≡ bs
  pub states : (i : ℕ) → i < product_of sizes → AreBelow sizes (states_at sizes i)
  pub there : (i : ℕ) → i < product_of sizes → states_number sizes (states_at sizes i) ≡ i

-- pairs and lists of states correspond to numbers one to one, for all sizes
pub record ShapesAreNumbered : Type 0 where
  pub pairs : (n : Sizes) → NumbersArePairsOf n
  pub states : (sizes : List ℕ) → NumbersAreStatesOf sizes
