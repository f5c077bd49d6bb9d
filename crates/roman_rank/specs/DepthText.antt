-- The text of depths: the number of pairs of each depth, and the depth of the start pair.
use Rattle.std.specs.Prelude.{◌≡◌, ◌⊎◌, ℕ, suc, ◌-◌, ◌<◌, List, [], ◌∷◌, ◌++◌, Option, None, Some, Result, length, slice_index, codes, decimal, IfSome}
use Rattle.roman_io.specs.Sink.{Puts}
use Rattle.roman_model.specs.System.{Sys, Pair, IsPair}
use Rattle.roman_model.specs.Composition.{Great}
use Rattle.roman_model.specs.Numbers.{sizes_of, count}
use Rattle.roman_model.specs.Play.{IsLeast, DepthPlayWins}
use Rattle.roman_model.specs.Counting.{Counts}
use Rattle.roman_rank.specs.Depths.{IsDepth}

-- `pairs P` and `related R`
abbrev pub head_lines : ℕ → ℕ → List ℕ
head_lines pairs related = codes "pairs " ++ decimal pairs ++ codes "\nrelated " ++ decimal related ++ codes "\n"

-- `depth N: C`
abbrev pub level_line : ℕ → ℕ → List ℕ
level_line n pairs = codes "depth " ++ decimal n ++ codes ": " ++ decimal pairs ++ codes "\n"

-- the line of the start pair, with its depth or `related`, and the last line
abbrev pub last_lines : Option ℕ → List ℕ
last_lines None = codes "start related\nend\n"
last_lines (Some n) = codes "start depth " ++ decimal n ++ codes "\nend\n"

-- a line for each count, from depth n on
abbrev pub level_lines : ℕ → List ℕ → List ℕ
level_lines n [] = []
level_lines n (pairs ∷ counts) = level_line n pairs ++ level_lines (suc n) counts

-- The text states how many pairs are related, how many have each depth up to the greatest one, and the depth of the start pair p.
-- The opponent that plays by the depths wins from p within as many requests, whichever services serve.
pub record TellsDepths (s : Sys) (p : Pair) (text : List ℕ) : Type 0 where
  pub related : ℕ
  pub great : Counts s (Great s) related
  pub counts : List ℕ
  pub counted : (n : ℕ) → n < length counts → Counts s (λ q. IsLeast s q n) (slice_index counts n)
  pub all : (q : Pair) → IsPair s q → Great s q ⊎ ((n : ℕ) × (n < length counts) × IsLeast s q n)
  pub last : 0 < length counts → 0 < slice_index counts (length counts - 1)
  pub start : Option ℕ
  pub depth : IsDepth s p start
  pub wins : IfSome start (λ n. DepthPlayWins s n p)
  pub says : text ≡ head_lines (count (sizes_of s)) related ++ level_lines 0 counts ++ last_lines start

-- a text that states the depths was written
pub record PutsDepths {T E : Type 0} (s : Sys) (p : Pair) (old new : Option (List ℕ)) (result : Result T E) : Type 0 where
  pub text : List ℕ
  pub tells : TellsDepths s p text
  pub puts : Puts old new text result
