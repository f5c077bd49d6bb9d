-- The result of examining the outcomes of a delegation.
use Rattle.std.specs.Prelude.{◌≡◌, ℕ, Bool, List, [], None, Some, IsFalse, slice_index}
use Rattle.std.specs.List.{find}
use Rattle.roman_model.specs.Lists.{is_empty}
use Rattle.roman_model.specs.Numbers.{Sizes, pair_at}
use Rattle.roman_rules.specs.declared.finding.Finding.{Finding}
use Rattle.roman_rules.specs.declared.finding.Finding.TheVariants.{Good, NoOutcome, Leaves}

-- the finding is correct for the outcomes qs of a delegation to seat k, if the gone pairs are those that pass the test
abbrev pub IsFinding : Sizes → ℕ → (ℕ → Bool) → List ℕ → Finding → Type 0
IsFinding n k gone qs Good = IsFalse (is_empty qs) × (find gone qs ≡ None)
IsFinding n k gone qs NoOutcome = qs ≡ []
IsFinding n k gone qs (Leaves env state pair) = (find gone qs ≡ Some pair) × ((pair_at n pair).e ≡ env) × (slice_index (pair_at n pair).bs k ≡ state)

-- there is an outcome and none is gone, or there is no outcome, or the first outcome that is gone is named
pub record HasFinding (n : Sizes) (k : ℕ) (gone : ℕ → Bool) (qs : List ℕ) (finding : Finding) : Type 0 where
  pub is : IsFinding n k gone qs finding
