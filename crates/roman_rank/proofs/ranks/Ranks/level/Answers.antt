use Rattle.roman_rank.proofs.Common.{◌==◌, List, ℕ, sym, ap, ◌∙◌, subst, count_by, IsLeast, Counts}
use Rattle.roman_rank.proofs.Telling.{depth_counted}
use Rattle.roman_rank.proofs.ranks.Ranks.level.Goals as goal

pub returns : goal.returns
returns c = λ s are.
    let same = c.count_equal.ensures.counted ∙ ap (λ (xs : List ℕ). count_by (λ d. d == c.args.n) xs) (c.deref.ensures.value ∙ c.self.view_is) in
    subst (Counts s (λ p. IsLeast s p c.args.n)) (sym same) (depth_counted s c.args.self.now c.args.n are c.requires)
