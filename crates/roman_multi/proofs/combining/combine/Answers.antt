use Rattle.roman_multi.proofs.Common.{◌<◌, sym, subst, ◌∙◌, refl, All, arith}
use Rattle.roman_multi.proofs.CombineLemmas.{merge_is}
use Rattle.roman_multi.proofs.KnownLemmas.{sizes_positive}
use Rattle.roman_multi.proofs.combining.combine.Goals as goal

pub new-requires-clause-sizes : goal.new-requires-clause-sizes
new-requires-clause-sizes c =
    subst (λ xs. All (λ size. 0 < size) xs) (sym (c.deref.ensures.value ∙ c.in_ok-sizes.ensures.sizes)) (sizes_positive c.args.env.now c.args.targets.now c.in_ok-sizes.ensures.known)

pub combine_parts-requires-clause-merge : goal.combine_parts-requires-clause-merge
combine_parts-requires-clause-merge c =
    merge_is _ _ _ c.requires.count c.in_ok-sizes.ensures.known c.in-Some.ensures.shape (c.deref.ensures.value ∙ c.in_ok-sizes.ensures.sizes) c.from.ensures (c.in-Some.ensures.fits.0 refl)
    (c.deref-3.ensures.value ∙ c.in_ok-requests.ensures.requests) (rw c.deref-3.ensures.value (rw c.deref-2.ensures.value at (sym c.has_bad_count.ensures ∙ c.if-has_bad_count.false)))
