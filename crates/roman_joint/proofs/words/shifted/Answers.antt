use Rattle.roman_joint.proofs.Common.{◌<◌, ◌*◌, ◌/◌, ◌%◌, ◌^◌, get_or, ap, ◌∙◌, arith, get_or-map, length-map, zip2_splat, shifts_fit_splat, is_on}
use Rattle.roman_joint.proofs.WordLemmas.{on_shl, on_shr}
use Rattle.roman_joint.proofs.words.shifted.Goals as goal

pub overflow_shr-result : goal.overflow_shr-result
overflow_shr-result g c = shifts_fit_splat 64 c.args.words g.row.N c.from.result (omega (arith, c.from.ensures))

pub overflow_shl-result : goal.overflow_shl-result
overflow_shl-result g c = shifts_fit_splat 64 c.args.words g.row.N c.from-2.result (omega (arith, c.from-2.ensures))

pub returns-then-to-from : goal.returns-then-to-from
returns-then-to-from g c =
    let words = c.args.words in
    let by = c.from.result in
    rw (zip2_splat (λ x d. x / 2 ^ d) words g.row.N by c.fits-words.0) (record {
      long = length-map words (λ x. x / 2 ^ by) ∙ c.fits-words.0;
      each = λ i lane within low few fits. ap (λ z. is_on z lane) (get_or-map (λ x. x / 2 ^ by) words i 0 0 (omega (arith, c.fits-words.0))) ∙ on_shr (get_or words i 0) by lane _ (omega (arith, c.from.ensures));
    })

pub returns : goal.returns
returns g c =
    let words = c.args.words in
    let by = c.from-2.result in
    rw (zip2_splat (λ x d. x * 2 ^ d % 2 ^ 64) words g.row.N by c.fits-words.0) (record {
      long = length-map words (λ x. x * 2 ^ by % 2 ^ 64) ∙ c.fits-words.0;
      each = λ i lane within low few fits. ap (λ z. is_on z lane) (get_or-map (λ x. x * 2 ^ by % 2 ^ 64) words i 0 0 (omega (arith, c.fits-words.0))) ∙ on_shl (get_or words i 0) by lane _ few (omega (arith, c.from-2.ensures));
    })
