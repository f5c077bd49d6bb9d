use Rattle.roman_check.proofs.Common.{sym}
use Rattle.roman_check.proofs.EntryLemmas.{few_of, cut_from, no_number, no_parts, some_entry}
use Rattle.roman_check.proofs.entries.entry.Goals as goal

pub returns-in_err-value : goal.returns-in_err-value
returns-in_err-value c = rw c.from_residual.ensures (sym (no_number c.args.pairs c.args.actions c.args.line.now c.ranges.pairs.fits c.in_err-value.ensures))

pub returns-in_err-pair : goal.returns-in_err-pair
returns-in_err-pair c = rw c.from_residual-in_err-pair.ensures (sym (no_parts _ _ _ _ _ (few_of _ _ c.ranges.pairs.fits c.ranges.actions.fits) (cut_from _ _ c.in_ok-value.ensures.0) (λ n r l i e same. c.in_err-pair.ensures n l e)))

pub returns-in_err-reason : goal.returns-in_err-reason
returns-in_err-reason c = rw c.from_residual-in_err-reason.ensures (sym (no_parts _ _ _ _ _ (few_of _ _ c.ranges.pairs.fits c.ranges.actions.fits) (cut_from _ _ c.in_ok-value.ensures.0) (λ n r l i e same. c.in_err-reason.ensures.is r i same)))

pub returns : goal.returns
returns c =
    let (small, number) = c.in_ok-pair.ensures in
    let (given, text) = c.in_ok-reason.ensures.is in
    sym (some_entry _ _ _ _ _ _ _ (few_of _ _ c.ranges.pairs.fits c.ranges.actions.fits) (cut_from _ _ c.in_ok-value.ensures.0) small number given text)
