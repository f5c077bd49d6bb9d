use Rattle.roman_check.proofs.Common.{◌∙◌, sym, arith}
use Rattle.roman_check.proofs.EntryLemmas.{no_reason_text}
use Rattle.roman_check.proofs.entries.reason.Goals as goal

pub returns-in_err-action : goal.returns-in_err-action
returns-in_err-action c =
    rw c.from_residual.ensures (no_reason_text c.args.actions c.args.text.now (sym c.is_final.ensures ∙ c.if-is_final.false) (λ n l. c.in_err-action.ensures n (omega (arith, c.from.ensures))))
