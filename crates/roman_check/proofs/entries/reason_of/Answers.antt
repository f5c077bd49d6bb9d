use Rattle.roman_check.proofs.Common.{◌≡◌, ◌+◌, ◌%◌, ◌<◌, [], ◌∷◌, ℕ, arith, ap, ◌∙◌, decimal_digit, act_reason}
use Rattle.roman_check.proofs.entries.reason_of.Goals as goal

pub returns : goal.returns
returns c =
    let action : ℕ = (c.args.byte + 208) % 256 in
    let few : action < 10 = omega (arith, c.min.ensures, c.if-action-min.false) in
    let byte : 48 + action ≡ c.args.byte = omega (arith, c.ranges.byte.fits) in
    (act_reason c.args.actions action (omega (arith, c.min.ensures, c.if-action-min.false)), decimal_digit action few ∙ ap (λ b. b ∷ []) byte)
