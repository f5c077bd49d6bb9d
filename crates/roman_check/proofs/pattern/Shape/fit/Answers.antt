use Rattle.roman_check.proofs.Common.{arith}
use Rattle.roman_check.proofs.PatternLemmas.{pattern_parts, pattern_same}
use Rattle.roman_check.proofs.pattern.Shape.fit.Goals as goal

pub returns-clause-pair : goal.returns-clause-pair
returns-clause-pair c =
    let (tens_in, tens) = c.digit-tens.ensures.digit (omega (arith, c.if-tens-gt9.false)) in
    let (ones_in, ones) = c.digit-ones.ensures.digit (omega (arith, c.if-ones-gt9.false)) in
    let is = pattern_same c.put_digits.new.text c.args.bytes.now c.args.self c.put_digits.ensures.pattern (omega (arith, c.requires.pattern.short, c.requires.room)) (λ k l _ _. c.begins.ensures c.if-not-begins.false k l) in
    pattern_parts _ _ c.digit-tens.result c.digit-ones.result _ is (omega arith) (omega arith) (omega arith) (omega arith) (omega arith)
