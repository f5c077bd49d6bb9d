use Rattle.roman_check.proofs.Common.{◌≡◌, ◌+◌, ◌-◌, ◌/◌, ◌<◌, ◌≤◌, length, sym, arith, length-take-le, ap, get_or, ◌∙◌, get_or-take}
use Rattle.roman_check.proofs.PatternLemmas.{front_digits, pattern_same}
use Rattle.roman_check.proofs.pattern.Pattern.learn.Goals as goal

pub returns-clause-pattern : goal.returns-clause-pattern
returns-clause-pattern c =
    let parts = c.requires.parts in
    let bytes = c.args.bytes.now in
    let room : 16 ≤ length bytes = c.requires.room in
    let (low, digits) = front_digits bytes c.args.pair c.args.space c.if-pair-lt100.false c.ranges.pair.fits (omega (arith, parts.rest.before, parts.rest.ended.within)) parts.number in
    let place : c.args.space - 2 + 2 ≡ c.args.space = omega arith in
    pattern_same bytes _ _ (record {
      front = c.args.pair / 100;
      some = omega (arith, c.if-pair-lt100.false);
      base = omega (arith, c.from.ensures);
      small = omega (arith, c.from.ensures, c.ranges.pair.fits);
      digits = digits;
      rest = rw place parts.rest;
      short = c.if-len-ge-WIDTH.false;
    }) (omega (arith, length-take-le 16 bytes room, ap length c.copy_from_slice.ensures.after)) (λ k l _ _. (let low : k < 16 = omega arith in sym (ap (λ text. get_or text k 0) c.copy_from_slice.ensures.after ∙ get_or-take 16 bytes k 0 low)))
