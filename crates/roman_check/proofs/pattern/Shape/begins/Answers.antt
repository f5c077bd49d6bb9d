use Rattle.roman_check.proofs.Common.{◌-◌, length, arith}
use Rattle.roman_check.proofs.PatternLemmas.{same_ends}
use Rattle.roman_check.proofs.pattern.Shape.begins.Goals as goal

pub returns-then-halves_alike : goal.returns-then-halves_alike
returns-then-halves_alike c t =
    let bytes = c.args.bytes.now in
    let last = c.args.self.len - 3 in
    same_ends c.args.text.now bytes 4 last c.args.self.len (16 - last) (length bytes - last) (omega (arith, c.if-self-lt7.true)) (omega (arith, c.requires.long)) (omega (arith, c.if-self-lt7.true)) (omega (arith, c.if-self-lt7.true, c.requires.room))
    (c.halves_alike.ensures c.if-halves_alike.true) (c.halves_alike-then-halves_alike.ensures t)

pub returns-then-words_alike : goal.returns-then-words_alike
returns-then-words_alike c t =
    let bytes = c.args.bytes.now in
    let last = c.args.self.len - 7 in
    same_ends c.args.text.now bytes 8 last c.args.self.len (16 - last) (length bytes - last) (omega (arith, c.requires.short)) (omega (arith, c.if-self-lt7.false)) (omega (arith, c.requires.short)) (omega (arith, c.requires.short, c.requires.room))
    (c.words_alike.ensures c.if-words_alike.true) (c.words_alike-then-words_alike.ensures t)
