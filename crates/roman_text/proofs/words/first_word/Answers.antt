use Rattle.roman_text.proofs.Common.{◌≡◌, ◌-◌, length, take, drop, sym, ◌∙◌, arith, length-drop, take_all}
use Rattle.roman_text.proofs.WordLemmas.{no_words, word_first}
use Rattle.roman_text.proofs.words.first_word.Goals as goal

pub returns-in_err-start : goal.returns-in_err-start
returns-in_err-start c = rw c.from_residual.ensures (no_words c.args.line.now (sym c.word_start.ensures ∙ c.in_err-start.was))

pub returns : goal.returns
returns c =
    let line = c.args.line.now in
    let start = c.in_ok-start.start in
    let same : take (length line - start) (drop start line) ≡ drop start line =
    take_all (length line - start) (drop start line) (omega (arith, length-drop start line)) in
    word_first line _ _ _ start c.word_end.result (sym c.word_start.ensures ∙ c.in_ok-start.was) same c.word_end.ensures.end c.split_at.ensures.front c.split_at.ensures.back
