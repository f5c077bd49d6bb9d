use Rattle.roman_text.proofs.Common.{◌+◌, ◌-◌, List, ℕ, ◌∷◌, ◌++◌, length, take, drop, sym, ap, ◌∙◌, arith, length-drop, take_all}
use Rattle.roman_text.proofs.LineLemmas.{no_newline, first_newline}
use Rattle.roman_text.proofs.lines.split_line.Goals as goal

pub returns-in_err-end : goal.returns-in_err-end
returns-in_err-end c = rw c.from_residual.ensures (no_newline c.args.bytes.now (sym c.newline.ensures ∙ c.in_err-end.was))

pub returns : goal.returns
returns c =
    let bytes = c.args.bytes.now in
    let end = c.in_ok-end.end in
    let (line, whole) = first_newline bytes end (sym c.newline.ensures ∙ c.in_ok-end.was) in
    (line, whole ∙ ap (λ (rest : List ℕ). take end bytes ++ 10 ∷ rest) (sym (take_all (length bytes - (end + 1)) (drop (end + 1) bytes) (omega (arith, length-drop (end + 1) bytes)))))
