use Rattle.roman_check.proofs.Common.{◌+◌, ◌-◌, length, take, drop, None, Some, refl, take_rest}
use Rattle.roman_check.proofs.Texts.{newline_found}
use Rattle.roman_check.proofs.ReaderLemmas.{line_read, reads_then, rest_read}
use Rattle.roman_check.proofs.reader.Reader.feed.Goals as goal

pub returns-in_default : goal.returns-in_default
returns-in_default g c =
    let so_far = reads_then _ _ _ _ _ _ _ _ _ _ c.lines.invariant.read c.in-Ok.ensures.read in
    record {
      to = length c.args.piece.now;
      read = reads_then _ _ _ _ _ _ _ _ _ _ so_far (rest_read _ _ _ _ _ _ _ so_far.high (take_rest c.args.piece.now c.in-Ok.start) (newline_found (take (length c.args.piece.now - c.in-Ok.start) (drop c.in-Ok.start c.args.piece.now)) None c.in_default.ensures) so_far.shaped refl refl c.extend.ensures);
      whole = λ none. refl;
    }

pub returns-in-Some-end_line : goal.returns-in-Some-end_line
returns-in-Some-end_line g c =
    let so_far = reads_then _ _ _ _ _ _ _ _ _ _ c.lines.invariant.read c.in-Ok.ensures.read in
    let (ended, line) = newline_found _ (Some c.in-Some.len) c.in-Some.ensures in
    record {
      to = c.in-Ok.start + c.in-Some.len + 1;
      read = reads_then _ _ _ _ _ _ _ _ _ _ so_far (line_read _ _ _ _ _ _ _ (Some c.in-Some-end_line.why) so_far.high ended line c.in-Some-end_line.ensures);
      whole = λ none. (let h : ⊥ = cc in absurd h);
    }

pub lines-preserved : goal.lines-preserved
lines-preserved g c =
    let so_far = reads_then _ _ _ _ _ _ _ _ _ _ c.lines.invariant.read c.in-Ok.ensures.read in
    let (ended, line) = newline_found _ (Some c.in-Some.len) c.in-Some.ensures in
    record { read = reads_then _ _ _ _ _ _ _ _ _ _ so_far (line_read _ _ _ _ _ _ _ None so_far.high ended line (rw c.in_default-end_line.is at c.end_line.ensures)) }
