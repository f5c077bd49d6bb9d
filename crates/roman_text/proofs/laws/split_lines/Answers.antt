use Rattle.roman_text.proofs.LineLemmas.{lines_are, lines_only}
use Rattle.roman_text.proofs.laws.split_lines.Goals as goal

pub returns-clause-are : goal.returns-clause-are
returns-clause-are c = lines_are

pub returns-clause-only : goal.returns-clause-only
returns-clause-only c = lines_only
