use Rattle.roman_c.proofs.Common.{◌≡◌, texts_of, text_at}
use Rattle.std.proofs.Common.{drop}
use Rattle.roman_c.proofs.shelf.find_text.Given as goal

-- the text of the name in the remaining files is its text in all files
abbrev pub invariant-loop-file : goal.invariant-loop-file
invariant-loop-file l = text_at (texts_of (drop l.file-index l.files)) l.name ≡ text_at (texts_of l.files) l.name
