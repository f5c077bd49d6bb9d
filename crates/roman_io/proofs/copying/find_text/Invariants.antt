use Rattle.std.proofs.Common.{◌≡◌, drop}
use Rattle.roman_io.specs.Memory.{texts_of}
use Rattle.roman_io.specs.Shelf.{text_at}
use Rattle.roman_io.proofs.copying.find_text.Given as goal

-- the text of the name in the remaining files is its text in all files
abbrev pub invariant-loop-file : goal.invariant-loop-file
invariant-loop-file l = text_at (texts_of (drop l.file-index l.files)) l.name ≡ text_at (texts_of l.files) l.name
