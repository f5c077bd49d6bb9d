use Rattle.roman_make.proofs.NameLemmas.{AreNumbered}
use Rattle.roman_make.proofs.names.names_of.Given as goal

abbrev pub invariant-loop-word : goal.invariant-loop-word
invariant-loop-word l = AreNumbered l.words l.word-index l.names
