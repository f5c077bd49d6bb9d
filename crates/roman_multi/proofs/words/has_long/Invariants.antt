use Rattle.roman_multi.proofs.Common.{◌≡◌, map, drop, list_any, is_long}
use Rattle.roman_multi.proofs.words.has_long.Given as goal

abbrev pub invariant-loop-word : goal.invariant-loop-word
invariant-loop-word l = list_any is_long (map (λ word. word.items) (drop l.word-index l.words)) ≡ list_any is_long (map (λ word. word.items) l.words)
