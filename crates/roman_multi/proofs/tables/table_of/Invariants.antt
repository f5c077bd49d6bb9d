use Rattle.roman_multi.proofs.Common.{◌≡◌, map, take, IsFalse, list_any, below, stands_before}
use Rattle.roman_multi.proofs.tables.table_of.Given as goal

abbrev pub invariant-loop-word : goal.invariant-loop-word
invariant-loop-word l = record {
  names : l.names ≡ take l.word-index (map (λ word. word.items) l.words);
  new : IsFalse (list_any (stands_before (map (λ word. word.items) l.words)) (below l.word-index));
}
