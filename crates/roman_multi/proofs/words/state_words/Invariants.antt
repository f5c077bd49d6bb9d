use Rattle.roman_multi.proofs.Common.{◌≡◌, map, All, IsTrue, target_sizes, below, states_at, joined, machines, names_at, is_word}
use Rattle.roman_multi.proofs.words.state_words.Given as goal

abbrev pub invariant-loop-t : goal.invariant-loop-t
invariant-loop-t l = record {
  words : map (λ word. word.items) l.words.items ≡ map (λ t. joined (names_at l.merge.targets.now (states_at (target_sizes (machines l.merge.targets.now)) t))) (below l.t);
  bytes : All (λ word. IsTrue (is_word word.items)) l.words.items;
}
