use Rattle.roman_multi.proofs.Common.{◌≡◌, ◌<◌, length, take, IsTrue, list_all, target_sizes, states_at, is_name_byte, joined, machines, names_at}
use Rattle.roman_multi.proofs.words.state_word.Given as goal

abbrev pub invariant-loop-i : goal.invariant-loop-i
invariant-loop-i l = record {
  word : l.word.items ≡ joined (take l.i (names_at l.targets (states_at (target_sizes (machines l.targets)) l.t)));
  bytes : IsTrue (list_all is_name_byte l.word.items);
  some : 0 < l.i → 0 < length l.word.items;
}
