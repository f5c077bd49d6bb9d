use Rattle.roman_multi.proofs.Common.{◌≡◌, map, take, All, IsTrue, is_word, request_name}
use Rattle.roman_multi.proofs.words.request_words.Given as goal

abbrev pub invariant-loop-request : goal.invariant-loop-request
invariant-loop-request l = record {
  words : map (λ word. word.items) l.words.items ≡ map (request_name l.merge.env.now.actions l.merge.targets.now) (take l.request-index l.merge.requests.now);
  bytes : All (λ word. IsTrue (is_word word.items)) l.words.items;
}
