use Rattle.roman_multi.proofs.Common.{◌≡◌, ◌++◌, used_by}
use Rattle.roman_multi.proofs.asking.push_requests.Given as goal

abbrev pub invariant-loop-a : goal.invariant-loop-a
invariant-loop-a l = l.requests.items ≡ l.fn.requests.items ++ used_by l.env_states l.a l.target.beh l.place
