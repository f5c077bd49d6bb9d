use Rattle.roman_multi.proofs.Common.{◌≡◌, map, take, combined_behaviour}
use Rattle.roman_multi.proofs.behaviours.combine_catalogue.Given as goal

abbrev pub invariant-loop-behaviour : goal.invariant-loop-behaviour
invariant-loop-behaviour l = l.made.items ≡ map (combined_behaviour l.merge.env.now l.merge.requests.now) (take l.behaviour-index l.catalogue)
