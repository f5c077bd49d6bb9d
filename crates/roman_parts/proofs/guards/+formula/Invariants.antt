-- Each call goes to a value that is nested less deeply, or stays and goes down the ranks of the functions.
use Rattle.roman_parts.proofs.Common.{◌+◌, ◌*◌, [], map, depth, items_view, view, each_item, pushing, IsLeft, holds, guard_of}
use Rattle.roman_parts.proofs.guards.+formula.Given as goal

abbrev pub decreases-read_guard : goal.decreases-read_guard
decreases-read_guard l = 4 * depth (view l.v.now) + 2

abbrev pub decreases-read_operator : goal.decreases-read_operator
decreases-read_operator l = 4 * depth (view l.v.now) + 4

abbrev pub decreases-read_guards : goal.decreases-read_guards
decreases-read_guards l = 4 * depth (view l.v.now) + 3

abbrev pub invariant-read_guards-loop-item : goal.invariant-read_guards-loop-item
invariant-read_guards-loop-item l =
    IsLeft (pushing (λ _. guard_of l.states l.index)) l.items l.item-index (map holds l.guards.items)
    (each_item (pushing (λ _. guard_of l.states l.index)) 0 [] (items_view l.items))
