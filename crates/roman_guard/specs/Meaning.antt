-- The meaning of a guard, and the states of a word.
use Rattle.std.specs.Prelude.{ℕ, ◌==◌, ◌&&◌, Bool, true, false, not, List, filter, Option, find}
use Rattle.std.specs.Int.{bit_at}
use Rattle.std.specs.List.{list_all, list_any, range_with_len}
use Rattle.roman_guard.specs.declared.formula.Guard.{Guard}
use Rattle.roman_guard.specs.declared.formula.Guard.TheOpen.{Guard-F}
use Rattle.roman_guard.specs.declared.formula.Guard.TheFolds.{fold-Guard}

-- state e is in the list
abbrev pub is_one_of : List ℕ → ℕ → Bool
is_one_of states e = list_any (λ s. s == e) states

-- the states that the set doesn't have
abbrev pub complement : (ℕ → Bool) → ℕ → Bool
complement set e = not (set e)

-- the states that are in each set
abbrev pub intersection : List (ℕ → Bool) → ℕ → Bool
intersection sets e = list_all (λ set. set e) sets

-- the states that are in some set
abbrev pub union : List (ℕ → Bool) → ℕ → Bool
union sets e = list_any (λ set. set e) sets

-- one level of a guard, in which each inner guard is replaced by the set of its states
abbrev pub holds_over : Guard-F (ℕ → Bool) → ℕ → Bool
holds_over Guard-F.All = λ _. true
holds_over Guard-F.Never = λ _. false
holds_over (Guard-F.Among states) = is_one_of states.items
holds_over (Guard-F.Not set) = complement set.value
holds_over (Guard-F.Both sets) = intersection sets.items
holds_over (Guard-F.Either sets) = union sets.items

-- the guard holds in state e
abbrev pub holds : Guard → ℕ → Bool
holds = fold-Guard (ℕ → Bool) holds_over

-- the numbers below n that pass the test, rising
unfoldable pub states_below : (ℕ → Bool) → ℕ → List ℕ
states_below test n = filter test (range_with_len 0 n)

-- the states below n in which the guard holds
abbrev pub means : Guard → ℕ → List ℕ
means guard n = states_below (holds guard) n

-- bit e of the word is 1
abbrev pub has_state : ℕ → ℕ → Bool
has_state word e = bit_at word e == 1

-- the states of a word
abbrev pub states_of : ℕ → List ℕ
states_of word = states_below (has_state word) 64

-- both words have state e
abbrev pub has_both : ℕ → ℕ → ℕ → Bool
has_both a b e = has_state a e && has_state b e

-- the least number below n that passes the test, if any
unfoldable pub least_below : (ℕ → Bool) → ℕ → Option ℕ
least_below test n = find test (range_with_len 0 n)
