-- Removal lists over the numbers of pairs, after a change of the system.
use Rattle.std.specs.Prelude.{ℕ, ◌+◌, ◌*◌, ◌/◌, ◌%◌, ◌==◌, List, [], ◌∷◌, map, drop, if◌then◌else◌, slice_index}
use Rattle.std.specs.List.{list_any, filter, flat_map}
use Rattle.roman_model.specs.Lists.{below, product_of}
use Rattle.roman_model.specs.Arena.{Entry}
use Rattle.roman_model.specs.Numbers.{Sizes, pair_at}
use Rattle.roman_model.specs.Change.{Change, Freeze, Thaw, Join, Die, may_go}

-- the entries of an entry after the join of a seat with `size` states: one for each state
abbrev pub grown_numbers : ℕ → Entry ℕ → List (Entry ℕ)
grown_numbers size x = map (λ b. record { node = x.node * size + b; reason = x.reason }) (below size)

-- the number of the pair without its k-th state
abbrev pub number_without : ℕ → Sizes → ℕ → ℕ
number_without k n i = i / product_of (drop (k + 1) n.seats) / slice_index n.seats k * product_of (drop (k + 1) n.seats) + i % product_of (drop (k + 1) n.seats)

-- the entry, with its number without the k-th state
abbrev pub number_entry_without : ℕ → Sizes → Entry ℕ → Entry ℕ
number_entry_without k n x = record { node = number_without k n x.node; reason = x.reason }

-- the first entry of each number, without the numbers that were seen already
abbrev pub first_numbers : List ℕ → List (Entry ℕ) → List (Entry ℕ)
first_numbers seen [] = []
first_numbers seen (x ∷ L) = if list_any (λ i. x.node == i) seen then first_numbers seen L else x ∷ first_numbers (x.node ∷ seen) L

-- the removal list, renamed to the numbers of the new system's pairs
abbrev pub rename_numbers : Change → Sizes → List (Entry ℕ) → List (Entry ℕ)
rename_numbers (Freeze k) n L = L
rename_numbers (Thaw k) n L = L
rename_numbers (Join seat) n L = flat_map (grown_numbers seat.beh.states) L
rename_numbers (Die k seat) n L = first_numbers [] (map (number_entry_without k n) (filter (λ x. may_go k seat (pair_at n x.node)) L))
