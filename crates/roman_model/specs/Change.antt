-- Changes of a system, and the removal lists after them.
use Rattle.std.specs.Prelude.{◌≡◌, ℕ, zero, suc, ◌<◌, Bool, true, false, not, ◌||◌, List, [], ◌∷◌, ◌++◌, map, length, Some, if◌then◌else◌, slice_get, slice_index}
use Rattle.std.specs.List.{list_any, filter, flat_map, remove}
use Rattle.roman_model.specs.Lists.{below}
use Rattle.roman_model.specs.Arena.{Entry, IsOrder, replay}
use Rattle.roman_model.specs.System.{Seat, Sys, Pair, IsBeh, IsSys, is_final}
use Rattle.roman_model.specs.SystemArena.{same_pair, arena}
use Rattle.roman_model.specs.CompleteLists.{AreEntries}
use Rattle.roman_model.specs.declared.limits.TheConstants.{MAX_SERVICES}

-- a change of the seats: a join carries the new seat, and a death carries the place and the seat that leaves
pub data Change : Type 0 where
  Freeze : (k : ℕ) → Change
  Thaw : (k : ℕ) → Change
  Join : (seat : Seat) → Change
  Die : (k : ℕ) → (seat : Seat) → Change

-- the seats, with seat k frozen or made ready
abbrev pub set_frozen : List Seat → ℕ → Bool → List Seat
set_frozen [] k frozen = []
set_frozen (seat ∷ seats) zero frozen = record { beh = seat.beh; frozen = frozen; rests = seat.rests } ∷ seats
set_frozen (seat ∷ seats) (suc k) frozen = seat ∷ set_frozen seats k frozen

-- the seats after the change
abbrev pub seats_after : Change → List Seat → List Seat
seats_after (Freeze k) seats = set_frozen seats k true
seats_after (Thaw k) seats = set_frozen seats k false
seats_after (Join seat) seats = seats ++ seat ∷ []
seats_after (Die k seat) seats = remove seats k

-- the system after the change
abbrev pub after : Change → Sys → Sys
after change s = record { env = s.env; target = s.target; seats = seats_after change s.seats }

-- the pair with the state b of a new last seat
abbrev pub grown : Pair → ℕ → Pair
grown p b = record { t = p.t; e = p.e; bs = p.bs ++ b ∷ [] }

-- the pair without its k-th state
abbrev pub without : ℕ → Pair → Pair
without k p = record { t = p.t; e = p.e; bs = remove p.bs k }

-- seat k doesn't keep the pair from being final
abbrev pub may_go : ℕ → Seat → Pair → Bool
may_go k seat p = not seat.rests || is_final seat.beh (slice_index p.bs k)

-- the first entry of each pair, without the pairs that were seen already
abbrev pub firsts : List Pair → List (Entry Pair) → List (Entry Pair)
firsts seen [] = []
firsts seen (x ∷ L) = if list_any (same_pair x.node) seen then firsts seen L else x ∷ firsts (x.node ∷ seen) L

-- the entries of an entry after a join: one for each state of the new seat
abbrev pub grown_entries : Seat → Entry Pair → List (Entry Pair)
grown_entries seat x = map (λ b. record { node = grown x.node b; reason = x.reason }) (below seat.beh.states)

-- the entry, with its pair without the k-th state
abbrev pub entry_without : ℕ → Entry Pair → Entry Pair
entry_without k x = record { node = without k x.node; reason = x.reason }

-- the removal list, renamed to the pairs of the new system
abbrev pub rename : Change → List (Entry Pair) → List (Entry Pair)
rename (Freeze k) L = L
rename (Thaw k) L = L
rename (Join seat) L = flat_map (grown_entries seat) L
rename (Die k seat) L = firsts [] (map (entry_without k) (filter (λ x. may_go k seat x.node) L))

-- the change can be made
abbrev pub CanChange : Change → Sys → Type 0
CanChange (Freeze k) s = k < length s.seats
CanChange (Thaw k) s = k < length s.seats
CanChange (Join seat) s = IsBeh s.env seat.beh × (length s.seats < MAX_SERVICES)
CanChange (Die k seat) s = slice_get s.seats k ≡ Some seat

-- the change is one after which the whole renamed list is a removal list
abbrev pub KeepsAll : Change → Type 0
KeepsAll (Freeze k) = Unit {0}
KeepsAll (Thaw k) = ⊥
KeepsAll (Join seat) = ⊥
KeepsAll (Die k seat) = Unit {0}

-- the new system is well formed, and the replay of the renamed list is a removal list of its pairs
pub record RenamedReplays (change : Change) (s : Sys) (L : List (Entry Pair)) : Type 0 where
  pub system : IsSys (after change s)
  pub pairs : AreEntries (after change s) (rename change L)
  pub order : IsOrder (arena (after change s)) (replay (arena (after change s)) (rename change L))
  pub whole : KeepsAll change → replay (arena (after change s)) (rename change L) ≡ rename change L

-- the replay of a renamed removal list is a removal list after each change
abbrev pub RenamingKeeps : Type 0
RenamingKeeps = (change : Change) (s : Sys) (L : List (Entry Pair)) → IsSys s → CanChange change s → AreEntries s L → IsOrder (arena s) L →
    RenamedReplays change s L
