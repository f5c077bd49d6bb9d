-- A system without some of its seats, and the outlook of a pair.
use Rattle.std.specs.Prelude.{◌≡◌, ℕ, suc, pred, ◌<◌, Bool, ◌||◌, List, [], ◌∷◌, Some, IsTrue, if◌then◌else◌, slice_get}
use Rattle.roman_model.specs.System.{Seat, Sys, Pair, has}
use Rattle.roman_model.specs.Offers.{is_related, related_count, choice_count}
use Rattle.roman_model.specs.Change.{after, without}
use Rattle.roman_model.specs.Change as change
use Rattle.roman_model.specs.declared.way.Way.{Way}
use Rattle.roman_model.specs.declared.way.Way.TheVariants as way

-- the list without the elements whose places pass the test
abbrev pub leave_out : {X : Type 0} → (ℕ → Bool) → List X → List X
leave_out at [] = []
leave_out at (x ∷ xs) = if at 0 then leave_out (λ i. at (suc i)) xs else x ∷ leave_out (λ i. at (suc i)) xs

-- the seats, with the seats whose places pass the test frozen as well
abbrev pub freeze_at : (ℕ → Bool) → List Seat → List Seat
freeze_at at [] = []
freeze_at at (seat ∷ seats) = record { beh = seat.beh; frozen = seat.frozen || at 0; rests = seat.rests } ∷ freeze_at (λ i. at (suc i)) seats

-- the seats after those at the places K have failed
abbrev pub seats_without : Way → List ℕ → List Seat → List Seat
seats_without way.Freeze K seats = freeze_at (has K) seats
seats_without way.Die K seats = leave_out (has K) seats

-- the system after the seats at the places K have failed
abbrev pub system_without : Way → List ℕ → Sys → Sys
system_without way K s = record { env = s.env; target = s.target; seats = seats_without way K s.seats }

-- the pair after the failure: it keeps the states of frozen seats, and loses the states of seats that are gone
abbrev pub pair_without : Way → List ℕ → Pair → Pair
pair_without way.Freeze K p = p
pair_without way.Die K p = record { t = p.t; e = p.e; bs = leave_out (has K) p.bs }

-- whether the pair is related, the number of related pairs, and the number of choices
pub record Outlook : Type 0 where
  pub composes : Bool
  pub related : ℕ
  pub choices : ℕ

-- the outlook of a pair of a system
abbrev pub outlook : Sys → Pair → Outlook
outlook s p = record { composes = is_related s p; related = related_count s; choices = choice_count s }

-- if one or two seats fail, the system and the pair are those after as many changes
pub record ChangesLeadThere (s : Sys) (p : Pair) : Type 0 where
  pub one_gone : (k : ℕ) (seat : Seat) →
      (after (change.Die k seat) s ≡ system_without way.Die (k ∷ []) s) × (without k p ≡ pair_without way.Die (k ∷ []) p)
  pub two_gone : (k j : ℕ) (seat other : Seat) → k < j →
      (after (change.Die k seat) (after (change.Die j other) s) ≡ system_without way.Die (k ∷ j ∷ []) s)
      × (without k (without j p) ≡ pair_without way.Die (k ∷ j ∷ []) p)
  pub two_in_turn : (k j : ℕ) (seat other : Seat) → k < j →
      (after (change.Die (pred j) other) (after (change.Die k seat) s) ≡ system_without way.Die (k ∷ j ∷ []) s)
      × (without (pred j) (without k p) ≡ pair_without way.Die (k ∷ j ∷ []) p)
  pub one_frozen : (k : ℕ) → after (change.Freeze k) s ≡ system_without way.Freeze (k ∷ []) s
  pub two_frozen : (k j : ℕ) → after (change.Freeze j) (after (change.Freeze k) s) ≡ system_without way.Freeze (k ∷ j ∷ []) s
  pub already : (k : ℕ) (seat : Seat) → slice_get s.seats k ≡ Some seat → IsTrue seat.frozen → after (change.Freeze k) s ≡ s

-- for every system and pair, changes lead to the system without one or two of its seats
abbrev pub WithoutByChanges : Type 0
WithoutByChanges = (s : Sys) (p : Pair) → ChangesLeadThere s p
