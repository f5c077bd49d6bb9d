-- The opponent's game: it plays by a removal list, or by the depth.
use Rattle.std.specs.Prelude.{◌≡◌, ◌↔◌, ℕ, zero, suc, ◌<◌, ◌≤◌, Bool, not, List, [], ◌∷◌, length, Option, None, Some, IsTrue, IsFalse, if◌then◌else◌}
use Rattle.std.specs.List.{list_any, find}
use Rattle.std.specs.Option.{option_map}
use Rattle.roman_model.specs.Lists.{below, is_empty}
use Rattle.roman_model.specs.Arena.{Entry, is_listed, is_justified, IsOrder, loses, depth}
use Rattle.roman_model.specs.declared.reason.Reason.{Reason}
use Rattle.roman_model.specs.declared.reason.Reason.TheVariants.{Final, Act}
use Rattle.roman_model.specs.System.{Sys, Seat, Pair, IsSys, IsPair, is_final, all_final}
use Rattle.roman_model.specs.SystemArena.{outcomes, arena}
use Rattle.roman_model.specs.Composition.{Couple, couple, Meets, Great}
use Rattle.roman_model.specs.Explanation.{answer}

-- the reason of p's entry, if p is listed
abbrev pub reason_of : Sys → List (Entry Pair) → Pair → Option Reason
reason_of s [] p = None
reason_of s (x ∷ L) p = if (arena s).same p x.node then Some x.reason else reason_of s L p

-- some seat isn't frozen
abbrev pub has_ready : List Seat → Bool
has_ready seats = list_any (λ seat. not seat.frozen) seats

-- one more than the number of requests from the answer on, or none if there is no answer
abbrev pub went_on : (Pair → Option ℕ) → Option Pair → Option ℕ
went_on rest None = None
went_on rest (Some q) = option_map suc (rest q)

-- The number of requests that the opponent makes from p until it has won, if it plays by the list and the
-- given seats serve in turn. None if it hasn't won. The last argument is the reason of p's entry.
abbrev pub play_at : Sys → List (Entry Pair) → List ℕ → Pair → Option Reason → Option ℕ
play_at s L ks p None = None
play_at s L ks p (Some Final) = Some 0
play_at s L [] p (Some (Act a)) = if has_ready s.seats then None else Some 1
play_at s L (k ∷ ks) p (Some (Act a)) =
    if not (has_ready s.seats) then Some 1
    else (if is_empty (outcomes s p a k) then Some 1
    else went_on (λ q. play_at s L ks q (reason_of s L q)) (answer (arena s) L p a k))

-- the play from p by the list, when the given seats serve in turn
abbrev pub play : Sys → List (Entry Pair) → Pair → List ℕ → Option ℕ
play s L p ks = play_at s L ks p (reason_of s L p)

-- the opponent wins within n requests
abbrev pub WinsWithin : ℕ → Option ℕ → Type 0
WinsWithin n None = ⊥
WinsWithin n (Some m) = m ≤ n

-- each number is the place of a seat
abbrev pub AreSeats : Sys → List ℕ → Type 0
AreSeats s [] = Unit {0}
AreSeats s (k ∷ ks) = (k < length s.seats) × AreSeats s ks

-- the opponent wins within as many requests as the list has entries, whichever seats serve
pub record OpponentWins (s : Sys) (L : List (Entry Pair)) (p : Pair) : Type 0 where
  pub against_seats : (ks : List ℕ) → AreSeats s ks → length L ≤ length ks → WinsWithin (length L) (play s L p ks)
  pub against_none : IsFalse (has_ready s.seats) → WinsWithin (length L) (play s L p [])

-- the opponent that plays by a removal list wins
abbrev pub OrderWins : Type 0
OrderWins = (s : Sys) (L : List (Entry Pair)) → IsSys s → IsOrder (arena s) L → (p : Pair) → IsTrue (is_listed (arena s) L p) → OpponentWins s L p

-- the least action on which each seat has no outcome, or an outcome from which the opponent wins within d requests
abbrev pub refuting : Sys → ℕ → Pair → Option ℕ
refuting s d p = find (λ a. is_justified (arena s) (loses (arena s) d) p (Act a)) (below s.env.actions)

-- the request of the play by depth, at a pair with the given depth
abbrev pub request_at : Sys → Pair → Option ℕ → Option ℕ
request_at s p None = None
request_at s p (Some zero) = None
request_at s p (Some (suc d)) = refuting s d p

-- The play by depth: at depth d + 1 the opponent makes the least request that refutes p within d, and continues at the first answer that is
-- lost within d. The last arguments are p's depth and that request.
abbrev pub depth_play_at : Sys → List ℕ → Pair → Option ℕ → Option ℕ → Option ℕ
depth_play_at s ks p None request = None
depth_play_at s ks p (Some zero) request = Some 0
depth_play_at s ks p (Some (suc d)) None = None
depth_play_at s [] p (Some (suc d)) (Some a) = if has_ready s.seats then None else Some 1
depth_play_at s (k ∷ ks) p (Some (suc d)) (Some a) =
    if not (has_ready s.seats) then Some 1
    else (if is_empty (outcomes s p a k) then Some 1
    else went_on (λ q. depth_play_at s ks q (depth (arena s) q) (request_at s q (depth (arena s) q))) (find (loses (arena s) d) (outcomes s p a k)))

-- the play from p by depth, when the given seats serve in turn
abbrev pub depth_play : Sys → Pair → List ℕ → Option ℕ
depth_play s p ks = depth_play_at s ks p (depth (arena s) p) (request_at s p (depth (arena s) p))

-- the opponent that plays by depth wins within n requests, whichever seats serve
pub record DepthPlayWins (s : Sys) (n : ℕ) (p : Pair) : Type 0 where
  pub against_seats : (ks : List ℕ) → AreSeats s ks → n ≤ length ks → WinsWithin n (depth_play s p ks)
  pub against_none : IsFalse (has_ready s.seats) → WinsWithin n (depth_play s p [])

-- the opponent that plays by depth wins within the depth of the pair
abbrev pub DepthWins : Type 0
DepthWins = (s : Sys) → IsSys s → (p : Pair) → IsPair s p → (n : ℕ) → depth (arena s) p ≡ Some n → DepthPlayWins s n p

-- Some way of delegating keeps the opponent from winning within n requests: clause 2 holds, and some service serves each allowed action,
-- into couples that hold out against one request less.
abbrev pub HoldsOut : Sys → ℕ → Couple → Type 0
HoldsOut s zero c = IsTrue (is_final s.target c.t) → IsTrue (all_final s.seats c.bs)
HoldsOut s (suc n) c = Meets s (HoldsOut s n) c

-- n is the least number of requests within which the opponent wins from the pair, however the requests are delegated
pub record IsLeast (s : Sys) (p : Pair) (n : ℕ) : Type 0 where
  pub lost : HoldsOut s n (couple p) → ⊥
  pub no_sooner : (m : ℕ) → m < n → HoldsOut s m (couple p)

-- the depth is the least number of requests within which the opponent wins, and a related pair has none
pub record IsLeastDepth (s : Sys) (p : Pair) : Type 0 where
  pub least : (n : ℕ) → (depth (arena s) p ≡ Some n) ↔ IsLeast s p n
  pub none : (depth (arena s) p ≡ None) ↔ Great s p

-- the depth of each pair is the least number of requests within which the opponent wins from it
abbrev pub DepthIsLeast : Type 0
DepthIsLeast = (s : Sys) → IsSys s → (p : Pair) → IsPair s p → IsLeastDepth s p
