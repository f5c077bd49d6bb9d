-- The conditions between rounds and within one.
use Rattle.std.specs.Prelude.{◌≡◌, ℕ, ◌+◌, ◌*◌, ◌/◌, ◌<◌, ◌≤◌, ◌==◌, ltb, ◌&&◌, ◌⊎◌, if◌then◌else◌, Bool, not, true, false, List, length, take, slice_index, count_by, sum_by, IsTrue, IsFalse}
use Rattle.std.specs.List.{list_any}
use Rattle.roman_model.specs.Lists.{IsIn, below}
use Rattle.roman_model.specs.Arena.{Arena, Entry, is_listed, is_justified, back, IsOrder}
use Rattle.roman_model.specs.declared.reason.Reason.{Reason}
use Rattle.roman_model.specs.declared.reason.Reason.TheVariants.{Act}
use Rattle.roman_rules.specs.declared.rules.Rules.{Ghosts as RulesView}
use Rattle.roman_lanes.specs.Rows.{is_on, HasLanes, AreRows}
use Rattle.roman_order.specs.Board.{Board, is_marked}
use Rattle.roman_relation.specs.Settled.{Begins, IsFineOrListed}
use Rattle.roman_relation.specs.Shaped.{InRows, IsShaped}

-- the words have, row by row, the bits of the pairs that aren't listed
abbrev pub AreUnlisted : Arena ℕ → ℕ → List (Entry ℕ) → List ℕ → Type 0
AreUnlisted A lanes L words = AreRows lanes (λ p. not (is_listed A L p)) words

-- the kept words have, row by row, the bits of the pairs that aren't gone
abbrev pub HasKept : ℕ → (ℕ → Bool) → Board → Type 0
HasKept lanes gone board = AreRows lanes (λ p. not (gone p)) board.before

-- between two rounds: each pair that isn't listed meets clause 2, and each allowed action is served there unless its
-- band is marked; the kept words are those of the list
pub record AwaitsRound (A : Arena ℕ) (lanes band : ℕ) (board : Board) : Type 0 where
  pub shaped : IsShaped A lanes board
  pub valid : IsOrder A board.list
  pub kept : AreUnlisted A lanes board.list board.before
  pub fine : (p : ℕ) → p < length A.nodes → IsFineOrListed A board.list p
  pub served : (p a : ℕ) → p < length A.nodes → is_marked board (p / lanes / band) ≡ false → IsFalse (is_listed A board.list p) →
      IsFalse (is_justified A (is_listed A board.list) p (Act a))

-- between two rounds of a joint
abbrev pub AwaitsRoundOf : {J R : Type 0} → RulesView J R → J → Board → Type 0
AwaitsRoundOf J joint board = AwaitsRound (J.arena joint) (J.lanes joint) (J.band joint) board

-- some action is a reason to remove p, with these nodes gone
abbrev pub falls : Arena ℕ → (ℕ → Bool) → ℕ → Bool
falls A gone p = list_any (λ a. is_justified A gone p (Act a)) (below A.actions)

-- p is listed, or no action is a reason to remove it with these nodes gone
abbrev pub IsJudged : Arena ℕ → (ℕ → Bool) → List (Entry ℕ) → ℕ → Type 0
IsJudged A gone L p = IsFalse (is_listed A L p) → (a : ℕ) → IsFalse (is_justified A gone p (Act a))

-- the lost lanes of some rows from row x on, one word for each row: those of the pairs that aren't listed, and at which
-- the reason holds with these nodes gone
pub record AreLostRows (A : Arena ℕ) (gone : ℕ → Bool) (L : List (Entry ℕ)) (lanes x rows : ℕ) (reason : Reason) (lost : List ℕ) : Type 0 where
  pub few : lanes ≤ 64
  pub within : (i lane : ℕ) → is_on (slice_index lost i) lane ≡ true → lane < lanes
  pub is : (i lane : ℕ) → i < rows → lane < lanes → is_on (slice_index lost i) lane ≡ (not (is_listed A L ((x + i) * lanes + lane)) && is_justified A gone ((x + i) * lanes + lane) reason)

-- the second list begins with the first, and each pair that it adds meets the condition `May`; it is a removal list if the
-- first one is, and has the pairs that are gone
pub record AddsTo (A : Arena ℕ) (gone : ℕ → Bool) (May : ℕ → Type 0) (L M : List (Entry ℕ)) : Type 0 where
  pub begins : Begins L M
  pub valid : ((p : ℕ) → IsTrue (gone p) → IsTrue (is_listed A L p)) → IsOrder A L → IsOrder A M
  pub because : (p : ℕ) → IsTrue (is_listed A M p) → IsTrue (is_listed A L p) ⊎ May p

-- the second list is the first one with the pairs of some rows from row x on at which the reason holds with these nodes gone
pub record AddsLost (A : Arena ℕ) (gone : ℕ → Bool) (lanes x rows : ℕ) (reason : Reason) (L M : List (Entry ℕ)) : Type 0 where
  pub adds : AddsTo A gone (λ p. IsTrue (is_justified A gone p reason) × (x ≤ p / lanes) × (p / lanes < x + rows)) L M
  pub left : InRows lanes x rows (λ p. IsFalse (is_listed A M p) → IsFalse (is_justified A gone p reason))

-- some entry is that of a pair of the band y
abbrev pub has_band : ℕ → ℕ → List (Entry ℕ) → ℕ → Bool
has_band lanes band L y = list_any (λ x. y == x.node / lanes / band) L

-- the number of delegations to seats before the band's own that lead to a pair of the band y, the same for each of its pairs
abbrev pub moves_to : Arena ℕ → ℕ → ℕ → ℕ → ℕ → ℕ
moves_to A lanes band mid y = count_by (λ d. ltb d.seat mid) (back A (y * band * lanes))

-- the sum of `moves_to` over the noted bands below a bound
abbrev pub moves_noted : Arena ℕ → ℕ → ℕ → ℕ → ℕ → (ℕ → Bool) → ℕ
moves_noted A lanes band mid bands noted = sum_by (λ y. if noted y then moves_to A lanes band mid y else 0) (below bands)

-- the sum of `moves_to` over the bands below a bound in which entries lie, each band once
abbrev pub moves_to_all : Arena ℕ → ℕ → ℕ → ℕ → ℕ → List (Entry ℕ) → ℕ
moves_to_all A lanes band mid bands L = moves_noted A lanes band mid bands (has_band lanes band L)

-- within a round that began when the list had `start` entries: the kept words of the noted bands are those of the present
-- list, the others are those of the list at the start, and the bands that lead to a noted band are marked
pub record AreNoted (A : Arena ℕ) (lanes band start : ℕ) (noted : ℕ → Bool) (board : Board) : Type 0 where
  pub fresh : (row : ℕ) → row < board.rows → noted (row / band) ≡ true → HasLanes lanes row (λ p. not (is_listed A board.list p)) (slice_index board.before row)
  pub stale : (row : ℕ) → row < board.rows → noted (row / band) ≡ false → HasLanes lanes row (λ p. not (is_listed A (take start board.list) p)) (slice_index board.before row)
  pub marked : (p q a k : ℕ) → p < length A.nodes → noted (q / lanes / band) ≡ true → IsIn q (A.outcomes p a k) → is_marked board (p / lanes / band) ≡ true
