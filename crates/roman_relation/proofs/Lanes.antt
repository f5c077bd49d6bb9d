-- Pairs as lanes of rows.
use Rattle.roman_relation.proofs.Common.{◌≡◌, ℕ, ◌+◌, ◌*◌, ◌/◌, ◌<◌, false, not, List, length, slice_index, IsTrue, sym, ap, ◌∙◌, arith, zero, suc, sum_by, by_test, both_ways, not_from_false, div_below, same_from_place, Arena, Entry, is_listed, is_on, HasLanes, AreRows, on_zero, IsNumbered, Board, has_entry, IsShaped, AreUnlisted, sum_by_push, below, sum_further}
use Rattle.roman_relation.proofs.Beginnings.{listed_is}

-- a word of the pairs without an entry is a word of the pairs that aren't listed
pub unlisted_row : (A : Arena ℕ) → IsNumbered A → (lanes row : ℕ) (L : List (Entry ℕ)) (word : ℕ) → HasLanes lanes row (λ p. not (has_entry L p)) word → HasLanes lanes row (λ p. not (is_listed A L p)) word
unlisted_row A ok lanes row L word is = record { each = λ lane l. is.each lane l ∙ ap not (sym (listed_is A ok L (row * lanes + lane))); rest = is.rest }

-- the words have the bits of the pairs that aren't listed
pub words_rows : (A : Arena ℕ) → IsNumbered A → (lanes : ℕ) (b : Board) (words : List ℕ) → IsShaped A lanes b →
    AreRows b.lanes (λ p. not (has_entry b.list p)) words → AreUnlisted A lanes b.list words
words_rows A ok lanes b words shaped are = grind (arith, unlisted_row)

-- if the word of a row is 0, all its pairs are listed
pub all_listed : (A : Arena ℕ) → IsNumbered A → (lanes row lane : ℕ) (b : Board) (words : List ℕ) → IsShaped A lanes b → length words ≡ b.rows →
    row < b.rows → AreRows b.lanes (λ p. not (has_entry b.list p)) words → slice_index words row ≡ 0 → lane < lanes → IsTrue (is_listed A b.list (row * lanes + lane))
all_listed A ok lanes row lane b words shaped long inside are empty l =
    let none : is_on (slice_index words row) lane ≡ false = ap (λ w. is_on w lane) empty ∙ on_zero lane in
    let is = (words_rows A ok lanes b words shaped are).each row (omega (arith, long, inside)) in
    by_test (is_listed A b.list (row * lanes + lane)) (λ t. t)
    (λ off. absurd (both_ways (is_on (slice_index words row) lane) none (is.each lane l ∙ not_from_false (is_listed A b.list (row * lanes + lane)) off)))

-- an order that is shaped for the arena has the arena's rows
pub shaped_pairs : (A : Arena ℕ) (lanes : ℕ) (b : Board) → IsShaped A lanes b → b.rows * lanes ≡ length A.nodes
shaped_pairs A lanes b shaped = ap (λ m. b.rows * m) (sym shaped.lanes) ∙ shaped.pairs

pub shaped_row : (A : Arena ℕ) (lanes p : ℕ) (b : Board) → IsShaped A lanes b → 0 < lanes → p < length A.nodes → p / lanes < b.rows
shaped_row A lanes p b shaped some l = div_below p lanes b.rows some (omega (arith, shaped_pairs A lanes b shaped))

pub shaped_rows : (A : Arena ℕ) (lanes rows : ℕ) (b : Board) → IsShaped A lanes b → 0 < lanes → rows * lanes ≡ length A.nodes → rows ≡ b.rows
shaped_rows A lanes rows b shaped some e = (same_from_place rows 0 b.rows 0 lanes some some (ap (λ n. n + 0) (e ∙ sym (shaped_pairs A lanes b shaped)))).0

-- a sum over rows and lanes is a sum over all pairs
pub sum_rows : (f : ℕ → ℕ) (lanes rows : ℕ) → sum_by (λ row. sum_by (λ lane. f (row * lanes + lane)) (below lanes)) (below rows) ≡ sum_by f (below (rows * lanes))
sum_rows f lanes zero = let none : zero * lanes ≡ zero = omega arith in ap (λ m. sum_by f (below m)) (sym none)
sum_rows f lanes (suc rows) =
    let next : suc rows * lanes ≡ rows * lanes + lanes = omega arith in
    sum_by_push (λ row. sum_by (λ lane. f (row * lanes + lane)) (below lanes)) (below rows) rows
    ∙ (ap (λ x. x + sum_by (λ lane. f (rows * lanes + lane)) (below lanes)) (sum_rows f lanes rows)
    ∙ (sym (sum_further f (rows * lanes) lanes) ∙ ap (λ m. sum_by f (below m)) (sym next)))
