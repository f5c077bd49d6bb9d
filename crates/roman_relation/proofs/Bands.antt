-- Rows as parts of bands.
use Rattle.roman_relation.proofs.Common.{◌≡◌, ℕ, ◌+◌, ◌*◌, ◌/◌, ◌%◌, ◌<◌, ◌≤◌, ◌-◌, ◌⊎◌, length, ap, ◌∙◌, arith, cases_lt, mul-le, div_below, div-add-mod', mod_below, Arena, Board, IsShaped, lane_place, div-le_self, row_fits}
use Rattle.roman_relation.proofs.Lanes.{shaped_pairs, shaped_row, shaped_rows}

-- a pair from its band, its row within the band, and its lane
pub pair_in : (lanes band p : ℕ) → (p / lanes / band * band + p / lanes % band) * lanes + p % lanes ≡ p
pair_in lanes band p = ap (λ x. x * lanes + p % lanes) (div-add-mod' (p / lanes) band) ∙ div-add-mod' p lanes

-- the rows of a band
pub in_band : (band y row : ℕ) → 0 < band → row / band ≡ y → (y * band ≤ row) × (row < y * band + band)
in_band band y row some e = grind (arith, div-add-mod', mod_below)

-- a row between the first rows of a band and of the next lies in the band
pub band_at : (band y row : ℕ) → y * band ≤ row → row < y * band + band → row / band ≡ y
band_at band y row low high = grind (arith, lane_place)

pub outside_band : (band y row : ℕ) → 0 < band → (row / band ≡ y → ⊥) → (row < y * band) ⊎ (y * band + band ≤ row)
outside_band band y row some ne = grind (arith, band_at, cases_lt)

-- a band below the number of bands ends within the order
pub band_inside : (A : Arena ℕ) (lanes band bands y : ℕ) (b : Board) → IsShaped A lanes b → 0 < lanes → bands * band * lanes ≡ length A.nodes → y < bands → y * band + band ≤ b.rows
band_inside A lanes band bands y b shaped some e l = omega (arith, row_fits y band bands band l (omega arith), shaped_rows A lanes (bands * band) b shaped some e)

-- a pair's band is below the number of bands
pub band_of : (A : Arena ℕ) (lanes band bands p : ℕ) (b : Board) → IsShaped A lanes b → 0 < lanes → 0 < band → bands * band * lanes ≡ length A.nodes → p < length A.nodes → p / lanes / band < bands
band_of A lanes band bands p b shaped some many e l = div_below (p / lanes) band bands many (omega (arith, shaped_row A lanes p b shaped some l, shaped_rows A lanes (bands * band) b shaped some e))

-- a row's band ends within the order
pub row_band : (A : Arena ℕ) (lanes band bands row : ℕ) (b : Board) → IsShaped A lanes b → 0 < lanes → 0 < band → bands * band * lanes ≡ length A.nodes → row < b.rows → row / band * band + band ≤ b.rows
row_band A lanes band bands row b shaped some many e l =
    band_inside A lanes band bands (row / band) b shaped some e (div_below row band bands many (omega (arith, l, shaped_rows A lanes (bands * band) b shaped some e)))

-- the first pair of a row is in range
pub band_begins : (A : Arena ℕ) (lanes x : ℕ) (b : Board) → IsShaped A lanes b → x < b.rows → 0 < lanes → x * lanes < length A.nodes
band_begins A lanes x b shaped l some = grind (arith, mul-le, shaped_pairs)

-- a pair between the first pair of a band and that of the next lies in the band
pub pair_past : (lanes band y p : ℕ) → 0 < lanes → y * band * lanes ≤ p → p < (y + 1) * band * lanes →
    (i : ℕ) × (lane : ℕ) × (i < band) × (lane < lanes) × ((y * band + i) * lanes + lane ≡ p)
pair_past lanes band y p some h l =
    let d : ℕ = p - y * band * lanes in
    let below : d < band * lanes = omega arith in
    let place = div-add-mod' d lanes in (
      d / lanes,
      d % lanes,
      div_below d lanes band some below,
      mod_below d lanes some,
      omega (arith, place),
    )

-- a band's number is at most that of any of its rows
pub row_of_band : (band row rows : ℕ) → row < rows → row / band < rows
row_of_band band row rows l = let h = div-le_self row band in omega arith
