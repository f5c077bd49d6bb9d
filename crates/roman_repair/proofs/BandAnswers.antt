-- The results of probing a band of rows.
use Rattle.roman_repair.proofs.Common.{◌≡◌, ℕ, ◌+◌, ◌-◌, ◌*◌, ◌/◌, ◌^◌, ◌<◌, ◌≤◌, Bool, true, ◌&&◌, ◌||◌, List, [], ◌∷◌, ◌++◌, length, slice_index, Option, None, Some, IsTrue, ap, ◌∙◌, arith, replicate, or_cases, or_left, or_right, both_ways, div-add-mod', mul-le-mul_left, is_on, Keeps, on_full, on_zero, any_from, any_true, justified_more, listed_append, Arena, Entry, is_listed, Reason, Final, Act, HoldsInBand, IsKnown, passes, get_or-replicate, get_or_append_left, BandProbe}

-- a word without lanes is right for any reason
pub none_known : (A : Arena ℕ) (lanes : ℕ) (gone : ℕ → Bool) (alone : Option ℕ) (x : ℕ) (reason : Reason) → IsKnown A lanes gone alone x reason 0
none_known A lanes gone alone x reason = record { each = λ lane l on. absurd (both_ways (is_on 0 lane) (on_zero lane) on) }

-- a word that is full of lanes has each of them
pub full_lane : (words : List ℕ) (rows n i lane : ℕ) → words ≡ replicate rows ((2 ^ 64 - 1) / 2 ^ (64 - n)) → i < rows → n ≤ 64 → lane < n → is_on (slice_index words i) lane ≡ true
full_lane words rows n i lane same h few l =
    ap (λ ws. is_on (slice_index ws i) lane) same ∙ ap (λ w. is_on w lane) (get_or-replicate rows i ((2 ^ 64 - 1) / 2 ^ (64 - n)) 0 h) ∙ on_full n lane few l

-- of words that were full of lanes, those that pass are left
pub kept_full : (words new : List ℕ) (rows band full n x i lane : ℕ) (test : ℕ → Bool) → words ≡ replicate rows ((2 ^ 64 - 1) / 2 ^ (64 - full)) → rows ≡ band → full ≡ n → full ≤ 64 → Keeps n x band test words new → i < band → lane < n →
    is_on (slice_index new i) lane ≡ test ((x + i) * n + lane)
kept_full words new rows band full n x i lane test same long wide few kept h l =
    kept.each i lane h l ∙ ap (λ b. b && test ((x + i) * n + lane)) (full_lane words rows full i lane same (omega (arith, h, long)) few (omega (arith, l, wide)))

-- a band begins before its rows
pub band_before : (lanes band x nodes : ℕ) → x * lanes < nodes → x / band * band * lanes < nodes
band_before lanes band x nodes l =
    let first : x / band * band ≤ x = omega (arith, div-add-mod' x band) in
    let pairs : lanes * (x / band * band) ≤ lanes * x = mul-le-mul_left lanes first in
    omega (arith, pairs, l)

-- the word of a row of the band is the one that the probe wrote
pub row_held : (held rest : List ℕ) (i lane : ℕ) → i < length held → is_on (slice_index (held ++ rest) i) lane ≡ is_on (slice_index held i) lane
row_held held rest i lane l = ap (λ w. is_on w lane) (get_or_append_left held rest 0 i l)

-- a reason that passes still passes when more nodes are gone
pub passes_more : (A : Arena ℕ) (gone more : ℕ → Bool) (alone : Option ℕ) (p : ℕ) (reason : Reason) → ((q : ℕ) → IsTrue (gone q) → IsTrue (more q)) → IsTrue (passes A gone alone p reason) → IsTrue (passes A more alone p reason)
passes_more A gone more None p reason within passes = justified_more A gone more p reason (λ a k q i. within q) passes
passes_more A gone more (Some k) p Final within passes = passes
passes_more A gone more (Some k) p (Act a) within passes = grind (arith, any_from, any_true, or_cases, or_left, or_right, (within))

-- if more entries are listed, more nodes are gone
pub listed_more : (A : Arena ℕ) (kept L : List (Entry ℕ)) (q : ℕ) → IsTrue (is_listed A kept q) → IsTrue (is_listed A (kept ++ L) q)
listed_more A kept L q t = listed_append A kept L q ∙ or_left (is_listed A kept q) (is_listed A L q) t

-- the stored results stay right when more entries are listed
pub known_more : (A : Arena ℕ) (lanes : ℕ) (probe : BandProbe) (kept L : List (Entry ℕ)) → HoldsInBand A lanes (is_listed A kept) probe → HoldsInBand A lanes (is_listed A (kept ++ L)) probe
known_more A lanes probe kept L known = record { row = still known.row; rows = λ i h. still (known.rows i h) }
  where
    still : {x : ℕ} {reason : Reason} {word : ℕ} → IsKnown A lanes (is_listed A kept) probe.alone x reason word → IsKnown A lanes (is_listed A (kept ++ L)) probe.alone x reason word
    still is = record { each = λ lane l on. passes_more A _ _ probe.alone _ _ (listed_more A kept L) (is.each lane l on) }
