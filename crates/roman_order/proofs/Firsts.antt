-- The places of the first entries of batches, of which those that equal their numbers are left out.
use Rattle.roman_order.proofs.Common.{nil_from_length, get_or_append_left, get_or-append_right, get_or_default, get_or_past, ◌≡◌, ℕ, ◌+◌, ◌-◌, ◌<◌, ◌≤◌, List, [], ◌∷◌, ◌++◌, length, get_or, ap, sym, ◌∙◌, arith, append-nil, length-append, append_assoc, get_or-below, length-below, below, Batch, places_of, AreCounted}
use Rattle.roman_order.proofs.Batches.{length-firsts_of}

-- there is a place for each batch
pub length-places_of : (many : ℕ) (later : List ℕ) → length later ≤ many → length (places_of many later) ≡ many
length-places_of many later few = grind (arith, length-append, length-below)

-- the table has at most as many places as there are batches
pub few_firsts : (lanes n : ℕ) (later : List ℕ) (es : List Batch) → AreCounted lanes n (places_of (length es) later) es → length later ≤ length es
few_firsts lanes n later es are = omega (arith, ap length are.firsts, length-append (below (length es - length later)) later, length-firsts_of 0 es)

-- a place that the table leaves out equals its number
pub first_alone : (many j d : ℕ) (later : List ℕ) → j < many - length later → get_or (places_of many later) j d ≡ j
first_alone many j d later l = grind (arith, get_or_append_left, get_or-below, length-below)

-- a later place is one of the table
pub first_later : (many j d : ℕ) (later : List ℕ) → many - length later ≤ j → get_or (places_of many later) j d ≡ get_or later (j - (many - length later)) d
first_later many j d later l = get_or-append_right (below (many - length later)) later (many - length later) j d (length-below (many - length later)) l

-- past the last batch there is no place, so the default is read
pub first_past : (many j count : ℕ) (later : List ℕ) → length later ≤ many → many ≤ j → count ≡ get_or (places_of many later) j count
first_past many j count later few l = sym (get_or_past (places_of many later) j count (rw (length-places_of many later few) l))

-- the place of a batch doesn't depend on the default
pub first_any : (many j d count : ℕ) (later : List ℕ) → length later ≤ many → j < many → get_or (places_of many later) j d ≡ get_or (places_of many later) j count
first_any many j d count later few l = get_or_default (places_of many later) j d count (rw (length-places_of many later few) l)

-- with an empty table, one more batch has one more place that the table leaves out
pub places_of-alone : (many : ℕ) (later : List ℕ) → length later ≡ 0 → places_of (many + 1) later ≡ places_of many later ++ many ∷ []
places_of-alone many later e = grind (arith, append-nil, append_assoc, (nil_from_length later e))

-- one more place of the table
pub places_of-push : (many first : ℕ) (later : List ℕ) → length later ≤ many → places_of (many + 1) (later ++ first ∷ []) ≡ places_of many later ++ first ∷ []
places_of-push many first later few = grind (arith, length-append, append_assoc)

pub ruleset first_rules = (first_alone, first_later, first_past, first_any)

pub ruleset push_rules = (places_of-alone, places_of-push, length-append)
