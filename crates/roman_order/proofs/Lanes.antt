-- The lanes of a word, and the entries of the pairs at them.
use Rattle.roman_order.proofs.Common.{◌≡◌, ◌≢◌, ℕ, zero, suc, ◌+◌, ◌-◌, ◌*◌, ◌/◌, ◌%◌, ◌^◌, ◌<◌, ◌≤◌, Bool, true, false, not, ◌&&◌, ◌||◌, eqb, List, [], ◌∷◌, ◌++◌, map, length, get_or, refl, ap, sym, ◌∙◌, subst, inl, inr, arith, filter, bit_and, append-nil, append_assoc, IsTrue, list_any, w64, bit_not, trailing_zeros, set, or-false, pow-lt, cases_eq, and_parts, eq-eqb, ne_eqb, eqb-true, both_ways, cases_Bool, false_from_ne_true, cases_lt, length-set, get_or-set_same, get_or-set_other, get_or_read, list_any-append, div-add-mod', mod_below, same_from_place, and_le_l, shr-shr, div_below, bit_at-trailing_zeros, shr_and_one, IsIn, HasNoRepeats, below, Entry, Reason, list_any-map, none_from, filter_in, from_below, filter_below_more, flat_map_row, any_true, any_from, in_filter, in_below, same_test, HasNoRepeats-filter, HasNoRepeats-below, is_on, HasLanes, AreRows, on_zero, on_ones, on_ones_above, on_clear_same, on_clear_other, on_and, on_less, on_pow_same, on_pow_other, as_entry, set_lanes, entries_in, entries_in_rows, has_entry}

-- ---- the first lane of a word, and the rest

-- no number below m passes
pub none_below : (q : ℕ → Bool) (m : ℕ) → ((i : ℕ) → i < m → q i ≡ false) → filter q (below m) ≡ []
none_below q zero off = refl
none_below q (suc m) off = rw (filter_below_more q m, none_below q m (λ i l. off i (omega arith)), off m (omega arith)) refl

-- word n has the lane t first, followed by the lanes of word m
pub record IsFirstOf (n m t : ℕ) : Type 0 where
  pub low : t < 64
  pub on : is_on n t ≡ true
  pub before : (i : ℕ) → i < t → is_on n i ≡ false
  pub off : is_on m t ≡ false
  pub same : (i : ℕ) → i < 64 → i ≢ t → is_on m i ≡ is_on n i

first_then : (n m t k : ℕ) → IsFirstOf n m t → t < k → k ≤ 64 → filter (is_on n) (below k) ≡ t ∷ filter (is_on m) (below k)
first_then n m t zero is h l = absurd (omega arith)
first_then n m t (suc k) is h l = grind (arith, cases_eq, none_below, filter_below_more, is.before, (first_then n m t k is))

pub set_lanes-first : (n m t : ℕ) → IsFirstOf n m t → set_lanes n ≡ t ∷ set_lanes m
unfolding set_lanes
set_lanes-first n m t is = first_then n m t 64 is is.low (omega arith)

pub set_lanes-zero : set_lanes 0 ≡ []
unfolding set_lanes
set_lanes-zero = none_below (is_on 0) 64 (λ i h. on_zero i)

-- a word without one of its lanes
abbrev pub without_lane : ℕ → ℕ → ℕ
without_lane n t = bit_and n (bit_not w64 (1 * 2 ^ t % 2 ^ 64))

pub without_first : (n t : ℕ) → t < 64 → is_on n t ≡ true → ((i : ℕ) → i < t → is_on n i ≡ false) → IsFirstOf n (without_lane n t) t
without_first n t low on before = grind (arith, on_clear_other, on_clear_same)

pub without_lane-on : (n t lane : ℕ) → is_on (without_lane n t) lane ≡ true → is_on n lane ≡ true
without_lane-on n t lane on = (and_parts (is_on n lane) (is_on (bit_not w64 (1 * 2 ^ t % 2 ^ 64)) lane) (sym (on_and n _ lane) ∙ on)).0

-- ---- a word whose lanes are those of two others, the lower ones first

-- the numbers that pass one of two tests, if those that pass the first come before those that pass the second
filter-joined : (p q both : ℕ → Bool) (m : ℕ) → ((i : ℕ) → i < m → both i ≡ (p i || q i)) → ((i j : ℕ) → p i ≡ true → q j ≡ true → i < j) → filter both (below m) ≡ filter p (below m) ++ filter q (below m)
filter-joined p q both zero is lower = refl
filter-joined p q both (suc m) is lower =
    let rest = filter-joined p q both m (λ i l. is i (omega arith)) lower in
    let alone = λ (on : p m ≡ true). none_below q m (λ i l. false_from_ne_true (q i) (λ t. omega (arith, l, lower m i on t))) in
    grind (arith, cases_Bool, append-nil, append_assoc, filter_below_more, (is m), rest, alone)

-- the lanes of a word that has those of two others, if the lanes of the first are lower
pub set_lanes-joined : (word low high : ℕ) → ((i : ℕ) → i < 64 → is_on word i ≡ (is_on low i || is_on high i)) → ((i j : ℕ) → is_on low i ≡ true → is_on high j ≡ true → i < j) → set_lanes word ≡ set_lanes low ++ set_lanes high
unfolding set_lanes
set_lanes-joined word low high is lower = filter-joined (is_on low) (is_on high) (is_on word) 64 is lower

-- the lanes of a word that is shifted down
pub on_lowered : (a d i : ℕ) → is_on (a / 2 ^ d) i ≡ is_on a (d + i)
unfolding is_on
on_lowered a d i = ap (λ n. eqb n 1) (sym (shr_and_one (a / 2 ^ d) i) ∙ (ap (λ n. bit_and n 1) (shr-shr a d i) ∙ shr_and_one a (d + i)))

-- a word without bits from the first lane of another word on has only lower lanes
pub all_lower : (word more t i j : ℕ) → word / 2 ^ t ≡ 0 → ((bit : ℕ) → bit < t → is_on more bit ≡ false) → is_on word i ≡ true → is_on more j ≡ true → i < j
all_lower word more t i j none first on there = grind (arith, both_ways, cases_lt, on_zero, first, (on_lowered word t (i - t)))

-- the lowest lane of a word that isn't 0
pub lowest_lane : (word : ℕ) → word ≢ 0 → word < 2 ^ 64 → (trailing_zeros w64 word < 64) × (is_on word (trailing_zeros w64 word) ≡ true) × ((bit : ℕ) → bit < trailing_zeros w64 word → is_on word bit ≡ false)
unfolding is_on
lowest_lane word some fits = grind (arith, eq-eqb, (bit_at-trailing_zeros w64 word))

-- a word that isn't 0 has a lane
pub some_lane : (word : ℕ) → word ≢ 0 → word < 2 ^ 64 → 0 < length (set_lanes word)
some_lane word some fits = let (low, on, before) = lowest_lane word some fits in omega (arith, ap length (set_lanes-first word _ _ (without_first word _ low on before)))

pub no_lane : (word : ℕ) → 0 < length (set_lanes word) → word ≢ 0
no_lane word some none = omega (arith, ap (λ w. length (set_lanes w)) none, ap length set_lanes-zero, some)

-- the lowest lane of a word, and the rest
pub ruleset lane_rules = (and_le_l, no_lane, some_lane, set_lanes-first, set_lanes-zero, without_first, without_lane, without_lane-on)

-- a word without lanes
pub ruleset no_lanes = (both_ways, on_zero, set_lanes-zero)

-- the word with one lane, as it is computed
pub one_pow : (k : ℕ) → k < 64 → 1 * 2 ^ k % 2 ^ 64 ≡ 2 ^ k
one_pow k l = let below : 2 ^ k < 2 ^ 64 = pow-lt l in omega arith

pub set_lanes-one : (k : ℕ) → k < 64 → set_lanes (1 * 2 ^ k % 2 ^ 64) ≡ k ∷ []
set_lanes-one k l =
    ap set_lanes (one_pow _ l) ∙ set_lanes-first _ _ _ (grind (arith, on_pow_same, on_pow_other, on_zero)) ∙ ap (λ xs. k ∷ xs) set_lanes-zero

pub one_lane : (k lane : ℕ) → k < 64 → is_on (1 * 2 ^ k % 2 ^ 64) lane ≡ true → lane ≡ k
one_lane k lane l t = elim (cases_eq lane k) [ inl e ↦ e | inr ne ↦ absurd (both_ways (is_on (2 ^ k) lane) (on_pow_other k lane ne) (rw one_pow at t)) ]

-- a row with one lane
pub ruleset one_rules = (one_lane, set_lanes-one)

pub in_lanes : (word lane : ℕ) → IsIn lane (set_lanes word) → (lane < 64) × (is_on word lane ≡ true)
unfolding set_lanes
in_lanes word lane i = let (j, t) = filter_in (is_on word) lane (below 64) i in (from_below 64 lane j, t)

pub on_in : (word lane : ℕ) → lane < 64 → is_on word lane ≡ true → IsIn lane (set_lanes word)
unfolding set_lanes
on_in word lane l on = in_filter (is_on word) lane (below 64) (in_below 64 lane l) on

pub lanes_once : (word : ℕ) → HasNoRepeats (set_lanes word)
unfolding set_lanes
lanes_once word = HasNoRepeats-filter (is_on word) (below 64) (HasNoRepeats-below 64)

-- ---- the listed pairs after entries for the lanes of a row are added

-- a pair is listed if it was before, or if it is one of the added pairs
has_entry-lanes : (L : List (Entry ℕ)) (first lost p : ℕ) (reason : Reason) →
    has_entry (L ++ map (λ l. as_entry (first + l, reason)) (set_lanes lost)) p ≡ (has_entry L p || list_any (λ l. eqb p (first + l)) (set_lanes lost))
has_entry-lanes L first lost p reason = grind (arith, list_any-append, list_any-map)

-- the pair at a lane of the row is listed if it was before, or if its lane was added
pub has_entry-lane : (L : List (Entry ℕ)) (first lost lane : ℕ) (reason : Reason) → lane < 64 →
    has_entry (L ++ map (λ l. as_entry (first + l, reason)) (set_lanes lost)) (first + lane) ≡ (has_entry L (first + lane) || is_on lost lane)
unfolding set_lanes
has_entry-lane L first lost lane reason low =
    has_entry-lanes L first lost (first + lane) reason
    ∙ ap (λ b. has_entry L (first + lane) || b) (same_test (list_any (λ l. eqb (first + lane) (first + l)) (set_lanes lost)) (is_on lost lane) (λ t.
    let (l, i, e) = any_true (λ l. eqb (first + lane) (first + l)) (set_lanes lost) t in
    let equal = eqb-true (first + lane) (first + l) e in
    let same : l ≡ lane = omega arith in
    subst (λ j. IsTrue (is_on lost j)) same (filter_in (is_on lost) l (below 64) i).1)
    (λ t. any_from (λ l. eqb (first + lane) (first + l)) lane (set_lanes lost) (on_in lost lane low t) (eq-eqb (first + lane) (first + lane) refl)))

-- a pair that isn't one of the added pairs is listed if it was before
pub has_entry-elsewhere : (L : List (Entry ℕ)) (first lost p : ℕ) (reason : Reason) → ((lane : ℕ) → lane < 64 → is_on lost lane ≡ true → p ≢ first + lane) →
    has_entry (L ++ map (λ l. as_entry (first + l, reason)) (set_lanes lost)) p ≡ has_entry L p
has_entry-elsewhere L first lost p reason apart = grind (arith, has_entry-lanes, in_lanes, ne_eqb, none_from, or-false)

-- the row and the lane of a pair
pub lane_place : (lanes row lane : ℕ) → lane < lanes → ((row * lanes + lane) / lanes ≡ row) × ((row * lanes + lane) % lanes ≡ lane)
lane_place lanes row lane l = grind (arith, div-add-mod', mod_below, (same_from_place ((row * lanes + lane) / lanes) ((row * lanes + lane) % lanes) row lane lanes))

-- the place of a pair, and its word
pub ruleset place_rules = (div-add-mod', div_below, get_or_read, mod_below)

-- ---- entries of neighbouring rows

-- one more row
pub entries_in_rows-row : (lanes x rows : ℕ) (words : List ℕ) (reason : Reason) (L : List (Entry ℕ)) →
    L ++ entries_in_rows lanes x (suc rows) words reason ≡ (L ++ entries_in_rows lanes x rows words reason) ++ entries_in lanes (x + rows) (get_or words rows 0) reason
entries_in_rows-row lanes x rows words reason L = ap (λ M. L ++ M) (flat_map_row _ rows) ∙ sym (append_assoc L _ _)

-- the pairs of a later row are listed if they were before
pub has_entry-later : (L : List (Entry ℕ)) (lanes x : ℕ) (words : List ℕ) (reason : Reason) → ((i lane : ℕ) → is_on (get_or words i 0) lane ≡ true → lane < lanes) →
    (rows i lane : ℕ) → rows ≤ i → lane < lanes → has_entry (L ++ entries_in_rows lanes x rows words reason) ((x + i) * lanes + lane) ≡ has_entry L ((x + i) * lanes + lane)
has_entry-later L lanes x words reason within zero i lane past l = ap (λ M. has_entry M ((x + i) * lanes + lane)) (append-nil L)
has_entry-later L lanes x words reason within (suc rows) i lane past l =
    ap (λ M. has_entry M ((x + i) * lanes + lane)) (entries_in_rows-row lanes x rows words reason L)
    ∙ (has_entry-elsewhere (L ++ entries_in_rows lanes x rows words reason) ((x + rows) * lanes) (get_or words rows 0) ((x + i) * lanes + lane) reason
    (λ j low t e. let same = (same_from_place (x + i) lane (x + rows) j lanes l (within rows j t) e).0 in omega arith)
    ∙ has_entry-later L lanes x words reason within rows i lane (omega arith) l)

pub ruleset has_later = (has_entry-later)

-- ---- the words of the pairs that aren't listed

not_or : (a b : Bool) → not (a || b) ≡ (not a && not b)
not_or true b = refl
not_or false b = refl

pub AreRows-pushed : (lanes x lost : ℕ) (L : List (Entry ℕ)) (reason : Reason) (words : List ℕ) → lanes ≤ 64 → x < length words → lost < 2 ^ 64 → ((lane : ℕ) → is_on lost lane ≡ true → lane < lanes) →
    AreRows lanes (λ p. not (has_entry L p)) words →
    AreRows lanes (λ p. not (has_entry (L ++ entries_in lanes x lost reason) p)) (set words x (bit_and (get_or words x 0) (bit_not w64 lost)))
AreRows-pushed lanes x lost L reason words few room fits within rows =
    let after : List (Entry ℕ) = L ++ entries_in lanes x lost reason in
    let word : ℕ = bit_and (get_or words x 0) (bit_not w64 lost) in
    let own : HasLanes lanes x (λ p. not (has_entry after p)) word = record {
      each = λ lane l.
          let low : lane < 64 = omega arith in
          on_less (get_or words x 0) lost lane fits low ∙ (ap (λ b. b && not (is_on lost lane)) ((rows.each x room).each lane l)
          ∙ (sym (not_or (has_entry L (x * lanes + lane)) (is_on lost lane)) ∙ ap not (sym (has_entry-lane L (x * lanes) lost lane reason low))));
      rest = λ lane l. on_and (get_or words x 0) (bit_not w64 lost) lane ∙ ap (λ b. b && is_on (bit_not w64 lost) lane) ((rows.each x room).rest lane l);
    } in
    let other : (y : ℕ) → y ≢ x → HasLanes lanes y (λ p. not (has_entry L p)) (get_or words y 0) → HasLanes lanes y (λ p. not (has_entry after p)) (get_or words y 0) = λ y ne was. record {
      each = λ lane l. was.each lane l
          ∙ ap not (sym (has_entry-elsewhere L (x * lanes) lost (y * lanes + lane) reason (λ j low t e. ne (same_from_place y lane x j lanes l (within j t) e).0)));
      rest = was.rest;
    } in
    record {
      each = grind (arith, cases_eq, get_or-set_same, get_or-set_other, length-set, word, own, other);
    }

-- for an empty list all words are full
pub AreRows-full : (lanes : ℕ) (words : List ℕ) → ((y : ℕ) → y < length words → get_or words y 0 ≡ 2 ^ lanes - 1) → AreRows lanes (λ p. not (has_entry [] p)) words
AreRows-full lanes words full = grind (arith, on_ones, on_ones_above)
