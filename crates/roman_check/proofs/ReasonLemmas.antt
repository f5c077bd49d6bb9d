-- Reasons that hold, and pairs that are missing.
use Rattle.roman_check.proofs.Common.{◌≡◌, ◌≢◌, ℕ, ◌+◌, ◌-◌, ◌*◌, ◌^◌, ◌%◌, ◌<◌, ◌≤◌, Bool, true, false, not, ◌&&◌, ◌||◌, List, get_or, [], ◌∷◌, length, Some, None, find, sym, ap, ap₂, ◌∙◌, subst, inl, inr, arith, add-one, bit_or, eqb, zero, suc, refl, bit_and, list_any, trailing_zeros, w64, bit_at, or-false, cases_lt, eq-eqb, false≢true, list_any-append, below, Arena, Entry, is_justified, is_listed, Reason, Act, could_be_listed, reasons, could_be_by, NoneMissing, from_below, none_from, find_first, find_not_found, list_any-map, is_on, AreRows, HasLanes, on_zero, on_or, on_and, IsNumbered, bit_at-trailing_zeros}

-- Reasons

any_below_more : (test : ℕ → Bool) (n : ℕ) → list_any test (below (n + 1)) ≡ (list_any test (below n) || test n)
any_below_more test n =
    ap (λ m. list_any test (below m)) (add-one n) ∙ list_any-append test (below n) (n ∷ []) ∙ ap (λ b. list_any test (below n) || b) (or-false (test n))

-- one more action is probed for
pub one_more : (left : Bool) (test : Reason → Bool) (a : ℕ) → ((left && list_any test (reasons a)) || (left && test (Act a))) ≡ (left && list_any test (reasons (a + 1)))
one_more left test a = grind (arith, any_below_more, list_any-map)

-- all actions were probed for
pub all_probed : (A : Arena ℕ) (L : List (Entry ℕ)) (lanes x word actions : ℕ) → HasLanes lanes x (could_be_by A L actions) word → actions ≡ A.actions → HasLanes lanes x (could_be_listed A L) word
all_probed A L lanes x word actions has all = subst (λ n. HasLanes lanes x (could_be_by A L n) word) all has

pub and_lanes : (lanes x a b : ℕ) (test : ℕ → Bool) → HasLanes lanes x test b → (lane : ℕ) → lane < lanes → is_on (bit_and a b) lane ≡ (is_on a lane && test (x * lanes + lane))
and_lanes lanes x a b test has lane l = on_and a b lane ∙ ap (λ t. is_on a lane && t) (has.each lane l)

-- the words of a band are those of its rows
pub copied : (lanes x from i word : ℕ) (gone : ℕ → Bool) (words : List ℕ) → AreRows lanes (λ q. not (gone q)) words → x + i < length words → from ≡ x → word ≡ get_or words (from + i) 0 → HasLanes lanes (x + i) (λ q. not (gone q)) word
copied lanes x from i word gone words rows within start same = subst (HasLanes lanes (x + i) (λ q. not (gone q))) (sym (same ∙ ap (λ m. get_or words (m + i) 0) start)) (rows.each (x + i) within)

module _ (A : Arena ℕ) (L : List (Entry ℕ)) (lanes x left lost : ℕ) (rest : HasLanes lanes x (λ p. not (is_listed A L p)) left) (none : (lane : ℕ) → is_on left lane ≡ false → is_on lost lane ≡ false) where
  -- if no pair of a row is left, none is missing
  pub none_left : left ≡ 0 → HasLanes lanes x (could_be_listed A L) 0
  none_left empty = record { each = grind (arith, rest.each, on_zero, empty); rest = λ lane l. on_zero lane }

  -- the pairs of a row that are missing by clause 2
  pub final_lanes : ((lane : ℕ) → lane < lanes → is_on lost lane ≡ (is_on left lane && not (A.fine (x * lanes + lane)))) → HasLanes lanes x (could_be_by A L 0) lost
  final_lanes here = record { each = λ lane l. grind (arith, here lane l, rest.each lane l, or-false); rest = λ lane l. none lane (rest.rest lane l) }

  -- the missing pairs of a row, after one more action is probed for
  pub more_lanes : (missing a : ℕ) → HasLanes lanes x (could_be_by A L a) missing → ((lane : ℕ) → lane < lanes → is_on lost lane ≡ (is_on left lane && is_justified A (is_listed A L) (x * lanes + lane) (Act a))) →
      HasLanes lanes x (could_be_by A L (a + 1)) (bit_or missing lost)
  more_lanes missing a so_far here = record {
    each = λ lane l. on_or missing lost lane ∙ ap₂ (λ b d. b || d) (so_far.each lane l) (here lane l ∙ ap (λ b. b && is_justified A (is_listed A L) (x * lanes + lane) (Act a)) (rest.each lane l)) ∙ one_more (not (is_listed A L (x * lanes + lane))) (is_justified A (is_listed A L) (x * lanes + lane)) a;
    rest = λ lane l. on_or missing lost lane ∙ ap₂ (λ b d. b || d) (so_far.rest lane l) (none lane (rest.rest lane l));
  }

-- The least one

-- the lowest lane of a word
lowest : (word : ℕ) → word ≢ 0 → word < 2 ^ 64 → (is_on word (trailing_zeros w64 word) ≡ true) × ((i : ℕ) → i < trailing_zeros w64 word → is_on word i ≡ false)
unfolding is_on
lowest word some small =
    let (within, one, none) = bit_at-trailing_zeros w64 word (omega arith) small in
    (eq-eqb (bit_at word (trailing_zeros w64 word)) 1 one, λ i l. ap (λ b. eqb b 1) (none i l))

-- Rows

module _ (A : Arena ℕ) (lanes : ℕ) (words : List ℕ) where
  -- the words have the bits of the pairs that aren't listed
  abbrev Unlisted : List (Entry ℕ) → Type 0
  Unlisted L = AreRows lanes (λ p. not (is_listed A L p)) words

  module _ (x word : ℕ) (so_far : NoneMissing A lanes words (x * lanes)) (has : (L : List (Entry ℕ)) → Unlisted L → HasLanes lanes x (could_be_listed A L) word) where
    -- if the word has no bit before a lane, no pair of the row before that lane is missing
    before_lane : (lane : ℕ) → lane ≤ lanes → ((i : ℕ) → i < lane → is_on word i ≡ false) → NoneMissing A lanes words (x * lanes + lane)
    before_lane lane few off = record {
      none = λ L rows q l. elim (cases_lt q (x * lanes)) [
        | inl less ↦ so_far.none L rows q less
        | inr more ↦
            let place : x * lanes + (q - x * lanes) ≡ q = omega arith in
            subst (λ p. could_be_listed A L p ≡ false) place (sym ((has L rows).each (q - x * lanes) (omega arith)) ∙ off (q - x * lanes) (omega arith))
      ];
    }

    -- no pair of the row is missing
    pub row_searched : word ≡ 0 → NoneMissing A lanes words ((x + 1) * lanes)
    row_searched none = subst (NoneMissing A lanes words) (omega arith) (before_lane lanes (omega arith) (λ i l. ap (λ w. is_on w i) none ∙ on_zero i))

    -- the lowest bit of the word is the first missing pair
    pub least_missing : IsNumbered A → word ≢ 0 → word < 2 ^ 64 → x * lanes + lanes ≤ length A.nodes → (L : List (Entry ℕ)) → Unlisted L → Some ((x * lanes + trailing_zeros w64 word) % 2 ^ 32) ≡ find (could_be_listed A L) A.nodes
    least_missing ok some small within L rows =
        let lane = trailing_zeros w64 word in
        let (on, before) = lowest word some small in
        let l : lane < lanes = elim (cases_lt lane lanes) [ inl less ↦ less | inr more ↦ absurd (false≢true (sym ((has L rows).rest lane more) ∙ on)) ] in
        let fits : (x * lanes + lane) % 2 ^ 32 ≡ x * lanes + lane = omega (arith, ok.few_nodes) in
        ap Some fits ∙ sym (ap (find (could_be_listed A L)) ok.nodes ∙ find_first (could_be_listed A L) (length A.nodes) (x * lanes + lane) (omega arith) (sym ((has L rows).each lane l) ∙ on)
        ((before_lane lane (omega arith) before).none L rows))

  -- no pair of the rows from row x on, as many as there are, is missing
  pub rows_searched : (x many : ℕ) → NoneMissing A lanes words (x * lanes) → ((L : List (Entry ℕ)) → Unlisted L → (i : ℕ) → i < many → HasLanes lanes (x + i) (could_be_listed A L) 0) → NoneMissing A lanes words ((x + many) * lanes)
  rows_searched x zero so_far none = subst (NoneMissing A lanes words) (omega arith) so_far
  rows_searched x (suc many) so_far none =
      subst (NoneMissing A lanes words) (omega arith) (row_searched (x + many) 0 (rows_searched x many so_far (λ L rows i l. none L rows i (omega arith))) (λ L rows. none L rows many (omega arith)) refl)

  -- no pair is missing
  pub all_searched : (bound : ℕ) → IsNumbered A → length A.nodes ≤ bound → NoneMissing A lanes words bound → (L : List (Entry ℕ)) → Unlisted L → None ≡ find (could_be_listed A L) A.nodes
  all_searched bound ok past none L rows =
      sym (ap (find (could_be_listed A L)) ok.nodes ∙ find_not_found (could_be_listed A L) (below (length A.nodes)) (none_from (could_be_listed A L) (below (length A.nodes))
      (λ q i. none.none L rows q (omega (arith, from_below (length A.nodes) q i)))))
