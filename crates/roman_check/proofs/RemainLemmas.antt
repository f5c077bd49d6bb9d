-- Tables of the pairs that remain.
use Rattle.roman_check.proofs.Common.{◌≡◌, ◌≢◌, ℕ, zero, suc, ◌+◌, ◌-◌, ◌*◌, ◌/◌, ◌^◌, ◌<◌, ◌≤◌, ◌==◌, Bool, true, false, not, ◌&&◌, ◌||◌, List, length, get_or, set, count_by, bit_and, IsFalse, refl, ap, ◌∙◌, inl, inr, arith, add-one, cond, replicate, or-false, ne_eqb, eq-eqb, cases_eq, or_right, get_or-set_other, length-set, length-replicate, get_or-replicate, get_or-set_same, same_from_place, below, from_below, sum_by_same, is_on, AreRows, HasLanes, on_and, on_full, on_full_past, Clears, Remain, sum_by_push, Remaining}

-- Words

pub without_within : (word other j : ℕ) → is_on word j ≡ false → is_on (bit_and word other) j ≡ false
without_within word other j off = on_and word other j ∙ ap (λ b. b && is_on other j) off

-- Counts

pub count_all : (n : ℕ) → count_by (λ _. true) (below n) ≡ n
count_all zero = refl
count_all (suc n) = sum_by_push (λ _. 1) (below n) n ∙ ap (λ m. m + 1) (count_all n) ∙ add-one n

-- one fewer passes
count_less : (f g : ℕ → Bool) (n p : ℕ) → p < n → f p ≡ true → g p ≡ false → ((q : ℕ) → q ≢ p → g q ≡ f q) → count_by g (below n) + 1 ≡ count_by f (below n)
count_less f g zero p l here gone same = absurd (omega arith)
count_less f g (suc n) p l here gone same =
    let all = sum_by_push (λ q. cond (f q) 1 0) (below n) n in
    let but = sum_by_push (λ q. cond (g q) 1 0) (below n) n in
    elim (cases_eq n p) [
      | inl e ↦
          let before : count_by g (below n) ≡ count_by f (below n) = sum_by_same _ _ (below n) (λ q i. ap (λ b. cond b 1 0) (same q (λ d. omega (arith, from_below n q i)))) in
          omega (arith, rw (ap f e ∙ here) at all, rw (ap g e ∙ gone) at but, before)
      | inr ne ↦ omega (arith, all, rw (same n ne) at but, count_less f g n p (omega arith) here gone same)
    ]

-- Tables

-- all pairs remain
pub remain_all : (pairs rows lanes : ℕ) (table : Remaining) → lanes ≤ 64 → table.lanes ≡ lanes → table.words.items ≡ replicate rows ((2 ^ 64 - 1) / 2 ^ (64 - lanes)) → table.count ≡ pairs →
    Remain pairs (λ _. false) table
remain_all pairs rows lanes table few shaped words count = grind (arith, count_all, get_or-replicate, length-replicate, on_full, on_full_past)

-- one pair is taken out
module _ (pairs lanes row lane word : ℕ) (gone more : ℕ → Bool) (words : List ℕ) (rows : AreRows lanes (λ q. not (gone q)) words) (in_rows : row < length words) (in_lanes : lane < lanes) (few : lanes ≤ 64)
    (more_is : (q : ℕ) → more q ≡ (gone q || q == row * lanes + lane)) (clears : Clears (get_or words row 0) word lane) where
  elsewhere : (q : ℕ) → q ≢ row * lanes + lane → more q ≡ gone q
  elsewhere q ne = grind (arith, more_is, ne_eqb, or-false)

  taken : more (row * lanes + lane) ≡ true
  taken = grind (arith, more_is, eq-eqb, or_right)

  own_row : HasLanes lanes row (λ q. not (more q)) word
  own_row = record { each = λ j l. grind (arith, cases_eq j lane, (rows.each row in_rows).each j l, elsewhere (row * lanes + j)); rest = λ j l. clears.within j ((rows.each row in_rows).rest j l) }

  other_row : (r : ℕ) → r < length words → r ≢ row → HasLanes lanes r (λ q. not (more q)) (get_or words r 0)
  other_row r l ne = record { each = λ j m. grind (arith, (rows.each r l).each j m, elsewhere (r * lanes + j), same_from_place r j row lane lanes m in_lanes); rest = (rows.each r l).rest }

  pub rows_less : AreRows lanes (λ q. not (more q)) (set words row word)
  rows_less = record { each = grind (arith, cases_eq, get_or-set_same, get_or-set_other, length-set, own_row, other_row) }

  pub counted_less : row * lanes + lane < pairs → IsFalse (gone (row * lanes + lane)) → count_by (λ q. not (more q)) (below pairs) + 1 ≡ count_by (λ q. not (gone q)) (below pairs)
  counted_less within present = count_less (λ q. not (gone q)) (λ q. not (more q)) pairs (row * lanes + lane) within (ap not present) (ap not taken) (λ q ne. ap not (elsewhere q ne))
