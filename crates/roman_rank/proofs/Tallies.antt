-- How often a number occurs in a table.
use Rattle.roman_rank.proofs.Common.{◌≡◌, ◌≢◌, ℕ, zero, suc, ◌+◌, ◌-◌, ◌^◌, ◌<◌, ◌≤◌, ◌==◌, true, cond, List, [], ◌∷◌, ◌++◌, length, take, get_or, slice_index, IsTrue, inl, inr, refl, sym, ap, ◌∙◌, subst, arith, add-one, count_by, take-length, cases_eq, cases_lt, cond-true, cond-false, eq-eqb, ne_eqb, below, by_test, AreCounts, Bool, take_more, sum_by_push, sum_by-cons, count_by_more_yes, count_by_more_no, HasOneMore}

-- the number that a test adds to a count
abbrev pub one_if : Bool → ℕ
one_if b = cond b 1 0

-- a count over a table is a count over its places
pub count_front : (xs : List ℕ) (p q : ℕ → Bool) (n : ℕ) → n ≤ length xs → ((i : ℕ) → i < n → p (get_or xs i 0) ≡ q i) → count_by p (take n xs) ≡ count_by q (below n)
count_front xs p q zero l same = refl
count_front xs p q (suc n) l same =
    let more : take (suc n) xs ≡ take n xs ++ get_or xs n 0 ∷ [] = ap (λ m. take m xs) (sym (add-one n)) ∙ take_more xs n 0 (omega arith) in
    let one = sum_by_push (λ x. cond (p x) 1 0) (take n xs) (get_or xs n 0) in
    let two = sum_by_push (λ x. cond (q x) 1 0) (below n) n in
    let last : one_if (p (get_or xs n 0)) ≡ one_if (q n) = ap one_if (same n (omega arith)) in
    let front : count_by p (take n xs) ≡ count_by q (below n) = count_front xs p q n (omega arith) (λ i h. same i (omega arith)) in
    ap (count_by p) more ∙ omega (arith, one, two, last, front)

pub count_places : (xs : List ℕ) (p q : ℕ → Bool) (n : ℕ) → length xs ≡ n → ((i : ℕ) → i < n → p (get_or xs i 0) ≡ q i) → count_by p xs ≡ count_by q (below n)
count_places xs p q n long same = ap (count_by p) (sym (take-length xs) ∙ ap (λ m. take m xs) long) ∙ count_front xs p q n (omega (arith, long)) same

-- if an element passes the test, the count is positive
pub count_there : (p : ℕ → Bool) (xs : List ℕ) (i : ℕ) → i < length xs → IsTrue (p (get_or xs i 0)) → 0 < count_by p xs
count_there p [] i l t = absurd (omega arith)
count_there p (x ∷ xs) zero l t = let one : one_if (p x) ≡ 1 = cond-true (p x) 1 0 t in omega (arith, sum_by-cons (λ y. cond (p y) 1 0) x xs, one)
count_there p (x ∷ xs) (suc i) l t = let rest : 0 < count_by p xs = count_there p xs i (omega arith) t in omega (arith, sum_by-cons (λ y. cond (p y) 1 0) x xs, rest)

-- if the count is positive, an element passes the test
pub count_place : (p : ℕ → Bool) (xs : List ℕ) → 0 < count_by p xs → (i : ℕ) × (i < length xs) × IsTrue (p (get_or xs i 0))
count_place p [] l = (let none : ⊥ = omega arith in absurd none)
count_place p (x ∷ xs) l =
    by_test (p x) (λ t. (0, omega arith, t)) (λ f.
    let none : one_if (p x) ≡ 0 = cond-false (p x) 1 0 f in
    let (i, k, t) = count_place p xs (omega (arith, sum_by-cons (λ y. cond (p y) 1 0) x xs, none)) in
    (suc i, omega arith, t))

-- a place without a depth is skipped
pub counts_passed : (table counts : List ℕ) (i : ℕ) → i < length table → get_or table i 0 ≡ 2 ^ 32 - 1 → AreCounts (take i table) counts → AreCounts (take (i + 1) table) counts
counts_passed table counts i l none are = grind (arith, count_by_more_no, ne_eqb)

-- a depth is counted once more
pub counts_more : (table counts new : List ℕ) (i d : ℕ) → i < length table → get_or table i 0 ≡ d → d < 2 ^ 32 - 1 → HasOneMore d counts new → AreCounts (take i table) counts → AreCounts (take (i + 1) table) new
counts_more table counts new i d l is small more are =
    record {
      each = λ n k. elim (cases_eq n d) [
        | inl e ↦
            let yes : (get_or table i 0 == n) ≡ true = eq-eqb (get_or table i 0) n (is ∙ sym e) in
            ap (slice_index new) e ∙ (more.one ∙ (ap (λ m. m + 1) (ap (slice_index counts) (sym e) ∙ are.each n k) ∙ sym (count_by_more_yes (λ x. x == n) table i 0 l yes)))
        | inr ne ↦
            let other : get_or table i 0 ≢ n = λ e. ne (sym e ∙ is) in
            more.others n ne ∙ (are.each n k ∙ sym (count_by_more_no (λ x. x == n) table i 0 l (ne_eqb (get_or table i 0) n other)))
      ];
      within = omega (arith, more.long, are.within);
      last = λ some. elim (cases_lt d (length counts)) [
        | inl old ↦
            let same : length new ≡ length counts = omega (arith, more.long) in
            let before : 0 < slice_index counts (length counts - 1) = are.last (omega arith) in
            subst (λ m. 0 < slice_index new (m - 1)) (sym same) (elim (cases_eq (length counts - 1) d) [
              | inl e ↦ subst (λ m. 0 < slice_index new m) (sym e) (omega (arith, more.one))
              | inr ne ↦ subst (λ m. 0 < m) (sym (more.others (length counts - 1) ne)) before
            ])
        | inr high ↦
            let end : length new - 1 ≡ d = omega (arith, more.long) in
            subst (λ m. 0 < slice_index new m) (sym end) (omega (arith, more.one))
      ];
    }
