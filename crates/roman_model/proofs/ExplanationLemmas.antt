-- The explanation is the least closed part of a removal list, is a removal list by itself, and ends with the explained entry.
use Rattle.roman_model.proofs.Common.{false≢true, both_ways, or_cases, or_parts, or_left, or_right, and_parts, and_from, cond-true, cond-false, ◌≡◌, ℕ, zero, suc, ◌+◌, ◌<◌, ◌≤◌, Bool, ◌&&◌, ◌||◌, ◌⊎◌, List, [], ◌∷◌, ◌++◌, length, Option, Some, None, IsTrue, IsFalse, filter, find, refl, sym, ap, ap₂, ◌∙◌, subst, inl, inr, arith, append-nil, append_assoc, length-append, list_any, option_to_list, filter-append, none-some, same_Some, IsIn, below, Arena, Entry, is_among, is_listed, is_justified, IsOrder, arena, entries_before, answer, ready_seats, answers, rests_on, explanation, IsClosed, IsLeastClosed, ExplanationIsLeast, ExplanationIsOrder, Reason, Final, Act}
use Rattle.roman_model.proofs.Lists.{passes_up, by_test, same_test, any_true, any_from, any_within, in_append_right, in_flat_map, from_flat_map, in_filter, filter_in, in_below, find_some, find_found, split_at}
use Rattle.roman_model.proofs.ArenaLemmas.{IsSame, IsArena, among_in, listed_in, beaten_is, beaten_none, beaten_by, justified_is, justified_by}
use Rattle.roman_model.proofs.CompositionLemmas.{system_is_same, system_is_arena}
use Rattle.roman_model.proofs.OrderLemmas.{order_push, order_middle}

-- Entries before a node

-- a node that is listed before p is listed
pub before_listed : {N : Type 0} (A : Arena N) (L : List (Entry N)) (p q : N) → IsTrue (is_listed A (entries_before A L p) q) → IsTrue (is_listed A L q)
before_listed A [] p q h = h
before_listed A (x ∷ L) p q h = grind (arith, by_test, cond-true, false≢true, or_cases, or_left, or_right, (before_listed A L p q))

-- a node that is listed before p has fewer entries before it
pub before_falls : {N : Type 0} (A : Arena N) (L : List (Entry N)) (p q : N) → IsTrue (is_listed A (entries_before A L p) q) → length (entries_before A L q) < length (entries_before A L p)
before_falls A [] p q h = absurd (false≢true h)
before_falls {N} A (x ∷ L) p q h = grind (arith, both_ways, by_test, cond-true, false≢true, or_cases, (before_falls A L p q))

pub before_fits : {N : Type 0} (A : Arena N) (L : List (Entry N)) (p : N) → length (entries_before A L p) ≤ length L
before_fits A [] p = omega arith
before_fits A (x ∷ L) p = grind (arith, (before_fits A L p))

-- a listed node has fewer entries before it than the list has entries
pub before_shorter : {N : Type 0} (A : Arena N) (L : List (Entry N)) (p : N) → IsTrue (is_listed A L p) → length (entries_before A L p) < length L
before_shorter A [] p t = absurd (false≢true t)
before_shorter A (x ∷ L) p t = grind (arith, by_test, cond-true, (before_shorter A L p))

-- the entries before a new node
pub before_is : {N : Type 0} (A : Arena N) (done : List (Entry N)) (x : Entry N) (rest : List (Entry N)) → IsTrue (A.same x.node x.node) → IsFalse (is_listed A done x.node) →
    entries_before A (done ++ x ∷ rest) x.node ≡ done
before_is A [] x rest same new = cond-true (A.same x.node x.node) [] (x ∷ entries_before A rest x.node) same
before_is A (y ∷ done) x rest same new = grind (arith, or_parts, (before_is A done x rest same))

-- Answers

pub in_option : {X : Type 0} (x : X) (o : Option X) → o ≡ Some x → IsIn x (option_to_list o)
in_option x None e = absurd (none-some x e)
in_option x (Some y) e = inl (sym (same_Some y x e))

pub from_option : {X : Type 0} (x : X) (o : Option X) → IsIn x (option_to_list o) → o ≡ Some x
from_option x None i = absurd i
from_option x (Some y) (inl e) = ap Some (sym e)
from_option x (Some y) (inr none) = absurd none

-- an answer comes before the entry
pub answer_before : {N : Type 0} (A : Arena N) (L : List (Entry N)) (p q : N) (r : Reason) → IsIn q (answers A L p r) → IsTrue (is_listed A (entries_before A L p) q)
answer_before A L p q Final i = absurd i
answer_before A L p q (Act a) i =
    let (k, j, m) = from_flat_map (λ k. option_to_list (answer A L p a k)) q (ready_seats A) i in
    (find_some (is_listed A (entries_before A L p)) (A.outcomes p a k) q (from_option q (answer A L p a k) m)).1

-- Steps from entries to answers

module _ {N : Type 0} (A : Arena N) (L : List (Entry N)) (p : N) where
  pub rests_up : (n m : ℕ) (q : N) → n ≤ m → IsTrue (rests_on A L n p q) → IsTrue (rests_on A L m p q)
  rests_up n m q = passes_up (λ m. rests_on A L m p q) (λ m t. or_left (rests_on A L m p q) (list_any (λ x. rests_on A L m p x.node && is_among A (answers A L x.node x.reason) q) L) t) n m

  pub rests_step : (n : ℕ) (x : Entry N) (q : N) → IsSame A → IsIn x L → IsTrue (rests_on A L n p x.node) → IsIn q (answers A L x.node x.reason) → IsTrue (rests_on A L (suc n) p q)
  rests_step n x q same i h j = grind (arith, any_from, and_from)

  -- the last step, if any
  pub rests_cases : (n : ℕ) (q : N) → IsSame A → IsTrue (rests_on A L (suc n) p q) →
      IsTrue (rests_on A L n p q) ⊎ ((x : Entry N) × IsIn x L × IsTrue (rests_on A L n p x.node) × IsIn q (answers A L x.node x.reason))
  rests_cases n q same h = elim (or_cases (rests_on A L n p q) (list_any (λ y. rests_on A L n p y.node && is_among A (answers A L y.node y.reason) q) L) h) [
    | inl before ↦ inl before
    | inr last ↦
        let (x, i, t) = any_true (λ y. rests_on A L n p y.node && is_among A (answers A L y.node y.reason) q) L last in
        let (r, m) = and_parts (rests_on A L n p x.node) (is_among A (answers A L x.node x.reason) q) t in
        inr (x, i, r, among_in A same (answers A L x.node x.reason) q m)
  ]

  -- each step leads nearer to the beginning of the list
  pub rests_falls : (n : ℕ) (q : N) → IsSame A → IsTrue (rests_on A L n p q) → (k : ℕ) × IsTrue (rests_on A L k p q) × (length (entries_before A L q) + k ≤ length (entries_before A L p))
  rests_falls zero q same h = (0, h, subst (λ r. length (entries_before A L r) + 0 ≤ length (entries_before A L p)) (sym (same.is q p h)) (omega arith))
  rests_falls (suc n) q same h = by_last (rests_cases n q same h) (λ g. rests_falls n q same g) (λ r g. rests_falls n r same g)
    where
      by_last : IsTrue (rests_on A L n p q) ⊎ ((x : Entry N) × IsIn x L × IsTrue (rests_on A L n p x.node) × IsIn q (answers A L x.node x.reason)) →
          (IsTrue (rests_on A L n p q) → (k : ℕ) × IsTrue (rests_on A L k p q) × (length (entries_before A L q) + k ≤ length (entries_before A L p))) →
          ((r : N) → IsTrue (rests_on A L n p r) → (k : ℕ) × IsTrue (rests_on A L k p r) × (length (entries_before A L r) + k ≤ length (entries_before A L p))) →
          (k : ℕ) × IsTrue (rests_on A L k p q) × (length (entries_before A L q) + k ≤ length (entries_before A L p))
      by_last (inl g) itself others = itself g
      by_last (inr (x, i, g, j)) itself others =
          let (k, r, l) = others x.node g in
          let falls : length (entries_before A L q) < length (entries_before A L x.node) = before_falls A L x.node q (answer_before A L x.node q x.reason j) in
          (suc k, rests_step k x q same i r j, omega arith)

  -- at most as many steps are needed as the list has entries
  pub rests_within : (n : ℕ) (q : N) → IsSame A → IsTrue (rests_on A L n p q) → IsTrue (rests_on A L (length L) p q)
  rests_within n q same h = grind (arith, (rests_falls n q same h), (before_fits A L p), rests_up)

  pub rests_itself : IsSame A → IsTrue (rests_on A L (length L) p p)
  rests_itself same = rests_within 0 p same (same.itself p)

  pub rests_closed : (x : Entry N) (q : N) → IsSame A → IsIn x L → IsTrue (rests_on A L (length L) p x.node) → IsIn q (answers A L x.node x.reason) → IsTrue (rests_on A L (length L) p q)
  rests_closed x q same i h j = rests_within (suc (length L)) q same (rests_step (length L) x q same i h j)

  -- p's entry depends on the entry of q if q is p, or an answer to an entry on which p's depends
  pub rests_is : (q : N) → IsSame A →
      rests_on A L (length L) p q ≡ (A.same q p || list_any (λ x. rests_on A L (length L) p x.node && is_among A (answers A L x.node x.reason) q) L)
  rests_is q same = same_test (rests_on A L (length L) p q) (A.same q p || list_any (λ x. rests_on A L (length L) p x.node && is_among A (answers A L x.node x.reason) q) L)
      (λ h. first (length L) (omega arith) h)
      (λ h. elim (or_cases (A.same q p) (list_any (λ x. rests_on A L (length L) p x.node && is_among A (answers A L x.node x.reason) q) L) h) [
        | inl e ↦ rests_within 0 q same e
        | inr some ↦ grind (arith, any_true, rests_closed, among_in)
      ])
    where
      first : (n : ℕ) → n ≤ length L → IsTrue (rests_on A L n p q) → IsTrue (A.same q p || list_any (λ x. rests_on A L (length L) p x.node && is_among A (answers A L x.node x.reason) q) L)
      first zero l h = or_left (A.same q p) (list_any (λ x. rests_on A L (length L) p x.node && is_among A (answers A L x.node x.reason) q) L) h
      first (suc n) l h = grind (arith, rests_cases, any_from, and_from, rests_up, (first n (omega arith)))

-- The explanation

-- a closed set holds each node on whose entry p's entry depends
closed_holds : {N : Type 0} (A : Arena N) (L : List (Entry N)) (p : N) (holds : N → Bool) → IsSame A → IsClosed A L p holds → (n : ℕ) (q : N) → IsTrue (rests_on A L n p q) → IsTrue (holds q)
closed_holds {N} A L p holds same closed zero q h = subst (λ r. IsTrue (holds r)) (sym (same.is q p h)) closed.first
closed_holds {N} A L p holds same closed (suc n) q h = grind (arith, rests_cases, (closed_holds A L p holds same closed n))

pub explanation_least : {N : Type 0} (A : Arena N) (L : List (Entry N)) (p : N) → IsSame A → IsTrue (is_listed A L p) → IsLeastClosed A L p
explanation_least A L p same listed = record {
  closed = grind (arith, and_from, and_parts, any_from, any_true, filter_in, in_filter, same_test, rests_itself, before_listed, answer_before, rests_closed);
  least = λ holds closed x i. closed_holds A L p holds same closed (length L) x.node (filter_in (λ y. rests_on A L (length L) p y.node) x L i).1;
}

-- The explanation is a removal list

module _ {N : Type 0} (A : Arena N) (ok : IsArena A) (L : List (Entry N)) (p : N) where
  abbrev is_explained : Entry N → Bool
  is_explained x = rests_on A L (length L) p x.node

  -- an answer to an explained entry is explained, and comes before it
  answer_explained : (done : List (Entry N)) (x : Entry N) (rest : List (Entry N)) (q : N) → L ≡ done ++ x ∷ rest → IsFalse (is_listed A done x.node) → IsTrue (is_explained x) →
      IsIn q (answers A L x.node x.reason) → IsTrue (is_listed A (filter is_explained done) q)
  answer_explained done x rest q whole new explained i =
      let before : entries_before A L x.node ≡ done = ap (λ M. entries_before A M x.node) whole ∙ before_is A done x rest (ok.same.itself x.node) new in
      let listed : IsTrue (is_listed A done q) = subst (λ M. IsTrue (is_listed A M q)) before (answer_before A L x.node q x.reason i) in
      let (y, j, t) = any_true (λ y. A.same q y.node) done listed in
      let rests : IsTrue (rests_on A L (length L) p q) = rests_closed A L p x q ok.same (subst (λ M. IsIn x M) (sym whole) (in_append_right x done (x ∷ rest) (inl refl))) explained i in
      any_from (λ y. A.same q y.node) y (filter is_explained done) (in_filter is_explained y done j (subst (λ n. IsTrue (rests_on A L (length L) p n)) (ok.same.is q y.node t) rests)) t

  -- an entry that the entries before it justify is justified by the explained ones
  explained_justified : (done : List (Entry N)) (q : N) (r : Reason) → entries_before A L q ≡ done → IsTrue (is_justified A (is_listed A done) q r) →
      ((w : N) → IsIn w (answers A L q r) → IsTrue (is_listed A (filter is_explained done) w)) → IsTrue (is_justified A (is_listed A (filter is_explained done)) q r)
  explained_justified done q Final before holds answered = holds
  explained_justified done q (Act a) before holds answered =
      let (allowed, each) = justified_is A (is_listed A done) q a holds in
      justified_by A (is_listed A (filter is_explained done)) q a allowed (λ k l. elim (beaten_is A (is_listed A done) q a k (each k l)) [
        | inl none ↦ beaten_none A (is_listed A (filter is_explained done)) q a k none
        | inr found ↦
            let (w, i, t) = found in
            let (v, first) = find_found (is_listed A done) (A.outcomes q a k) (any_from (is_listed A done) w (A.outcomes q a k) i t) in
            let is : answer A L q a k ≡ Some v = ap (λ M. find (is_listed A M) (A.outcomes q a k)) before ∙ first in
            let ready : IsTrue (A.ready k) = (ok.served q a k w i).2 in
            beaten_by A (is_listed A (filter is_explained done)) q a k v (find_some (is_listed A done) (A.outcomes q a k) v first).0
            (answered v (in_flat_map (λ j. option_to_list (answer A L q a j)) k v (ready_seats A) (in_filter A.ready k (below A.seats) (in_below A.seats k l) ready) (in_option v (answer A L q a k) is)))
      ])

  explained_order : (done rest : List (Entry N)) → L ≡ done ++ rest → IsOrder A (done ++ rest) → IsOrder A (filter is_explained done) → IsOrder A (filter is_explained (done ++ rest))
  explained_order done [] whole order kept = subst (λ M. IsOrder A (filter is_explained M)) (sym (append-nil done)) kept
  explained_order done (x ∷ rest) whole order kept = grind (arith, order_middle, append_assoc, filter-append, by_test, cond-true, order_push, both_ways, any_within, filter_in, explained_justified, before_is, answer_explained, cond-false, append-nil, (explained_order (done ++ x ∷ []) rest))

  pub explanation_order : IsOrder A L → IsOrder A (explanation A L p)
  explanation_order order = explained_order [] L refl order tt

-- The explanation ends with p's entry

filter_none : {X : Type 0} (test : X → Bool) (xs : List X) → ((x : X) → IsIn x xs → IsFalse (test x)) → filter test xs ≡ []
filter_none test [] none = refl
filter_none test (x ∷ xs) none = cond-false (test x) (x ∷ filter test xs) (filter test xs) (none x (inl refl)) ∙ filter_none test xs (λ y i. none y (inr i))

-- a node that isn't listed yet comes after all entries so far
before_longer : {N : Type 0} (A : Arena N) (done rest : List (Entry N)) (q : N) → IsFalse (is_listed A done q) → length done ≤ length (entries_before A (done ++ rest) q)
before_longer A [] rest q h = omega arith
before_longer A (x ∷ done) rest q h = grind (arith, or_parts, (before_longer A done rest q))

pub explanation_last : {N : Type 0} (A : Arena N) (L : List (Entry N)) (p : N) → IsSame A → IsOrder A L → IsTrue (is_listed A L p) →
    (front : List (Entry N)) × (x : Entry N) × (explanation A L p ≡ front ++ x ∷ []) × (x.node ≡ p)
explanation_last {N} A L p same order listed =
    let (x, i, e) = listed_in A same L p listed in
    let (done, rest, whole) = split_at x L i in
    (filter explained done, x, ends x done rest (sym e) whole, sym e)
  where
    explained : Entry N → Bool
    explained y = rests_on A L (length L) p y.node

    behind : (x : Entry N) (done rest : List (Entry N)) → x.node ≡ p → L ≡ done ++ x ∷ rest → (y : Entry N) → IsIn y rest → IsFalse (rests_on A L (length L) p y.node)
    behind x done rest e whole y i = by_test (rests_on A L (length L) p y.node)
        (λ h.
        let (between, after, cut) = split_at y rest i in
        let long : done ++ x ∷ rest ≡ (done ++ x ∷ between) ++ y ∷ after = ap (λ M. done ++ x ∷ M) cut ∙ sym (append_assoc done (x ∷ between) (y ∷ after)) in
        let new : IsFalse (is_listed A (done ++ x ∷ between) y.node) = (order_middle A (done ++ x ∷ between) after y (subst (IsOrder A) (whole ∙ long) order)).0 in
        let far : length (done ++ x ∷ between) ≤ length (entries_before A ((done ++ x ∷ between) ++ y ∷ after) y.node) = before_longer A (done ++ x ∷ between) (y ∷ after) y.node new in
        let there : length (done ++ x ∷ between) ≤ length (entries_before A L y.node) = subst (λ M. length (done ++ x ∷ between) ≤ length (entries_before A M y.node)) (sym (whole ∙ long)) far in
        let first : IsFalse (is_listed A done x.node) = (order_middle A done rest x (subst (IsOrder A) whole order)).0 in
        let here : entries_before A L p ≡ done = ap₂ (λ M q. entries_before A M q) whole (sym e) ∙ before_is A done x rest (same.itself x.node) first in
        let (k, r, l) = rests_falls A L p (length L) y.node same h in
        let at : length (entries_before A L p) ≡ length done = ap length here in
        absurd (omega (arith, length-append done (x ∷ between))))
        (λ f. f)

    ends : (x : Entry N) (done rest : List (Entry N)) → x.node ≡ p → L ≡ done ++ x ∷ rest → explanation A L p ≡ filter (λ y. rests_on A L (length L) p y.node) done ++ x ∷ []
    ends x done rest e whole = grind (arith, filter-append, rests_itself, filter_none, behind)

-- The law, for pairs

pub explanation_is_least : ExplanationIsLeast
explanation_is_least s L p listed = explanation_least (arena s) L p (system_is_same s) listed

pub explanation_is_order : ExplanationIsOrder
explanation_is_order s L p sys order listed = grind (arith, (explanation_order (arena s) (system_is_arena s sys) L p order), (system_is_arena s sys), explanation_last, (system_is_same s))
