-- Marks that are set from the end of a removal list: each entry on which p's entry depends is marked
-- before it is reached.
use Rattle.roman_cert.proofs.Common.{Act, Arena, Entry, IsOrder, is_among, is_listed, Board, is_marked, Bool, IsFalse, IsTrue, List, Option, Some, [], ap, append_assoc, ap₂, arith, drop, false, filter, inl, inr, length, length-append, length-take, refl, subst, sym, take, take-append-drop, true, ℕ, ◌&&◌, ◌++◌, ◌+◌, ◌-◌, ◌<◌, ◌||◌, ◌∙◌, ◌∷◌, ◌≡◌, ◌≢◌, ◌≤◌, ◌⊎◌, IsIn, below, IsNumbered, IsSame, among_in, answer_before, any_from, any_true, any_within, before_falls, before_is, by_test, from_append, in_append_right, list_any-flat_map, order_middle, rests_is, same_test, split_at, there_is, and_parts, cond-false, cond-true, false≢true, or_cases, or_left, or_right, answer, answers, entries_before, ready_seats, rests_on, list_any, slice_get, list_any-append, option_to_list, or-false, slice_get_within}
use Rattle.roman_cert.proofs.Rests.{drop_at}
use Rattle.roman_cert.proofs.Answering.{entries_at, unready_answer}

-- p's entry depends on that of x, and q is a defeating answer to x
abbrev pub leads_to : {N : Type 0} → Arena N → List (Entry N) → N → N → Entry N → Bool
leads_to A L p q x = rests_on A L (length L) p x.node && is_among A (answers A L x.node x.reason) q

-- q is p, or an answer to an entry from place i on, on which p's entry depends
abbrev pub rests_from : {N : Type 0} → Arena N → List (Entry N) → N → ℕ → N → Bool
rests_from A L p i q = A.same q p || list_any (leads_to A L p q) (drop i L)

module _ {N : Type 0} (A : Arena N) (same : IsSame A) (L : List (Entry N)) (order : IsOrder A L) (p : N) where
  pub rests_all : (q : N) → rests_from A L p 0 q ≡ rests_on A L (length L) p q
  rests_all q = sym (rests_is A L p q same)

  -- no entry up to that of x has x's node as an answer
  none_before : (i : ℕ) (x y : Entry N) → slice_get L i ≡ Some x → IsIn y (take (i + 1) L) → IsIn x.node (answers A L y.node y.reason) → ⊥
  none_before i x y e here answered =
      let (before, after, cut) = split_at y (take (i + 1) L) here in
      let whole : L ≡ before ++ y ∷ (after ++ drop (i + 1) L) =
      sym (take-append-drop (i + 1) L) ∙ ap (λ M. M ++ drop (i + 1) L) cut ∙ append_assoc before (y ∷ after) (drop (i + 1) L) in
      let new : IsFalse (is_listed A before y.node) = (order_middle A before (after ++ drop (i + 1) L) y (subst (IsOrder A) whole order)).0 in
      let prefix : entries_before A L y.node ≡ before = ap (λ M. entries_before A M y.node) whole ∙ before_is A before y (after ++ drop (i + 1) L) (same.itself y.node) new in
      let falls : length (entries_before A L x.node) < length (entries_before A L y.node) = before_falls A L y.node x.node (answer_before A L y.node x.node y.reason answered) in
      let place : length (entries_before A L x.node) ≡ length (take i L) = ap length (entries_at A same L i x order e) in
      let within : i < length L = slice_get_within L i x e in
      let long : length (entries_before A L y.node) ≡ length before = ap length prefix in
      let short : length (take (i + 1) L) ≡ length (before ++ y ∷ after) = ap length cut in
      omega (arith, length-take i L, length-take (i + 1) L, length-append before (y ∷ after))

  -- the entries after x's decide whether p's entry depends on x's
  pub rests_settled : (i : ℕ) (x : Entry N) → slice_get L i ≡ Some x → rests_from A L p (i + 1) x.node ≡ rests_on A L (length L) p x.node
  rests_settled i x e = same_test (rests_from A L p (i + 1) x.node) (rests_on A L (length L) p x.node)
      (λ t. rests_is A L p x.node same ∙ back (or_cases (A.same x.node p) (list_any (leads_to A L p x.node) (drop (i + 1) L)) t))
      (λ t. forth (or_cases (A.same x.node p) (list_any (leads_to A L p x.node) L) (sym (rests_is A L p x.node same) ∙ t)))
    where
      back : IsTrue (A.same x.node p) ⊎ IsTrue (list_any (leads_to A L p x.node) (drop (i + 1) L)) → IsTrue (A.same x.node p || list_any (leads_to A L p x.node) L)
      back (inl here) = or_left (A.same x.node p) (list_any (leads_to A L p x.node) L) here
      back (inr later) =
          or_right (A.same x.node p) (list_any (leads_to A L p x.node) L)
          (any_within (leads_to A L p x.node) (drop (i + 1) L) L (λ y j. subst (IsIn y) (take-append-drop (i + 1) L) (in_append_right y (take (i + 1) L) (drop (i + 1) L) j)) later)

      forth : IsTrue (A.same x.node p) ⊎ IsTrue (list_any (leads_to A L p x.node) L) → IsTrue (rests_from A L p (i + 1) x.node)
      forth (inl here) = or_left (A.same x.node p) (list_any (leads_to A L p x.node) (drop (i + 1) L)) here
      forth (inr some) =
          let (y, j, t) = any_true (leads_to A L p x.node) L some in
          or_right (A.same x.node p) (list_any (leads_to A L p x.node) (drop (i + 1) L))
          (elim (from_append y (take (i + 1) L) (drop (i + 1) L) (subst (IsIn y) (sym (take-append-drop (i + 1) L)) j)) [
            | inl early ↦ absurd (none_before i x y e early (among_in A same (answers A L y.node y.reason) x.node (and_parts (rests_on A L (length L) p y.node) (is_among A (answers A L y.node y.reason) x.node) t).1))
            | inr late ↦ any_from (leads_to A L p x.node) y (drop (i + 1) L) late t
          ])

  -- one entry more, towards the beginning
  pub rests_next : (i : ℕ) (x : Entry N) (old new : N → Bool) → slice_get L i ≡ Some x → ((q : N) → old q ≡ rests_from A L p (i + 1) q) →
      ((q : N) → new q ≡ (old q || (old x.node && is_among A (answers A L x.node x.reason) q))) → (q : N) → new q ≡ rests_from A L p i q
  rests_next i x old new e was now q =
      now q
      ∙ ap₂ (λ b r. b || (r && is_among A (answers A L x.node x.reason) q)) (was q) (was x.node ∙ rests_settled i x e)
      ∙ turned (A.same q p) (list_any (leads_to A L p q) (drop (i + 1) L)) (leads_to A L p q x)
      ∙ sym (ap (λ M. A.same q p || list_any (leads_to A L p q) M) (drop_at L i x e))
    where
      turned : (a b c : Bool) → ((a || b) || c) ≡ (a || (c || b))
      turned true b c = refl
      turned false true true = refl
      turned false true false = refl
      turned false false true = refl
      turned false false false = refl

  pub rests_back : (M : List (Entry N)) (i : ℕ) (old new : N → Bool) → M ≡ L → 0 < i → i ≤ length L → ((q : N) → old q ≡ rests_from A L p i q) →
      ((x : Entry N) → slice_get M (i - 1) ≡ Some x → (q : N) → new q ≡ (old q || (old x.node && is_among A (answers A M x.node x.reason) q))) → (q : N) → new q ≡ rests_from A L p (i - 1) q
  rests_back M i old new whole some within was now =
      let (x, e) = there_is L (i - 1) (omega arith) in
      let back : i ≡ i - 1 + 1 = omega arith in
      rests_next (i - 1) x old new e (λ q. was q ∙ ap (λ j. rests_from A L p j q) back)
      (subst (λ K. slice_get K (i - 1) ≡ Some x → (q : N) → new q ≡ (old q || (old x.node && is_among A (answers A K x.node x.reason) q))) whole (now x) e)

-- The answers of the seats, one after the other

-- q is the defeating answer of one of the first n seats
abbrev pub answers_up_to : {N : Type 0} → Arena N → List (Entry N) → N → ℕ → ℕ → N → Bool
answers_up_to A L p a n q = list_any (λ k. is_among A (option_to_list (answer A L p a k)) q) (below n)

-- a seat that isn't ready has no answer
pub answers_all : (A : Arena ℕ) → IsNumbered A → (L : List (Entry ℕ)) (p a q : ℕ) → answers_up_to A L p a A.seats q ≡ is_among A (answers A L p (Act a)) q
answers_all A ok L p a q =
    each (below A.seats) ∙ sym (list_any-flat_map (λ k. option_to_list (answer A L p a k)) (A.same q) (ready_seats A))
  where
    each : (ks : List ℕ) → list_any (λ k. is_among A (option_to_list (answer A L p a k)) q) ks ≡ list_any (λ k. is_among A (option_to_list (answer A L p a k)) q) (filter A.ready ks)
    each [] = refl
    each (k ∷ ks) = by_test (A.ready k)
        (λ t. ap (λ b. is_among A (option_to_list (answer A L p a k)) q || b) (each ks) ∙ sym (ap (list_any (λ k. is_among A (option_to_list (answer A L p a k)) q)) (cond-true (A.ready k) (k ∷ filter A.ready ks) (filter A.ready ks) t)))
        (λ f. ap (λ (o : Option ℕ). is_among A (option_to_list o) q || list_any (λ k. is_among A (option_to_list (answer A L p a k)) q) ks) (unready_answer A ok L p a k f)
        ∙ each ks ∙ sym (ap (list_any (λ k. is_among A (option_to_list (answer A L p a k)) q)) (cond-false (A.ready k) (k ∷ filter A.ready ks) (filter A.ready ks) f)))

-- if the answers of all seats are marked, all answers to the request are marked
pub answers_marked : (A : Arena ℕ) → IsNumbered A → (L : List (Entry ℕ)) (p a n q : ℕ) (old new : Bool) → n ≡ A.seats → new ≡ (old || answers_up_to A L p a n q) → new ≡ (old || is_among A (answers A L p (Act a)) q)
answers_marked A ok L p a n q old new seats is = is ∙ ap (λ (b : Bool). old || b) (ap (λ m. answers_up_to A L p a m q) seats ∙ answers_all A ok L p a q)

-- the answer of one more seat is marked, if it has one
pub seats_more : (A : Arena ℕ) (L : List (Entry ℕ)) (p a k q : ℕ) (first old now : Bool) (found : Option ℕ) → found ≡ answer A L p a k →
    old ≡ (first || answers_up_to A L p a k q) → now ≡ (old || is_among A (option_to_list found) q) → now ≡ (first || answers_up_to A L p a (k + 1) q)
seats_more A L p a k q first old now found is before after = grind (arith, list_any-append, or-false)

-- each pair has its own mark
pub marks_one : (A : Arena ℕ) → IsSame A → (old now : Board) (r q : ℕ) → IsTrue (is_marked now r) →
    ((x : ℕ) → x ≢ r → is_marked now x ≡ is_marked old x) → is_marked now q ≡ (is_marked old q || is_among A (r ∷ []) q)
marks_one A same old now r q marked others = grind (arith, by_test, false≢true)
