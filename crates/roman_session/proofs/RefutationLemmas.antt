-- The explanation of a pair that isn't related is a removal list in terms of steps, and the opponent who plays by it wins.
use Rattle.roman_session.proofs.Common.{◌≡◌, ℕ, zero, suc, ◌+◌, ◌<◌, Bool, not, List, [], ◌∷◌, ◌++◌, length, codes, Option, None, Some, IsTrue, IsFalse, inl, inr, slice_get, refl, sym, ap, ◌∙◌, subst, arith, append_assoc, filter, find, list_any, false≢true, both_ways, or_cases, or_parts, not-true, cond-true, cond-false, not-false, IsIn, below, is_empty, text_of_lines, Sys, Pair, IsSys, arena, outcomes, is_ready, Entry, is_beaten, is_listed, is_justified, IsOrder, Great, explain_text, Names, entries_before, answer, ready_seats, answers, rests_on, explanation, lost_line, entry_lines, by_test, empty_is, filter_in, in_filter, filter_sublist, in_below, listed_in, in_listed, from_allowed, from_outcome, outcome_in, system_is_same, find_some, find_found, in_append_right, in_append_left, from_push, in_flat_map, flat_map_same, justified_is, order_middle, before_is, explanation_is_order, explanation_is_least, names_in, Situation, present_system, IsSituation, shown, IsReady, Refutes, lines_of_answers, option_to_list, none-some, slice_get_within, Reason, Final, Act, MayAnswer, IsLost, AreLost, WinsBy, ◌≤◌}

-- Losing more

-- a pair that is lost when some pairs are gone is lost when more pairs are gone
lost_more : (s : Sys) (Gone More : Pair → Type 0) (answers : ℕ → Option Pair) (p : Pair) (r : Reason) → ((q : Pair) → Gone q → More q) → IsLost s Gone answers p r → IsLost s More answers p r
lost_more s Gone More answers p Final more lost = lost
lost_more s Gone More answers p (Act a) more lost = grind arith

module _ (s : Sys) (answers : Entry Pair → ℕ → Option Pair) (all : List (Entry Pair)) where
  wins_more : (n m : ℕ) (p : Pair) → n ≤ m → WinsBy s answers all n p → WinsBy s answers all m p
  wins_more zero m p l none = absurd none
  wins_more (suc n) zero p l wins = absurd (omega (arith, l))
  wins_more (suc n) (suc m) p l (x, i, same, lost) = (x, i, same, lost_more s (WinsBy s answers all n) (WinsBy s answers all m) (answers x) p x.reason (λ q. wins_more n m q (omega (arith, l))) lost)

  -- the opponent who wins from the earlier pairs wins from the others, with at most one more entry for each of them
  wins_from : (n m : ℕ) (before : List Pair) (rest : List (Entry Pair)) → length rest + n ≤ m → ((q : Pair) → IsIn q before → WinsBy s answers all n q) → ((x : Entry Pair) → IsIn x rest → IsIn x all) →
      AreLost s answers before rest → (x : Entry Pair) → IsIn x rest → WinsBy s answers all m x.node
  wins_from n m before [] l wins within lost x none = absurd none
  wins_from n m before (y ∷ rest) l wins within lost x i =
      let here : WinsBy s answers all (suc n) y.node = grind (arith, lost_more) in
      elim i [
        | inl e ↦ wins_more (suc n) m x.node (omega (arith, l)) (subst (λ (x : Entry Pair). WinsBy s answers all (suc n) x.node) (sym e) here)
        | inr j ↦ wins_from (suc n) m (y.node ∷ before) rest (omega (arith, l))
            (λ q k. elim k [ inl e ↦ subst (WinsBy s answers all (suc n)) (sym e) here | inr b ↦ wins_more n (suc n) q (omega arith) (wins q b) ])
            (λ x i. within x (inr i)) lost.2 x j
      ]

-- The explanation

module _ (s : Sys) (ok : IsSys s) (L : List (Entry Pair)) (p : Pair) (order : IsOrder (arena s) L) (listed : IsTrue (is_listed (arena s) L p)) where
  abbrev is_shown : Entry Pair → Bool
  is_shown x = rests_on (arena s) L (length L) p x.node

  -- the defeating answer of seat k to the entry's request
  abbrev answer_by : Reason → Pair → ℕ → Option Pair
  answer_by Final q k = None
  answer_by (Act a) q k = answer (arena s) L q a k

  abbrev answer_to : Entry Pair → ℕ → Option Pair
  answer_to x k = answer_by x.reason x.node k

  -- the answer of an explained entry is the pair of an entry that is explained before it
  answer_shown : (done : List (Entry Pair)) (x : Entry Pair) (rest : List (Entry Pair)) (a k : ℕ) (q : Pair) → L ≡ done ++ x ∷ rest → IsTrue (is_shown x) → x.reason ≡ Act a → k < length s.seats →
      IsTrue (is_listed (arena s) done q) → IsIn q (outcomes s x.node a k) → answer (arena s) L x.node a k ≡ Some q → (y : Entry Pair) × IsIn y done × IsTrue (is_shown y) × (q ≡ y.node)
  answer_shown done x rest a k q whole told act l there out is =
      let there_in = subst (λ (M : List (Entry Pair)). IsIn x M) (sym whole) (in_append_right x done (x ∷ rest) (inl refl)) in
      let step = (from_outcome s x.node a k q out).1 in
      let ready : IsTrue (is_ready (slice_get s.seats k)) = ap is_ready step.seated ∙ ap not step.ready in
      let answered : IsIn q (answers (arena s) L x.node (Act a)) =
      in_flat_map (λ j. option_to_list (answer (arena s) L x.node a j)) k q (ready_seats (arena s))
      (in_filter (arena s).ready k (below (arena s).seats) (in_below (arena s).seats k l) ready) (subst (λ (o : Option Pair). IsIn q (option_to_list o)) (sym is) (inl refl)) in
      let closed = (explanation_is_least s L p listed).closed in
      let shown_too = closed.answered x there_in (in_listed (arena s) (system_is_same s) (explanation (arena s) L p) x (in_filter is_shown x L there_in told)) q
      (subst (λ (r : Reason). IsIn q (answers (arena s) L x.node r)) (sym act) answered) in
      let (z, i, same) = listed_in (arena s) (system_is_same s) (explanation (arena s) L p) q shown_too in
      let (y, j, here) = listed_in (arena s) (system_is_same s) done q there in
      (y, j, subst (λ (q : Pair). IsTrue (rests_on (arena s) L (length L) p q)) (sym same ∙ here) (filter_in is_shown z L i).1, here)

  -- each answer of an explained entry is one that its text gives
  answers_lose : (done : List (Entry Pair)) (x : Entry Pair) (rest : List (Entry Pair)) (before : List Pair) (a k : ℕ) → L ≡ done ++ x ∷ rest → IsTrue (is_shown x) → x.reason ≡ Act a → k < length s.seats →
      ((y : Entry Pair) → IsIn y done → IsTrue (is_shown y) → IsIn y.node before) → IsTrue (is_beaten (arena s) (is_listed (arena s) done) x.node a k) →
      (o : Option Pair) → answer (arena s) L x.node a k ≡ o → find (is_listed (arena s) done) (outcomes s x.node a k) ≡ o → MayAnswer s (λ q. IsIn q before) x.node a k o
  answers_lose done x rest before a k whole told act l holds beaten None is found = λ q (target, system).
      let some_gone = or_cases (is_empty (outcomes s x.node a k)) (list_any (is_listed (arena s) done) (outcomes s x.node a k)) beaten in
      grind (arith, (outcome_in s x.node a k q.t q.e q.bs ok target system), empty_is, find_found, none-some)
  answers_lose done x rest before a k whole told act l holds beaten (Some q) is found =
      let (out, there) = find_some (is_listed (arena s) done) (outcomes s x.node a k) q found in
      let (y, j, shown_too, same) = answer_shown done x rest a k q whole told act l there out is in
      (from_outcome s x.node a k q out, subst (λ (q : Pair). IsIn q before) (sym same) (holds y j shown_too))

  lost_by : (done : List (Entry Pair)) (x : Entry Pair) (rest : List (Entry Pair)) (before : List Pair) (r : Reason) → L ≡ done ++ x ∷ rest → IsFalse (is_listed (arena s) done x.node) → IsTrue (is_shown x) → x.reason ≡ r →
      ((y : Entry Pair) → IsIn y done → IsTrue (is_shown y) → IsIn y.node before) → IsTrue (is_justified (arena s) (is_listed (arena s) done) x.node r) →
      IsLost s (λ q. IsIn q before) (answer_by r x.node) x.node r
  lost_by done x rest before Final whole new told act holds justified = grind (arith, or_parts, not-true, not-false)
  lost_by done x rest before (Act a) whole new told act holds justified =
      let (allowed, each) = justified_is (arena s) (is_listed (arena s) done) x.node a justified in
      let before_is : entries_before (arena s) L x.node ≡ done = ap (λ (M : List (Entry Pair)). entries_before (arena s) M x.node) whole ∙ before_is (arena s) done x rest ((system_is_same s).itself x.node) new in
      grind (arith, from_allowed, answers_lose, before_is)

  told_lost : (done rest : List (Entry Pair)) (before : List Pair) → L ≡ done ++ rest → ((y : Entry Pair) → IsIn y done → IsTrue (is_shown y) → IsIn y.node before) →
      ((q : Pair) → IsIn q before → IsTrue (is_listed (arena s) done q)) → AreLost s answer_to before (filter is_shown rest)
  told_lost done [] before whole holds only = tt
  told_lost done (x ∷ rest) before whole holds only =
      let (new, justified) = order_middle (arena s) done rest x (subst (IsOrder (arena s)) whole order) in
      let more : L ≡ (done ++ x ∷ []) ++ rest = whole ∙ sym (append_assoc done (x ∷ []) rest) in
      let further : (q : Pair) → IsTrue (is_listed (arena s) done q) → IsTrue (is_listed (arena s) (done ++ x ∷ []) q) = grind (arith, listed_in, system_is_same, in_listed, in_append_left) in
      by_test (is_shown x)
      (λ told. subst (AreLost s answer_to before) (sym (cond-true (is_shown x) (x ∷ filter is_shown rest) (filter is_shown rest) told)) (
        λ i. both_ways (is_listed (arena s) done x.node) new (only x.node i),
        lost_by done x rest before x.reason whole new told refl holds justified,
        grind (arith, from_push, (in_listed (arena s) (system_is_same s) (done ++ x ∷ []) x (in_append_right x done (x ∷ []) (inl refl))), (told_lost (done ++ x ∷ []) rest (x.node ∷ before) more)),
      ))
      (grind (arith, cond-false, from_push, both_ways, (told_lost (done ++ x ∷ []) rest before more)))

  -- the lines of an entry
  lines_are : (names : Names) (x : Entry Pair) → entry_lines s names L x ≡ lost_line names x ∷ lines_of_answers names (answer_to x) (ready_seats (arena s)) x.reason
  lines_are names x = grind (arith, answer_by)

-- the seats that are ready
ready_exact : (s : Situation) (k : ℕ) → IsIn k (ready_seats (arena (present_system s))) → IsReady (shown s) k
ready_exact s k i = grind (arith, false≢true, filter_in, not-true)

ready_from : (s : Situation) (k : ℕ) → IsReady (shown s) k → IsIn k (ready_seats (arena (present_system s)))
ready_from s k (seat, there, ready) = in_filter _ _ _ (in_below _ _ (slice_get_within (present_system s).seats k seat there)) (ap is_ready there ∙ ap not ready)

pub refutes : (s : Situation) (text : List ℕ) → IsSituation s → (Great (present_system s) s.here → ⊥) → text ≡ explain_text (present_system s) (names_in s.parts) s.list s.here → Refutes (shown s) text
refutes s text is lost says =
    let sys = present_system s in
    let listed = (is.list.exact s.here is.here).1 lost in
    let explained = explanation_is_order sys s.list s.here is.parts.system is.list.order listed in
    let told = explanation (arena sys) s.list s.here in
    let removed = told_lost sys is.parts.system s.list s.here is.list.order listed [] s.list [] refl (λ y none. absurd none) (λ q none. absurd none) in
    let (front, x, whole, here) = explained.last in
    record {
      entries = told;
      answers = answer_to sys is.parts.system s.list s.here is.list.order listed;
      lost = removed;
      last = explained.last;
      wins = subst (WinsBy sys (answer_to sys is.parts.system s.list s.here is.list.order listed) told (length told)) here
          (wins_from sys (answer_to sys is.parts.system s.list s.here is.list.order listed) told 0 (length told) [] told (omega arith) (λ q none. absurd none) (λ x i. i) removed x
          (subst (λ (M : List (Entry Pair)). IsIn x M) (sym whole) (in_append_right x front (x ∷ []) (inl refl))));
      ready = ready_seats (arena sys);
      order = filter_sublist (arena sys).ready (below (length sys.seats));
      exact = λ k. (ready_exact s k, ready_from s k);
      says = says ∙ ap (λ (ls : List (List ℕ)). text_of_lines (ls ++ codes "end" ∷ []))
          (flat_map_same (entry_lines sys (names_in s.parts) s.list) _ told (lines_are sys is.parts.system s.list s.here is.list.order listed (names_in s.parts)));
    }
