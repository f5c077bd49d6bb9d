-- Lines that are judged by those that were read.
use Rattle.roman_check.proofs.Common.{◌≡◌, ℕ, ◌+◌, ◌*◌, ◌<◌, ◌==◌, Bool, true, false, not, ◌||◌, List, [], ◌∷◌, ◌++◌, length, Option, Some, None, IsTrue, IsFalse, option_map, find, refl, sym, ap, ◌∙◌, subst, arith, append-nil, if◌then◌else◌, inl, inr, list_any, cons_option, or-false, cond-true, cond-false, not-true, or_left, not-false, cases_lt, list_any-append, IsIn, below, same_numbers, Arena, Entry, is_listed, is_justified, head_line, count_line, reasons, entry_of, entries_on, could_be_listed, end_line, entry_fault, end_fault, body_fault, same_numbers_is, AreFew, possible_small, entry_of-is, entry_of_other, fault_in_body, fault_after_end, entry_is_no_end, by_test, from_below, from_map, Reason, Final, Act, AreRows, IsNumbered, Audit, Nothing, Body, Head, Count, Why, Form, fault_of, IsInRows, HasListed, Judges, TakesEntry, due_after, Removes, HoldsWhereKnown, IsReasonOf, filter_map-append, known_more, Due, RowProbe, Remaining, mul-le}
use Rattle.roman_model.specs.Certificate as text

-- Entries

pub few_numbered : (A : Arena ℕ) → IsNumbered A → AreFew (length A.nodes) A.actions
few_numbered A ok = grind arith

-- the fault of an entry, by whether its pair is new and whether its reason holds
pub fault_by : (A : Arena ℕ) (L : List (Entry ℕ)) (x : Entry ℕ) (new holds : Bool) → new ≡ not (is_listed A L x.node) → holds ≡ is_justified A (is_listed A L) x.node x.reason →
    (if new then (if holds then None else Some text.Unjustified) else Some text.Repeated) ≡ entry_fault A L (Some x)
fault_by A L x true holds e is = rw (not-true (is_listed A L x.node) (sym e), is) refl
fault_by A L x false holds e is = rw (not-false (is_listed A L x.node) (sym e)) refl

-- the pairs of the entries, with one more
listed_more : (A : Arena ℕ) → IsNumbered A → (L : List (Entry ℕ)) (x : Entry ℕ) (q : ℕ) → is_listed A (L ++ x ∷ []) q ≡ (is_listed A L q || q == x.node)
listed_more A ok L x q = list_any-append (λ y. A.same q y.node) L (x ∷ []) ∙ ap (λ b. is_listed A L q || b) (or-false (A.same q x.node) ∙ ok.same q x.node)

-- the contents of an audit, by the lanes of the system
pub listed_rows : (A : Arena ℕ) (L : List (Entry ℕ)) (left : Remaining) (probe : RowProbe) (lanes : ℕ) → HasListed A L left probe → left.lanes ≡ lanes → (words : List ℕ) → words ≡ left.words.items → AreRows lanes (λ q. not (is_listed A L q)) words
listed_rows A L left probe lanes has shaped words same = subst (AreRows lanes (λ q. not (is_listed A L q))) (sym same) (subst (λ m. AreRows m (λ q. not (is_listed A L q)) left.words.items) shaped has.remain.rows)

pub reason_given : (A : Arena ℕ) (r : Reason) → IsIn r (reasons A.actions) → IsReasonOf A r
reason_given A Final i = tt
reason_given A (Act a) (inl wrong) = (let h : ⊥ = cc in absurd h)
reason_given A (Act a) (inr i) =
    let (b, j, same) = from_map Act (Act a) (below A.actions) i in
    let is : a ≡ b = cc in
    subst (λ n. n < A.actions) (sym is) (from_below A.actions b j)

-- the row of a pair is one of the table
pub pair_within : (lanes pairs : ℕ) (left : Remaining) → IsInRows lanes pairs left → (p row lane : ℕ) → row * left.lanes + lane ≡ p → p < pairs → row < length left.words.items
pair_within lanes pairs left shaped p row lane e l = grind (arith, cases_lt, mul-le)

-- the last line, if this pair or no pair is missing
pub end_judged : (A : Arena ℕ) (L : List (Entry ℕ)) (line : List ℕ) (found : Option ℕ) → found ≡ find (could_be_listed A L) A.nodes → IsTrue (same_numbers end_line line) → option_map text.Unlisted found ≡ body_fault A L (Some line)
end_judged A L line found e is =
    ap (option_map text.Unlisted) e ∙ sym (cond-true (same_numbers end_line line) (end_fault A L) (entry_fault A L (entry_of (length A.nodes) A.actions line)) is)

-- the last line isn't the line of an entry
pub ended_list : (A : Arena ℕ) → IsNumbered A → (L : List (Entry ℕ)) (line : List ℕ) → IsTrue (same_numbers end_line line) → L ≡ L ++ entries_on A (line ∷ [])
ended_list A ok L line is =
    let none : entry_of (length A.nodes) A.actions end_line ≡ None = entry_of_other (length A.nodes) A.actions 101 (110 ∷ 100 ∷ []) (few_numbered A ok) (omega arith) in
    sym (ap (λ o. L ++ cons_option o []) (rw (same_numbers_is end_line line is) at none) ∙ append-nil L)

-- The lines that were read, by the line that is due

-- the lines that were read, if this line is due
abbrev IsDue : Due → List (List ℕ) → Type 0
IsDue Head lines = lines ≡ []
IsDue Count lines = (head : List ℕ) × (lines ≡ head ∷ [])
IsDue Body lines = (head : List ℕ) × (size : List ℕ) × (body : List (List ℕ)) × (lines ≡ head ∷ size ∷ body) × IsFalse (list_any (same_numbers end_line) body)
IsDue Nothing lines = (head : List ℕ) × (size : List ℕ) × (body : List (List ℕ)) × (lines ≡ head ∷ size ∷ body) × IsTrue (list_any (same_numbers end_line) body)

due_so_far : (lines : List (List ℕ)) → IsDue (due_after lines) lines
due_so_far [] = refl
due_so_far (head ∷ []) = (head, refl)
due_so_far (head ∷ size ∷ body) = by_test (list_any (same_numbers end_line) body) (λ t. rw t (head, size, body, refl, t)) (λ f. rw f (head, size, body, refl, f))

-- the lines that were read, from the line that is due
pub lines_due : (due : Due) (lines : List (List ℕ)) → due ≡ due_after lines → IsDue due lines
lines_due due lines e = subst (λ due. IsDue due lines) (sym e) (due_so_far lines)

-- The first two lines

opening_fault : (b : Bool) (fault : Option Why) → fault ≡ (if b then None else Some Form) → option_map fault_of fault ≡ (if b then None else Some text.Form)
opening_fault b fault e = grind arith

pub judged_head : (A : Arena ℕ) (old new : Audit) (line : List ℕ) (fault : Option Why) → old.due ≡ Head → fault ≡ (if same_numbers head_line line then None else Some Form) →
    (fault ≡ None → new.due ≡ Count) → new ≡ record old { due = new.due } → Judges A old new line fault
judged_head A old new line fault due named next same = grind (arith, lines_due Head, opening_fault)

pub judged_count : (A : Arena ℕ) (old new : Audit) (line : List ℕ) (fault : Option Why) → old.due ≡ Count → fault ≡ (if same_numbers (count_line (length A.nodes)) line then None else Some Form) →
    (fault ≡ None → new.due ≡ Body) → new ≡ record old { due = new.due } → Judges A old new line fault
judged_count A old new line fault due named next same = grind (arith, lines_due, opening_fault)

-- The lines after them

due_more : (body : List (List ℕ)) (line : List ℕ) (due : Due) → IsFalse (list_any (same_numbers end_line) body) → due ≡ Body →
    (if same_numbers end_line line then Nothing else due) ≡ (if list_any (same_numbers end_line) (body ++ line ∷ []) then Nothing else Body)
due_more body line due none is = grind (arith, list_any-append, or-false)

pub judged_body : (A : Arena ℕ) (old new : Audit) (line : List ℕ) (fault : Option Why) → old.due ≡ Body →
    ((L : List (Entry ℕ)) → HasListed A L old.left old.probe → option_map fault_of fault ≡ body_fault A L (Some line)) →
    ((L : List (Entry ℕ)) → HasListed A L old.left old.probe → fault ≡ None → HasListed A (L ++ entries_on A (line ∷ [])) new.left new.probe) →
    new.due ≡ (if same_numbers end_line line then Nothing else old.due) → Judges A old new line fault
judged_body A old new line fault due named list next = grind (arith, lines_due Body, due_more, fault_in_body, filter_map-append)

-- an entry is judged by the list
pub entry_takes : (A : Arena ℕ) → IsNumbered A → (lanes : ℕ) (old new : Audit) (x : Entry ℕ) (fault : Option Why) → old.due ≡ Body → new.due ≡ old.due → x.node < length A.nodes → IsInRows lanes (length A.nodes) new.left →
    ((L : List (Entry ℕ)) → HasListed A L old.left old.probe → option_map fault_of fault ≡ entry_fault A L (Some x)) →
    ((L : List (Entry ℕ)) → HasListed A L old.left old.probe → fault ≡ None → HasListed A (L ++ x ∷ []) new.left new.probe) → TakesEntry A lanes old new x fault
entry_takes A ok lanes old new x fault due same inside shaped named list = record {
  judged = λ line is.
      let (i, e) = entry_of-is (length A.nodes) A.actions line x is in
      let other : IsFalse (same_numbers end_line line) = subst (λ bs. IsFalse (same_numbers end_line bs)) e (entry_is_no_end x (possible_small (length A.nodes) A.actions x (few_numbered A ok) i)) in
      judged_body A old new line fault due (λ L has. named L has ∙ sym (cond-false (same_numbers end_line line) (end_fault A L) (entry_fault A L (entry_of (length A.nodes) A.actions line)) other ∙ ap (entry_fault A L) is))
      (λ L has none. subst (λ o. HasListed A (L ++ cons_option o []) new.left new.probe) (sym is) (list L has none))
      (same ∙ sym (cond-false (same_numbers end_line line) Nothing old.due other));
  inside = inside;
  shaped = shaped;
  due = same;
}

-- an entry without a fault
pub entry_taken : (A : Arena ℕ) → IsNumbered A → (lanes : ℕ) (old new : Audit) (x : Entry ℕ) → old.due ≡ Body → IsInRows lanes (length A.nodes) old.left → new.due ≡ old.due → x.node < length A.nodes → Removes old.left new.left x.node →
    ((L : List (Entry ℕ)) → HasListed A L old.left old.probe → (true ≡ not (is_listed A L x.node)) × IsTrue (is_justified A (is_listed A L) x.node x.reason) × HoldsWhereKnown A old.left.lanes (is_listed A L) new.probe) → TakesEntry A lanes old new x None
entry_taken A ok lanes old new x due shaped same inside removes holds =
    entry_takes A ok lanes old new x None due same inside (record { in_rows = removes.lanes ∙ shaped.in_rows; room = ap (λ n. n * lanes) removes.rows ∙ shaped.room })
    (λ L has. fault_by A L x true true (holds L has).0 (sym (holds L has).1)) (λ L has none. record {
      remain = removes.removed (length A.nodes) (is_listed A L) (is_listed A (L ++ x ∷ [])) has.remain inside (not-true (is_listed A L x.node) (sym (holds L has).0)) (listed_more A ok L x);
      known = known_more A new.left.lanes _ _ _ (λ q gone. listed_more A ok L x q ∙ or_left _ _ gone) (subst (λ m. HoldsWhereKnown A m (is_listed A L) new.probe) (sym removes.lanes) (holds L has).2);
    })

pub judged_after_end : (A : Arena ℕ) (old new : Audit) (line : List ℕ) → old.due ≡ Nothing → Judges A old new line (Some Form)
judged_after_end A old new line due = grind (arith, lines_due, fault_after_end)
