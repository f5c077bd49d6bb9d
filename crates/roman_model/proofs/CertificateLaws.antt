-- The certificate of a complete list is accepted, an accepted certificate is complete, and the verdict on a text whose first lines have been read.
use Rattle.roman_model.proofs.Common.{Verdict, head_line, count_line, reason_text, entry_line, end_line, Why, TooLong, reasons, possible_entries, entry_of, entries_on, unless_over, body_fault, line_fault, faults, unlisted, cert_verdict, IsClean, cert_text, Form, Unlisted, Greatest, cert_lines, unless_is, entry_fault, could_be_listed, end_fault, greatest, IsWithinCells, WrittenIsGreatest, GreatestIsComplete, Rejected, ◌≡◌, ℕ, zero, suc, ◌+◌, ◌*◌, ◌^◌, ◌<◌, ◌≤◌, Bool, not, List, [], ◌∷◌, ◌++◌, map, length, take, Option, Some, None, IsTrue, IsFalse, if◌then◌else◌, filter, find, option_map, slice_get, slice_index_or, codes, decimal, refl, sym, ap, ap₂, ◌∙◌, subst, inl, inr, arith, append_assoc, append-nil, length-append, le-leb, ◌-◌, list_any, cons_option, cases_lt, both_ways, and_left, not-false, not_from_true, cond-true, cond-false, and_from, lt-leb, length-map, map_push, filter_map-append, list_any-append, none-some, IsIn, below, lines, ended_lines, text_of_lines, IsLine, AreLines, Sys, IsSys, pairs, same_numbers, arena, Arena, Entry, is_listed, is_justified, IsOrder, Great, sizes_of, count, pair_at, numbered, entry_at, IsCompleteList, is_related, MAX_CERTIFICATE_BYTES, MAX_CELLS, Reason, Final, Act, not-not, mul-le, length-decimal-le, take-append-add}
use Rattle.roman_model.proofs.Lists.{by_test, none_from, any_from, from_map, in_append_left, in_append_right, from_append, in_push, in_below, from_below, filter_same, find_not_found, length-below, filter-map, any_false, find_none, from_push}
use Rattle.roman_model.proofs.SystemLemmas.{same_numbers_is, same_numbers_itself, pairs_at}
use Rattle.roman_model.proofs.ArenaLemmas.{reason_in, unjustified}
use Rattle.roman_model.proofs.CompositionLemmas.{great_survives, related_great, listed_unrelated}
use Rattle.roman_model.proofs.NumberLemmas.{numbers_are_pairs}
use Rattle.roman_model.proofs.OrderLemmas.{order_fits, order_justified, order_push, order_middle}
use Rattle.roman_model.proofs.Renames.{order_named}
use Rattle.roman_model.proofs.NumberedArena.{IsNumber, AreNumbers, numbers_rename, justified_at, numbered_is_same, numbered_is_arena, numbered_completed_by, numbered_listed}
use Rattle.roman_model.proofs.CertificateLemmas.{lines-text_of_lines, lines-text, ended_lines-text, end_is_line, entry_is_line, entry_is_no_end, AreFew, possible_small, in_possible, from_possible, entry_of-line, entry_of-is, entry_of_other, entries_on-lines, faults_none, faults_first, clean_push, fault_next, fault_over, faults_cases, append_line, decimal_without, clean_front}

-- The sizes of a system within the limits

-- the number of nodes of its numbered arena
abbrev node_count : Sys → ℕ
node_count s = length (numbered s).nodes

-- the arena has few enough nodes and actions
abbrev IsFew : Sys → Type 0
IsFew s = AreFew (node_count s) s.env.actions

-- each of the entries can occur in its certificate
abbrev ArePossible : Sys → List (Entry ℕ) → Type 0
ArePossible s L = (x : Entry ℕ) → IsIn x L → IsIn x (possible_entries (node_count s) s.env.actions)

-- the entry on a line of its certificate
abbrev entry_on : Sys → List ℕ → Option (Entry ℕ)
entry_on s line = entry_of (node_count s) s.env.actions line

node_count_is : (s : Sys) → node_count s ≡ count (sizes_of s)
node_count_is s = length-below (count (sizes_of s))

possible_number : (s : Sys) (x : Entry ℕ) → IsIn x (possible_entries (node_count s) s.env.actions) → (x.node < count (sizes_of s)) × IsIn x.reason (reasons s.env.actions)
possible_number s x i = grind (arith, from_possible, node_count_is)

pub cells_small : (s : Sys) → IsSys s → IsWithinCells s → (count (sizes_of s) ≤ MAX_CELLS) × IsFew s
cells_small s sys cells = grind (arith, mul-le, node_count_is)

-- a text within the limit is judged by all its lines
pub judged_short : (A : Arena ℕ) (start : ℕ) (bytes : List ℕ) → length bytes ≤ MAX_CERTIFICATE_BYTES →
    cert_verdict A start bytes ≡ slice_index_or (faults A (lines bytes) (length (lines bytes) + 1)) 0 (unlisted A start (entries_on A (lines bytes)))
judged_short A start bytes h = grind (arith, le-leb)

-- a longer text is judged by the lines that end within the limit
pub judged_long : (A : Arena ℕ) (start : ℕ) (bytes : List ℕ) → MAX_CERTIFICATE_BYTES < length bytes →
    cert_verdict A start bytes ≡ slice_index_or (faults A (ended_lines (take MAX_CERTIFICATE_BYTES bytes)) (length (ended_lines (take MAX_CERTIFICATE_BYTES bytes)))) 0 TooLong
judged_long A start bytes h = grind (arith, cond-false, lt-leb)

-- Properties of a complete list

-- the entries over numbers are a removal list
pub complete_order : (s : Sys) (L : List (Entry ℕ)) → IsSys s → AreNumbers s L → IsCompleteList s L → IsOrder (numbered s) L
complete_order s L sys are complete = order_named (numbered s) (arena s) (pair_at (sizes_of s)) (IsNumber s) (numbers_rename s sys) L are complete.order

pub order_possible : (s : Sys) (L : List (Entry ℕ)) → IsSys s → AreNumbers s L → IsOrder (numbered s) L → ArePossible s L
order_possible s L sys are order x i =
    in_possible (node_count s) s.env.actions x (subst (λ n. x.node < n) (sym (node_count_is s)) (are x i)) (reason_in (numbered s) (numbered_is_arena s sys) (is_listed (numbered s) L) x.node x.reason (order_justified (numbered s) L x order i))

-- The lines of a certificate are clean

-- no line of an entry is `end`
no_end : (s : Sys) (L : List (Entry ℕ)) → IsFew s → ArePossible s L → IsFalse (list_any (same_numbers end_line) (map entry_line L))
no_end s L small are = none_from (same_numbers end_line) (map entry_line L) (λ line i. grind (arith, (from_map entry_line line L i), entry_is_no_end, possible_small))

-- the lines before the entries
abbrev pub opened : Sys → List (Entry ℕ) → List (List ℕ)
opened s L = head_line ∷ count_line (node_count s) ∷ map entry_line L

entry_clean : (s : Sys) (before : List (Entry ℕ)) (x : Entry ℕ) → IsFew s → ArePossible s before → IsIn x (possible_entries (node_count s) s.env.actions) →
    IsFalse (is_listed (numbered s) before x.node) → IsTrue (is_justified (numbered s) (is_listed (numbered s) before) x.node x.reason) →
    line_fault (numbered s) (opened s before) (Some (entry_line x)) ≡ None
entry_clean s before x small are is new holds = grind (arith, (no_end s before small are), (entry_is_no_end x (possible_small (node_count s) s.env.actions x small is)), (entries_on-lines (numbered s) before small are), (entry_of-line (node_count s) s.env.actions x small is))

head_clean : (s : Sys) → IsClean (numbered s) (opened s []) 2
head_clean s zero l = ap (λ b. if b then None else Some Form) (same_numbers_itself head_line)
head_clean s (suc zero) l = ap (λ b. if b then None else Some Form) (same_numbers_itself (count_line (node_count s)))
head_clean s (suc (suc i)) l = absurd (omega arith)

entries_clean : (s : Sys) (before rest : List (Entry ℕ)) → IsFew s → ArePossible s (before ++ rest) → IsOrder (numbered s) (before ++ rest) →
    IsClean (numbered s) (opened s before) (length (opened s before)) → IsClean (numbered s) (opened s (before ++ rest)) (length (opened s (before ++ rest)))
entries_clean s before [] small are order clean = subst (λ M. IsClean (numbered s) (opened s M) (length (opened s M))) (sym (append-nil before)) clean
entries_clean s before (x ∷ rest) small are order clean =
    let (new, holds) = order_middle (numbered s) before rest x order in
    let more : before ++ x ∷ rest ≡ (before ++ x ∷ []) ++ rest = sym (append_assoc before (x ∷ []) rest) in
    let next : IsClean (numbered s) (opened s (before ++ x ∷ [])) (length (opened s (before ++ x ∷ []))) =
    subst (λ ls. IsClean (numbered s) ls (length ls)) (ap (λ ls. head_line ∷ count_line (node_count s) ∷ ls) (sym (map_push entry_line before x)))
    (clean_push (numbered s) (opened s before) (entry_line x) clean
    (entry_clean s before x small (λ y i. are y (in_append_left y before (x ∷ rest) i)) (are x (in_append_right x before (x ∷ rest) (inl refl))) new holds)) in
    subst (λ M. IsClean (numbered s) (opened s M) (length (opened s M))) (sym more)
    (entries_clean s (before ++ x ∷ []) rest small (λ y i. are y (subst (λ M. IsIn y M) (sym more) i)) (subst (IsOrder (numbered s)) more order) next)

-- no pair is missing at the end of a complete list
complete_end : (s : Sys) (L : List (Entry ℕ)) → ((p : ℕ) → p < count (sizes_of s) → IsFalse (is_listed (numbered s) L p) → (r : Reason) → IsFalse (is_justified (numbered s) (is_listed (numbered s) L) p r)) → end_fault (numbered s) L ≡ None
complete_end s L none =
    ap (option_map Unlisted) (find_not_found (could_be_listed (numbered s) L) (below (count (sizes_of s))) (none_from (could_be_listed (numbered s) L) (below (count (sizes_of s))) (λ p i.
    by_test (is_listed (numbered s) L p)
    (λ t. and_left (not (is_listed (numbered s) L p)) (list_any (is_justified (numbered s) (is_listed (numbered s) L) p) (reasons s.env.actions)) (not_from_true (is_listed (numbered s) L p) t))
    (λ f. grind (arith, (none_from (is_justified (numbered s) (is_listed (numbered s) L) p) (reasons s.env.actions)), (none p (from_below (count (sizes_of s)) p i) f))))))

-- the lines of a complete list's certificate have no fault, and neither has its end
pub cert_clean : (s : Sys) (L : List (Entry ℕ)) → IsFew s → ArePossible s L → IsOrder (numbered s) L → end_fault (numbered s) L ≡ None →
    IsClean (numbered s) (cert_lines (node_count s) L) (length (cert_lines (node_count s) L) + 1)
cert_clean s L small are order none i l = elim (cases_lt i (length (cert_lines (node_count s) L))) [
  | inl less ↦ clean_push (numbered s) (opened s L) end_line (entries_clean s [] L small are order (head_clean s)) (grind (arith, (no_end s L small are), (entries_on-lines (numbered s) L small are))) i less
  | inr more ↦
      let here : i ≡ length (cert_lines (node_count s) L) = omega arith in
      ap (λ k. line_fault (numbered s) (take k (cert_lines (node_count s) L)) (slice_get (cert_lines (node_count s) L) k)) here ∙ fault_over (numbered s) (cert_lines (node_count s) L) ∙ (grind (arith, any_from, in_push, same_numbers_itself))
]

-- The lines are read as the entries

pub entries_on-cert : (s : Sys) (L : List (Entry ℕ)) → IsFew s → ArePossible s L → entries_on (numbered s) (cert_lines (node_count s) L) ≡ L
entries_on-cert s L small are = grind (arith, (entry_of_other (node_count s) s.env.actions 114 (codes "oman-order 1") small (omega arith)), entry_of_other, (entry_of_other (node_count s) s.env.actions 101 (110 ∷ 100 ∷ []) small (omega arith)), (node_count s), (filter_map-append (entry_on s) (map entry_line L) (end_line ∷ [])), (entry_on s), (entries_on-lines (numbered s) L small are), (append-nil L))

-- The text is short enough

line_length : (s : Sys) (x : Entry ℕ) → IsSys s → count (sizes_of s) ≤ MAX_CELLS → IsIn x (possible_entries (node_count s) s.env.actions) → length (entry_line x) ≤ 11
line_length s x sys few i = let (l, j) = possible_number s x i in
    let below_it : x.node < count (sizes_of s) = l in
    let number : length (decimal x.node) ≤ 8 = length-decimal-le 8 x.node (omega arith) (omega arith) (omega arith) in
    let reason : length (reason_text x.reason) ≤ 2 = reason_length x.reason j in
    omega (arith, length-append (decimal x.node) (32 ∷ reason_text x.reason))
  where
    reason_length : (r : Reason) → IsIn r (reasons s.env.actions) → length (reason_text r) ≤ 2
    reason_length Final i = omega arith
    reason_length (Act a) (inl e) = grind arith
    reason_length (Act a) (inr i) =
        let (b, j, e) = from_map Act (Act a) (below s.env.actions) i in
        let same : a ≡ b = cc in
        let l : b < s.env.actions = from_below s.env.actions b j in
        grind (arith, length-decimal-le)

entries_length : (s : Sys) (L : List (Entry ℕ)) → IsSys s → count (sizes_of s) ≤ MAX_CELLS → ArePossible s L →
    length (text_of_lines (map entry_line L ++ end_line ∷ [])) ≤ 12 * length L + 4
entries_length s [] sys few are = omega arith
entries_length s (x ∷ L) sys few are = grind (arith, (line_length s x sys few (are x (inl refl))), length-append, (entries_length s L sys few))

pub cert_length : (s : Sys) (L : List (Entry ℕ)) → IsSys s → count (sizes_of s) ≤ MAX_CELLS → ArePossible s L → length L ≤ count (sizes_of s) →
    length (cert_text (node_count s) L) ≤ MAX_CERTIFICATE_BYTES
cert_length s L sys few are fits =
    let rest : length (text_of_lines (map entry_line L ++ end_line ∷ [])) ≤ 12 * length L + 4 = entries_length s L sys few are in
    let same : node_count s ≡ count (sizes_of s) = node_count_is s in
    let number : length (decimal (node_count s)) ≤ 8 = length-decimal-le 8 (node_count s) (omega arith) (omega arith) (omega arith) in
    let head : length (head_line ++ 10 ∷ []) ≡ 14 = refl in
    let word : length (codes "pairs ") ≡ 6 = refl in
    omega (
      arith,
      length-append (head_line ++ 10 ∷ []) ((count_line (node_count s) ++ 10 ∷ []) ++ text_of_lines (map entry_line L ++ end_line ∷ [])),
      length-append (count_line (node_count s) ++ 10 ∷ []) (text_of_lines (map entry_line L ++ end_line ∷ [])),
      length-append (count_line (node_count s)) (10 ∷ []),
      length-append (codes "pairs ") (decimal (node_count s)),
    )

-- The lines of the text

cert_are_lines : (s : Sys) (L : List (Entry ℕ)) → IsFew s → ArePossible s L → node_count s < 2 ^ 64 → AreLines (cert_lines (node_count s) L)
cert_are_lines s L small are few line (inl e) = grind arith
cert_are_lines s L small are few line (inr (inl e)) = grind (arith, append_line, decimal_without)
cert_are_lines s L small are few line (inr (inr i)) = elim (from_append line (map entry_line L) (end_line ∷ []) i) [
  | inl j ↦
      let (x, k, e) = from_map entry_line line L j in
      subst IsLine (sym e) (entry_is_line x (possible_small (node_count s) s.env.actions x small (are x k)))
  | inr j ↦ elim j [ inl e ↦ subst IsLine (sym e) end_is_line | inr none ↦ absurd none ]
]

-- The unlisted pairs of a complete list

-- the number of unlisted numbers is the number of related pairs
pub unlisted_count : (s : Sys) (L : List (Entry ℕ)) → IsSys s → AreNumbers s L → IsCompleteList s L →
    length (filter (λ p. not (is_listed (numbered s) L p)) (below (count (sizes_of s)))) ≡ length (filter (is_related s) (pairs s))
unlisted_count s L sys are complete = ap length (filter_same (λ p. not (is_listed (numbered s) L p)) (λ p. is_related s (pair_at (sizes_of s) p)) (below (count (sizes_of s)))
    (λ p i. ap not (numbered_listed s L p sys are complete (from_below (count (sizes_of s)) p i)) ∙ not-not (is_related s (pair_at (sizes_of s) p))))
    ∙ sym (length-map (filter (λ p. is_related s (pair_at (sizes_of s) p)) (below (count (sizes_of s)))) (pair_at (sizes_of s)))
    ∙ ap length (sym (filter-map (is_related s) (pair_at (sizes_of s)) (below (count (sizes_of s)))))
    ∙ ap (λ ps. length (filter (is_related s) ps)) (sym (pairs_at s))

pub unlisted_is_greatest : (s : Sys) (start : ℕ) (L : List (Entry ℕ)) → IsSys s → start < count (sizes_of s) → AreNumbers s L → IsCompleteList s L → unlisted (numbered s) start L ≡ greatest s start
unlisted_is_greatest s start L sys l are complete = grind (arith, (unlisted_count s L sys are complete), (numbered_listed s L start sys are complete l))

-- no reason holds at a pair that a complete list doesn't list
pub complete_unjustified : (s : Sys) (L : List (Entry ℕ)) → IsSys s → AreNumbers s L → IsCompleteList s L →
    (p : ℕ) → p < count (sizes_of s) → IsFalse (is_listed (numbered s) L p) → (r : Reason) → IsFalse (is_justified (numbered s) (is_listed (numbered s) L) p r)
complete_unjustified s L sys are complete p l unlisted r =
    by_test (is_justified (numbered s) (is_listed (numbered s) L) p r) (λ holds. absurd (unjustified (arena s) (Great s) (is_listed (arena s) (map (entry_at s) L)) (pair_at (sizes_of s) p) r
    (great_survives s (pair_at (sizes_of s) p) sys
    (related_great s (pair_at (sizes_of s) p) sys ((numbers_are_pairs s).pair p l)
    (not-false (is_related s (pair_at (sizes_of s) p)) (sym (numbered_listed s L p sys are complete l) ∙ unlisted))))
    (λ q gone great. listed_unrelated s (map (entry_at s) L) q sys complete.order gone great)
    (sym (justified_at s sys L are p l r) ∙ holds)))
    (λ f. f)

pub written_is_greatest : WrittenIsGreatest
written_is_greatest s start L sys cells l are complete =
    let (few, small) = cells_small s sys cells in
    let order : IsOrder (numbered s) L = complete_order s L sys are complete in
    let possible : ArePossible s L = order_possible s L sys are order in
    let fits : length L ≤ length (below (count (sizes_of s))) = order_fits (numbered s) (numbered_is_same s) L order (λ x i. in_below (count (sizes_of s)) x.node (are x i)) in
    let short : length (cert_text (node_count s) L) ≤ MAX_CERTIFICATE_BYTES = cert_length s L sys few possible (subst (λ n. length L ≤ n) (length-below (count (sizes_of s))) fits) in
    let few_pairs : count (sizes_of s) ≤ MAX_CELLS = few in
    let same : node_count s ≡ count (sizes_of s) = node_count_is s in
    subst (λ n. cert_verdict (numbered s) start (cert_text n L) ≡ greatest s start) same
    (grind (arith, (judged_short (numbered s) start (cert_text (node_count s) L) short), (lines-text_of_lines (cert_lines (node_count s) L) (cert_are_lines s L small possible (omega arith))), (faults_none (numbered s) (cert_lines (node_count s) L) (length (cert_lines (node_count s) L) + 1) (cert_clean s L small possible order (complete_end s L (complete_unjustified s L sys are complete)))), (entries_on-cert s L small possible), (unlisted_is_greatest s start L sys l are complete)))

-- Accepted texts

no_fault : (why : Why) → Some why ≡ None → ⊥
no_fault why e = none-some why (sym e)

-- the expected line is there
pub due_is : (due line : List ℕ) → unless_is due (Some line) ≡ None → line ≡ due
due_is due line e = by_test (same_numbers due line)
    (λ t. sym (same_numbers_is due line t))
    (λ f. absurd (no_fault Form (sym (cond-false (same_numbers due line) None (Some Form) f) ∙ e)))

-- an entry without a fault is new, and its reason holds
entry_holds : (s : Sys) (L : List (Entry ℕ)) (x : Entry ℕ) → entry_fault (numbered s) L (Some x) ≡ None →
    IsFalse (is_listed (numbered s) L x.node) × IsTrue (is_justified (numbered s) (is_listed (numbered s) L) x.node x.reason)
entry_holds s L x e = grind (arith, by_test, cond-false, cond-true, no_fault)

-- the entries on the lines are a removal list, and no pair is missing
record HoldsAll (s : Sys) (L : List (Entry ℕ)) : Type 0 where
  possible : ArePossible s L
  order : IsOrder (numbered s) L
  ended : end_fault (numbered s) L ≡ None

-- the lines read so far: none is `end`, and their entries are a removal list
record ReadSoFar (s : Sys) (done : List (List ℕ)) : Type 0 where
  open_yet : IsFalse (list_any (same_numbers end_line) done)
  possible : ArePossible s (entries_on (numbered s) done)
  order : IsOrder (numbered s) (entries_on (numbered s) done)

module _ (s : Sys) (small : IsFew s) (head size : List ℕ) where
  abbrev with_body : List (List ℕ) → List (List ℕ)
  with_body body = head ∷ size ∷ body

  -- a line that isn't `end` states an entry
  read_entry : (done : List (List ℕ)) (line : List ℕ) → ReadSoFar s done → IsFalse (same_numbers end_line line) → entry_fault (numbered s) (entries_on (numbered s) done) (entry_on s line) ≡ None → ReadSoFar s (done ++ line ∷ [])
  read_entry done line read other e = by_entry (entry_on s line) refl
    where
      by_entry : (o : Option (Entry ℕ)) → entry_on s line ≡ o → ReadSoFar s (done ++ line ∷ [])
      by_entry None is = absurd (no_fault Form (ap (entry_fault (numbered s) (entries_on (numbered s) done)) (sym is) ∙ e))
      by_entry (Some x) is =
          let (new, holds) = entry_holds s (entries_on (numbered s) done) x (ap (entry_fault (numbered s) (entries_on (numbered s) done)) (sym is) ∙ e) in
          let more : entries_on (numbered s) (done ++ line ∷ []) ≡ entries_on (numbered s) done ++ x ∷ [] = filter_map-append (entry_on s) done (line ∷ []) ∙ ap (λ o. entries_on (numbered s) done ++ cons_option o []) is in
          record {
            open_yet = grind (arith, list_any-append);
            possible = λ y i. elim (from_push y x (entries_on (numbered s) done) (subst (λ M. IsIn y M) more i)) [
              | inl j ↦ read.possible y j
              | inr same ↦ subst (λ z. IsIn z (possible_entries (node_count s) s.env.actions)) (sym same) (entry_of-is (node_count s) s.env.actions line x is).0
            ];
            order = subst (IsOrder (numbered s)) (sym more) (order_push (numbered s) (entries_on (numbered s) done) x read.order new holds);
          }

  -- a clean text whose first lines are read has an end
  read_all : (done rest : List (List ℕ)) → ReadSoFar s done → IsClean (numbered s) (with_body (done ++ rest)) (length (with_body (done ++ rest)) + 1) → HoldsAll s (entries_on (numbered s) (done ++ rest))
  read_all done [] read clean =
      let last : line_fault (numbered s) (with_body (done ++ [])) None ≡ None = sym (fault_over (numbered s) (with_body (done ++ []))) ∙ clean (length (with_body (done ++ []))) (omega arith) in
      let open_yet : IsFalse (list_any (same_numbers end_line) (done ++ [])) = subst (λ ls. IsFalse (list_any (same_numbers end_line) ls)) (sym (append-nil done)) read.open_yet in
      absurd (no_fault Form (sym (cond-false (list_any (same_numbers end_line) (done ++ [])) (unless_over None) (body_fault (numbered s) (entries_on (numbered s) (done ++ [])) None) open_yet) ∙ last))
  read_all done (line ∷ rest) read clean =
      let here : line_fault (numbered s) (with_body done) (Some line) ≡ None =
      sym (fault_next (numbered s) (with_body done) rest line) ∙ clean (length (with_body done)) (omega (arith, length-append done (line ∷ rest))) in
      let due : body_fault (numbered s) (entries_on (numbered s) done) (Some line) ≡ None = grind (arith, cond-false) in
      let more : done ++ line ∷ rest ≡ (done ++ line ∷ []) ++ rest = sym (append_assoc done (line ∷ []) rest) in
      let clean_more : IsClean (numbered s) (with_body ((done ++ line ∷ []) ++ rest)) (length (with_body ((done ++ line ∷ []) ++ rest)) + 1) = subst (λ ls. IsClean (numbered s) (with_body ls) (length (with_body ls) + 1)) more clean in
      by_test (same_numbers end_line line)
      (grind (arith, at_end))
      (λ f. grind (arith, (read_all (done ++ line ∷ []) rest (read_entry done line read f (sym (cond-false (same_numbers end_line line) (end_fault (numbered s) (entries_on (numbered s) done)) (entry_fault (numbered s) (entries_on (numbered s) done) (entry_on s line)) f) ∙ due)) clean_more)))
    where
      -- no line follows the end
      at_end : (done : List (List ℕ)) (line : List ℕ) (rest : List (List ℕ)) → ReadSoFar s done → IsTrue (same_numbers end_line line) → end_fault (numbered s) (entries_on (numbered s) done) ≡ None →
          done ++ line ∷ rest ≡ (done ++ line ∷ []) ++ rest → IsClean (numbered s) (with_body ((done ++ line ∷ []) ++ rest)) (length (with_body ((done ++ line ∷ []) ++ rest)) + 1) → HoldsAll s (entries_on (numbered s) (done ++ line ∷ rest))
      at_end done line [] read t none more clean =
          let unread : entry_on s line ≡ None = subst (λ l. entry_on s l ≡ None) (same_numbers_is end_line line t) (entry_of_other (node_count s) s.env.actions 101 (110 ∷ 100 ∷ []) small (omega arith)) in
          let same : entries_on (numbered s) done ≡ entries_on (numbered s) (done ++ line ∷ []) = grind (arith, filter_map-append, append-nil) in
          subst (HoldsAll s) same (record { possible = read.possible; order = read.order; ended = none })
      at_end done line (next ∷ rest) read t none more clean =
          let over : line_fault (numbered s) (with_body (done ++ line ∷ [])) (Some next) ≡ None =
          sym (fault_next (numbered s) (with_body (done ++ line ∷ [])) rest next) ∙ clean (length (with_body (done ++ line ∷ []))) (omega (arith, length-append (done ++ line ∷ []) (next ∷ rest))) in
          grind (arith, no_fault, any_from, in_push)

-- the parts of a text without a fault
text_read : (s : Sys) (text : List (List ℕ)) → IsFew s → IsClean (numbered s) text (length text + 1) → HoldsAll s (entries_on (numbered s) text)
text_read s [] small clean = absurd (no_fault Form (clean 0 (omega arith)))
text_read s (head ∷ []) small clean = absurd (no_fault Form (clean 1 (omega arith)))
text_read s (head ∷ size ∷ body) small clean =
    let first : entry_on s head ≡ None = subst (λ l. entry_on s l ≡ None) (sym (due_is head_line head (clean 0 (omega arith)))) (entry_of_other (node_count s) s.env.actions 114 (codes "oman-order 1") small (omega arith)) in
    let second : entry_on s size ≡ None = grind (arith, entry_on, (due_is (count_line (node_count s)) size (clean 1 (omega arith))), (node_count s), entry_of_other) in
    subst (HoldsAll s) (sym (ap₂ (λ o p. cons_option o (cons_option p (entries_on (numbered s) body))) first second))
    (read_all s small head size [] body (record { open_yet = refl; possible = λ x i. absurd i; order = tt }) clean)

-- if no pair is missing, no reason holds at an unlisted pair
nothing_missing : (s : Sys) (L : List (Entry ℕ)) → IsSys s → end_fault (numbered s) L ≡ None →
    (p : ℕ) → p < count (sizes_of s) → IsFalse (is_listed (numbered s) L p) → (r : Reason) → IsFalse (is_justified (numbered s) (is_listed (numbered s) L) p r)
nothing_missing s L sys ended p l unlisted r = grind (arith, by_test, both_ways, (any_false (could_be_listed (numbered s) L) p (below (count (sizes_of s))) (find_none (could_be_listed (numbered s) L) (below (count (sizes_of s))) (unmapped (find (could_be_listed (numbered s) L) (below (count (sizes_of s)))) ended)) (in_below (count (sizes_of s)) p l)), and_from, any_from, reason_in, (numbered_is_arena s sys))
  where
    unmapped : (o : Option ℕ) → option_map Unlisted o ≡ None → o ≡ None
    unmapped None e = refl
    unmapped (Some q) e = absurd (no_fault (Unlisted q) e)

-- the entries of a text without a fault are a complete list
pub clean_complete : (s : Sys) (text : List (List ℕ)) → IsSys s → IsFew s → IsClean (numbered s) text (length text + 1) → AreNumbers s (entries_on (numbered s) text) × IsCompleteList s (entries_on (numbered s) text)
clean_complete s text sys small clean =
    let all : HoldsAll s (entries_on (numbered s) text) = text_read s text small clean in
    let are : AreNumbers s (entries_on (numbered s) text) = λ x i. (possible_number s x (all.possible x i)).0 in
    (are, numbered_completed_by s (entries_on (numbered s) text) sys are all.order (nothing_missing s (entries_on (numbered s) text) sys all.ended))

-- no line has a fault if the first of the faults, or else the other verdict, accepts the text
judged_clean : (s : Sys) (ls : List (List ℕ)) (n : ℕ) (otherwise : Verdict) (related : ℕ) (starts : Bool) → slice_index_or (faults (numbered s) ls n) 0 otherwise ≡ Greatest related starts →
    IsClean (numbered s) ls n × (Greatest related starts ≡ otherwise)
judged_clean s ls n otherwise related starts e = elim (faults_cases (numbered s) ls n) [
  | inl clean ↦ (clean, sym e ∙ ap (λ vs. slice_index_or vs 0 otherwise) (faults_none (numbered s) ls n clean))
  | inr found ↦
      let (i, why, l, clean, fault) = found in
      let (rest, is) = faults_first (numbered s) ls n i why clean fault l in
      grind arith
]

-- an accepted text is within the limit and has no fault
accepted_clean : (s : Sys) (start : ℕ) (bytes : List ℕ) (related : ℕ) (starts : Bool) → cert_verdict (numbered s) start bytes ≡ Greatest related starts →
    IsClean (numbered s) (lines bytes) (length (lines bytes) + 1) × (Greatest related starts ≡ unlisted (numbered s) start (entries_on (numbered s) (lines bytes)))
accepted_clean s start bytes related starts e = elim (cases_lt MAX_CERTIFICATE_BYTES (length bytes)) [
  | inl long ↦
      let same : Greatest related starts ≡ TooLong = (judged_clean s ended (length ended) TooLong related starts (sym (judged_long (numbered s) start bytes long) ∙ e)).1 in
      grind arith
  | inr short ↦ judged_clean s (lines bytes) (length (lines bytes) + 1) (unlisted (numbered s) start (entries_on (numbered s) (lines bytes))) related starts (sym (judged_short (numbered s) start bytes short) ∙ e)
]
  where
    ended : List (List ℕ)
    ended = ended_lines (take MAX_CERTIFICATE_BYTES bytes)

pub greatest_is_complete : GreatestIsComplete
greatest_is_complete s start bytes related starts sys cells l e =
    let (few, small) = cells_small s sys cells in
    let (clean, said) = accepted_clean s start bytes related starts e in
    let (are, complete) = clean_complete s (lines bytes) sys small clean in
    record { numbers = are; complete = complete; said = said ∙ unlisted_is_greatest s start (entries_on (numbered s) (lines bytes)) sys l are complete }

-- The verdict on a text

-- The fault of a line after the first two

pub fault_in_body : (A : Arena ℕ) (head size : List ℕ) (body : List (List ℕ)) (line : Option (List ℕ)) → IsFalse (list_any (same_numbers end_line) body) →
    line_fault A (head ∷ size ∷ body) line ≡ body_fault A (entries_on A body) line
fault_in_body A head size body line none = cond-false (list_any (same_numbers end_line) body) (unless_over line) (body_fault A (entries_on A body) line) none

pub fault_after_end : (A : Arena ℕ) (head size : List ℕ) (body : List (List ℕ)) (line : Option (List ℕ)) → IsTrue (list_any (same_numbers end_line) body) →
    line_fault A (head ∷ size ∷ body) line ≡ unless_over line
fault_after_end A head size body line some = cond-true (list_any (same_numbers end_line) body) (unless_over line) (body_fault A (entries_on A body) line) some

-- The first fault

-- the first faulty line comes after lines without fault
first_fault : (A : Arena ℕ) (ls : List (List ℕ)) (line : List ℕ) (more : List (List ℕ)) (n : ℕ) (why : Why) (otherwise : Verdict) → IsClean A ls (length ls) → line_fault A ls (Some line) ≡ Some why → length ls < n →
    slice_index_or (faults A (ls ++ line ∷ more) n) 0 otherwise ≡ Rejected (length ls + 1) why
first_fault A ls line more n why otherwise clean fault l =
    let (rest, is) = faults_first A (ls ++ line ∷ more) n (length ls) why (clean_front A ls (line ∷ more) clean) (fault_next A ls more line ∙ fault) l in
    grind arith

-- the verdict on a text within the limit that has a faulty line
pub verdict_at : (A : Arena ℕ) (start : ℕ) (bytes : List ℕ) (ls : List (List ℕ)) (line : List ℕ) (more : List (List ℕ)) (why : Why) → length bytes ≤ MAX_CERTIFICATE_BYTES → lines bytes ≡ ls ++ line ∷ more →
    IsClean A ls (length ls) → line_fault A ls (Some line) ≡ Some why → cert_verdict A start bytes ≡ Rejected (length ls + 1) why
verdict_at A start bytes ls line more why short is clean fault = grind (arith, (judged_short A start bytes short), (first_fault A ls line more (length (ls ++ line ∷ more) + 1) why (unlisted A start (entries_on A (ls ++ line ∷ more))) clean fault (omega (arith, length-append ls (line ∷ more)))))

-- the verdict on a longer text with a faulty line that ends within the limit
pub verdict_within : (A : Arena ℕ) (start : ℕ) (bytes : List ℕ) (ls : List (List ℕ)) (line : List ℕ) (more : List (List ℕ)) (why : Why) → MAX_CERTIFICATE_BYTES < length bytes → ended_lines (take MAX_CERTIFICATE_BYTES bytes) ≡ ls ++ line ∷ more →
    IsClean A ls (length ls) → line_fault A ls (Some line) ≡ Some why → cert_verdict A start bytes ≡ Rejected (length ls + 1) why
verdict_within A start bytes ls line more why long is clean fault = grind (arith, (judged_long A start bytes long), (first_fault A ls line more (length (ls ++ line ∷ more)) why TooLong clean fault (omega (arith, length-append ls (line ∷ more)))))

pub take_past : {X : Type 0} (n : ℕ) (xs ys : List X) → length xs ≤ n → take n (xs ++ ys) ≡ xs ++ take (n - length xs) ys
take_past n xs ys l = let same : n ≡ length xs + (n - length xs) = omega arith in ap (λ m. take m (xs ++ ys)) same ∙ take-append-add xs ys (n - length xs)

-- the verdict if the newline of a faulty line is within the limit, whatever follows
pub verdict_rejected : (A : Arena ℕ) (start : ℕ) (bytes : List ℕ) (ls : List (List ℕ)) (line more : List ℕ) (why : Why) →
    bytes ≡ text_of_lines (ls ++ line ∷ []) ++ more → AreLines (ls ++ line ∷ []) → length (text_of_lines (ls ++ line ∷ [])) ≤ MAX_CERTIFICATE_BYTES →
    IsClean A ls (length ls) → line_fault A ls (Some line) ≡ Some why → cert_verdict A start bytes ≡ Rejected (length ls + 1) why
verdict_rejected A start bytes ls line more why is are within clean fault = elim (cases_lt MAX_CERTIFICATE_BYTES (length bytes)) [
  | inl long ↦
      verdict_within A start bytes ls line (ended_lines (take (MAX_CERTIFICATE_BYTES - length (text_of_lines (ls ++ line ∷ []))) more)) why long
      (grind (arith, (take_past MAX_CERTIFICATE_BYTES (text_of_lines (ls ++ line ∷ [])) more within), (ended_lines-text (ls ++ line ∷ []) (take (MAX_CERTIFICATE_BYTES - length (text_of_lines (ls ++ line ∷ []))) more) are), append_assoc))
      clean fault
  | inr short ↦ grind (arith, (verdict_at A start bytes ls line (lines more) why short (ap lines is ∙ lines-text (ls ++ line ∷ []) more are ∙ append_assoc ls (line ∷ []) (lines more)) clean fault), (lines-text (ls ++ line ∷ []) more are))
]

-- The end of the text

-- the text ends too early
pub verdict_ended : (A : Arena ℕ) (start : ℕ) (bytes : List ℕ) (ls : List (List ℕ)) (why : Why) → length bytes ≤ MAX_CERTIFICATE_BYTES → lines bytes ≡ ls →
    IsClean A ls (length ls) → line_fault A ls None ≡ Some why → cert_verdict A start bytes ≡ Rejected (length ls + 1) why
verdict_ended A start bytes ls why short is clean fault = grind (arith, (faults_first A ls (length ls + 1) (length ls) why clean (fault_over A ls ∙ fault) (omega arith)), (judged_short A start bytes short))

-- no line has a fault, and the text may end there
pub verdict_accepted : (A : Arena ℕ) (start : ℕ) (bytes : List ℕ) (ls : List (List ℕ)) → length bytes ≤ MAX_CERTIFICATE_BYTES → lines bytes ≡ ls →
    IsClean A ls (length ls) → line_fault A ls None ≡ None → cert_verdict A start bytes ≡ unlisted A start (entries_on A ls)
verdict_accepted A start bytes ls short is clean over =
    judged_short A start bytes short
    ∙ ap (λ ms. slice_index_or (faults A ms (length ms + 1)) 0 (unlisted A start (entries_on A ms))) is
    ∙ ap (λ vs. slice_index_or vs 0 (unlisted A start (entries_on A ls))) (faults_none A ls (length ls + 1) (λ i l. grind (arith, (cases_lt i (length ls)), (fault_over A ls))))

-- no line that ends within the limit has a fault, and the text is longer
pub verdict_too_long : (A : Arena ℕ) (start : ℕ) (bytes : List ℕ) (ls : List (List ℕ)) → MAX_CERTIFICATE_BYTES < length bytes → ended_lines (take MAX_CERTIFICATE_BYTES bytes) ≡ ls →
    IsClean A ls (length ls) → cert_verdict A start bytes ≡ TooLong
verdict_too_long A start bytes ls long is clean = grind (arith, (judged_long A start bytes long), (faults_none A ls (length ls) clean))
