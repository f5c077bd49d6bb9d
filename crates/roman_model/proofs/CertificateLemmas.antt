-- Lines of texts and of certificates: the entry that a line states, and the first fault.
use Rattle.roman_model.proofs.Common.{slice_get_past, slice_get-get_or, take-append-le, take_all, take_at, get_or-append_seam, ◌≡◌, ℕ, zero, suc, ◌+◌, ◌%◌, ◌^◌, ◌<◌, ◌≤◌, ◌==◌, false, ◌⊎◌, List, [], ◌∷◌, ◌++◌, map, length, take, Option, Some, None, IsFalse, option_map, slice_get, decimal, refl, sym, ap, ap₂, ◌∙◌, subst, inl, inr, arith, length-append, ◌≢◌, append_assoc, append-nil, cons_option, both_ways, or_parts, or_from, eq-eqb, cases_lt, ne_eqb, cond-false, list_any-append, filter_map-append, IsIn, below, IsLine, lines, ended_lines, text_of_lines, AreLines, has, same_numbers, Arena, Entry, reason_text, entry_line, end_line, Why, Verdict, Rejected, reasons, possible_entries, entry_of, entries_on, line_fault, IsClean, faults, Reason, Final, Act, decimal_by_steps, decimal_injective, decimal_nonempty}
use Rattle.roman_model.proofs.Lists.{by_test, none_from, in_map, from_map, in_flat_map, from_flat_map, from_push, in_below, from_below, find_some, find_found, find_not_found, any_from}
use Rattle.roman_model.proofs.SystemLemmas.{same_numbers_is, same_numbers_itself}

-- Lines of a text whose first lines are known

pub lines-line : (line rest : List ℕ) → IsLine line → lines (line ++ 10 ∷ rest) ≡ line ∷ lines rest
lines-line [] rest h = refl
lines-line (byte ∷ line) rest h = grind (arith, or_parts, (lines-line line rest))

pub ended_lines-line : (line rest : List ℕ) → IsLine line → ended_lines (line ++ 10 ∷ rest) ≡ line ∷ ended_lines rest
ended_lines-line [] rest h = refl
ended_lines-line (byte ∷ line) rest h = grind (arith, or_parts, (ended_lines-line line rest))

-- bytes without a newline are one line, or none if there are no bytes
pub lines_last : (line : List ℕ) → IsLine line → line ≢ [] → lines line ≡ line ∷ []
lines_last [] h some = absurd (some refl)
lines_last (byte ∷ []) h some = grind (arith, cond-false, or_parts)
lines_last (byte ∷ next ∷ line) h some = grind (arith, or_parts, (lines_last (next ∷ line)))

pub ended_lines_last : (line : List ℕ) → IsLine line → ended_lines line ≡ []
ended_lines_last [] h = refl
ended_lines_last (byte ∷ line) h = grind (arith, or_parts, (ended_lines_last line))

pub lines-text : (ls : List (List ℕ)) (rest : List ℕ) → AreLines ls → lines (text_of_lines ls ++ rest) ≡ ls ++ lines rest
lines-text [] rest are = refl
lines-text (line ∷ ls) rest are = grind (arith, lines-line, append_assoc, (lines-text ls rest))

pub ended_lines-text : (ls : List (List ℕ)) (rest : List ℕ) → AreLines ls → ended_lines (text_of_lines ls ++ rest) ≡ ls ++ ended_lines rest
ended_lines-text [] rest are = refl
ended_lines-text (line ∷ ls) rest are = grind (arith, ended_lines-line, append_assoc, (ended_lines-text ls rest))

-- the lines of a text of lines are these lines
pub lines-text_of_lines : (ls : List (List ℕ)) → AreLines ls → lines (text_of_lines ls) ≡ ls
lines-text_of_lines ls are = ap lines (sym (append-nil (text_of_lines ls))) ∙ lines-text ls [] are ∙ append-nil ls

pub text_of_lines-push : (ls : List (List ℕ)) (line : List ℕ) → text_of_lines (ls ++ line ∷ []) ≡ text_of_lines ls ++ line ++ 10 ∷ []
text_of_lines-push [] line = append-nil (line ++ 10 ∷ [])
text_of_lines-push (first ∷ ls) line = grind (arith, append_assoc, (text_of_lines-push ls line))

-- Decimal numbers

pub decimal_digits : (n : ℕ) → n < 2 ^ 64 → (b : ℕ) → IsIn b (decimal n) → (48 ≤ b) × (b ≤ 57)
decimal_digits n h = decimal_by_steps (λ m ds. (b : ℕ) → IsIn b ds → (48 ≤ b) × (b ≤ 57)) one more n h
  where
    one : (m : ℕ) → m < 10 → (b : ℕ) → IsIn b ((48 + m) ∷ []) → (48 ≤ b) × (b ≤ 57)
    one m l b (inl e) = (omega arith, omega arith)
    one m l b (inr none) = absurd none

    more : (m : ℕ) (ds : List ℕ) → 10 ≤ m → ((b : ℕ) → IsIn b ds → (48 ≤ b) × (b ≤ 57)) → (b : ℕ) → IsIn b (ds ++ ((48 + m % 10) ∷ [])) → (48 ≤ b) × (b ≤ 57)
    more m ds l rest b i = elim (from_push b (48 + m % 10) ds i) [ inl j ↦ rest b j | inr e ↦ (omega arith, omega arith) ]

-- a decimal text has no byte that isn't a digit
pub decimal_without : (n c : ℕ) → n < 2 ^ 64 → (c < 48) ⊎ (57 < c) → IsFalse (has (decimal n) c)
decimal_without n c h other = grind (arith, decimal_digits, ne_eqb, none_from)

pub decimal_starts : (n : ℕ) → n < 2 ^ 64 → (b : ℕ) × (bs : List ℕ) × (decimal n ≡ b ∷ bs) × (b ≤ 57)
decimal_starts n h = first (decimal n) (decimal_nonempty n h) (λ b i. (decimal_digits n h b i).1)
  where
    first : (ds : List ℕ) → 0 < length ds → ((b : ℕ) → IsIn b ds → b ≤ 57) → (b : ℕ) × (bs : List ℕ) × (ds ≡ b ∷ bs) × (b ≤ 57)
    first [] l digits = absurd (omega arith)
    first (d ∷ ds) l digits = (d, ds, refl, digits d (inl refl))

-- Lines

pub append_line : (xs ys : List ℕ) → IsLine xs → IsLine ys → IsLine (xs ++ ys)
append_line xs ys h g = list_any-append (λ m. m == 10) xs ys ∙ or_from (has xs 10) (has ys 10) h g

pub end_is_line : IsLine end_line
end_is_line = refl

-- the number of the reason is small enough for its decimal text
abbrev pub IsSmallReason : Reason → Type 0
IsSmallReason Final = Unit {0}
IsSmallReason (Act a) = a < 2 ^ 64

-- the numbers of the entry are small enough for their decimal texts
abbrev pub IsSmall : Entry ℕ → Type 0
IsSmall x = (x.node < 2 ^ 64) × IsSmallReason x.reason

pub reason_without : (r : Reason) (c : ℕ) → IsSmallReason r → (c < 48) ⊎ ((57 < c) × (c < 102)) → IsFalse (has (reason_text r) c)
reason_without Final c h other = or_from (102 == c) false (ne_eqb 102 c (λ e. elim other [ inl low ↦ omega arith | inr high ↦ (let l : c < 102 = high.1 in omega arith) ])) refl
reason_without (Act a) c h other = decimal_without a c h (elim other [ inl low ↦ inl low | inr high ↦ inr high.0 ])

pub entry_is_line : (x : Entry ℕ) → IsSmall x → IsLine (entry_line x)
entry_is_line x h = grind (arith, append_line, decimal_without, or_from, reason_without)

-- two equal texts, cut at their first byte c, are equal before and after it
pub cut_at : (c : ℕ) (xs ys ts us : List ℕ) → IsFalse (has xs c) → IsFalse (has ys c) → xs ++ c ∷ ts ≡ ys ++ c ∷ us → (xs ≡ ys) × (ts ≡ us)
cut_at c [] [] ts us h g e = (refl, cc)
cut_at c [] (y ∷ ys) ts us h g e = let same : c ≡ y = cc in absurd (both_ways (y == c) (or_parts (y == c) (has ys c) g).0 (eq-eqb y c (sym same)))
cut_at c (x ∷ xs) [] ts us h g e = let same : x ≡ c = cc in absurd (both_ways (x == c) (or_parts (x == c) (has xs c) h).0 (eq-eqb x c same))
cut_at c (x ∷ xs) (y ∷ ys) ts us h g e = grind (arith, (cut_at c xs ys ts us (or_parts (x == c) (has xs c) h).1 (or_parts (y == c) (has ys c) g).1))

reason_from_text : (q r : Reason) → IsSmallReason q → IsSmallReason r → reason_text q ≡ reason_text r → q ≡ r
reason_from_text Final Final h g e = refl
reason_from_text Final (Act b) h g e = grind (arith, (decimal_starts b g))
reason_from_text (Act a) Final h g e = grind (arith, (decimal_starts a h))
reason_from_text (Act a) (Act b) h g e = ap Act (decimal_injective a b h g e)

-- entries with the same text are equal
pub entry_from_text : (x y : Entry ℕ) → IsSmall x → IsSmall y → entry_line x ≡ entry_line y → x ≡ y
entry_from_text x y h g e = grind (arith, cut_at, decimal_injective, (decimal_without x.node 32 h.0 (inl (omega arith))), (decimal_without y.node 32 g.0 (inl (omega arith))), reason_from_text)

-- the text of an entry starts with a digit
pub entry_starts : (x : Entry ℕ) → IsSmall x → (b : ℕ) (bs : List ℕ) → entry_line x ≡ b ∷ bs → b ≤ 57
entry_starts x h b bs e = grind (arith, (decimal_starts x.node h.0))

pub entry_is_no_end : (x : Entry ℕ) → IsSmall x → IsFalse (same_numbers end_line (entry_line x))
entry_is_no_end x h = grind (arith, by_test, entry_starts, same_numbers_is)

-- Entries that can occur in a certificate

pub act_reason : (actions a : ℕ) → a < actions → IsIn (Act a) (reasons actions)
act_reason actions a l = inr (in_map Act a (below actions) (in_below actions a l))

pub reason_small : (actions : ℕ) (r : Reason) → actions ≤ 2 ^ 64 → IsIn r (reasons actions) → IsSmallReason r
reason_small actions r h (inl e) = subst IsSmallReason (sym e) tt
reason_small actions r h (inr i) = let (a, j, e) = from_map Act r (below actions) i in
    let l : a < actions = from_below actions a j in
    grind arith

pub in_possible : (pairs actions : ℕ) (x : Entry ℕ) → x.node < pairs → IsIn x.reason (reasons actions) → IsIn x (possible_entries pairs actions)
in_possible pairs actions x l i =
    in_flat_map (λ p. map (λ r. record { node = p; reason = r }) (reasons actions)) x.node x (below pairs)
    (in_below pairs x.node l) (in_map (λ r. record { node = x.node; reason = r }) x.reason (reasons actions) i)

pub from_possible : (pairs actions : ℕ) (x : Entry ℕ) → IsIn x (possible_entries pairs actions) → (x.node < pairs) × IsIn x.reason (reasons actions)
from_possible pairs actions x i = grind (arith, from_below, from_flat_map, from_map)

-- the numbers of pairs and actions are small enough for decimal texts
pub record AreFew (pairs actions : ℕ) : Type 0 where
  pub pairs_fit : pairs ≤ 2 ^ 64
  pub actions_fit : actions ≤ 2 ^ 64

pub possible_small : (pairs actions : ℕ) (x : Entry ℕ) → AreFew pairs actions → IsIn x (possible_entries pairs actions) → IsSmall x
possible_small pairs actions x small i =
    let (l, j) = from_possible pairs actions x i in
    let few : pairs ≤ 2 ^ 64 = small.pairs_fit in
    let below_it : x.node < pairs = l in
    (omega arith, reason_small actions x.reason small.actions_fit j)

-- the line of an entry is read as that entry
pub entry_of-line : (pairs actions : ℕ) (x : Entry ℕ) → AreFew pairs actions → IsIn x (possible_entries pairs actions) → entry_of pairs actions (entry_line x) ≡ Some x
entry_of-line pairs actions x small i =
    let (y, found) = find_found (λ y. same_numbers (entry_line y) (entry_line x)) (possible_entries pairs actions) (any_from (λ y. same_numbers (entry_line y) (entry_line x)) x (possible_entries pairs actions) i (same_numbers_itself (entry_line x))) in
    let (j, same) = find_some (λ y. same_numbers (entry_line y) (entry_line x)) (possible_entries pairs actions) y found in
    found ∙ ap Some (entry_from_text y x (possible_small pairs actions y small j) (possible_small pairs actions x small i) (same_numbers_is (entry_line y) (entry_line x) same))

-- a line that is read as an entry is the line of that entry
pub entry_of-is : (pairs actions : ℕ) (line : List ℕ) (x : Entry ℕ) → entry_of pairs actions line ≡ Some x → IsIn x (possible_entries pairs actions) × (entry_line x ≡ line)
entry_of-is pairs actions line x e = let (i, same) = find_some (λ y. same_numbers (entry_line y) line) (possible_entries pairs actions) x e in
    grind (arith, same_numbers_is)

-- a line that isn't the line of any entry isn't read as an entry
pub entry_of_none : (pairs actions : ℕ) (line : List ℕ) → ((x : Entry ℕ) → IsIn x (possible_entries pairs actions) → entry_line x ≡ line → ⊥) → entry_of pairs actions line ≡ None
entry_of_none pairs actions line none = grind (arith, by_test, find_not_found, none_from, same_numbers_is)

-- a line that doesn't start with a digit isn't read as an entry
pub entry_of_other : (pairs actions : ℕ) (b : ℕ) (bs : List ℕ) → AreFew pairs actions → 57 < b → entry_of pairs actions (b ∷ bs) ≡ None
entry_of_other pairs actions b bs small h = entry_of_none pairs actions (b ∷ bs) (λ x i e. let l : b ≤ 57 = entry_starts x (possible_small pairs actions x small i) b bs e in omega arith)

-- the lines of entries are read as these entries
pub entries_on-lines : (A : Arena ℕ) (L : List (Entry ℕ)) → AreFew (length A.nodes) A.actions → ((x : Entry ℕ) → IsIn x L → IsIn x (possible_entries (length A.nodes) A.actions)) → entries_on A (map entry_line L) ≡ L
entries_on-lines A [] small are = refl
entries_on-lines A (x ∷ L) small are = grind (arith, (entry_of-line (length A.nodes) A.actions x small (are x (inl refl))), (entries_on-lines A L small))

-- Faults

-- the fault of line i, counted from 0
abbrev pub fault_at : Arena ℕ → List (List ℕ) → ℕ → Option Verdict
fault_at A text i = option_map (Rejected (i + 1)) (line_fault A (take i text) (slice_get text i))

pub faults_more : (A : Arena ℕ) (text : List (List ℕ)) (n : ℕ) → faults A text (suc n) ≡ faults A text n ++ cons_option (fault_at A text n) []
faults_more A text n = filter_map-append (fault_at A text) (below n) (n ∷ [])

pub faults_none : (A : Arena ℕ) (text : List (List ℕ)) (n : ℕ) → IsClean A text n → faults A text n ≡ []
faults_none A text zero clean = refl
faults_none A text (suc n) clean = grind (arith, faults_more, (faults_none A text n))

pub faults_first : (A : Arena ℕ) (text : List (List ℕ)) (n i : ℕ) (why : Why) → IsClean A text i → line_fault A (take i text) (slice_get text i) ≡ Some why → i < n →
    (rest : List Verdict) × (faults A text n ≡ Rejected (i + 1) why ∷ rest)
faults_first A text zero i why clean fault l = absurd (omega arith)
faults_first A text (suc n) i why clean fault l = grind (arith, (cases_lt i n), faults_more, (faults_more A text n), faults_none, (faults_first A text n i why clean fault))

-- a line of a text, if more lines follow
pub get_front : {X : Type 0} (xs ys : List X) (i : ℕ) → i < length xs → slice_get (xs ++ ys) i ≡ slice_get xs i
get_front [] ys i l = absurd (omega arith)
get_front (x ∷ xs) ys zero l = refl
get_front (x ∷ xs) ys (suc i) l = get_front xs ys i (omega arith)

get_after : {X : Type 0} (xs : List X) (y : X) (ys : List X) → slice_get (xs ++ y ∷ ys) (length xs) ≡ Some y
get_after xs y ys = grind (arith, (slice_get-get_or (xs ++ y ∷ ys) (length xs) y), (get_or-append_seam xs y ys y), length-append)

pub clean_front : (A : Arena ℕ) (text more : List (List ℕ)) → IsClean A text (length text) → IsClean A (text ++ more) (length text)
clean_front A text more clean i l = ap₂ (line_fault A) (take-append-le i text more (omega arith)) (get_front text more i l) ∙ clean i l

-- the first lines with one more line without a fault
pub clean_push : (A : Arena ℕ) (text : List (List ℕ)) (line : List ℕ) → IsClean A text (length text) → line_fault A text (Some line) ≡ None → IsClean A (text ++ line ∷ []) (length (text ++ line ∷ []))
clean_push A text line clean none i l = grind (arith, cases_lt, clean_front, get_after, take_at, length-append)

-- the fault of the line that follows, or the fault of a missing line
pub fault_next : (A : Arena ℕ) (text more : List (List ℕ)) (line : List ℕ) → line_fault A (take (length text) (text ++ line ∷ more)) (slice_get (text ++ line ∷ more) (length text)) ≡ line_fault A text (Some line)
fault_next A text more line = ap₂ (line_fault A) (take_at text (line ∷ more) (length text) refl) (get_after text line more)

pub fault_over : (A : Arena ℕ) (text : List (List ℕ)) → line_fault A (take (length text) text) (slice_get text (length text)) ≡ line_fault A text None
fault_over A text = ap₂ (line_fault A) (take_all (length text) text (omega arith)) (slice_get_past text (length text) (omega arith))

-- either none of the first n lines has a fault, or there is a first faulty line
pub faults_cases : (A : Arena ℕ) (text : List (List ℕ)) (n : ℕ) →
    IsClean A text n ⊎ ((i : ℕ) × (why : Why) × (i < n) × IsClean A text i × (line_fault A (take i text) (slice_get text i) ≡ Some why))
faults_cases A text zero = inl (λ i l. absurd (omega arith))
faults_cases A text (suc n) = elim (faults_cases A text n) [
  | inl clean ↦ by_fault clean (line_fault A (take n text) (slice_get text n)) refl
  | inr found ↦ let (i, why, l, clean, fault) = found in inr (i, why, omega arith, clean, fault)
]
  where
    by_fault : IsClean A text n → (o : Option Why) → line_fault A (take n text) (slice_get text n) ≡ o →
        IsClean A text (suc n) ⊎ ((i : ℕ) × (why : Why) × (i < suc n) × IsClean A text i × (line_fault A (take i text) (slice_get text i) ≡ Some why))
    by_fault clean None e = inl (λ i l. elim (cases_lt i n) [
      | inl less ↦ clean i less
      | inr more ↦ (let here : i ≡ n = omega arith in ap (λ k. line_fault A (take k text) (slice_get text k)) here ∙ e)
    ])
    by_fault clean (Some why) e = inr (n, why, omega arith, clean, e)
