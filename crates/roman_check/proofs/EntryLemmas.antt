-- Lines that are read as entries.
use Rattle.roman_check.proofs.Common.{◌≡◌, ◌≢◌, ℕ, suc, ◌+◌, ◌-◌, ◌^◌, ◌<◌, Bool, List, ◌∷◌, ◌++◌, length, take, drop, get_or, None, Some, IsTrue, IsFalse, decimal, codes, refl, sym, ap, ap₂, ◌∙◌, subst, inl, arith, length-append, length-take-le, ◌≤◌, both_ways, ne_eqb, take_all, take_at, drop_more, get_or_at, IsIn, has, same_numbers, Reason, Final, Act, count_line, reason_text, reasons, entry_of, from_map, from_below, same_numbers_itself, AreFew, act_reason, from_possible, possible_small, entry_of_none, cut_at, decimal_without, in_possible, entry_of-line, IsNumberTo, ReadsOff, HasEntry, Entry}
use Rattle.roman_check.proofs.DigitLemmas.{decimal_shape, no_stop_digit}
use Rattle.roman_check.proofs.Texts.{same_from, clear_before, taken_more}

-- The second line

pub counted : (line front text : List ℕ) (n : ℕ) (b : Bool) → front ≡ codes "pairs " → line ≡ front ++ text → (IsTrue b → decimal n ≡ text) → (decimal n ≡ text → IsTrue b) → b ≡ same_numbers (count_line n) line
counted line front text n b is whole to from =
    same_from b (count_line n) line (λ t. ap₂ (λ bs cs. bs ++ cs) (sym is) (to t) ∙ sym whole)
    (λ e. (let all : codes "pairs " ++ decimal n ≡ codes "pairs " ++ text = e ∙ whole ∙ ap (λ bs. bs ++ text) is in let same : decimal n ≡ text = cc in from same))

-- Reasons

pub no_reason_text : (actions : ℕ) (text : List ℕ) → IsFalse (same_numbers (reason_text Final) text) → ((n : ℕ) → n < actions → decimal n ≢ text) → ReadsOff (reasons actions) reason_text text None
no_reason_text actions text other none = grind (arith, both_ways, from_below, from_map, same_numbers_itself)

pub action_text : (actions a : ℕ) (text : List ℕ) → a < actions → decimal a ≡ text → ReadsOff (reasons actions) reason_text text (Some (Act a))
action_text actions a text l e = record { is = (act_reason actions a l, e) }

-- Entries

pub few_of : (pairs actions : ℕ) → pairs < 2 ^ 32 → actions < 2 ^ 8 → AreFew pairs actions
few_of pairs actions h g = record { pairs_fit = omega arith; actions_fit = omega arith }

-- a line is split at its first space
pub record IsCut (line front back : List ℕ) : Type 0 where
  pub whole : line ≡ front ++ 32 ∷ back
  pub clear : IsFalse (has front 32)

-- the bytes of a line after place i
abbrev pub after : List ℕ → ℕ → List ℕ
after line i = take (length line - (i + 1)) (drop (i + 1) line)

-- a space after digits splits the line there
pub cut_to : (bytes : List ℕ) (i n : ℕ) → IsNumberTo 32 bytes i → IsCut (take (i + 1 + n) bytes) (take i bytes) (take n (drop (i + 1) bytes))
cut_to bytes i n number =
    let l : i < length bytes = number.within in
    let more : i + 1 + n ≡ i + suc n = omega arith in
    record {
      whole = ap (λ m. take m bytes) more ∙ sym (taken_more bytes i (suc n)) ∙ ap (λ bs. take i bytes ++ take (suc n) bs) (drop_more bytes i 0 l) ∙ ap (λ b. take i bytes ++ b ∷ take n (drop (i + 1) bytes)) number.stops;
      clear = clear_before 32 bytes i (λ k m. ne_eqb (get_or bytes k 0) 32 (no_stop_digit 32 bytes i k (omega arith) (omega arith) number.digits m));
    }

pub cut_from : (line : List ℕ) (i : ℕ) → IsNumberTo 32 line i → IsCut line (take i line) (after line i)
cut_from line i number =
    let l : i < length line = number.within in
    subst (λ bs. IsCut bs (take i line) (after line i)) (take_all (i + 1 + (length line - (i + 1))) line (omega arith)) (cut_to line i (length line - (i + 1)) number)

-- a line that doesn't begin with digits and a space isn't the line of an entry
pub no_number : (pairs actions : ℕ) (line : List ℕ) → pairs < 2 ^ 32 → ((i : ℕ) → IsNumberTo 32 line i → ⊥) → entry_of pairs actions line ≡ None
no_number pairs actions line few none = entry_of_none pairs actions line (λ x i e.
    let ds = decimal x.node in
    let inside : x.node < pairs = (from_possible pairs actions x i).0 in
    let (all, trim, value) = decimal_shape x.node ds (omega arith) refl in
    none (length ds) (subst (λ bs. IsNumberTo 32 bs (length ds)) e (record {
      few = trim.few;
      within = omega (arith, length-append ds (32 ∷ reason_text x.reason));
      digits = rw (take_at ds (32 ∷ reason_text x.reason) (length ds) refl) all;
      stops = get_or_at ds 32 (reason_text x.reason) 0 (length ds) refl;
    })))

-- a line whose parts aren't the number of a pair and the text of a reason isn't the line of an entry
pub no_parts : (pairs actions : ℕ) (line front back : List ℕ) → AreFew pairs actions → IsCut line front back →
    ((n : ℕ) (r : Reason) → n < pairs → IsIn r (reasons actions) → decimal n ≡ front → reason_text r ≢ back) → entry_of pairs actions line ≡ None
no_parts pairs actions line front back few cut none = entry_of_none pairs actions line (λ x i e.
    let (number, text) = cut_at 32 (decimal x.node) front (reason_text x.reason) back (decimal_without x.node 32 (possible_small pairs actions x few i).0 (inl (omega arith))) cut.clear (e ∙ cut.whole) in
    let (inside, given) = from_possible pairs actions x i in
    none x.node x.reason inside given number text)

-- the entry of a number and a reason
pub some_entry : (pairs actions : ℕ) (line front back : List ℕ) (n : ℕ) (r : Reason) → AreFew pairs actions → IsCut line front back → n < pairs → decimal n ≡ front → IsIn r (reasons actions) → reason_text r ≡ back →
    entry_of pairs actions line ≡ Some (record { node = n; reason = r })
some_entry pairs actions line front back n r few cut l e i same =
    ap (entry_of pairs actions) (cut.whole ∙ ap₂ (λ bs cs. bs ++ 32 ∷ cs) (sym e) (sym same))
    ∙ entry_of-line pairs actions (record { node = n; reason = r }) few (in_possible pairs actions (record { node = n; reason = r }) l i)

-- the line that begins the bytes is that of the entry
pub entry_there : (pairs actions : ℕ) (bytes : List ℕ) (end : ℕ) (x : Entry ℕ) → pairs < 2 ^ 32 → actions < 2 ^ 8 → HasEntry pairs actions bytes end x → entry_of pairs actions (take end bytes) ≡ Some x
entry_there pairs actions bytes end x pairs_fit actions_fit has =
    let parts = has.parts in
    let space = has.space in
    let before : space < end = parts.rest.before in
    let within : end < length bytes = parts.rest.ended.within in
    let inside : x.node < pairs = has.inside in
    let long : length (take space bytes) ≡ space = length-take-le space bytes (omega arith) in
    let (all, trim, value) = decimal_shape _ _ (omega arith) parts.number in
    let short : length (take space bytes) ≤ 10 = trim.few in
    let whole : space + 1 + (end - (space + 1)) ≡ end = omega arith in
    ap (λ k. entry_of pairs actions (take k bytes)) (sym whole) ∙ some_entry _ _ _ _ _ _ _ (few_of pairs actions pairs_fit actions_fit)
    (cut_to _ _ _ (record { few = omega arith; within = omega arith; digits = all; stops = parts.rest.stop })) inside parts.number has.given parts.rest.text
