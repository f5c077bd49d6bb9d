-- The parts of a certificate, and its verdict.
use Rattle.roman_cert.proofs.Common.{Act, AreNumbers, in_map, written_is_greatest, Entry, Err, List, Ok, OnOk, Option, Result, [], ap, append_assoc, arith, codes, decimal, map, subst, sym, ℕ, ◌%◌, ◌*◌, ◌++◌, ◌+◌, ◌/◌, ◌<◌, ◌∙◌, ◌∷◌, ◌≡◌, ◌≤◌, Gathers, IsCompleteList, count, entry_at, sizes_of, IsNamedSys, NamedSys, system_of, IsSys, Sys, IsWithinCells, cert_text, count_line, end_line, entry_line, head_line, reason_text, Puts, Reason, WroteGreatest, as_entry, decimal_digit, decimal_pair, decimal_two, pair, flat_map-append, flat_map-map, text_of_lines, with_newline, pair_number}
use Rattle.roman_cert.proofs.Rests.{rest_of}

-- the line of an entry, with its newline
abbrev pub line_of : Entry ℕ → List ℕ
line_of x = with_newline (entry_line x)

pub cert_begins : (pairs : ℕ) (L : List (Entry ℕ)) (bytes : List ℕ) → bytes ≡ text_of_lines (head_line ∷ count_line pairs ∷ []) → bytes ++ rest_of line_of L (codes "end\n") 0 ≡ cert_text pairs L
unfolding rest_of
cert_begins pairs L bytes is =
    ap (λ (bs : List ℕ). bs ++ rest_of line_of L (codes "end\n") 0) is
    ∙ ap (λ (bs : List ℕ). text_of_lines (head_line ∷ count_line pairs ∷ []) ++ (bs ++ codes "end\n")) (sym (flat_map-map with_newline entry_line L))
    ∙ ap (λ (bs : List ℕ). text_of_lines (head_line ∷ count_line pairs ∷ []) ++ bs) (sym (flat_map-append with_newline (map entry_line L) (end_line ∷ [])))
    ∙ sym (flat_map-append with_newline (head_line ∷ count_line pairs ∷ []) (map entry_line L ++ end_line ∷ []))

-- the line of an entry: the number of its pair, a space and the reason
pub line_said : (pair : ℕ) (reason : Reason) (text : List ℕ) → reason_text reason ≡ text → decimal pair ++ (32 ∷ (text ++ 10 ∷ [])) ≡ line_of (as_entry (pair, reason))
line_said pair reason text is = ap (λ (bs : List ℕ). decimal pair ++ (32 ∷ (bs ++ 10 ∷ []))) (sym is) ∙ sym (append_assoc (decimal pair) (32 ∷ reason_text reason) (10 ∷ []))

-- an action of one digit, of two, and of three
pub one_digit : (a : ℕ) → a < 10 → decimal a ≡ (48 + a % 10) ∷ []
one_digit a high = decimal_digit a high ∙ ap (λ d. (48 + d) ∷ []) (omega arith)

pub two_digits : (a : ℕ) → 10 ≤ a → a < 100 → decimal a ≡ (48 + a % 100 / 10) ∷ (48 + a % 10) ∷ []
two_digits a low high = decimal_two a low high ∙ ap (λ d. (48 + d) ∷ (48 + a % 10) ∷ []) (omega arith)

pub three_digits : (a : ℕ) → 100 ≤ a → a < 256 → decimal a ≡ (48 + a / 100) ∷ (48 + a % 100 / 10) ∷ (48 + a % 10) ∷ []
three_digits a low high =
    decimal_pair a low (omega arith) ∙ ap (λ (ds : List ℕ). ds ++ pair (a % 100)) (decimal_digit (a / 100) (omega arith)) ∙ ap (λ d. (48 + a / 100) ∷ (48 + a % 100 / 10) ∷ (48 + d) ∷ []) (omega arith)

-- the line of an entry whose reason is an action is pushed
pub action_pushed : {T E : Type 0} (old new : Option (List ℕ)) (held after : List ℕ) (pair a : ℕ) (reason : Reason) (text : List ℕ) (result : Result T E) → reason ≡ Act a → decimal a ≡ text →
    Gathers old new after (held ++ (decimal pair ++ (32 ∷ (text ++ 10 ∷ [])))) result → Gathers old new after (held ++ line_of (as_entry (pair, reason))) result
action_pushed old new held after pair a reason text result is said g =
    subst (λ (line : List ℕ). Gathers old new after (held ++ line) result) (line_said pair reason text (ap reason_text is ∙ said)) g

-- The verdict of a checker

-- the entries of a complete list are of numbers of pairs
pub complete_numbers : (s : Sys) (L : List (Entry ℕ)) → IsSys s → IsCompleteList s L → AreNumbers s L
complete_numbers s L sys complete x i = pair_number s x.node sys (complete.pairs (entry_at s x) (in_map (entry_at s) x L i))

-- a joint has few enough cells
within_limit : (n : NamedSys) → IsNamedSys n → IsWithinCells (system_of n)
within_limit n known = omega (arith, known.fits, known.limit.1)

-- a checker accepts a written certificate of a complete list
pub written_accepted : {T E : Type 0} (n : NamedSys) (L : List (Entry ℕ)) (before now : Option (List ℕ)) (result : Result T E) → IsNamedSys n → IsCompleteList (system_of n) L →
    Puts before now (cert_text (count (sizes_of (system_of n))) L) result → OnOk result (WroteGreatest (system_of n) before now)
written_accepted n L before now (Ok x) known complete wrote = record {
  bytes = cert_text (count (sizes_of (system_of n))) L;
  wrote = wrote;
  accepted = λ start l. written_is_greatest (system_of n) start L known.system (within_limit n known) l (complete_numbers (system_of n) L known.system complete) complete;
}
written_accepted n L before now (Err e) known complete wrote = tt
