-- Lines that are longer than any that is due.
use Rattle.roman_check.proofs.Common.{◌≡◌, ℕ, ◌^◌, ◌<◌, ◌≤◌, List, [], ◌∷◌, length, Some, None, IsFalse, decimal, ap, arith, length-append, cond-false, length-decimal-le, same_numbers, Arena, Reason, Final, Act, count_line, reason_text, entry_of, line_fault, by_test, same_numbers_is, from_possible, entry_of_none, fault_in_body, fault_after_end, IsNumbered, IsReasonOf}
use Rattle.roman_model.specs.Certificate.{Form}
use Rattle.roman_check.proofs.AuditLemmas.{reason_given}

-- a short line isn't a long one
differs : (due line : List ℕ) → length due ≤ 32 → 32 < length line → IsFalse (same_numbers due line)
differs due line short long = by_test _ (λ t. let same : length due ≡ length line = ap length (same_numbers_is _ _ t) in absurd (omega arith)) (λ f. f)

count_length : (pairs : ℕ) → pairs < 2 ^ 32 → length (count_line pairs) ≤ 16
count_length pairs small = grind (arith, length-decimal-le, length-append)

reason_length : (A : Arena ℕ) (r : Reason) → A.actions ≤ 32 → IsReasonOf A r → length (reason_text r) ≤ 2
reason_length A Final few l = omega arith
reason_length A (Act a) few l = length-decimal-le 2 a (omega arith) (omega arith) (omega arith)

no_entry : (A : Arena ℕ) (line : List ℕ) → IsNumbered A → 32 < length line → entry_of (length A.nodes) A.actions line ≡ None
no_entry A line ok long = entry_of_none (length A.nodes) A.actions line (λ x i e.
    let (inside, given) = from_possible (length A.nodes) A.actions x i in
    let number = length-decimal-le 10 x.node (omega arith) (omega (arith, inside, ok.few_nodes)) (omega (arith, inside, ok.few_nodes)) in
    omega (arith, number, reason_length A x.reason ok.few_actions (reason_given A x.reason given), length-append (decimal x.node) (32 ∷ reason_text x.reason), ap length e))

-- a line that is too long is at fault by its form
pub long_line : (A : Arena ℕ) → IsNumbered A → (text : List (List ℕ)) (line : List ℕ) → 32 < length line → line_fault A text (Some line) ≡ Some Form
long_line A ok [] line long = grind (arith, cond-false, differs)
long_line A ok (head ∷ []) line long =
    let short : length (count_line (length A.nodes)) ≤ 16 = count_length (length A.nodes) ok.few_nodes in
    cond-false (same_numbers (count_line (length A.nodes)) line) None (Some Form) (differs (count_line (length A.nodes)) line (omega arith) long)
long_line A ok (head ∷ size ∷ body) line long = grind (arith, by_test, cond-false, differs, fault_after_end, fault_in_body, no_entry)
