-- The verdict at the end of a text, and at a line at fault.
use Rattle.roman_check.proofs.Common.{◌≡◌, ◌≢◌, ℕ, ◌+◌, ◌<◌, ◌≤◌, Bool, not, List, [], ◌∷◌, ◌++◌, length, drop, Some, None, codes, decimal, refl, sym, ap, ap₂, ◌∙◌, arith, cons_option, filter, cond-true, below, lines, Arena, Entry, is_listed, head_line, count_line, entry_of, entries_on, line_fault, unless_is, IsClean, unlisted, cert_verdict, MAX_CERTIFICATE_BYTES, by_test, entry_of_other, fault_in_body, fault_after_end, due_is, verdict_ended, verdict_accepted, IsNumbered, Audit, Nothing, Reader, HasListed, HasRead, HasLines, length-filter}
use Rattle.roman_model.specs.Certificate as text
use Rattle.roman_check.proofs.AuditLemmas.{few_numbered, lines_due}

-- Whether the text may end

may_not_end : (A : Arena ℕ) (ls : List (List ℕ)) (audit : Audit) → HasRead A ls audit → audit.due ≢ Nothing → line_fault A ls None ≡ Some text.Form
may_not_end A [] audit read other = refl
may_not_end A (head ∷ []) audit read other = refl
may_not_end A (head ∷ size ∷ body) audit read other = grind (arith, by_test, cond-true, fault_in_body)

may_end : (A : Arena ℕ) (ls : List (List ℕ)) (audit : Audit) → HasRead A ls audit → audit.due ≡ Nothing → line_fault A ls None ≡ None
may_end A ls audit read ended = grind (arith, lines_due, fault_after_end)

pub ended_early : (A : Arena ℕ) (start : ℕ) (bytes : List ℕ) (reader : Reader) → HasLines A (lines bytes) reader → length bytes ≤ MAX_CERTIFICATE_BYTES → reader.audit.due ≢ Nothing →
    cert_verdict A start bytes ≡ text.Rejected (reader.lines + 1) text.Form
ended_early A start bytes reader has short other =
    verdict_ended A start bytes (lines bytes) text.Form short refl has.clean (may_not_end A (lines bytes) reader.audit has.read other)
    ∙ ap (λ n. text.Rejected (n + 1) text.Form) (sym has.counted)

-- The first two lines

-- the first two lines are no entries
unread : (A : Arena ℕ) → IsNumbered A → (due line : List ℕ) (b : ℕ) (bs : List ℕ) → unless_is due (Some line) ≡ None → due ≡ b ∷ bs → 57 < b → entry_of (length A.nodes) A.actions line ≡ None
unread A ok due line b bs e is other = rw (due_is due line e, is) (entry_of_other (length A.nodes) A.actions b bs (few_numbered A ok) other)

opening_unread : (A : Arena ℕ) → IsNumbered A → (ls : List (List ℕ)) → IsClean A ls (length ls) → entries_on A ls ≡ entries_on A (drop 2 ls)
opening_unread A ok [] clean = refl
opening_unread A ok (head ∷ []) clean = ap (λ o. cons_option o []) (unread A ok head_line head 114 (codes "oman-order 1") (clean 0 (omega arith)) refl (omega arith))
opening_unread A ok (head ∷ size ∷ body) clean = ap₂ (λ o p. cons_option o (cons_option p (entries_on A body)))
    (unread A ok head_line head 114 (codes "oman-order 1") (clean 0 (omega arith)) refl (omega arith))
    (unread A ok (count_line (length A.nodes)) size 112 (codes "airs " ++ decimal (length A.nodes)) (clean 1 (omega arith)) refl (omega arith))

pub ended_greatest : (A : Arena ℕ) → IsNumbered A → (start : ℕ) (bytes : List ℕ) (reader : Reader) (alive : Bool) → HasLines A (lines bytes) reader → length bytes ≤ MAX_CERTIFICATE_BYTES → reader.audit.due ≡ Nothing →
    ((L : List (Entry ℕ)) → HasListed A L reader.audit.left reader.audit.probe → alive ≡ not (is_listed A L start)) → cert_verdict A start bytes ≡ text.Greatest reader.audit.left.count alive
ended_greatest A ok start bytes reader alive has short ended starts =
    let L = entries_on A (drop 2 (lines bytes)) in
    verdict_accepted A start bytes (lines bytes) short refl has.clean (may_end A (lines bytes) reader.audit has.read ended)
    ∙ ap (unlisted A start) (opening_unread A ok (lines bytes) has.clean)
    ∙ ap₂ text.Greatest (ap (λ nodes. length (filter (λ p. not (is_listed A L p)) nodes)) ok.nodes ∙ length-filter (λ p. not (is_listed A L p)) (below (length A.nodes)) ∙ sym has.read.list.remain.counted) (sym (starts L has.read.list))
