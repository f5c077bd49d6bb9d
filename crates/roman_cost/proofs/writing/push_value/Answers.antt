use Rattle.roman_cost.proofs.Common.{ℕ, List, ◌++◌, [], Option, codes, decimal, ap, append-nil, err_from_is_err_and, IsFilling, fill_behind, fill_failed, fill_last, fill_more}
use Rattle.roman_cost.proofs.writing.push_value.Goals as goal

-- the line in its three parts, after the content of the page
line_begins : (old : Option (List ℕ)) (held head pair value : List ℕ) → IsFilling old old held (head ++ (pair ++ (value ++ []))) (held ++ (head ++ (pair ++ value)))
line_begins old held head pair value = fill_behind old held _ _ (ap (λ (xs : List ℕ). head ++ (pair ++ xs)) (append-nil value))

pub returns-in_err-push-clause-gathers : goal.returns-in_err-push-clause-gathers
returns-in_err-push-clause-gathers g c =
    let begun = line_begins _ _ c.args.head.now (decimal c.args.p ++ codes " ") (decimal c.args.value ++ codes "\n") in
    let p = err_from_is_err_and c.from_residual.result c.from_residual.ensures.1 in
    rw p.1 (fill_failed _ _ _ _ _ _ _ begun c.in_err-push.ensures.gathers.0, c.in_err-push.ensures.gathers.1)

pub returns-in_err-push_number_then-clause-gathers : goal.returns-in_err-push_number_then-clause-gathers
returns-in_err-push_number_then-clause-gathers g c =
    let begun = line_begins _ _ c.args.head.now (decimal c.args.p ++ codes " ") (decimal c.args.value ++ codes "\n") in
    let first = fill_more _ _ _ _ _ _ _ _ begun c.in_ok-push.ensures.gathers in
    let p = err_from_is_err_and c.from_residual-in_err-push_number_then.result c.from_residual-in_err-push_number_then.ensures.1 in
    rw p.1 (fill_failed _ _ _ _ (decimal c.args.p ++ codes " ") _ _ first c.in_err-push_number_then.ensures.gathers.0, c.in_err-push_number_then.ensures.gathers.1)

pub returns-clause-gathers : goal.returns-clause-gathers
returns-clause-gathers g c =
    let begun = line_begins _ _ c.args.head.now (decimal c.args.p ++ codes " ") (decimal c.args.value ++ codes "\n") in
    let first = fill_more _ _ _ _ _ _ _ _ begun c.in_ok-push.ensures.gathers in
    let second = fill_more _ _ _ _ _ (decimal c.args.p ++ codes " ") (decimal c.args.value ++ codes "\n" ++ []) _ first c.in_ok-push_number_then.ensures.gathers in
    fill_last _ _ _ _ _ (decimal c.args.value ++ codes "\n") _ _ second c.push_number_then-2.ensures.gathers
