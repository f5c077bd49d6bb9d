use Rattle.roman_hearing.proofs.Common.{◌≡◌, ◌∷◌, ◌++◌, [], List, ℕ, refl, sym, subst, ◌∙◌, append_assoc, append-nil, arith, reader_state, IsHearing, err_from_is_err_and}
use Rattle.roman_hearing.proofs.HearingLemmas.{hears_part, stops_within, fails_within}
use Rattle.roman_hearing.proofs.hearing.hear_bytes.Goals as goal

-- the bytes after those that were read are a part, a newline and more bytes
newline_after : (bytes done rest part back : List ℕ) → bytes ≡ done ++ rest → rest ≡ part ++ 10 ∷ back → bytes ≡ done ++ ((part ++ 10 ∷ []) ++ back)
newline_after bytes done rest part back split first = grind (arith, (append_assoc part (10 ∷ []) back))

pub lines-init : goal.lines-init
lines-init g c = record { done = []; split = refl; hears = grind (arith, append-nil); faults = refl }

pub returns-in_err-hear_ended-clause-hears : goal.returns-in_err-hear_ended-clause-hears
returns-in_err-hear_ended-clause-hears g c old taken is =
    let known = c.lines.invariant in
    let p = err_from_is_err_and c.from_residual.result c.from_residual.ensures.1 in
    rw p.1 (fails_within old taken known.done _ _ _ _ (newline_after _ _ _ _ _ known.split c.in-Some.ensures.1) (c.in_err-hear_ended.ensures.hears old (taken ++ known.done) (known.hears old taken is)))

pub returns-in-Quit-clause-hears : goal.returns-in-Quit-clause-hears
returns-in-Quit-clause-hears g c old taken is =
    let known = c.lines.invariant in
    stops_within old taken known.done _ _ _ _ (newline_after _ _ _ _ _ known.split c.in-Some.ensures.1) c.hear_ended.new.page
    (rw c.in-Quit.is at (c.in_ok-hear_ended.ensures.hears old (taken ++ known.done) (known.hears old taken is)))

pub lines-preserved : goal.lines-preserved
lines-preserved g c =
    let known = c.lines.invariant in
    let part = c.in-Some.part.now ++ 10 ∷ [] in
    record {
      done = known.done ++ part;
      split = newline_after _ _ _ _ _ known.split c.in-Some.ensures.1 ∙ sym (append_assoc known.done part c.in-Some.after.now);
      hears = λ old taken is.
          subst (λ (bytes : List ℕ). IsHearing old bytes (reader_state c.hear_ended.new.session (g.O.Sink.written c.hear_ended.new.out) c.hear_ended.new.page c.hear_ended.new.splitter)) (append_assoc taken known.done part)
          (rw c.in_default-2.is at (c.in_ok-hear_ended.ensures.hears old (taken ++ known.done) (known.hears old taken is)));
      faults = c.in_ok-hear_ended.ensures.cause.stays ∙ known.faults;
    }

pub returns-clause-hears : goal.returns-clause-hears
returns-clause-hears g c old taken is =
    let known = c.lines.invariant in
    let last = hears_part old (taken ++ known.done) _ c.lines.rest.now (known.hears old taken is) c.in_default.ensures c.hold.new.self c.hold.ensures in
    grind (arith, (append_assoc taken known.done c.lines.rest.now))
