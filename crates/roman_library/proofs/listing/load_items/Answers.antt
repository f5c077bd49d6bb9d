-- A part that is loaded is appended to those before it, and an error of a part is the result of all parts.
use Rattle.roman_library.proofs.Common.{arith, refl, rules, subst, sym, ◌∙◌, err_from_is_err_and, goes_on, is_done, with_listed}
use Rattle.roman_library.proofs.LocatedLemmas.{stops_all, stops_left}
use Rattle.roman_library.proofs.listing.load_items.Goals as goal

pub returns-in_err-part-clause-parts : goal.returns-in_err-part-clause-parts
unfolding with_listed
returns-in_err-part-clause-parts g c = λ texts told.
    let p = err_from_is_err_and c.from_residual-in_err-part.result c.from_residual-in_err-part.ensures.1 in
    let why = c.in_err-part.field-0.0 in
    let stops = rw c.deref.ensures.value at (c.in_err-part.ensures.part texts (c.loop-i.invariant.texts ∙ told)) in
    rw (p.1, p.2) (stops_left _ _ _ _ c.index-items-i.result why _ (omega arith) c.index-items-i.is (stops_all why _ _ stops) (c.loop-i.invariant.left texts told))

pub loop-i-preserved : goal.loop-i-preserved
unfolding with_listed
loop-i-preserved g c =
    let known = g.P.Listed.are_known c.args.environment.now in
    let keeps = rw c.deref.ensures.value at c.in_ok-part.ensures.known in
    record {
      left = λ texts told.
          let loaded = rw c.deref.ensures.value at (c.in_ok-part.ensures.part texts (c.loop-i.invariant.texts ∙ told)) in
          goes_on _ _ _ _ _ c.index-items-i.result _ (omega arith) c.index-items-i.is (rw (loaded, c.in_ok-push.ensures.items) refl) (c.loop-i.invariant.left texts told);
      known = subst known (sym c.in_ok-push.ensures.items) (keeps c.loop-i.invariant.known);
      count = search rules;
      texts = search rules;
      faults = search rules;
    }

pub returns-clause-parts : goal.returns-clause-parts
returns-clause-parts g c = λ texts told. is_done _ _ _ _ _ (omega arith) (c.loop-i.invariant.left texts told)
