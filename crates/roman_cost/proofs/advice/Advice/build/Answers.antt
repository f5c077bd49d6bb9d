use Rattle.roman_cost.proofs.Common.{◌≡◌, ◌++◌, ◌+◌, ◌-◌, ◌*◌, ◌≤◌, ℕ, suc, List, length, map, take, drop, slice_range, flat_map, ap, ap₂, sym, ◌∙◌, subst, arith, add-one, IsIn, least_at, length_rows, flat_map_row, system_of, values_below, HavePlaces, seat_costs, pair_terms, nothing_yet, worked_out, AreLeastCosts, in_take}
use Rattle.roman_cost.proofs.CostLemmas.{seat_costs_small}
use Rattle.roman_cost.proofs.Values.{resized_values, values_fit, values_told}
use Rattle.roman_cost.proofs.TermLemmas.{worked_pairs, rest_in, values_whole}
use Rattle.roman_cost.proofs.advice.Advice.build.Goals as goal

pub loop-done-init : goal.loop-done-init
loop-done-init c = grind (arith, resized_values)

pub invariant_of-result : goal.invariant_of-result
invariant_of-result c =
    let s = system_of c.args.relation.now.joint in
    let C = seat_costs c.args.relation.now.joint c.args.costs.now.listed in
    let end : c.loop-done.done ≡ c.args.h = omega arith in
    let values : c.loop-done.values.items ≡ values_below s C c.in_ok-pairs.pairs.items (suc c.args.h) =
    c.loop-done.invariant ∙ ap (λ n. values_below s C c.in_ok-pairs.pairs.items (suc n)) end in
    record {
      few = c.requires.requests.1;
      ranks = subst (λ ps. HavePlaces ps c.in_ok-pairs.ranks.items) (sym c.in_ok-pairs.ensures.pairs) c.in_ok-pairs.ensures.ranks;
      len = ap length values ∙ length_rows (least_at s C) c.in_ok-pairs.pairs.items (suc c.args.h);
    }

pub values_at-later-requires : goal.values_at-later-requires
values_at-later-requires c =
    let n = c.args.relation.now.joint in
    let long : c.len-in-loop-done.result ≡ length c.in_ok-pairs.pairs.items = omega (arith, c.len-in-loop-done.ensures, c.in_ok-pairs.pairs.ok.0) in
    subst (λ k. c.loop-done.done * k + k ≤ length c.deref-in-loop-done.result.now) (sym long) (values_fit (system_of n) (seat_costs n c.args.costs.now.listed) c.in_ok-pairs.pairs.items c.deref-in-loop-done.result.now (suc c.loop-done.done) c.loop-done.done (omega arith) (c.deref-in-loop-done.ensures.value ∙ c.loop-done.invariant))

pub work_out_others-requires-clause-others : goal.work_out_others-requires-clause-others
work_out_others-requires-clause-others c = λ p i.
    subst (IsIn p) (c.deref-in-loop-done-2.ensures.value ∙ c.in_ok-pairs.ensures.pairs) (rest_in c.deref-in-loop-done-2.result.now c.in_ok-terms.told p i)

pub loop-done-preserved : goal.loop-done-preserved
loop-done-preserved c =
    let n = c.args.relation.now.joint in
    let s = system_of n in
    let C = seat_costs n c.args.costs.now.listed in
    let h = c.loop-done.done in
    let told = c.in_ok-terms.told in
    let pairs = c.in_ok-pairs.pairs.items in
    let ranks = c.in_ok-pairs.ranks.items in
    let later = c.values_at-later.result.now in
    let long : c.len-in-loop-done.result ≡ length pairs = omega (arith, c.len-in-loop-done.ensures, c.in_ok-pairs.pairs.ok.0) in
    let known : AreLeastCosts s C h ranks later = record {
      system = c.known-2.ensures.system;
      cheap = seat_costs_small n c.args.costs.now.listed c.known.ensures;
      few = omega arith;
      places = c.in_ok-pairs.ensures.ranks;
      values = values_told s C pairs c.deref-in-loop-done.result.now later (suc h) h (omega arith) (c.deref-in-loop-done.ensures.value ∙ c.loop-done.invariant)
          (c.values_at-later.ensures ∙ ap (λ k. slice_range c.deref-in-loop-done.result.now (h * k) (h * k + k)) long) ∙ ap (map (least_at s C h)) c.in_ok-pairs.ensures.pairs;
    } in
    let terms = c.deref-in-loop-done-3.ensures.value ∙ c.in_ok-terms.ensures.terms
    ∙ ap₂ (λ (rs ps : List ℕ). flat_map (pair_terms s C rs) (take told ps)) c.deref-2.ensures.value c.deref.ensures.value in
    let first = worked_pairs s C h ranks later known (take told pairs) (λ p i. subst (IsIn p) c.in_ok-pairs.ensures.pairs (in_take told p pairs i)) in
    let others = c.in_ok-work_out_others.ensures h (subst (λ (rs : List ℕ). AreLeastCosts s C h rs later) (sym c.deref-in-loop-done-4.ensures.value) known)
    ∙ ap (λ (ps : List ℕ). c.work_out.new.values.items ++ map (least_at s C (suc h)) (take (length ps - told) (drop told ps))) c.deref-in-loop-done-2.ensures.value in
    let next = values_whole (least_at s C (suc h)) pairs c.clear.new.self.items c.work_out.new.values.items c.work_out_others.new.values.items told c.clear.ensures.items
    (c.in_ok-work_out.ensures ∙ ap (λ (vs : List ℕ). c.clear.new.self.items ++ vs) (ap (λ ts. worked_out later ts nothing_yet) terms ∙ first)) others in
    c.in_ok-extend_from_slice.ensures.items ∙ ap₂ (λ (xs ys : List ℕ). xs ++ ys) c.loop-done.invariant (c.deref-in-loop-done-5.ensures.value ∙ next)
    ∙ sym (flat_map_row (λ k. map (least_at s C k) pairs) (suc h)) ∙ ap (λ k. values_below s C pairs (suc k)) (sym (add-one h))
