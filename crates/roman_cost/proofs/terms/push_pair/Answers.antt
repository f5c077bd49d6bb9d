use Rattle.roman_cost.proofs.Common.{ℕ, Bool, List, Vec, Global, sym, ap, ◌∙◌, sizes_of, pair_at, is_allowed, system_of, seat_costs, action_terms, Term}
use Rattle.roman_cost.proofs.Ranks.{related_below}
use Rattle.roman_cost.proofs.TermLemmas.{flat_taken, flat_passed}
use Rattle.roman_cost.proofs.terms.push_pair.Goals as goal
use Rattle.roman_cost.proofs.terms.push_pair.Goals.{then-allowed+in_ok-push_action, else-allowed}

pub allowed-requires-clause-pair : goal.allowed-requires-clause-pair
allowed-requires-clause-pair c = related_below (system_of c.args.relation.now.joint) c.args.p c.requires.pair

pub loop-a-preserved : goal.loop-a-preserved
loop-a-preserved c =
    let n = c.args.relation.now.joint in
    let s = system_of n in
    let test : ℕ → Bool = is_allowed s (pair_at (sizes_of s) c.args.p) in
    let f : ℕ → List Term = action_terms s (seat_costs n c.args.costs.now.listed) c.args.ranks.now c.args.p in
    elim c.if-allowed.branch [
      | then-allowed+in_ok-push_action w ↦
          ap (λ (v : Vec Term Global). v.items) w.terms-is ∙ flat_taken f test c.loop-a.a c.args.terms.now.items c.loop-a.terms.items _ (sym c.allowed.ensures ∙ w.if-allowed.true) c.loop-a.invariant w.in_ok-push_action.ensures
      | else-allowed w ↦ ap (λ (v : Vec Term Global). v.items) w.terms-is ∙ flat_passed f test c.loop-a.a c.args.terms.now.items c.loop-a.terms.items (sym c.allowed.ensures ∙ w.if-allowed.false) c.loop-a.invariant
    ]
