use Rattle.roman_cost.proofs.Common.{◌+◌, ◌*◌, ◌++◌, ℕ, List, map, ap, ◌∙◌, sym, slice_index, flat_map, take_all, outcome_terms, Term, map-flat_map}
use Rattle.roman_cost.specs.declared.terms.Term.TheVariants as term
use Rattle.roman_cost.proofs.terms.push_outcomes.Goals as goal

pub returns : goal.returns
returns c =
    let o = c.args.outcomes in
    let g : ℕ → List ℕ = λ e. map (λ b. o.base + e * o.env_stride + b * o.stride) o.states.now in
    c.loop-env.invariant ∙ ap (λ (es : List ℕ). c.args.terms.now.items ++ flat_map (λ e. outcome_terms c.args.ranks.now (g e)) es) (take_all c.loop-env.env-index o.envs.now c.loop-env-test.false)
    ∙ ap (λ (ts : List Term). c.args.terms.now.items ++ ts) (sym (map-flat_map (λ q. term.Outcome (slice_index c.args.ranks.now q)) g o.envs.now))
