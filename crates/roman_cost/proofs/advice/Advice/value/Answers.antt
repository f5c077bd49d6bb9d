use Rattle.roman_cost.proofs.Common.{◌≡◌, length, map, slice_index, sym, ap, ◌∙◌, subst, arith, get_or_read, IsIn, least_at, AdviceTable}
use Rattle.roman_cost.proofs.Ranks.{ranked_value}
use Rattle.roman_cost.proofs.advice.Advice.value.Goals as goal

pub index-rank-requires : goal.index-rank-requires
index-rank-requires c =
    let there : IsIn c.args.p c.self.inside.pairs.items = subst (λ (t : AdviceTable). IsIn c.args.p t.pairs) (sym c.self.view_is) c.requires.related in
    omega (arith, c.self.invariant.ranks.within c.args.p there, c.self.inside.ranks.ok.0)

pub bounds-least_costs-rank : goal.bounds-least_costs-rank
bounds-least_costs-rank c =
    let there : IsIn c.args.p c.self.inside.pairs.items = subst (λ (t : AdviceTable). IsIn c.args.p t.pairs) (sym c.self.view_is) c.requires.related in
    let rank = get_or_read c.self.inside.ranks.items _ _ (c.self.invariant.ranks.within c.args.p there) c.index-rank.ensures 0 in
    let less = c.self.invariant.ranks.below c.args.p there in
    omega (arith, rank, less, c.least_costs.ensures.len, ap (λ (t : AdviceTable). length t.pairs) c.self.view_is)

pub returns : goal.returns
returns c = λ s C says.
    let there : IsIn c.args.p c.self.inside.pairs.items = subst (λ (t : AdviceTable). IsIn c.args.p t.pairs) (sym c.self.view_is) c.requires.related in
    let rank : c.index-rank.result.now ≡ slice_index c.self.inside.ranks.items c.args.p =
    get_or_read c.self.inside.ranks.items _ _ (c.self.invariant.ranks.within c.args.p there) c.index-rank.ensures 0 in
    let values : c.least_costs.result.now ≡ map (least_at s C c.args.h) c.self.inside.pairs.items = c.least_costs.ensures.values s C says ∙ ap (λ (t : AdviceTable). map (least_at s C c.args.h) t.pairs) (sym c.self.view_is) in
    ap (slice_index c.least_costs.result.now) rank ∙ ranked_value s C c.args.h c.self.inside.pairs.items c.self.inside.ranks.items c.least_costs.result.now c.args.p c.self.invariant.ranks there values
