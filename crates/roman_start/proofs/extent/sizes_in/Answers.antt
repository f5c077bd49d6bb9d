use Rattle.roman_start.proofs.Common.{ap, ◌∙◌, ◌++◌, ◌∷◌, [], List, ℕ, length, product_of, plain}
use Rattle.roman_start.proofs.ExtentLemmas.{cells_are}
use Rattle.roman_start.proofs.extent.sizes_in.Goals as goal

pub returns : goal.returns
returns c =
    let t = c.len.ensures.len ∙ ap length c.states.ensures.names ∙ c.states.ensures.count in
    let e = c.len-2.ensures.len ∙ ap length c.states-2.ensures.names ∙ c.states-2.ensures.count in
    let a = c.len-3.ensures.len ∙ ap length c.actions.ensures.names ∙ c.actions.ensures.count in
    let first = c.in_ok-push.ensures.items in
    let second = c.in_ok-push-2.ensures.items ∙ ap (λ (ns : List ℕ). ns ++ c.len-2.result ∷ []) first in
    let all = c.in_ok-push-3.ensures.items ∙ ap (λ (ns : List ℕ). ns ++ c.len-3.result ∷ []) second in
    ap product_of all ∙ cells_are (plain c.args.library.now) c.in_ok-sizes.sizes.items c.len.result c.len-2.result c.len-3.result c.in_ok-sizes.ensures t e a
