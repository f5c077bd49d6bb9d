use Rattle.roman_joint.proofs.Common.{length-below, count, sizes_of, pair_at, ◌≡◌, ◌*◌, ◌%◌, ap, ◌∙◌, system_of, lanes_in}
use Rattle.roman_joint.proofs.SplitLemmas.{row_made}
use Rattle.roman_joint.proofs.numbered.JointRules.row.Goals as goal

pub returns : goal.returns
returns c =
    let n = c.args.self.now in
    let s = system_of n in
    let x = c.args.x in
    let r = c.layout-rows.result.now in
    let here : x * r.lanes ≡ x * lanes_in s = ap (λ m. x * m) c.layout-rows.ensures.rows.lanes in
    let target = c.target_view_at-target_view.ensures.is_target ∙ ap (λ q. (pair_at (sizes_of s) q).t) here in
    let env = c.target_view_at-target_view.ensures.is_env ∙ ap (λ q. (pair_at (sizes_of s) q).e) here in
    row_made s x _ c.layout-rows.ensures.rows.ok (rw (length-below (count (sizes_of s))) at c.requires) r.rows c.layout-rows.ensures.rows.rows
    (ap (λ m. x % m) c.layout-rows.ensures.rows.env) target env c.row_states.ensures
    (rw (target, env, ← here) c.target_view_at-target_view.ensures.allowed) (rw (target, env, ← here) c.target_view_at-target_view.ensures.leading)
