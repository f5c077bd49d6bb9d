use Rattle.roman_joint.proofs.Common.{◌≡◌, ◌*◌, ◌/◌, ◌%◌, ◌<◌, ◌≤◌, ◌++◌, ◌∷◌, [], length, ap, sym, ◌∙◌, subst, arith, mul-le-mul, div_below, length-append, IsTargetView}
use Rattle.roman_joint.proofs.TargetViewLemmas.{target_views_more}
use Rattle.roman_joint.proofs.target_view.all_target_views.Goals as goal
use Rattle.roman_joint.proofs.target_view.all_target_views.Goals.{After-len}

-- the numbers of states
counts : (c : After-len) → (c.len-envs.result ≡ c.args.environment.now.env.states) × (c.len.result ≡ c.args.target.now.beh.states) × (c.len.result ≤ 64)
counts c =
    let few = (c.states-2.ensures.known c.args.environment.now.env (sym c.requires.0) (sym c.requires.1)).states.1 in
    let targets : c.len.result ≡ c.args.target.now.beh.states = c.len.ensures.len ∙ (ap length c.states-2.ensures.names ∙ c.states-2.ensures.count) in
    (c.len-envs.ensures.len ∙ (ap length c.states.ensures.names ∙ c.states.ensures.count), targets, omega (arith, targets, few))

pub overflow_mul-count : goal.overflow_mul-count
overflow_mul-count c =
    let (envs, targets, few) = counts (goal.at.overflow_mul-count c).After-len in
    let few_envs : c.len-envs.result ≤ 64 = omega (arith, envs, c.states.ensures.known.states.1) in
    let product : c.len.result * c.len-envs.result ≤ 64 * 64 = mul-le-mul few few_envs in
    omega (arith, product)

pub overflow_cast-i : goal.overflow_cast-i
overflow_cast-i c =
    let (envs, targets, few) = counts (goal.at.overflow_cast-i c).After-len in
    let below : c.loop-i.i / c.len-envs.result < c.len.result =
    div_below c.loop-i.i c.len-envs.result c.len.result (omega (arith, envs, c.states.ensures.known.states.0)) c.loop-i-test.true in
    omega (arith, below, few)

pub loop-i-preserved : goal.loop-i-preserved
loop-i-preserved c =
    let env = c.args.environment.now.env in
    let target = c.args.target.now.beh in
    let here : IsTargetView env target (c.loop-i.i / env.states) (c.loop-i.i % env.states) c.target_view_of-target_view.result =
    subst (λ m. IsTargetView env target (c.loop-i.i / m) (c.loop-i.i % m) c.target_view_of-target_view.result) (counts (goal.at.loop-i-preserved c).After-len).0
    (record { is_target = c.target_view_of-target_view.ensures.is_target; is_env = c.target_view_of-target_view.ensures.is_env; allowed = c.target_view_of-target_view.ensures.allowed; leading = c.target_view_of-target_view.ensures.leading }) in
    let is : c.push.new.self.items ≡ c.loop-i.target_views.items ++ c.target_view_of-target_view.result ∷ [] = c.in_ok-push.ensures.items in
    record {
      long = ap length is ∙ (length-append c.loop-i.target_views.items (c.target_view_of-target_view.result ∷ []) ∙ omega (arith, c.loop-i.invariant.long));
      each = target_views_more env target c.loop-i.target_views.items c.push.new.self.items c.loop-i.i c.target_view_of-target_view.result c.loop-i.invariant.long is c.loop-i.invariant.each here;
    }
