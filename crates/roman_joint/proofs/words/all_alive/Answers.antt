use Rattle.roman_joint.proofs.Common.{ℕ, ◌+◌, ◌*◌, not, ◌&&◌, slice_index, ap, ◌∙◌, arith, list_any, is_on}
use Rattle.roman_joint.proofs.WordLemmas.{none_after}
use Rattle.roman_joint.proofs.words.all_alive.Goals as goal

pub loop-env-preserved : goal.loop-env-preserved
loop-env-preserved c lane =
    let test = λ (e : ℕ). list_any (λ b. not (is_on (slice_index c.args.words.now (c.args.rows.now.base + e * c.args.rows.now.env_stride + b * c.args.rows.now.stride)) lane)) c.args.rows.now.states.now in
    none_after test c.args.rows.now.envs.now c.loop-env.env-index 0 (is_on c.args.good lane) (is_on c.loop-env.alive lane) (is_on c.rows_alive-alive.result lane)
    (omega arith) (c.loop-env.invariant lane) (c.rows_alive-alive.ensures lane ∙ ap (λ e. is_on c.loop-env.alive lane && not (test e)) c.from.ensures)
