use Rattle.roman_joint.proofs.Common.{not-not, ◌≡◌, ℕ, ◌+◌, ◌-◌, ◌*◌, ◌^◌, ◌<◌, ◌≤◌, ◌∙◌, not, ◌&&◌, sym, ap, drop, length, slice_index, arith, get_or-drop, is_on, system_of, band_in}
use Rattle.roman_joint.proofs.WordLemmas.{any_one}
use Rattle.roman_joint.proofs.GoodLemmas.{known}
use Rattle.roman_joint.proofs.BandLemmas.{band_there, alive_at}
use Rattle.roman_joint.proofs.band.only_row.Goals as goal
use Rattle.roman_joint.proofs.band.only_row.Goals.{After-from}

-- the rows to which the attempt leads
reached : (c : After-from) → (c.args.attempt.now.to.base + c.from.result * c.layout-rows.result.now.env_rows < 2 ^ 32)
    × (c.args.attempt.now.to.base + c.from.result * c.layout-rows.result.now.env_rows + band_in (system_of c.args.joint.now) ≤ length c.args.attempt.now.words.now)
reached c =
    let (y, is) = c.requires.attempt in
    let s = system_of c.args.joint.now in
    let one : 0 < length c.args.attempt.now.to.envs.now = omega (arith, c.if-to-ne1.false) in
    let all = band_there s _ y _ _ c.args.attempt.now.to (known c.args.joint.now (y * band_in s) c.args.attempt.now.row.now c.layout-rows.ensures.known is.row) c.layout-rows.ensures.rows is.to _ is.room in
    rw c.from.ensures (all.fits 0 0 one, all.within 0 0 one)

pub overflow_mul-result : goal.overflow_mul-result
overflow_mul-result c = omega (arith, reached (goal.at.overflow_mul-result c).After-from)

pub overflow_add-result : goal.overflow_add-result
overflow_add-result c = omega (arith, reached (goal.at.overflow_add-result c).After-from)

pub returns-clause-within : goal.returns-clause-within
returns-clause-within c = (reached (goal.at.returns-clause-within c).After-from).1

pub returns-clause-alive : goal.returns-clause-alive
returns-clause-alive c gone rows =
    let n = c.args.joint.now in
    let s = system_of n in
    let r = c.layout-rows.result.now in
    let attempt = c.args.attempt.now.to in
    let words = c.args.attempt.now.words.now in
    let (y, is) = c.requires.attempt in
    let row = c.args.attempt.now.row.now in
    let from = attempt.base + c.from.result * r.env_rows in
    alive_at s r y c.args.attempt.now.action row attempt (known n (y * band_in s) row c.layout-rows.ensures.known is.row) c.layout-rows.ensures.rows is.to (drop from words) words gone is.room rows (λ i lane l m.
    let word = λ (e : ℕ). is_on (slice_index words (attempt.base + i + e * r.env_rows)) lane in
    let place : from + i ≡ attempt.base + i + c.from.result * r.env_rows = omega arith in
    ap (λ z. is_on z lane) (get_or-drop from words i 0 ∙ ap (slice_index words) place)
    ∙ (sym (not-not _) ∙ ap not (ap (λ e. not (word e)) c.from.ensures ∙ sym (any_one (λ e. not (word e)) attempt.envs.now 0 (omega (arith, c.if-to-ne1.false))))))
