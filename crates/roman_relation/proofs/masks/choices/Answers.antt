use Rattle.roman_relation.proofs.Common.{◌≡◌, ℕ, ◌+◌, ◌*◌, length, sum_by, sym, ap, ◌∙◌, arith, below, is_listed, mask, sum_by_same, sum_turned}
use Rattle.roman_relation.proofs.Bands.{band_inside}
use Rattle.roman_relation.proofs.Lanes.{sum_rows}
use Rattle.roman_relation.proofs.masks.choices.Goals as goal

pub band_choices-count-requires-clause-band : goal.band_choices-count-requires-clause-band
band_choices-count-requires-clause-band g c =
    omega (arith, band_inside _ _ _ _ _ c.args.order.now c.requires c.known.ensures.lanes.0 c.bands-y-end.ensures c.loop-y-test.true, c.known.ensures.band.0)

pub returns : goal.returns
returns g c =
    let A = g.J.Rules.arena c.args.joint.now in
    let n = g.J.Rules.lanes c.args.joint.now in
    let w = g.J.Rules.band c.args.joint.now in
    let bands = c.loop-y.y in
    let one : ℕ → ℕ → ℕ = λ a p. length (mask A (is_listed A c.args.order.now.list) p a) in
    let row : ℕ → ℕ → ℕ = λ a x. sum_by (λ lane. one a (x * n + lane)) (below n) in
    let end : bands ≡ c.bands-y-end.result = omega (arith, c.loop-y-test.false) in
    let all : bands * w * n ≡ length A.nodes = ap (λ m. m * w * n) end ∙ c.bands-y-end.ensures in
    c.loop-y.invariant.counted ∙ sum_turned (λ y a. sum_by (λ i. row a (y * w + i)) (below w)) bands A.actions
    ∙ sum_by_same (λ a. sum_by (λ y. sum_by (λ i. row a (y * w + i)) (below w)) (below bands)) (λ a. sum_by (one a) (below (length A.nodes))) (below A.actions)
    (λ a i. sum_rows (row a) w bands ∙ sum_rows (one a) n (bands * w) ∙ ap (λ m. sum_by (one a) (below m)) all)
    ∙ sum_turned one A.actions (length A.nodes) ∙ ap (sum_by (λ p. sum_by (λ a. one a p) (below A.actions))) (sym c.known.ensures.numbered.nodes)
