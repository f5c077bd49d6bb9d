use Rattle.roman_joint.proofs.Common.{◌+◌, ◌*◌, ◌%◌, ◌∙◌, refl, arith, stride_of}
use Rattle.roman_joint.proofs.OutcomeLemmas.{StartsAt, starts_at}
use Rattle.roman_joint.proofs.joint.looks.first_outcome.Goals as goal
use Rattle.roman_joint.proofs.joint.looks.first_outcome.Goals.{After-stride}

pub overflow_add-row : goal.overflow_add-row
overflow_add-row c =
    let start = starts_at c.args.shape.now c.args.p c.args.k c.args.to c.from.result c.target_stride.result c.args.b c.env_stride.result (stride_of c.args.shape.now c.args.k)
    c.requires.pair c.requires.component c.requires.target c.from.ensures c.target_stride.ensures c.requires.state c.env_stride.ensures refl in
    omega (arith, start.fits, c.known.ensures.counted)

-- the first number
start : (c : After-stride) → StartsAt c.args.shape.now c.args.p c.args.k c.args.to (c.from.result * c.target_stride.result + c.args.p % c.env_stride.result) c.from-2.result c.env_stride.result c.stride.result
start c = starts_at c.args.shape.now c.args.p c.args.k c.args.to c.from.result c.target_stride.result c.from-2.result c.env_stride.result c.stride.result
    c.requires.pair c.requires.component c.requires.target c.from.ensures c.target_stride.ensures (c.from-2.ensures ∙ c.requires.state) c.env_stride.ensures c.stride.ensures

pub overflow_mul-result : goal.overflow_mul-result
overflow_mul-result c = let at = start (goal.at.overflow_mul-result c).After-stride in omega (arith, at.taken, at.fits, c.known.ensures.counted)

pub overflow_sub-result : goal.overflow_sub-result
overflow_sub-result c = (start (goal.at.overflow_sub-result c).After-stride).taken

pub returns : goal.returns
returns c = λ e b. let there = (start (goal.at.returns c).After-stride).number e b in cc
