use Rattle.roman_joint.proofs.Common.{◌≡◌, ◌+◌, ◌*◌, ◌^◌, ◌<◌, length, get_or, slice_get, slice_index, slice_set, refl, sym, ap, ap₂, ◌∙◌, arith, pair_at, sizes_of, number, length-map, stride_of, env_stride_of, system_of, seat_of, seat_prev, goal_of, states_before}
use Rattle.roman_joint.proofs.Rows.{walk_below, count_fits}
use Rattle.roman_joint.proofs.WalkLemmas.{takes_state}
use Rattle.roman_joint.proofs.joint.Joint.take_state.Goals as goal
use Rattle.roman_joint.proofs.joint.Joint.take_state.Goals.{After-first_outcome-first, After-stride}

-- the number of the pair that is taken, which has 32 bits
there : (c : After-first_outcome-first) → let s = system_of c.args.self.now in let w = c.args.walk.now in let b = get_or c.prev_states-states.result.now w.states_taken 0 in
    let node = number (sizes_of s) (record { t = w.target; e = w.env; bs = slice_set (goal_of s w).bs w.seat b }) in
    (c.first_outcome-first.result + w.env * env_stride_of (sizes_of s) + b * stride_of (sizes_of s) w.seat ≡ node) × (node < 2 ^ 32)
there c =
    let n = c.args.self.now in
    let s = system_of n in
    let w = c.args.walk.now in
    let b = get_or c.prev_states-states.result.now w.states_taken 0 in
    let within : w.seat < length s.seats = omega (arith, length-map n.seats (seat_of n.catalogue)) in
    (rw c.shape-shape.ensures at (c.first_outcome-first.ensures w.env b), omega (arith, walk_below s w b c.requires within (c.prev_states-states.ensures.below w.states_taken 0 c.if-taken-states.false), count_fits n c.known.ensures))

pub overflow_add-from : goal.overflow_add-from
overflow_add-from c =
    let env : c.from.result * c.env_stride.result ≡ c.args.walk.now.env * env_stride_of (sizes_of (system_of c.args.self.now)) = ap₂ (λ m u. m * u) c.from.ensures (c.env_stride.ensures ∙ ap env_stride_of c.shape-shape.ensures) in
    omega (arith, there (goal.at.overflow_add-from c).After-first_outcome-first, env)

-- the number of the pair that is taken, as the code computes it
node : (c : After-stride) → c.first_outcome-first.result + c.args.walk.now.env * env_stride_of (sizes_of (system_of c.args.self.now)) + get_or c.prev_states-states.result.now c.args.walk.now.states_taken 0 * stride_of (sizes_of (system_of c.args.self.now)) c.args.walk.now.seat
    ≡ c.first_outcome-first.result + c.from.result * c.env_stride.result + c.from-2.result * c.stride.result
node c = rw (c.from.ensures, c.from-2.ensures, c.env_stride.ensures, c.stride.ensures, c.shape-shape.ensures) refl

pub overflow_mul-pair : goal.overflow_mul-pair
overflow_mul-pair c = let at = goal.at.overflow_mul-pair c in omega (arith, there at.After-first_outcome-first, node at.After-stride)

pub overflow_add-pair : goal.overflow_add-pair
overflow_add-pair c = let at = goal.at.overflow_add-pair c in omega (arith, there at.After-first_outcome-first, node at.After-stride)

pub returns : goal.returns
returns c =
    let s = system_of c.args.self.now in
    let w = c.args.walk.now in
    let at = goal.at.returns c in
    let within : w.seat < length s.seats = omega (arith, length-map c.args.self.now.seats (seat_of c.args.self.now.catalogue)) in
    let prev : c.prev_states-states.result.now ≡ states_before s w = c.prev_states-states.ensures.prev ∙ ap (λ b. seat_prev (slice_get s.seats w.seat) b w.env w.action) (c.part_of-to.ensures.value ∙ ap (λ m. slice_index (pair_at m w.pair).bs w.seat) c.shape-shape.ensures) in
    let takes = takes_state s c.known.ensures.system w c.requires _ (omega (arith, ap length prev))
    (sym (node at.After-stride) ∙ ((there at.After-first_outcome-first).0 ∙ ap (λ xs. number (sizes_of s) (record { t = w.target; e = w.env; bs = slice_set (goal_of s w).bs w.seat (get_or xs w.states_taken 0) })) prev)) in
    record { walk = takes.0; action = refl; taken = takes.1 }
