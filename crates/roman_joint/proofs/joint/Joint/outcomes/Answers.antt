use Rattle.roman_joint.proofs.Common.{◌+◌, ◌*◌, slice_index, sym, ap, ◌∙◌, rules, arith, Beh, beh_next, Sizes, number, pair_at, moved, system_of, size_at}
use Rattle.roman_joint.proofs.BehaviourLemmas.{Behaves, behaves}
use Rattle.roman_joint.proofs.OutcomeLemmas.{are_outcomes}
use Rattle.roman_joint.proofs.Rows.{count_fits}
use Rattle.roman_joint.proofs.joint.Joint.outcomes.Goals as goal

pub out-requires : goal.out-requires
out-requires c =
    let n = c.args.self.now in
    let of : Behaves n c.args.k c.behaviour.result.now = behaves n c.args.k c.behaviour.result.now c.known.ensures c.behaviour.ensures in
    let sizes = c.shape-shape.ensures in
    record {
      state = omega (arith, size_at (system_of n).seats c.args.k of.seat of.seated, ap (λ (m : Sizes). slice_index m.seats c.args.k) sizes, ap (λ (y : Beh). y.states) of.is);
      env_state = omega (arith, ap (λ (m : Sizes). m.env) sizes, of.env_states);
      action = omega (arith, of.actions);
    }

pub returns : goal.returns
returns c =
    let n = c.args.self.now in
    let p = c.args.p in
    let k = c.args.k in
    let a = c.args.a in
    let e = c.env_of-e.result in
    let b = c.part_of-b.result in
    let to = c.target_after-to.result in
    let of : Behaves n k c.behaviour.result.now = behaves n k c.behaviour.result.now c.known.ensures c.behaviour.ensures in
    let sizes = c.shape-shape.ensures in
    let are = are_outcomes (system_of n) p a k to e b of.seat (λ e b. c.first_outcome.result + e * c.env_stride.result + b * c.stride.result) c.next.result.now c.out.result.now
    c.known.ensures.system c.requires.pair of.seated c.requires.ready
    (c.env_of-e.ensures.value ∙ ap (λ (m : Sizes). (pair_at m p).e) sizes) (c.part_of-b.ensures.value ∙ ap (λ (m : Sizes). slice_index (pair_at m p).bs k) sizes) c.target_after-to.ensures.next
    (λ e b. rw (c.env_stride.ensures, c.stride.ensures) (c.first_outcome.ensures e b) ∙ ap (λ (m : Sizes). number m (moved (pair_at m p) to e k b)) sizes)
    (rw c.environment.ensures at c.next.ensures.next) (c.out.ensures.next ∙ ap (λ (y : Beh). beh_next y b e a) (sym of.is)) in
    record { numbers = are.numbers; places = are.places; some = search rules; few = count_fits n c.known.ensures }
