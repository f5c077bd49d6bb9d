use Rattle.roman_repair.proofs.Common.{◌<◌, ◌||◌, not, ap, ◌∙◌, subst, arith, slice_index, Sizes, count, pair_at, is_final}
use Rattle.roman_repair.proofs.DeathGroups.{loose_goes, final_goes, size_is}
use Rattle.roman_repair.proofs.dying.renaming.may_go.Goals as goal

pub part_of-requires-clause-pair : goal.part_of-requires-clause-pair
part_of-requires-clause-pair c = omega (arith, c.requires.pair, ap count c.shape.ensures)

pub is_final-requires : goal.is_final-requires
is_final-requires c =
    subst (λ n. c.part_of.result < n) (ap (λ (m : Sizes). slice_index m.seats c.args.k) c.shape.ensures ∙ size_is c.args.joint.now c.args.k c.behaviour.result.now c.known.ensures c.behaviour.ensures) c.part_of.ensures.below

pub returns-then-not-rests : goal.returns-then-not-rests
returns-then-not-rests c seat seated = loose_goes c.args.joint.now c.args.k _ c.seat.result.now seat c.seat.ensures seated c.if-not-rests.true

pub returns-else-not-rests : goal.returns-else-not-rests
returns-else-not-rests c seat seated =
    final_goes _ _ _ _ _ _ _ c.known.ensures c.seat.ensures c.behaviour.ensures c.if-not-rests.false c.is_final.ensures seated
    ∙ ap (λ b. not seat.rests || is_final seat.beh b) (c.part_of.ensures.value ∙ ap (λ (m : Sizes). slice_index (pair_at m c.args.p).bs c.args.k) c.shape.ensures)
