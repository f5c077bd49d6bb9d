use Rattle.roman_joint.proofs.Common.{true, false, ◌≡◌, ◌+◌, ◌*◌, ◌∙◌, length, sym, subst, arith, set, all_below, is_beaten, is_justified, Act, numbered, system_of, Keeps, lanes_in, band_in}
use Rattle.roman_joint.proofs.SplitLemmas.{joint_sizes}
use Rattle.roman_joint.proofs.AllowedLemmas.{target_move_open, judged}
use Rattle.roman_joint.proofs.BandLemmas.{row_in, in_band, keeps_nothing, keeps_one, keeps_same}
use Rattle.roman_joint.proofs.numbered.JointRules.unserved_band.Goals as goal

-- a band of one row
pub returns-then-left-eq1-clause-lost : goal.returns-then-left-eq1-clause-lost
returns-then-left-eq1-clause-lost c y gone ok rows =
    let s = system_of c.args.self.now in
    let one : length c.args.left.now ≡ 1 = c.if-left-eq1.true in
    let many : 1 ≡ band_in s = sym one ∙ c.requires.long in
    subst (λ m. Keeps (lanes_in s) (y * band_in s) m (λ p. is_justified (numbered s) gone p (Act c.args.a)) c.args.left.now (set c.args.left.now 0 c.unserved.result)) many
    (keeps_one s (y * band_in s) c.unserved.result (λ p. is_justified (numbered s) gone p (Act c.args.a)) c.args.left.now one (λ lane m. c.unserved.ensures.lost (y * band_in s) gone ok rows lane m) (λ lane off. c.unserved.ensures.within lane off))

pub returns-in_default-clause-lost : goal.returns-in_default-clause-lost
returns-in_default-clause-lost c y gone ok rows =
    let s = system_of c.args.self.now in
    keeps_nothing s (y * band_in s) (band_in s) (λ p. is_justified (numbered s) gone p (Act c.args.a)) c.args.left.now c.clear.new.words (omega (arith, c.requires.long)) c.clear.ensures.long c.clear.ensures.off
    (λ i lane l m. judged s (row_in s (y * band_in s + i) c.args.row.now) (y * band_in s + i) c.args.a lane false gone (in_band s y i c.args.row.now (joint_sizes c.args.self.now c.known.ensures) ok l).looked m c.in_default.ensures)

pub returns-clause-lost : goal.returns-clause-lost
returns-clause-lost c y gone ok rows =
    let s = system_of c.args.self.now in
    keeps_same s (y * band_in s) (band_in s) (λ p. all_below (is_beaten (numbered s) gone p c.args.a) (length s.seats)) (λ p. is_justified (numbered s) gone p (Act c.args.a)) c.args.left.now c.clear_served.new.left
    (λ i lane l m. judged s (row_in s (y * band_in s + i) c.args.row.now) (y * band_in s + i) c.args.a lane true gone (in_band s y i c.args.row.now (joint_sizes c.args.self.now c.known.ensures) ok l).looked m
    (target_move_open s c.args.row.now c.args.a c.in-Some.to c.in-Some.ensures)) (c.clear_served.ensures.left y gone ok rows)
