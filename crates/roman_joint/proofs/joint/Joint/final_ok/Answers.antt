use Rattle.roman_joint.proofs.Common.{not-not, ◌≡◌, ◌+◌, ◌*◌, ◌/◌, ◌%◌, not, eqb, sym, ap, ◌∙◌, arith, div-add-mod', mod_below, shr_and_one, numbered, is_on, system_of, lanes_in}
use Rattle.roman_joint.proofs.joint.Joint.final_ok.Goals as goal

pub returns : goal.returns
unfolding is_on
returns c =
    let s = system_of c.args.self.now in
    let p = c.args.p in
    let w = c.lanes-lanes.result in
    let place : p / w * lanes_in s + p % w ≡ p = ap (λ m. p / w * m + p % w) (sym c.lanes-lanes.ensures.value) ∙ div-add-mod' p w in
    let word = (c.unfine.ensures (p / w) c.row-row.ensures).each (p % w) (omega (arith, mod_below p w, c.lanes-lanes.ensures)) in
    ap (λ b. not (eqb b 1)) (shr_and_one c.unfine.result (p % w)) ∙ (ap not word ∙ (not-not ((numbered s).fine (p / w * lanes_in s + p % w)) ∙ ap (λ q. (numbered s).fine q) place))
