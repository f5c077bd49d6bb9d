use Rattle.roman_joint.proofs.Common.{◌≡◌, ℕ, ◌+◌, ◌*◌, length, sum_by, sym, ap, ◌∙◌, arith, length-map, below, mask, numbered, sum_below_more, served_by, sum_cut, sum_turned, action_counted, none_chosen, system_of, seat_of, lanes_in, band_in, sum_by_same}
use Rattle.roman_joint.proofs.ArenaFacts.{joint_numbered}
use Rattle.roman_joint.proofs.SplitLemmas.{joint_sizes}
use Rattle.roman_joint.proofs.AllowedLemmas.{open_here}
use Rattle.roman_joint.proofs.BandLemmas.{row_in, in_band}
use Rattle.roman_joint.proofs.numbered.JointRules.choices.Goals as goal

-- an action that isn't allowed at the band's pairs
pub returns-in_default-clause-counted : goal.returns-in_default-clause-counted
returns-in_default-clause-counted c y gone ok rows =
    let s = system_of c.args.self.now in
    let x = y * band_in s in
    sum_cut (λ i. sum_by (λ lane. length (mask (numbered s) gone ((x + i) * lanes_in s + lane) c.args.a)) (below (lanes_in s))) 0 (band_in s) (omega arith) (λ i past l.
    let here = in_band s y i c.args.row.now (joint_sizes c.args.self.now c.known.ensures) ok l in
    sym (none_chosen (numbered s) gone (lanes_in s) (x + i) c.args.a (λ lane m. open_here s (row_in s (x + i) c.args.row.now) (x + i) c.args.a lane here.looked m ∙ c.in_default.ensures)))

pub loop-k-preserved : goal.loop-k-preserved
loop-k-preserved c =
    let s = system_of c.args.self.now in
    let k = c.loop-k.k in
    record {
      counted = λ y gone ok rows.
          let here = c.served_by-count.ensures.counted y gone ok rows (c.alive_each.ensures.alive gone rows) in
          omega (arith, c.loop-k.invariant.counted y gone ok rows, here, sum_below_more (λ (k : ℕ). sum_by (λ i. served_by (numbered s) gone (lanes_in s) (y * band_in s + i) c.args.a k) (below (band_in s))) k);
      bound = omega (arith, c.loop-k.invariant.bound, c.served_by-count.ensures.few);
    }

pub returns-clause-counted : goal.returns-clause-counted
returns-clause-counted c y gone ok rows =
    let n = c.args.self.now in
    let s = system_of n in
    let w = lanes_in s in
    let v = band_in s in
    let f = λ (k i : ℕ). served_by (numbered s) gone w (y * v + i) c.args.a k in
    let end : c.loop-k.k ≡ length s.seats = omega (arith, length-map n.seats (seat_of n.catalogue)) in
    c.loop-k.invariant.counted y gone ok rows ∙ (ap (λ m. sum_by (λ k. sum_by (f k) (below v)) (below m)) end ∙ (sum_turned f (length s.seats) v
    ∙ sum_by_same (λ i. sum_by (λ k. f k i) (below (length s.seats))) (λ i. sum_by (λ lane. length (mask (numbered s) gone ((y * v + i) * w + lane) c.args.a)) (below w)) (below v)
    (λ i j. action_counted (numbered s) (joint_numbered n c.known.ensures) gone w (y * v + i) c.args.a)))
