use Rattle.roman_joint.proofs.Common.{true, ◌≡◌, ℕ, ◌+◌, ◌*◌, Bool, false, not, ◌&&◌, ◌∙◌, sym, ap, ap₂, subst, add-one, arith, length, length-map, all_below, is_beaten, numbered, is_on, system_of, seat_of, lanes_in, AreAlive, on_zero}
use Rattle.roman_joint.proofs.WordLemmas.{all_pass}
use Rattle.roman_joint.proofs.AllowedLemmas.{target_move_open, judged, and_nothing, cut_off, all_further}
use Rattle.roman_joint.proofs.GoodLemmas.{known, beaten_dead}
use Rattle.roman_joint.proofs.numbered.JointRules.unserved.Goals as goal

one_more : (p : ℕ → Bool) (k : ℕ) (wanted : Bool) → ((wanted && all_below p k) && not (not (p k))) ≡ (wanted && all_below p (k + 1))
one_more p k wanted = rw add-one (grind arith)

pub returns-in_default-clause-lost : goal.returns-in_default-clause-lost
returns-in_default-clause-lost c x gone ok rows lane l =
    on_zero lane ∙ and_nothing (is_on c.args.wanted lane) _ (judged (system_of c.args.self.now) c.args.row.now x c.args.a lane false gone ok l c.in_default.ensures)

pub loop-k-init : goal.loop-k-init
loop-k-init c = record { lost = λ x gone ok rows lane l. all_pass (is_on c.args.wanted lane); within = λ lane off. off }

pub returns-then-left-eq0-clause-lost : goal.returns-then-left-eq0-clause-lost
returns-then-left-eq0-clause-lost c x gone ok rows lane l =
    let s = system_of c.args.self.now in
    let beaten = is_beaten (numbered s) gone (x * lanes_in s + lane) c.args.a in
    let none : (is_on c.args.wanted lane && all_below beaten c.loop-k.k) ≡ false = sym (c.loop-k.invariant.lost x gone ok rows lane l) ∙ (ap (λ w. is_on w lane) c.if-left-eq0.true ∙ on_zero lane) in
    on_zero lane ∙ (sym (cut_off beaten c.loop-k.k (length s.seats) (is_on c.args.wanted lane) (omega (arith, length-map c.args.self.now.seats (seat_of c.args.self.now.catalogue), c.serving-k-end.ensures.few)) none)
    ∙ ap (λ b. is_on c.args.wanted lane && b) (judged s c.args.row.now x c.args.a lane true gone ok l (target_move_open s c.args.row.now c.args.a c.in-Some.to c.in-Some.ensures)))

pub loop-k-preserved : goal.loop-k-preserved
loop-k-preserved c = record {
  lost = λ x gone ok rows lane l.
      let s = system_of c.args.self.now in
      let beaten = is_beaten (numbered s) gone (x * lanes_in s + lane) c.args.a in
      c.less-left.ensures lane ∙ (ap₂ (λ u v. u && not v) (c.loop-k.invariant.lost x gone ok rows lane l) ((c.good_on-good.ensures.each x gone ok rows (c.alive_on-alive.ensures gone rows)).each lane l) ∙ one_more beaten c.loop-k.k (is_on c.args.wanted lane));
  within = λ lane off. c.less-left.ensures lane ∙ ap (λ u. u && not (is_on c.good_on-good.result lane)) (c.loop-k.invariant.within lane off);
}

pub returns-clause-lost : goal.returns-clause-lost
returns-clause-lost c x gone ok rows lane l =
    let n = c.args.self.now in
    let s = system_of n in
    let beaten = is_beaten (numbered s) gone (x * lanes_in s + lane) c.args.a in
    let seats = length-map n.seats (seat_of n.catalogue) in
    let h = known n x c.args.row.now c.known.ensures ok in
    let living = c.alive_on-alive.ensures gone rows in
    let all : all_below beaten c.loop-k.k ≡ all_below beaten (length s.seats) =
    all_further beaten c.loop-k.k (length s.seats) (omega (arith, seats, c.serving-k-end.ensures.few)) (λ k past m.
    let (within, dead) = c.serving-k-end.ensures.rest k (omega arith) (omega (arith, seats)) in
    beaten_dead s x c.args.a k lane c.args.row.now c.in-Some.to gone h c.in-Some.ensures within m (subst (AreAlive s gone c.in-Some.to) dead living) l) in
    c.loop-k.invariant.lost x gone ok rows lane l
    ∙ ap (λ b. is_on c.args.wanted lane && b) (all ∙ judged s c.args.row.now x c.args.a lane true gone ok l (target_move_open s c.args.row.now c.args.a c.in-Some.to c.in-Some.ensures))

pub returns-in_default-clause-within : goal.returns-in_default-clause-within
returns-in_default-clause-within c lane off = on_zero lane
