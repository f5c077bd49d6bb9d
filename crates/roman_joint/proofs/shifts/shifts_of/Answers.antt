use Rattle.roman_joint.proofs.Common.{cases_lt, lt-ltb, le-ltb, inl, inr, ◌≡◌, ℕ, zero, ◌+◌, ◌-◌, ◌/◌, ◌<◌, ◌==◌, true, false, not, ◌&&◌, ◌||◌, eqb, ltb, replicate, slice_index, refl, ap, ap₂, ◌∙◌, arith, get_or-replicate, length-replicate, get_or_past, list_any, nat_tests, mod_below, is_empty, any_same, beh_next, stride_of, AreSizes-index, is_on, lane_state_of, on_zero}
use Rattle.roman_joint.proofs.SeatLemmas.{len_empty}
use Rattle.roman_joint.proofs.GoodLemmas.{one_more, state_is}
use Rattle.roman_joint.proofs.shifts.shifts_of.Goals as goal

nothing_on : (n j lane : ℕ) → is_on (slice_index (replicate n zero) j) lane ≡ false
nothing_on n j lane =
    let none : slice_index (replicate n zero) j ≡ zero = elim (cases_lt j n) [ inl l ↦ get_or-replicate n j zero 0 l | inr past ↦ get_or_past (replicate n zero) j 0 (omega (arith, length-replicate n zero, past)) ] in
    ap (λ w. is_on w lane) none ∙ on_zero lane

-- the number of a shift
same_shift : (b size d j : ℕ) → d < size → eqb (b + (size - 1 - d)) j ≡ eqb (b + size) (j + 1 + d)
same_shift b size d j l = grind (arith, nat_tests)

pub loop-d-init : goal.loop-d-init
loop-d-init c = record {
  long = refl;
  each = λ lane l. grind (arith, le-ltb, on_zero);
  rest = λ lane l. on_zero lane;
  goes = λ j lane l. grind (arith, le-ltb, nothing_on 128 j lane);
}

pub loop-d-preserved : goal.loop-d-preserved
loop-d-preserved c =
    let n = c.args.shape.now in
    let k = c.args.k in
    let d = c.loop-d.d in
    let size = slice_index n.seats k in
    let states = c.out-states.result.now in
    let own = c.requires.laid.sizes k c.requires.seat in
    let in_size : d < size = omega (arith, own) in
    let next = λ (m : ℕ). beh_next c.args.behaviour.now.beh m c.args.e c.args.a in
    let asked : not c.is_empty.result ≡ not (is_empty (next d)) = ap not (c.is_empty.ensures ∙ (len_empty states ∙ ap is_empty c.out-states.ensures.next)) in
    record {
      long = c.add_shifts.ensures.long ∙ c.loop-d.invariant.long;
      each = λ lane l.
          let here = c.state_lanes-here.ensures.each lane l ∙ state_is (stride_of n k) size d lane in
          c.with_lanes-some.ensures lane ∙ (ap₂ (λ y z. y || z) (c.loop-d.invariant.each lane l) (ap₂ (λ y z. y && z) here asked) ∙ one_more (lane_state_of n k lane) d (λ m. not (is_empty (next m))));
      rest = λ lane l. grind (arith, c.with_lanes-some.ensures lane, c.loop-d.invariant.rest lane l, c.state_lanes-here.ensures.rest lane l);
      goes = λ j lane l.
          let here = c.state_lanes-here.ensures.each lane l ∙ state_is (stride_of n k) size d lane in
          let goes = λ (m : ℕ). list_any (λ b. b + size == j + 1 + m) (next m) in
          let up = slice_index c.args.rows.now.sizes k - 1 - d in
          let turned : list_any (λ b. b + up == j) states ≡ goes d =
          ap (list_any (λ b. b + up == j)) c.out-states.ensures.next ∙ any_same (λ b. b + up == j) (λ b. b + size == j + 1 + d) (next d) (λ b i. ap (λ m. eqb (b + (m - 1 - d)) j) own ∙ same_shift b size d j in_size) in
          c.add_shifts.ensures.shifts j lane ∙ (ap₂ (λ y z. y || z) (c.loop-d.invariant.goes j lane l) (ap₂ (λ y z. y && z) here turned) ∙ one_more (lane_state_of n k lane) d goes);
    }

pub returns : goal.returns
returns c =
    let n = c.args.shape.now in
    let k = c.args.k in
    let own = c.requires.laid.sizes k c.requires.seat in
    let all : (lane : ℕ) → ltb (lane_state_of n k lane) c.loop-d.d ≡ true = λ lane.
    lt-ltb (lane_state_of n k lane) c.loop-d.d (omega (arith, own, mod_below (lane / stride_of n k) (slice_index n.seats k) (AreSizes-index n.seats k c.requires.laid.ok.seats c.requires.seat).0)) in
    record { each = λ lane l. grind (arith, all lane, c.loop-d.invariant.each lane l); rest = c.loop-d.invariant.rest; goes = λ j lane l. grind (arith, all lane, c.loop-d.invariant.goes j lane l) }
