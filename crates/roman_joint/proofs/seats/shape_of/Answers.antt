use Rattle.roman_joint.proofs.Common.{◌≡◌, ◌/◌, ◌<◌, ◌≤◌, ◌↔◌, All, take, length, sym, ap, ◌∙◌, subst, arith, IfSome, le-div_iff_mul-le, Sizes, sizes_of, count, system_of, cells, named_in}
use Rattle.roman_joint.proofs.SeatLemmas.{sizes_counted, makes_system, positive_sizes}
use Rattle.roman_joint.proofs.seats.shape_of.Goals as goal

pub new-requires-clause-target : goal.new-requires-clause-target
new-requires-clause-target c =
    let n = named_in c.args.parts.now c.args.limit in
    let beh = c.states.ensures.known n.environment.env (sym c.requires.target.0) (sym c.requires.target.1) in
    omega (arith, beh.states.0, c.len.ensures.len, ap length c.states.ensures.names, c.states.ensures.count)

pub overflow_cast-len : goal.overflow_cast-len
overflow_cast-len c =
    let n = named_in c.args.parts.now c.args.limit in
    let beh = c.states.ensures.known n.environment.env (sym c.requires.target.0) (sym c.requires.target.1) in
    omega (arith, beh.states.1, c.len.ensures.len, ap length c.states.ensures.names, c.states.ensures.count)

pub new-requires-clause-sizes : goal.new-requires-clause-sizes
new-requires-clause-sizes c =
    let n = named_in c.args.parts.now c.args.limit in
    let seats = c.sizes_of_seats-sizes.ensures.known n.environment c.requires.catalogue in
    subst (All (λ size. 0 < size)) (sym c.sizes_of_seats-sizes.ensures.sizes) (positive_sizes n.catalogue n.seats n.environment.env seats)

pub returns : goal.returns
returns c =
    let n = named_in c.args.parts.now c.args.limit in
    let t : c.len.result ≡ n.target.beh.states = c.len.ensures.len ∙ (ap length c.states.ensures.names ∙ c.states.ensures.count) in
    let e : c.len-2.result ≡ n.environment.env.states = c.len-2.ensures.len ∙ (ap length c.states-2.ensures.names ∙ c.states-2.ensures.count) in
    let same : ◌≡◌ {A = Sizes} (record { target = c.len.result; env = c.len-2.result; seats = take (length n.seats) c.sizes_of_seats-sizes.result }) (sizes_of (system_of n)) =
    sizes_counted n c.len.result c.len-2.result c.sizes_of_seats-sizes.result t e c.sizes_of_seats-sizes.ensures.sizes in
    let actions : c.len-3.result ≡ n.environment.env.actions = c.len-3.ensures.len ∙ (ap length c.actions.ensures.names ∙ c.actions.ensures.count) in
    let some : 0 < n.environment.env.actions = c.actions.ensures.known.actions.0 in
    let fit : (count (sizes_of (system_of n)) ≤ c.args.limit / n.environment.env.actions) ↔ (cells (system_of n) ≤ c.args.limit) = le-div_iff_mul-le some in
    let cap = ap (λ x. c.args.limit / x) actions in
    let pairs = ap count same in
    record {
      system = makes_system n c.states-2.ensures.known (c.states.ensures.known n.environment.env (sym c.requires.target.0) (sym c.requires.target.1)) c.states.ensures.single
          (c.sizes_of_seats-sizes.ensures.known n.environment c.requires.catalogue) c.requires.few;
      fits = (λ h. fit.0 (omega (arith, c.new.ensures.fits.0 h, cap, pairs)), λ h. c.new.ensures.fits.1 (omega (arith, fit.1 h, cap, pairs)));
      shape = subst (λ m. IfSome c.new.result (λ shape. shape ≡ m)) same c.new.ensures.shape;
    }
