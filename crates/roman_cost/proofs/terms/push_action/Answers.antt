use Rattle.roman_cost.proofs.Common.{◌≡◌, ℕ, Bool, ◌++◌, [], ◌∷◌, List, Vec, Global, length, filter, sym, ap, ◌∙◌, arith, append_assoc, flat_map, length-map, below, sizes_of, pair_at, offers, has, has_seat_is, system_of, seat_of, seat_costs, service_terms, Term}
use Rattle.roman_cost.specs.declared.terms.Term.TheVariants as term
use Rattle.roman_cost.proofs.OfferedSeats.{told_offered, offers_among}
use Rattle.roman_cost.proofs.Ranks.{related_below}
use Rattle.roman_cost.proofs.TermLemmas.{flat_taken, flat_passed}
use Rattle.roman_cost.proofs.terms.push_action.Goals as goal
use Rattle.roman_cost.proofs.terms.push_action.Goals.{then-has+in_ok-push_service, else-has}

pub push_service-requires-clause-offered : goal.push_service-requires-clause-offered
push_service-requires-clause-offered c =
    let s = system_of c.args.relation.now.joint in
    told_offered s c.args.p c.args.a c.loop-k.k _ _ c.known.ensures.system (related_below s c.args.p c.requires.pair) c.offers-offered.ensures.offers (omega arith) c.has.ensures c.if-has.true

pub loop-k-preserved : goal.loop-k-preserved
loop-k-preserved c =
    let n = c.args.relation.now.joint in
    let s = system_of n in
    let test : ℕ → Bool = has (offers s (pair_at (sizes_of s) c.args.p) c.args.a) in
    let f : ℕ → List Term = service_terms s (seat_costs n c.args.costs.now.listed) c.args.ranks.now c.args.p c.args.a in
    let told : c.has.result ≡ test c.loop-k.k = c.has.ensures ∙ has_seat_is c.offers-offered.result test c.loop-k.k c.offers-offered.ensures.offers (omega arith) in
    elim c.if-has.branch [
      | then-has+in_ok-push_service w ↦
          ap (λ (v : Vec Term Global). v.items) w.terms-is ∙ flat_taken f test c.loop-k.k c.args.terms.now.items c.loop-k.terms.items _ (sym told ∙ w.if-has.true) c.loop-k.invariant w.in_ok-push_service.ensures
      | else-has w ↦ ap (λ (v : Vec Term Global). v.items) w.terms-is ∙ flat_passed f test c.loop-k.k c.args.terms.now.items c.loop-k.terms.items (sym told ∙ w.if-has.false) c.loop-k.invariant
    ]

pub returns : goal.returns
returns c =
    let n = c.args.relation.now.joint in
    let s = system_of n in
    let seats = offers s (pair_at (sizes_of s) c.args.p) c.args.a in
    let f : ℕ → List Term = service_terms s (seat_costs n c.args.costs.now.listed) c.args.ranks.now c.args.p c.args.a in
    let end : c.loop-k.k ≡ length s.seats = let here : c.loop-k.k ≡ c.seats-k-end.result = omega (arith, c.loop-k-test.false, c.loop-k.auto.k-end) in here ∙ c.seats-k-end.ensures.count ∙ sym (length-map n.seats (seat_of n.catalogue)) in
    let all : filter (has seats) (below c.loop-k.k) ≡ seats = ap (λ m. filter (has seats) (below m)) end ∙ offers_among s (pair_at (sizes_of s) c.args.p) c.args.a c.requires.allowed in
    c.in_ok-push.ensures.items ∙ ap (λ (ts : List Term). ts ++ term.Action ∷ []) c.loop-k.invariant ∙ append_assoc c.args.terms.now.items (flat_map f (filter (has seats) (below c.loop-k.k))) (term.Action ∷ [])
    ∙ ap (λ (ks : List ℕ). c.args.terms.now.items ++ (flat_map f ks ++ term.Action ∷ [])) all
