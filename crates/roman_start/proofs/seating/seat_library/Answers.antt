use Rattle.roman_start.proofs.Common.{◌≡◌, ◌<◌, List, All, map, length, sym, ap, ◌∙◌, subst, arith, HasNoRepeats, Seat, plain, seat_of_service, state_of_service, parts_of, start_pair_of}
use Rattle.roman_start.proofs.StartLemmas.{behaviours_within, names_once, seated_pair, seated}
use Rattle.roman_start.proofs.seating.seat_library.Goals as goal

pub build-requires-clause-behaviours : goal.build-requires-clause-behaviours
build-requires-clause-behaviours c =
    let library = plain c.args.library in
    let seats : c.in_ok-seats.seats.items ≡ map seat_of_service library.services = c.in_ok-seats.ensures ∙ ap (map seat_of_service) c.deref.ensures.value in
    let within : All (λ seat. seat.behaviour < length library.catalogue) c.in_ok-seats.seats.items =
    subst (λ (seats : List Seat). All (λ seat. seat.behaviour < length library.catalogue) seats) (sym seats) (behaviours_within library c.requires) in
    λ k d l. omega (arith, within k d l, c.args.library.catalogue.ok.0)

pub build-requires-clause-names : goal.build-requires-clause-names
build-requires-clause-names c =
    let library = plain c.args.library in
    let seats : c.in_ok-seats.seats.items ≡ map seat_of_service library.services = c.in_ok-seats.ensures ∙ ap (map seat_of_service) c.deref.ensures.value in
    subst (λ (seats : List Seat). HasNoRepeats (map (λ seat. seat.name) seats)) (sym seats) (names_once library c.requires)

pub start_of-start-requires : goal.start_of-start-requires
start_of-start-requires c =
    let library = plain c.args.library in
    let seats : c.in_ok-seats.seats.items ≡ map seat_of_service library.services = c.in_ok-seats.ensures ∙ ap (map seat_of_service) c.deref.ensures.value in
    let joint : c.in_ok-joint.joint ≡ parts_of library = c.in_ok-joint.ensures.parts ∙ ap (λ (seats : List Seat). record (parts_of library) { seats = seats }) seats in
    let states : c.in_ok-states.states.items ≡ (start_pair_of library).bs = c.in_ok-states.ensures.states ∙ ap (map state_of_service) c.deref-2.ensures.value in
    seated_pair library c.in_ok-joint.joint c.deref-3.result.now c.requires joint (c.deref-3.ensures.value ∙ states)

pub returns-clause-seated : goal.returns-clause-seated
returns-clause-seated c =
    let library = plain c.args.library in
    let seats : c.in_ok-seats.seats.items ≡ map seat_of_service library.services = c.in_ok-seats.ensures ∙ ap (map seat_of_service) c.deref.ensures.value in
    let joint : c.in_ok-joint.joint ≡ parts_of library = c.in_ok-joint.ensures.parts ∙ ap (λ (seats : List Seat). record (parts_of library) { seats = seats }) seats in
    let states : c.in_ok-states.states.items ≡ (start_pair_of library).bs = c.in_ok-states.ensures.states ∙ ap (map state_of_service) c.deref-2.ensures.value in
    seated _ _ _ c.requires joint states (c.deref-3.ensures.value ∙ states) c.start_of-start.ensures.number c.start_of-start.ensures.below c.in_ok-states.ensures.room
