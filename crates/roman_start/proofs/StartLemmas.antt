-- The services of a library have their seats, and start in states of their behaviours.
use Rattle.roman_start.proofs.Common.{◌≡◌, ℕ, ◌<◌, List, [], ◌∷◌, All, map, length, refl, sym, ap, subst, ◌≤◌, vec_capacity, arith, AllByRecursion, AllZip, All-map, recursion_from_All, there_is, HasNoRepeats, IsPair, NamedBeh, beh_at, seat_of, system_of, NamedSys, beh_read, PlainLibrary, IsService, IsLibrary, service_name, Service, seat_of_service, state_of_service, parts_of, start_pair_of, starting, sizes_of, count, number, MAX_SERVICES, IsSeated, Seated}

-- the behaviours of the services are the behaviours of their seats
pub behaviours_within : (library : PlainLibrary) → IsLibrary library → All (λ seat. seat.behaviour < length library.catalogue) (map seat_of_service library.services)
behaviours_within library is = All-map (λ seat. seat.behaviour < length library.catalogue) seat_of_service library.services (λ k d l. (is.services.known k d l).behaviour)

-- the names of the services are the names of their seats
names_kept : (services : List Service) → map service_name services ≡ map (λ seat. seat.name) (map seat_of_service services)
names_kept [] = refl
names_kept (x ∷ xs) = ap (λ (names : List (List ℕ)). x.name ∷ names) (names_kept xs)

pub names_once : (library : PlainLibrary) → IsLibrary library → HasNoRepeats (map (λ seat. seat.name) (map seat_of_service library.services))
names_once library is = subst (λ (names : List (List ℕ)). HasNoRepeats names) (names_kept library.services) is.services.names

-- each service starts in a state of its behaviour
state_within : (catalogue : List NamedBeh) (x : Service) → IsService catalogue x → x.state < (beh_at catalogue x.behaviour).states
state_within catalogue x is =
    let (beh, there) = there_is catalogue x.behaviour is.behaviour in
    grind (arith, beh_read)

states_within : (catalogue : List NamedBeh) (services : List Service) → AllByRecursion (IsService catalogue) services →
    AllZip (λ seat b. b < seat.beh.states) (map (seat_of catalogue) (map seat_of_service services)) (map state_of_service services)
states_within catalogue [] are = tt
states_within catalogue (x ∷ xs) are = (state_within catalogue x are.0, states_within catalogue xs are.1)

-- the start pair of a library is a pair of its system
pub start_pair : (library : PlainLibrary) → IsLibrary library → IsPair (system_of (parts_of library)) (start_pair_of library)
start_pair library is = record {
  t = (is.target.known library.environment.env (sym is.target.env_states) (sym is.target.actions)).start;
  e = is.environment.start;
  bs = states_within library.catalogue library.services (recursion_from_All (IsService library.catalogue) library.services is.services.known);
}

-- the pair of a system and states that are those of the library is a pair of the system
pub seated_pair : (library : PlainLibrary) (parts : NamedSys) (bs : List ℕ) → IsLibrary library → parts ≡ parts_of library → bs ≡ (start_pair_of library).bs →
    IsPair (system_of parts) (starting parts bs)
seated_pair library parts bs is same states =
    subst (λ (n : NamedSys). IsPair (system_of n) (starting n bs)) (sym same)
    (subst (λ (bs : List ℕ). IsPair (system_of (parts_of library)) (starting (parts_of library) bs)) (sym states) (start_pair library is))

-- the parts and the start pair are the result of seating the library
pub seated : (library : PlainLibrary) (x : Seated) (bs : List ℕ) → IsLibrary library → x.joint ≡ parts_of library → x.states.items ≡ (start_pair_of library).bs → bs ≡ (start_pair_of library).bs →
    x.start ≡ number (sizes_of (system_of x.joint)) (starting x.joint bs) → x.start < count (sizes_of (system_of x.joint)) → MAX_SERVICES ≤ vec_capacity x.states → IsSeated library x
seated library x bs is same states given start below room = grind (arith, start_pair)
