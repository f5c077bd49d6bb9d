-- Sessions of accepted documents begin in well-formed situations.
use Rattle.roman_top.proofs.Common.{◌≡◌, ℕ, List, [], map, IsFalse, refl, sym, ap, ◌∙◌, subst, arith, both_ways, lt-ltb, length-map, Texts, IsIn, IsSys, IsBeh, from_map, there_is, in_contains, order_goes_on, seat_of, system_of, cells, IsNamedSys, beh_at, library_of, PlainLibrary, IsLibrary, IsService, Situation, Idle, parts_of, start_pair_of, seat_of_service, IsStart, start_pair, behaviours_within, names_once, IsKnownSituation, Accepted, document_opening, is_past_limit, libraries_known, behaviour_there, beh_read, Service, is_within, StartsAreKnown, IsKnownLibrary, accepted_is}
use Rattle.roman_model.specs.System as model

-- the behaviour of a service is well formed over the environment
service_beh : (library : PlainLibrary) (x : Service) → IsLibrary library → IsIn x library.services → IsBeh library.environment.env (beh_at library.catalogue x.behaviour)
service_beh library x is i =
    let (k, l, e) = in_contains library.services x i in
    let service : IsService library.catalogue x = subst (IsService library.catalogue) e (is.services.known k x l) in
    let (b, there) = there_is library.catalogue x.behaviour service.behaviour in
    let beh = behaviour_there library.environment library.catalogue x.behaviour b is.catalogue there in
    subst (IsBeh library.environment.env) (sym (beh_read library.catalogue x.behaviour b there)) (beh.known library.environment.env (sym beh.env_states) (sym beh.actions))

seat_beh : (library : PlainLibrary) (y : model.Seat) → IsLibrary library → IsIn y (system_of (parts_of library)).seats → IsBeh library.environment.env y.beh
seat_beh library y is i =
    let (seat, j, same) = from_map (seat_of library.catalogue) y (map seat_of_service library.services) i in
    let (x, k, same') = from_map seat_of_service seat library.services j in
    subst (λ (y : model.Seat). IsBeh library.environment.env y.beh) (sym (same ∙ ap (seat_of library.catalogue) same')) (service_beh library x is k)

library_sys : (library : PlainLibrary) → IsLibrary library → IsSys (system_of (parts_of library))
library_sys library is = record {
  env = is.environment;
  target = is.target.known library.environment.env (sym is.target.env_states) (sym is.target.actions);
  single = is.target.single;
  seats = λ y i. seat_beh library y is i;
  few = omega (arith, is.few_services, length-map (map seat_of_service library.services) (seat_of library.catalogue), length-map library.services seat_of_service);
}

pub library_parts : (library : PlainLibrary) → IsLibrary library → IsFalse (is_past_limit library) → IsNamedSys (parts_of library)
library_parts library is within =
    record {
      system = library_sys _ is;
      fits = is_within _ _ (λ past. both_ways (is_past_limit library) within (lt-ltb library.limit (cells (system_of (parts_of library))) past));
      limit = is.limit;
      behaviours = behaviours_within _ is;
      names = names_once _ is;
      catalogue = λ k b l. ((is.catalogue.known k b l).env_states, (is.catalogue.known k b l).actions);
      target = (is.target.env_states, is.target.actions);
    }

-- a session of a library within its limit starts in a well-formed situation
pub start_known : (library : PlainLibrary) (s : Situation) → IsKnownLibrary library → IsFalse (is_past_limit library) → IsStart library s → IsKnownSituation s
start_known library s is within start = grind (arith, library_parts, start_pair)

pub starts_known : StartsAreKnown
starts_known texts system library s accepted start =
    let is = accepted_is (library_of texts system) library accepted in
    start_known library s (libraries_known texts system library is.means) is.within start

-- a starting situation exists: some removal list is complete
pub some_start : (texts : Texts) (system : List ℕ) (library : PlainLibrary) → document_opening texts system ≡ Accepted library → (s : Situation) × IsStart library s
some_start texts system library accepted =
    let is = accepted_is (library_of texts system) library accepted in
    let sys : IsSys (system_of (parts_of library)) = library_sys library (libraries_known texts system library is.means).known in
    let (list, complete) = order_goes_on (system_of (parts_of library)) [] sys (λ x i. absurd i) tt in (
      record { parts = parts_of library; here = start_pair_of library; phase = Idle; list = list },
      record { parts = refl; here = refl; phase = refl; list = complete },
    )
