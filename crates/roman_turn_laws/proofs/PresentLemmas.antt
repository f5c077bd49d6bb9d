-- The library that begins in a state that a session reaches can be stated.
use Rattle.roman_turn_laws.proofs.Common.{IfSome, IsTrue, List, Option, [], ap, arith, length, map, refl, subst, sym, ℕ, ◌<◌, ◌∷◌, ◌≡◌, ◌≤◌, length-map, All-from_recursion, recursion_from_All, AllByRecursion, AllZip, AcceptedCanBeSaid, AcceptedNamesAreClear, IsSayable, LibrariesAreSaid, afresh, services_in, IsState, State, beh_read, IsNamedSys, NamedSys, beh_at, cells, seat_of, system_of, seat_name, Seat, IsLibrary, IsService, PlainLibrary, service_name, in_map, there_is, HasNoRepeats, IsIn, Beh, Env, IsBeh, IsEnv, IsPair, Pair, IsOver, NamedBeh, is_name, Phase, parts_of, IsSaidAfresh, PresentIsSaid, services_again}
use Rattle.roman_turn_laws.proofs.SoundLemmas.{IsSound, reached_sound}

-- Parts with other starting states

pub env_starts : (env : Env) (e : ℕ) → IsEnv env → e < env.states → IsEnv (record env { start = e })
env_starts env e is less = record { states = is.states; actions = is.actions; start = less; triples = is.triples }

beh_starts : (env : Env) (beh : Beh) (t e : ℕ) → IsBeh env beh → t < beh.states → IsBeh env (record beh { start = t })
beh_starts env beh t e is less = record { states = is.states; start = less; finals = is.finals; steps = is.steps; guards = is.guards }

pub over_starts : (env_states actions : ℕ) (beh : Beh) (t : ℕ) → IsOver env_states actions beh → t < beh.states → IsOver env_states actions (record beh { start = t })
over_starts env_states actions beh t over less env states same = beh_starts env beh t 0 (over env states same) less

-- The present services

service_there : (catalogue : List NamedBeh) (seat : Seat) (b : ℕ) → seat.behaviour < length catalogue → b < (beh_at catalogue seat.behaviour).states →
    IsService catalogue (record { name = seat.name; behaviour = seat.behaviour; state = b; frozen = seat.frozen; rests = seat.rests })
service_there catalogue seat b within less =
    let (beh, there) = there_is catalogue seat.behaviour within in
    let below : b < beh.beh.states = subst (λ (x : Beh). b < x.states) (beh_read catalogue seat.behaviour beh there) less in
    record { behaviour = within; state = subst (λ (o : Option NamedBeh). IfSome o (λ x. b < x.beh.states)) (sym there) below }

pub services_are : (catalogue : List NamedBeh) (seats : List Seat) (bs : List ℕ) → AllByRecursion (λ (seat : Seat). seat.behaviour < length catalogue) seats → AllZip (λ seat b. b < seat.beh.states) (map (seat_of catalogue) seats) bs →
    AllByRecursion (IsService catalogue) (services_in seats bs)
services_are catalogue [] bs within zip = tt
services_are catalogue (seat ∷ seats) [] within zip = absurd zip
services_are catalogue (seat ∷ seats) (b ∷ bs) within zip = (service_there catalogue seat b within.0 zip.0, services_are catalogue seats bs within.1 zip.1)

pub service_names : (catalogue : List NamedBeh) (seats : List Seat) (bs : List ℕ) → AllZip (λ seat b. b < seat.beh.states) (map (seat_of catalogue) seats) bs → map service_name (services_in seats bs) ≡ map seat_name seats
service_names catalogue [] bs zip = refl
service_names catalogue (seat ∷ seats) [] zip = absurd zip
service_names catalogue (seat ∷ seats) (b ∷ bs) zip = ap (λ (names : List (List ℕ)). seat.name ∷ names) (service_names catalogue seats bs zip.1)

pub few_present : (seats : List Seat) (bs : List ℕ) → length (services_in seats bs) ≤ length seats
few_present [] bs = omega arith
few_present (seat ∷ seats) [] = omega arith
few_present (seat ∷ seats) (b ∷ bs) = omega (arith, few_present seats bs)

-- the library that begins in the state, if its parts are those of a library except for the services
module _ (library : PlainLibrary) (can : IsSayable library) (seats : List Seat) (here : Pair) (phase : Phase) where
  abbrev at : State
  at = record { parts = record (parts_of library) { seats = seats }; here = here; phase = phase }

  present_library : IsNamedSys at.parts → HasNoRepeats (map seat_name seats) → IsPair (system_of at.parts) here → IsLibrary (afresh at)
  present_library sound once pair = record {
    environment = env_starts library.environment.env here.e can.known.environment pair.e;
    catalogue = record { known = λ k b l. let is = can.known.catalogue.known k b l in record { env_states = is.env_states; actions = is.actions; names = is.names; known = is.known }; names = can.known.catalogue.names };
    few_behaviours = can.known.few_behaviours;
    services = record {
      known = All-from_recursion (IsService library.catalogue) (services_in seats here.bs)
          (services_are library.catalogue seats here.bs (recursion_from_All (λ (seat : Seat). seat.behaviour < length library.catalogue) seats sound.behaviours) pair.bs);
      names = subst HasNoRepeats (sym (service_names library.catalogue seats here.bs pair.bs)) once;
    };
    few_services = omega (arith, few_present seats here.bs, sound.system.few, length-map seats (seat_of library.catalogue));
    target = record {
      env_states = can.known.target.env_states;
      actions = can.known.target.actions;
      names = can.known.target.names;
      known = over_starts library.target.env_states library.target.actions library.target.beh here.t can.known.target.known pair.t;
      single = can.known.target.single;
    };
    limit = can.known.limit;
  }

  present_sayable : IsNamedSys at.parts → HasNoRepeats (map seat_name seats) → IsPair (system_of at.parts) here → ((name : List ℕ) → IsIn name (map seat_name seats) → IsTrue (is_name name)) → IsSayable (afresh at)
  present_sayable sound once pair named = record {
    known = present_library sound once pair;
    environment = record {
      states = can.environment.states;
      actions = can.environment.actions;
      state_count = can.environment.state_count;
      action_count = can.environment.action_count;
      known = env_starts library.environment.env here.e can.environment.known pair.e;
      form = record { triples = can.environment.form.triples };
      few = can.environment.few;
    };
    catalogue = λ b i. let is = can.catalogue b i in record {
      name = is.name;
      states = is.states;
      state_count = is.state_count;
      env_states = is.env_states;
      actions = is.actions;
      known = is.known;
      form = is.form;
      few = is.few;
    };
    target = record {
      states = can.target.states;
      state_count = can.target.state_count;
      env_states = can.target.env_states;
      actions = can.target.actions;
      known = over_starts library.environment.env.states library.environment.env.actions library.target.beh here.t can.target.known pair.t;
      single = can.target.single;
      form = record { finals = can.target.form.finals; steps = can.target.form.steps; guards = can.target.form.guards };
      few = can.target.few;
    };
    services = λ x i. named x.name (subst (IsIn x.name) (service_names library.catalogue seats here.bs pair.bs) (in_map service_name x (services_in seats here.bs) i));
  }

-- the cells of the library that begins in a state are those of the state
pub present_cells : (s : State) → IsPair (system_of s.parts) s.here → cells (system_of (parts_of (afresh s))) ≡ cells (system_of s.parts)
present_cells s pair =
    let (same, states) = services_again s.parts.catalogue s.parts.seats s.here.bs pair.bs in
    ap (λ (seats : List Seat). cells (system_of (record (parts_of (afresh s)) { seats = seats }))) same

present_said : LibrariesAreSaid → (library : PlainLibrary) (s : State) → IsSayable library → IsState library s → IsSound s → IsSaidAfresh s
present_said said library s can is sound =
    let sayable : IsSayable (afresh s) = by s.parts is.parts sound.parts is.here in
    record {
      sayable = sayable;
      means = λ texts document. said texts document (afresh s) sayable;
      fits = omega (arith, present_cells s is.here, sound.parts.fits);
    }
  where
    by : (n : NamedSys) → n ≡ record (parts_of library) { seats = s.parts.seats } → IsNamedSys n → IsPair (system_of n) s.here → IsSayable (afresh (record { parts = n; here = s.here; phase = s.phase }))
    by n same =
        subst (λ (n : NamedSys). IsNamedSys n → IsPair (system_of n) s.here → IsSayable (afresh (record { parts = n; here = s.here; phase = s.phase }))) (sym same)
        (λ parts pair. present_sayable library can s.parts.seats s.here s.phase parts is.names pair sound.named)

pub present_is_said : AcceptedNamesAreClear → AcceptedCanBeSaid → LibrariesAreSaid → PresentIsSaid
present_is_said clear accepted said texts document library s reached one =
    let (is, sound) = reached_sound clear texts document library s reached in
    present_said said library s (accepted texts document library reached.means.0 one) is sound
