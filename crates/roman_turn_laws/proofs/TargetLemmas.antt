-- The combination of several targets in other starting states: only its starts differ.
use Rattle.roman_turn_laws.proofs.Common.{Bool, if◌then◌else◌, IsTrue, List, None, Ok, Option, Some, [], ap, arith, filter, flat_map, inl, inr, length, map, nat_lt, refl, slice_get, slice_index_or, subst, suc, sym, zero, ℕ, ◌&&◌, ◌++◌, ◌<◌, ◌||◌, ◌∙◌, ◌∷◌, ◌≡◌, length-map, All-from_recursion, recursion_from_All, AllByRecursion, AllZip, list_any, AcceptedNamesAreClear, AcceptedSeveralCanBeSaid, IsSayableTarget, AreSayable, SeveralAreSaid, combined_library, afresh, services_in, IsState, State, IsNamedSys, NamedSys, beh_at, seat_of, system_of, seat_name, Seat, IsService, PlainLibrary, service_name, CombinesTargets, PlainTargets, TargetsAreCombined, AreBelow-at, flat_map_same, in_map, length-states_at, map_same_in, states_number-at, combined_env, combined_start, combined_target, member_goes, stands_in, target_sizes, targets_go, HasNoRepeats, IsIn, below, product_of, beh_from, AreBelow, states_at, states_number, are_final, Beh, IsPair, Pair, is_final, MAX_STATES, Request, PlainCombined, combined_behaviour, combined_parts, combined_state_names, forbidding, has_bad_count, has_repeats, is_long, joined, machines, names_at, request_name, request_names, requests_in, target_name, CombineError, Named, NamedBeh, NamedEnv, is_name, Phase, parts_of, AreSaidAfresh, PresentTargetsAreSaid, said_at, targets_at}
use Rattle.roman_multi.specs.declared.error.CombineError.TheVariants as error
use Rattle.roman_turn_laws.proofs.SoundLemmas.{IsSound, reached_sound}
use Rattle.roman_turn_laws.proofs.PresentLemmas.{env_starts, few_present, over_starts, present_cells, service_names, services_are}

-- Targets in other starting states

one_less : (m n : ℕ) → suc m ≡ suc n → m ≡ n
one_less m n same = omega (arith, same)

names_stay : (xs : List Named) (ts : List ℕ) → length ts ≡ length xs → map target_name (targets_at xs ts) ≡ map target_name xs
names_stay [] ts same = refl
names_stay (x ∷ xs) [] same = let f : ⊥ = cc in absurd f
names_stay (x ∷ xs) (t ∷ ts) same = ap (λ (names : List (List ℕ)). x.name ∷ names) (names_stay xs ts (one_less (length ts) (length xs) same))

sizes_stay : (xs : List Named) (ts : List ℕ) → length ts ≡ length xs → target_sizes (machines (targets_at xs ts)) ≡ target_sizes (machines xs)
sizes_stay [] ts same = refl
sizes_stay (x ∷ xs) [] same = let f : ⊥ = cc in absurd f
sizes_stay (x ∷ xs) (t ∷ ts) same = ap (λ (ns : List ℕ). x.target.beh.states ∷ ns) (sizes_stay xs ts (one_less (length ts) (length xs) same))

starts_are : (xs : List Named) (ts : List ℕ) → length ts ≡ length xs → map (λ target. target.start) (machines (targets_at xs ts)) ≡ ts
starts_are [] [] same = refl
starts_are [] (t ∷ ts) same = let f : ⊥ = cc in absurd f
starts_are (x ∷ xs) [] same = let f : ⊥ = cc in absurd f
starts_are (x ∷ xs) (t ∷ ts) same = ap (λ (ns : List ℕ). t ∷ ns) (starts_are xs ts (one_less (length ts) (length xs) same))

many_stay : (xs : List Named) (ts : List ℕ) → length ts ≡ length xs → length (targets_at xs ts) ≡ length xs
many_stay [] ts same = refl
many_stay (x ∷ xs) [] same = let f : ⊥ = cc in absurd f
many_stay (x ∷ xs) (t ∷ ts) same = ap suc (many_stay xs ts (one_less (length ts) (length xs) same))

-- the target at a place uses the same actions, and has the same next states
stands_stay : (xs : List Named) (ts : List ℕ) → length ts ≡ length xs → (i : ℕ) → stands_in (slice_get (machines (targets_at xs ts)) i) ≡ stands_in (slice_get (machines xs) i)
stands_stay [] ts same i = refl
stands_stay (x ∷ xs) [] same i = let f : ⊥ = cc in absurd f
stands_stay (x ∷ xs) (t ∷ ts) same zero = refl
stands_stay (x ∷ xs) (t ∷ ts) same (suc i) = stands_stay xs ts (one_less (length ts) (length xs) same) i

goes_stay : (xs : List Named) (ts : List ℕ) → length ts ≡ length xs → (i : ℕ) → member_goes (slice_get (machines (targets_at xs ts)) i) ≡ member_goes (slice_get (machines xs) i)
goes_stay [] ts same i = refl
goes_stay (x ∷ xs) [] same i = let f : ⊥ = cc in absurd f
goes_stay (x ∷ xs) (t ∷ ts) same zero = refl
goes_stay (x ∷ xs) (t ∷ ts) same (suc i) = goes_stay xs ts (one_less (length ts) (length xs) same) i

final_stay : (xs : List Named) (ts bs : List ℕ) → length ts ≡ length xs → are_final (machines (targets_at xs ts)) bs ≡ are_final (machines xs) bs
final_stay [] ts bs same = refl
final_stay (x ∷ xs) [] bs same = let f : ⊥ = cc in absurd f
final_stay (x ∷ xs) (t ∷ ts) [] same = refl
final_stay (x ∷ xs) (t ∷ ts) (b ∷ bs) same = ap (λ (r : Bool). is_final x.target.beh b && r) (final_stay xs ts bs (one_less (length ts) (length xs) same))

at_stay : (xs : List Named) (ts bs : List ℕ) → length ts ≡ length xs → names_at (targets_at xs ts) bs ≡ names_at xs bs
at_stay [] ts bs same = refl
at_stay (x ∷ xs) [] bs same = let f : ⊥ = cc in absurd f
at_stay (x ∷ xs) (t ∷ ts) [] same = refl
at_stay (x ∷ xs) (t ∷ ts) (b ∷ bs) same = ap (λ (names : List (List ℕ)). slice_index_or x.target.states b [] ∷ names) (at_stay xs ts bs (one_less (length ts) (length xs) same))

-- The combination

-- the first rule that forbids a combination, by its sizes, actions and names
abbrev forbids : List ℕ → List Request → List (List ℕ) → List (List ℕ) → Option CombineError
forbids sizes requests states names =
    if nat_lt MAX_STATES (product_of sizes) then Some error.States
    else (if has_bad_count requests then Some error.Actions
    else (if list_any is_long states || list_any is_long names then Some error.LongName
    else (if has_repeats states || has_repeats names then Some error.Repeated
    else None)))

forbidding_is : (env : NamedEnv) (xs : List Named) → forbidding env xs ≡ forbids (target_sizes (machines xs)) (requests_in env xs) (combined_state_names xs) (request_names env xs)
unfolding forbidding
forbidding_is env xs = refl

forbids_same : (sizes sizes' : List ℕ) (requests requests' : List Request) (states states' names names' : List (List ℕ)) → sizes ≡ sizes' → requests ≡ requests' → states ≡ states' → names ≡ names' →
    forbids sizes requests states names ≡ forbids sizes' requests' states' names'
forbids_same sizes sizes' requests requests' states states' names names' h1 h2 h3 h4 =
    ap (λ (x : List ℕ). forbids x requests states names) h1 ∙ ap (λ (x : List Request). forbids sizes' x states names) h2
    ∙ ap (λ (x : List (List ℕ)). forbids sizes' requests' x names) h3 ∙ ap (forbids sizes' requests' states') h4

module _ (env : NamedEnv) (xs : List Named) (ts : List ℕ) (same : length ts ≡ length xs) (e : ℕ) where
  abbrev env_at : NamedEnv
  env_at = record env { env = record env.env { start = e } }

  abbrev xs_at : List Named
  xs_at = targets_at xs ts

  machines_many : length (machines xs_at) ≡ length (machines xs)
  machines_many = length-map xs_at (λ named. named.target.beh) ∙ many_stay xs ts same ∙ sym (length-map xs (λ named. named.target.beh))

  requests_stay : requests_in env_at xs_at ≡ requests_in env xs
  requests_stay =
      flat_map_same _ _ (below (length (machines xs_at))) (λ i. ap (λ (stands : ℕ → Bool). map (λ a. let r : Request = record { target = i; action = a } in r) (filter stands (below env.env.actions))) (stands_stay xs ts same i))
      ∙ ap (λ n. flat_map (λ i. map (λ a. let r : Request = record { target = i; action = a } in r) (filter (stands_in (slice_get (machines xs) i)) (below env.env.actions))) (below n)) machines_many

  state_names_stay : combined_state_names xs_at ≡ combined_state_names xs
  state_names_stay =
      ap (λ (sizes : List ℕ). map (λ t. joined (names_at xs_at (states_at sizes t))) (below (product_of sizes))) (sizes_stay xs ts same)
      ∙ map_same_in _ _ (below (product_of (target_sizes (machines xs)))) (λ t i. ap joined (at_stay xs ts (states_at (target_sizes (machines xs)) t) same))

  request_names_stay : request_names env_at xs_at ≡ request_names env xs
  request_names_stay =
      ap (λ (names : List (List ℕ)). map (λ (r : Request). slice_index_or env.actions r.action [] ++ 45 ∷ slice_index_or names r.target []) (requests_in env_at xs_at)) (names_stay xs ts same)
      ∙ ap (map (request_name env.actions xs)) requests_stay

  forbidding_stays : forbidding env_at xs_at ≡ forbidding env xs
  forbidding_stays = forbidding_is env_at xs_at ∙ forbids_same _ _ _ _ _ _ _ _ (sizes_stay xs ts same) requests_stay state_names_stay request_names_stay ∙ sym (forbidding_is env xs)

  target_stays : (n : ℕ) (requests : List Request) (t : ℕ) → states_number (target_sizes (machines xs)) ts ≡ t →
      combined_target n requests (machines xs_at) ≡ record (combined_target n requests (machines xs)) { start = t }
  target_stays n requests t number =
      let sizes = target_sizes (machines xs) in
      let begins : combined_start (machines xs_at) ≡ t =
      ap (λ (ns : List ℕ). states_number ns (map (λ target. target.start) (machines xs_at))) (sizes_stay xs ts same) ∙ ap (states_number sizes) (starts_are xs ts same) ∙ number in
      let final : (k : ℕ) → are_final (machines xs_at) (states_at sizes k) ≡ are_final (machines xs) (states_at sizes k) = λ k. final_stay xs ts (states_at sizes k) same in
      let goes : (r : Option Request) (k e l : ℕ) → targets_go (machines xs_at) r (states_at sizes k) e (states_at sizes l) ≡ targets_go (machines xs) r (states_at sizes k) e (states_at sizes l) = λ r k e l. request_goes r (states_at sizes k) e (states_at sizes l) in
      ap (λ (ns : List ℕ). beh_from n (length requests) (product_of ns) (combined_start (machines xs_at)) (λ k. are_final (machines xs_at) (states_at ns k)) (λ k e m l. targets_go (machines xs_at) (slice_get requests m) (states_at ns k) e (states_at ns l))) (sizes_stay xs ts same)
      ∙ ap (λ (b : ℕ). beh_from n (length requests) (product_of sizes) b (λ k. are_final (machines xs_at) (states_at sizes k)) (λ k e m l. targets_go (machines xs_at) (slice_get requests m) (states_at sizes k) e (states_at sizes l))) begins
      ∙ ap (λ (f : ℕ → Bool). beh_from n (length requests) (product_of sizes) t f (λ k e m l. targets_go (machines xs_at) (slice_get requests m) (states_at sizes k) e (states_at sizes l))) (λ j k. final k j)
      ∙ ap (λ (g : ℕ → ℕ → ℕ → ℕ → Bool). beh_from n (length requests) (product_of sizes) t (λ k. are_final (machines xs) (states_at sizes k)) g) (λ j k e m l. goes (slice_get requests m) k e l j)
    where
      request_goes : (r : Option Request) (ks : List ℕ) (e : ℕ) (ls : List ℕ) → targets_go (machines xs_at) r ks e ls ≡ targets_go (machines xs) r ks e ls
      request_goes None ks e ls = refl
      request_goes (Some r) ks e ls = ap (λ (goes : ℕ → ℕ → List ℕ → ℕ → List ℕ → Bool). goes r.target r.action ks e ls) (goes_stay xs ts same r.target)

-- the parts, with other starting states
abbrev begun : ℕ → ℕ → PlainCombined → PlainCombined
begun t e made = record {
  environment = record made.environment { env = record made.environment.env { start = e } };
  catalogue = made.catalogue;
  target = record made.target { beh = record made.target.beh { start = t } };
}

-- a combination in other starting states is the combination, except for its starting states
combined_stays : (env : NamedEnv) (catalogue : List NamedBeh) (xs : List Named) (ts : List ℕ) → length ts ≡ length xs → (t e : ℕ) → states_number (target_sizes (machines xs)) ts ≡ t →
    combined_parts (record env { env = record env.env { start = e } }) catalogue (targets_at xs ts) ≡ begun t e (combined_parts env catalogue xs)
unfolding combined_parts
combined_stays env catalogue xs ts same t e number =
    let names = request_names_stay env xs ts same e in
    let requests = requests_stay env xs ts same e in
    let Made = λ (names : List (List ℕ)) (requests : List Request) (states : List (List ℕ)) (beh : List Request → Beh). let M : PlainCombined = record {
      environment = record { states = env.states; actions = names; env = record (combined_env requests env.env) { start = e } };
      catalogue = map (combined_behaviour env requests) catalogue;
      target = record { states = states; env_states = env.env.states; actions = length requests; beh = beh requests };
    } in M in
    ap (λ (x : List (List ℕ)). Made x (requests_in (env_at env xs ts same e) (xs_at env xs ts same e)) (combined_state_names (targets_at xs ts)) (λ rs. combined_target env.env.states rs (machines (targets_at xs ts)))) names
    ∙ ap (λ (x : List Request). Made (request_names env xs) x (combined_state_names (targets_at xs ts)) (λ rs. combined_target env.env.states rs (machines (targets_at xs ts)))) requests
    ∙ ap (λ (x : List (List ℕ)). Made (request_names env xs) (requests_in env xs) x (λ rs. combined_target env.env.states rs (machines (targets_at xs ts)))) (state_names_stay env xs ts same e)
    ∙ ap (λ (b : Beh). Made (request_names env xs) (requests_in env xs) (combined_state_names xs) (λ rs. b)) (target_stays env xs ts same e env.env.states (requests_in env xs) t number)

-- The targets in the present states can be stated

targets_can_at : (env : NamedEnv) (e : ℕ) (xs : List Named) (ts : List ℕ) → AreBelow (target_sizes (machines xs)) ts → ((x : Named) → IsIn x xs → IsTrue (is_name x.name) × IsSayableTarget env x.target) →
    (y : Named) → IsIn y (targets_at xs ts) → IsTrue (is_name y.name) × IsSayableTarget (record env { env = record env.env { start = e } }) y.target
targets_can_at env e [] ts zip can y i = absurd i
targets_can_at env e (x ∷ xs) [] zip can y i = absurd zip
targets_can_at env e (x ∷ xs) (t ∷ ts) zip can y (inl same) =
    let (good, is) = can x (inl refl) in
    subst (λ (y : Named). IsTrue (is_name y.name) × IsSayableTarget (record env { env = record env.env { start = e } }) y.target) (sym same) (
      good,
      record {
        states = is.states;
        state_count = is.state_count;
        env_states = is.env_states;
        actions = is.actions;
        known = over_starts env.env.states env.env.actions x.target.beh t is.known zip.0;
        single = is.single;
        form = record { finals = is.form.finals; steps = is.form.steps; guards = is.form.guards };
        few = is.few;
      },
    )
targets_can_at env e (x ∷ xs) (t ∷ ts) zip can y (inr i) = targets_can_at env e xs ts zip.1 (λ z j. can z (inr j)) y i

-- the parts of the library of a document with several targets
record IsMadeOf (said : PlainTargets) (library : PlainLibrary) : Type 0 where
  env_states : library.environment.env.states ≡ said.environment.env.states
  target_states : library.target.beh.states ≡ product_of (target_sizes (machines said.targets))
  catalogue : library.catalogue ≡ map (combined_behaviour said.environment (requests_in said.environment said.targets)) said.catalogue

made_of : (said : PlainTargets) (library : PlainLibrary) →
    combined_parts said.environment said.catalogue said.targets ≡ record { environment = library.environment; catalogue = library.catalogue; target = library.target } → IsMadeOf said library
unfolding combined_parts
made_of said library parts = record {
  env_states = sym (ap (λ (m : PlainCombined). m.environment.env.states) parts);
  target_states = sym (ap (λ (m : PlainCombined). m.target.beh.states) parts);
  catalogue = sym (ap (λ (m : PlainCombined). m.catalogue) parts);
}

states_keep : (env : NamedEnv) (requests : List Request) (catalogue : List NamedBeh) (k : ℕ) → (beh_at (map (combined_behaviour env requests) catalogue) k).states ≡ (beh_at catalogue k).states
states_keep env requests [] k = refl
states_keep env requests (b ∷ catalogue) zero = refl
states_keep env requests (b ∷ catalogue) (suc k) = states_keep env requests catalogue k

zip_keeps : (one other : List NamedBeh) → ((k : ℕ) → (beh_at one k).states ≡ (beh_at other k).states) → (seats : List Seat) (bs : List ℕ) → AllZip (λ seat b. b < seat.beh.states) (map (seat_of one) seats) bs →
    AllZip (λ seat b. b < seat.beh.states) (map (seat_of other) seats) bs
zip_keeps one other same [] [] zip = tt
zip_keeps one other same [] (b ∷ bs) zip = absurd zip
zip_keeps one other same (seat ∷ seats) [] zip = absurd zip
zip_keeps one other same (seat ∷ seats) (b ∷ bs) zip = (subst (λ n. b < n) (same seat.behaviour) zip.0, zip_keeps one other same seats bs zip.1)

within_keeps : (one other : ℕ) → one ≡ other → (seats : List Seat) → AllByRecursion (λ (seat : Seat). seat.behaviour < one) seats → AllByRecursion (λ (seat : Seat). seat.behaviour < other) seats
within_keeps one other same seats = subst (λ n. AllByRecursion (λ (seat : Seat). seat.behaviour < one) seats → AllByRecursion (λ (seat : Seat). seat.behaviour < n) seats) same (λ all. all)

module _ (library : PlainLibrary) (said : PlainTargets) (combines : CombinesTargets said library) (can : AreSayable said library.services library.limit) (seats : List Seat) (here : Pair) (phase : Phase) where
  abbrev now : State
  now = record { parts = record (parts_of library) { seats = seats }; here = here; phase = phase }

  abbrev ts_now : List ℕ
  ts_now = states_at (target_sizes (machines said.targets)) here.t

  enough : length ts_now ≡ length said.targets
  enough = length-states_at (target_sizes (machines said.targets)) here.t ∙ length-map (machines said.targets) (λ target. target.states) ∙ length-map said.targets (λ named. named.target.beh)

  targets_sayable : IsNamedSys now.parts → HasNoRepeats (map seat_name seats) → IsPair (system_of now.parts) here → ((name : List ℕ) → IsIn name (map seat_name seats) → IsTrue (is_name name)) →
      AreSayable (said_at said here.t here.e) (services_in seats here.bs) library.limit
  targets_sayable sound once pair named =
      let of = made_of said library combines.parts in
      let less : here.e < said.environment.env.states = subst (λ n. here.e < n) of.env_states pair.e in
      let in_range : here.t < product_of (target_sizes (machines said.targets)) = subst (λ n. here.t < n) of.target_states pair.t in
      let many : length library.catalogue ≡ length said.catalogue = ap length of.catalogue ∙ length-map said.catalogue (combined_behaviour said.environment (requests_in said.environment said.targets)) in
      let zip : AllZip (λ seat b. b < seat.beh.states) (map (seat_of said.catalogue) seats) here.bs =
      zip_keeps library.catalogue said.catalogue (λ k. ap (λ (behs : List NamedBeh). (beh_at behs k).states) of.catalogue ∙ states_keep said.environment (requests_in said.environment said.targets) said.catalogue k) seats here.bs pair.bs in
      record {
        environment = record {
          states = can.environment.states;
          actions = can.environment.actions;
          state_count = can.environment.state_count;
          action_count = can.environment.action_count;
          known = env_starts said.environment.env here.e can.environment.known less;
          form = record { triples = can.environment.form.triples };
          few = can.environment.few;
        };
        catalogue = λ b i. let is = can.catalogue b i in record {
          name = is.name;
          states = is.states;
          state_count = is.state_count;
          env_states = is.env_states;
          actions = is.actions;
          known = is.known;
          form = is.form;
          few = is.few;
        };
        behaviours = can.behaviours;
        few_behaviours = can.few_behaviours;
        targets = targets_can_at said.environment here.e said.targets ts_now (AreBelow-at (target_sizes (machines said.targets)) here.t in_range) can.targets;
        names = subst HasNoRepeats (sym (names_stay said.targets ts_now enough)) can.names;
        count = (omega (arith, can.count.0, many_stay said.targets ts_now enough), omega (arith, can.count.1, many_stay said.targets ts_now enough));
        allowed = forbidding_stays said.environment said.targets ts_now enough here.e ∙ can.allowed;
        services = record {
          known = All-from_recursion (IsService said.catalogue) (services_in seats here.bs)
              (services_are said.catalogue seats here.bs (within_keeps (length library.catalogue) (length said.catalogue) many seats (recursion_from_All (λ (seat : Seat). seat.behaviour < length library.catalogue) seats sound.behaviours)) zip);
          names = subst HasNoRepeats (sym (service_names said.catalogue seats here.bs zip)) once;
        };
        few_services = omega (arith, few_present seats here.bs, sound.system.few, length-map seats (seat_of library.catalogue));
        named = λ x i. named x.name (subst (IsIn x.name) (service_names said.catalogue seats here.bs zip) (in_map service_name x (services_in seats here.bs) i));
        limit = can.limit;
      }

  targets_combine : IsPair (system_of now.parts) here → combined_library (said_at said here.t here.e) (services_in seats here.bs) library.limit ≡ afresh now
  targets_combine pair =
      let in_range : here.t < product_of (target_sizes (machines said.targets)) = subst (λ n. here.t < n) (made_of said library combines.parts).target_states pair.t in
      ap (λ (m : PlainCombined). let L : PlainLibrary = record { environment = m.environment; catalogue = m.catalogue; services = services_in seats here.bs; target = m.target; limit = library.limit } in L)
      (combined_stays said.environment said.catalogue said.targets ts_now enough here.t here.e (states_number-at (target_sizes (machines said.targets)) here.t in_range) ∙ ap (begun here.t here.e) combines.parts)

present_targets_said : SeveralAreSaid → (library : PlainLibrary) (said : PlainTargets) (s : State) → CombinesTargets said library → AreSayable said library.services library.limit → IsState library s → IsSound s → AreSaidAfresh said s
present_targets_said written library said s combines can is sound =
    let (sayable, same) = by s.parts is.parts sound.parts is.here in
    record {
      sayable = sayable;
      combines = same;
      means = λ texts document. written texts document (said_at said s.here.t s.here.e) (afresh s).services (afresh s).limit sayable ∙ ap Ok same;
      fits = omega (arith, present_cells s is.here, sound.parts.fits);
    }
  where
    by : (n : NamedSys) → n ≡ record (parts_of library) { seats = s.parts.seats } → IsNamedSys n → IsPair (system_of n) s.here →
        let x : State = record { parts = n; here = s.here; phase = s.phase } in
        AreSayable (said_at said s.here.t s.here.e) (afresh x).services (afresh x).limit × (combined_library (said_at said s.here.t s.here.e) (afresh x).services (afresh x).limit ≡ afresh x)
    by n same =
        subst (λ (n : NamedSys). IsNamedSys n → IsPair (system_of n) s.here →
        let x : State = record { parts = n; here = s.here; phase = s.phase } in
        AreSayable (said_at said s.here.t s.here.e) (afresh x).services (afresh x).limit × (combined_library (said_at said s.here.t s.here.e) (afresh x).services (afresh x).limit ≡ afresh x)) (sym same)
        (λ parts pair. (targets_sayable library said combines can s.parts.seats s.here s.phase parts is.names pair sound.named, targets_combine library said combines can s.parts.seats s.here s.phase pair))

pub present_targets : AcceptedNamesAreClear → AcceptedSeveralCanBeSaid → SeveralAreSaid → TargetsAreCombined → PresentTargetsAreSaid
present_targets clear accepted written combined texts document library s said reached names =
    let (is, sound) = reached_sound clear texts document library s reached in
    present_targets_said written library said s (combined texts document library said reached.means.0 names) (accepted texts document library said reached.means.0 names) is sound
