-- Parts and libraries that were read can be stated, and their names are distinct.
use Rattle.roman_document_laws.proofs.Common.{AcceptedCanBeSaid, AcceptedNamesAreClear, HasClearNames, PartsCanBeSaid, AcceptedNameTargets, AreBefore, AreItems, Beh, Bool, CanList, Data, Env, Err, HasNoRepeats, IsDeterministic, IsEnv, IsFalse, IsIn, IsLibrary, IsMoveBefore, IsOver, IsSayable, IsSayableBeh, IsSayableEnv, IsSayableTarget, IsTripleBefore, IsTrue, List, MAX_ACTIONS, MAX_STATES, MAX_STEPS, Move, NamedBeh, NamedEnv, NamedTarget, NamesTargets, Ok, PartError, PlainCombined, PlainLibrary, PlainTargets, Result, Rises, Service, Some, Texts, Triple, [], any_false, ap, are_allowed, arith, as_object, behaviour_in, behaviour_known, behaviour_name, behaviour_of, below, bind_ok, both_ways, cases_eq, catalogue_in, check, check_is, codes, combined_behaviour, combined_of, combined_parts, combined_state_names, cond, environment_in, environment_known, environment_of, eqb-true, false, finals_of, from_map, from_normal_move, from_normal_triple, has_repeats, in_below, in_map, inl, inr, is_name, is_some, length, length-map, libraries_known, library_in, library_of, limit_of, looked, member_of, listed_in, listed_step, listed_triple, map, moves_of, name_of, names_of, new_behaviour_of, new_name_of, no_longer, normal_beh, normal_env, or_parts, part_of, parts_in, place_of, located, located_is, refl, request_names, requests_in, same_Some, same_ok, service_of, services_of, single_of, slice_get, slice_get_within, slice_index_or, stands_before, start_of, step_listed, subst, suc, sym, take, target_in, target_known, target_of, targets_combined, targets_in, there_some, triple_in, triples_of, true, value_at, version_of, zero, ℕ, ◌++◌, ◌<◌, ◌==◌, ◌>>=◌, ◌∙◌, ◌∷◌, ◌≡◌, ◌≤◌, ◌⊎◌, get_or_from_slice_get}
use Rattle.roman_read.specs.declared.rules.Kind.TheVariants as kind
use Rattle.roman_parts.specs.declared.error.List.{List as Place}
use Rattle.roman_parts.specs.declared.error.List.TheVariants as list
use Rattle.roman_library.specs.declared.refusal.Part.TheVariants as part
use Rattle.roman_document_laws.proofs.NormalForms.{first_of, forms_normal}
use Rattle.roman_document_laws.proofs.PartReadLemmas.{in_place, lists_read}
use Rattle.roman_document_laws.proofs.DocumentReadLemmas.{document_lists_read}

-- Lists that rise have no repeats

rises_once : {X Y : Type 0} (Before : X → X → Type 0) (key : X → Y) → ((x y : X) → Before x y → key x ≡ key y → ⊥) → (xs : List X) → Rises Before xs → HasNoRepeats (map key xs)
rises_once Before key apart [] rises = tt
rises_once Before key apart (x ∷ xs) rises = (
  λ i. let (y, j, e) = from_map key (key x) xs i in apart x y (rises.0 y j) e,
  rises_once Before key apart xs rises.1,
)

before_apart : (a b c x y z : ℕ) → AreBefore (a, b, c) (x, y, z) → ◌≡◌ {A = ℕ × ℕ × ℕ} (a, b, c) (x, y, z) → ⊥
before_apart a b c x y z less same =
    let one : a ≡ x = ap (λ (k : ℕ × ℕ × ℕ). k.0) same in
    let two : b ≡ y = ap (λ (k : ℕ × ℕ × ℕ). k.1) same in
    let three : c ≡ z = ap (λ (k : ℕ × ℕ × ℕ). k.2) same in
    grind arith

-- A normal form has at most as many triples and steps

triple_key : Triple → ℕ × ℕ × ℕ
triple_key x = (x.from, x.action, x.to)

few_triples : (env : Env) → length (normal_env env).triples ≤ length env.triples
unfolding triple_key
few_triples env =
    let normal = normal_env env in
    let few = no_longer (map triple_key normal.triples) (map triple_key env.triples)
    (rises_once IsTripleBefore triple_key (λ x y. before_apart x.from x.action x.to y.from y.action y.to) normal.triples (forms_normal.env env).form.triples)
    (λ k i.
    let (x, j, e) = from_map triple_key k normal.triples i in
    subst (λ (k : ℕ × ℕ × ℕ). IsIn k (map triple_key env.triples)) (sym e)
    (in_map triple_key x env.triples (triple_in env x.from x.action x.to (from_normal_triple env x.from x.action x.to (listed_triple normal x.from x.action x.to j)).3))) in
    omega (arith, few, length-map normal.triples triple_key, length-map env.triples triple_key)

move_key : Move → ℕ × ℕ × ℕ
move_key x = (x.from, x.action, x.to)

same_key : (x y : Move) → x.from ≡ y.from → x.action ≡ y.action → x.to ≡ y.to → move_key x ≡ move_key y
unfolding move_key
same_key x y from action to = rw (from, action, to) refl

few_steps : (env_states actions : ℕ) (beh : Beh) → length (normal_beh env_states actions beh).steps ≤ length beh.steps
unfolding move_key
few_steps env_states actions beh =
    let normal = normal_beh env_states actions beh in
    let form = (forms_normal.beh env_states actions beh).form in
    let few = no_longer (map move_key normal.steps) (map move_key beh.steps)
    (rises_once IsMoveBefore move_key (λ x y. before_apart x.from x.action x.to y.from y.action y.to) normal.steps form.steps)
    (λ k i.
    let (m, j, e) = from_map move_key k normal.steps i in
    let (n, g) = first_of m.guard (form.guards m j).1 in
    let moves = listed_step normal m.from n m.action m.to (record { step = m; listed = j; from = refl; action = refl; to = refl; guard = g }) in
    let old = step_listed beh m.from n m.action m.to (from_normal_move env_states actions beh m.from n m.action m.to moves).4 in
    subst (λ (k : ℕ × ℕ × ℕ). IsIn k (map move_key beh.steps)) (same_key old.step m old.from old.action old.to ∙ sym e) (in_map move_key old.step beh.steps old.listed)) in
    omega (arith, few, length-map normal.steps move_key, length-map beh.steps move_key)

-- Items and their values

items_long : {X : Type 0} (Is : List X → Data → X → Type 0) (before : List X) (ds : List Data) (xs : List X) → AreItems Is before ds xs → length xs ≡ length ds
items_long Is before [] [] are = refl
items_long Is before (d ∷ ds) (x ∷ xs) are = ap suc (items_long Is (before ++ x ∷ []) ds xs are.1)
items_long _ _ _ _ are = absurd are

pub items_each : {X : Type 0} (Is : List X → Data → X → Type 0) (Keeps : X → Type 0) → ((before : List X) (d : Data) (x : X) → Is before d x → Keeps x) →
    (before : List X) (ds : List Data) (xs : List X) → AreItems Is before ds xs → (x : X) → IsIn x xs → Keeps x
items_each Is Keeps keeps before [] [] are x i = absurd i
items_each Is Keeps keeps before (d ∷ ds) (y ∷ xs) are x (inl e) = subst Keeps (sym e) (keeps before d y are.0)
items_each Is Keeps keeps before (d ∷ ds) (y ∷ xs) are x (inr i) = items_each Is Keeps keeps (before ++ y ∷ []) ds xs are.1 x i
items_each _ _ _ _ _ _ are _ _ = absurd are

-- Parts

can_list : (place : Place) (name : List ℕ) (most : ℕ) (d : Data) (names : List (List ℕ)) → names_of place name most d ≡ Ok names → CanList names most
can_list place name most d names h =
    let are = (lists_read.names place name most d names).0 h in
    record { some = are.some; few = are.few; named = are.named; once = are.once }

pub is_named : (d : Data) (name : List ℕ) → name_of d ≡ Ok name → IsTrue (is_name name)
unfolding name_of
is_named d name h = grind (arith, bind_ok, check_is)

env_can : (d : Data) (env : NamedEnv) → environment_of d ≡ Ok env → IsSayableEnv env
unfolding environment_of
env_can d env h =
    let (whole, e, h1) = bind_ok (check (is_some (as_object d)) kind.Form list.Whole 0 d) _ env h in
    let (states, e1, h2) = bind_ok (names_of list.States (codes "states") MAX_STATES whole) _ env h1 in
    let (start, e2, h3) = bind_ok (start_of states whole) _ env h2 in
    let (actions, e3, h4) = bind_ok (names_of list.Actions (codes "actions") MAX_ACTIONS whole) _ env h3 in
    let (steps, e4, h5) = bind_ok (triples_of states actions whole) _ env h4 in
    let read = ((lists_read.triples states actions).gives whole steps).0 e4 in
    let raw : Env = record { states = length states; actions = length actions; start = start; triples = steps } in
    let same = same_ok _ env h5 in
    subst IsSayableEnv same (record {
      states = can_list list.States (codes "states") MAX_STATES whole states e1;
      actions = can_list list.Actions (codes "actions") MAX_ACTIONS whole actions e3;
      state_count = refl;
      action_count = refl;
      known = subst (λ (x : NamedEnv). IsEnv x.env) (sym same) (environment_known d env h).known;
      form = (forms_normal.env raw).form;
      few = omega (arith, (few_triples raw), (items_long _ [] read.items steps read.are), read.fits);
    })

-- the steps that were read are few, and so are those of their normal form
moves_few : (env : NamedEnv) (states : List (List ℕ)) (d : Data) (start : ℕ) (finals : List ℕ) (steps : List Move) → moves_of env.states env.actions states d ≡ Ok steps →
    length (normal_beh env.env.states env.env.actions (record { states = length states; start = start; finals = finals; steps = steps })).steps ≤ MAX_STEPS
moves_few env states d start finals steps h =
    let read = ((lists_read.moves env.states env.actions states).gives d steps).0 h in
    omega (arith, (few_steps env.env.states env.env.actions (record { states = length states; start = start; finals = finals; steps = steps })), (items_long _ [] read.items steps read.are), read.fits)

beh_can : (env : NamedEnv) (d : Data) (b : NamedBeh) → behaviour_of env d ≡ Ok b → IsSayableBeh env b
unfolding behaviour_of
beh_can env d b h =
    let (whole, e, h1) = bind_ok (check (is_some (as_object d)) kind.Form list.Whole 0 d) _ b h in
    let (name, e0, h2) = bind_ok (name_of whole) _ b h1 in
    let (states, e1, h3) = bind_ok (names_of list.States (codes "states") MAX_STATES whole) _ b h2 in
    let (start, e2, h4) = bind_ok (start_of states whole) _ b h3 in
    let (finals, e3, h5) = bind_ok (finals_of states whole) _ b h4 in
    let (steps, e4, h6) = bind_ok (moves_of env.states env.actions states whole) _ b h5 in
    let same = same_ok _ b h6 in
    subst (IsSayableBeh env) same (record {
      name = is_named whole name e0;
      states = can_list list.States (codes "states") MAX_STATES whole states e1;
      state_count = refl;
      env_states = refl;
      actions = refl;
      known = subst (λ (x : NamedBeh). IsOver env.env.states env.env.actions x.beh) (sym same)
          (let is = (behaviour_known env d b h).known in rw (sym is.env_states, sym is.actions) is.known);
      form = (forms_normal.beh env.env.states env.env.actions (record { states = length states; start = start; finals = finals; steps = steps })).form;
      few = moves_few env states whole start finals steps e4;
    })

pub target_can : (env : NamedEnv) (d : Data) (t : NamedTarget) → target_of env d ≡ Ok t → IsSayableTarget env t
unfolding target_of single_of
target_can env d t h =
    let (whole, e, h1) = bind_ok (check (is_some (as_object d)) kind.Form list.Whole 0 d) _ t h in
    let (states, e1, h2) = bind_ok (names_of list.States (codes "states") MAX_STATES whole) _ t h1 in
    let (start, e2, h3) = bind_ok (start_of states whole) _ t h2 in
    let (finals, e3, h4) = bind_ok (finals_of states whole) _ t h3 in
    let (moves, e4, h5) = bind_ok (moves_of env.states env.actions states whole) _ t h4 in
    let (steps, e5, h6) = bind_ok (single_of env.states moves) _ t h5 in
    let same = same_ok _ t h6 in
    let is = target_known env d t h in
    subst (IsSayableTarget env) same (record {
      states = can_list list.States (codes "states") MAX_STATES whole states e1;
      state_count = refl;
      env_states = refl;
      actions = refl;
      known = subst (λ (x : NamedTarget). IsOver env.env.states env.env.actions x.beh) (sym same) (rw (sym is.env_states, sym is.actions) is.known);
      single = subst (λ (x : NamedTarget). IsDeterministic x.beh) (sym same) is.single;
      form = (forms_normal.beh env.env.states env.env.actions (record { states = length states; start = start; finals = finals; steps = steps })).form;
      few = moves_few env states whole start finals steps (e4 ∙ ap Ok (same_moves env.states moves steps e5));
    })
  where
    same_moves : (env_states : List (List ℕ)) (moves steps : List Move) → single_of env_states moves ≡ Ok steps → moves ≡ steps
    same_moves env_states moves steps h = grind (arith, same_ok)

pub parts_can : PartsCanBeSaid
parts_can = record { environment = env_can; behaviour = beh_can; target = target_can }

-- Behaviours, services and the target

behaviour_can : (texts : Texts) (document : List ℕ) (env : NamedEnv) (before : List NamedBeh) (d : Data) (b : NamedBeh) → behaviour_in texts document env before (length before) d ≡ Ok b → IsSayableBeh env b
unfolding listed_in new_behaviour_of
behaviour_can texts document env before d b h =
    let (p, e, h1) = bind_ok (part_of texts document (part.Behaviour (length before)) d) _ b h in
    let (name, e1, h2) = bind_ok (new_name_of (map behaviour_name before) p.1) _ b (located_is p.0 (part.Behaviour (length before)) (new_behaviour_of env before p.1) b h1) in
    beh_can env p.1 b h2

pub behaviours_can : (texts : Texts) (document : List ℕ) (env : NamedEnv) (d : Data) (xs : List NamedBeh) → catalogue_in texts document env d ≡ Ok xs → (b : NamedBeh) → IsIn b xs → IsSayableBeh env b
behaviours_can texts document env d xs h =
    let read = ((document_lists_read.behaviours texts document env).gives d xs).0 h in
    items_each _ (IsSayableBeh env) (behaviour_can texts document env) [] read.items xs read.are

service_named : (version : ℕ) (catalogue : List NamedBeh) (before : List Service) (d : Data) (x : Service) → service_of version catalogue before d ≡ Ok x → IsTrue (is_name x.name)
unfolding service_of new_name_of
service_named version catalogue before d x h = grind (arith, bind_ok, check_is, is_named, same_ok)

services_named : (document : List ℕ) (version : ℕ) (catalogue : List NamedBeh) (d : Data) (xs : List Service) → services_of document version catalogue d ≡ Ok xs → (x : Service) → IsIn x xs → IsTrue (is_name x.name)
services_named document version catalogue d xs h =
    let read = ((document_lists_read.services document version catalogue).gives d xs).0 h in
    items_each _ (λ (x : Service). IsTrue (is_name x.name)) (service_named version catalogue) [] read.items xs read.are

pub environment_can : (texts : Texts) (document : List ℕ) (d : Data) (env : NamedEnv) → environment_in texts document d ≡ Ok env → IsSayableEnv env
unfolding environment_in
environment_can texts document d env h =
    let (member, e, h1) = bind_ok (located document part.Environment (looked list.Whole 0 (member_of d (codes "environment")))) _ env h in
    let (p, e1, h2) = bind_ok (part_of texts document part.Environment member) _ env h1 in
    env_can p.1 env (located_is p.0 part.Environment (environment_of p.1) env h2)

one_target_can : (texts : Texts) (document : List ℕ) (env : NamedEnv) (d : Data) (t : NamedTarget) → target_in texts document env d ≡ Ok t → IsSayableTarget env t
unfolding target_in
one_target_can texts document env d t h =
    let (member, e, h1) = bind_ok (located document (part.Target 0) (looked list.Whole 0 (member_of d (codes "target")))) _ t h in
    let (p, e1, h2) = bind_ok (part_of texts document (part.Target 0) member) _ t h1 in
    target_can env p.1 t (located_is p.0 (part.Target 0) (target_of env p.1) t h2)

-- Libraries

-- the value of an accepted document
value_there : (texts : Texts) (document : List ℕ) (library : PlainLibrary) → library_of texts document ≡ Ok library → (value : Data) × (value_at texts document part.System ≡ Ok value) × (library_in texts document value ≡ Ok library)
unfolding library_of
value_there texts document library h = bind_ok (value_at texts document part.System) (library_in texts document) library h

-- the parts that were read of a document with one target
record IsRead (texts : Texts) (document : List ℕ) (value : Data) (library : PlainLibrary) : Type 0 where
  version : ℕ
  environment : environment_in texts document value ≡ Ok library.environment
  catalogue : catalogue_in texts document library.environment value ≡ Ok library.catalogue
  services : services_of document version library.catalogue value ≡ Ok library.services
  target : target_in texts document library.environment value ≡ Ok library.target

one_made : (texts : Texts) (document : List ℕ) (version : ℕ) (env : NamedEnv) (catalogue : List NamedBeh) (d : Data) (made : PlainCombined) → (version ≡ 3 → ⊥) → parts_in texts document version env catalogue d ≡ Ok made →
    (target : NamedTarget) × (target_in texts document env d ≡ Ok target) × (record { environment = env; catalogue = catalogue; target = target } ≡ made)
unfolding parts_in
one_made texts document version env catalogue d made never h = by (version == 3) refl h
  where
    by : (several : Bool) → version == 3 ≡ several → cond several (targets_in texts document env d >>= (λ targets. located document part.System (combined_of env catalogue targets)))
        (target_in texts document env d >>= (λ target. Ok (record { environment = env; catalogue = catalogue; target = target }))) ≡ Ok made →
        (target : NamedTarget) × (target_in texts document env d ≡ Ok target) × (record { environment = env; catalogue = catalogue; target = target } ≡ made)
    by true e g = absurd (never (eqb-true version 3 e))
    by false e g = let (target, e1, g1) = bind_ok (target_in texts document env d) _ made g in (target, e1, same_ok _ made g1)

is_read : (texts : Texts) (document : List ℕ) (value : Data) (library : PlainLibrary) → library_in texts document value ≡ Ok library → (version_of value ≡ Ok 3 → ⊥) → IsRead texts document value library
unfolding library_in
is_read texts document value library h never =
    let (version, e, h1) = bind_ok (located document part.System (version_of value)) _ library h in
    let (limit, e1, h2) = bind_ok (located document part.System (limit_of value)) _ library h1 in
    let (env, e2, h3) = bind_ok (environment_in texts document value) _ library h2 in
    let (catalogue, e3, h4) = bind_ok (catalogue_in texts document env value) _ library h3 in
    let (services, e4, h5) = bind_ok (services_of document version catalogue value) _ library h4 in
    let (made, e5, h6) = bind_ok (parts_in texts document version env catalogue value) _ library h5 in
    let reads = located_is document part.System (version_of value) version e in
    let (target, e6, same) = one_made texts document version env catalogue value made (λ third. never (reads ∙ ap Ok third)) e5 in
    subst (IsRead texts document value) (ap (λ (m : PlainCombined). let L : PlainLibrary = record { environment = m.environment; catalogue = m.catalogue; services = services; target = m.target; limit = limit } in L) same ∙ same_ok _ library h6)
    (record { version = version; environment = e2; catalogue = e3; services = e4; target = e6 })

read_can : (texts : Texts) (document : List ℕ) (value : Data) (library : PlainLibrary) → IsLibrary library → IsRead texts document value library → IsSayable library
read_can texts document value library known read = record {
  known = known;
  environment = environment_can texts document value library.environment read.environment;
  catalogue = behaviours_can texts document library.environment value library.catalogue read.catalogue;
  target = one_target_can texts document library.environment value library.target read.target;
  services = services_named document read.version library.catalogue value library.services read.services;
}

-- each accepted document names several targets, or can be stated with one
accepted_as : AcceptedNameTargets → (texts : Texts) (document : List ℕ) (library : PlainLibrary) → library_of texts document ≡ Ok library → ((said : PlainTargets) × NamesTargets texts document said) ⊎ IsSayable library
accepted_as named texts document library h =
    let (value, reads, means) = value_there texts document library h in
    by value reads means (version_of value) refl
  where
    by : (value : Data) → value_at texts document part.System ≡ Ok value → library_in texts document value ≡ Ok library → (version : Result ℕ PartError) → version_of value ≡ version → ((said : PlainTargets) × NamesTargets texts document said) ⊎ IsSayable library
    by value reads means (Err why) e = inr (read_can texts document value library (libraries_known texts document library h).known (is_read texts document value library means (λ third. let f : ⊥ = cc in f)))
    by value reads means (Ok version) e = elim (cases_eq version 3) [
      | inl third ↦ inl (named texts document library value h reads (e ∙ ap Ok third))
      | inr other ↦ inr (read_can texts document value library (libraries_known texts document library h).known (is_read texts document value library means (λ third. other (same_ok version 3 (sym e ∙ third)))))
    ]

pub accepted_can : AcceptedNameTargets → AcceptedCanBeSaid
accepted_can named texts document library h one = elim (accepted_as named texts document library h) [ inl (said, names) ↦ absurd (one said names) | inr can ↦ can ]

-- Names

in_front : (names : List (List ℕ)) (i j : ℕ) (name : List ℕ) → i < j → slice_get names i ≡ Some name → IsIn name (take j names)
in_front [] i j name less at = cc
in_front (n ∷ ns) i zero name less at = absurd (omega (arith, less))
in_front (n ∷ ns) zero (suc j) name less at = inl (sym (same_Some n name at))
in_front (n ∷ ns) (suc i) (suc j) name less at = inr (in_front ns i j name (omega (arith, less)) at)

once_from : (names : List (List ℕ)) → ((i j : ℕ) (name : List ℕ) → i < j → slice_get names i ≡ Some name → slice_get names j ≡ Some name → ⊥) → HasNoRepeats names
once_from [] apart = tt
once_from (n ∷ ns) apart = (
  λ i. let (k, place) = there_some ns n i in apart 0 (suc k) n (omega arith) refl (in_place ns n k place).0,
  once_from ns (λ i j name less at_i at_j. apart (suc i) (suc j) name (omega (arith, less)) at_i at_j),
)

apart_once : (names : List (List ℕ)) → IsFalse (has_repeats names) → HasNoRepeats names
apart_once names none = once_from names (λ i j name less at_i at_j.
    let (k, place) = there_some (take j names) name (in_front names i j name less at_i) in
    let new : IsFalse (stands_before names j) = any_false (stands_before names) j (below (length names)) none (in_below (length names) j (slice_get_within names j name at_j)) in
    let there : IsTrue (is_some (place_of (take j names) (slice_index_or names j []))) = ap is_some (ap (place_of (take j names)) (get_or_from_slice_get names j name [] at_j) ∙ place) in
    both_ways _ new there)

-- the services of an accepted document have valid names
pub accepted_named : (texts : Texts) (document : List ℕ) (library : PlainLibrary) → library_of texts document ≡ Ok library → (x : Service) → IsIn x library.services → IsTrue (is_name x.name)
unfolding library_in
accepted_named texts document library h =
    let (value, reads, means) = value_there texts document library h in
    let (version, e, h1) = bind_ok (located document part.System (version_of value)) _ library means in
    let (limit, e1, h2) = bind_ok (located document part.System (limit_of value)) _ library h1 in
    let (env, e2, h3) = bind_ok (environment_in texts document value) _ library h2 in
    let (catalogue, e3, h4) = bind_ok (catalogue_in texts document env value) _ library h3 in
    let (services, e4, h5) = bind_ok (services_of document version catalogue value) _ library h4 in
    let (made, e5, h6) = bind_ok (parts_in texts document version env catalogue value) _ library h5 in
    subst (λ (l : PlainLibrary). (x : Service) → IsIn x l.services → IsTrue (is_name x.name)) (same_ok _ library h6) (services_named document version catalogue value services e4)

combined_clear : (said : PlainTargets) (library : PlainLibrary) → ((b : NamedBeh) → IsIn b said.catalogue → IsSayableBeh said.environment b) →
    combined_parts said.environment said.catalogue said.targets ≡ record { environment = library.environment; catalogue = library.catalogue; target = library.target } → IsSayableEnv said.environment →
    IsFalse (has_repeats (combined_state_names said.targets)) → IsFalse (has_repeats (request_names said.environment said.targets)) → IsLibrary library → ((x : Service) → IsIn x library.services → IsTrue (is_name x.name)) →
    HasClearNames library
unfolding combined_parts
combined_clear said library behaviours parts env states actions known named = record {
  actions = subst HasNoRepeats (ap (λ (m : PlainCombined). m.environment.actions) parts) (apart_once _ actions);
  environment = subst HasNoRepeats (ap (λ (m : PlainCombined). m.environment.states) parts) env.states.once;
  behaviours = known.catalogue.names;
  states = λ b i.
      let (x, j, e) = from_map (combined_behaviour said.environment (requests_in said.environment said.targets)) b said.catalogue (subst (IsIn b) (sym (ap (λ (m : PlainCombined). m.catalogue) parts)) i) in
      subst (λ (b : NamedBeh). HasNoRepeats b.states) (sym e) (behaviours x j).states.once;
  services = known.services.names;
  named = named;
  target = subst HasNoRepeats (ap (λ (m : PlainCombined). m.target.states) parts) (apart_once _ states);
  single = known.target.single;
}

several_clear : (texts : Texts) (document : List ℕ) (library : PlainLibrary) (said : PlainTargets) → library_of texts document ≡ Ok library → NamesTargets texts document said → HasClearNames library
several_clear texts document library said h names =
    let is = targets_combined texts document library said h names in
    let apart = or_parts (has_repeats (combined_state_names said.targets)) (has_repeats (request_names said.environment said.targets)) (are_allowed said.environment said.targets is.allowed).apart in
    combined_clear said library (behaviours_can texts document said.environment names.value said.catalogue names.catalogue) is.parts (environment_can texts document names.value said.environment names.environment) apart.0 apart.1
    (libraries_known texts document library h).known (accepted_named texts document library h)

pub names_clear : AcceptedNameTargets → AcceptedNamesAreClear
names_clear named texts document library h = elim (accepted_as named texts document library h) [
  | inl (said, names) ↦ several_clear texts document library said h names
  | inr can ↦ record {
    actions = can.environment.actions.once;
    environment = can.environment.states.once;
    behaviours = can.known.catalogue.names;
    states = λ b i. (can.catalogue b i).states.once;
    services = can.known.services.names;
    named = can.services;
    target = can.target.states.once;
    single = can.target.single;
  }
]
