-- The written value of a part means that part.
use Rattle.roman_document_laws.proofs.Common.{◌≡◌, ℕ, zero, suc, ◌<◌, ◌≤◌, ◌&&◌, Bool, List, [], ◌∷◌, ◌++◌, map, length, Option, None, Some, codes, Result, Ok, IsTrue, slice_get, inl, inr, refl, sym, ap, ◌∙◌, subst, arith, ◌==◌, not, is_some, find, eqb-true, AllZip, and_parts, both_ways, cond-true, cond-false, not-true, eq-eqb, length-map, same_Some, Data, string, items_of, IsIn, HasNoRepeats, below, Env, Beh, Move, has_move, is_final, IsEnv, IsBeh, IsDeterministic, has, normal_env, normal_beh, MAX_STEPS, MAX_STATES, by_test, get_in, in_contains, filter_in, number_listed, listed_number, same_test, none_from, find_not_found, contains_in, triple_in, step_listed, listed_step, ◌>>=◌, each_item, pushing, text_of, member_of, is_name, IsListAt, AreItems, guarded_states, state_in, among_of, guard_of, names_of, finals_of, start_of, NamedEnv, NamedBeh, NamedTarget, IsOver, Rises, IsLess, IsNormalEnv, IsNormalBeh, IsPlace, BreaksPlace, IsTripleItem, IsMoveItem, triples_of, moves_of, list_value, place_value, behaviour_value, IsSayableEnv, IsSayableBeh, IsSayableTarget, names_value, places_value, triple_value, move_value, environment_value, target_value, CanList, PartsAreSaid, PartError, has_triple-normal, has_move-normal, is_final-normal, first_below-none, from_normal_triple, from_normal_move, env_read, as_object, is_one_of, states_below, in_states_below, states_below_are, name_at, choice_between, choice_at, choice_with, choice_of, refuse_choice, single_of, environment_of, name_of, behaviour_of, target_of, states_below-filter}
use Rattle.roman_document_laws.proofs.ListLemmas.{all_exact, appends}
use Rattle.roman_parts.specs.declared.error.List.{List as Place}
use Rattle.roman_parts.specs.declared.error.List.TheVariants as list
use Rattle.roman_document_laws.proofs.NormalForms.{forms_normal, forms_unique, rises_below, rises_filter, rises_same}
use Rattle.roman_document_laws.proofs.PartReadLemmas.{place_exact, lists_read}

-- Names and their places

there : (names : List (List ℕ)) (k : ℕ) → k < length names → slice_get names k ≡ Some (name_at names k)
there [] k h = absurd (omega (arith, h))
there (n ∷ ns) zero h = refl
there (n ∷ ns) (suc k) h = there ns k (omega (arith, h))

-- a name that occurs once occurs at one place
once_at : (names : List (List ℕ)) (j k : ℕ) (name : List ℕ) → HasNoRepeats names → j < k → slice_get names j ≡ Some name → slice_get names k ≡ Some name → ⊥
once_at [] j k name once less at_j at_k = let f : ⊥ = cc in f
once_at (n ∷ ns) j zero name once less at_j at_k = omega (arith, less)
once_at (n ∷ ns) zero (suc k) name once less at_j at_k = grind (arith, get_in, same_Some)
once_at (n ∷ ns) (suc j) (suc k) name once less at_j at_k = once_at ns j k name once.1 (omega (arith, less)) at_j at_k

pub is_place : (names : List (List ℕ)) (k : ℕ) → HasNoRepeats names → k < length names → IsPlace names (place_value names k) k
is_place names k once h = grind (arith, once_at, (there names k h))

texts_are : (names : List (List ℕ)) → AllZip (λ item name. text_of item ≡ Ok name) (map string names) names
texts_are [] = tt
texts_are (n ∷ ns) = (refl, texts_are ns)

-- Lists of items

-- written values are read as items, if each is read as its value after any items
are_each : {X : Type 0} (Is : List X → Data → X → Type 0) (value : X → Data) (before xs : List X) → ((before : List X) (x : X) → IsIn x xs → Is before (value x) x) → AreItems Is before (map value xs) xs
are_each Is value before [] each = tt
are_each Is value before (x ∷ xs) each = (each before x (inl refl), are_each Is value (before ++ x ∷ []) xs (λ b y i. each b y (inr i)))

-- Guards

rises_states : (test : ℕ → Bool) (n : ℕ) → Rises IsLess (states_below test n)
rises_states test n = subst (Rises IsLess) (sym (states_below-filter test n)) (rises_filter IsLess test (below n) (rises_below n))

-- a rising list of states lists exactly its own states
among_is : (n : ℕ) (G : List ℕ) → Rises IsLess G → ((e : ℕ) → IsIn e G → e < n) → states_below (is_one_of G) n ≡ G
among_is n G rises within =
    rises_same IsLess (states_below (is_one_of G) n) G (λ x y h i. omega arith) (rises_states _ _) rises
    (λ e i. number_listed _ _ (states_below_are _ _ _ (in_contains _ _ i)).1) (λ e i. contains_in _ _ (in_states_below _ _ _ (within e i) (listed_number _ _ i)))

guard_said : (states : List (List ℕ)) (i : ℕ) (G : List ℕ) → HasNoRepeats states → Rises IsLess G → ((e : ℕ) → IsIn e G → e < length states) → guarded_states states i (places_value states G) ≡ Ok G
unfolding guarded_states guard_of among_of state_in pushing
guard_said states i G once rises within =
    let steps = appends (λ k before d. state_in states i k d) (λ before d x. IsPlace states d x) (λ k before d e. BreaksPlace states list.Steps i d e) (λ k before d at. place_exact states list.Steps i d) in
    let are : AreItems (λ before d x. IsPlace states d x) [] (map (place_value states) G) G = are_each _ (place_value states) [] G (λ before k j. is_place states k once (within k j)) in
    let places : each_item (pushing (state_in states i)) 0 [] (items_of (map (place_value states) G)) ≡ Ok G = ((all_exact _ _ (λ k before d e. BreaksPlace states list.Steps i d e) steps (map (place_value states) G)).gives G).1 are in
    ap (λ (r : Result (List ℕ) PartError). (r >>= (λ places. Ok (is_one_of places))) >>= (λ set. Ok (states_below set (length states)))) places ∙ ap Ok (among_is (length states) G rises within)

-- The normal form of a normal record is the record

normal_env_is : (e : Env) → IsEnv e → IsNormalEnv e → normal_env e ≡ e
normal_env_is e is form =
    forms_unique.env (normal_env e) e (forms_normal.env e).form form (record {
      states = refl;
      actions = refl;
      start = refl;
      steps = λ b a c. same_test _ _ (λ t. (from_normal_triple e b a c t).3)
          (λ t. let (l, m, n) = is.triples (record { from = b; action = a; to = c }) (triple_in e b a c t) in has_triple-normal e b a c l m n ∙ t);
    })

normal_beh_is : (env_states actions : ℕ) (b : Beh) → IsOver env_states actions b → IsNormalBeh b → normal_beh env_states actions b ≡ b
normal_beh_is env_states actions b over form =
    let env : Env = record { states = env_states; actions = actions; start = 0; triples = [] } in
    let is : IsBeh env b = over env refl refl in
    forms_unique.beh (normal_beh env_states actions b) b (forms_normal.beh env_states actions b).form form (record {
      states = refl;
      start = refl;
      finals = λ x. same_test (is_final (normal_beh env_states actions b) x) (is_final b x)
          (λ t. (filter_in (is_final b) x (below b.states) (number_listed (normal_beh env_states actions b).finals x t)).1)
          (λ t. is_final-normal env_states actions b x (is.finals x (number_listed b.finals x t)) ∙ t);
      steps = λ x e a y. same_test (has_move (normal_beh env_states actions b) x e a y) (has_move b x e a y) (λ t. (from_normal_move env_states actions b x e a y t).4)
          (λ t.
          let h = step_listed b x e a y t in
          let (from, action, to) = is.steps h.step h.listed in
          has_move-normal env_states actions b x e a y (subst (λ n. n < b.states) h.from from) (is.guards h.step h.listed e h.guard)
          (subst (λ n. n < actions) h.action action) (subst (λ n. n < b.states) h.to to) ∙ t);
    })

-- No choices

between_none : (steps : List Move) (single : (x y : Move) (e : ℕ) → IsIn x steps → IsIn y steps → x.from ≡ y.from → x.action ≡ y.action → IsIn e x.guard → IsIn e y.guard → x.to ≡ y.to) (m n : Option Move) →
    ((x : Move) → m ≡ Some x → IsIn x steps) → ((x : Move) → n ≡ Some x → IsIn x steps) → choice_between m n ≡ None
unfolding choice_between
between_none steps single (Some x) (Some y) in_m in_n =
    by_test _ (λ yes.
    let (same, apart) = and_parts (x.from == y.from && x.action == y.action) (not (x.to == y.to)) yes in
    let (from, action) = and_parts (x.from == y.from) (x.action == y.action) same in
    let none : find (has y.guard) x.guard ≡ None = find_not_found _ x.guard (none_from _ x.guard (λ e i. by_test _
    (λ both. absurd (both_ways (x.to == y.to) (not-true (x.to == y.to) apart)
    (eq-eqb x.to y.to (single x y e (in_m x refl) (in_n y refl) (eqb-true x.from y.from from) (eqb-true x.action y.action action) i (number_listed y.guard e both)))))
    (λ fails. fails))) in
    cond-true (x.from == y.from && x.action == y.action && not (x.to == y.to)) (find (has y.guard) x.guard) None yes ∙ none)
    (λ other. cond-false (x.from == y.from && x.action == y.action && not (x.to == y.to)) (find (has y.guard) x.guard) None other)
between_none _ _ _ _ _ _ = refl

no_choice_in : (b : Beh) → IsDeterministic b → choice_of b.steps ≡ None
unfolding choice_of choice_with choice_at
no_choice_in b single =
    first_below-none (choice_with b.steps) (length b.steps) (length b.steps) (omega arith) (record {
      none = λ j l. first_below-none (choice_at b.steps j) j j (omega arith) (record {
        none = λ i less. between_none b.steps (λ x y e in_x in_y from action here there'.
            single x.from e x.action x.to y.to (listed_step b x.from e x.action x.to (record { step = x; listed = in_x; from = refl; action = refl; to = refl; guard = here }))
            (listed_step b x.from e x.action y.to (record { step = y; listed = in_y; from = sym from; action = sym action; to = refl; guard = there' })))
            (slice_get b.steps j) (slice_get b.steps i) (λ x h. get_in b.steps j x h) (λ x h. get_in b.steps i x h);
      });
    })

-- Parts

names_said : (place : Place) (name : List ℕ) (most : ℕ) (d : Data) (names : List (List ℕ)) → IsListAt d name (map string names) → CanList names most → names_of place name most d ≡ Ok names
names_said place name most d names at can = (lists_read.names place name most d names).1 (grind (arith, texts_are))

start_said : (d : Data) (states : List (List ℕ)) (k : ℕ) → member_of d (codes "start") ≡ Ok (place_value states k) → HasNoRepeats states → k < length states → start_of states d ≡ Ok k
unfolding start_of
start_said d states k at once less = rw at (((place_exact states list.Start 0 (place_value states k)).gives k).1 (is_place states k once less))

env_said : (env : NamedEnv) → IsSayableEnv env → environment_of (environment_value env) ≡ Ok env
env_said env is =
    let d = environment_value env in
    let start : env.env.start < length env.states = omega (arith, is.known.start, is.state_count) in
    let triples : triples_of env.states env.actions d ≡ Ok env.env.triples = ((lists_read.triples env.states env.actions).gives d env.env.triples).1 (record {
      items = map (triple_value env.states env.actions) env.env.triples;
      list = record { value = list_value (map (triple_value env.states env.actions) env.env.triples); there = refl; list = refl };
      fits = omega (arith, is.few, length-map env.env.triples (triple_value env.states env.actions));
      are = are_each (λ before d x. IsTripleItem env.states env.actions d x) (triple_value env.states env.actions) [] env.env.triples (λ before x i.
          let (from, action, to) = is.known.triples x i in
          grind (arith, (is_place env.states x.from is.states.once (omega (arith, from, is.state_count))), (is_place env.actions x.action is.actions.once (omega (arith, action, is.action_count))), (is_place env.states x.to is.states.once (omega (arith, to, is.state_count)))));
    }) in
    env_read _ _ _ _ _ refl (names_said _ _ _ _ _ (record { value = names_value env.states; there = refl; list = refl }) is.states)
    (start_said _ _ _ refl is.states.once start) (names_said _ _ _ _ _ (record { value = names_value env.actions; there = refl; list = refl }) is.actions) triples
    ∙ ap (λ (e : Env). Ok (record { states = env.states; actions = env.actions; env = e }))
    (ap normal_env (λ k. record { states = is.state_count k; actions = is.action_count k; start = env.env.start; triples = env.env.triples }) ∙ normal_env_is _ is.known is.form)

-- a step in range is read as itself, after any items
move_said : (env : NamedEnv) (states : List (List ℕ)) (b : Beh) (i : ℕ) (x : Move) → IsSayableEnv env → HasNoRepeats states → length states ≡ b.states → IsOver env.env.states env.env.actions b → IsNormalBeh b → IsIn x b.steps →
    IsMoveItem env.states env.actions states i (move_value env.states env.actions states x) x
move_said env states b i x env_is once count over form j =
    let is : IsBeh env.env b = over env.env refl refl in
    let (from, action, to) = is.steps x j in
    let guard = guard_said env.states i x.guard env_is.states.once (form.guards x j).0 (λ e g. let less = is.guards x j e g in omega (arith, less, env_is.state_count)) in
    grind (arith, guard, (is_place states x.from once (omega (arith, from, count))), (is_place env.actions x.action env_is.actions.once (omega (arith, action, env_is.action_count))), (is_place states x.to once (omega (arith, to, count))))

moves_said : (env : NamedEnv) (states : List (List ℕ)) (b : Beh) (d : Data) → IsSayableEnv env → HasNoRepeats states → length states ≡ b.states → IsOver env.env.states env.env.actions b → IsNormalBeh b → length b.steps ≤ MAX_STEPS →
    IsListAt d (codes "steps") (map (move_value env.states env.actions states) b.steps) → moves_of env.states env.actions states d ≡ Ok b.steps
moves_said env states b d env_is once count over form few at = ((lists_read.moves env.states env.actions states).gives d b.steps).1 (record {
  items = map (move_value env.states env.actions states) b.steps;
  list = at;
  fits = omega (arith, few, length-map b.steps (move_value env.states env.actions states));
  are = are_each (λ before d x. IsMoveItem env.states env.actions states (length before) d x) (move_value env.states env.actions states) [] b.steps
      (λ before x i. move_said env states b (length before) x env_is once count over form i);
})

finals_said : (env : Env) (states : List (List ℕ)) (b : Beh) (d : Data) → HasNoRepeats states → length states ≡ b.states → IsBeh env b → IsListAt d (codes "final") (map (place_value states) b.finals) → finals_of states d ≡ Ok b.finals
finals_said env states b d once count is at = ((lists_read.finals states).gives d b.finals).1 (record {
  items = map (place_value states) b.finals;
  list = at;
  fits = tt;
  are = are_each (λ before d k. IsPlace states d k) (place_value states) [] b.finals (λ before k i. is_place states k once (let less = is.finals k i in omega (arith, less, count)));
})

same_beh : (states : List (List ℕ)) (b : Beh) → length states ≡ b.states → ◌≡◌ {A = Beh} (record { states = length states; start = b.start; finals = b.finals; steps = b.steps }) b
same_beh states b h = rw h refl

beh_read : (env : NamedEnv) (d : Data) (name : List ℕ) (states : List (List ℕ)) (start : ℕ) (finals : List ℕ) (steps : List Move) → IsTrue (is_some (as_object d)) → name_of d ≡ Ok name →
    names_of list.States (codes "states") MAX_STATES d ≡ Ok states → start_of states d ≡ Ok start → finals_of states d ≡ Ok finals → moves_of env.states env.actions states d ≡ Ok steps →
    behaviour_of env d ≡ Ok (record {
      name = name;
      states = states;
      env_states = env.env.states;
      actions = env.env.actions;
      beh = normal_beh env.env.states env.env.actions (record { states = length states; start = start; finals = finals; steps = steps });
    })
unfolding behaviour_of
beh_read env d name states start finals steps object h0 h1 h2 h3 h4 = rw (object, h0, h1, h2, h3, h4) refl

pub name_said : (d : Data) (name : List ℕ) → member_of d (codes "name") ≡ Ok (string name) → IsTrue (is_name name) → name_of d ≡ Ok name
unfolding name_of
name_said d name at named = rw (at, named) refl

beh_said : (env : NamedEnv) (b : NamedBeh) → IsSayableEnv env → IsSayableBeh env b → behaviour_of env (behaviour_value env b) ≡ Ok b
beh_said env b env_is is =
    let d = behaviour_value env b in
    let known : IsBeh env.env b.beh = is.known env.env refl refl in
    let start : b.beh.start < length b.states = omega (arith, known.start, is.state_count) in
    let read = beh_read env d b.name b.states b.beh.start b.beh.finals b.beh.steps refl (name_said d b.name refl is.name) (names_said list.States _ MAX_STATES d b.states (record { value = names_value b.states; there = refl; list = refl }) is.states)
    (start_said d b.states b.beh.start refl is.states.once start)
    (finals_said env.env b.states b.beh d is.states.once is.state_count known (record { value = places_value b.states b.beh.finals; there = refl; list = refl }))
    (moves_said env b.states b.beh d env_is is.states.once is.state_count is.known is.form is.few (record { value = list_value (map (move_value env.states env.actions b.states) b.beh.steps); there = refl; list = refl })) in
    grind (arith, read, (same_beh b.states b.beh is.state_count), (normal_beh_is env.env.states env.env.actions b.beh is.known is.form))

target_read : (env : NamedEnv) (d : Data) (states : List (List ℕ)) (start : ℕ) (finals : List ℕ) (steps : List Move) → IsTrue (is_some (as_object d)) → names_of list.States (codes "states") MAX_STATES d ≡ Ok states →
    start_of states d ≡ Ok start → finals_of states d ≡ Ok finals → moves_of env.states env.actions states d ≡ Ok steps → single_of env.states steps ≡ Ok steps →
    target_of env d ≡ Ok (record {
      states = states;
      env_states = env.env.states;
      actions = env.env.actions;
      beh = normal_beh env.env.states env.env.actions (record { states = length states; start = start; finals = finals; steps = steps });
    })
unfolding target_of
target_read env d states start finals steps object h1 h2 h3 h4 h5 = rw (object, h1, h2, h3, h4, h5) refl

single_said : (env_states : List (List ℕ)) (b : Beh) → IsDeterministic b → single_of env_states b.steps ≡ Ok b.steps
unfolding single_of
single_said env_states b single = ap (refuse_choice env_states b.steps) (no_choice_in b single)

-- a value with the members of a target, and maybe others, is read as that target
pub target_said_by : (env : NamedEnv) (t : NamedTarget) (d : Data) → IsTrue (is_some (as_object d)) → member_of d (codes "states") ≡ Ok (names_value t.states) → member_of d (codes "start") ≡ Ok (place_value t.states t.beh.start) →
    member_of d (codes "final") ≡ Ok (places_value t.states t.beh.finals) → member_of d (codes "steps") ≡ Ok (list_value (map (move_value env.states env.actions t.states) t.beh.steps)) →
    IsSayableEnv env → IsSayableTarget env t → target_of env d ≡ Ok t
target_said_by env t d object has_states has_start has_finals has_steps env_is is =
    let known : IsBeh env.env t.beh = is.known env.env refl refl in
    let start : t.beh.start < length t.states = omega (arith, known.start, is.state_count) in
    grind (arith, (target_read env d t.states t.beh.start t.beh.finals t.beh.steps object (names_said list.States _ MAX_STATES d t.states (record { value = names_value t.states; there = has_states; list = refl }) is.states) (start_said d t.states t.beh.start has_start is.states.once start) (finals_said env.env t.states t.beh d is.states.once is.state_count known (record { value = places_value t.states t.beh.finals; there = has_finals; list = refl })) (moves_said env t.states t.beh d env_is is.states.once is.state_count is.known is.form is.few (record { value = list_value (map (move_value env.states env.actions t.states) t.beh.steps); there = has_steps; list = refl })) (single_said env.states t.beh is.single)), (same_beh t.states t.beh is.state_count), (normal_beh_is env.env.states env.env.actions t.beh is.known is.form))

target_said : (env : NamedEnv) (t : NamedTarget) → IsSayableEnv env → IsSayableTarget env t → target_of env (target_value env t) ≡ Ok t
target_said env t = target_said_by env t (target_value env t) refl refl refl refl refl

pub parts_said : PartsAreSaid
parts_said = record { environment = env_said; behaviour = beh_said; target = target_said }
