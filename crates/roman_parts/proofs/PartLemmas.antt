-- The value of a document that is read as a part is well formed.
use Rattle.roman_parts.proofs.Common.{◌≡◌, ℕ, ◌+◌, ◌<◌, ◌≤◌, Bool, List, [], length, Option, Some, None, is_some, Ok, IsTrue, refl, sym, ap, ◌∙◌, subst, arith, length-append, is_none, codes, and_parts, Data, Items, no_items, item, as_object, IsIn, normal_env, Beh, Move, IsEnv, Triple, MAX_STATES, MAX_ACTIONS, each_item, any_from, choice_of, single_of, with_name_read, place_in, names_of, start_of, finals_of, NamedEnv, NamedBeh, NamedTarget, IsBehaviour, IsTarget, position_or_len, bytes_eq, position-Some, bytes_eq-Decides, items_len, place_of, Kind, same_ok, bind_ok, place_of-present, environment_of, name_of, behaviour_of, target_of, found, check, items_at, counted_items, triples_of, moves_of}
use Rattle.roman_read.specs.declared.rules.Kind.TheVariants as kind
use Rattle.roman_parts.specs.declared.error.List.{List as Place}
use Rattle.roman_parts.specs.declared.error.List.TheVariants as list
use Rattle.roman_parts.proofs.NormalLemmas.{IsEnv-normal, IsOver-normal}
use Rattle.roman_parts.proofs.SingleLemmas.{single_moves}

-- Readings that succeed

pub check_is : {X : Type 0} (b : Bool) (rule : Kind) (list : Place) (i : ℕ) (x y : X) → check b rule list i x ≡ Ok y → IsTrue b × (x ≡ y)
check_is b rule list i x y h = grind (arith, same_ok)

pub found_is : {X : Type 0} (rule : Kind) (list : Place) (i : ℕ) (o : Option X) (x : X) → found rule list i o ≡ Ok x → o ≡ Some x
found_is rule list i o x h = grind (arith, same_ok)

pub none_is : {X : Type 0} (o : Option X) → IsTrue (is_none o) → o ≡ None
none_is o h = grind arith

-- Lists

-- the items of a member that is a list, and their number
pub record AreCounted (list : Place) (member : List ℕ) (least most : ℕ) (d : Data) (items : Items) : Type 0 where
  pub are : items_at list member d ≡ Ok items
  pub some : least ≤ items_len items
  pub few : items_len items ≤ most

pub counted_are : (list : Place) (member : List ℕ) (least most : ℕ) (d : Data) (items : Items) → counted_items list member least most d ≡ Ok items → AreCounted list member least most d items
unfolding counted_items
counted_are list member least most d items h = grind (arith, and_parts, bind_ok, check_is)

name_grows : (list : Place) (i : ℕ) (names : List (List ℕ)) (d : Data) (out : List (List ℕ)) → with_name_read list i names d ≡ Ok out → length out ≡ length names + 1
unfolding with_name_read
name_grows list i names d out h = grind (arith, bind_ok, check_is, length-append)

names_grow : (list : Place) (i : ℕ) (names : List (List ℕ)) (items : Items) (out : List (List ℕ)) → each_item (with_name_read list) i names items ≡ Ok out → length out ≡ length names + items_len items
unfolding each_item
names_grow list i names no_items out h = let e : length names ≡ length out = ap length (same_ok names out h) in omega arith
names_grow list i names (item d ds) out h =
    let (more, e, h1) = bind_ok (with_name_read list i names d) _ out h in
    let one = name_grows list i names d more e in
    let rest = names_grow list (i + 1) more ds out h1 in
    omega arith

pub names_counted : (list : Place) (member : List ℕ) (most : ℕ) (d : Data) (names : List (List ℕ)) → names_of list member most d ≡ Ok names → (0 < length names) × (length names ≤ most)
unfolding names_of
names_counted list member most d names h =
    let (items, e, h1) = bind_ok (counted_items list member 1 most d) _ names h in
    let counted = counted_are list member 1 most d items e in
    let count = names_grow list 0 [] items names h1 in
    (omega (arith, counted.some, count), omega (arith, counted.few, count))

pub place_below : (names : List (List ℕ)) (list : Place) (i : ℕ) (d : Data) (k : ℕ) → place_in names list i d ≡ Ok k → k < length names
unfolding place_in
place_below names list i d k h = grind (arith, bind_ok, found_is, position-Some)

pub start_below : (states : List (List ℕ)) (d : Data) (k : ℕ) → start_of states d ≡ Ok k → k < length states
unfolding start_of
start_below states d k h = grind (arith, bind_ok, place_below)

-- Parts

-- the environment is in range, and each of its states and actions has a name
pub record IsEnvironment (env : NamedEnv) : Type 0 where
  pub known : IsEnv env.env
  pub states : length env.states ≡ env.env.states
  pub actions : length env.actions ≡ env.env.actions

pub environment_known : (d : Data) (env : NamedEnv) → environment_of d ≡ Ok env → IsEnvironment env
unfolding environment_of
environment_known d env h =
    let (whole, e, h1) = bind_ok (check (is_some (as_object d)) kind.Form list.Whole 0 d) _ env h in
    let (states, e1, h2) = bind_ok (names_of list.States (codes "states") MAX_STATES whole) _ env h1 in
    let (start, e2, h3) = bind_ok (start_of states whole) _ env h2 in
    let (actions, e3, h4) = bind_ok (names_of list.Actions (codes "actions") MAX_ACTIONS whole) _ env h3 in
    let (steps, e4, h5) = bind_ok (triples_of states actions whole) _ env h4 in
    subst IsEnvironment (same_ok _ env h5) (record {
      known = IsEnv-normal (record { states = length states; actions = length actions; start = start; triples = steps })
          (names_counted list.States (codes "states") MAX_STATES whole states e1) (names_counted list.Actions (codes "actions") MAX_ACTIONS whole actions e3) (start_below states whole start e2);
      states = refl;
      actions = refl;
    })

-- the behaviour is over the environment, and has the name that was read
pub record IsNamedBehaviour (env : NamedEnv) (d : Data) (b : NamedBeh) : Type 0 where
  pub known : IsBehaviour env b
  pub name : name_of d ≡ Ok b.name

pub behaviour_known : (env : NamedEnv) (d : Data) (b : NamedBeh) → behaviour_of env d ≡ Ok b → IsNamedBehaviour env d b
unfolding behaviour_of
behaviour_known env d b h =
    let (whole, e, h1) = bind_ok (check (is_some (as_object d)) kind.Form list.Whole 0 d) _ b h in
    let (object, same) = check_is (is_some (as_object d)) kind.Form list.Whole 0 d whole e in
    let (name, e0, h2) = bind_ok (name_of whole) _ b h1 in
    let (states, e1, h3) = bind_ok (names_of list.States (codes "states") MAX_STATES whole) _ b h2 in
    let (start, e2, h4) = bind_ok (start_of states whole) _ b h3 in
    let (finals, e3, h5) = bind_ok (finals_of states whole) _ b h4 in
    let (steps, e4, h6) = bind_ok (moves_of env.states env.actions states whole) _ b h5 in
    subst (IsNamedBehaviour env d) (same_ok _ b h6) (record {
      known = record {
        env_states = refl;
        actions = refl;
        names = refl;
        known = IsOver-normal env.env.states env.env.actions (record { states = length states; start = start; finals = finals; steps = steps })
            (names_counted list.States (codes "states") MAX_STATES whole states e1) (start_below states whole start e2);
      };
      name = ap name_of same ∙ e0;
    })

choice_free : (env_states : List (List ℕ)) (moves steps : List Move) → single_of env_states moves ≡ Ok steps → (choice_of moves ≡ None) × (moves ≡ steps)
unfolding single_of
choice_free env_states moves steps h = grind (arith, same_ok)

pub target_known : (env : NamedEnv) (d : Data) (t : NamedTarget) → target_of env d ≡ Ok t → IsTarget env t
unfolding target_of
target_known env d t h =
    let (whole, e, h1) = bind_ok (check (is_some (as_object d)) kind.Form list.Whole 0 d) _ t h in
    let (states, e1, h2) = bind_ok (names_of list.States (codes "states") MAX_STATES whole) _ t h1 in
    let (start, e2, h3) = bind_ok (start_of states whole) _ t h2 in
    let (finals, e3, h4) = bind_ok (finals_of states whole) _ t h3 in
    let (moves, e4, h5) = bind_ok (moves_of env.states env.actions states whole) _ t h4 in
    let (steps, e5, h6) = bind_ok (single_of env.states moves) _ t h5 in
    let (none, same) = choice_free env.states moves steps e5 in
    let beh : Beh = record { states = length states; start = start; finals = finals; steps = steps } in
    subst (IsTarget env) (same_ok _ t h6) (record {
      env_states = refl;
      actions = refl;
      names = refl;
      known = IsOver-normal env.env.states env.env.actions beh (names_counted list.States (codes "states") MAX_STATES whole states e1) (start_below states whole start e2);
      single = single_moves env.env.states env.env.actions beh (sym (ap choice_of same) ∙ none);
    })

-- Places of names

pub there_some : (names : List (List ℕ)) (text : List ℕ) → IsIn text names → (k : ℕ) × (place_of names text ≡ Some k)
there_some names text there = (position_or_len (bytes_eq text) names, place_of-present names text (any_from (bytes_eq text) text names there ((bytes_eq-Decides text text).1 refl)))

pub none_absent : (names : List (List ℕ)) (text : List ℕ) → place_of names text ≡ None → IsIn text names → ⊥
none_absent names text none there = let (k, some) = there_some names text there in cc

-- An environment is read if its parts are.

pub env_read : (d : Data) (states actions : List (List ℕ)) (start : ℕ) (triples : List Triple) → IsTrue (is_some (as_object d)) → names_of list.States (codes "states") MAX_STATES d ≡ Ok states → start_of states d ≡ Ok start →
    names_of list.Actions (codes "actions") MAX_ACTIONS d ≡ Ok actions → triples_of states actions d ≡ Ok triples →
    environment_of d ≡ Ok (record { states = states; actions = actions; env = normal_env (record { states = length states; actions = length actions; start = start; triples = triples }) })
unfolding environment_of
env_read d states actions start triples object h1 h2 h3 h4 = rw (object, h1, h2, h3, h4) refl
