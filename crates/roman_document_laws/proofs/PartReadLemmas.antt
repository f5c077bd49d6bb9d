-- Lists of names, final states and steps: their values, and their refusals.
use Rattle.roman_document_laws.proofs.Common.{AllZip-long, ◌≡◌, ◌≢◌, ℕ, ◌<◌, ◌≤◌, ◌&&◌, ◌↔◌, inl, inr, Bool, true, false, List, [], ◌∷◌, ◌++◌, length, Option, Some, None, nat_le, codes, Result, Ok, Err, IsTrue, slice_get, refl, sym, ap, ◌∙◌, subst, arith, get_or, is_none, IsFalse, leb-true, true≢false, AllZip, and_parts, and_from, both_ways, le-leb, cases_order, same_Some, slice_get-get_or, get_or_from_slice_get, Data, Items, no_items, item, items_len, items_of, IsIn, HasNoRepeats, MAX_STEPS, by_test, from_push, get_in, any_true, in_push, in_append_left, ◌>>=◌, each_item, pushing, text_of, list_of, member_of, kind_of, AreItems, is_name, place_of, Kind, Miss, same_ok, place_of-absent, guarded_states, names_of, place_in, name_in, finals_of, with_name_read, counted_items, looked, found, check, items_at, IsPlace, BreaksPlace, IsTripleItem, IsMoveItem, IsNewName, BreaksName, BreaksTriple, BreaksMove, ReadsList, AreNames, ListsAreRead, triples_of, moves_of, three_of, four_of, triple_item, move_item, PartError, bytes_eq, position-Some, bytes_eq-Decides, Refused, none_is, there_some, none_absent}
use Rattle.roman_read.specs.declared.rules.Kind.TheVariants as kind
use Rattle.roman_document_laws.proofs.ListLemmas.{same_err, IsExact, exact_as, exact_then, exact_and, exact_map, exact_same, listed, items_listed, items_count, AddsExactly, appends, IsListing, list_exact}
use Rattle.roman_parts.specs.declared.error.List.{List as Place}
use Rattle.roman_parts.specs.declared.error.List.TheVariants as list

-- Looks and tests

exact_looked : {X : Type 0} (list : Place) (i : ℕ) (r : Result X Miss) → IsExact (looked list i r) (λ x. r ≡ Ok x) (λ e. (miss : Miss) × (r ≡ Err miss) × (e ≡ Refused (kind_of miss) list i))
exact_looked list i (Ok y) = record { gives = λ x. (λ h. ap Ok (same_ok y x h), λ h. ap Ok (same_ok y x h)); refuses = λ e. (λ h. let f : ⊥ = cc in absurd f, λ (miss, h, is). let f : ⊥ = cc in absurd f) }
exact_looked list i (Err miss) = record { gives = λ x. (λ h. cc, λ h. cc); refuses = λ e. (λ h. (miss, refl, sym (same_err (Refused (kind_of miss) list i) e h)), λ (other, h, is). cc) }

exact_check : {X : Type 0} (b : Bool) (rule : Kind) (list : Place) (i : ℕ) (x : X) → IsExact (check b rule list i x) (λ y. IsTrue b × (x ≡ y)) (λ e. IsFalse b × (e ≡ Refused rule list i))
exact_check true rule list i x = record { gives = λ y. (λ h. (refl, same_ok x y h), λ is. ap Ok is.1); refuses = λ e. (λ h. let f : ⊥ = cc in absurd f, λ is. absurd (true≢false is.0)) }
exact_check false rule list i x = record { gives = λ y. (λ h. cc, λ is. absurd (true≢false (sym is.0))); refuses = λ e. (λ h. (refl, sym (same_err (Refused rule list i) e h)), λ is. ap Err (sym is.1)) }

exact_found : {X : Type 0} (rule : Kind) (list : Place) (i : ℕ) (o : Option X) → IsExact (found rule list i o) (λ x. o ≡ Some x) (λ e. (o ≡ None) × (e ≡ Refused rule list i))
exact_found rule list i None = record { gives = λ x. (λ h. cc, λ h. cc); refuses = λ e. (λ h. (refl, sym (same_err (Refused rule list i) e h)), λ is. ap Err (sym is.1)) }
exact_found rule list i (Some y) = record { gives = λ x. (λ h. ap Some (same_ok y x h), λ h. ap Ok (same_Some y x h)); refuses = λ e. (λ h. let f : ⊥ = cc in absurd f, λ is. let none = is.0 in let f : ⊥ = cc in absurd f) }

-- Places of names

itself : (name : List ℕ) → IsTrue (bytes_eq name name)
itself name = (bytes_eq-Decides name name).1 refl

pub in_place : (names : List (List ℕ)) (text : List ℕ) (k : ℕ) → place_of names text ≡ Some k → (slice_get names k ≡ Some text) × ((j : ℕ) → j < k → slice_get names j ≡ Some text → ⊥)
in_place names text k h = grind (arith, both_ways, (bytes_eq-Decides text (get_or names k [])), get_or_from_slice_get, (itself text), (position-Some (bytes_eq text) names k), (slice_get-get_or names k))

-- a name occurs first at only one place
place_from : (names : List (List ℕ)) (text : List ℕ) (k : ℕ) → slice_get names k ≡ Some text → ((j : ℕ) → j < k → slice_get names j ≡ Some text → ⊥) → place_of names text ≡ Some k
place_from names text k there first =
    let (i, found) = there_some names text (get_in names k text there) in
    let (here, before) = in_place names text i found in
    grind (arith, cases_order)

pub absent_none : (names : List (List ℕ)) (text : List ℕ) → (IsIn text names → ⊥) → place_of names text ≡ None
absent_none names text never = grind (arith, any_true, by_test, bytes_eq-Decides, place_of-absent)

pub place_exact : (names : List (List ℕ)) (list : Place) (i : ℕ) (d : Data) → IsExact (place_in names list i d) (IsPlace names d) (BreaksPlace names list i d)
unfolding place_in
place_exact names list i d =
    exact_as _ _ _ _ _ (exact_then (looked list i (text_of d)) _ _ _ _ _ (exact_looked list i (text_of d)) (λ text reads. exact_found kind.Unknown list i (place_of names text)))
    (λ k. (
      λ (text, reads, place). let (there, first) = in_place names text k place in record { name = text; text = reads; there = there; first = first },
      λ is. (is.name, is.text, place_from names is.name k is.there is.first),
    ))
    (λ e. (grind (arith, none_absent), grind (arith, absent_none)))

-- Lists in a member

items_exact : (list : Place) (name : List ℕ) (d : Data) → IsListing name (λ rule. Refused rule list 0) (λ n. Unit {0}) d (items_at list name d)
unfolding items_at
items_exact list name d =
    exact_as _ _ _ _ _ (exact_then (looked list 0 (member_of d name)) _ _ _ _ _ (exact_looked list 0 (member_of d name)) (λ value there. exact_looked list 0 (list_of value)))
    (grind (arith, items_listed))
    (λ e. (grind arith, grind arith))

within_is : (least most n : ℕ) → IsTrue (nat_le least n && nat_le n most) ↔ ((least ≤ n) × (n ≤ most))
within_is least most n = grind (arith, and_parts, leb-true, and_from, le-leb)

pub counted_exact : (list : Place) (name : List ℕ) (least most : ℕ) (Fits : ℕ → Type 0) → ((n : ℕ) → ((least ≤ n) × (n ≤ most)) ↔ Fits n) → (d : Data) →
    IsListing name (λ rule. Refused rule list 0) Fits d (counted_items list name least most d)
unfolding counted_items
counted_exact list name least most Fits fits d =
    exact_as _ _ _ _ _ (exact_then (items_at list name d) _ _ _ _ _ (items_exact list name d) (λ items at. exact_check (nat_le least (items_len items) && nat_le (items_len items) most) kind.Count list 0 items))
    (λ items. (grind (arith, within_is, items_count, fits), grind (arith, within_is, items_count, fits)))
    (λ e. (grind (arith, within_is, items_count, fits, both_ways), grind (arith, within_is, items_count, fits, by_test)))

-- Names

name_exact : (list : Place) (i : ℕ) (before : List (List ℕ)) (d : Data) → IsExact (with_name_read list i before d) (λ out. (name : List ℕ) × (before ++ name ∷ [] ≡ out) × IsNewName before d name) (BreaksName list i before d)
unfolding with_name_read
name_exact list i before d =
    exact_as _ _ _ _ _ (exact_then (name_in list i d) _ _ _ _ _ (exact_then (looked list i (text_of d)) _ _ _ _ _ (exact_looked list i (text_of d)) (λ text reads. exact_check (is_name text) kind.BadName list i text))
    (λ name is. exact_check (is_none (place_of before name)) kind.Repeated list i (before ++ name ∷ [])))
    (λ out. (grind (arith, none_is, none_absent), grind (arith, absent_none)))
    (λ e. (grind (arith, some_there), grind (arith, there_some)))
  where
    some_there : (names : List (List ℕ)) (text : List ℕ) (o : Option ℕ) → place_of names text ≡ o → IsFalse (is_none o) → IsIn text names
    some_there names text None e fails = absurd (true≢false fails)
    some_there names text (Some k) e fails = get_in names k text (in_place names text k e).0

names_added : (list : Place) → AddsExactly (with_name_read list) IsNewName (BreaksName list)
names_added list = λ i before d at. name_exact list i before d

-- names after some others: each is a name, and none occurs twice or among the others
record AreNamesAfter (before : List (List ℕ)) (ds : List Data) (names : List (List ℕ)) : Type 0 where
  texts : AllZip (λ item name. text_of item ≡ Ok name) ds names
  named : (name : List ℕ) → IsIn name names → IsTrue (is_name name)
  once : HasNoRepeats names
  new : (name : List ℕ) → IsIn name names → IsIn name before → ⊥

names_are : (before : List (List ℕ)) (ds : List Data) (names : List (List ℕ)) → AreItems IsNewName before ds names → AreNamesAfter before ds names
names_are before [] [] are = record { texts = tt; named = λ n i. absurd i; once = tt; new = λ n i. absurd i }
names_are before (d ∷ ds) (n ∷ ns) are = grind (arith, in_append_left, in_push, (names_are (before ++ n ∷ []) ds ns are.1))
names_are _ _ _ are = absurd are

are_names : (before : List (List ℕ)) (ds : List Data) (names : List (List ℕ)) → AreNamesAfter before ds names → AreItems IsNewName before ds names
are_names before [] [] are = tt
are_names before [] (n ∷ ns) are = absurd are.texts
are_names before (d ∷ ds) [] are = absurd are.texts
are_names before (d ∷ ds) (n ∷ ns) are = grind (arith, from_push, (are_names (before ++ n ∷ []) ds ns))

some_few : ℕ → ℕ → Type 0
some_few most n = (0 < n) × (n ≤ most)

-- the items of a member, which are then added one by one
list_reads : {X : Type 0} (add : ℕ → List X → Data → Result (List X) PartError) (Is : List X → Data → X → Type 0) (Breaks : ℕ → List X → Data → PartError → Type 0) → AddsExactly add Is Breaks →
    (list : Place) (name : List ℕ) (Fits : ℕ → Type 0) (r : Data → Result Items PartError) → ((d : Data) → IsListing name (λ rule. Refused rule list 0) Fits d (r d)) → ReadsList list name Fits Is Breaks (λ d. r d >>= each_item add 0 [])
list_reads add Is Breaks ok list name Fits r listing = record {
  gives = λ d. (list_exact add Is Breaks ok name (λ rule. Refused rule list 0) Fits d (r d) (listing d)).gives;
  refuses = λ d. (list_exact add Is Breaks ok name (λ rule. Refused rule list 0) Fits d (r d) (listing d)).refuses;
}

names_read : (list : Place) (name : List ℕ) (most : ℕ) → ReadsList list name (λ n. (0 < n) × (n ≤ most)) IsNewName (BreaksName list) (names_of list name most)
unfolding names_of some_few
names_read list name most = list_reads (with_name_read list) IsNewName (BreaksName list) (names_added list) list name (some_few most) (counted_items list name 1 most) (counted_exact list name 1 most (some_few most) (λ n. (grind arith, grind arith)))

names_exact : (list : Place) (name : List ℕ) (most : ℕ) (d : Data) (names : List (List ℕ)) → (names_of list name most d ≡ Ok names → AreNames name most d names) × (AreNames name most d names → names_of list name most d ≡ Ok names)
names_exact list name most d names = (
  λ h.
      let is = ((names_read list name most).gives d names).0 h in
      let are = names_are [] is.items names is.are in
      let count = AllZip-long (λ item name. text_of item ≡ Ok name) is.items names are.texts in
      record { items = is.items; list = is.list; texts = are.texts; some = omega (arith, is.fits.0, count); few = omega (arith, is.fits.1, count); named = are.named; once = are.once },
  λ is.
      let count = AllZip-long (λ item name. text_of item ≡ Ok name) is.items names is.texts in
      ((names_read list name most).gives d names).1 (grind (arith, are_names)),
)

-- Final states

finals_read : (states : List (List ℕ)) → ReadsList list.Finals (codes "final") (λ n. Unit {0}) (λ before d b. IsPlace states d b) (λ i before d e. BreaksPlace states list.Finals i d e) (finals_of states)
unfolding finals_of pushing
finals_read states =
    list_reads (pushing (place_in states list.Finals)) (λ before d b. IsPlace states d b) (λ i before d e. BreaksPlace states list.Finals i d e)
    (appends (λ i before d. place_in states list.Finals i d) _ _ (λ i before d at. place_exact states list.Finals i d)) list.Finals (codes "final") (λ n. Unit {0}) (items_at list.Finals (codes "final")) (items_exact list.Finals (codes "final"))

-- Rows of three and of four

three_is : (items : Items) (a b c : Data) → three_of items ≡ Some (a, b, c) → items ≡ items_of (a ∷ b ∷ c ∷ [])
three_is (item x (item y (item z no_items))) a b c h = grind (arith, same_Some)
three_is _ a b c h = cc

not_three : (items : Items) → three_of items ≡ None → length (listed items) ≢ 3
not_three (item x (item y (item z no_items))) h = cc
not_three _ h = λ e. omega (arith, e)

no_three : (ds : List Data) → length ds ≢ 3 → three_of (items_of ds) ≡ None
no_three (x ∷ y ∷ z ∷ []) h = absurd (h refl)
no_three _ h = refl

four_is : (items : Items) (a b c d : Data) → four_of items ≡ Some (a, b, c, d) → items ≡ items_of (a ∷ b ∷ c ∷ d ∷ [])
four_is (item x (item y (item z (item w no_items)))) a b c d h = grind (arith, same_Some)
four_is _ a b c d h = cc

not_four : (items : Items) → four_of items ≡ None → length (listed items) ≢ 4
not_four (item x (item y (item z (item w no_items)))) h = cc
not_four _ h = λ e. omega (arith, e)

no_four : (ds : List Data) → length ds ≢ 4 → four_of (items_of ds) ≡ None
no_four (x ∷ y ∷ z ∷ w ∷ []) h = absurd (h refl)
no_four _ h = refl

-- Steps of environments

triple_exact : (states actions : List (List ℕ)) (i : ℕ) (d : Data) → IsExact (triple_item states actions i d) (IsTripleItem states actions d) (BreaksTriple states actions i [] d)
unfolding triple_item
triple_exact states actions i d =
    exact_as _ _ _ _ _ (exact_then (looked list.Steps i (list_of d)) _ _ _ _ _ (exact_looked list.Steps i (list_of d)) (λ items row.
    exact_then (found kind.Form list.Steps i (three_of items)) _ _ _ _ _ (exact_found kind.Form list.Steps i (three_of items)) (λ parts three.
    exact_and (place_in states list.Steps i parts.0) _ _ _ _ _ (place_exact states list.Steps i parts.0) (λ from from_is.
    exact_and (place_in actions list.Steps i parts.1) _ _ _ _ _ (place_exact actions list.Steps i parts.1) (λ action action_is.
    exact_map (place_in states list.Steps i parts.2) (λ to. record { from = from; action = action; to = to }) _ _ (place_exact states list.Steps i parts.2))))))
    (λ x. (grind (arith, three_is), λ is. (items_of (is.from ∷ is.action ∷ is.to ∷ []), is.items, ((is.from, is.action, is.to), refl, (x.from, is.from_is, (x.action, is.action_is, (x.to, is.to_is, refl)))))))
    (λ e. (
      λ bad. elim bad [
        | inl missed ↦ inl (inl missed)
        | inr (items, row, inl (none, is)) ↦ inl (inr (listed items, row ∙ ap Ok (sym (items_listed items)), not_three items none, is))
        | inr (items, row, inr ((a, b, c), three, faulty)) ↦ inr (a, b, c, row ∙ ap Ok (three_is items a b c three), faulty)
      ],
      grind (arith, no_three),
    ))

at_most_steps : ℕ → Type 0
at_most_steps n = n ≤ MAX_STEPS

steps_listing : (d : Data) → IsListing (codes "steps") (λ rule. Refused rule list.Steps 0) at_most_steps d (counted_items list.Steps (codes "steps") 0 MAX_STEPS d)
unfolding at_most_steps
steps_listing d = counted_exact list.Steps (codes "steps") 0 MAX_STEPS at_most_steps (λ n. (grind arith, grind arith)) d

triples_read : (states actions : List (List ℕ)) → ReadsList list.Steps (codes "steps") (λ n. n ≤ MAX_STEPS) (λ before d x. IsTripleItem states actions d x) (BreaksTriple states actions) (triples_of states actions)
unfolding triples_of at_most_steps pushing
triples_read states actions =
    list_reads (pushing (triple_item states actions)) (λ before d x. IsTripleItem states actions d x) (BreaksTriple states actions)
    (appends (λ i before d. triple_item states actions i d) _ _ (λ i before d at. triple_exact states actions i d)) list.Steps (codes "steps") at_most_steps (counted_items list.Steps (codes "steps") 0 MAX_STEPS) steps_listing

-- Steps of behaviours

move_exact : (env_states actions states : List (List ℕ)) (i : ℕ) (d : Data) → IsExact (move_item env_states actions states i d) (IsMoveItem env_states actions states i d) (BreaksMove env_states actions states i [] d)
unfolding move_item
move_exact env_states actions states i d =
    exact_as _ _ _ _ _ (exact_then (looked list.Steps i (list_of d)) _ _ _ _ _ (exact_looked list.Steps i (list_of d)) (λ items row.
    exact_then (found kind.Form list.Steps i (four_of items)) _ _ _ _ _ (exact_found kind.Form list.Steps i (four_of items)) (λ parts four.
    exact_and (place_in states list.Steps i parts.0) _ _ _ _ _ (place_exact states list.Steps i parts.0) (λ from from_is.
    exact_then (guarded_states env_states i parts.1) _ _ _ _ _ (exact_same (guarded_states env_states i parts.1)) (λ guard guard_is.
    exact_and (place_in actions list.Steps i parts.2) _ _ _ _ _ (place_exact actions list.Steps i parts.2) (λ action action_is.
    exact_map (place_in states list.Steps i parts.3) (λ to. record { from = from; guard = guard; action = action; to = to }) _ _ (place_exact states list.Steps i parts.3)))))))
    (λ x. (
      grind (arith, four_is),
      λ is. (items_of (is.from ∷ is.guard ∷ is.action ∷ is.to ∷ []), is.items, ((is.from, is.guard, is.action, is.to), refl, (x.from, is.from_is, (x.guard, is.guard_is, (x.action, is.action_is, (x.to, is.to_is, refl)))))),
    ))
    (λ e. (
      λ bad. elim bad [
        | inl missed ↦ inl (inl missed)
        | inr (items, row, inl (none, is)) ↦ inl (inr (listed items, row ∙ ap Ok (sym (items_listed items)), not_four items none, is))
        | inr (items, row, inr ((a, g, b, c), four, faulty)) ↦ inr (a, g, b, c, row ∙ ap Ok (four_is items a g b c four), faulty)
      ],
      grind (arith, no_four),
    ))

moves_read : (env_states actions states : List (List ℕ)) →
    ReadsList list.Steps (codes "steps") (λ n. n ≤ MAX_STEPS) (λ before d x. IsMoveItem env_states actions states (length before) d x) (BreaksMove env_states actions states) (moves_of env_states actions states)
unfolding moves_of at_most_steps pushing
moves_read env_states actions states =
    list_reads (pushing (move_item env_states actions states)) (λ before d x. IsMoveItem env_states actions states (length before) d x) (BreaksMove env_states actions states)
    (appends (λ i before d. move_item env_states actions states i d) _ _
    (λ i before d at. subst (λ (k : ℕ). IsExact (move_item env_states actions states i d) (IsMoveItem env_states actions states k d) (BreaksMove env_states actions states i before d)) at (move_exact env_states actions states i d)))
    list.Steps (codes "steps") at_most_steps (counted_items list.Steps (codes "steps") 0 MAX_STEPS) steps_listing

pub lists_read : ListsAreRead
lists_read = record { names = names_exact; each_name = names_read; finals = finals_read; triples = triples_read; moves = moves_read }
