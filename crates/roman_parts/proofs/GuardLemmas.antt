-- The meaning of a guard, by the form of its value.
use Rattle.roman_parts.proofs.Common.{Bool, Err, List, None, Ok, Result, Some, [], ap, append_assoc, arith, get_or, length, refl, set, slice_get, string_bytes, suc, sym, zero, ℕ, ◌++◌, ◌+◌, ◌<◌, ◌∙◌, ◌∷◌, ◌≡◌, ◌≤◌, map_push, holds-All, holds-Among, holds-Both, holds-Either, holds-Never, holds-Not, at_start, is_done, pushed_ends, pushed_on, pushing, ◌>>=◌, each_item, list_of, Entry, Data, Items, array, boolean, depth, item, items_depth, member, no_items, no_members, object, as_array, as_bool, as_object, items_view, members_view, view, Value, among_of, each_guard, no_guard, operator_of, sole_member, sole_of, guard_of, guards_of, looked, Steps, PartError}
use Rattle.std.proofs.lemmas.List.{append-nil}
use Rattle.roman_parts.specs.declared.error.List.{List as Place}

-- ---- the only member

pub sole_of-none : (d : Data) → as_object d ≡ None → sole_of d ≡ None
sole_of-none d h = rw h

sole_entries : (es : List Entry) (e : Entry) → length es ≡ 1 → slice_get es 0 ≡ Some e → sole_member (members_view es) ≡ Some (string_bytes e.0, view e.1)
sole_entries [] e h k = absurd (omega (arith, h))
sole_entries (x ∷ []) e h k = let same : x ≡ e = cc in rw same
sole_entries (x ∷ y ∷ es) e h k = absurd (omega (arith, h))

no_sole_entry : (es : List Entry) → (length es ≡ 1 → ⊥) → sole_member (members_view es) ≡ None
no_sole_entry [] h = refl
no_sole_entry (x ∷ []) h = absurd (h refl)
no_sole_entry (x ∷ y ∷ es) h = refl

pub sole_of-entry : (d : Data) (es : List Entry) (e : Entry) → Some (members_view es) ≡ as_object d → length es ≡ 1 → slice_get es 0 ≡ Some e
    → sole_of d ≡ Some (string_bytes e.0, view e.1)
sole_of-entry d es e h k first = rw (← h) (sole_entries es e k first)

pub sole_of-entries : (d : Data) (es : List Entry) → Some (members_view es) ≡ as_object d → (length es ≡ 1 → ⊥) → sole_of d ≡ None
sole_of-entries d es h k = rw (← h) (no_sole_entry es k)

pub ruleset soles = (sole_of-none, sole_of-entry, sole_of-entries)

-- ---- guards

module _ (states : List (List ℕ)) (i : ℕ) where
  pub guard_of-boolean : (d : Data) (b : Bool) → Some b ≡ as_bool d → guard_of states i d ≡ Ok (λ _. b)
  unfolding guard_of
  guard_of-boolean (boolean c) b h = let same : c ≡ b = cc in rw same
  guard_of-boolean _ b h = cc

  pub guard_of-array : (d : Data) (items : Items) → Some items ≡ as_array d → guard_of states i d ≡ among_of states i items
  unfolding guard_of
  guard_of-array (array ds) items h = let same : ds ≡ items = cc in rw same
  guard_of-array _ items h = cc

  pub guard_of-sole : (d : Data) (name : List ℕ) (e : Data) → Some (name, e) ≡ sole_of d
      → guard_of states i d ≡ operator_of i name (guard_of states i e) (guards_of states i e)
  unfolding guard_of
  guard_of-sole (object (member k d no_members)) name e h =
      let same : ◌≡◌ {A = List ℕ × Data} (k, d) (name, e) = cc in
      rw (ap (λ (m : List ℕ × Data). m.0) same, ap (λ (m : List ℕ × Data). m.1) same)
  guard_of-sole _ name e h = cc

  pub guard_of-none : (d : Data) → None ≡ as_bool d → None ≡ as_array d → None ≡ sole_of d → guard_of states i d ≡ no_guard i
  unfolding guard_of
  guard_of-none (boolean c) h j k = cc
  guard_of-none (array ds) h j k = cc
  guard_of-none (object (member name d no_members)) h j k = cc
  guard_of-none _ h j k = refl

-- the only member of an object is nested less deeply
pub sole-depth : (d : Data) (name : List ℕ) (e : Data) → Some (name, e) ≡ sole_of d → depth e < depth d
sole-depth (object (member k d no_members)) name e h = grind arith
sole-depth _ name e h = cc

item-depth : (items : List Value) (k : ℕ) (x : Value) → k < length items → depth (view (get_or items k x)) ≤ items_depth (items_view items)
item-depth [] k x h = absurd (omega arith)
item-depth (v ∷ items) zero x h = omega arith
item-depth (v ∷ items) (suc k) x h = let rest : depth (view (get_or items k x)) ≤ items_depth (items_view items) = item-depth items k x (omega arith) in omega arith

list-depth : (list : Place) (i : ℕ) (d : Data) (ds : Items) → looked list i (list_of d) ≡ Ok ds → items_depth ds < depth d
list-depth list i (array es) ds h = let same : es ≡ ds = cc in let less : items_depth es ≡ items_depth ds = ap items_depth same in omega arith
list-depth list i _ ds h = cc

-- each item of a list is nested less deeply
pub listed-depth : (list : Place) (i : ℕ) (d : Data) (items : List Value) (k : ℕ) (x : Value) → looked list i (list_of d) ≡ Ok (items_view items)
    → k < length items → x ≡ get_or items k x → depth (view x) < depth d
listed-depth list i d items k x h lt is = grind (arith, item-depth, list-depth)

-- ---- a list of guards

module _ (states : List (List ℕ)) (i : ℕ) where
  -- the guards of a list are read one by one
  each_guard-is : (k : ℕ) (before : List (ℕ → Bool)) (ds : Items) → each_item (pushing (λ _. guard_of states i)) k before ds ≡ (each_guard states i ds >>= (λ rest. Ok (before ++ rest)))
  unfolding each_item pushing guard_of
  each_guard-is k before no_items = ap Ok (sym (append-nil before))
  each_guard-is k before (item d ds) = by (guard_of states i d) (each_guard states i ds) (λ set. each_guard-is (k + 1) (before ++ set ∷ []) ds)
    where
      by : (first : Result (ℕ → Bool) PartError) (rest : Result (List (ℕ → Bool)) PartError)
          → ((set : ℕ → Bool) → each_item (pushing (λ _. guard_of states i)) (k + 1) (before ++ set ∷ []) ds ≡ (rest >>= (λ sets. Ok ((before ++ set ∷ []) ++ sets))))
          → ((first >>= (λ set. Ok (before ++ set ∷ []))) >>= (λ sets. each_item (pushing (λ _. guard_of states i)) (k + 1) sets ds))
          ≡ ((first >>= (λ set. rest >>= (λ sets. Ok (set ∷ sets)))) >>= (λ sets. Ok (before ++ sets)))
      by (Err e) rest more = refl
      by (Ok set) (Err e) more = more set
      by (Ok set) (Ok sets) more = more set ∙ ap Ok (append_assoc before (set ∷ []) sets)

  pub guards_of-list : (d : Data) → guards_of states i d ≡ (looked Steps i (list_of d) >>= each_item (pushing (λ _. guard_of states i)) 0 [])
  unfolding guards_of
  guards_of-list (array ds) = grind (arith, each_guard-is)
  guards_of-list _ = refl

pub ruleset guards = (
  guard_of-boolean,
  guard_of-array,
  guard_of-sole,
  guard_of-none,
  sole-depth,
  listed-depth,
  holds-All,
  holds-Never,
  holds-Among,
  holds-Not,
  holds-Both,
  holds-Either,
)

pub ruleset guard_lists = (at_start, pushed_on, pushed_ends, is_done, map_push, guards_of-list, listed-depth)
