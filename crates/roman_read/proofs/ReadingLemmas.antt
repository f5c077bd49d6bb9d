-- Readings that succeed, and loops over the items of a list, each of which may be refused: the remaining items give the result of all items.
use Rattle.std.proofs.Common.{◌≡◌, ℕ, ◌+◌, ◌<◌, ◌≤◌, List, [], ◌∷◌, ◌++◌, length, drop, get_or, Result, Ok, Err, refl, sym, ◌∙◌, add-one, drop-cons}
use Rattle.std.proofs.lemmas.List.{drop_all}
use Rattle.std.proofs.lemmas.Str.{is_utf8-from_IsUtf8, IsUtf8-from_is_utf8}
use Rattle.serde_json.specs.Data.{Data}
use Rattle.serde_json.specs.View.{view, items_view}
use Rattle.serde_json.specs.declared.value.Value.{Value}
use Rattle.roman_read.specs.Items.{◌>>=◌, each_item, pushing}

pub same_ok : {X E : Type 0} (x y : X) → ◌≡◌ {A = Result X E} (Ok x) (Ok y) → x ≡ y
same_ok x y h = cc

-- if a sequence of two readings succeeds, the first succeeds and the second continues from its value
pub bind_ok : {X Y E : Type 0} (r : Result X E) (f : X → Result Y E) (y : Y) → (r >>= f) ≡ Ok y → (x : X) × (r ≡ Ok x) × (f x ≡ Ok y)
bind_ok (Ok x) f y h = (x, refl, h)
bind_ok (Err e) f y h = cc

-- the items from item i and the state s on give the result of all items
pub record IsLeft {S E : Type 0} (read : ℕ → S → Data → Result S E) (items : List Value) (i : ℕ) (s : S) (all : Result S E) : Type 0 where
  pub same : each_item read i s (items_view (drop i items)) ≡ all

module _ {S E : Type 0} (read : ℕ → S → Data → Result S E) (items : List Value) where
  here : (i : ℕ) (s : S) (x : Value) → i < length items → x ≡ get_or items i x
      → each_item read i s (items_view (drop i items)) ≡ (read i s (view x) >>= (λ t. each_item read (i + 1) t (items_view (drop (i + 1) items))))
  unfolding each_item
  here i s x h e = rw (drop-cons items i x h, ← e, add-one)

  -- at the start all items remain
  pub at_start : (s : S) → IsLeft read items 0 s (each_item read 0 s (items_view items))
  at_start s = record { same = refl }

  -- an item that isn't refused leads to the next one
  pub goes_on : (i : ℕ) (s t : S) (x : Value) (all : Result S E) → i < length items → x ≡ get_or items i x
      → read i s (view x) ≡ Ok t → IsLeft read items i s all → IsLeft read items (i + 1) t all
  goes_on i s t x all h e ok left = record { same = sym (here i s x h e ∙ rw ok) ∙ left.same }

  -- the refusal of an item is the result of all items
  pub ends : (i : ℕ) (s : S) (x : Value) (why : E) (all : Result S E) → i < length items → x ≡ get_or items i x
      → read i s (view x) ≡ Err why → IsLeft read items i s all → all ≡ Err why
  ends i s x why all h e bad left = sym left.same ∙ here i s x h e ∙ rw bad

  -- the state is the result when no item remains
  pub is_done : (i : ℕ) (s : S) (all : Result S E) → length items ≤ i → IsLeft read items i s all → all ≡ Ok s
  unfolding each_item
  is_done i s all h left = sym left.same ∙ rw (drop_all i items h)

module _ {X E : Type 0} (read : ℕ → Data → Result X E) (items : List Value) where
  -- the value of an item is appended to those before it
  pub pushed_on : (i : ℕ) (xs ys : List X) (y : X) (x : Value) (all : Result (List X) E) → i < length items → x ≡ get_or items i x
      → read i (view x) ≡ Ok y → ys ≡ xs ++ y ∷ [] → IsLeft (pushing read) items i xs all → IsLeft (pushing read) items (i + 1) ys all
  unfolding pushing
  pushed_on i xs ys y x all h e ok new left = goes_on (pushing read) items i xs ys x all h e (rw ok (rw new)) left

  -- the refusal of an item is the result of all items
  pub pushed_ends : (i : ℕ) (xs : List X) (x : Value) (why : E) (all : Result (List X) E) → i < length items → x ≡ get_or items i x
      → read i (view x) ≡ Err why → IsLeft (pushing read) items i xs all → all ≡ Err why
  unfolding pushing
  pushed_ends i xs x why all h e bad left = ends (pushing read) items i xs x why all h e (rw bad) left

-- the rules for a loop over items, and for a loop that appends the values that it reads
pub ruleset each = (at_start, goes_on, ends, is_done)

pub ruleset pushes = (at_start, pushed_on, pushed_ends, is_done)

-- the rules for bytes that are a text
pub ruleset texts = (is_utf8-from_IsUtf8, IsUtf8-from_is_utf8)
