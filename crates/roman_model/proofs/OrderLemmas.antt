-- Removal lists and replays over any arena: their entries by their place, and sums over them.
use Rattle.roman_model.proofs.Common.{◌≡◌, ◌≤◌, ◌||◌, List, [], ◌∷◌, ◌++◌, map, length, IsTrue, IsFalse, inl, inr, refl, sym, subst, arith, ℕ, ◌+◌, ◌<◌, ◌&&◌, get_or, take, sum_by, count_by, take-append-drop, false≢true, both_ways, or_cases, or_parts, or_left, or_right, or_from, cond-true, length-map, drop_more, IsIn, IsSublist, HasNoRepeats, below, Arena, Entry, is_among, is_listed, is_justified, IsOrderFrom, IsOrder, AreNew, replay_from, replay, back, fall, readings, sum_by-append, length-filter, length-flat_map}
use Rattle.roman_model.proofs.Lists.{by_test, from_map, sublist_skip, no_longer, filter-map, filter-flat_map, sum_by_same, sum_by_within}
use Rattle.roman_model.proofs.ArenaLemmas.{IsSame, Survives, listed_in, justified_more, unjustified, justified_same}

-- The construction of removal lists, and their parts.

pub order_from_push : {N : Type 0} (A : Arena N) (before : List N) (L : List (Entry N)) (x : Entry N) → IsOrderFrom A before L →
    IsFalse (is_among A before x.node) → IsFalse (is_listed A L x.node) →
    IsTrue (is_justified A (λ q. is_among A before q || is_listed A L q) x.node x.reason) → IsOrderFrom A before (L ++ x ∷ [])
order_from_push A before [] x order new unlisted j = grind (arith, false≢true, justified_more)
order_from_push A before (y ∷ L) x order new unlisted j = grind (arith, justified_more, or_from, (order_from_push A (y.node ∷ before) L x order.2))

-- an entry that the list justifies can be added at its end
pub order_push : {N : Type 0} (A : Arena N) (L : List (Entry N)) (x : Entry N) → IsOrder A L → IsFalse (is_listed A L x.node) →
    IsTrue (is_justified A (is_listed A L) x.node x.reason) → IsOrder A (L ++ x ∷ [])
order_push A L x order unlisted j = order_from_push A [] L x order refl unlisted j

pub order_from_new : {N : Type 0} (A : Arena N) (before : List N) (L : List (Entry N)) → IsOrderFrom A before L → AreNew A before L
order_from_new A before [] order = tt
order_from_new A before (x ∷ L) order = (order.0, order_from_new A (x.node ∷ before) L order.2)

-- the nodes of a removal list are distinct
pub order_new : {N : Type 0} (A : Arena N) (L : List (Entry N)) → IsOrder A L → AreNew A [] L
order_new A L order = order_from_new A [] L order

-- a node that comes before isn't a node of the list
pub new_apart : {N : Type 0} (A : Arena N) → IsSame A → (before : List N) (L : List (Entry N)) (x : Entry N) → AreNew A before L → IsIn x L → IsFalse (is_among A before x.node)
new_apart A E before [] x new i = absurd i
new_apart A E before (y ∷ L) x new (inl e) = subst (λ z. IsFalse (is_among A before z.node)) (sym e) new.0
new_apart A E before (y ∷ L) x new (inr i) = (or_parts (A.same x.node y.node) (is_among A before x.node) (new_apart A E (y.node ∷ before) L x new.1 i)).1

pub new_once : {N : Type 0} (A : Arena N) → IsSame A → (before : List N) (L : List (Entry N)) → AreNew A before L → HasNoRepeats (map (λ x. x.node) L)
new_once A E before [] new = tt
new_once A E before (x ∷ L) new = (
  λ i.
      let (y, j, e) = from_map (λ y. y.node) x.node L i in
      let apart : IsFalse (A.same y.node x.node) = (or_parts (A.same y.node x.node) (is_among A before y.node) (new_apart A E (x.node ∷ before) L y new.1 j)).0 in
      grind arith,
  new_once A E (x.node ∷ before) L new.1,
)

-- a removal list has at most as many entries as there are nodes
pub order_fits : {N : Type 0} (A : Arena N) → IsSame A → (L : List (Entry N)) → IsOrder A L → ((x : Entry N) → IsIn x L → IsIn x.node A.nodes) → length L ≤ length A.nodes
order_fits A E L order within = grind (arith, from_map, length-map, new_once, no_longer, order_new)

-- the reason of an entry holds when the nodes of its list are gone
pub order_from_justified : {N : Type 0} (A : Arena N) (before : List N) (L : List (Entry N)) (x : Entry N) → IsOrderFrom A before L → IsIn x L →
    IsTrue (is_justified A (λ q. is_among A before q || is_listed A L q) x.node x.reason)
order_from_justified A before [] x order i = absurd i
order_from_justified A before (y ∷ L) x order (inl e) = grind (arith, justified_more, or_left)
order_from_justified A before (y ∷ L) x order (inr i) = grind (arith, justified_more, (order_from_justified A (y.node ∷ before) L x order.2 i))

pub order_justified : {N : Type 0} (A : Arena N) (L : List (Entry N)) (x : Entry N) → IsOrder A L → IsIn x L → IsTrue (is_justified A (is_listed A L) x.node x.reason)
order_justified A L x order i = order_from_justified A [] L x order i

-- A listed node doesn't live, for any notion of living nodes that survive among themselves.

pub listed_from_dead : {N : Type 0} (A : Arena N) → IsSame A → (Lives : N → Type 0) → ((p : N) → Lives p → Survives A Lives p) → (before : List N) (L : List (Entry N)) →
    IsOrderFrom A before L → ((p : N) → IsTrue (is_among A before p) → Lives p → ⊥) → (x : Entry N) → IsIn x L → Lives x.node → ⊥
listed_from_dead A E Lives lives before [] order dead x i = absurd i
listed_from_dead A E Lives lives before (y ∷ L) order dead x i =
    let first : Lives y.node → ⊥ = λ v. unjustified A Lives (is_among A before) y.node y.reason (lives y.node v) dead order.1 in
    grind (arith, (listed_from_dead A E Lives lives (y.node ∷ before) L order.2))

pub listed_dead : {N : Type 0} (A : Arena N) → IsSame A → (Lives : N → Type 0) → ((p : N) → Lives p → Survives A Lives p) → (L : List (Entry N)) → IsOrder A L →
    (p : N) → IsTrue (is_listed A L p) → Lives p → ⊥
listed_dead A E Lives lives L order p t v = grind (arith, (listed_from_dead A E Lives lives), (listed_in A E L p t))

-- Replays.

-- a replay is a removal list
pub replay_from_order : {N : Type 0} (A : Arena N) (before kept : List N) (L : List (Entry N)) → AreNew A before L →
    ((q : N) → IsTrue (is_among A kept q) → IsTrue (is_among A before q)) → IsOrderFrom A kept (replay_from A kept L)
replay_from_order A before kept [] new within = tt
replay_from_order {N} A before kept (x ∷ L) new within = grind (arith, both_ways, by_test, cond-true, or_cases, or_left, or_right, (replay_from_order A (x.node ∷ before) (x.node ∷ kept) L new.1), (replay_from_order A (x.node ∷ before) kept L new.1))

pub replay_order : {N : Type 0} (A : Arena N) (L : List (Entry N)) → AreNew A [] L → IsOrder A (replay A L)
replay_order A L new = replay_from_order A [] [] L new (λ q t. t)

-- the replay of a removal list is the whole list
pub replay_from_whole : {N : Type 0} (A : Arena N) (before : List N) (L : List (Entry N)) → IsOrderFrom A before L → replay_from A before L ≡ L
replay_from_whole A before [] order = refl
replay_from_whole A before (x ∷ L) order = grind (arith, cond-true, (replay_from_whole A (x.node ∷ before) L order.2))

pub replay_whole : {N : Type 0} (A : Arena N) (L : List (Entry N)) → IsOrder A L → replay A L ≡ L
replay_whole A L order = replay_from_whole A [] L order

pub replay_from_sublist : {N : Type 0} (A : Arena N) (kept : List N) (L : List (Entry N)) → IsSublist (replay_from A kept L) L
replay_from_sublist A kept [] = tt
replay_from_sublist A kept (x ∷ L) = grind (arith, sublist_skip, (replay_from_sublist A (x.node ∷ kept) L), (replay_from_sublist A kept L))

pub replay_sublist : {N : Type 0} (A : Arena N) (L : List (Entry N)) → IsSublist (replay A L) L
replay_sublist A L = replay_from_sublist A [] L

-- replays that begin with the same nodes are equal
pub replay_from_same : {N : Type 0} (A : Arena N) (kept others : List N) (L : List (Entry N)) → ((q : N) → is_among A kept q ≡ is_among A others q) → replay_from A kept L ≡ replay_from A others L
replay_from_same A kept others [] same = refl
replay_from_same A kept others (x ∷ L) same = grind (arith, (replay_from_same A kept others L same), (replay_from_same A (x.node ∷ kept) (x.node ∷ others) L))

-- the test doesn't depend on the order of the nodes
pub middle_first : {N : Type 0} (A : Arena N) (ps qs : List N) (p q : N) → is_among A (ps ++ p ∷ qs) q ≡ is_among A (p ∷ (ps ++ qs)) q
middle_first A [] qs p q = refl
middle_first A (r ∷ ps) qs p q = grind (arith, (middle_first A ps qs p q))

-- Entries by their place.

pub order_from_middle : {N : Type 0} (A : Arena N) (before : List N) (L M : List (Entry N)) (x : Entry N) → IsOrderFrom A before (L ++ x ∷ M) →
    IsFalse (is_among A before x.node || is_listed A L x.node) × IsTrue (is_justified A (λ q. is_among A before q || is_listed A L q) x.node x.reason)
order_from_middle A before [] M x order = grind (arith, justified_same)
order_from_middle A before (y ∷ L) M x order = grind (arith, justified_same, (order_from_middle A (y.node ∷ before) L M x order.2))

-- an entry of a removal list is new after the entries before it, and they justify it
pub order_middle : {N : Type 0} (A : Arena N) (L M : List (Entry N)) (x : Entry N) → IsOrder A (L ++ x ∷ M) →
    IsFalse (is_listed A L x.node) × IsTrue (is_justified A (is_listed A L) x.node x.reason)
order_middle A L M x order = order_from_middle A [] L M x order

pub order_entry : {N : Type 0} (A : Arena N) (L : List (Entry N)) (i : ℕ) (d : Entry N) → IsOrder A L → i < length L →
    IsFalse (is_listed A (take i L) (get_or L i d).node) × IsTrue (is_justified A (is_listed A (take i L)) (get_or L i d).node (get_or L i d).reason)
order_entry A L i d order l = grind (arith, order_middle, (take-append-drop i L), (drop_more L i d l))

-- Sums.

pub fall_append : {N : Type 0} (A : Arena N) (L M : List (Entry N)) → fall A (L ++ M) ≡ fall A L + fall A M
fall_append A L M = sum_by-append (λ y. length (back A y.node)) L M

-- the number of delegations of an allowed action at the node to a ready seat
abbrev pub readings_at : {N : Type 0} → Arena N → N → ℕ
readings_at A p = sum_by (λ a. count_by (λ k. A.allows p a && A.ready k) (below A.seats)) (below A.actions)

-- all readings are the sum of the readings at the nodes
pub readings_sum : {N : Type 0} (A : Arena N) → readings A ≡ sum_by (readings_at A) A.nodes
readings_sum {N} A = grind (arith, filter-flat_map, filter-map, length-filter, length-flat_map, length-map, sum_by_same)

-- the sum of the readings at distinct nodes is at most the number of all readings
pub readings_within : {N : Type 0} (A : Arena N) (ps : List N) → HasNoRepeats ps → ((p : N) → IsIn p ps → IsIn p A.nodes) → sum_by (readings_at A) ps ≤ readings A
readings_within A ps once within = subst (λ n. sum_by (readings_at A) ps ≤ n) (sym (readings_sum A)) (sum_by_within (readings_at A) ps A.nodes once within)
