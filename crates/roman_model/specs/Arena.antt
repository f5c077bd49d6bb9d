-- The view of a system on which removal lists, masks, depths and plays are defined: its nodes, whether clause 2 holds at each, the allowed
-- actions, the ready seats, and the outcomes of an action that is delegated to a seat.
use Rattle.std.specs.Prelude.{ℕ, zero, suc, ◌+◌, Bool, not, ◌&&◌, ◌||◌, List, [], ◌∷◌, map, length, sum_by, IsTrue, IsFalse, Option, if◌then◌else◌}
use Rattle.std.specs.List.{list_any, filter, flat_map, find}
use Rattle.roman_model.specs.Lists.{below, all_below, is_empty}
use Rattle.roman_model.specs.declared.reason.Reason.{Reason}
use Rattle.roman_model.specs.declared.reason.Reason.TheVariants.{Final, Act}

-- the facts about a system on which removal lists depend
pub record Arena (N : Type 0) : Type 0 where
  pub same : N → N → Bool
  pub nodes : List N
  pub actions : ℕ
  pub seats : ℕ
  pub fine : N → Bool
  pub allows : N → ℕ → Bool
  pub ready : ℕ → Bool
  pub outcomes : N → ℕ → ℕ → List N

-- an entry of a removal list: a node, and the reason of its removal
pub record Entry (N : Type 0) : Type 0 where
  pub node : N
  pub reason : Reason

-- p is one of the nodes
abbrev pub is_among : {N : Type 0} → Arena N → List N → N → Bool
is_among A ps p = list_any (A.same p) ps

-- p is the node of some entry of the list
abbrev pub is_listed : {N : Type 0} → Arena N → List (Entry N) → N → Bool
is_listed A L p = list_any (λ x. A.same p x.node) L

-- the action at p, delegated to seat k, has no outcome, or some outcome is gone
abbrev pub is_beaten : {N : Type 0} → Arena N → (N → Bool) → N → ℕ → ℕ → Bool
is_beaten A gone p a k = is_empty (A.outcomes p a k) || list_any gone (A.outcomes p a k)

-- the reason holds at p if the given nodes are gone
abbrev pub is_justified : {N : Type 0} → Arena N → (N → Bool) → N → Reason → Bool
is_justified A gone p Final = not (A.fine p)
is_justified A gone p (Act a) = A.allows p a && all_below (is_beaten A gone p a) A.seats

-- the seats that have an outcome on the action, and no outcome that is gone, rising; empty if the action isn't allowed
abbrev pub mask : {N : Type 0} → Arena N → (N → Bool) → N → ℕ → List ℕ
mask A gone p a = if A.allows p a then filter (λ k. not (is_beaten A gone p a k)) (below A.seats) else []

-- the nodes are distinct and not among those before, and each entry is justified by the entries before it
abbrev pub IsOrderFrom : {N : Type 0} → Arena N → List N → List (Entry N) → Type 0
IsOrderFrom A before [] = Unit {0}
IsOrderFrom A before (x ∷ L) =
    IsFalse (is_among A before x.node)
    × IsTrue (is_justified A (is_among A before) x.node x.reason)
    × IsOrderFrom A (x.node ∷ before) L

-- the list is a removal list
abbrev pub IsOrder : {N : Type 0} → Arena N → List (Entry N) → Type 0
IsOrder A L = IsOrderFrom A [] L

-- the nodes are distinct and not among those before
abbrev pub AreNew : {N : Type 0} → Arena N → List N → List (Entry N) → Type 0
AreNew A before [] = Unit {0}
AreNew A before (x ∷ L) = IsFalse (is_among A before x.node) × AreNew A (x.node ∷ before) L

-- goes through the list in order, and keeps an entry if the entries kept so far justify it
abbrev pub replay_from : {N : Type 0} → Arena N → List N → List (Entry N) → List (Entry N)
replay_from A kept [] = []
replay_from A kept (x ∷ L) =
    if is_justified A (is_among A kept) x.node x.reason
    then x ∷ replay_from A (x.node ∷ kept) L
    else replay_from A kept L

-- the replay of a list
abbrev pub replay : {N : Type 0} → Arena N → List (Entry N) → List (Entry N)
replay A L = replay_from A [] L

-- the opponent wins at p within n requests
abbrev pub loses : {N : Type 0} → Arena N → ℕ → N → Bool
loses A zero p = not (A.fine p)
loses A (suc n) p = loses A n p || list_any (λ a. is_justified A (loses A n) p (Act a)) (below A.actions)

-- the least number of requests within which the opponent wins at p, if any
abbrev pub depth : {N : Type 0} → Arena N → N → Option ℕ
depth A p = find (λ n. loses A n p) (below (length A.nodes + 1))

-- an action at a node that is delegated to a seat
pub record Delegation (N : Type 0) : Type 0 where
  pub node : N
  pub action : ℕ
  pub seat : ℕ

-- all delegations: every action at every node to every seat
abbrev pub delegations : {N : Type 0} → Arena N → List (Delegation N)
delegations A =
    flat_map (λ p. flat_map (λ a. map (λ k. record { node = p; action = a; seat = k }) (below A.seats)) (below A.actions))
    A.nodes

-- the delegations that have q as an outcome
abbrev pub back : {N : Type 0} → Arena N → N → List (Delegation N)
back A q = filter (λ d. is_among A (A.outcomes d.node d.action d.seat) q) (delegations A)

-- the number of delegations that lead to the pairs of the list
abbrev pub fall : {N : Type 0} → Arena N → List (Entry N) → ℕ
fall A L = sum_by (λ x. length (back A x.node)) L

-- the number of delegations of an allowed action to a ready seat
abbrev pub readings : {N : Type 0} → Arena N → ℕ
readings A = length (filter (λ d. A.allows d.node d.action && A.ready d.seat) (delegations A))

-- the sum of the lengths of all masks
abbrev pub choices : {N : Type 0} → Arena N → (N → Bool) → ℕ
choices A gone = sum_by (λ p. sum_by (λ a. length (mask A gone p a)) (below A.actions)) A.nodes
