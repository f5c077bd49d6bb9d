-- Lemmas on any arena: listed nodes, beaten seats, reasons, masks, and nodes that survive.
use Rattle.roman_model.proofs.Common.{inr, ◌≡◌, ◌≢◌, ℕ, ◌<◌, ◌≤◌, Bool, not, ◌&&◌, ◌||◌, ◌⊎◌, List, [], ◌∷◌, ◌++◌, map, IsTrue, IsFalse, filter, flat_map, inl, refl, sym, ap, ◌∙◌, subst, arith, rules, reasons, list_any, or-false, both_ways, or_cases, or_parts, or_left, or_right, and_parts, and_from, and_cases, and_left, not-true, not_from_false, eqb-true, eq-eqb, cond-true, cond-false, list_any-append, IsIn, HasNoRepeats, below, all_below, is_empty, has, Arena, Entry, is_among, is_listed, is_beaten, is_justified, mask, back, Delegation, delegations, Reason, Final, Act}
use Rattle.roman_model.proofs.Lists.{by_test, same_test, in_map, from_map, in_flat_map, from_flat_map, in_filter, filter_in, any_true, any_from, any_false, none_from, any_same, list_any-map, empty_is, not_empty_ne, in_below, from_below, all_below_at, all_below_from, all_below_false, all_below_more, all_below_same, filter_same}

-- the arena's test of two nodes is equality
pub record IsSame {N : Type 0} (A : Arena N) : Type 0 where
  pub is : (p q : N) → IsTrue (A.same p q) → p ≡ q
  pub itself : (p : N) → IsTrue (A.same p p)

-- the properties of the arena of a system: each allowed action is below the number of actions; each outcome is a node, and belongs to
-- an allowed action and a ready seat; no node occurs twice
pub record IsArena {N : Type 0} (A : Arena N) : Type 0 where
  pub same : IsSame A
  pub allowed : (p : N) (a : ℕ) → IsTrue (A.allows p a) → a < A.actions
  pub closed : (p : N) → IsIn p A.nodes → (a k : ℕ) (q : N) → IsIn q (A.outcomes p a k) → IsIn q A.nodes
  pub served : (p : N) (a k : ℕ) (q : N) → IsIn q (A.outcomes p a k) → IsTrue (A.allows p a) × (k < A.seats) × IsTrue (A.ready k)
  pub once : HasNoRepeats A.nodes

-- p meets clause 2, and for each allowed action some seat has an outcome and leads only to nodes that live
pub record Survives {N : Type 0} (A : Arena N) (Lives : N → Type 0) (p : N) : Type 0 where
  pub final : IsTrue (A.fine p)
  pub served : (a : ℕ) → IsTrue (A.allows p a) →
      (k : ℕ) × (k < A.seats) × (A.outcomes p a k ≢ []) × ((q : N) → IsIn q (A.outcomes p a k) → Lives q)

-- Listed nodes.

pub among_in : {N : Type 0} (A : Arena N) → IsSame A → (ps : List N) (p : N) → IsTrue (is_among A ps p) → IsIn p ps
among_in A E ps p h = let (q, i, t) = any_true (A.same p) ps h in subst (λ r. IsIn r ps) (sym (E.is p q t)) i

pub listed_among : {N : Type 0} (A : Arena N) (L : List (Entry N)) (p : N) → is_listed A L p ≡ is_among A (map (λ x. x.node) L) p
listed_among A L p = sym (list_any-map (λ x. x.node) (A.same p) L)

pub listed_in : {N : Type 0} (A : Arena N) → IsSame A → (L : List (Entry N)) (p : N) → IsTrue (is_listed A L p) → (x : Entry N) × IsIn x L × (p ≡ x.node)
listed_in A E L p h = let (x, i, t) = any_true (λ x. A.same p x.node) L h in (x, i, E.is p x.node t)

pub in_listed : {N : Type 0} (A : Arena N) → IsSame A → (L : List (Entry N)) (x : Entry N) → IsIn x L → IsTrue (is_listed A L x.node)
in_listed A E L x i = any_from (λ y. A.same x.node y.node) x L i (E.itself x.node)

pub listed_append : {N : Type 0} (A : Arena N) (L M : List (Entry N)) (p : N) → is_listed A (L ++ M) p ≡ (is_listed A L p || is_listed A M p)
listed_append A L M p = list_any-append (λ x. A.same p x.node) L M

pub listed_push : {N : Type 0} (A : Arena N) (L : List (Entry N)) (x : Entry N) (p : N) → is_listed A (L ++ x ∷ []) p ≡ (is_listed A L p || A.same p x.node)
listed_push A L x p = listed_append A L (x ∷ []) p ∙ ap (λ b. is_listed A L p || b) (or-false (A.same p x.node))

-- Beaten seats.

pub beaten_is : {N : Type 0} (A : Arena N) (gone : N → Bool) (p : N) (a k : ℕ) → IsTrue (is_beaten A gone p a k) →
    (A.outcomes p a k ≡ []) ⊎ ((q : N) × IsIn q (A.outcomes p a k) × IsTrue (gone q))
beaten_is A gone p a k b = grind (arith, any_true, empty_is, or_cases)

pub beaten_none : {N : Type 0} (A : Arena N) (gone : N → Bool) (p : N) (a k : ℕ) → A.outcomes p a k ≡ [] → IsTrue (is_beaten A gone p a k)
beaten_none A gone p a k e = or_left (is_empty (A.outcomes p a k)) (list_any gone (A.outcomes p a k)) (ap is_empty e)

pub beaten_by : {N : Type 0} (A : Arena N) (gone : N → Bool) (p : N) (a k : ℕ) (q : N) → IsIn q (A.outcomes p a k) → IsTrue (gone q) → IsTrue (is_beaten A gone p a k)
beaten_by A gone p a k q i g = or_right (is_empty (A.outcomes p a k)) (list_any gone (A.outcomes p a k)) (any_from gone q (A.outcomes p a k) i g)

pub unbeaten_is : {N : Type 0} (A : Arena N) (gone : N → Bool) (p : N) (a k : ℕ) → IsFalse (is_beaten A gone p a k) →
    (A.outcomes p a k ≢ []) × ((q : N) → IsIn q (A.outcomes p a k) → IsFalse (gone q))
unbeaten_is A gone p a k b = grind (arith, any_false, not_empty_ne, or_parts)

-- Reasons.

-- a reason that holds still holds when more nodes are gone
pub justified_more : {N : Type 0} (A : Arena N) (gone more : N → Bool) (p : N) (r : Reason) →
    ((a k : ℕ) (q : N) → IsIn q (A.outcomes p a k) → IsTrue (gone q) → IsTrue (more q)) → IsTrue (is_justified A gone p r) → IsTrue (is_justified A more p r)
justified_more A gone more p Final h j = j
justified_more A gone more p (Act a) h j = grind (arith, all_below_more, and_from, and_parts, any_true, any_from, or_cases, or_left, or_right)

pub justified_same : {N : Type 0} (A : Arena N) (gone more : N → Bool) (p : N) (r : Reason) →
    ((a k : ℕ) (q : N) → IsIn q (A.outcomes p a k) → gone q ≡ more q) → is_justified A gone p r ≡ is_justified A more p r
justified_same A gone more p Final h = refl
justified_same A gone more p (Act a) h = grind (arith, all_below_same, any_same)

pub justified_by : {N : Type 0} (A : Arena N) (gone : N → Bool) (p : N) (a : ℕ) → IsTrue (A.allows p a) →
    ((k : ℕ) → k < A.seats → IsTrue (is_beaten A gone p a k)) → IsTrue (is_justified A gone p (Act a))
justified_by A gone p a allowed each = grind (arith, all_below_from, and_from)

pub justified_is : {N : Type 0} (A : Arena N) (gone : N → Bool) (p : N) (a : ℕ) → IsTrue (is_justified A gone p (Act a)) →
    IsTrue (A.allows p a) × ((k : ℕ) → k < A.seats → IsTrue (is_beaten A gone p a k))
justified_is A gone p a j =
    let (allowed, each) = and_parts (A.allows p a) (all_below (is_beaten A gone p a) A.seats) j in
    (allowed, λ k l. all_below_at (is_beaten A gone p a) A.seats k each l)

-- a reason that holds is Final or one of the arena's actions
pub reason_in : {N : Type 0} (A : Arena N) → IsArena A → (gone : N → Bool) (p : N) (r : Reason) → IsTrue (is_justified A gone p r) → IsIn r (reasons A.actions)
reason_in A ok gone p Final j = inl refl
reason_in A ok gone p (Act a) j = inr (in_map Act a (below A.actions) (in_below A.actions a (ok.allowed p a (justified_is A gone p a j).0)))

pub unallowed_unjustified : {N : Type 0} (A : Arena N) (gone : N → Bool) (p : N) (a : ℕ) → IsFalse (A.allows p a) → IsFalse (is_justified A gone p (Act a))
unallowed_unjustified A gone p a f = and_left (A.allows p a) (all_below (is_beaten A gone p a) A.seats) f

-- Masks.

pub in_mask : {N : Type 0} (A : Arena N) (gone : N → Bool) (p : N) (a k : ℕ) → IsTrue (A.allows p a) → k < A.seats → IsFalse (is_beaten A gone p a k) → IsIn k (mask A gone p a)
in_mask A gone p a k allowed l b = search (rules, cond-true, in_below, in_filter, not_from_false)

pub from_mask : {N : Type 0} (A : Arena N) (gone : N → Bool) (p : N) (a k : ℕ) → IsIn k (mask A gone p a) →
    IsTrue (A.allows p a) × (k < A.seats) × IsFalse (is_beaten A gone p a k)
from_mask A gone p a k i = grind (arith, by_test, cond-false, cond-true, filter_in, from_below, not-true)

pub mask_same : {N : Type 0} (A : Arena N) (gone more : N → Bool) (p : N) (a : ℕ) →
    ((k : ℕ) (q : N) → IsIn q (A.outcomes p a k) → gone q ≡ more q) → mask A gone p a ≡ mask A more p a
mask_same A gone more p a h = grind (arith, any_same, filter_same)

-- the mask is empty if the action isn't allowed
pub mask_none : {N : Type 0} (A : Arena N) (gone : N → Bool) (p : N) (a : ℕ) → IsFalse (A.allows p a) → mask A gone p a ≡ []
mask_none A gone p a f = cond-false (A.allows p a) (filter (λ k. not (is_beaten A gone p a k)) (below A.seats)) [] f

-- a seat is in the mask exactly when its test passes: a bit of the mask
pub mask_has : {N : Type 0} (A : Arena N) (gone : N → Bool) (p : N) (a k : ℕ) → k < A.seats → has (mask A gone p a) k ≡ (A.allows p a && not (is_beaten A gone p a k))
mask_has A gone p a k l = grind (arith, and_from, and_parts, any_from, any_true, eq-eqb, eqb-true, from_mask, in_mask, not-true, not_from_false, same_test)

pub mask_has_past : {N : Type 0} (A : Arena N) (gone : N → Bool) (p : N) (a k : ℕ) → A.seats ≤ k → IsFalse (has (mask A gone p a) k)
mask_has_past A gone p a k l = grind (arith, by_test, eqb-true, from_mask, none_from)

-- the mask is empty exactly when the action is a reason, or isn't allowed
pub mask_empty : {N : Type 0} (A : Arena N) (gone : N → Bool) (p : N) (a : ℕ) → IsTrue (A.allows p a) → mask A gone p a ≡ [] → IsTrue (is_justified A gone p (Act a))
mask_empty A gone p a allowed e = grind (arith, by_test, in_mask, all_below_false, and_cases, both_ways)

pub mask_not_empty : {N : Type 0} (A : Arena N) (gone : N → Bool) (p : N) (a : ℕ) → mask A gone p a ≢ [] → IsFalse (is_justified A gone p (Act a))
mask_not_empty A gone p a ne = by_test (is_justified A gone p (Act a))
    (λ t. absurd (ne (nothing_in (mask A gone p a)
    (λ k i. let (allowed, l, b) = from_mask A gone p a k i in both_ways (is_beaten A gone p a k) b ((justified_is A gone p a t).1 k l)))))
    (λ f. f)
  where
    nothing_in : (ks : List ℕ) → ((k : ℕ) → IsIn k ks → ⊥) → ks ≡ []
    nothing_in [] h = refl
    nothing_in (k ∷ ks) h = absurd (h k (inl refl))

-- Nodes that survive.

pub survives_more : {N : Type 0} (A : Arena N) (Lives More : N → Type 0) (p : N) →
    ((a k : ℕ) (q : N) → IsIn q (A.outcomes p a k) → Lives q → More q) → Survives A Lives p → Survives A More p
survives_more A Lives More p h s = grind arith

-- no reason holds at a node that survives, if no living node is gone
pub unjustified : {N : Type 0} (A : Arena N) (Lives : N → Type 0) (gone : N → Bool) (p : N) (r : Reason) → Survives A Lives p →
    ((q : N) → IsTrue (gone q) → Lives q → ⊥) → IsTrue (is_justified A gone p r) → ⊥
unjustified A Lives gone p Final s dead j = both_ways (A.fine p) (not-true (A.fine p) j) s.final
unjustified A Lives gone p (Act a) s dead j = grind (arith, beaten_is, justified_is)

-- the same, if only nodes of the arena count
pub survivor_within : {N : Type 0} (A : Arena N) → IsArena A → (gone : N → Bool) (p : N) → IsIn p A.nodes → IsTrue (A.fine p) →
    ((a : ℕ) → IsTrue (A.allows p a) → IsFalse (is_justified A gone p (Act a))) → Survives A (λ q. IsIn q A.nodes × IsFalse (gone q)) p
survivor_within A ok gone p i fine h =
    survives_more A (λ q. IsFalse (gone q)) (λ q. IsIn q A.nodes × IsFalse (gone q)) p (λ a k q j f. (ok.closed p i a k q j, f)) (grind (arith, unbeaten_is, all_below_false, and_cases, both_ways))

-- Delegations.

pub in_delegations : {N : Type 0} (A : Arena N) (p : N) (a k : ℕ) → IsIn p A.nodes → a < A.actions → k < A.seats →
    IsIn (record { node = p; action = a; seat = k }) (delegations A)
in_delegations A p a k i l m =
    in_flat_map (λ p. flat_map (λ a. map (λ k. record { node = p; action = a; seat = k }) (below A.seats)) (below A.actions)) p
    (record { node = p; action = a; seat = k }) A.nodes i
    (in_flat_map (λ a. map (λ k. record { node = p; action = a; seat = k }) (below A.seats)) a (record { node = p; action = a; seat = k }) (below A.actions)
    (in_below A.actions a l) (in_map (λ k. record { node = p; action = a; seat = k }) k (below A.seats) (in_below A.seats k m)))

pub in_back : {N : Type 0} (A : Arena N) → IsArena A → (q p : N) (a k : ℕ) → IsIn p A.nodes → IsIn q (A.outcomes p a k) →
    IsIn (record { node = p; action = a; seat = k }) (back A q)
in_back A ok q p a k i j =
    let (allowed, l, ready) = ok.served p a k q j in
    grind (arith, in_filter, (in_delegations A p a k i (ok.allowed p a allowed) l), any_from)

pub from_back : {N : Type 0} (A : Arena N) → IsSame A → (q : N) (d : Delegation N) → IsIn d (back A q) →
    IsIn d.node A.nodes × (d.action < A.actions) × (d.seat < A.seats) × IsIn q (A.outcomes d.node d.action d.seat)
from_back A E q d i = grind (arith, among_in, filter_in, from_below, from_flat_map, from_map)
