-- Depths over any arena: the least numbers of requests within which the opponent wins.
use Rattle.roman_model.proofs.Common.{◌≡◌, ℕ, zero, suc, ◌+◌, ◌<◌, ◌≤◌, not, ◌||◌, ◌⊎◌, List, length, Option, Some, None, IsTrue, IsFalse, filter, inl, inr, refl, sym, ap, ◌∙◌, arith, list_any, both_ways, or_cases, or_left, not-true, not-false, not_from_false, cases_eq, IsIn, below, Arena, Entry, is_listed, is_justified, IsOrder, loses, depth, Reason, Final, Act}
use Rattle.roman_model.proofs.Lists.{passes_up, by_test, same_test, any_true, any_false, any_same, filter_shrinks, filter_sublist, sublist_length, in_below, find_none, find_least}
use Rattle.roman_model.proofs.ArenaLemmas.{IsArena, Survives, justified_same, unjustified, survivor_within}
use Rattle.roman_model.proofs.OrderLemmas.{listed_dead}

-- A node that is lost within some requests is lost within more.

pub loses_up : {N : Type 0} (A : Arena N) (m n : ℕ) (p : N) → m ≤ n → IsTrue (loses A m p) → IsTrue (loses A n p)
loses_up A m n p = passes_up (λ n. loses A n p) (λ n t. or_left (loses A n p) (list_any (λ a. is_justified A (loses A n) p (Act a)) (below A.actions)) t) m n

pub loses_down : {N : Type 0} (A : Arena N) (m n : ℕ) (p : N) → m ≤ n → IsFalse (loses A n p) → IsFalse (loses A m p)
loses_down A m n p l f = by_test (loses A m p) (λ t. absurd (both_ways (loses A n p) f (loses_up A m n p l t))) (λ g. g)

-- clause 2 holds at a node that isn't lost
pub unlost_fine : {N : Type 0} (A : Arena N) (n : ℕ) (p : N) → IsFalse (loses A n p) → IsTrue (A.fine p)
unlost_fine A n p f = not-false (A.fine p) (loses_down A zero n p (omega arith) f)

-- a node that isn't lost within n + 1 requests has no action that justifies its loss
pub unlost_act : {N : Type 0} (A : Arena N) → IsArena A → (n : ℕ) (p : N) (a : ℕ) → IsFalse (loses A (suc n) p) → IsTrue (A.allows p a) → IsFalse (is_justified A (loses A n) p (Act a))
unlost_act A ok n p a f allowed = grind (arith, any_false, (in_below A.actions a (ok.allowed p a allowed)))

-- A node that is lost within some requests doesn't hold out against them, for any notion of holding out whose clauses state the same for one request less.
pub lost_falls : {N : Type 0} (A : Arena N) (Holds : ℕ → N → Type 0) → ((p : N) → Holds zero p → IsTrue (A.fine p)) → ((n : ℕ) (p : N) → Holds (suc n) p → Holds n p × Survives A (Holds n) p) →
    (n : ℕ) (p : N) → IsTrue (loses A n p) → Holds n p → ⊥
lost_falls A Holds fine survives zero p t v = both_ways (A.fine p) (not-true (A.fine p) t) (fine p v)
lost_falls A Holds fine survives (suc n) p t v = elim (or_cases (loses A n p) (list_any (λ a. is_justified A (loses A n) p (Act a)) (below A.actions)) t) [
  | inl sooner ↦ lost_falls A Holds fine survives n p sooner (survives n p v).0
  | inr now ↦
      let (a, i, j) = any_true (λ a. is_justified A (loses A n) p (Act a)) (below A.actions) now in
      unjustified A (Holds n) (loses A n) p (Act a) (survives n p v).1 (lost_falls A Holds fine survives n) j
]

-- a lost node doesn't live, for any notion of living nodes that survive among themselves
pub lost_dead : {N : Type 0} (A : Arena N) (Lives : N → Type 0) → ((p : N) → Lives p → Survives A Lives p) → (n : ℕ) (p : N) → IsTrue (loses A n p) → Lives p → ⊥
lost_dead A Lives lives = lost_falls A (λ n. Lives) (λ p v. (lives p v).final) (λ n p v. (v, lives p v))

-- The rounds become steady.

-- one more round loses no more nodes
abbrev pub IsSteady : {N : Type 0} → Arena N → ℕ → Type 0
IsSteady {N} A m = (p : N) → IsIn p A.nodes → loses A (suc m) p ≡ loses A m p

-- the number of nodes that aren't lost
abbrev pub unlost_count : {N : Type 0} → Arena N → ℕ → ℕ
unlost_count A n = length (filter (λ p. not (loses A n p)) A.nodes)

-- some round up to n is steady, or each of them loses a node
pub rounds : {N : Type 0} (A : Arena N) (n : ℕ) → ((m : ℕ) × (m < n) × IsSteady A m) ⊎ (unlost_count A n + n ≤ length A.nodes)
rounds A zero = grind (arith, filter_sublist, sublist_length)
rounds {N} A (suc n) = elim (rounds A n) [
  | inl before ↦ let (m, l, steady) = before in inl (m, omega arith, steady)
  | inr few ↦ elim (filter_shrinks (λ p. not (loses A n p)) (λ p. not (loses A (suc n) p)) A.nodes
      (λ p i t. not_from_false (loses A n p) (loses_down A n (suc n) p (omega arith) (not-true (loses A (suc n) p) t)))) [
        | inl same ↦ inl (
          n,
          omega arith,
          grind (arith, same_test, not-false, loses_up),
        )
        | inr short ↦ inr (omega arith)
      ]
]

-- some round is steady within as many rounds as there are nodes
pub rounds_end : {N : Type 0} (A : Arena N) → (m : ℕ) × (m ≤ length A.nodes) × IsSteady A m
rounds_end A = grind (arith, (rounds A (suc (length A.nodes))))

-- no more nodes are lost after a steady round
pub steady_stays : {N : Type 0} (A : Arena N) → IsArena A → (m : ℕ) → IsSteady A m → (n : ℕ) → m ≤ n → (p : N) → IsIn p A.nodes → loses A n p ≡ loses A m p
steady_stays A ok m steady zero l p i = ap (λ k. loses A k p) (let e : 0 ≡ m = omega arith in e)
steady_stays {N} A ok m steady (suc n) l p i = elim (cases_eq m (suc n)) [
  | inl e ↦ ap (λ k. loses A k p) (sym e)
  | inr ne ↦
      let before : (q : N) → IsIn q A.nodes → loses A n q ≡ loses A m q = steady_stays A ok m steady n (omega arith) in
      ap (λ b. b || list_any (λ a. is_justified A (loses A n) p (Act a)) (below A.actions)) (before p i)
      ∙ ap (λ b. loses A m p || b) (any_same (λ a. is_justified A (loses A n) p (Act a)) (λ a. is_justified A (loses A m) p (Act a)) (below A.actions)
      (λ a j. justified_same A (loses A n) (loses A m) p (Act a) (λ b k q h. before q (ok.closed p i b k q h))))
      ∙ steady p i
]

-- a node that isn't lost within as many requests as there are nodes is never lost
pub last_is_steady : {N : Type 0} (A : Arena N) → IsArena A → (n : ℕ) → length A.nodes ≤ n → (p : N) → IsIn p A.nodes → loses A n p ≡ loses A (length A.nodes) p
last_is_steady A ok n l p i =
    let (m, k, steady) = rounds_end A in
    steady_stays A ok m steady n (omega arith) p i ∙ sym (steady_stays A ok m steady (length A.nodes) k p i)

-- the nodes that aren't lost survive among themselves
pub unlost_survives : {N : Type 0} (A : Arena N) → IsArena A → (p : N) → IsIn p A.nodes → IsFalse (loses A (length A.nodes) p) →
    Survives A (λ q. IsIn q A.nodes × IsFalse (loses A (length A.nodes) q)) p
unlost_survives A ok p i f = grind (arith, (last_is_steady A ok (suc (length A.nodes)) (omega arith) p i), (survivor_within A ok (loses A (length A.nodes)) p i (unlost_fine A (length A.nodes) p f)), unlost_act)

-- Depths.

-- a node is lost within its depth, and not within fewer requests
pub depth_is : {N : Type 0} (A : Arena N) (p : N) (d : ℕ) → depth A p ≡ Some d → (d ≤ length A.nodes) × IsTrue (loses A d p) × ((n : ℕ) → n < d → IsFalse (loses A n p))
depth_is A p d e = grind (arith, find_least)

-- a node without a depth is never lost
pub depth_none : {N : Type 0} (A : Arena N) → IsArena A → (p : N) → IsIn p A.nodes → depth A p ≡ None → (n : ℕ) → IsFalse (loses A n p)
depth_none A ok p i e n = let last : IsFalse (loses A (length A.nodes) p) =
    any_false (λ m. loses A m p) (length A.nodes) (below (length A.nodes + 1)) (find_none (λ m. loses A m p) (below (length A.nodes + 1)) e)
    (in_below (length A.nodes + 1) (length A.nodes) (omega arith)) in
    grind (arith, last_is_steady, loses_down)

-- a node that is lost within n requests has a depth of at most n
pub lost_depth : {N : Type 0} (A : Arena N) → IsArena A → (p : N) → IsIn p A.nodes → (n : ℕ) → IsTrue (loses A n p) → (d : ℕ) × (d ≤ n) × (depth A p ≡ Some d)
lost_depth A ok p i n t = by_found (depth A p) refl
  where
    by_found : (o : Option ℕ) → depth A p ≡ o → (d : ℕ) × (d ≤ n) × (depth A p ≡ Some d)
    by_found None e = absurd (both_ways (loses A n p) (depth_none A ok p i e n) t)
    by_found (Some d) e = grind (arith, (depth_is A p d e))

-- Settled lists.

-- if a removal list holds a node for each reason that holds, its nodes are exactly the lost ones
pub settled_exact : {N : Type 0} (A : Arena N) → IsArena A → (L : List (Entry N)) → IsOrder A L →
    ((p : N) → IsIn p A.nodes → IsFalse (is_listed A L p) → (r : Reason) → IsFalse (is_justified A (is_listed A L) p r)) →
    (p : N) → IsIn p A.nodes → is_listed A L p ≡ loses A (length A.nodes) p
settled_exact {N} A ok L order settled p i = same_test (is_listed A L p) (loses A (length A.nodes) p)
    (λ t. by_test (loses A (length A.nodes) p) (λ u. u)
    (λ f. absurd (listed_dead A ok.same (λ q. IsIn q A.nodes × IsFalse (loses A (length A.nodes) q)) (λ q h. unlost_survives A ok q h.0 h.1) L order p t (i, f))))
    (λ t. by_test (is_listed A L p) (λ u. u)
    (λ f. absurd (lost_dead A (λ q. IsIn q A.nodes × IsFalse (is_listed A L q))
    (λ q h. survivor_within A ok (is_listed A L) q h.0 (not-false (A.fine q) (settled q h.0 h.1 Final)) (λ a allowed. settled q h.0 h.1 (Act a)))
    (length A.nodes) p t (i, f))))
