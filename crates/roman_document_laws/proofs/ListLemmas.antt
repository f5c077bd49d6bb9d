-- Readings that are characterised by properties, and lists whose items are read one by one.
use Rattle.roman_document_laws.proofs.Common.{◌≡◌, ℕ, suc, ◌⊎◌, inl, inr, List, [], ◌∷◌, ◌++◌, length, Result, ◌↔◌, Ok, Err, refl, sym, ap, ◌∙◌, subst, arith, ◌+◌, append_assoc, append-nil, length_push, Data, Items, no_items, item, items_len, items_of, ◌>>=◌, each_item, kind_of, IsListAt, MissesList, AreItems, FaultIn, IsListOf, BreaksList, Kind, Miss, same_ok, bind_ok, Count}

pub same_err : {X E : Type 0} (d e : E) → ◌≡◌ {A = Result X E} (Err d) (Err e) → d ≡ e
same_err d e h = cc

-- Exact readings

-- the reading gives exactly the values for which `Is` holds, and is refused exactly by the errors for which `Breaks` holds
pub record IsExact {X E : Type 0} (r : Result X E) (Is : X → Type 0) (Breaks : E → Type 0) : Type 0 where
  pub gives : (x : X) → (r ≡ Ok x) ↔ Is x
  pub refuses : (e : E) → (r ≡ Err e) ↔ Breaks e

-- the same for equivalent properties
pub exact_as : {X E : Type 0} (r : Result X E) (Is More : X → Type 0) (Breaks Fails : E → Type 0) → IsExact r Is Breaks → ((x : X) → Is x ↔ More x) → ((e : E) → Breaks e ↔ Fails e) → IsExact r More Fails
exact_as r Is More Breaks Fails exact value refusal = grind arith

-- each reading is exact by its own results
pub exact_same : {X E : Type 0} (r : Result X E) → IsExact r (λ x. r ≡ Ok x) (λ e. r ≡ Err e)
exact_same r = record { gives = λ x. (λ h. h, λ h. h); refuses = λ e. (λ h. h, λ h. h) }

-- the first refusal of two readings is the result
pub bind_err : {X Y E : Type 0} (r : Result X E) (f : X → Result Y E) (e : E) → (r >>= f) ≡ Err e → (r ≡ Err e) ⊎ ((x : X) × (r ≡ Ok x) × (f x ≡ Err e))
bind_err (Ok x) f e h = inr (x, refl, h)
bind_err (Err d) f e h = inl (ap Err (same_err d e h))

-- a reading, and then one that depends on its value
pub exact_then : {X Y E : Type 0} (r : Result X E) (f : X → Result Y E) (Is : X → Type 0) (Breaks : E → Type 0) (More : X → Y → Type 0) (Fails : X → E → Type 0) → IsExact r Is Breaks →
    ((x : X) → Is x → IsExact (f x) (More x) (Fails x)) → IsExact (r >>= f) (λ y. (x : X) × Is x × More x y) (λ e. Breaks e ⊎ ((x : X) × Is x × Fails x e))
exact_then {X} {Y} {E} r f Is Breaks More Fails first next = grind (arith, bind_ok, bind_err)

-- the same, if the refusals of the second reading don't depend on the first value
pub exact_and : {X Y E : Type 0} (r : Result X E) (f : X → Result Y E) (Is : X → Type 0) (Breaks : E → Type 0) (More : X → Y → Type 0) (Fails : E → Type 0) → IsExact r Is Breaks →
    ((x : X) → Is x → IsExact (f x) (More x) Fails) → IsExact (r >>= f) (λ y. (x : X) × Is x × More x y) (λ e. Breaks e ⊎ (((x : X) × Is x) × Fails e))
exact_and r f Is Breaks More Fails first next =
    exact_as _ _ _ _ _ (exact_then r f Is Breaks More (λ x. Fails) first next) (λ y. (λ h. h, λ h. h)) (grind arith)

-- a reading whose value is passed on in another form
pub exact_map : {X Y E : Type 0} (r : Result X E) (g : X → Y) (Is : X → Type 0) (Breaks : E → Type 0) → IsExact r Is Breaks → IsExact (r >>= (λ x. Ok (g x))) (λ y. (x : X) × Is x × (g x ≡ y)) Breaks
exact_map r g Is Breaks exact = grind (arith, exact_as, exact_then, same_ok)

-- Items

-- items as a list
abbrev pub listed : Items → List Data
listed no_items = []
listed (item d ds) = d ∷ listed ds

pub items_listed : (items : Items) → items_of (listed items) ≡ items
items_listed no_items = refl
items_listed (item d ds) = ap (item d) (items_listed ds)

pub listed_items : (ds : List Data) → listed (items_of ds) ≡ ds
listed_items [] = refl
listed_items (d ∷ ds) = ap (λ es. d ∷ es) (listed_items ds)

pub items_count : (items : Items) → items_len items ≡ length (listed items)
items_count no_items = refl
items_count (item d ds) = ap suc (items_count ds)

-- a step that reads an item by `Is` and `Breaks`, and appends its value to those before it
abbrev pub AddsExactly : {X E : Type 0} → (ℕ → List X → Data → Result (List X) E) → (List X → Data → X → Type 0) → (ℕ → List X → Data → E → Type 0) → Type 0
AddsExactly {X} add Is Breaks = (i : ℕ) (before : List X) (d : Data) → i ≡ length before → IsExact (add i before d) (λ out. (x : X) × (before ++ x ∷ [] ≡ out) × Is before d x) (Breaks i before d)

-- a step that reads an item, and appends its value to those before it
pub appends : {X E : Type 0} (read : ℕ → List X → Data → Result X E) (Is : List X → Data → X → Type 0) (Breaks : ℕ → List X → Data → E → Type 0) →
    ((i : ℕ) (before : List X) (d : Data) → i ≡ length before → IsExact (read i before d) (Is before d) (Breaks i before d)) → AddsExactly (λ i before d. read i before d >>= (λ x. Ok (before ++ x ∷ []))) Is Breaks
appends read Is Breaks exact i before d at = grind (arith, exact_as, exact_map)

module _ {X E : Type 0} (add : ℕ → List X → Data → Result (List X) E) (Is : List X → Data → X → Type 0) (Breaks : ℕ → List X → Data → E → Type 0) (ok : AddsExactly add Is Breaks) where
  each_gives : (i : ℕ) (before : List X) (ds : List Data) (out : List X) → i ≡ length before → each_item add i before (items_of ds) ≡ Ok out →
      (xs : List X) × (before ++ xs ≡ out) × AreItems Is before ds xs
  unfolding each_item
  each_gives i before [] out at h = ([], append-nil before ∙ same_ok before out h, tt)
  each_gives i before (d ∷ ds) out at h =
      let (more, e, h1) = bind_ok (add i before d) _ out h in
      let (x, is, one) = ((ok i before d at).gives more).0 e in
      let counted : i + 1 ≡ length (before ++ x ∷ []) = let l = length_push before x in omega arith in
      let (xs, joined, rest) = each_gives (i + 1) (before ++ x ∷ []) ds out counted (subst (λ (more : List X). each_item add (i + 1) more (items_of ds) ≡ Ok out) (sym is) h1) in
      (x ∷ xs, sym (append_assoc before (x ∷ []) xs) ∙ joined, (one, rest))

  each_given : (i : ℕ) (before : List X) (ds : List Data) (xs : List X) → i ≡ length before → AreItems Is before ds xs → each_item add i before (items_of ds) ≡ Ok (before ++ xs)
  unfolding each_item
  each_given i before [] [] at are = ap Ok (sym (append-nil before))
  each_given i before (d ∷ ds) (x ∷ xs) at are = grind (arith, length_push, append_assoc, (((ok i before d at).gives (before ++ x ∷ [])).1 (x, refl, are.0)), (each_given (i + 1) (before ++ x ∷ []) ds xs))
  each_given _ _ _ _ _ are = absurd are

  each_refuses : (i : ℕ) (before : List X) (ds : List Data) (e : E) → i ≡ length before → each_item add i before (items_of ds) ≡ Err e → FaultIn Is Breaks before ds e
  unfolding each_item
  each_refuses i before [] e at h = absurd (let f : ⊥ = cc in f)
  each_refuses i before (d ∷ ds) e at h = elim (bind_err (add i before d) _ e h) [
    | inl here ↦
        let breaks : Breaks i before d e = ((ok i before d at).refuses e).0 here in
        record { front = []; fault = d; behind = ds; split = refl; read = []; are = tt; breaks = grind (arith, append-nil) }
    | inr (more, given, h1) ↦
        let (x, is, one) = ((ok i before d at).gives more).0 given in
        let counted : i + 1 ≡ length (before ++ x ∷ []) = let l = length_push before x in omega arith in
        let later = each_refuses (i + 1) (before ++ x ∷ []) ds e counted (subst (λ (more : List X). each_item add (i + 1) more (items_of ds) ≡ Err e) (sym is) h1) in
        record {
          front = d ∷ later.front;
          fault = later.fault;
          behind = later.behind;
          split = ap (λ (ds : List Data). d ∷ ds) later.split;
          read = x ∷ later.read;
          are = (one, later.are);
          breaks = subst (λ (b : List X). Breaks (length b) b later.fault e) (append_assoc before (x ∷ []) later.read) later.breaks;
        }
  ]

  fault_at : (i : ℕ) (before : List X) (front : List Data) (fault : Data) (behind : List Data) (xs : List X) (e : E) → i ≡ length before → AreItems Is before front xs →
      Breaks (length (before ++ xs)) (before ++ xs) fault e → each_item add i before (items_of (front ++ fault ∷ behind)) ≡ Err e
  unfolding each_item
  fault_at i before [] fault behind [] e at are breaks = grind (arith, append-nil, (ok i before fault at))
  fault_at i before (d ∷ ds) fault behind (x ∷ xs) e at are breaks = grind (arith, length_push, append_assoc, (((ok i before d at).gives (before ++ x ∷ [])).1 (x, refl, are.0)), (fault_at (i + 1) (before ++ x ∷ []) ds fault behind xs e))
  fault_at _ _ _ _ _ _ _ _ are _ = absurd are

  -- the steps from the beginning of the list
  pub all_exact : (ds : List Data) → IsExact (each_item add 0 [] (items_of ds)) (AreItems Is [] ds) (FaultIn Is Breaks [] ds)
  all_exact ds = record {
    gives = λ xs. grind (arith, (each_gives 0), (each_given 0));
    refuses = λ e. (each_refuses 0 [] ds e refl, λ f. subst (λ (ds : List Data). each_item add 0 [] (items_of ds) ≡ Err e) (sym f.split) (fault_at 0 [] f.front f.fault f.behind f.read e refl f.are f.breaks));
  }

-- a reading of a member that is a list with a fitting number of items
abbrev pub IsListing : {E : Type 0} → List ℕ → (Kind → E) → (ℕ → Type 0) → Data → Result Items E → Type 0
IsListing name refuse Fits d r =
    IsExact r (λ items. IsListAt d name (listed items) × Fits (length (listed items)))
    (λ e. ((miss : Miss) × MissesList d name miss × (e ≡ refuse (kind_of miss))) ⊎ ((items : Items) × IsListAt d name (listed items) × (Fits (length (listed items)) → ⊥) × (e ≡ refuse Count)))

-- the items of a member, which are then added one by one
pub list_exact : {X E : Type 0} (add : ℕ → List X → Data → Result (List X) E) (Is : List X → Data → X → Type 0) (Breaks : ℕ → List X → Data → E → Type 0) → AddsExactly add Is Breaks →
    (name : List ℕ) (refuse : Kind → E) (Fits : ℕ → Type 0) (d : Data) (r : Result Items E) → IsListing name refuse Fits d r →
    IsExact (r >>= each_item add 0 []) (IsListOf name Fits Is d) (BreaksList name refuse Fits Is Breaks d)
list_exact add Is Breaks ok name refuse Fits d r listing =
    exact_as _ _ _ _ _ (exact_then r (each_item add 0 []) _ _ (λ items. AreItems Is [] (listed items)) (λ items. FaultIn Is Breaks [] (listed items)) listing
    (λ items is. subst (λ (ds : Items). IsExact (each_item add 0 [] ds) (AreItems Is [] (listed items)) (FaultIn Is Breaks [] (listed items))) (items_listed items) (all_exact add Is Breaks ok (listed items))))
    (λ xs. (
      λ (items, (list, fits), are). record { items = listed items; list = list; fits = fits; are = are },
      λ h. (items_of h.items, rw listed_items (h.list, h.fits), rw listed_items h.are),
    ))
    (λ e. (
      λ bad. elim bad [
        | inl (inl misses) ↦ inl misses
        | inl (inr (items, list, never, is)) ↦ inr (listed items, list, inl (never, is))
        | inr (items, (list, fits), fault) ↦ inr (listed items, list, inr (fits, fault))
      ],
      λ bad. elim bad [
        | inl misses ↦ inl (inl misses)
        | inr (ds, list, inl (never, is)) ↦ inl (inr (items_of ds, rw listed_items list, rw listed_items never, is))
        | inr (ds, list, inr (fits, fault)) ↦ inr (items_of ds, rw listed_items (list, fits), rw listed_items fault)
      ],
    ))
