-- The entries before a place of a removal list, and the defeating answers among them.
use Rattle.roman_cert.proofs.Common.{Act, Arena, Entry, IsOrder, is_justified, is_listed, Board, has_entry, pairs_of, place_in_list, Bool, IsFalse, IsTrue, List, None, Option, Some, [], ap, ap₂, arith, cond, drop, eqb, false, find, inl, inr, length, refl, subst, suc, sym, take, take-append-drop, true, zero, ℕ, ◌++◌, ◌+◌, ◌<◌, ◌||◌, ◌∙◌, ◌∷◌, ◌≡◌, ◌≤◌, ◌⊎◌, Finding, Good, Leaves, NoOutcome, HasFinding, IsFinding, IsNumbered, IsSame, any_from, before_is, by_test, empty_is, find_some, get_in, justified_is, not_empty_in, order_middle, Sizes, answer, entries_before, both_ways, cases_Bool, eq-eqb, le-ltb, lt-ltb, or_parts, is_some-place_in_list, list_any, position_from, slice_get, list_any-append, listed_is, ltb, numbered_same}
use Rattle.roman_cert.proofs.Rests.{drop_at}

-- Places

position_least : {X : Type 0} (test : X → Bool) (d : ℕ) (xs : List X) (m : ℕ) → position_from test d xs ≡ Some m → d ≤ m
position_least test d [] m e = cc
position_least test d (x ∷ xs) m e = elim (cases_Bool (test x)) [
  | inl t ↦ let same : d ≡ m = let first = rw t at e in cc in omega arith
  | inr f ↦ let later = rw f at e in omega (arith, position_least test (d + 1) xs m later)
]

-- the first element that passes is among the first i exactly if its place is
position_among : {X : Type 0} (test : X → Bool) (d i : ℕ) (xs : List X) (m : ℕ) → position_from test d xs ≡ Some m → list_any test (take i xs) ≡ ltb m (d + i)
position_among test d i [] m e = cc
position_among test d zero (x ∷ xs) m e = sym (le-ltb m (d + 0) (omega (arith, position_least test d (x ∷ xs) m e)))
position_among test d (suc i) (x ∷ xs) m e = elim (cases_Bool (test x)) [
  | inl t ↦
      let same : d ≡ m = let first = rw t at e in cc in
      rw t (sym (lt-ltb m (d + suc i) (omega arith)))
  | inr f ↦
      let later = rw f at e in
      let shifted : (d + 1) + i ≡ d + suc i = omega arith in
      rw f (position_among test (d + 1) i xs m later ∙ ap (ltb m) shifted)
]

-- a listed pair comes before a place exactly if its own place is smaller
pub place_before : (L : List (Entry ℕ)) (q i m : ℕ) → place_in_list L q ≡ Some m → ltb m i ≡ has_entry (take i L) q
place_before L q i m e =
    let whole : 0 + i ≡ i = omega arith in
    sym (position_among (λ (x : Entry ℕ). eqb q x.node) 0 i L m e ∙ ap (ltb m) whole)

-- a pair that isn't listed has no place
pub no_place_before : (L : List (Entry ℕ)) (q i : ℕ) → place_in_list L q ≡ None → false ≡ has_entry (take i L) q
no_place_before L q i e =
    let test : Entry ℕ → Bool = λ x. eqb q x.node in
    let none : has_entry L q ≡ false = sym (is_some-place_in_list L q) ∙ ap (λ (o : Option ℕ). elim o [ None ↦ false | Some m ↦ true ]) e in
    let split : (list_any test (take i L) || list_any test (drop i L)) ≡ false = sym (list_any-append test (take i L) (drop i L)) ∙ ap (list_any test) (take-append-drop i L) ∙ none in
    sym (or_parts (list_any test (take i L)) (list_any test (drop i L)) split).0

-- Entries

-- the pair of an entry is one of the board's
pub entry_node : (board : Board) (i : ℕ) (x : Entry ℕ) → ((p : ℕ) → has_entry board.list p ≡ true → p < pairs_of board) → slice_get board.list i ≡ Some x → x.node < pairs_of board
entry_node board i x in_range e = in_range x.node (any_from (λ y. eqb x.node y.node) x board.list (get_in board.list i x e) (eq-eqb x.node x.node refl))

pub entry_split : {X : Type 0} (xs : List X) (i : ℕ) (x : X) → slice_get xs i ≡ Some x → xs ≡ take i xs ++ x ∷ drop (i + 1) xs
entry_split xs i x e = sym (take-append-drop i xs) ∙ ap (λ ys. take i xs ++ ys) (drop_at xs i x e)

-- an entry of a removal list is new after those before it, and they justify it
pub entry_holds : {N : Type 0} (A : Arena N) (L : List (Entry N)) (i : ℕ) (x : Entry N) → IsOrder A L → slice_get L i ≡ Some x →
    IsFalse (is_listed A (take i L) x.node) × IsTrue (is_justified A (is_listed A (take i L)) x.node x.reason)
entry_holds A L i x order e = order_middle A (take i L) (drop (i + 1) L) x (subst (IsOrder A) (entry_split L i x e) order)

-- the entries before the node's entry are those before its place
pub entries_at : {N : Type 0} (A : Arena N) → IsSame A → (L : List (Entry N)) (i : ℕ) (x : Entry N) → IsOrder A L → slice_get L i ≡ Some x → entries_before A L x.node ≡ take i L
entries_at A same L i x order e =
    ap (λ M. entries_before A M x.node) (entry_split L i x e) ∙ before_is A (take i L) x (drop (i + 1) L) (same.itself x.node) (entry_holds A L i x order e).0

-- the action of an entry is allowed at its node
pub entry_allowed : {N : Type 0} (A : Arena N) (L : List (Entry N)) (i : ℕ) (p : N) (a : ℕ) → IsOrder A L → slice_get L i ≡ Some (record { node = p; reason = Act a }) → IsTrue (A.allows p a)
entry_allowed A L i p a order e = (justified_is A (is_listed A (take i L)) p a (entry_holds A L i (record { node = p; reason = Act a }) order e).1).0

-- Answers

-- the pair that a finding names
abbrev pub pair_of : Finding → Option ℕ
pair_of Good = None
pair_of NoOutcome = None
pair_of (Leaves env state pair) = Some pair

pub no_pair : (f : Finding) → (f ≡ Good) ⊎ (f ≡ NoOutcome) → pair_of f ≡ None
no_pair f (inl e) = ap pair_of e
no_pair f (inr e) = ap pair_of e

-- two tests that agree find the same outcome
find_alike : {X : Type 0} (p q : X → Bool) (xs : List X) → ((x : X) → p x ≡ q x) → find p xs ≡ find q xs
find_alike p q [] same = refl
find_alike p q (x ∷ xs) same = ap₂ (λ b o. cond b (Some x) o) (same x) (find_alike p q xs same)

-- the first outcome that is listed before the entry's place is the defeating answer
pub answer_found : (A : Arena ℕ) → IsNumbered A → (n : Sizes) (L : List (Entry ℕ)) (i p a k : ℕ) (finding : Finding) → IsOrder A L → slice_get L i ≡ Some (record { node = p; reason = Act a }) →
    HasFinding n k (has_entry (take i L)) (A.outcomes p a k) finding → pair_of finding ≡ answer A L p a k
answer_found A ok n L i p a k finding order e found =
    let same : (q : ℕ) → is_listed A (entries_before A L p) q ≡ has_entry (take i L) q = λ q. ap (λ M. is_listed A M q) (entries_at A (numbered_same A ok) L i (record { node = p; reason = Act a }) order e) ∙ listed_is A ok (take i L) q in
    let is : answer A L p a k ≡ find (has_entry (take i L)) (A.outcomes p a k) = find_alike (is_listed A (entries_before A L p)) (has_entry (take i L)) (A.outcomes p a k) same in
    named finding found.is ∙ sym is
  where
    named : (f : Finding) → IsFinding n k (has_entry (take i L)) (A.outcomes p a k) f → pair_of f ≡ find (has_entry (take i L)) (A.outcomes p a k)
    named Good h = sym h.1
    named NoOutcome h = ap (find (has_entry (take i L))) (sym h)
    named (Leaves env state pair) h = sym h.0

-- the defeating answer is a pair of the arena
pub answer_within : (A : Arena ℕ) → IsNumbered A → (L : List (Entry ℕ)) (p a k q : ℕ) → p < length A.nodes → Some q ≡ answer A L p a k → q < length A.nodes
answer_within A ok L p a k q l e = ok.closed p a k q l (find_some (is_listed A (entries_before A L p)) (A.outcomes p a k) q (sym e)).0

-- a seat that isn't ready has no answer
pub unready_answer : (A : Arena ℕ) → IsNumbered A → (L : List (Entry ℕ)) (p a k : ℕ) → IsFalse (A.ready k) → answer A L p a k ≡ None
unready_answer A ok L p a k frozen =
    by_test _ (λ t. ap (find (is_listed A (entries_before A L p))) (empty_is _ t))
    (λ f. let (q, i) = not_empty_in _ f in absurd (both_ways (A.ready k) frozen (ok.served p a k q i).2))
