-- Lemmas on lists, their elements and places, on numbers below a bound, and on tests.
use Rattle.roman_model.proofs.Common.{◌≡◌, ◌≢◌, ℕ, zero, suc, ◌+◌, ◌<◌, ◌≤◌, Bool, true, false, cond, ◌&&◌, ◌||◌, ◌⊎◌, List, [], ◌∷◌, ◌++◌, map, length, get_or, Option, Some, None, IsTrue, IsFalse, filter, find, flat_map, sum_by, inl, inr, refl, sym, ap, ap₂, ◌∙◌, subst, arith, add-one, length-append, ◌↔◌, rules, Contains, ◌*◌, append-nil, append_assoc, drop, slice_get, drop-cons, option_map, list_any, false≢true, both_ways, or_cases, or_parts, or_left, or_right, or_from, and_from, cond-true, cases_eq, cases_order, true≢false, length_push, get_or_push, get_or_append_left, map_push, map-append, length-map, drop_all, sum_by-append, sum_by-cons, list_any-append, find-append, filter-append, none-some, same_Some, slice_get-map, slice_get_within, get_or_from_slice_get, slice_get-get_or, IsIn, IsSublist, HasNoRepeats, below, all_below, is_empty, option_or, flat_map-append, All, All-contains, take-append-drop, take_all, length-drop, take, ◌-◌}

-- Tests.

-- splits by the cases of a test, each with its evidence
pub by_test : {P : Type 0} (b : Bool) → (IsTrue b → P) → (IsFalse b → P) → P
by_test true on_true on_false = on_true refl
by_test false on_true on_false = on_false refl

-- two tests that imply each other are equal
pub same_test : (a b : Bool) → (IsTrue a → IsTrue b) → (IsTrue b → IsTrue a) → a ≡ b
same_test true b to back = sym (to refl)
same_test false true to back = back refl
same_test false false to back = refl

-- a test that passes at m passes at each later n, if it passes at each number after one at which it passes
pub passes_up : (p : ℕ → Bool) → ((n : ℕ) → IsTrue (p n) → IsTrue (p (suc n))) → (m n : ℕ) → m ≤ n → IsTrue (p m) → IsTrue (p n)
passes_up p more m zero l t = let e : m ≡ 0 = omega arith in subst (λ k. IsTrue (p k)) e t
passes_up p more m (suc n) l t = elim (cases_eq m (suc n)) [ inl e ↦ subst (λ k. IsTrue (p k)) e t | inr ne ↦ more n (passes_up p more m n (omega arith) t) ]

-- Elements of lists that are built from others.

pub in_append_left : {X : Type 0} (x : X) (xs ys : List X) → IsIn x xs → IsIn x (xs ++ ys)
in_append_left x (y ∷ xs) ys (inl e) = inl e
in_append_left x (y ∷ xs) ys (inr i) = inr (in_append_left x xs ys i)
in_append_left x [] ys i = absurd i

pub in_append_right : {X : Type 0} (x : X) (xs ys : List X) → IsIn x ys → IsIn x (xs ++ ys)
in_append_right x [] ys i = i
in_append_right x (y ∷ xs) ys i = inr (in_append_right x xs ys i)

pub from_append : {X : Type 0} (x : X) (xs ys : List X) → IsIn x (xs ++ ys) → IsIn x xs ⊎ IsIn x ys
from_append x [] ys i = inr i
from_append x (y ∷ xs) ys (inl e) = inl (inl e)
from_append x (y ∷ xs) ys (inr i) = elim (from_append x xs ys i) [ inl left ↦ inl (inr left) | inr right ↦ inr right ]

pub in_push : {X : Type 0} (x : X) (xs : List X) → IsIn x (xs ++ x ∷ [])
in_push x xs = in_append_right x xs (x ∷ []) (inl refl)

pub from_push : {X : Type 0} (x y : X) (xs : List X) → IsIn x (xs ++ y ∷ []) → IsIn x xs ⊎ (x ≡ y)
from_push x y xs i = elim (from_append x xs (y ∷ []) i) [ inl left ↦ inl left | inr right ↦ elim right [ inl e ↦ inr e | inr none ↦ absurd none ] ]

pub in_map : {X Y : Type 0} (f : X → Y) (x : X) (xs : List X) → IsIn x xs → IsIn (f x) (map f xs)
in_map f x [] i = absurd i
in_map f x (y ∷ xs) (inl e) = inl (ap f e)
in_map f x (y ∷ xs) (inr i) = inr (in_map f x xs i)

pub from_map : {X Y : Type 0} (f : X → Y) (y : Y) (xs : List X) → IsIn y (map f xs) → (x : X) × IsIn x xs × (y ≡ f x)
from_map f y [] i = absurd i
from_map f y (x ∷ xs) (inl e) = (x, inl refl, e)
from_map f y (x ∷ xs) (inr i) = let (z, j, e) = from_map f y xs i in (z, inr j, e)

pub in_flat_map : {X Y : Type 0} (f : X → List Y) (x : X) (y : Y) (xs : List X) → IsIn x xs → IsIn y (f x) → IsIn y (flat_map f xs)
in_flat_map f x y [] i j = absurd i
in_flat_map f x y (z ∷ xs) (inl e) j = in_append_left y (f z) (flat_map f xs) (subst (λ w. IsIn y (f w)) e j)
in_flat_map f x y (z ∷ xs) (inr i) j = in_append_right y (f z) (flat_map f xs) (in_flat_map f x y xs i j)

pub from_flat_map : {X Y : Type 0} (f : X → List Y) (y : Y) (xs : List X) → IsIn y (flat_map f xs) → (x : X) × IsIn x xs × IsIn y (f x)
from_flat_map f y [] i = absurd i
from_flat_map f y (x ∷ xs) i = elim (from_append y (f x) (flat_map f xs) i) [ inl here ↦ (x, inl refl, here) | inr rest ↦ let (z, j, k) = from_flat_map f y xs rest in (z, inr j, k) ]

pub in_filter : {X : Type 0} (p : X → Bool) (x : X) (xs : List X) → IsIn x xs → IsTrue (p x) → IsIn x (filter p xs)
in_filter p x [] i t = absurd i
in_filter p x (y ∷ xs) (inl e) t = subst (λ ys. IsIn x ys) (sym (cond-true (p y) (y ∷ filter p xs) (filter p xs) (subst (λ w. IsTrue (p w)) e t))) (inl e)
in_filter p x (y ∷ xs) (inr i) t = grind (arith, (in_filter p x xs i t))

pub filter_in : {X : Type 0} (p : X → Bool) (x : X) (xs : List X) → IsIn x (filter p xs) → IsIn x xs × IsTrue (p x)
filter_in p x [] i = absurd i
filter_in p x (y ∷ xs) i = grind (arith, by_test, cond-true, (filter_in p x xs))

-- `IsIn` and std's `Contains`

pub contains_in : {X : Type 0} (xs : List X) (x : X) → Contains xs x → IsIn x xs
contains_in [] x (k, l, e) = (let none : ⊥ = omega arith in absurd none)
contains_in (y ∷ xs) x (zero, l, e) = inl (sym e)
contains_in (y ∷ xs) x (suc k, l, e) = inr (contains_in xs x (k, omega arith, e))

pub in_contains : {X : Type 0} (xs : List X) (x : X) → IsIn x xs → Contains xs x
in_contains [] x i = absurd i
in_contains (y ∷ xs) x (inl e) = (0, omega arith, sym e)
in_contains (y ∷ xs) x (inr i) = let (k, l, e) = in_contains xs x i in (suc k, omega arith, e)

-- A test of some element.

pub any_true : {X : Type 0} (p : X → Bool) (xs : List X) → IsTrue (list_any p xs) → (x : X) × IsIn x xs × IsTrue (p x)
any_true p [] h = absurd (false≢true h)
any_true p (x ∷ xs) h = elim (or_cases (p x) (list_any p xs) h) [ inl here ↦ (x, inl refl, here) | inr rest ↦ let (y, i, t) = any_true p xs rest in (y, inr i, t) ]

pub any_from : {X : Type 0} (p : X → Bool) (x : X) (xs : List X) → IsIn x xs → IsTrue (p x) → IsTrue (list_any p xs)
any_from p x [] i t = absurd i
any_from p x (y ∷ xs) (inl e) t = or_left (p y) (list_any p xs) (subst (λ w. IsTrue (p w)) e t)
any_from p x (y ∷ xs) (inr i) t = or_right (p y) (list_any p xs) (any_from p x xs i t)

pub any_false : {X : Type 0} (p : X → Bool) (x : X) (xs : List X) → IsFalse (list_any p xs) → IsIn x xs → IsFalse (p x)
any_false p x [] h i = absurd i
any_false p x (y ∷ xs) h (inl e) = subst (λ w. IsFalse (p w)) (sym e) (or_parts (p y) (list_any p xs) h).0
any_false p x (y ∷ xs) h (inr i) = any_false p x xs (or_parts (p y) (list_any p xs) h).1 i

pub none_from : {X : Type 0} (p : X → Bool) (xs : List X) → ((x : X) → IsIn x xs → IsFalse (p x)) → IsFalse (list_any p xs)
none_from p [] h = refl
none_from p (x ∷ xs) h = or_from (p x) (list_any p xs) (h x (inl refl)) (none_from p xs (λ y i. h y (inr i)))

-- two tests that agree on the elements
pub any_same : {X : Type 0} (p q : X → Bool) (xs : List X) → ((x : X) → IsIn x xs → p x ≡ q x) → list_any p xs ≡ list_any q xs
any_same p q [] same = refl
any_same p q (x ∷ xs) same = ap₂ (λ a b. a || b) (same x (inl refl)) (any_same p q xs (λ y i. same y (inr i)))

pub list_any-map : {X Y : Type 0} (f : X → Y) (p : Y → Bool) (xs : List X) → list_any p (map f xs) ≡ list_any (λ x. p (f x)) xs
list_any-map f p [] = refl
list_any-map f p (x ∷ xs) = ap (λ b. p (f x) || b) (list_any-map f p xs)

pub list_any-flat_map : {X Y : Type 0} (f : X → List Y) (p : Y → Bool) (xs : List X) → list_any p (flat_map f xs) ≡ list_any (λ x. list_any p (f x)) xs
list_any-flat_map f p [] = refl
list_any-flat_map f p (x ∷ xs) = list_any-append p (f x) (flat_map f xs) ∙ ap (λ b. list_any p (f x) || b) (list_any-flat_map f p xs)

-- some element of a list passes if some element of a part of it does
pub any_within : {X : Type 0} (p : X → Bool) (xs ys : List X) → ((x : X) → IsIn x xs → IsIn x ys) → IsTrue (list_any p xs) → IsTrue (list_any p ys)
any_within p xs ys within h = let (x, i, t) = any_true p xs h in any_from p x ys (within x i) t

-- Empty lists.

pub empty_is : {X : Type 0} (xs : List X) → IsTrue (is_empty xs) → xs ≡ []
empty_is [] h = refl
empty_is (x ∷ xs) h = absurd (false≢true h)

pub in_not_empty : {X : Type 0} (x : X) (xs : List X) → IsIn x xs → IsFalse (is_empty xs)
in_not_empty x [] i = absurd i
in_not_empty x (y ∷ xs) i = refl

pub not_empty_in : {X : Type 0} (xs : List X) → IsFalse (is_empty xs) → (x : X) × IsIn x xs
not_empty_in [] h = absurd (true≢false h)
not_empty_in (x ∷ xs) h = (x, inl refl)

pub not_empty_ne : {X : Type 0} (xs : List X) → IsFalse (is_empty xs) → xs ≢ []
not_empty_ne xs h e = both_ways (is_empty xs) h (ap is_empty e)

pub ne_not_empty : {X : Type 0} (xs : List X) → xs ≢ [] → IsFalse (is_empty xs)
ne_not_empty [] h = absurd (h refl)
ne_not_empty (x ∷ xs) h = refl

pub is_empty-map : {X Y : Type 0} (f : X → Y) (xs : List X) → is_empty (map f xs) ≡ is_empty xs
is_empty-map f [] = refl
is_empty-map f (x ∷ xs) = refl

-- Numbers below a bound.

pub in_below : (n i : ℕ) → i < n → IsIn i (below n)
in_below zero i l = let none : ⊥ = omega arith in absurd none
in_below (suc n) i l = elim (cases_eq i n) [
  | inl e ↦ subst (λ k. IsIn k (below n ++ n ∷ [])) (sym e) (in_push n (below n))
  | inr ne ↦ in_append_left i (below n) (n ∷ []) (in_below n i (omega arith))
]

pub from_below : (n i : ℕ) → IsIn i (below n) → i < n
from_below zero i h = absurd h
from_below (suc n) i h = elim (from_push i n (below n) h) [ inl j ↦ let l : i < n = from_below n i j in omega arith | inr e ↦ omega arith ]

pub length-below : (n : ℕ) → length (below n) ≡ n
length-below zero = refl
length-below (suc n) = length_push (below n) n ∙ ap (λ m. m + 1) (length-below n) ∙ add-one n

pub get_or-below : (n i d : ℕ) → i < n → get_or (below n) i d ≡ i
get_or-below zero i d l = let none : ⊥ = omega arith in absurd none
get_or-below (suc n) i d l = grind (arith, get_or_append_left, get_or_push, length-below, (get_or-below n i d))

pub all_below_at : (p : ℕ → Bool) (n i : ℕ) → IsTrue (all_below p n) → i < n → IsTrue (p i)
all_below_at p zero i h l = let none : ⊥ = omega arith in absurd none
all_below_at p (suc n) i h l = grind (arith, cases_eq, (all_below_at p n i))

pub all_below_from : (p : ℕ → Bool) (n : ℕ) → ((i : ℕ) → i < n → IsTrue (p i)) → IsTrue (all_below p n)
all_below_from p zero h = refl
all_below_from p (suc n) h = and_from (all_below p n) (p n) (all_below_from p n (λ i l. h i (omega arith))) (h n (omega arith))

-- some number below n fails if not all pass
pub all_below_false : (p : ℕ → Bool) (n : ℕ) → IsFalse (all_below p n) → (i : ℕ) × (i < n) × IsFalse (p i)
all_below_false p zero h = absurd (true≢false h)
all_below_false p (suc n) h = grind (arith, (all_below_false p n))

pub all_below_more : (p q : ℕ → Bool) (n : ℕ) → ((i : ℕ) → i < n → IsTrue (p i) → IsTrue (q i)) → IsTrue (all_below p n) → IsTrue (all_below q n)
all_below_more p q n more h = all_below_from q n (λ i l. more i l (all_below_at p n i h l))

pub all_below_same : (p q : ℕ → Bool) (n : ℕ) → ((i : ℕ) → i < n → p i ≡ q i) → all_below p n ≡ all_below q n
all_below_same p q zero same = refl
all_below_same p q (suc n) same = ap₂ (λ a b. a && b) (all_below_same p q n (λ i l. same i (omega arith))) (same n (omega arith))

pub filter_below_more : (p : ℕ → Bool) (n : ℕ) → filter p (below (suc n)) ≡ filter p (below n) ++ cond (p n) (n ∷ []) []
filter_below_more p n = filter-append p (below n) (n ∷ [])

-- The first element that passes a test.

pub find_some : {X : Type 0} (p : X → Bool) (xs : List X) (x : X) → find p xs ≡ Some x → IsIn x xs × IsTrue (p x)
find_some p [] x e = absurd (none-some x e)
find_some p (y ∷ xs) x e = grind (arith, by_test, cond-true, same_Some, (find_some p xs x))

pub find_none : {X : Type 0} (p : X → Bool) (xs : List X) → find p xs ≡ None → IsFalse (list_any p xs)
find_none p [] e = refl
find_none p (y ∷ xs) e = grind (arith, by_test, cond-true, none-some, or_from, (find_none p xs))

-- if some element passes, an element is found
pub find_found : {X : Type 0} (p : X → Bool) (xs : List X) → IsTrue (list_any p xs) → (x : X) × (find p xs ≡ Some x)
find_found {X} p xs h = grind (arith, both_ways, find_none)

pub find_not_found : {X : Type 0} (p : X → Bool) (xs : List X) → IsFalse (list_any p xs) → find p xs ≡ None
find_not_found p [] h = refl
find_not_found p (y ∷ xs) h = grind (arith, or_parts, (find_not_found p xs))

-- among the numbers below n the first number that passes is the least
pub find_least : (p : ℕ → Bool) (n i : ℕ) → find p (below n) ≡ Some i → (i < n) × IsTrue (p i) × ((j : ℕ) → j < i → IsFalse (p j))
find_least p zero i e = absurd (none-some i e)
find_least p (suc n) i e = by_before (find p (below n)) refl (λ k found. find_least p n k found)
  where
    by_before : (o : Option ℕ) → find p (below n) ≡ o →
        ((k : ℕ) → find p (below n) ≡ Some k → (k < n) × IsTrue (p k) × ((j : ℕ) → j < k → IsFalse (p j))) →
        (i < suc n) × IsTrue (p i) × ((j : ℕ) → j < i → IsFalse (p j))
    by_before (Some k) before earlier =
        let same : k ≡ i = same_Some k i (sym (find-append p (below n) (n ∷ []) ∙ ap (λ o. option_or o (find p (n ∷ []))) before) ∙ e) in
        let (l, t, least) = earlier k before in
        grind arith
    by_before None before earlier =
        let last : find p (n ∷ []) ≡ Some i = sym (find-append p (below n) (n ∷ []) ∙ ap (λ o. option_or o (find p (n ∷ []))) before) ∙ e in
        let (here, t) = find_some p (n ∷ []) i last in
        let same : i ≡ n = elim here [ inl h ↦ h | inr none ↦ absurd none ] in
        (omega arith, t, λ j m. any_false p j (below n) (find_none p (below n) before) (in_below n j (omega arith)))

-- the first number that passes is found if no smaller number passes
pub find_first : (p : ℕ → Bool) (n i : ℕ) → i < n → IsTrue (p i) → ((j : ℕ) → j < i → IsFalse (p j)) → find p (below n) ≡ Some i
find_first p n i l t least = grind (arith, both_ways, cases_order, (find_found p (below n) (any_from p i (below n) (in_below n i l) t)), find_least)

-- Filters.

-- two tests that agree on the elements keep the same elements
pub filter_same : {X : Type 0} (p q : X → Bool) (xs : List X) → ((x : X) → IsIn x xs → p x ≡ q x) → filter p xs ≡ filter q xs
filter_same p q [] same = refl
filter_same p q (x ∷ xs) same = grind (arith, (filter_same p q xs))

-- a filter that keeps no element that another drops keeps the same number of elements, or fewer
pub filter_shrinks : {X : Type 0} (p q : X → Bool) (xs : List X) → ((x : X) → IsIn x xs → IsTrue (q x) → IsTrue (p x)) →
    ((x : X) → IsIn x xs → p x ≡ q x) ⊎ (length (filter q xs) < length (filter p xs))
filter_shrinks p q [] less = inl (λ x i. absurd i)
filter_shrinks {X} p q (y ∷ xs) less = search (rules, both_ways, filter_same, (filter_shrinks p q xs))

-- Sublists.

pub sublist_none : {X : Type 0} (ys : List X) → IsSublist [] ys
sublist_none ys = tt

pub sublist_skip : {X : Type 0} (xs ys : List X) (y : X) → IsSublist xs ys → IsSublist xs (y ∷ ys)
sublist_skip [] ys y s = tt
sublist_skip (x ∷ xs) ys y s = inr s

pub sublist_in : {X : Type 0} (x : X) (xs ys : List X) → IsSublist xs ys → IsIn x xs → IsIn x ys
sublist_in x [] ys s i = absurd i
sublist_in x (z ∷ xs) [] s i = absurd s
sublist_in x (z ∷ xs) (y ∷ ys) (inl (e, s)) (inl f) = inl (f ∙ e)
sublist_in x (z ∷ xs) (y ∷ ys) (inl (e, s)) (inr i) = inr (sublist_in x xs ys s i)
sublist_in x (z ∷ xs) (y ∷ ys) (inr s) i = inr (sublist_in x (z ∷ xs) ys s i)

pub sublist_length : {X : Type 0} (xs ys : List X) → IsSublist xs ys → length xs ≤ length ys
sublist_length [] ys s = omega arith
sublist_length (x ∷ xs) [] s = absurd s
sublist_length (x ∷ xs) (y ∷ ys) (inl (e, s)) = let l : length xs ≤ length ys = sublist_length xs ys s in omega arith
sublist_length (x ∷ xs) (y ∷ ys) (inr s) = let l : length (x ∷ xs) ≤ length ys = sublist_length (x ∷ xs) ys s in omega arith

pub filter_sublist : {X : Type 0} (p : X → Bool) (xs : List X) → IsSublist (filter p xs) xs
filter_sublist p [] = tt
filter_sublist p (x ∷ xs) = grind (arith, sublist_skip, (filter_sublist p xs))

-- Lists without repeats.

-- the parts of a list before and after an element
pub split_at : {X : Type 0} (x : X) (xs : List X) → IsIn x xs → (before : List X) × (after : List X) × (xs ≡ before ++ x ∷ after)
split_at x [] i = absurd i
split_at x (y ∷ xs) (inl e) = ([], xs, ap (λ z. z ∷ xs) (sym e))
split_at x (y ∷ xs) (inr i) = let (before, after, e) = split_at x xs i in (y ∷ before, after, ap (λ zs. y ∷ zs) e)

-- an element that isn't x is before or after it
in_others : {X : Type 0} (x z : X) (before after : List X) → (z ≡ x → ⊥) → IsIn z (before ++ x ∷ after) → IsIn z (before ++ after)
in_others x z before after apart j = grind (arith, (from_append z before (x ∷ after) j), in_append_left, in_append_right)

-- a list without repeats whose elements are all in another list is no longer than it
pub no_longer : {X : Type 0} (xs ys : List X) → HasNoRepeats xs → ((x : X) → IsIn x xs → IsIn x ys) → length xs ≤ length ys
no_longer [] ys once within = omega arith
no_longer {X} (x ∷ xs) ys once within =
    let (before, after, e) = split_at x ys (within x (inl refl)) in
    let others : (z : X) → IsIn z xs → IsIn z (before ++ after) = λ z i. in_others x z before after (λ same. once.0 (subst (λ w. IsIn w xs) same i)) (subst (λ zs. IsIn z zs) e (within z (inr i))) in
    let rest : length xs ≤ length (before ++ after) = no_longer xs (before ++ after) once.1 others in
    let there : length ys ≡ length (before ++ x ∷ after) = ap length e in
    omega (arith, length-append before after, length-append before (x ∷ after))

-- two lists without repeats and with the same elements are equally long
pub same_length : {X : Type 0} (xs ys : List X) → HasNoRepeats xs → HasNoRepeats ys → ((x : X) → IsIn x xs ↔ IsIn x ys) → length xs ≡ length ys
same_length xs ys xs_once ys_once same = grind (arith, no_longer)

pub HasNoRepeats-append : {X : Type 0} (xs ys : List X) → HasNoRepeats xs → HasNoRepeats ys → ((x : X) → IsIn x xs → IsIn x ys → ⊥) → HasNoRepeats (xs ++ ys)
HasNoRepeats-append [] ys xs_once ys_once apart = ys_once
HasNoRepeats-append (x ∷ xs) ys xs_once ys_once apart = (
  λ i. elim (from_append x xs ys i) [ inl left ↦ xs_once.0 left | inr right ↦ apart x (inl refl) right ],
  HasNoRepeats-append xs ys xs_once.1 ys_once (λ z i. apart z (inr i)),
)

pub HasNoRepeats-push : {X : Type 0} (xs : List X) (x : X) → HasNoRepeats xs → (IsIn x xs → ⊥) → HasNoRepeats (xs ++ x ∷ [])
HasNoRepeats-push xs x once new = HasNoRepeats-append xs (x ∷ []) once (λ none. absurd none, tt) (λ y i j. elim j [ inl e ↦ new (subst (λ w. IsIn w xs) e i) | inr none ↦ absurd none ])

pub HasNoRepeats-below : (n : ℕ) → HasNoRepeats (below n)
HasNoRepeats-below zero = tt
HasNoRepeats-below (suc n) = HasNoRepeats-push (below n) n (HasNoRepeats-below n) (λ i. let l : n < n = from_below n n i in omega arith)

pub HasNoRepeats-filter : {X : Type 0} (p : X → Bool) (xs : List X) → HasNoRepeats xs → HasNoRepeats (filter p xs)
HasNoRepeats-filter p [] once = tt
HasNoRepeats-filter p (x ∷ xs) once = grind (arith, filter_in, (HasNoRepeats-filter p xs once.1))

-- a map has no repeats if the function is injective on the elements
pub HasNoRepeats-map : {X Y : Type 0} (f : X → Y) (xs : List X) → ((x y : X) → IsIn x xs → IsIn y xs → f x ≡ f y → x ≡ y) → HasNoRepeats xs → HasNoRepeats (map f xs)
HasNoRepeats-map f [] apart once = tt
HasNoRepeats-map f (x ∷ xs) apart once = (
  λ i. let (y, j, e) = from_map f (f x) xs i in once.0 (subst (λ w. IsIn w xs) (sym (apart x y (inl refl) (inr j) e)) j),
  HasNoRepeats-map f xs (λ y z i j. apart y z (inr i) (inr j)) once.1,
)

-- a concatenation has no repeats if its lists have none and are disjoint
pub HasNoRepeats-flat_map : {X Y : Type 0} (f : X → List Y) (xs : List X) → ((x : X) → IsIn x xs → HasNoRepeats (f x)) →
    ((x y : X) (z : Y) → IsIn x xs → IsIn y xs → IsIn z (f x) → IsIn z (f y) → x ≡ y) → HasNoRepeats xs → HasNoRepeats (flat_map f xs)
HasNoRepeats-flat_map f [] each apart once = tt
HasNoRepeats-flat_map f (x ∷ xs) each apart once =
    HasNoRepeats-append (f x) (flat_map f xs) (each x (inl refl))
    (HasNoRepeats-flat_map f xs (λ y i. each y (inr i)) (λ y w z i j. apart y w z (inr i) (inr j)) once.1)
    (λ z i j. let (y, k, l) = from_flat_map f z xs j in once.0 (subst (λ w. IsIn w xs) (sym (apart x y z (inl refl) (inr k) i l)) k))

-- Filters and sums of lists that are built from others.

pub filter-map : {X Y : Type 0} (p : Y → Bool) (f : X → Y) (xs : List X) → filter p (map f xs) ≡ map f (filter (λ x. p (f x)) xs)
filter-map p f [] = refl
filter-map p f (x ∷ xs) = grind (arith, (filter-map p f xs))

pub filter-flat_map : {X Y : Type 0} (p : Y → Bool) (f : X → List Y) (xs : List X) → filter p (flat_map f xs) ≡ flat_map (λ x. filter p (f x)) xs
filter-flat_map p f [] = refl
filter-flat_map p f (x ∷ xs) = filter-append p (f x) (flat_map f xs) ∙ ap (λ ys. filter p (f x) ++ ys) (filter-flat_map p f xs)

pub sum_by-map : {X Y : Type 0} (g : Y → ℕ) (f : X → Y) (xs : List X) → sum_by g (map f xs) ≡ sum_by (λ x. g (f x)) xs
sum_by-map g f [] = refl
sum_by-map g f (x ∷ xs) = sum_by-cons g (f x) (map f xs) ∙ ap (λ n. g (f x) + n) (sum_by-map g f xs) ∙ sym (sum_by-cons (λ y. g (f y)) x xs)

-- the sums of two functions that agree on the elements are equal
pub sum_by_same : {X : Type 0} (f g : X → ℕ) (xs : List X) → ((x : X) → IsIn x xs → f x ≡ g x) → sum_by f xs ≡ sum_by g xs
sum_by_same f g [] same = refl
sum_by_same f g (x ∷ xs) same = grind (arith, sum_by-cons, (sum_by_same f g xs))

-- the sum over a list without repeats whose elements are all in another list is at most the sum over that list
pub sum_by_within : {X : Type 0} (f : X → ℕ) (xs ys : List X) → HasNoRepeats xs → ((x : X) → IsIn x xs → IsIn x ys) → sum_by f xs ≤ sum_by f ys
sum_by_within f [] ys once within = omega arith
sum_by_within {X} f (x ∷ xs) ys once within = let (before, after, e) = split_at x ys (within x (inl refl)) in
    let others : (z : X) → IsIn z xs → IsIn z (before ++ after) = λ z i. in_others x z before after (λ same. once.0 (subst (λ w. IsIn w xs) same i)) (subst (λ zs. IsIn z zs) e (within z (inr i))) in
    grind (arith, sum_by-append, sum_by-cons, (sum_by_within f xs (before ++ after) once.1 others))

-- Maps of maps

-- two functions that agree on the elements give the same concatenation
pub flat_map_same_in : {X Y : Type 0} (f g : X → List Y) (xs : List X) → ((x : X) → IsIn x xs → f x ≡ g x) → flat_map f xs ≡ flat_map g xs
flat_map_same_in f g [] same = refl
flat_map_same_in f g (x ∷ xs) same = ap₂ (λ ys zs. ys ++ zs) (same x (inl refl)) (flat_map_same_in f g xs (λ y i. same y (inr i)))

pub map_same_in : {X Y : Type 0} (f g : X → Y) (xs : List X) → ((x : X) → IsIn x xs → f x ≡ g x) → map f xs ≡ map g xs
map_same_in f g [] same = refl
map_same_in f g (x ∷ xs) same = ap₂ (λ y ys. y ∷ ys) (same x (inl refl)) (map_same_in f g xs (λ y i. same y (inr i)))

-- two functions that agree everywhere give the same concatenation
pub flat_map_same : {X Y : Type 0} (f g : X → List Y) (xs : List X) → ((x : X) → f x ≡ g x) → flat_map f xs ≡ flat_map g xs
flat_map_same f g xs same = flat_map_same_in f g xs (λ x i. same x)

pub map-map : {X Y Z : Type 0} (f : Y → Z) (g : X → Y) (xs : List X) → map f (map g xs) ≡ map (λ x. f (g x)) xs
map-map f g [] = refl
map-map f g (x ∷ xs) = ap (λ ys. f (g x) ∷ ys) (map-map f g xs)

pub map-flat_map : {X Y Z : Type 0} (f : Y → Z) (g : X → List Y) (xs : List X) → map f (flat_map g xs) ≡ flat_map (λ x. map f (g x)) xs
map-flat_map f g [] = refl
map-flat_map f g (x ∷ xs) = map-append f (g x) (flat_map g xs) ∙ ap (λ ys. map f (g x) ++ ys) (map-flat_map f g xs)

pub flat_map_none : {X Y : Type 0} (f : X → List Y) (xs : List X) → ((x : X) → f x ≡ []) → flat_map f xs ≡ []
flat_map_none f [] none = refl
flat_map_none f (x ∷ xs) none = ap₂ (λ ys zs. ys ++ zs) (none x) (flat_map_none f xs none)

-- Numbers below a bound, row by row.

-- a table with one more row
pub flat_map_row : {Y : Type 0} (f : ℕ → List Y) (n : ℕ) → flat_map f (below (suc n)) ≡ flat_map f (below n) ++ f n
flat_map_row f n = flat_map-append f (below n) (n ∷ []) ∙ ap (λ ys. flat_map f (below n) ++ ys) (append-nil (f n))

below_add : (m n : ℕ) → below (m + n) ≡ below m ++ map (λ j. m + j) (below n)
below_add m zero = let same : m + 0 ≡ m = omega arith in ap below same ∙ sym (append-nil (below m))
below_add m (suc n) =
    let more : m + suc n ≡ suc (m + n) = omega arith in
    grind (arith, append_assoc, map_push, (below_add m n))

-- a map over the numbers below a product
pub map_rows : {X : Type 0} (f : ℕ → X) (a b : ℕ) → map f (below (a * b)) ≡ flat_map (λ i. map (λ j. f (i * b + j)) (below b)) (below a)
map_rows f zero b = let none : 0 * b ≡ 0 = omega arith in ap (λ n. map f (below n)) none
map_rows f (suc a) b = grind (arith, (below_add (a * b) b), map-append, map-map, flat_map_row, (map_rows f a b))

-- The items of a list at their places.

-- there is an item at each place of the list
pub there_is : {X : Type 0} (xs : List X) (k : ℕ) → k < length xs → (x : X) × (slice_get xs k ≡ Some x)
there_is [] k l = absurd (omega arith)
there_is (x ∷ xs) zero l = (x, refl)
there_is (x ∷ xs) (suc k) l = there_is xs k (omega arith)

pub get_in : {X : Type 0} (xs : List X) (k : ℕ) (x : X) → slice_get xs k ≡ Some x → IsIn x xs
get_in xs k x e = contains_in xs x (k, slice_get_within xs k x e, get_or_from_slice_get xs k x x e)

-- the element at a place is in the list
pub in_at : {X : Type 0} (xs : List X) (k : ℕ) (d : X) → k < length xs → IsIn (get_or xs k d) xs
in_at xs k d l = get_in xs k (get_or xs k d) (slice_get-get_or xs k d l)

-- an element of the first ones is in the list
pub in_take : {X : Type 0} (n : ℕ) (x : X) (xs : List X) → IsIn x (take n xs) → IsIn x xs
in_take n x xs i = subst (IsIn x) (take-append-drop n xs) (in_append_left x (take n xs) (drop n xs) i)

-- the elements from a place on, taken by their number
pub rest_is : {X : Type 0} (xs : List X) (n : ℕ) → take (length xs - n) (drop n xs) ≡ drop n xs
rest_is xs n = take_all (length xs - n) (drop n xs) (omega (arith, length-drop n xs))

-- a property of all elements holds of each
pub all_in : {X : Type 0} (P : X → Type 0) (xs : List X) (x : X) → All P xs → IsIn x xs → P x
all_in P xs x all i = All-contains P xs x all (in_contains xs x i)

pub in_get : {X : Type 0} (xs : List X) (x : X) → IsIn x xs → (k : ℕ) × (slice_get xs k ≡ Some x)
in_get xs x i = let (k, l, e) = in_contains xs x i in (k, slice_get-get_or xs k x l ∙ ap Some e)

pub from_get_map : {X Y : Type 0} (f : X → Y) (xs : List X) (k : ℕ) (y : Y) → slice_get (map f xs) k ≡ Some y → (x : X) × (slice_get xs k ≡ Some x) × (y ≡ f x)
from_get_map f [] k y e = absurd (none-some y e)
from_get_map f (x ∷ xs) zero y e = (x, refl, sym (same_Some (f x) y e))
from_get_map f (x ∷ xs) (suc k) y e = from_get_map f xs k y e

pub get_map : {X Y : Type 0} (f : X → Y) (xs : List X) (k : ℕ) (x : X) → slice_get xs k ≡ Some x → slice_get (map f xs) k ≡ Some (f x)
get_map f xs k x e = slice_get-map f xs k ∙ ap (option_map f) e

-- the numbers from k on
pub from_place : (n k : ℕ) → k < n → drop k (below n) ≡ k ∷ drop (k + 1) (below n)
from_place n k l = grind (arith, (length-below n), drop-cons, (get_or-below n k 0 l), (add-one k))

-- there are no numbers from n on
pub from_end : (n k : ℕ) → n ≤ k → drop k (below n) ≡ []
from_end n k l = drop_all k (below n) (omega (arith, length-below n))

-- Tables, and the rank of a number among the numbers that pass a test.

-- the length of a table
pub length_rows : {X Y : Type 0} (f : ℕ → X → Y) (xs : List X) (n : ℕ) → length (flat_map (λ h. map (f h) xs) (below n)) ≡ n * length xs
length_rows f xs zero = omega arith
length_rows f xs (suc n) = grind (arith, flat_map_row, length-map, length-append, (length_rows f xs n))

-- the number of smaller numbers that pass
abbrev pub rank : (ℕ → Bool) → ℕ → ℕ
rank q p = length (filter q (below p))

-- a number that passes is found at its rank
pub rank_at : (q : ℕ → Bool) (n p d : ℕ) → p < n → IsTrue (q p) → (rank q p < rank q n) × (get_or (filter q (below n)) (rank q p) d ≡ p)
rank_at q zero p d l t = absurd (omega arith)
rank_at q (suc n) p d l t = elim (cases_eq p n) [
  | inl e ↦ grind (arith, filter_below_more, length-append, get_or_push)
  | inr ne ↦ grind (arith, filter_below_more, length-append, get_or_append_left, (rank_at q n p d (omega arith) t))
]
