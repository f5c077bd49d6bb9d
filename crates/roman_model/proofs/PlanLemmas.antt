-- The plan of the choices costs least of all plans at a related pair, and its cost is computed one action, one seat and one outcome at a time.
use Rattle.roman_model.proofs.Common.{cases_lt, cond-false, leb-true, leb-false, ◌≡◌, ◌≢◌, ℕ, zero, suc, ◌+◌, ◌<◌, ◌≤◌, Bool, true, false, cond, ◌⊎◌, List, [], ◌∷◌, ◌++◌, IsTrue, filter, nat_le, inl, inr, refl, sym, ap, ap₂, ◌∙◌, subst, arith, rules, ◌*◌, map, max, IsIn, below, Sys, Pair, IsSys, IsPair, outcomes, is_allowed, Great, offers, Costs, max_over, allowed_actions, least_from, through, least, choice, Plan, Leaf, Node, IsPlan, worst, first_least, chosen, IsChoice, PlansCostLeast, least_at, le-max_left, le-max_right, max-le, sizes_of, pair_at, number, count, numbered}
use Rattle.roman_model.proofs.Lists.{by_test, filter_in, from_below, from_push}
use Rattle.roman_model.proofs.SystemLemmas.{outcome_pair}
use Rattle.roman_model.proofs.CompositionLemmas.{offer_is, related_offers}
use Rattle.roman_model.proofs.NumberLemmas.{numbers_are_pairs}

-- The greatest value over a list.

pub le_max_over : {X : Type 0} (f : X → ℕ) (x : X) (xs : List X) → IsIn x xs → f x ≤ max_over f xs
le_max_over f x [] i = absurd i
le_max_over f x (y ∷ xs) (inl e) = subst (λ z. f z ≤ max (f y) (max_over f xs)) (sym e) (le-max_left (f y) (max_over f xs))
le_max_over f x (y ∷ xs) (inr i) = grind (arith, le-max_right, (le_max_over f x xs i))

pub max_over_le : {X : Type 0} (f : X → ℕ) (m : ℕ) (xs : List X) → ((x : X) → IsIn x xs → f x ≤ m) → max_over f xs ≤ m
max_over_le f m [] h = omega arith
max_over_le f m (x ∷ xs) h = max-le (h x (inl refl)) (max_over_le f m xs (λ y i. h y (inr i)))

pub max_over_more : {X : Type 0} (f g : X → ℕ) (xs : List X) → ((x : X) → IsIn x xs → f x ≤ g x) → max_over f xs ≤ max_over g xs
max_over_more f g xs h = grind (arith, le_max_over, max_over_le)

pub max_over_same : {X : Type 0} (f g : X → ℕ) (xs : List X) → ((x : X) → IsIn x xs → f x ≡ g x) → max_over f xs ≡ max_over g xs
max_over_same f g [] same = refl
max_over_same f g (x ∷ xs) same = ap₂ max (same x (inl refl)) (max_over_same f g xs (λ y i. same y (inr i)))

-- adding a number to each value adds it to the greatest
pub max_over_plus : {X : Type 0} (c : ℕ) (f : X → ℕ) (xs : List X) → xs ≢ [] → max_over (λ x. c + f x) xs ≡ c + max_over f xs
max_over_plus c f [] some = absurd (some refl)
max_over_plus c f (x ∷ []) some = grind arith
max_over_plus c f (x ∷ y ∷ xs) some = grind (arith, (max_over_plus c f (y ∷ xs) (λ none. cc)))

-- Rising lists.

abbrev pub IsRising : List ℕ → Type 0
IsRising [] = Unit {0}
IsRising (x ∷ xs) = ((y : ℕ) → IsIn y xs → x < y) × IsRising xs

rising_push : (xs : List ℕ) (n : ℕ) → IsRising xs → ((x : ℕ) → IsIn x xs → x < n) → IsRising (xs ++ n ∷ [])
rising_push [] n rises less = (λ y i. absurd i, tt)
rising_push (x ∷ xs) n rises less = (
  λ y i. elim (from_push y n xs i) [ inl there ↦ rises.0 y there | inr e ↦ subst (λ m. x < m) (sym e) (less x (inl refl)) ],
  rising_push xs n rises.1 (λ y i. less y (inr i)),
)

rising_below : (n : ℕ) → IsRising (below n)
rising_below zero = tt
rising_below (suc n) = rising_push (below n) n (rising_below n) (λ x i. from_below n x i)

rising_filter : (p : ℕ → Bool) (xs : List ℕ) → IsRising xs → IsRising (filter p xs)
rising_filter p [] rises = tt
rising_filter p (x ∷ xs) rises =
    let rest : IsRising (filter p xs) = rising_filter p xs rises.1 in
    elim (p x) as (λ b. IsRising (cond b (x ∷ filter p xs) (filter p xs))) [ true ↦ (λ y i. rises.0 y (filter_in p y xs i).0, rest) | false ↦ rest ]

-- The first least element.

-- k costs less than j, or costs the same and isn't greater
abbrev pub IsBefore : (ℕ → ℕ) → ℕ → ℕ → Type 0
IsBefore f k j = (f k < f j) ⊎ ((f k ≡ f j) × (k ≤ j))

before_le : (f : ℕ → ℕ) (k j : ℕ) → IsBefore f k j → f k ≤ f j
before_le f k j before = grind arith

before_trans : (f : ℕ → ℕ) (i j k : ℕ) → IsBefore f i j → IsBefore f j k → IsBefore f i k
before_trans f i j k first second = grind arith

least_from_is : (f : ℕ → ℕ) (x : ℕ) (xs : List ℕ) → IsRising (x ∷ xs) → IsIn (least_from f x xs) (x ∷ xs) × ((j : ℕ) → IsIn j (x ∷ xs) → IsBefore f (least_from f x xs) j)
least_from_is f x [] rises = (inl refl, λ j i. elim i [ inl e ↦ inr (ap f (sym e), omega arith) | inr none ↦ absurd none ])
least_from_is f x (y ∷ ys) rises = by_test (nat_le (f x) (f y))
    (grind (arith, kept, leb-true, (least_from_is f x ys)))
    (λ g. subst (λ r. IsIn r (x ∷ y ∷ ys) × ((j : ℕ) → IsIn j (x ∷ y ∷ ys) → IsBefore f r j)) (sym (cond-false (nat_le (f x) (f y)) (least_from f x ys) (least_from f y ys) g))
    (taken (least_from f y ys) (leb-false (f x) (f y) g) (least_from_is f y ys rises.1)))
  where
    kept : (r : ℕ) → f x ≤ f y → IsIn r (x ∷ ys) × ((j : ℕ) → IsIn j (x ∷ ys) → IsBefore f r j) → IsIn r (x ∷ y ∷ ys) × ((j : ℕ) → IsIn j (x ∷ y ∷ ys) → IsBefore f r j)
    kept r l (i, best) = grind (arith, before_trans, cases_lt)

    taken : (r : ℕ) → f y < f x → IsIn r (y ∷ ys) × ((j : ℕ) → IsIn j (y ∷ ys) → IsBefore f r j) → IsIn r (x ∷ y ∷ ys) × ((j : ℕ) → IsIn j (x ∷ y ∷ ys) → IsBefore f r j)
    taken r l (i, best) = grind arith

pub first_least_is : (f : ℕ → ℕ) (xs : List ℕ) → IsRising xs → xs ≢ [] → IsIn (first_least f xs) xs × ((j : ℕ) → IsIn j xs → IsBefore f (first_least f xs) j)
first_least_is f [] rises some = absurd (some refl)
first_least_is f (x ∷ xs) rises some = least_from_is f x xs rises

pub choice_is : (s : Sys) (C : Costs) (h : ℕ) (p : Pair) (a : ℕ) → IsSys s → Great s p → IsTrue (is_allowed s p a) → IsChoice s C h p a (choice s C h p a)
choice_is s C h p a ok great allowed = grind (arith, (first_least_is (through s C (least s C h) p a) (offers s p a) (grind (arith, rising_below, rising_filter)) (related_offers s p a ok great allowed)))

-- Plans.

pub chosen_plan : (s : Sys) (C : Costs) (h : ℕ) (p : Pair) → IsSys s → IsPair s p → Great s p → IsPlan s h p (chosen s C h p)
chosen_plan s C zero p ok pair great = refl
chosen_plan s C (suc h) p ok pair great = λ a allowed. grind (arith, (choice_is s C h p a ok great allowed), offer_is, outcome_pair, (chosen_plan s C h))

pub chosen_cost : (s : Sys) (C : Costs) (h : ℕ) (p : Pair) → IsSys s → IsPair s p → Great s p → worst s C p (chosen s C h p) ≡ least s C h p
chosen_cost s C zero p ok pair great = refl
chosen_cost s C (suc h) p ok pair great =
    max_over_same (λ a. max_over (λ q. C (choice s C h p a) a + worst s C q (chosen s C h q)) (outcomes s p a (choice s C h p a)))
    (λ a. through s C (least s C h) p a (choice s C h p a)) (allowed_actions s p)
    (λ a i.
    let k : ℕ = choice s C h p a in
    let allowed : IsTrue (is_allowed s p a) = (filter_in (is_allowed s p) a (below s.env.actions) i).1 in
    let (allows, l, some, all) = offer_is s p a (choice s C h p a) ok pair (choice_is s C h p a ok great allowed).offered in
    max_over_same (λ q. C (choice s C h p a) a + worst s C q (chosen s C h q)) (λ q. C (choice s C h p a) a + least s C h q) (outcomes s p a (choice s C h p a))
    (λ q j. ap (λ n. C (choice s C h p a) a + n) (chosen_cost s C h q ok (outcome_pair s p a (choice s C h p a) q ok pair j) (all q j)))
    ∙ max_over_plus (C (choice s C h p a) a) (least s C h) (outcomes s p a (choice s C h p a)) some)

pub no_plan_less : (s : Sys) (C : Costs) (h : ℕ) (p : Pair) → IsSys s → IsPair s p → Great s p → (plan : Plan) → IsPlan s h p plan → least s C h p ≤ worst s C p plan
no_plan_less s C zero p ok pair great plan is = omega arith
no_plan_less s C (suc h) p ok pair great Leaf is = absurd is
no_plan_less s C (suc h) p ok pair great (Node seat next) is =
    max_over_more (λ a. through s C (least s C h) p a (choice s C h p a)) (λ a. max_over (λ q. C (seat a) a + worst s C q (next a q)) (outcomes s p a (seat a))) (allowed_actions s p)
    (λ a i.
    let allowed : IsTrue (is_allowed s p a) = (filter_in (is_allowed s p) a (below s.env.actions) i).1 in
    let (offered, plans) = is a allowed in
    let (allows, l, some, all) = offer_is s p a (seat a) ok pair offered in
    let best : through s C (least s C h) p a (choice s C h p a) ≤ through s C (least s C h) p a (seat a) =
    before_le (through s C (least s C h) p a) (choice s C h p a) (seat a) ((choice_is s C h p a ok great allowed).best (seat a) offered) in
    let sum : max_over (λ q. C (seat a) a + least s C h q) (outcomes s p a (seat a)) ≡ through s C (least s C h) p a (seat a) =
    max_over_plus (C (seat a) a) (least s C h) (outcomes s p a (seat a)) some in
    let more : max_over (λ q. C (seat a) a + least s C h q) (outcomes s p a (seat a)) ≤ max_over (λ q. C (seat a) a + worst s C q (next a q)) (outcomes s p a (seat a)) =
    max_over_more (λ q. C (seat a) a + least s C h q) (λ q. C (seat a) a + worst s C q (next a q)) (outcomes s p a (seat a))
    (λ q j. let rest : least s C h q ≤ worst s C q (next a q) = no_plan_less s C h q ok (outcome_pair s p a (seat a) q ok pair j) (all q j) (next a q) (plans q j) in omega arith) in
    omega arith)

pub plans_least : PlansCostLeast
plans_least s C h p ok pair great = search (rules, choice_is, chosen_cost, chosen_plan, no_plan_less)

-- The greatest value of a list that grows at its end.

pub max_over-append : {X : Type 0} (f : X → ℕ) (xs ys : List X) → max_over f (xs ++ ys) ≡ max (max_over f xs) (max_over f ys)
max_over-append f [] ys = grind arith
max_over-append f (x ∷ xs) ys = grind (arith, (max_over-append f xs ys))

pub max_over_push : {X : Type 0} (f : X → ℕ) (xs : List X) (x : X) → max_over f (xs ++ x ∷ []) ≡ max (max_over f xs) (f x)
max_over_push f xs x = grind (arith, max_over-append)

pub max_over-map : {X Y : Type 0} (f : Y → ℕ) (g : X → Y) (xs : List X) → max_over f (map g xs) ≡ max_over (λ x. f (g x)) xs
max_over-map f g [] = refl
max_over-map f g (x ∷ xs) = ap (max (f (g x))) (max_over-map f g xs)

-- The first least element of a list that grows at its end.

pub least_from_push : (f : ℕ → ℕ) (x : ℕ) (xs : List ℕ) (y : ℕ) → least_from f x (xs ++ y ∷ []) ≡ cond (nat_le (f (least_from f x xs)) (f y)) (least_from f x xs) y
least_from_push f x [] y = refl
least_from_push f x (z ∷ xs) y = grind (arith, (least_from_push f x xs y), (least_from_push f z xs y))

-- Over the numbers of pairs.

pub through_numbered : (s : Sys) (C : Costs) (h p a k : ℕ) → IsSys s → p < count (sizes_of s) →
    C k a + max_over (least_at s C h) ((numbered s).outcomes p a k) ≡ through s C (least s C h) (pair_at (sizes_of s) p) a k
through_numbered s C h p a k ok l =
    ap (λ n. C k a + n)
    (max_over-map (least_at s C h) (number (sizes_of s)) (outcomes s (pair_at (sizes_of s) p) a k)
    ∙ max_over_same (λ q. least_at s C h (number (sizes_of s) q)) (least s C h) (outcomes s (pair_at (sizes_of s) p) a k)
    (λ q i. ap (least s C h) ((numbers_are_pairs s).back q (outcome_pair s (pair_at (sizes_of s) p) a k q ok ((numbers_are_pairs s).pair p l) i))))

-- Bounds on least worst-case costs.

pub least_bound : (s : Sys) (C : Costs) (m h : ℕ) (p : Pair) → ((k a : ℕ) → C k a ≤ m) → least s C h p ≤ h * m
least_bound s C m zero p bound = omega arith
least_bound s C m (suc h) p bound =
    max_over_le (λ a. through s C (least s C h) p a (choice s C h p a)) (suc h * m) (allowed_actions s p)
    (λ a i.
    let rest : max_over (least s C h) (outcomes s p a (choice s C h p a)) ≤ h * m = grind (arith, max_over_le, (least_bound s C m h)) in
    grind arith)
