-- The meaning of a report fixes its bytes.
use Rattle.roman_hearing.proofs.Common.{◌≡◌, ◌≤◌, ℕ, List, [], ◌∷◌, ◌++◌, map, length, ◌↔◌, inl, inr, refl, subst, arith, IsIn, below, HasNoRepeats, IsSublist, Sys, Pair, seat_name, name_at, State, Counts, flat_map, HasNoRepeats-below, flat_map_same_in, no_longer, same_test, sublist_in, ReportLine, ReportsAreFixed, AreServing}
use Rattle.roman_text.specs.declared.report.ReportLine.TheVariants as line

-- two sublists of a list without repeats are equal if they have the same elements
pub sublists_same : {X : Type 0} (zs xs ys : List X) → HasNoRepeats zs → IsSublist xs zs → IsSublist ys zs → ((x : X) → IsIn x xs ↔ IsIn x ys) → xs ≡ ys
sublists_same zs [] [] once p q same = refl
sublists_same zs [] (y ∷ ys) once p q same = absurd ((same y).1 (inl refl))
sublists_same zs (x ∷ xs) [] once p q same = absurd ((same x).0 (inl refl))
sublists_same [] (x ∷ xs) (y ∷ ys) once p q same = absurd p
sublists_same (z ∷ zs) (x ∷ xs) (y ∷ ys) (new, once) (inr p) (inr q) same = sublists_same zs (x ∷ xs) (y ∷ ys) once p q same
sublists_same (z ∷ zs) (x ∷ xs) (y ∷ ys) (new, once) (inl (e, p)) (inr q) same = absurd (new (subst (λ w. IsIn w zs) e (sublist_in x (y ∷ ys) zs q ((same x).0 (inl refl)))))
sublists_same (z ∷ zs) (x ∷ xs) (y ∷ ys) (new, once) (inr p) (inl (f, q)) same = absurd (new (subst (λ w. IsIn w zs) f (sublist_in y (x ∷ xs) zs p ((same y).1 (inl refl)))))
sublists_same {X} (z ∷ zs) (x ∷ xs) (y ∷ ys) (new, once) (inl (e, p)) (inl (f, q)) same = grind (arith, sublist_in, (sublists_same zs xs ys once p q))

rising_same : (n : ℕ) (xs ys : List ℕ) → IsSublist xs (below n) → IsSublist ys (below n) → ((k : ℕ) → IsIn k xs ↔ IsIn k ys) → xs ≡ ys
rising_same n xs ys p q same = sublists_same (below n) xs ys (HasNoRepeats-below n) p q same

pub count_fixed : (s : Sys) (IsAsSaid : Pair → Type 0) (n m : ℕ) → Counts s IsAsSaid n → Counts s IsAsSaid m → n ≡ m
count_fixed s IsAsSaid n m one other =
    let few : length one.pairs ≤ length other.pairs = no_longer one.pairs other.pairs one.once (λ p i. (other.each p).1 ((one.each p).0 i)) in
    let many : length other.pairs ≤ length one.pairs = no_longer other.pairs one.pairs other.once (λ p i. (one.each p).1 ((other.each p).0 i)) in
    omega arith

services_fixed : (s : State) (a : ℕ) (one other : List ℕ) → AreServing s a one → AreServing s a other → one ≡ other
services_fixed s a one other p q = grind (arith, rising_same)

-- the lines that offer these services for the action
abbrev offer_lines : State → ℕ → List ℕ → List ReportLine
offer_lines s a ks = line.Offer (name_at s.parts.environment.actions a) ∷ (map (λ k. line.Serves (name_at (map seat_name s.parts.seats) k)) ks ++ line.Stop ∷ [])

offers_fixed : (s : State) (one other : List ℕ) (f g : ℕ → List ℕ) → one ≡ other → ((a : ℕ) → IsIn a one → f a ≡ g a) →
    flat_map (λ a. offer_lines s a (f a)) one ≡ flat_map (λ a. offer_lines s a (g a)) other
offers_fixed s one other f g actions services = grind (arith, flat_map_same_in)

-- Two texts that report the same state are equal.
pub reports_fixed : ReportsAreFixed
reports_fixed s text text' one other =
    let related : one.related ≡ other.related = count_fixed _ _ _ _ one.counted other.counted in
    let composes : one.composes ≡ other.composes = same_test one.composes other.composes (λ t. other.great.1 (one.great.0 t)) (λ t. one.great.1 (other.great.0 t)) in
    let actions : one.actions ≡ other.actions =
    rising_same s.parts.environment.env.actions one.actions other.actions one.order other.order
    (λ a. (λ i. (other.allowed a).1 ((one.allowed a).0 i), λ i. (one.allowed a).1 ((other.allowed a).0 i))) in
    let offered : flat_map (λ a. offer_lines s a (one.services a)) one.actions ≡ flat_map (λ a. offer_lines s a (other.services a)) other.actions =
    offers_fixed s one.actions other.actions one.services other.services actions
    (λ a i. services_fixed s a (one.services a) (other.services a) (one.serving a i) (other.serving a (subst (IsIn a) actions i))) in
    cc
