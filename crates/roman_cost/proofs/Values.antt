-- The values for each number of requests: their places and their bounds.
use Rattle.roman_cost.proofs.Common.{◌≡◌, ℕ, zero, suc, ◌+◌, ◌-◌, ◌*◌, ◌<◌, ◌≤◌, List, [], ◌∷◌, ◌++◌, map, length, get_or, take, drop, All, refl, sym, ap, ap₂, ◌∙◌, inl, inr, arith, append_assoc, append-nil, replicate, slice_range, subst, length-drop, length-map, take_more, map_push, take-append-le, drop-append-le, IsIn, Sys, IsSys, Costs, least_at, flat_map_row, length_rows, related_pairs, values_below, AdviceTable, Advises, HavePlaces, AreLeastCosts, MAX_COST, MAX_REQUESTS, mul-le-mul_left, take-nil, take-length, drop-append_seam, cases_eq, in_at}

pub all_from : {X : Type 0} (P : X → Type 0) (xs : List X) → ((x : X) → IsIn x xs → P x) → All P xs
all_from P xs each k d l = each (get_or xs k d) (in_at xs k d l)

-- The place of the values for a number of requests.

pub range_left : {X : Type 0} (xs ys : List X) (i n : ℕ) → i + n ≤ length xs → slice_range (xs ++ ys) i (i + n) ≡ slice_range xs i (i + n)
range_left xs ys i n l = grind (arith, drop-append-le, length-drop, take-append-le)

pub range_seam : {X : Type 0} (xs ys : List X) (i n : ℕ) → i ≡ length xs → n ≡ length ys → slice_range (xs ++ ys) i (i + n) ≡ ys
range_seam xs ys i n at long =
    let whole : i + n - i ≡ length ys = omega arith in
    ap₂ take whole (ap (λ k. drop k (xs ++ ys)) at ∙ drop-append_seam xs ys) ∙ take-length ys

pub values_fit : (s : Sys) (C : Costs) (pairs values : List ℕ) (n h : ℕ) → h < n → values ≡ values_below s C pairs n → h * length pairs + length pairs ≤ length values
values_fit s C pairs values n h l is =
    let fewer : suc h ≤ n = omega arith in
    let up : length pairs * suc h ≤ length pairs * n = mul-le-mul_left (length pairs) fewer in
    omega (arith, up, ap length is, length_rows (least_at s C) pairs n)

pub values_there : (s : Sys) (C : Costs) (pairs : List ℕ) (n h : ℕ) → h < n → slice_range (values_below s C pairs n) (h * length pairs) (h * length pairs + length pairs) ≡ map (least_at s C h) pairs
values_there s C pairs zero h l = absurd (omega arith)
values_there s C pairs (suc n) h l =
    let begun : List ℕ = values_below s C pairs n in
    let last : List ℕ = map (least_at s C n) pairs in
    ap (λ xs. slice_range xs (h * length pairs) (h * length pairs + length pairs)) (flat_map_row (λ h. map (least_at s C h) pairs) n)
    ∙ elim (cases_eq h n) [
      | inl e ↦ range_seam begun last (h * length pairs) (length pairs) (ap (λ k. k * length pairs) e ∙ sym (length_rows (least_at s C) pairs n)) (sym (length-map pairs (least_at s C n))) ∙ ap (λ k. map (least_at s C k) pairs) (sym e)
      | inr ne ↦ range_left begun last (h * length pairs) (length pairs) (values_fit s C pairs begun n h (omega arith) refl) ∙ values_there s C pairs n h (omega arith)
    ]

-- the values for h requests, among those for each number of requests
pub values_told : (s : Sys) (C : Costs) (pairs values costs : List ℕ) (n h : ℕ) → h < n → values ≡ values_below s C pairs n →
    costs ≡ slice_range values (h * length pairs) (h * length pairs + length pairs) → costs ≡ map (least_at s C h) pairs
values_told s C pairs values costs n h l is told = told ∙ ap (λ vs. slice_range vs (h * length pairs) (h * length pairs + length pairs)) is ∙ values_there s C pairs n h l

-- the values of advice for h requests
pub table_values : (s : Sys) (C : Costs) (table : AdviceTable) (values : List ℕ) (n h : ℕ) → Advises s C table → h ≤ table.requests → values ≡ table.values → n ≡ length table.pairs →
    slice_range values (h * n) (h * n + n) ≡ map (least_at s C h) (related_pairs s)
table_values s C table values n h says few same long =
    ap (λ k. slice_range values (h * k) (h * k + k)) long
    ∙ values_told s C table.pairs values _ (suc table.requests) h (omega arith) (same ∙ says.values) refl ∙ ap (map (least_at s C h)) says.pairs

-- the costs for one more request can be computed from values of advice
pub table_has_costs : (s : Sys) (C : Costs) (table : AdviceTable) (ranks costs : List ℕ) (h : ℕ) → IsSys s → ((k a : ℕ) → C k a ≤ MAX_COST) → h < MAX_REQUESTS → Advises s C table → HavePlaces table.pairs ranks →
    costs ≡ map (least_at s C h) table.pairs → AreLeastCosts s C h ranks costs
table_has_costs s C table ranks costs h ok cheap few says are is = record {
  system = ok;
  cheap = cheap;
  few = few;
  places = subst (λ ps. HavePlaces ps ranks) says.pairs are;
  values = is ∙ ap (map (least_at s C h)) says.pairs;
}

-- The values so far.

pub first_values : (s : Sys) (C : Costs) (pairs : List ℕ) (n : ℕ) → n ≡ length pairs → replicate n 0 ≡ values_below s C pairs 1
first_values s C pairs n e = ap (λ k. replicate k 0) e ∙ zeros pairs ∙ sym (append-nil (map (least_at s C 0) pairs))
  where
    zeros : (ps : List ℕ) → replicate (length ps) 0 ≡ map (least_at s C 0) ps
    zeros [] = refl
    zeros (p ∷ ps) = ap (λ vs. 0 ∷ vs) (zeros ps)

pub resized_values : (s : Sys) (C : Costs) (pairs values new : List ℕ) (n m : ℕ) → values ≡ [] → m ≡ 0 → n ≡ length pairs → new ≡ take n values ++ replicate (n - m) 0 →
    new ≡ values_below s C pairs 1
resized_values s C pairs values new n m empty none long is = grind (arith, first_values, take-nil)

-- the values so far, after one more
pub values_more : (f : ℕ → ℕ) (begun pairs values new : List ℕ) (i value : ℕ) → i < length pairs → values ≡ begun ++ map f (take i pairs) → value ≡ f (get_or pairs i 0) →
    new ≡ values ++ value ∷ [] → new ≡ begun ++ map f (take (i + 1) pairs)
values_more f begun pairs values new i value l before is next =
    next ∙ ap₂ (λ vs v. vs ++ v ∷ []) before is ∙ append_assoc begun (map f (take i pairs)) (f (get_or pairs i 0) ∷ [])
    ∙ ap (λ vs. begun ++ vs) (sym (map_push f (take i pairs) (get_or pairs i 0)) ∙ ap (map f) (sym (take_more pairs i 0 l)))
