-- Listed costs and their cells, and the number of items of a text.
use Rattle.roman_cost.proofs.Common.{◌≡◌, ◌≢◌, ℕ, zero, suc, ◌+◌, ◌-◌, ◌*◌, ◌<◌, ◌≤◌, List, [], ◌∷◌, ◌++◌, length, get_or, Option, Some, None, All, refl, sym, ap, ◌∙◌, ap₂, arith, ◌==◌, ◌&&◌, set, both_ways, cond-false, cond-true, eq-eqb, eqb-true, and_parts, and_from, All-push, mul-add-lt, by_test, NamedSys, CostTable, listed_cost, seat_costs, HoldsCosts, cost_of, Listed, MAX_COST, items_len-items_view, option_or, get_or-set_same, get_or-set_other, length-set, same_from_place}

-- One more item.

pub listed_cost-push : (listed : List Listed) (item : Listed) (b a : ℕ) →
    listed_cost (listed ++ item ∷ []) b a ≡ option_or (listed_cost listed b a) (listed_cost (item ∷ []) b a)
listed_cost-push [] item b a = refl
listed_cost-push (x ∷ listed) item b a = grind (arith, (listed_cost-push listed item b a))

cell-put : (n : ℕ) (listed : List Listed) (item : Listed) (cells : List (Option ℕ)) (b a : ℕ) → a < n → item.action < n → item.behaviour * n + item.action < length cells →
    listed_cost listed item.behaviour item.action ≡ None → get_or cells (b * n + a) None ≡ listed_cost listed b a →
    get_or (set cells (item.behaviour * n + item.action) (Some item.cost)) (b * n + a) None ≡ listed_cost (listed ++ item ∷ []) b a
cell-put n listed item cells b a la li within new before = by_test (item.behaviour == b && item.action == a)
    (λ t.
    let (same_b, same_a) = and_parts (item.behaviour == b) (item.action == a) t in
    let eb : item.behaviour ≡ b = eqb-true item.behaviour b same_b in
    let ea : item.action ≡ a = eqb-true item.action a same_a in
    let one : listed_cost (item ∷ []) b a ≡ Some item.cost = cond-true (item.behaviour == b && item.action == a) (Some item.cost) None t in
    let none : listed_cost listed b a ≡ None = ap₂ (listed_cost listed) (sym eb) (sym ea) ∙ new in
    ap₂ (λ k j. get_or (set cells (item.behaviour * n + item.action) (Some item.cost)) (k * n + j) None) (sym eb) (sym ea)
    ∙ get_or-set_same cells (item.behaviour * n + item.action) (Some item.cost) None within
    ∙ sym (listed_cost-push listed item b a ∙ ap (λ o. option_or o (listed_cost (item ∷ []) b a)) none ∙ one))
    (λ f.
    let one : listed_cost (item ∷ []) b a ≡ None = cond-false (item.behaviour == b && item.action == a) (Some item.cost) None f in
    let apart : b * n + a ≢ item.behaviour * n + item.action = λ e.
    let (eb, ea) = same_from_place b a item.behaviour item.action n la li e in
    both_ways (item.behaviour == b && item.action == a) f (and_from (item.behaviour == b) (item.action == a) (eq-eqb item.behaviour b (sym eb)) (eq-eqb item.action a (sym ea))) in
    get_or-set_other cells (item.behaviour * n + item.action) (b * n + a) (Some item.cost) None apart ∙ before
    ∙ sym (listed_cost-push listed item b a ∙ ap (option_or (listed_cost listed b a)) one
    ∙ elim (listed_cost listed b a) as (λ o. option_or o None ≡ o) [ None ↦ refl | Some x ↦ refl ]))

pub HoldsCosts-put : (table : CostTable) (cells after : List (Option ℕ)) (item : Listed) → HoldsCosts table cells → item.behaviour < table.behaviours → item.action < table.actions →
    item.cost ≤ MAX_COST → listed_cost table.listed item.behaviour item.action ≡ None →
    after ≡ set cells (item.behaviour * table.actions + item.action) (Some item.cost) →
    HoldsCosts (record { behaviours = table.behaviours; actions = table.actions; listed = table.listed ++ item ∷ [] }) after
HoldsCosts-put table cells after item has lb la small new is =
    let within : item.behaviour * table.actions + item.action < length cells =
    omega (arith, mul-add-lt item.behaviour table.actions item.action table.behaviours lb la, has.len) in
    record {
      few_behaviours = has.few_behaviours;
      few_actions = has.few_actions;
      small = All-push (λ x. x.cost ≤ MAX_COST) table.listed item has.small small;
      len = ap length is ∙ length-set cells (item.behaviour * table.actions + item.action) (Some item.cost) ∙ has.len;
      cells = λ b a mb ma. ap (λ xs. get_or xs (b * table.actions + a) None) is
          ∙ cell-put table.actions table.listed item cells b a ma la within new (has.cells b a mb ma);
    }

-- The bound of costs.

pub cost_of_small : (listed : List Listed) → All (λ x. x.cost ≤ MAX_COST) listed → (b a : ℕ) → cost_of listed b a ≤ MAX_COST
cost_of_small [] each b a = omega arith
cost_of_small (x ∷ listed) each b a = grind (arith, (each zero x (omega arith)), (cost_of_small listed (λ k d l. each (suc k) d (omega arith)) b a))

pub seat_costs_small : (n : NamedSys) (listed : List Listed) → All (λ x. x.cost ≤ MAX_COST) listed → (k a : ℕ) → seat_costs n listed k a ≤ MAX_COST
seat_costs_small n listed each k a = grind (arith, cost_of_small)

-- the rules for the number of items of a text
pub ruleset counts = (items_len-items_view)
