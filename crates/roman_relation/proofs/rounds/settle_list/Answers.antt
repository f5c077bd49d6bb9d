use Rattle.roman_relation.proofs.Common.{◌≡◌, ◌<◌, [], length, sym, ap, ◌∙◌, arith, rules, ℕ, suc, ◌-◌, true, List, ◌∷◌, ◌++◌, take, slice_get, slice_index, Some, IsTrue, IsFalse, inl, inr, subst, common_steps, eq-eqb, eqb-true, cases_lt, both_ways, fall, Arena, Entry, is_listed, IsOrder, Board, has_entry, Begins, HoldsLost, RisesByDepth, AreLevels, nil_from_length, take-take, length_push, get_or-take, length-take, get_or_append_left, get_or-append_right, take-length, get_or_from_slice_get, slice_get_within, IsNumbered, numbered_same, in_listed, contains_in, loses_up, order_entry}
use Rattle.roman_relation.proofs.Beginnings.{begins_on, begins_length, fall_added, listed_is, begins_same, take_listed}
use Rattle.roman_relation.proofs.rounds.settle_list.Goals as goal

-- the node of an entry is listed in each prefix beyond it
listed_at : (A : Arena ℕ) → IsNumbered A → (L : List (Entry ℕ)) (i k : ℕ) (x : Entry ℕ) → slice_get L i ≡ Some x → i < k → IsTrue (is_listed A (take k L) x.node)
listed_at A ok L i k x e l =
    let inside = slice_get_within L i x e in
    in_listed A (numbered_same A ok) (take k L) x (contains_in (take k L) x (i, omega (arith, length-take k L), get_or-take k L i x l ∙ get_or_from_slice_get L i x x e))

-- the entries of a list in levels rise by depth
levels_rise : (A : Arena ℕ) → IsNumbered A → (levels : List ℕ) (L : List (Entry ℕ)) → AreLevels A levels L → IsOrder A L → ((p : ℕ) → has_entry L p ≡ true → p < length A.nodes) → RisesByDepth A L
levels_rise A ok levels L are order in_range = record {
  each = λ n i j x y l e f t.
      let inside : (i : ℕ) (x : Entry ℕ) → slice_get L i ≡ Some x → x.node < length A.nodes = λ i x e. in_range x.node (sym (listed_is A ok L x.node) ∙ take_listed A (suc i) L x.node (listed_at A ok L i (suc i) x e (omega arith))) in
      elim (cases_lt n (length levels)) [
        | inl h ↦
            let k : ℕ = slice_index levels n in
            let before = (order_entry A L j y order (slice_get_within L j y f)).0 in
            let deep : j < k = elim (cases_lt j k) [
              | inl m ↦ m
              | inr m ↦ absurd (both_ways (is_listed A (take j L) y.node) (subst (λ (z : Entry ℕ). IsFalse (is_listed A (take j L) z.node)) (get_or_from_slice_get L j y y f) before)
                  (take_listed A k (take j L) y.node (subst (λ M. IsTrue (is_listed A M y.node)) (sym (take-take k j L m)) ((are.each n h).each y.node (inside j y f) ∙ t))))
            ] in
            sym ((are.each n h).each x.node (inside i x e)) ∙ listed_at A ok L i k x e (omega arith)
        | inr h ↦
            let last : ℕ = length levels - 1 in
            let some = are.some in
            let all = listed_at A ok L i (slice_index levels last) x e (omega (arith, are.last, slice_get_within L i x e)) in
            loses_up A last n x.node (omega arith) (sym ((are.each last (omega arith)).each x.node (inside i x e)) ∙ all)
      ];
}

-- the first level
levels_first : (A : Arena ℕ) (L : List (Entry ℕ)) → HoldsLost A 0 L → AreLevels A ([] ++ length L ∷ []) L
levels_first A L holds = grind (arith, take-length)

-- one more level
levels_more : (A : Arena ℕ) (levels : List ℕ) (L M : List (Entry ℕ)) → Begins L M → (HoldsLost A (length levels) L → HoldsLost A (suc (length levels)) M) → AreLevels A (levels ++ length L ∷ []) L →
    AreLevels A ((levels ++ length L ∷ []) ++ length M ∷ []) M
levels_more A levels L M begins more are =
    let holds : HoldsLost A (length levels) L = grind (arith, get_or-append_right, length_push, take-length, (are.each (length levels))) in
    grind (arith, begins_length, begins_same, cases_lt, get_or-append_right, get_or_append_left, length_push, take-length, (more holds))

pub rounds-init : goal.rounds-init
rounds-init g c =
    let A = g.J.Rules.arena c.args.joint.now in
    let b = c.args.order.now in
    let d = c.begin_rounds.new.order in
    let goes = c.begin_rounds.ensures.goes_on in
    let of_f = ap (λ (y : Board). y.list) c.forget_levels.ensures in
    let none : d.levels ≡ [] = ap (λ (y : Board). y.levels) goes.rest ∙ ap (λ (y : Board). y.levels) c.forget_levels.ensures in
    let begins : Begins b.list d.list = rw of_f at goes.begins in
    record {
      ready = c.begin_rounds.ensures.ready;
      begins = begins;
      rest = search rules;
      fresh = λ t.
          let empty : b.list ≡ [] = nil_from_length b.list (omega (arith, eqb-true c.len-is_fresh.result 0 t, c.len-is_fresh.ensures.value)) in
          rw none (levels_first A d.list (c.begin_rounds.ensures.lost (of_f ∙ empty)));
      stale = λ f. none;
      few = omega (arith, ap length none);
      cost = omega (arith, fall_added A b.list d.list begins);
    }

pub rounds-preserved : goal.rounds-preserved
rounds-preserved g c =
    let A = g.J.Rules.arena c.args.joint.now in
    let b = c.args.order.now in
    let old = c.rounds.order in
    let e = c.end_level.new.order in
    let d = c.play_round.new.order in
    let goes = c.play_round.ensures.goes_on in
    let is = c.end_level.ensures in
    let inv = c.rounds.invariant in
    let levels : d.levels ≡ e.levels = ap (λ (y : Board). y.levels) goes.rest in
    let list : e.list ≡ old.list = ap (λ (y : Board). y.list) is.rest in
    let begins : Begins old.list d.list = rw list at goes.begins in
    let longer : length old.list < length d.list = omega (arith, begins_length old.list d.list begins, c.len-start.ensures.value, c.len.ensures.value, c.if-len-start.false, ap length list) in
    record {
      ready = c.play_round.ensures.ready;
      begins = begins_on b.list old.list d.list inv.begins begins;
      rest = goes.rest ∙ (ap (λ (y : Board). record y { list = d.list; marks = d.marks; before = d.before }) (is.rest ∙ ap (λ (y : Board). record y { levels = e.levels }) inv.rest)
          ∙ ap (λ ls. record b { list = d.list; marks = d.marks; before = d.before; levels = ls }) (sym levels));
      fresh = λ t. rw (levels, is.kept t) (levels_more A old.levels old.list d.list begins (λ holds. c.play_round.ensures.lost (length old.levels) (rw list holds)) (inv.fresh t));
      stale = λ f. levels ∙ (is.left f ∙ inv.stale f);
      few = omega (arith, is.few, ap length levels, inv.few, longer);
      cost = omega (arith, inv.cost, c.play_round.ensures.cost, fall_added A e.list d.list goes.begins, ap (fall A) list);
    }

pub returns-then-len-start-clause-cost : goal.returns-then-len-start-clause-cost
returns-then-len-start-clause-cost g c = grind (arith, begins_on, fall_added)

pub returns-then-len-start-clause-rises : goal.returns-then-len-start-clause-rises
returns-then-len-start-clause-rises g c empty =
    let old = c.rounds.order in
    let fresh = eq-eqb c.len-is_fresh.result 0 (omega (arith, c.len-is_fresh.ensures.value, ap length empty)) in
    let rises = levels_rise _ c.known.ensures.numbered _ old.list (c.rounds.invariant.fresh fresh) c.rounds.invariant.ready.valid (λ p t. omega (arith, c.known-in-rounds.ensures.in_range p t, c.rounds.invariant.ready.shaped.pairs)) in
    grind (arith, common_steps, rises)
