-- The text of advice states least costs.
use Rattle.roman_cost.proofs.Common.{◌≡◌, ℕ, ◌-◌, List, ◌++◌, codes, sym, ap, flat_map, below, sizes_of, count, number, pair_at, least, least_at, choice, through, allowed_actions, Pair, IsPair, is_allowed, related_great, great_related, numbers_are_pairs, filter_in, from_allowed, filter_sublist, NamedSys, system_of, worst_line, choice_line, certificate_text, advice_text, related_pairs, seat_costs, Listed, AdviceIsLeast}
use Rattle.roman_cost.proofs.PlanningLemmas.{in_allowed, least_cost, choice_cheapest, cheapest_same}
use Rattle.roman_cost.proofs.Ranks.{related_at, in_related, related_below, related_is}

-- the first line has the cost of the requests at the pair with that number
same_text : (n : NamedSys) (listed : List Listed) (requests : ℕ) (p : Pair) → IsPair (system_of n) p →
    advice_text n listed requests p
    ≡ worst_line (least_at (system_of n) (seat_costs n listed) requests (number (sizes_of (system_of n)) p))
    ++ flat_map (choice_line n (seat_costs n listed) (requests - 1) p) (allowed_actions (system_of n) p)
    ++ certificate_text (system_of n) (seat_costs n listed) requests ++ codes "end\n"
unfolding advice_text
same_text n listed requests p pair =
    let s = system_of n in
    let C = seat_costs n listed in
    ap (λ (q : Pair). worst_line (least s C requests q) ++ flat_map (choice_line n C (requests - 1) p) (allowed_actions s p) ++ certificate_text s C requests ++ codes "end\n")
    (sym ((numbers_are_pairs s).back p pair))

pub advice_least : AdviceIsLeast
advice_least n listed requests p ok pair great =
    let s = system_of n in
    let C = seat_costs n listed in
    record {
      value = least_at s C;
      seat = choice s C (requests - 1) p;
      cost = λ a. through s C (least s C (requests - 1)) p a (choice s C (requests - 1) p a);
      pairs = related_pairs s;
      related = λ q. (
        λ i. let l = related_below s q i in let t = related_is s q i in (l, related_great s (pair_at (sizes_of s) q) ok ((numbers_are_pairs s).pair q l) t),
        λ (l, g). in_related s q l (great_related s (pair_at (sizes_of s) q) ok g),
      );
      order = filter_sublist (related_at s) (below (count (sizes_of s)));
      least = λ h q i. let l = related_below s q i in let t = related_is s q i in
          let there = (numbers_are_pairs s).pair q l in
          least_cost s C h (pair_at (sizes_of s) q) ok there (related_great s (pair_at (sizes_of s) q) ok there t);
      actions = allowed_actions s p;
      allowed = λ a. (λ i. from_allowed s p a (filter_in (is_allowed s p) a (below s.env.actions) i).1, in_allowed s p a ok);
      rising = filter_sublist (is_allowed s p) (below s.env.actions);
      cheapest = λ a i. cheapest_same s C (least s C (requests - 1)) (λ q. least_at s C (requests - 1) (number (sizes_of s) q)) p a (choice s C (requests - 1) p a)
          (through s C (least s C (requests - 1)) p a (choice s C (requests - 1) p a)) ok pair
          (λ q there. ap (least s C (requests - 1)) (sym ((numbers_are_pairs s).back q there)))
          (choice_cheapest s C (requests - 1) p a ok pair great (from_allowed s p a (filter_in (is_allowed s p) a (below s.env.actions) i).1));
      says = same_text n listed requests p pair;
    }
