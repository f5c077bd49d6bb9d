-- Re-exports the names that the proof pages of this crate use from other crates. Declares nothing.
pub use Rattle.std.proofs.Common.{All, Bool, Global, IsFalse, IsSome, IsTrue, List, None, Option, Some, Vec, [], add-one, ap, append-nil, append_assoc, ap₂, arith, codes, decimal, drop, false, filter, get_or, inl, inr, length, length-append, map, refl, replicate, set, slice_get, slice_index, slice_range, subst, suc, sym, take, true, unwrap_or, zero, ℕ, ◌&&◌, ◌*◌, ◌++◌, ◌+◌, ◌-◌, ◌<◌, ◌==◌, ◌^◌, ◌↔◌, ◌∙◌, ◌∷◌, ◌≡◌, ◌≢◌, ◌≤◌, ◌⊎◌}
pub use Rattle.std.proofs.Math.Nat.{le-max_left, le-max_right, max-le, mul-le-mul_left}
pub use Rattle.std.proofs.Math.Seq.{drop-append_seam, drop-cons, take-length, take-nil}
pub use Rattle.std.proofs.lemmas.Bool.{and_from, and_parts, both_ways, cases_eq, cond-false, cond-true, eq-eqb, eqb-true, leb-false, leb-true}
pub use Rattle.std.proofs.lemmas.Grind.{flat_map-append}
pub use Rattle.std.proofs.lemmas.List.{drop-append-le, get_or-map, get_or-set_other, get_or-set_same, get_or_read, length-drop, length-map, length-set, map-append, map_push, take-append-drop, take-append-le, take_all, take_more}
pub use Rattle.std.proofs.lemmas.List.Elements.{All-push}
pub use Rattle.std.proofs.lemmas.Nat.{mul-add-lt, same_from_place}
pub use Rattle.std.proofs.lemmas.Option.{get_or_from_slice_get, same_Some, slice_get-map, slice_get_within}
pub use Rattle.std.proofs.lemmas.Result.{err_from_is_err_and}
pub use Rattle.std.specs.List.{flat_map}
pub use Rattle.std.specs.Option.{option_map, option_or}
pub use Rattle.std.specs.Prelude.{max, min}
pub use Rattle.roman_joint.proofs.CallerLemmas.{no_numbers}
pub use Rattle.roman_joint.specs.NamedSys.{NamedSys, seat_of, system_of}
pub use Rattle.roman_joint.specs.Names.{beh_name, seat_name}
pub use Rattle.roman_joint.specs.Outcomes.{IsPairWith, outcome_number, outcome_numbers}
pub use Rattle.roman_joint.specs.declared.outcomes.Outcomes.{Outcomes}
pub use Rattle.roman_joint.specs.declared.seat.Seat.{Seat}
pub use Rattle.roman_model.proofs.CallerLemmas.{all_in, allowed_in, allowed_in_range, by_test, choice_is, filter_below_more, filter_in, filter_same, filter_sublist, flat_map_row, from_allowed, from_below, from_end, from_map, from_outcome, from_place, get_or-below, great_related, in_append_right, in_at, in_below, in_filter, in_flat_map, in_map, in_not_empty, in_take, le_max_over, least_bound, least_from_push, length-below, length_rows, listed_number, map-flat_map, max_over-append, max_over-map, max_over_le, max_over_push, max_over_same, ne_not_empty, not_empty_in, not_empty_ne, number_listed, numbers_are_pairs, offer_is, offers_are, outcome_in, outcome_pair, outcome_seat, plans_least, rank, rank_at, related_great, related_offers, rest_is, same_test, through_numbered}
pub use Rattle.roman_model.specs.Composition.{Great, GreatCouple, Serves, couple}
pub use Rattle.roman_model.specs.Explanation.{name_at}
pub use Rattle.roman_model.specs.Lists.{IsIn, below}
pub use Rattle.roman_model.specs.Numbers.{Sizes, count, number, numbered, pair_at, sizes_of}
pub use Rattle.roman_model.specs.Offers.{is_related, offers}
pub use Rattle.roman_model.specs.Outcomes.{LeadsTo}
pub use Rattle.roman_model.specs.Plans.{Costs, IsPlan, Leaf, Node, Plan, allowed_actions, choice, chosen, first_least, least, least_at, least_from, max_over, through, worst}
pub use Rattle.roman_model.specs.System.{Allows, IsPair, IsSys, Pair, Sys, has}
pub use Rattle.roman_model.specs.SystemArena.{is_allowed, outcomes}
pub use Rattle.roman_model.specs.declared.limits.TheConstants.{MAX_CELLS}
pub use Rattle.roman_parts.specs.Named.{NamedEnv}
pub use Rattle.roman_read.proofs.CallerLemmas.{IsLeft}
pub use Rattle.roman_read.specs.Items.{each_item}
pub use Rattle.roman_rules.proofs.CallerLemmas.{has_seat_is}
pub use Rattle.roman_rules.specs.Bits.{HasBits, has_seat}
pub use Rattle.roman_text.proofs.CallerLemmas.{IsFilling, fill_behind, fill_end, fill_failed, fill_last, fill_more, fill_put, fill_same, fill_whole}
pub use Rattle.serde_json.proofs.Views.{items_len-items_view}
pub use Rattle.serde_json.specs.View.{items_view}
pub use Rattle.roman_cost.specs.AdviceText.{certificate_text, choice_line, service_text, value_head, value_line, value_lines, value_tail, worst_line}
unfoldable pub use Rattle.roman_cost.specs.AdviceText.{advice_text}
pub use Rattle.roman_cost.specs.Advised.{AdviceTable, Advises, HavePlaces, related_pairs, values_below}
pub use Rattle.roman_cost.specs.Costs.{with_cost}
pub use Rattle.roman_cost.specs.Filling.{AreLeastCosts, AreOutcomes, IsOffered, IsRanked, better_of, ranked}
pub use Rattle.roman_cost.specs.Laws.{AdviceIsLeast}
pub use Rattle.roman_cost.specs.ServingPlans.{CostsBy, Event, IsCheapest, IsLeastCost, IsServingPlan, IsWorstCost, MayCome, cost_of_events}
pub use Rattle.roman_cost.specs.Tables.{AreOf, CostTable, HoldsCosts, cost_of, listed_cost, seat_costs}
pub use Rattle.roman_cost.specs.Terms.{action_terms, cheaper_of, nothing_yet, outcome_terms, pair_terms, service_terms, worked_out}
pub use Rattle.roman_cost.specs.declared.costs.Listed.{Listed}
pub use Rattle.roman_cost.specs.declared.limits.TheConstants.{MAX_COST, MAX_REQUESTS}
pub use Rattle.roman_cost.specs.declared.terms.Standing.{Standing}
pub use Rattle.roman_cost.specs.declared.terms.Term.{Term}
