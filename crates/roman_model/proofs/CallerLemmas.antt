-- The lemmas of this crate that proofs of other crates may cite. All else in proofs/ can be renamed freely.

-- Lemmas on lists, their elements and places, on numbers below a bound, on tests, and on tables.
pub use Rattle.roman_model.proofs.Lists.{HasNoRepeats-below, HasNoRepeats-filter, HasNoRepeats-flat_map, HasNoRepeats-map, HasNoRepeats-push, all_below_at, all_below_from, all_in, any_false, any_from, any_same, any_true, any_within, by_test}
pub use Rattle.roman_model.proofs.Lists.{contains_in, empty_is, filter_below_more, filter_in, filter_same, filter_sublist, find_first, find_found, find_least, find_not_found, find_some, flat_map_row, flat_map_same, flat_map_same_in}
pub use Rattle.roman_model.proofs.Lists.{from_append, from_below, from_end, from_flat_map, from_get_map, from_map, from_place, from_push, get_in, get_map, get_or-below, in_append_left, in_append_right, in_at, in_below, in_contains, in_filter}
pub use Rattle.roman_model.proofs.Lists.{in_flat_map, in_map, in_not_empty, in_push, in_take, is_empty-map, length-below, length_rows, list_any-flat_map, list_any-map, map-flat_map, map-map, map_same_in, ne_not_empty, no_longer, none_from, not_empty_in, not_empty_ne}
pub use Rattle.roman_model.proofs.Lists.{rank, rank_at, rest_is, same_test, split_at, sublist_in, sublist_length, sublist_none, sublist_skip, sum_by-map, sum_by_same, sum_by_within, there_is}
-- The ones of a number in base 2.
pub use Rattle.roman_model.proofs.Ones.{low_ones}
-- Lemmas on the pairs of a system, its steps and outcomes.
pub use Rattle.roman_model.proofs.SystemLemmas.{allowed_in, allowed_in_range, from_allowed, from_beh_next, from_beh_prev, from_env_next, from_env_prev, from_outcome, from_pairs, from_seat_next, in_beh_next, in_beh_prev, in_env_next}
pub use Rattle.roman_model.proofs.SystemLemmas.{in_env_prev, in_pairs, listed_number, move_in_range, move_test, number_listed, outcome_in, outcome_pair, outcome_seat, pairs_once, same_numbers_is, same_numbers_itself, states_set}
pub use Rattle.roman_model.proofs.SystemLemmas.{triple_in, triple_in_range}
-- Lemmas on any arena: listed nodes, beaten seats, reasons, masks, and nodes that survive.
pub use Rattle.roman_model.proofs.ArenaLemmas.{IsArena, IsSame, among_in, beaten_none, from_back, in_back, in_listed, in_mask, justified_is, justified_more, justified_same, listed_among, listed_append, listed_in, listed_push, mask_has}
pub use Rattle.roman_model.proofs.ArenaLemmas.{mask_has_past, mask_none, unallowed_unjustified}
-- Removal lists and replays over any arena: entries by their place, and sums over them.
pub use Rattle.roman_model.proofs.OrderLemmas.{fall_append, middle_first, new_once, order_entry, order_justified, order_middle, order_new, order_push, readings_at, readings_within, replay_from_same, replay_order, replay_sublist}
-- Depths over any arena: the least numbers of requests within which the opponent wins.
pub use Rattle.roman_model.proofs.DepthLemmas.{last_is_steady, loses_down, loses_up, lost_dead, settled_exact}
-- A system as an arena, the greatest ND-simulation, complete removal lists and their existence, and the offers.
pub use Rattle.roman_model.proofs.CompositionLemmas.{fine_from, fine_is, great_meets, great_related, great_survives, last_is_sim, listed_unrelated, lost_unrelated, meets_survives, offer_is, offers_are, order_goes_on, related_counted, related_great}
pub use Rattle.roman_model.proofs.CompositionLemmas.{related_offers, serves_more, system_is_same}
-- The opponent's game by a removal list and by the depth, and the depths of a system's pairs.
pub use Rattle.roman_model.proofs.PlayLemmas.{depth_least, depth_won, great_holds, lost_fails, order_won, unlost_holds}
-- Numbers of lists of states and of pairs: bounds, and the change of a number when a state is changed, added or removed.
pub use Rattle.roman_model.proofs.NumberLemmas.{AreBelow-at, AreBelow-index, AreBelow-length, IsPairOf-at, IsPairOf-from, IsPairOf-grown, IsPairOf-moved, IsPairOf-without, count-grown, count-without, length-states_at, mul_cancel, number-grown}
pub use Rattle.roman_model.proofs.NumberLemmas.{number-pair_at, number-set, number_below, number_without-is, numbers_are_pairs, pair_at-grown, pair_at-number, pair_at-without, pair_number, part_at, parts_of_number, product_append, size_at, states_at-number}
pub use Rattle.roman_model.proofs.NumberLemmas.{states_below, states_number-at, states_number-set, states_number_below}
-- Removal lists, masks and depths carry over between arenas whose nodes correspond by a renaming.
pub use Rattle.roman_model.proofs.Renames.{order_named}
-- The arenas over numbers of pairs and over pairs: their removal lists, complete lists, and counts of pairs.
pub use Rattle.roman_model.proofs.NumberedArena.{AreNumbers, IsNumber, length-pairs, numbered_choices, numbered_completed_by, numbered_is_arena, numbered_is_same, numbered_listed, numbered_loses, numbered_offers, numbered_related_count}
pub use Rattle.roman_model.proofs.NumberedArena.{numbers_rename, sum_over_pairs}
-- The effect of a change of the seats on systems, pairs, outcomes and removal lists: the replay of a renamed list is a removal list.
pub use Rattle.roman_model.proofs.ChangeLemmas.{IsPair-alike, IsPair-grown, IsPair-turned, IsPair-without, IsSys-after, IsSys-alike, IsSys-seats, all_final-remove, behaviours, get-remove, index-remove, index_set_place, is_fine-turned, join_once, left}
pub use Rattle.roman_model.proofs.ChangeLemmas.{length-remove, length-set_frozen, moved_named, new_from_once, new_same, outcomes-turned, place_before, remove_in, renaming_keeps, set-remove, sizes-joined, sizes-left, sizes-turned}
pub use Rattle.roman_model.proofs.ChangeLemmas.{states_frozen, states_long, turned}
-- Changes over the numbers of pairs: renaming and replay agree with those over pairs.
pub use Rattle.roman_model.proofs.NumberedChanges.{NumbersReplay, number_allows-turned, numbers_replay}
-- The explanation is the least closed part of a removal list, is a removal list by itself, and ends with the explained entry.
pub use Rattle.roman_model.proofs.ExplanationLemmas.{answer_before, before_falls, before_is, explanation_is_least, explanation_is_order, rests_is}
-- Explanations carry over between arenas whose nodes correspond by a renaming.
pub use Rattle.roman_model.proofs.ExplanationRenames.{answer_at, explanation_at}
-- Lines of texts and of certificates: the entry that a line states, and the first fault.
pub use Rattle.roman_model.proofs.CertificateLemmas.{AreFew, act_reason, append_line, clean_push, cut_at, decimal_without, ended_lines-text, ended_lines_last, entry_is_line, entry_is_no_end, entry_of-is, entry_of-line, entry_of_none}
pub use Rattle.roman_model.proofs.CertificateLemmas.{entry_of_other, faults_none, from_possible, get_front, in_possible, lines-text, lines_last, possible_small, text_of_lines-push}
-- The certificate of a complete list is accepted, an accepted certificate is complete, and the verdict on a text whose first lines were read.
pub use Rattle.roman_model.proofs.CertificateLaws.{complete_order, due_is, fault_after_end, fault_in_body, take_past, verdict_accepted, verdict_at, verdict_ended, verdict_rejected, verdict_too_long, written_is_greatest}
-- The plan of the choices costs least of all plans at a related pair, and costs are computed one action, one seat and one outcome at a time.
pub use Rattle.roman_model.proofs.PlanLemmas.{choice_is, le_max_over, least_bound, least_from_push, max_over-append, max_over-map, max_over_le, max_over_push, max_over_same, plans_least, through_numbered}
-- A system without one or two seats equals the system after as many changes.
pub use Rattle.roman_model.proofs.WithoutLemmas.{freeze_one, freeze_two, leave_one, leave_out_same, leave_two, other_zero, suc_same, without_changes, zero_other}
-- Records built from tests: their steps are exactly those that pass, their numbers are in range, and equal tests build equal records.
pub use Rattle.roman_model.proofs.MadeLemmas.{IsBeh-made, IsEnv-made, beh_from_same, env_from_same, from_made_final, from_made_move, from_made_triple, made_final, made_move, made_triple, move_passes}
-- The combined target stands for several targets: its steps, its requests and its ND-simulations are those of the members.
pub use Rattle.roman_model.proofs.CombinedLemmas.{IsMemberStep, all_from_great, combined_allows, combined_is_all, combined_served, combined_sstep, combined_system, combined_target_goes, decoded, from_combined_allows}
pub use Rattle.roman_model.proofs.CombinedLemmas.{from_combined_sstep, from_combined_target, great_from_all, member_served, member_step, request_there, stands_step, stands_uses, target_size_at}
pub use Rattle.roman_model.proofs.CombinedLemmas.{total, world_as}
