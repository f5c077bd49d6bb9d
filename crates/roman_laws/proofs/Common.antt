-- Re-exports the names that the proof pages of this crate use from other crates. Declares nothing.
pub use Rattle.std.proofs.Common.{Bool, IsFalse, IsTrue, List, None, Option, Some, [], ap, arith, codes, cond, false, filter, find, if◌then◌else◌, inl, inr, length, map, not, refl, remove, slice_get, slice_index, slice_set, subst, suc, sym, true, zero, ℕ, ◌&&◌, ◌++◌, ◌+◌, ◌-◌, ◌<◌, ◌==◌, ◌||◌, ◌∙◌, ◌∷◌, ◌≡◌, ◌≢◌, ◌≤◌}
pub use Rattle.std.proofs.lemmas.Bool.{and_from, and_parts, both_ways, cond-false, cond-true, eq-eqb, eqb-true, false≢true, not-true, not_from_false, or_cases, or_from, or_left, or_parts, or_right}
pub use Rattle.std.proofs.lemmas.List.{length-map, length-set}
pub use Rattle.std.proofs.lemmas.Option.{none-some, same_Some, slice_get_within}
pub use Rattle.std.proofs.lemmas.Slice.Zip.{AllZip-right}
unfoldable pub use Rattle.std.specs.Fmt.{digits}
pub use Rattle.std.specs.List.{AllZip, list_any}
pub use Rattle.std.specs.Prelude.{◌↔◌, ◌⊎◌}
pub use Rattle.roman_model.proofs.CallerLemmas.{AreBelow-at, IsPair-alike, IsPairOf-at, IsSys-alike, IsSys-seats, all_final-remove, all_from_great, allowed_in, any_false, any_from, any_true, behaviours, by_test, combined_allows, combined_served, combined_sstep, combined_system, decoded, filter_in, find_found, find_some, fine_from, fine_is, freeze_one, from_allowed, from_append, from_beh_next, from_combined_allows, from_combined_sstep, from_flat_map, from_map, from_outcome, get-remove, get_in, great_from_all, great_holds, great_meets, great_related, great_survives, in_append_left, in_append_right, in_below, in_beh_next, in_filter, in_listed, in_map, in_not_empty, in_pairs, index-remove, index_set_place, join_once, justified_is, justified_more, last_is_sim, leave_out_same, left, listed_number, listed_unrelated, lost_dead, lost_fails, lost_unrelated, meets_survives, member_served, member_step, new_from_once, new_once, new_same, not_empty_in, not_empty_ne, number-pair_at, number_below, number_listed, offer_is, offers_are, order_new, other_zero, outcome_in, outcome_pair, outcome_seat, pair_at-number, place_before, related_great, related_offers, renaming_keeps, replay_order, replay_sublist, request_there, same_test, serves_more, set-remove, stands_step, states_at-number, states_long, states_number-at, states_number_below, sublist_in, sublist_length, sublist_skip, suc_same, system_is_same, total, triple_in, unlost_holds, world_as, zero_other}
pub use Rattle.roman_model.specs.Arena.{AreNew, Arena, Entry, IsOrder, IsOrderFrom, depth, is_among, is_beaten, is_justified, loses, replay_from}
pub use Rattle.roman_model.specs.Certificate.{Form, Greatest, Rejected, Repeated, Unjustified, Unlisted, Verdict, cert_text, cert_verdict}
pub use Rattle.roman_model.specs.Change.{CanChange, Change, Die, Freeze, Join, Thaw, after, may_go, rename, set_frozen, without}
pub use Rattle.roman_model.specs.Combined.{IsSeveral, all_requests, combined, combined_seat, couple_all, stands_in}
pub use Rattle.roman_model.specs.CompleteLists.{AreEntries}
pub use Rattle.roman_model.specs.Composition.{Couple, Great, GreatCouple, Meets, Serves, couple}
pub use Rattle.roman_model.specs.Explanation.{Names, explain_text}
pub use Rattle.roman_model.specs.Lists.{IsIn, IsSublist, below, is_empty}
pub use Rattle.roman_model.specs.Numbers.{numbered}
pub use Rattle.roman_model.specs.Offers.{choice_count, is_related, offers}
pub use Rattle.roman_model.specs.Play.{HoldsOut}
pub use Rattle.roman_model.specs.Several.{GreatAll, ServesAll, Several}
pub use Rattle.roman_model.specs.System.{Allows, Beh, Env, IsPair, IsSys, Pair, SStep, Seat, Sys, TStep, all_final, has, has_move, has_triple, is_final}
pub use Rattle.roman_model.specs.SystemArena.{arena, beh_next, is_allowed, is_fine, outcomes, pairs}
pub use Rattle.roman_model.specs.Without.{freeze_at, leave_out, pair_without, system_without}
pub use Rattle.roman_model.specs.declared.reason.Reason.TheVariants.{Act, Final}
pub use Rattle.roman_model.specs.declared.request.Request.{Request}
pub use Rattle.roman_model.specs.declared.way.Way.{Way}
pub use Rattle.roman_laws.specs.Controllers.{CanGoOn, Controller, ControllersTakeOffers, IsHistory, Realises, Seen, TakesOffers, TakesServers, by_seen, now_at, seen_of, since}
pub use Rattle.roman_laws.specs.Failing.{AllFailWithin, EveryControllerFails, FailsToRest, FailsWithin}
pub use Rattle.roman_laws.specs.Following.{Choice, FollowingStays, Follows, end_of}
pub use Rattle.roman_laws.specs.Greatest.{GreatestIsGreatest, OrderRefutes, ReplayKeeps, UnrelatedLoses}
pub use Rattle.roman_laws.specs.Losing.{AreAmong, GreatWithout, IsLeastFailing, LeastFailingSuffice, LosingNeverHelps, MayAllGo, MayGoAt}
pub use Rattle.roman_laws.specs.Numbers.{ShapesAreNumbered}
pub use Rattle.roman_laws.specs.Outcomes.{HasStep, OutcomesAreSteps, TestsAreMembership}
pub use Rattle.roman_laws.specs.Reduced.{IsReduced, ReducedAreSystems}
pub use Rattle.roman_laws.specs.Repairs.{RepairsKeepTheMost, ReplaysKeepTheMost}
pub use Rattle.roman_laws.specs.Requests.{IsMoveOf, IsRequestOf, RequestsOfTargets, TargetAllows, TurnsOfTargets}
