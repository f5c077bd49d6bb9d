-- Re-exports the names that the proof pages of this crate use from other crates. Declares nothing.
pub use Rattle.std.proofs.Common.{Bool, Err, Global, IfSome, IsFalse, IsTrue, List, None, Ok, Option, Result, Some, Vec, [], add-one, ap, append_assoc, ap₂, arith, codes, cond, drop, false, find, get_or, inl, inr, is_ok, length, length-append, length-drop, map, not, refl, rules, slice_get, slice_index, slice_index_or, slice_set, subst, suc, sym, take, take-append-drop, true, vec_capacity, vec_len, zero, ℕ, ◌&&◌, ◌++◌, ◌+◌, ◌<◌, ◌↔◌, ◌∙◌, ◌∷◌, ◌≡◌, ◌≢◌, ◌≤◌}
pub use Rattle.std.proofs.Math.Seq.{drop-cons}
pub use Rattle.std.proofs.lemmas.Bool.{both_ways, cases_lt, cond-false, cond-true, false≢true, not-false, not-true, or_cases, or_parts}
pub use Rattle.std.proofs.lemmas.Grind.{flat_map-append}
pub use Rattle.std.proofs.lemmas.List.{append-nil, drop_all, get_or-set_same, get_or_read, length-map, length-take}
pub use Rattle.std.proofs.lemmas.List.Quantifiers.{position-Some}
pub use Rattle.std.proofs.lemmas.Option.{get_or_from_slice_get, none-some, same_Some, slice_get-get_or, slice_get-map, slice_get_within}
pub use Rattle.std.proofs.lemmas.Result.{IfOk-weaker, err_from_is_err_and}
pub use Rattle.std.proofs.lemmas.Slice.Eq.{bytes_eq-Decides}
pub use Rattle.std.specs.List.{AllZip, filter, flat_map, list_any}
pub use Rattle.std.specs.Option.{option_map, option_to_list}
pub use Rattle.std.specs.Str.{bytes_eq}
pub use Rattle.roman_generator.proofs.CallerLemmas.{state_within}
pub use Rattle.roman_generator.specs.Moves.{CanMove}
pub use Rattle.roman_generator.specs.declared.observation.Observation.{Observation}
pub use Rattle.roman_io.specs.Sink.{Puts}
pub use Rattle.roman_joint.proofs.CallerLemmas.{behaves, joined_system, seat_beh_read, seat_read, states_named, states_range}
pub use Rattle.roman_joint.specs.Behaviours.{IsSeatBehaviour}
pub use Rattle.roman_joint.specs.NamedSys.{IsNamedSys, NamedSys, beh_at, cells, seat_of, still, system_of}
pub use Rattle.roman_joint.specs.Names.{beh_name, beh_states, names_in, seat_name, states_of_behaviour}
pub use Rattle.roman_joint.specs.declared.seat.Seat.{Seat}
pub use Rattle.roman_library.specs.Library.{PlainLibrary, plain}
pub use Rattle.roman_model.proofs.CallerLemmas.{AreBelow-index, IsPair-grown, IsPair-turned, IsPair-without, IsPairOf-from, allowed_in, allowed_in_range, before_is, by_test, empty_is, explanation_is_least, explanation_is_order, filter_in, filter_same, filter_sublist, find_found, find_some, flat_map_same, from_allowed, from_below, from_end, from_map, from_outcome, from_place, from_push, get_in, great_related, in_append_left, in_append_right, in_below, in_filter, in_flat_map, in_listed, in_map, justified_is, length-pairs, listed_in, listed_number, mask_has, ne_not_empty, new_once, not_empty_in, number_listed, numbers_are_pairs, offer_is, offers_are, order_middle, order_new, outcome_in, outcome_pair, outcome_seat, related_counted, related_great, related_offers, states_below, states_long, states_set, sublist_none, system_is_same, there_is}
pub use Rattle.roman_model.specs.Arena.{Entry, IsOrder, is_beaten, is_justified, is_listed, mask, replay}
pub use Rattle.roman_model.specs.Change.{Change, Join, after, rename}
pub use Rattle.roman_model.specs.CompleteLists.{IsComplete}
pub use Rattle.roman_model.specs.Composition.{Great}
pub use Rattle.roman_model.specs.Counting.{Counts}
pub use Rattle.roman_model.specs.Explanation.{Names, answer, answers, entries_before, entry_lines, explain_text, explanation, lost_line, name_at, ready_seats, rests_on}
pub use Rattle.roman_model.specs.Lines.{text_of_lines}
pub use Rattle.roman_model.specs.Lists.{IsIn, IsSublist, below, is_empty}
pub use Rattle.roman_model.specs.Numbers.{IsPairOf, Sizes, entry_at, number, pair_at, sizes_of}
pub use Rattle.roman_model.specs.Offers.{is_related, offers, related_count}
pub use Rattle.roman_model.specs.System.{Beh, Env, IsBeh, IsPair, IsSys, Pair, SStep, Sys, TStep, has}
pub use Rattle.roman_model.specs.SystemArena.{arena, is_allowed, is_ready, outcomes}
pub use Rattle.roman_model.specs.declared.limits.TheConstants.{MAX_BEHAVIOURS, MAX_SERVICES}
pub use Rattle.roman_model.specs.declared.reason.Reason.{Reason}
pub use Rattle.roman_model.specs.declared.reason.Reason.TheVariants.{Act, Final}
pub use Rattle.roman_parts.proofs.CallerLemmas.{none_absent}
pub use Rattle.roman_parts.specs.Named.{NamedBeh}
pub use Rattle.roman_radix.specs.Radix.{moved}
pub use Rattle.roman_read.proofs.CallerLemmas.{IsPast, past_found, past_next, past_none}
pub use Rattle.roman_read.specs.Names.{place_of}
pub use Rattle.roman_relation.specs.Greatest.{IsRelation}
pub use Rattle.roman_relation.specs.declared.relation.Relation.{Relation}
pub use Rattle.roman_repair.specs.Repairs.{IsRepaired}
pub use Rattle.roman_repair.specs.declared.tally.Tally.{Tally}
pub use Rattle.roman_rules.proofs.CallerLemmas.{has_seat_is}
pub use Rattle.roman_rules.specs.Bits.{HasBits, has_seat}
pub use Rattle.roman_start.specs.Seating.{IsSeated}
pub use Rattle.roman_start.specs.Starts.{parts_of, seat_of_service, start_pair_of}
pub use Rattle.roman_start.specs.declared.seating.Seated.{Seated}
pub use Rattle.roman_text.proofs.CallerLemmas.{Gathers-flushed, IsFilling, Puts-after_Gathered, fill_behind, fill_end, fill_last, fill_more, fill_same, fill_stops, gathers_failed, Gathers-put}
pub use Rattle.roman_text.specs.Lines.{with_newline}
pub use Rattle.roman_text.specs.Pages.{Gathers}
pub use Rattle.roman_text.specs.Replies.{reply_text}
pub use Rattle.roman_text.specs.Report.{line_text}
pub use Rattle.roman_text.specs.Shapes.{LineShape, explain, observe, report, request, shape_of}
pub use Rattle.roman_text.specs.declared.errors.LineError.{LineError}
pub use Rattle.roman_text.specs.declared.replies.Reply.{Reply}
pub use Rattle.roman_text.specs.declared.report.ReportLine.{ReportLine}
pub use Rattle.roman_session.specs.Afresh.{afresh, services_in}
pub use Rattle.roman_session.specs.Answering.{Answered, AnsweredOn, DoneOn, ObservedStaysGreat}
pub use Rattle.roman_session.specs.Layout.{IsSession, situation_in}
pub use Rattle.roman_session.specs.Refutations.{AreLost, IsLost, MayAnswer, WinsBy}
pub use Rattle.roman_session.specs.Reports.{offer_line, offers_and_end, report_head, service_lines, services_and_answer, services_from}
unfoldable pub use Rattle.roman_session.specs.Reports.{lines_text, report_text}
pub use Rattle.roman_session.specs.Changes.{Suits, SuitsSeat, change_at, event_of, services_after, states_after}
pub use Rattle.roman_session.specs.Rules.{Joins, CanChangeService, CanJoin, CanObserve, CanRequest, FindsPlace, IsNewcomer, Tests, join_of}
pub use Rattle.roman_session.specs.Serving.{seats_set, served, served_line, service_at}
unfoldable pub use Rattle.roman_session.specs.Serving.{offer_text, served_text}
pub use Rattle.roman_session.specs.Situations.{IsOpen, IsPhase, IsSituation, Situation, present_system}
pub use Rattle.roman_session.specs.Starts.{IsStart}
pub use Rattle.roman_session.specs.States.{IsGreat, MayRequest, ServesHere, State, start_state}
pub use Rattle.roman_session.specs.Steps.{IsAt, IsRepair, StepBy, StepOn, shown}
unfoldable pub use Rattle.roman_session.specs.Steps.{Step}
pub use Rattle.roman_session.specs.Turns.{Needs, Place, Refuses, TurnsInto, with_services}
pub use Rattle.roman_session.specs.Words.{AreServing, CountsLost, IsReady, OffersServing, Refutes, Replies, ReportsGreat, lines_of_answers}
pub use Rattle.roman_session.specs.declared.events.JoinWords.{JoinWords}
pub use Rattle.roman_session.specs.declared.events.Joining.{Joining}
pub use Rattle.roman_session.specs.declared.events.ServiceChange.{ServiceChange}
pub use Rattle.roman_session.specs.declared.phase.Phase.{Phase}
pub use Rattle.roman_session.specs.declared.phase.Phase.TheVariants.{Delegated, Idle, Offered}
pub use Rattle.roman_session.specs.declared.session.Session.TheInside.{Inside}
