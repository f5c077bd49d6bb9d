-- Re-exports the names that the proof pages of this crate use from other crates. Declares nothing.
pub use Rattle.std.proofs.Common.{All, Bool, Err, IfOk, IfSome, IsErrOf, IsFalse, IsTrue, List, None, Ok, OnOk, Option, Result, Some, [], ap, append-nil, append_assoc, ap₂, arith, codes, cond, drop, eq-eqb, eqb-true, false, if◌then◌else◌, inl, inr, le-leb, length, length-append, length-take, length-take-le, ltb, ltb-false, ltb-true, map, min, nat_le, nat_lt, not, refl, rules, slice_get, slice_set, subst, suc, sym, take, take-append-drop, take_at, true, zero, ℕ, ◌&&◌, ◌++◌, ◌+◌, ◌-◌, ◌<◌, ◌==◌, ◌↔◌, ◌∙◌, ◌∷◌, ◌≡◌, ◌≤◌, ◌⊎◌}
pub use Rattle.std.proofs.lemmas.Bool.{and_from, and_parts, both_ways, cases_lt, cond-false, cond-true, false≢true, lt-leb, not-true, or_cases, or_from, or_left, or_parts, or_right}
pub use Rattle.std.proofs.lemmas.List.{length-map, nil_from_length, take_all, take_min}
pub use Rattle.std.proofs.lemmas.List.Elements.{All-get_or}
pub use Rattle.std.proofs.lemmas.List.Folds.{list_any-append}
pub use Rattle.std.proofs.lemmas.Option.{get_or_from_slice_get, slice_get_within}
pub use Rattle.std.proofs.lemmas.Result.{err_from_is_err_and}
pub use Rattle.std.specs.List.{flat_map, list_any, remove}
pub use Rattle.std.specs.Str.{bytes_eq}
pub use Rattle.std.specs.Str.Lines.{strip_carriage_return}
pub use Rattle.roman_io.proofs.CallerLemmas.{Gave-nil, Gave-then, Wrote-then, WrotePrefix-after, WrotePrefix-append, gave_at_most, had_all, had_more}
pub use Rattle.roman_io.specs.Sink.{Wrote, WrotePrefix}
pub use Rattle.roman_io.specs.Source.{EndsAt, Gave, GaveAtMost, Had}
pub use Rattle.roman_io.specs.declared.failed.Failed.{Failed}
pub use Rattle.roman_joint.proofs.CallerLemmas.{beh_read, frozen_known, frozen_system, gone_known, gone_system, joined_known, joined_system, seat_read, states_named}
pub use Rattle.roman_joint.specs.Changes.{with_frozen}
pub use Rattle.roman_joint.specs.NamedSys.{IsNamedSys, NamedSys, beh_at, cells, seat_of, system_of}
pub use Rattle.roman_joint.specs.Names.{beh_name, names_in, seat_name, states_of_behaviour}
pub use Rattle.roman_joint.specs.declared.seat.Seat.{Seat}
pub use Rattle.roman_library.proofs.CallerLemmas.{libraries_known, targets_combined}
pub use Rattle.roman_library.specs.Library.{PlainLibrary}
pub use Rattle.roman_library.specs.Targets.{CombinesTargets, PlainTargets}
pub use Rattle.roman_model.proofs.CallerLemmas.{HasNoRepeats-below, IsPair-grown, IsPair-turned, IsPair-without, all_in, allowed_in, any_false, any_true, by_test, combined_is_all, empty_is, flat_map_same_in, from_allowed, from_map, from_outcome, get_in, great_related, in_mask, no_longer, order_goes_on, outcome_in, outcome_pair, related_great, renaming_keeps, replay_sublist, same_numbers_is, same_numbers_itself, same_test, sublist_in, take_past, there_is}
pub use Rattle.roman_model.specs.Arena.{Entry, is_beaten, replay}
pub use Rattle.roman_model.specs.Change.{CanChange, Change, Die, Freeze, Join, Thaw, after, rename}
pub use Rattle.roman_model.specs.Combined.{IsSeveral, combined, combined_beh, combined_seat, couple_all, target_sizes}
pub use Rattle.roman_model.specs.CompleteLists.{IsComplete}
pub use Rattle.roman_model.specs.Composition.{Great}
pub use Rattle.roman_model.specs.Counting.{Counts}
pub use Rattle.roman_model.specs.Explanation.{explain_text, name_at, seat_names}
pub use Rattle.roman_model.specs.Lines.{IsLine, ended_lines, lines, text_of_lines}
pub use Rattle.roman_model.specs.Lists.{HasNoRepeats, IsIn, IsSublist, below, product_of}
pub use Rattle.roman_model.specs.Offers.{is_related, offers}
pub use Rattle.roman_model.specs.Several.{GreatAll}
pub use Rattle.roman_model.specs.System.{Beh, IsBeh, IsPair, Pair, SStep, Sys, TStep, has}
pub use Rattle.roman_model.specs.SystemArena.{arena, is_allowed, outcomes, same_numbers}
pub use Rattle.roman_model.specs.declared.limits.TheConstants.{MAX_SERVICES, MAX_SESSION_BYTES, MAX_STATES}
pub use Rattle.roman_model.specs.declared.request.Request.{Request}
pub use Rattle.roman_multi.proofs.CallerLemmas.{are_allowed, good_count, machines_known}
pub use Rattle.roman_multi.specs.Combining.{PlainCombined, combined_behaviour, machines, requests_in}
unfoldable pub use Rattle.roman_multi.specs.Combining.{combined_parts}
pub use Rattle.roman_parts.proofs.CallerLemmas.{none_absent}
pub use Rattle.roman_parts.specs.Named.{IsBehaviour, NamedBeh, NamedEnv}
pub use Rattle.roman_read.specs.Names.{is_name, place_of}
pub use Rattle.roman_session.proofs.CallerLemmas.{delegate_opens, delegation_serves, explains, great_tests, in_place, jumped_pair, lost_counted, mapped_at, may_tests, observed_great, offered_tests, offers_said, place_there, ready_tests, reports, requests_offered}
pub use Rattle.roman_session.specs.Answering.{AnsweredOn, next_of}
pub use Rattle.roman_session.specs.Reports.{report_text}
pub use Rattle.roman_session.specs.Rules.{Tests}
pub use Rattle.roman_session.specs.Serving.{offer_text}
pub use Rattle.roman_session.specs.Situations.{IsPhase, IsSituation, Situation, present_system}
pub use Rattle.roman_session.specs.States.{IsGreat, IsOpenGreat, State}
pub use Rattle.roman_session.specs.Changes.{change_at, services_after, states_after}
pub use Rattle.roman_session.specs.Steps.{IsAt, IsRepair, RepairsList, StepBy, shown}
unfoldable pub use Rattle.roman_session.specs.Steps.{Step}
pub use Rattle.roman_session.specs.Turns.{Needs, Place, Refuses, TurnsInto, Unless, with_services}
pub use Rattle.roman_session.specs.Words.{AreServing, CountsLost, IsReady}
pub use Rattle.roman_session.specs.declared.events.ServiceChange.{ServiceChange}
pub use Rattle.roman_session.specs.declared.next.Next.{Next}
pub use Rattle.roman_session.specs.declared.next.Next.TheVariants.{More, Quit}
pub use Rattle.roman_session.specs.declared.phase.Phase.{Phase}
pub use Rattle.roman_session.specs.declared.phase.Phase.TheVariants.{Delegated, Idle, Offered}
pub use Rattle.roman_text.proofs.CallerLemmas.{Gathered-empty, Gathered-put, Gathered-then, WrotePrefix-gathered, ended_lines-append, ended_lines-newline, ended_lines-part, line_head-again, line_head-append, line_head-nil, lines_are, lines_none, lines_only, lines_rest, unfinished-newline, unfinished-nil, unfinished-part}
pub use Rattle.roman_text.specs.Lines.{line_head, unfinished}
pub use Rattle.roman_text.specs.Replies.{reply_text}
pub use Rattle.roman_text.specs.Shapes.{LineShape, abort, by_words, delegate, die, explain, freeze, is_comment, join, jump, jump_env, nothing, observe, quit, report, request, shape_of_words, spelling, thaw, words_of}
unfoldable pub use Rattle.roman_text.specs.Shapes.{shape_of}
pub use Rattle.roman_text.specs.declared.errors.LineError.{LineError}
pub use Rattle.roman_text.specs.declared.errors.LineError.TheVariants.{Form}
pub use Rattle.roman_text.specs.declared.replies.Reply.{Reply}
pub use Rattle.roman_text.specs.declared.report.ReportLine.{ReportLine}
pub use Rattle.roman_hearing.specs.Events.{LinesAreRead, Reads}
pub use Rattle.roman_hearing.specs.Hearing.{Cursor, GaveQuit, IsCutOff, IsHeardOut, StopsShort, StreamState, Tells, TellsPrefix, TellsPrefixOfAll, cursor, ends_session, has_quit, heard_lines, is_heard_out, prefix_of, stream_state}
pub use Rattle.roman_hearing.specs.HearingBytes.{FailsIn, FallsShort, HearsBytes, HearsPiece, HearsRest, IsHearing, ReaderState, StopsAtQuit, TellsOnPage, reader_state}
pub use Rattle.roman_hearing.specs.Known.{AreBehaviours, AreNamed, IsKnownSituation, StepsStayKnown}
pub use Rattle.roman_hearing.specs.Laws.{NotOfferedFails, OpenIsGreat, ReportsAreFixed, StepsAreTurns}
pub use Rattle.roman_hearing.specs.Several.{MeansAll, SeveralAreServed, several_with}
pub use Rattle.roman_hearing.specs.Told.{Answers, Told, until_quit}
pub use Rattle.roman_hearing.specs.declared.hearing.HearError.{HearError}
pub use Rattle.roman_hearing.specs.declared.hearing.HearError.TheVariants.{ReadFault, TooLong, WriteFault}
