-- Re-exports the names that the proof pages of this crate use from other crates. Declares nothing.
pub use Rattle.std.proofs.Common.{Bool, Err, IfSome, IsErrOf, IsFalse, IsSome, IsTrue, List, None, Ok, OnOk, Option, Result, Some, [], add-one, ap, append_assoc, ap₂, arith, codes, decimal, drop, drop-cons, false, get_or, if◌then◌else◌, inl, inr, length, ltb-true, map, nat_le, not, refl, rules, slice_get, slice_set, subst, suc, sym, take, true, ℕ, ◌*◌, ◌++◌, ◌+◌, ◌-◌, ◌<◌, ◌↔◌, ◌∙◌, ◌∷◌, ◌≡◌, ◌≢◌, ◌≤◌, ◌⊎◌}
pub use Rattle.std.proofs.lemmas.Bool.{and_from, both_ways, cases_lt, cond-false, cond-true, false≢true, le-ltb, leb-true, lt-ltb, not-false, not-true, not_from_false, or_cases, or_left, or_parts, or_right}
pub use Rattle.std.proofs.lemmas.List.{append-nil, drop_all, get_or-drop, length-drop, length-map, take_more}
pub use Rattle.std.proofs.lemmas.List.Concat.{flat_map-append, length-flat_map}
pub use Rattle.std.proofs.lemmas.Option.{IfSome_then, get_or_from_slice_get, slice_get-get_or, slice_get_within}
pub use Rattle.std.proofs.lemmas.Result.{err_from_is_err_and}
pub use Rattle.std.specs.List.{filter_map, flat_map, list_any, remove}
pub use Rattle.std.specs.Option.{option_map}
pub use Rattle.roman_check.specs.Checks.{HaveVerdict}
pub use Rattle.roman_check.specs.Verdicts.{fault_of, verdict_of}
pub use Rattle.roman_cost.proofs.CallerLemmas.{advice_least}
pub use Rattle.roman_cost.specs.AdviceText.{Advising, Told, TooMany, Unrelated, advice_text, advised_by}
pub use Rattle.roman_cost.specs.Costs.{costs_of}
pub use Rattle.roman_cost.specs.Laws.{TellsLeast}
pub use Rattle.roman_cost.specs.Refusals.{list_of_rule}
pub use Rattle.roman_cost.specs.Tables.{seat_costs}
pub use Rattle.roman_cost.specs.declared.costs.Listed.{Listed}
pub use Rattle.roman_cost.specs.declared.error.AdviceError.{AdviceError}
pub use Rattle.roman_cost.specs.declared.limits.TheConstants.{MAX_VALUES}
pub use Rattle.roman_hearing.proofs.CallerLemmas.{answered_heard, line_keeps, means_all, open_great, parts_are, parts_in, short_out, steps_known, steps_turns}
pub use Rattle.roman_hearing.specs.Events.{LinesAreRead}
pub use Rattle.roman_hearing.specs.Hearing.{CausedBy, GaveQuit, GoesOn, IsCutOff, IsHeardOut, StopsShort, StreamState, TellsPrefixOfAll, cursor, heard_lines, is_heard_out, stream_state}
pub use Rattle.roman_hearing.specs.Known.{AreBehaviours, IsKnownSituation}
pub use Rattle.roman_hearing.specs.Several.{MeansAll, several_with}
pub use Rattle.roman_hearing.specs.Told.{Answers, until_quit}
pub use Rattle.roman_hearing.specs.declared.hearing.HearError.{HearError}
pub use Rattle.roman_io.proofs.CallerLemmas.{Gave-nil, Gave-told, Wrote-nil}
pub use Rattle.roman_io.specs.Faults.{HasCause, Rose}
pub use Rattle.roman_io.specs.Shelf.{Texts, rest_from, shelf_text}
pub use Rattle.roman_io.specs.Sink.{Puts, Wrote}
pub use Rattle.roman_io.specs.Source.{Gave, GaveAtMost, Had, IsAtEnd}
pub use Rattle.roman_joint.proofs.CallerLemmas.{beh_read}
pub use Rattle.roman_joint.specs.NamedSys.{IsNamedSys, NamedSys, beh_at, cells, seat_of, system_of}
pub use Rattle.roman_laws.proofs.CallerLemmas.{request_at, turns_of}
pub use Rattle.roman_laws.specs.Requests.{IsMoveOf, IsRequestOf, TargetAllows, TurnsAreOf}
pub use Rattle.roman_library.proofs.CallerLemmas.{behaviour_there, libraries_known, targets_combined}
pub use Rattle.roman_library.specs.Documents.{library_of}
pub use Rattle.roman_library.specs.Known.{IsKnownLibrary}
pub use Rattle.roman_library.specs.Library.{IsLibrary, IsService, PlainLibrary, plain}
pub use Rattle.roman_library.specs.Refusals.{refusal_of}
pub use Rattle.roman_library.specs.Targets.{CombinesTargets, NamesTargets, PlainTargets}
pub use Rattle.roman_library.specs.declared.library.Service.{Service}
unfoldable pub use Rattle.roman_make.specs.Made.{floor, made, shift, worker}
pub use Rattle.roman_make.specs.Script.{script_lines}
pub use Rattle.roman_model.proofs.CallerLemmas.{HasNoRepeats-below, HasNoRepeats-filter, HasNoRepeats-flat_map, HasNoRepeats-map, IsPair-turned, IsPair-without, IsSys-after, all_below_at, all_below_from, allowed_in, allowed_in_range, any_from, any_true, by_test, from_allowed, from_below, from_end, from_flat_map, from_get_map, from_map, from_outcome, from_pairs, from_place, get_map, get_or-below, great_related, in_below, in_contains, in_flat_map, in_listed, in_map, in_not_empty, in_pairs, justified_is, length-below, length-pairs, length-remove, length-set_frozen, listed_in, map-map, move_in_range, not_empty_in, numbers_are_pairs, offer_is, offers_are, order_goes_on, outcome_in, pair_number, pairs_once, related_counted, related_great, same_test, sum_by_same, system_is_same, there_is, without_changes, written_is_greatest}
pub use Rattle.roman_model.specs.Arena.{Arena, Entry, IsOrderFrom, is_among, is_beaten, is_justified, is_listed}
pub use Rattle.roman_model.specs.Certificate.{Greatest, GreatestIsComplete, IsWithinCells, Rejected, TooLong, Verdict, cert_text, cert_verdict, entries_on, entry_of, greatest}
pub use Rattle.roman_model.specs.Change.{Die, Freeze, after, without}
pub use Rattle.roman_model.specs.Combined.{all_requests, couple_all, target_sizes}
pub use Rattle.roman_model.specs.CompleteLists.{AreEntries, IsComplete}
pub use Rattle.roman_model.specs.Composition.{Great, GreatCouple, Serves, couple}
pub use Rattle.roman_model.specs.Explanation.{name_at}
pub use Rattle.roman_model.specs.Lines.{ended_lines, lines}
pub use Rattle.roman_model.specs.Lists.{HasNoRepeats, IsIn, IsSublist, all_below, below, is_empty, product_of}
pub use Rattle.roman_model.specs.Numbers.{IsCompleteList, count, entry_at, number, numbered, pair_at, sizes_of, states_at}
pub use Rattle.roman_model.specs.Offers.{choice_count, is_related, offers, related_count}
pub use Rattle.roman_model.specs.Outcomes.{LeadsTo}
pub use Rattle.roman_model.specs.Several.{GreatAll, ServesAll, Several, of_one}
pub use Rattle.roman_model.specs.System.{Allows, Beh, IsBeh, IsPair, IsSys, Pair, SStep, Seat, Sys, TStep, all_final, has_move, is_final}
pub use Rattle.roman_model.specs.SystemArena.{arena, is_allowed, is_fine, outcomes, pairs, same_pair}
pub use Rattle.roman_model.specs.Without.{Outlook, outlook, pair_without, system_without}
pub use Rattle.roman_model.specs.declared.limits.TheConstants.{MAX_CELLS, MAX_SESSION_BYTES, PIECE_BYTES}
pub use Rattle.roman_model.specs.declared.reason.Reason.{Reason}
pub use Rattle.roman_model.specs.declared.reason.Reason.TheVariants.{Act, Final}
pub use Rattle.roman_model.specs.declared.request.Request.{Request}
pub use Rattle.roman_model.specs.declared.way.Way.{Way}
pub use Rattle.roman_multi.specs.Combining.{PlainCombined, combined_state_names, joined, machines, names_at, request_name, request_names, requests_in}
unfoldable pub use Rattle.roman_multi.specs.Combining.{combined_parts}
pub use Rattle.roman_opening.proofs.CallerLemmas.{IsSaid, accepted_is, away_is_run, ends_weaker, on_accepted, opened_from, opens_fault, opens_none, opens_within, put_ends, same_outputs, seated_start, told_all, told_both, told_known, work_of}
pub use Rattle.roman_opening.specs.Causes.{ShelfCause, SinkCause}
pub use Rattle.roman_opening.specs.Endings.{Accepts, Ends, EndsBare, EndsEarly, Finishes, IsRelated, Opened, OpensDocument, TurnsAway, Writes, WritesPrefix, WritesText}
pub use Rattle.roman_opening.specs.Opening.{Accepted, EndsSaying, OnOpening, document_opening, is_past_limit, library_system, limit_line}
pub use Rattle.roman_opening.specs.Outputs.{Outputs, outputs}
pub use Rattle.roman_opening.specs.RefusalLine.{refusal_line}
pub use Rattle.roman_opening.specs.declared.opening.Related.{Related}
pub use Rattle.roman_opening.specs.declared.status.Status.{Status}
pub use Rattle.roman_parts.specs.declared.error.PartError.{PartError}
pub use Rattle.roman_session.proofs.CallerLemmas.{is_within, reports_great}
pub use Rattle.roman_session.specs.Answering.{Answered}
pub use Rattle.roman_session.specs.Reports.{report_text}
pub use Rattle.roman_session.specs.Situations.{IsSituation, Situation, present_system}
pub use Rattle.roman_session.specs.Starts.{IsStart}
pub use Rattle.roman_session.specs.States.{IsOpenGreat, IsState, MayRequest, State, start_state}
pub use Rattle.roman_session.specs.Steps.{Step, is_quit, shown}
pub use Rattle.roman_session.specs.Turns.{Needs, TurnsInto}
pub use Rattle.roman_session.specs.Words.{OffersServing, Replies, ReportsGreat}
pub use Rattle.roman_session.specs.declared.phase.Phase.TheVariants.{Idle}
pub use Rattle.roman_start.proofs.CallerLemmas.{behaviours_within, names_once, start_pair}
pub use Rattle.roman_start.specs.Seating.{IsSeated}
pub use Rattle.roman_start.specs.Starts.{parts_of, seat_of_service, start_pair_of}
pub use Rattle.roman_start.specs.declared.seating.Seated.{Seated}
pub use Rattle.roman_text.proofs.CallerLemmas.{IsFilling, fill_behind, fill_end, fill_failed, fill_last, fill_more, fill_put, fill_same, fill_stops, fill_whole}
pub use Rattle.roman_text.specs.Replies.{reply_text}
pub use Rattle.roman_text.specs.Report.{line_text}
pub use Rattle.roman_text.specs.Shapes.{LineShape, delegate, observe, quit, request}
unfoldable pub use Rattle.roman_text.specs.Shapes.{shape_of, words_of}
pub use Rattle.roman_text.specs.declared.errors.LineError.{LineError}
pub use Rattle.roman_whatif.specs.Left.{failing_places}
pub use Rattle.roman_whatif.specs.Told.{told}
pub use Rattle.roman_top.specs.AdviseText.{Affords, DoesAdvise, OnCosts, SaysAdvice}
pub use Rattle.roman_top.specs.Causes.{InputCause}
pub use Rattle.roman_top.specs.Command.{Advise, Certify, Check, Command, Job, Make, On, Resilience, Run, Shortest, Synth, command_as, usage_line}
pub use Rattle.roman_top.specs.ContractWords.{head_for, ones_for, outlooks_for, twos_for}
pub use Rattle.roman_top.specs.Complete.{AnswersWherePossible, CanAnswer, IsAnswered, IsUndisturbed, Suffices}
pub use Rattle.roman_top.specs.Endings.{DoesJob, FindsVerdict, GoesOnFrom, RunsText, IsTooLong, Prints, run_status, status_of}
pub use Rattle.roman_top.specs.Faults.{AtMemory, AtReadFault, AtShelfFault, AtWriteFault, EndsInput, HasAnswered, HasAnsweredInput, HasAnsweredPrefix, HasPrefixOfTaken, HasRunPrefix, IsFree, IsOfSession, IsOfTaken, TakesInput}
pub use Rattle.roman_top.specs.Headline.{HasHeadline, HasReported, FulfilsPromise}
pub use Rattle.roman_top.specs.HeadlineAdvise.{AdvisesBy, FulfilsAdvise}
pub use Rattle.roman_top.specs.HeadlineCertify.{AreValid, CertifiesUnrelated, HoldsReason, ListsUnrelated, numbered_entry}
pub use Rattle.roman_top.specs.HeadlineCheck.{JudgesCertificate, TellsGreatest, certified_entries}
pub use Rattle.roman_top.specs.HeadlineJobs.{FulfilsJob, FulfilsText}
pub use Rattle.roman_top.specs.HeadlineMake.{FulfilsMake, TellsStages, TellsStanding}
pub use Rattle.roman_top.specs.HeadlineResilience.{AreFailing, AreServings, IsRightOutlook, IsServing, Serving, TellsLosses}
pub use Rattle.roman_top.specs.HeadlineTargets.{HasAnsweredTargets, IsTurnOfTargets, FulfilsTargets, MeansTargets, MovesOne, OffersServingAll, TargetAction, TellsTarget, couple_now}
pub use Rattle.roman_top.specs.HeadlineTurns.{AreTurns, HasAnsweredLines, Means, Turn, after_turns}
pub use Rattle.roman_top.specs.MakeText.{Passes, made_line, stage_line, stages, standing}
pub use Rattle.roman_top.specs.ResilienceText.{head_text, line_without, ones, outlook_words, service_names, twos, way_word}
unfoldable pub use Rattle.roman_top.specs.ResilienceText.{lines_without, outlook_text}
pub use Rattle.roman_top.specs.Run.{CertifiesSystem, EndsBy, HasRun, IsSessionText, JobDoes, DoesMake, Runs, SaysVerdict, DoesSynth, DoesRun, TellsShortestOf, WithTexts, texts_for}
pub use Rattle.roman_top.specs.Served.{Served, ServedBeside}
pub use Rattle.roman_top.specs.Sessions.{StartsAreKnown}
pub use Rattle.roman_top.specs.MakeStages.{HasComeTo, line_of_stage, lines_of}
pub use Rattle.roman_top.specs.CheckText.{greatest_text, rejected_text}
pub use Rattle.roman_top.specs.World.{IsUnwritten, World, beside, world}
pub use Rattle.roman_top.specs.declared.make_stage.MakeStage.{MakeStage}
