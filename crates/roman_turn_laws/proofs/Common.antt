-- Re-exports the names that the proof pages of this crate use from other crates. Declares nothing.
pub use Rattle.std.proofs.Common.{Bool, Err, IfSome, IsFalse, IsTrue, List, None, Ok, Option, Result, Some, [], ap, arith, codes, false, filter, flat_map, if◌then◌else◌, inl, inr, length, map, nat_lt, not, refl, remove, slice_get, slice_index_or, slice_set, subst, suc, sym, true, zero, ℕ, ◌&&◌, ◌++◌, ◌<◌, ◌||◌, ◌↔◌, ◌∙◌, ◌∷◌, ◌≡◌, ◌≤◌, ◌⊎◌}
pub use Rattle.std.proofs.lemmas.Bool.{both_ways, cond-true, le-ltb}
pub use Rattle.std.proofs.lemmas.List.{length-map, map_push}
pub use Rattle.std.proofs.lemmas.List.Elements.{All-from_recursion, recursion_from_All}
pub use Rattle.std.proofs.lemmas.Option.{get_or_from_slice_get, none-some, same_Some, slice_get_within}
pub use Rattle.std.proofs.lemmas.Slice.Eq.{bytes_eq-Decides}
pub use Rattle.std.specs.List.{AllByRecursion, AllZip, list_any, starts_with}
pub use Rattle.std.specs.Prelude.{nat_eq}
pub use Rattle.std.specs.Str.{bytes_eq}
pub use Rattle.std.specs.Str.Lines.{strip_carriage_return}
pub use Rattle.roman_document_laws.specs.Accepted.{AcceptedCanBeSaid, AcceptedNamesAreClear, AcceptedSeveralCanBeSaid, HasClearNames}
pub use Rattle.roman_document_laws.specs.DocumentWriter.{IsSayable, LibrariesAreSaid}
pub use Rattle.roman_document_laws.specs.PartWriter.{IsSayableTarget}
pub use Rattle.roman_document_laws.specs.SeveralWriter.{AreSayable, SeveralAreSaid, combined_library}
pub use Rattle.roman_hearing.proofs.CallerLemmas.{count_fixed, needs_elim, sublists_same, unless_elim}
pub use Rattle.roman_session.proofs.CallerLemmas.{services_again}
pub use Rattle.roman_session.specs.Afresh.{afresh, services_in}
pub use Rattle.roman_hearing.specs.Events.{IsComment, Reads}
pub use Rattle.roman_hearing.specs.Laws.{ReportsAreFixed}
pub use Rattle.roman_session.specs.Refutations.{AreLost, IsLost, MayAnswer, WinsBy}
pub use Rattle.roman_session.specs.States.{IsGreat, IsState, MayRequest, ServesHere, State, start_state}
pub use Rattle.roman_session.specs.Turns.{ComesTo, Needs, Place, Refuses, TurnsInto, Unless, with_services}
pub use Rattle.roman_session.specs.Words.{AreServing, CountsLost, IsReady, OffersServing, Refutes, Replies, ReportsGreat}
pub use Rattle.roman_io.specs.Shelf.{Texts}
pub use Rattle.roman_joint.proofs.CallerLemmas.{beh_read, frozen_known, frozen_system, gone_known, gone_system, joined_known, joined_system}
pub use Rattle.roman_joint.specs.Changes.{with_frozen}
pub use Rattle.roman_joint.specs.NamedSys.{IsNamedSys, NamedSys, beh_at, cells, seat_of, system_of}
pub use Rattle.roman_joint.specs.Names.{beh_name, names_in, names_of_seat, seat_name, states_of_behaviour}
pub use Rattle.roman_joint.specs.declared.seat.Seat.{Seat}
pub use Rattle.roman_laws.specs.Losing.{LosingNeverHelps}
pub use Rattle.roman_library.proofs.CallerLemmas.{behaviour_there, libraries_known}
pub use Rattle.roman_library.specs.Library.{IsCatalogue, IsLibrary, IsService, PlainLibrary, service_name}
pub use Rattle.roman_library.specs.Targets.{CombinesTargets, PlainTargets, TargetsAreCombined}
pub use Rattle.roman_library.specs.declared.library.Service.{Service}
pub use Rattle.roman_model.proofs.CallerLemmas.{AreBelow-at, HasNoRepeats-below, flat_map_same, from_get_map, from_map, from_push, get_in, great_meets, in_map, length-states_at, map_same_in, remove_in, states_number-at, there_is}
pub use Rattle.roman_model.specs.Arena.{Entry}
pub use Rattle.roman_model.specs.Change.{Freeze, Thaw, after, set_frozen, without}
pub use Rattle.roman_model.specs.Combined.{combined_env, combined_start, combined_target, member_goes, stands_in, target_sizes, targets_go}
pub use Rattle.roman_model.specs.Composition.{Couple, Great, GreatCouple, Meets, Serves}
pub use Rattle.roman_model.specs.Counting.{Counts}
pub use Rattle.roman_model.specs.Explanation.{name_at, seat_names}
pub use Rattle.roman_model.specs.Lists.{HasNoRepeats, IsIn, below, product_of}
pub use Rattle.roman_model.specs.Made.{beh_from}
pub use Rattle.roman_model.specs.Numbers.{AreBelow, states_at, states_number}
pub use Rattle.roman_model.specs.Several.{are_final}
pub use Rattle.roman_model.specs.System.{Beh, Env, IsBeh, IsDeterministic, IsEnv, IsPair, IsSys, Pair, SStep, Sys, has_move, is_final}
pub use Rattle.roman_model.specs.declared.limits.TheConstants.{MAX_SERVICES, MAX_STATES}
pub use Rattle.roman_model.specs.declared.reason.Reason.{Reason}
pub use Rattle.roman_model.specs.declared.reason.Reason.TheVariants.{Act, Final}
pub use Rattle.roman_model.specs.declared.request.Request.{Request}
pub use Rattle.roman_multi.specs.Combining.{PlainCombined, combined_behaviour, combined_state_names, has_bad_count, has_repeats, is_long, joined, machines, names_at, request_name, request_names, requests_in, target_name}
unfoldable pub use Rattle.roman_multi.specs.Combining.{combined_parts, forbidding}
pub use Rattle.roman_multi.specs.declared.error.CombineError.{CombineError}
pub use Rattle.roman_multi.specs.declared.parts.Named.{Named}
pub use Rattle.roman_parts.specs.Named.{IsOver, NamedBeh, NamedEnv}
pub use Rattle.roman_read.specs.Names.{is_name}
pub use Rattle.roman_session.specs.declared.phase.Phase.{Phase}
pub use Rattle.roman_session.specs.declared.phase.Phase.TheVariants.{Delegated, Idle, Offered}
pub use Rattle.roman_start.specs.Starts.{parts_of, seat_of_service, state_of_service}
pub use Rattle.roman_text.specs.Replies.{reply_text}
pub use Rattle.roman_text.specs.Shapes.{LineShape, abort, by_words, delegate, die, explain, freeze, join, jump, jump_env, nothing, observe, quit, report, request, shape_of_words, spelling, thaw, words_of}
pub use Rattle.roman_text.specs.declared.errors.LineError.{LineError}
pub use Rattle.roman_text.specs.declared.replies.Reply.{Reply}
pub use Rattle.roman_top.proofs.CallerLemmas.{library_parts}
pub use Rattle.roman_top.specs.HeadlineTurns.{AreTurns, Turn, after_turns}
pub use Rattle.roman_turn_laws.specs.Alike.{starting_at, state_at}
pub use Rattle.roman_turn_laws.specs.Calm.{CalmStretchesStay, IsCalm, IsChange, IsServed, StaysServed}
pub use Rattle.roman_turn_laws.specs.Fixed.{CountTheSame, IsFixedTurn, IsLikeTurn, ResumedSayAlike, SayAlike, SessionsAreFixed, TurnsAreFixed}
pub use Rattle.roman_turn_laws.specs.Losses.{MayGo, TurnsNeverGain}
pub use Rattle.roman_turn_laws.specs.Present.{AreSaidAfresh, IsReached, IsSaidAfresh, PresentIsSaid, PresentTargetsAreSaid, said_at, targets_at}
pub use Rattle.roman_turn_laws.specs.Resumed.{IsSameTurn, OpenIsTakenUp, SessionsResume, TakesUp, TurnsAreAlike}
