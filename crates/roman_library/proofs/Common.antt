-- Re-exports the names that the proof pages of this crate use from other crates. Declares nothing.
pub use Rattle.std.proofs.Common.{All, Bool, Err, IfOk, IfSome, List, None, Ok, Option, Result, Some, [], ap, arith, codes, cond, drop, false, get_or, length, length-append, map, not, refl, rules, slice_get, subst, sym, take, tests, true, vec_len, ℕ, ◌++◌, ◌+◌, ◌-◌, ◌<◌, ◌==◌, ◌∙◌, ◌∷◌, ◌≡◌, ◌≤◌}
pub use Rattle.std.proofs.Math.Seq.{take-append-add}
pub use Rattle.std.proofs.lemmas.Bool.{and_parts}
pub use Rattle.std.proofs.lemmas.Iterator.{YieldsList-from_slice}
pub use Rattle.std.proofs.lemmas.Iterator.Search.{position_from_yields_List}
pub use Rattle.std.proofs.lemmas.List.{get_or-map, length-map, length-take-le, map_push, take-append-drop}
pub use Rattle.std.proofs.lemmas.List.Elements.{All-get_or, All-push}
pub use Rattle.std.proofs.lemmas.Option.{get_or_from_slice_get, slice_get-map, slice_get_within}
pub use Rattle.std.proofs.lemmas.Result.{err_from_is_err_and}
pub use Rattle.std.specs.List.{position, prefix_len}
pub use Rattle.std.specs.Option.{option_map}
pub use Rattle.std.specs.Str.{bytes_eq}
pub use Rattle.roman_io.specs.Shelf.{Fetches, Texts, shelf_text}
pub use Rattle.roman_model.proofs.CallerLemmas.{HasNoRepeats-push}
pub use Rattle.roman_model.specs.Lists.{HasNoRepeats}
pub use Rattle.roman_model.specs.System.{IsEnv}
pub use Rattle.roman_model.specs.declared.limits.TheConstants.{MAX_BEHAVIOURS, MAX_CELLS, MAX_SERVICES}
pub use Rattle.roman_model.specs.declared.request.Request.{Request}
pub use Rattle.roman_multi.proofs.CallerLemmas.{combined_behaviour_over, combined_is_system, combined_target_over, request_count, state_count}
pub use Rattle.roman_multi.specs.Combining.{ObeysRules, PlainCombined, combined_behaviour, forbidding, requests_in, target_name}
unfoldable pub use Rattle.roman_multi.specs.Combining.{combined_parts}
pub use Rattle.roman_multi.specs.declared.error.CombineError.{CombineError}
pub use Rattle.roman_multi.specs.declared.parts.Combined.{Combined}
pub use Rattle.roman_multi.specs.declared.parts.Named.{Named}
pub use Rattle.roman_parts.proofs.CallerLemmas.{IsEnvironment, IsOver-start, IsOver-states, behaviour_known, check_is, counted_are, environment_known, found_is, none_absent, none_is, place_below, target_known}
pub use Rattle.roman_parts.specs.Named.{IsBehaviour, IsTarget, NamedBeh, NamedEnv, NamedTarget}
pub use Rattle.roman_parts.specs.Parts.{behaviour_of, environment_of, name_of, target_of}
pub use Rattle.roman_parts.specs.Reading.{Gives, counted_items, found, looked}
pub use Rattle.roman_parts.specs.declared.error.PartError.{PartError}
pub use Rattle.roman_read.proofs.CallerLemmas.{IsLeft, bind_ok, ends, goes_on, is_done, same_ok}
pub use Rattle.roman_read.specs.Items.{◌>>=◌}
unfoldable pub use Rattle.roman_read.specs.Items.{each_item}
pub use Rattle.roman_read.specs.Json.{member_of}
pub use Rattle.roman_read.specs.Names.{place_of}
pub use Rattle.serde_json.specs.Data.{Data, Items, item, no_items}
pub use Rattle.serde_json.specs.Events.{items_len}
pub use Rattle.serde_json.specs.View.{items_view, view}
pub use Rattle.serde_json.specs.declared.value.Value.{Value}
pub use Rattle.roman_library.specs.Documents.{PartAt, ReadAfter, behaviour_place, broken_rule, frozen_of, part_of, rests_of, value_at, version_of}
unfoldable pub use Rattle.roman_library.specs.Documents.{catalogue_in, combined_of, environment_in, library_in, library_of, limit_in, limit_of, listed_in, named_target_of, new_behaviour_of, new_name_of, parts_in, service_of, services_of, state_of, target_in, targets_in, with_listed, with_service_read}
pub use Rattle.roman_library.specs.Known.{IsKnownLibrary, LibrariesAreKnown}
pub use Rattle.roman_library.specs.Library.{ArePartsOf, AreServices, IsCatalogue, IsService, PlainLibrary, behaviour_name, service_name}
pub use Rattle.roman_library.specs.Refusals.{Loads, Locates, Stops, located}
pub use Rattle.roman_library.specs.Targets.{AcceptedNameTargets, CombinesTargets, TargetsAreCombined}
pub use Rattle.roman_library.specs.declared.library.Service.{Service}
pub use Rattle.roman_library.specs.declared.refusal.LoadError.{LoadError}
pub use Rattle.roman_library.specs.declared.refusal.Part.{Part}
pub use Rattle.roman_library.specs.declared.refusal.Refusal.{Refusal}
