-- Re-exports the names that the proof pages of this crate use from other crates. Declares nothing.
pub use Rattle.std.proofs.Common.{All, Bool, Bor, IsTrue, List, None, [], add-one, ap, append-nil, append_assoc, arith, codes, drop, drop-cons, get_or, inl, inr, length, length-append, lit<, lit≤, map, nat_lt, refl, rules, subst, suc, sym, take, true, zero, ℕ, ◌&&◌, ◌++◌, ◌+◌, ◌<◌, ◌==◌, ◌∙◌, ◌∷◌, ◌≡◌, ◌≤◌}
pub use Rattle.std.proofs.lemmas.Bool.{and_parts, eqb-true, ltb-true}
pub use Rattle.std.proofs.lemmas.List.{drop_all, length-map, length-take-le, take-map}
pub use Rattle.std.proofs.lemmas.List.Elements.{All-cons, All-from_recursion, All-map}
pub use Rattle.std.proofs.lemmas.Simd.{map-map}
pub use Rattle.std.specs.List.{list_all}
unfoldable pub use Rattle.roman_guard.specs.Meaning.{states_below}
pub use Rattle.roman_library.specs.Library.{AreServices, IsLibrary, IsService, PlainLibrary, service_name}
pub use Rattle.roman_model.proofs.CallerLemmas.{HasNoRepeats-below, HasNoRepeats-map, any_true, in_map, in_take, move_test}
pub use Rattle.roman_model.specs.Lists.{HasNoRepeats, IsIn}
pub use Rattle.roman_model.specs.Normal.{normal_beh}
pub use Rattle.roman_model.specs.System.{Beh, IsDeterministic, IsEnv, Move, has_move}
pub use Rattle.roman_model.specs.declared.limits.TheConstants.{MAX_STATES}
pub use Rattle.roman_parts.proofs.CallerLemmas.{from_normal_move, none_is}
pub use Rattle.roman_parts.specs.Listed.{AreInRange, listed_beh, named_beh, named_env, named_target}
pub use Rattle.roman_parts.specs.Named.{IsBehaviour, IsTarget, NamedBeh, NamedEnv, NamedTarget}
pub use Rattle.roman_read.specs.Names.{is_name, place_of}
pub use Rattle.roman_make.specs.Made.{floor_actions, floor_states, idle_worker, number_in, shift_states, worker_names, worker_states}
unfoldable pub use Rattle.roman_make.specs.Made.{floor, made, shift, worker}
pub use Rattle.roman_make.specs.Names.{are_new}
pub use Rattle.roman_make.specs.declared.tables.TheConstants.{FLOOR_STEPS, SHIFT_STEPS, WORKER_STEPS}
