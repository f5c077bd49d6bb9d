-- Re-exports the names that the proof pages of this crate use from other crates. Declares nothing.
pub use Rattle.std.proofs.Common.{Err, IfSome, IsFalse, IsTrue, List, None, Ok, Option, Result, Some, [], ap, append_assoc, arith, codes, refl, subst, sym, ℕ, ◌++◌, ◌<◌, ◌∙◌, ◌≡◌, ◌≢◌, ◌≤◌}
pub use Rattle.std.proofs.lemmas.Bool.{cond-false, cond-true, le-ltb, lt-ltb}
pub use Rattle.std.proofs.lemmas.List.{append-nil}
pub use Rattle.std.proofs.lemmas.Option.{IfSome_then}
pub use Rattle.std.proofs.lemmas.Result.{err_from_is_err_and}
pub use Rattle.roman_io.proofs.CallerLemmas.{Wrote-nil}
pub use Rattle.roman_io.specs.Faults.{HasCause, Rose}
pub use Rattle.roman_io.specs.Shelf.{Texts}
pub use Rattle.roman_io.specs.Sink.{Puts}
pub use Rattle.roman_joint.specs.NamedSys.{NamedSys, cells, system_of}
pub use Rattle.roman_library.specs.Documents.{library_of}
pub use Rattle.roman_library.specs.Library.{PlainLibrary, plain}
pub use Rattle.roman_library.specs.declared.refusal.Refusal.{Refusal}
pub use Rattle.roman_model.proofs.CallerLemmas.{numbers_are_pairs}
pub use Rattle.roman_model.specs.Numbers.{count, pair_at, sizes_of}
pub use Rattle.roman_relation.specs.Greatest.{IsRelation}
pub use Rattle.roman_session.specs.Starts.{IsStart}
pub use Rattle.roman_start.specs.Seating.{IsSeated}
pub use Rattle.roman_start.specs.Starts.{start_pair_of}
pub use Rattle.roman_start.specs.declared.seating.Seated.{Seated}
pub use Rattle.roman_text.proofs.CallerLemmas.{fill_failed, fill_more, fill_put, fill_whole}
pub use Rattle.roman_opening.specs.Endings.{Accepts, Ends, EndsEarly, Finishes, IsRelated, MeansLibrary, Opened, OpensDocument, TurnsAway, Writes, WritesPrefix, WritesText}
pub use Rattle.roman_opening.specs.Opening.{Accepted, OnOpening, Opening, Past, Refused, is_past_limit, library_system, limit_line, opening_of}
pub use Rattle.roman_opening.specs.Outputs.{Outputs, outputs}
pub use Rattle.roman_opening.specs.RefusalLine.{refusal_line, rule_text}
pub use Rattle.roman_opening.specs.declared.opening.Related.{Related}
pub use Rattle.roman_opening.specs.declared.status.Status.{Status}
