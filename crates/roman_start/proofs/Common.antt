-- Re-exports the names that the proof pages of this crate use from other crates. Declares nothing.
pub use Rattle.std.proofs.Common.{All, List, [], add-one, ap, ap₂, arith, get_or, length, length-append, length-take-le, map, min, nat_le, refl, string_bytes, subst, suc, sym, take, vec_capacity, zero, ℕ, ◌%◌, ◌*◌, ◌++◌, ◌+◌, ◌-◌, ◌/◌, ◌<◌, ◌^◌, ◌∙◌, ◌∷◌, ◌≡◌, ◌≤◌}
pub use Rattle.std.proofs.Math.Nat.{min-eq_left, min-eq_right, pow-suc, pow-zero}
pub use Rattle.std.proofs.lemmas.Bool.{leb-false, leb-true}
pub use Rattle.std.proofs.lemmas.Int.Digits.{digits_value_push}
pub use Rattle.std.proofs.lemmas.List.{map_push, take_more}
pub use Rattle.std.proofs.lemmas.List.Elements.{All-map, All-push, recursion_from_All}
pub use Rattle.std.proofs.lemmas.Str.{digit_value_digit}
pub use Rattle.std.specs.Char.{digit_value}
pub use Rattle.std.specs.List.{AllByRecursion, AllZip}
pub use Rattle.std.specs.Str.Parse.{AllDigits, digits_value}
pub use Rattle.roman_joint.proofs.CallerLemmas.{beh_read, seat_beh_read}
pub use Rattle.roman_joint.specs.NamedSys.{NamedSys, beh_at, cells, seat_of, system_of}
pub use Rattle.roman_joint.specs.declared.seat.Seat.{Seat}
pub use Rattle.roman_library.specs.Library.{IsLibrary, IsService, PlainLibrary, plain, service_name}
pub use Rattle.roman_library.specs.declared.library.Service.{Service}
pub use Rattle.roman_model.proofs.CallerLemmas.{IsPairOf-from, by_test, there_is}
pub use Rattle.roman_model.specs.Lists.{HasNoRepeats, product_of}
pub use Rattle.roman_model.specs.Numbers.{IsPairOf, Sizes, count, number, sizes_of}
pub use Rattle.roman_model.specs.System.{IsPair, Pair}
pub use Rattle.roman_model.specs.declared.limits.TheConstants.{MAX_SERVICES}
pub use Rattle.roman_parts.specs.Named.{NamedBeh}
pub use Rattle.roman_start.specs.Digits.{AreDigits, number_with_digits}
pub use Rattle.roman_start.specs.Extents.{states_in}
pub use Rattle.roman_start.specs.Seating.{IsSeated}
pub use Rattle.roman_start.specs.Starts.{parts_of, seat_of_service, start_pair_of, starting, state_of_service}
pub use Rattle.roman_start.specs.declared.seating.Seated.{Seated}
