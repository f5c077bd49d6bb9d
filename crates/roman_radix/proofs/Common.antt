-- Re-exports the names that the proof pages of this crate use from other crates. Declares nothing.
pub use Rattle.std.proofs.Common.{List, [], add-one, ap, ap₂, arith, cond, drop, get_or, length, mul-le-mul, refl, replicate, slice_index, subst, suc, sym, take, zero, ℕ, ◌%◌, ◌*◌, ◌++◌, ◌+◌, ◌-◌, ◌/◌, ◌<◌, ◌^◌, ◌∙◌, ◌∷◌, ◌≡◌, ◌≤◌}
pub use Rattle.std.proofs.Math.ListN.{set}
pub use Rattle.std.proofs.Math.Nat.{mul-le-mul_left, mul-pos}
pub use Rattle.std.proofs.lemmas.Bool.{cases_eq, cases_lt, le-ltb, lt-ltb}
pub use Rattle.std.proofs.lemmas.List.{drop-replicate, drop_all, drop_more, ext_get_or, get_or-append_right, get_or-replicate, get_or-set_other, get_or-set_same, get_or-take, get_or_append_left, get_or_past, length-append, length-replicate, length-set, length-take, length-take-le, take-append-le, take_at}
pub use Rattle.std.proofs.lemmas.List.Edits.{get_or-remove_above, get_or-remove_below, length-remove}
pub use Rattle.std.proofs.lemmas.List.Elements.{All-drop, recursion_from_All}
pub use Rattle.std.proofs.lemmas.Nat.{div-add-mod', div-mul-add, mul-le}
pub use Rattle.std.specs.List.{All, AllByRecursion, remove}
pub use Rattle.roman_model.proofs.CallerLemmas.{AreBelow-length, IsPairOf-at, IsPairOf-grown, IsPairOf-moved, IsPairOf-without, count-grown, count-without, number-grown, number-pair_at, number-set, number_below, number_without-is, parts_of_number}
pub use Rattle.roman_model.specs.Change.{grown, without}
pub use Rattle.roman_model.specs.Lists.{product_of}
pub use Rattle.roman_model.specs.Numbers.{IsPairOf, Sizes, count, grown_sizes, number, pair_at, sizes_without, states_number}
pub use Rattle.roman_model.specs.System.{Pair}
pub use Rattle.roman_model.specs.declared.limits.TheConstants.{MAX_SERVICES}
pub use native.Mathlib.Nat.{div-div-eq-div-mul}
pub use Rattle.roman_radix.specs.Layout.{IsLaidOut, sizes_in}
pub use Rattle.roman_radix.specs.Places.{padded, strides_of}
pub use Rattle.roman_radix.specs.Radix.{AreSizes, IsSizes, env_stride_of, moved, stride_of, target_stride_of, with_part}
pub use Rattle.roman_radix.specs.Rows.{env_rows_of, lanes_of, low_of, row_sizes}
pub use Rattle.roman_radix.specs.declared.shape.Shape.TheInside.{Inside}
