-- Re-exports the names that the proof pages of this crate use from other crates. Declares nothing.
pub use Rattle.std.proofs.Common.{Bool, Box, Contains, Global, IsTrue, None, Some, Vec, [], add-one, ap, arith, below_more, bit_and, bit_or, cond, drop, false, filter, inl, inr, map, min, refl, rules, subst, suc, sym, true, true≢false, w64, zero, ℕ, ◌%◌, ◌&&◌, ◌*◌, ◌++◌, ◌+◌, ◌-◌, ◌<◌, ◌==◌, ◌^◌, ◌↔◌, ◌∙◌, ◌∷◌, ◌≡◌, ◌≤◌}
pub use Rattle.std.proofs.Math.Nat.{mod-le}
pub use Rattle.std.proofs.Math.Pow.{pow-lt}
pub use Rattle.std.proofs.lemmas.Bool.{cases_lt, cases_order, eq-eqb, ne_eqb}
pub use Rattle.std.proofs.lemmas.List.{append-nil}
pub use Rattle.std.proofs.lemmas.List.Elements.{Contains-append_cases, Contains-append_left, Contains-append_right, filter-append}
pub use Rattle.std.proofs.lemmas.Nat.{one_shl, or_lt, pow_pos}
pub use Rattle.std.proofs.lemmas.Nat.Bits.{bit_at-lt, bit_at-trailing_zeros, bit_at-zero, bit_at_above, bit_at_and, bit_at_set_other, bit_at_set_same}
pub use Rattle.std.specs.Int.{bit_at, trailing_zeros}
pub use Rattle.std.specs.Int.Bits.{or_zero_l}
pub use Rattle.std.specs.List.{find, range_with_len}
pub use Rattle.std.specs.Prelude.{if◌then◌else◌}
pub use Rattle.roman_guard.specs.Meaning.{complement, has_both, has_state, holds, intersection, is_one_of, states_of, union}
unfoldable pub use Rattle.roman_guard.specs.Meaning.{least_below, states_below}
pub use Rattle.roman_guard.specs.declared.formula.Guard.{All, Among, Both, Either, Guard, Never, Not, the_lemmas}
