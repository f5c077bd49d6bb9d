-- Re-exports the names that the proof pages of this crate use from other crates. Declares nothing.
pub use Rattle.std.proofs.Common.{IfNone, IfSome, IsFalse, IsTrue, List, MatchOption, None, Option, Some, [], ap, arith, inl, length, refl, rules, slice_get, slice_index, subst, sym, true, ℕ, ◌<◌, ◌∙◌, ◌∷◌, ◌≡◌, ◌≢◌}
pub use Rattle.std.proofs.lemmas.Bool.{both_ways, not-true}
pub use Rattle.std.proofs.lemmas.List.{get_or-set_same, length-map}
pub use Rattle.std.proofs.lemmas.Nat.Bits.{bit_at-zero}
pub use Rattle.std.proofs.lemmas.Option.{slice_get_within}
pub use Rattle.std.specs.Int.{bit_at}
pub use Rattle.roman_joint.proofs.CallerLemmas.{behaves, seat_within}
pub use Rattle.roman_joint.specs.NamedSys.{IsNamedSys, NamedSys, system_of}
pub use Rattle.roman_joint.specs.Pairs.{arena_of}
pub use Rattle.roman_model.proofs.CallerLemmas.{AreBelow-index, IsPairOf-from, IsPairOf-moved, allowed_in_range, from_allowed, from_beh_next, from_env_next, in_beh_next, in_env_next, listed_number, move_in_range, ne_not_empty, not_empty_in, number_listed, numbered_offers, numbers_are_pairs, offer_is, pair_at-number, related_great, related_offers, get_in, size_at, states_below, states_long, triple_in_range}
pub use Rattle.roman_model.specs.Arena.{is_listed, mask}
pub use Rattle.roman_model.specs.Lists.{IsIn}
pub use Rattle.roman_model.specs.Numbers.{Sizes, count, number, pair_at, sizes_of}
pub use Rattle.roman_model.specs.Offers.{is_related, offers}
pub use Rattle.roman_model.specs.System.{Allows, Beh, IsPair, IsSys, Pair, Seat, Sys, TStep, has, has_move}
pub use Rattle.roman_model.specs.SystemArena.{beh_next, env_next, is_allowed, is_ready}
pub use Rattle.roman_order.specs.Board.{Board, has_entry, pairs_of}
pub use Rattle.roman_parts.specs.Named.{NamedEnv, NamedTarget}
pub use Rattle.roman_radix.specs.Radix.{moved}
pub use Rattle.roman_relation.proofs.CallerLemmas.{listed_numbers}
pub use Rattle.roman_relation.specs.Greatest.{IsRelation}
pub use Rattle.roman_rules.specs.Bits.{HasBits, bit_of}
pub use Rattle.roman_generator.specs.Moves.{Becomes, CanMove, IsBefore}
pub use Rattle.roman_generator.specs.declared.observation.Observation.{Observation}
