-- Re-exports the names that the proof pages of this crate use from other crates. Declares nothing.
pub use Rattle.std.proofs.Common.{Bool, Global, IsFalse, IsTrue, List, None, Option, Result, Some, Vec, [], add-one, ap, append-nil, append_assoc, ap₂, arith, cond, drop, drop-cons, filter, get_or, inl, inr, length, refl, set, slice_get, slice_index, subst, suc, sym, take, true, zero, ℕ, ◌++◌, ◌+◌, ◌-◌, ◌<◌, ◌==◌, ◌^◌, ◌↔◌, ◌∙◌, ◌∷◌, ◌≡◌, ◌≢◌, ◌≤◌, ◌⊎◌}
pub use Rattle.std.proofs.Math.Nat.{mul-le-mul_left}
pub use Rattle.std.proofs.Math.Seq.{take-append_seam, take-length}
pub use Rattle.std.proofs.lemmas.Bool.{both_ways, cases_eq, cases_lt, cases_order, cond-false, cond-true, eq-eqb, eqb-true, false≢true, ne_eqb, not_from_false, or_cases, or_left, or_right}
pub use Rattle.std.proofs.lemmas.List.{get_or-map, get_or-set_other, get_or-set_same, get_or_past, length-map, take_more}
pub use Rattle.std.proofs.lemmas.List.Sums.{count_by_more_no, count_by_more_yes, length-filter, sum_by-cons, sum_by_push}
pub use Rattle.std.proofs.lemmas.Map.Keys.{apart_from_distinct}
pub use Rattle.std.proofs.lemmas.Option.{get_or_from_slice_get, none-some, slice_get_within}
pub use Rattle.std.proofs.lemmas.Result.{err_from_is_err_and}
pub use Rattle.std.specs.List.{IsDistinct}
pub use Rattle.std.specs.Prelude.{IfSome, count_by, max, min}
pub use Rattle.roman_io.specs.Sink.{Puts}
pub use Rattle.roman_joint.specs.NamedSys.{IsNamedSys, NamedSys, system_of}
pub use Rattle.roman_joint.specs.Pairs.{arena_of}
pub use Rattle.roman_model.proofs.CallerLemmas.{HasNoRepeats-filter, by_test, depth_least, depth_won, filter_in, from_pairs, great_holds, in_filter, in_pairs, last_is_steady, length-below, loses_down, loses_up, lost_fails, lost_unrelated, numbered_listed, numbered_loses, numbers_are_pairs, pairs_once, related_great, settled_exact, sum_over_pairs, unlost_holds}
pub use Rattle.roman_model.specs.Arena.{Arena, Entry, is_listed, loses}
pub use Rattle.roman_model.specs.Composition.{Great, couple}
pub use Rattle.roman_model.specs.Counting.{Counts}
pub use Rattle.roman_model.specs.Lists.{below}
pub use Rattle.roman_model.specs.Numbers.{count, number, numbered, pair_at, sizes_of}
pub use Rattle.roman_model.specs.Offers.{is_related}
pub use Rattle.roman_model.specs.Play.{DepthPlayWins, IsLeast}
pub use Rattle.roman_model.specs.System.{IsPair, IsSys, Pair, Sys}
pub use Rattle.roman_model.specs.SystemArena.{arena, pairs}
pub use Rattle.roman_order.specs.Board.{Board, as_entry, has_entry, nodes_of, pairs_of}
pub use Rattle.roman_order.specs.ReadAhead.{IsAhead}
pub use Rattle.roman_relation.proofs.CallerLemmas.{listed_is, listed_numbers}
pub use Rattle.roman_relation.specs.Greatest.{HasCompleteList, row_lanes}
pub use Rattle.roman_relation.specs.Settled.{AreLevels, IsSettled}
pub use Rattle.roman_relation.specs.Shaped.{IsShaped}
pub use Rattle.roman_rules.proofs.CallerLemmas.{from_nodes, in_nodes, numbered_arena}
pub use Rattle.roman_rules.specs.Numbered.{IsNumbered}
pub use Rattle.roman_text.proofs.CallerLemmas.{IsFilling, fill_failed, fill_more, fill_put, fill_same, fill_whole}
pub use Rattle.roman_rank.specs.DepthText.{PutsDepths, TellsDepths, head_lines, last_lines, level_line, level_lines}
pub use Rattle.roman_rank.specs.Depths.{IsDepth, IsGreatest}
pub use Rattle.roman_rank.specs.Ranking.{AreCounts, AreDepths, AreRanks, AreRanksBelow, GivesLevel, HasOneMore, HoldsAllLost, IsRank, IsRanking, depth_in, loses_before}
