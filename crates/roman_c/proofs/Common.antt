-- Re-exports the names that the proof pages of this crate use from other crates. Declares nothing.
pub use Rattle.std.proofs.Common.{List, [], ap, arith, lit<, map, refl, rules, subst, sym, ℕ, ◌++◌, ◌<◌, ◌∙◌, ◌∷◌, ◌≡◌, ◌≤◌}
pub use Rattle.std.proofs.Crossing.{frees}
pub use Rattle.std.proofs.lemmas.List.{length-map}
pub use Rattle.std.proofs.raw_atomic.Walks.{leaves, proved_at}
pub use Rattle.std.specs.Int.{bit_at}
pub use Rattle.std.specs.Prelude.{None, Option, Some}
pub use Rattle.std.specs.contracts.impls.GlobalAllocator.TheImpl.{ghosts}
pub use Rattle.std.specs.declared.alloc.Global.{Global}
pub use Rattle.std_alloc.proofs.BoxSteps.Steps.{box_in, box_out}
pub use Rattle.std_alloc.proofs.ResultValues.{and_tt}
pub use Rattle.std_alloc.proofs.SendSync.{lies, quiet}
pub use Rattle.std_alloc.proofs.boxed.Box.from_raw.Met.{met}
pub use Rattle.std_alloc.specs.Box.Ownership.{box_owns}
pub use Rattle.core.proofs.alloc.Calls.{Al, Goes-blank, handle_tells}
pub use Rattle.core.proofs.alloc.Shapes.{after}
pub use Rattle.core.proofs.atomic.Steps.{Ptr-Good, fm}
pub use Rattle.core.proofs.cell.Inside.{Good, one}
pub use Rattle.core.proofs.option.Made.{Some-of, none_of}
pub use Rattle.core.specs.declared.alloc.Allocator.{Ghosts}
pub use Rattle.roman_io.specs.Memory.{texts_of}
pub use Rattle.roman_io.specs.Shelf.{text_at}
pub use Rattle.roman_joint.specs.Names.{seat_name}
pub use Rattle.roman_read.proofs.CallerLemmas.{IsPast, past_found, past_next, past_none}
pub use Rattle.roman_rules.specs.Bits.{bit_of, has_seat}
pub use Rattle.roman_session.proofs.CallerLemmas.{mapped_at}
pub use base.Fml.{flft, fsep, ftrue}
pub use base.Logic.{SProp, emp, ent, fst∗, id⊢, never, never_e}
pub use base.Shift.{Keyless}
pub use contract.BorrowLft.{◌⊑◌}
pub use contract.Monad.{fact, fact_i}
pub use contract.Running.{tables}
pub use denote.Builtin.{RawPtr, bool}
pub use denote.Exit.{no, yes}
pub use denote.Memory.{lone}
pub use denote.Param.{bounded, layout, param}
pub use denote.Param.Laws.{Laws, param_laws}
pub use denote.Param.Send.{IsSend, owning_send, sendable, struct_send}
pub use denote.RattleType.{RattleType, Valss, owns}
pub use denote.RawPtr.{Ptr, block_ptr, in_a_block, null_ptr, ptr_val}
pub use denote.Signature.{plain, type_at, types_at}
pub use denote.Steps.{heard, nothing, only}
pub use denote.Struct.Owning.{fields, shape, to}
pub use denote.Struct.Struct.{exits_of, within}
pub use denote.Struct.Tuple.{Tuple}
pub use denote.Triple.Call.{calls_at, calls_at_last}
pub use denote.Triple.Clauses.{Lasts, lasts}
pub use denote.Triple.Spec.{triple_of}
pub use denote.Triple.Walked.{Stays, stay_dropped, walk_of}
pub use lib.Dec.{T}
pub use mathlib.Core.Bool.{Bool, false, true, ◌&&◌}
pub use mir.MapTy.{inst_fn}
pub use mir.Syntax.{a_type, dcons, dnil, impl, tnil}
pub use mir.Val.{Val, WT, has_ty, of_list, vbool, vcons, vnil, vptr, vstruct}
pub use prog.Wp.{WpFn}
pub use seplogic.Ra.Ura.{Ura}
pub use types.ByLocal.{alloc_all, env, free_all, get, get_in, lands_as, lands_last, look_at, pass_all, sets, sets_last}
pub use types.Kit.{ !, Goal, Item, Seq, Step, at_ret, await, by, drop, feq_i, feq_l, fjoin, fpack, fpick, fsplit, given, join, keep, later, learn, move, pick, qed, raw, rewrite, some, split, split3, step, suffices, use0, use1, ‵, ◌$◌, ◌∵◌, ◌⊛◌}
pub use types.Logic.{Logic, sem}
pub use types.Match.{live}
pub use types.Part.{agg, sub, whole}
pub use types.Run.{and_then, blocks, branches, enter, exec, false_lit, first, fld, lit, no_more, of_opd, returns, stop, true_lit}
pub use Rattle.roman_c.specs.Owned.{held_owns}
pub use Rattle.roman_c.specs.contracts.held.Held.{the_row, the_type}
pub use Rattle.roman_c.specs.contracts.held.Held.into_loose.{clauses, ended}
pub use Rattle.roman_io.specs.Shelf.{Texts}
pub use Rattle.roman_top.specs.Command.{Job}
pub use Rattle.roman_c.specs.Contents.{reply_in}
pub use Rattle.roman_c.specs.Jobs.{HasDone}
