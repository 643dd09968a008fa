-- The names of std, of the crates below and of this crate's definitions that the proofs use.
pub use Prim.Native.Nat.{zero, ℕ, ◌*◌, ◌+◌, ◌<◌, ◌^◌, ◌≤◌}
pub use Rattle.nmgc_lists.specs.{contracts.cells.Cells.the_row, contracts.cells.Cells.the_type, contracts.cells.Cells.front_mut.Key.name as #self}
pub use Rattle.std.specs.List.{refill}
pub use base.{Fml.Fml, Fml.GName, Fml.Lft, Fml.Share, Fml.feq, Fml.flft, Fml.fsep, Fml.ftrue, Fraction.full_share, Logic.SProp, Logic.ent, Logic.ex, Logic.guard, Logic.sep}
pub use borrow.Table.Elements.{at, cut_app, join_app, length-take-le}
pub use contract.{BorrowLft.◌⊑◌, Lifetimes.AllOutlive, Monad.Fun, Running.tables}
pub use denote.{Array.Array, ArrayMemory.Array-apart, ArrayMemory.Array-whole, Builtin.RefMutOf, Builtin.usize, Exit.no, Exit.yes, Follow.follows, FollowSlice.lends_Elements, Index.row, Index.whole_in, Index.whole_out, Memory.mem, Memory.part_at, Param.ArrayAt, Param.layout, Param.layouts, Param.number, Param.param, Param.Laws.Laws, Param.Laws.number_array_laws, Param.Laws.param_laws, Plain.uint_Tells, Plain.uint_vals, RattleType.RattleType, RattleType.owns, Ref.MutBor, Ref.MutRef, Ref.mut_Tells, Ref.mut_vals, Signature.plain, Slice.MutSlice, Slice.Room, Slice.slice_val, Steps.nothing, Struct.Declared.shape, Struct.Members.Member, Struct.Members.raw_tys, Struct.Parts.Struct-left, Struct.Parts.left_Struct, Struct.Parts.shape_of, Struct.Recorded.Recorded-part, Struct.Struct.Struct, Triple.Clauses.Clauses, Triple.Clauses.Ended, Triple.Clauses.closing, Triple.Entry.on_entry, Triple.Spec.Meets, Triple.Spec.triple_of, Triple.Table.entered, Triple.Walked.Goes-dropped, Triple.Walked.Goes-spent_ref, Triple.Walked.Stays, Triple.Walked.ends_at, Triple.Walked.says, Triple.Walked.stay_dropped, Triple.Walked.walk_Meets, Triple.Walked.walk_of, Triple.Walked.walked}
pub use lib.{ListN.drop as drop_list, ListN.length, ListN.length-append, ListN.length-drop, ListN.take, ListN.take-append-drop, Seq.take_all}
pub use mathlib.{Core.List.List, Core.List.[], Core.List.◌++◌, Core.List.◌∷◌, Core.Path.ap, Core.Path.refl, Core.Path.sym, Core.Path.◌∙◌, Core.Path.◌≡◌}
pub use mir.{MapTy.inst_fn, Syntax.Args, Syntax.Fn, Syntax.Ty, Syntax.a_number, Syntax.a_type, Syntax.named, Syntax.ty_array, Syntax.ty_struct, Syntax.w64, Val.Val, Val.vint, Val.vptr}
pub use native.{Mathlib.Nat.mul-le-mul_right, Mathlib.Omega.arith}
pub use prog.{Memory.Memory, Memory.align, Memory.size, Memory.up, Routine.Routine, Wp.Calls, Wp.Loops, Wp.Tables, Wp.WpFn}
pub use seplogic.Ra.Ura.{Ura}
pub use sound.WpLaws.{WpFn-mono}
pub use types.{ByLocal.alloc_all, ByLocal.free_all, ByLocal.get, ByLocal.look_at, ByLocal.pass_all, ByLocal.sets, ByLocal.through, Kit.!, Kit.Item, Kit.await, Kit.by, Kit.check, Kit.done, Kit.drop, Kit.feq_i, Kit.feq_l, Kit.fjoin, Kit.frame, Kit.fsplit, Kit.fsplit3, Kit.given, Kit.group, Kit.join, Kit.keep, Kit.later, Kit.learn, Kit.move, Kit.now, Kit.pick, Kit.qed, Kit.raw, Kit.rewrite, Kit.show, Kit.some, Kit.split, Kit.split3, Kit.suffices, Kit.updating, Kit.use1, Kit.use2, Kit.‵, Kit.◌$◌, Kit.◌∵◌, Kit.◌⊛◌, Logic.Logic, Logic.sem, Mut.open_ref, Part.agg, Run.addr, Run.and_then, Run.enter, Run.fld, Run.no_more, Run.returns, Run.stop, SemTy.cells}
unfoldable pub use contract.Running.{tables_of}
