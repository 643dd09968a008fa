-- Every name of std, of the crates below and of this crate's definitions that the proofs use.
pub use Rattle.nmgc_lists.specs.Room.{Room}
pub use Rattle.nmgc_object.specs.declared.words.Address.{Address}
pub use Rattle.nmgc_updrem.specs.{Lines.IsLevelSo, Lines.Reserves, Lines.TakesRestSo, Rings.AtLine, Rings.Receiver, Rings.Ring, Rings.Sender, Rings.entries_of, Rings.sent as all_sent, contracts.level.Level.the_row, contracts.level.Level.of.clauses, contracts.level.Level.of.ended, contracts.level.Level.of.Key.name as #self, laws.Polls.polled_one}
pub use Rattle.rtrb.specs.Ring.{known_items, received, sent}
pub use Rattle.std.proofs.{Common.List, Common.[], Common.ap, Common.append-nil, Common.append_assoc, Common.arith, Common.drop, Common.get_or, Common.length, Common.length-set, Common.refl, Common.rules, Common.set, Common.subst, Common.sym, Common.take, Common.take-append-drop, Common.ℕ, Common.◌++◌, Common.◌+◌, Common.◌-◌, Common.◌<◌, Common.◌∙◌, Common.◌∷◌, Common.◌≡◌, Common.◌≤◌, lemmas.Grind.flat_map-append, lemmas.List.drop-drop, lemmas.List.drop_all, lemmas.List.length-drop, lemmas.List.nil_from_length, lemmas.Option.IfSome_then, lemmas.Option.slice_get-get_or, lemmas.Result.on_ok_weaker}
pub use Rattle.std.specs.{List.refill, Prelude.IfNone, Prelude.None, Prelude.Option, Prelude.Some, Prelude.slice_get}
pub use base.{Fml.Fml, Logic.SProp, Logic.ent, Logic.fst∗, Logic.snd∗, Logic.via}
pub use contract.{Monad.Fun, Monad.fact_use, Running.tables}
pub use denote.{Builtin.RefOf, Exit.yes, Laws.Are, Laws.Ises, Laws.owns_show, Laws.showss, Param.layouts, Param.param, Param.Laws.Laws, Param.Send.IsSend, Param.Send.IsSync, Param.Send.part_keyless, RattleType.RattleType, RattleType.owns, Shadow.makes_shadow, Signature.plain, Signature.type_at, Signature.types_at, Steps.nothing, Triple.Clauses.Clauses, Triple.Clauses.closing, Triple.Entry.alive, Triple.Entry.on_entry, Triple.Spec.Meets, Triple.Spec.triple_of, Triple.Table.entered, Triple.Walked.Goes-dropped, Triple.Walked.Stays, Triple.Walked.ends_at, Triple.Walked.says, Triple.Walked.stay_dropped, Triple.Walked.walk_Meets, Triple.Walked.walk_of}
pub use lib.Seq.{drop-append_seam, drop-length, length-take-le, take-append-le, take-length, take_at}
pub use mir.{MapTy.inst_fn, Syntax.Fn, Syntax.a_type, Val.Val, Val.vcons, Val.vnil, Val.vptr, Val.vstruct}
pub use prog.{Memory.Memory, Routine.Routine, Wp.Calls, Wp.Loops, Wp.Tables, Wp.WpFn}
pub use seplogic.Ra.Ura.{Ura}
pub use sound.WpLaws.{WpFn-mono}
pub use types.{ByLocal.alloc_all, ByLocal.free_all, ByLocal.get, ByLocal.look_at, ByLocal.pass_all, ByLocal.sets, Kit.!, Kit.done, Kit.fjoin, Kit.join, Kit.keep, Kit.move, Kit.qed, Kit.raw, Kit.split, Kit.suffices, Kit.use0, Kit.‵, Kit.◌$◌, Kit.◌∵◌, Kit.◌⊛◌, Logic.Logic, Logic.sem, Part.agg, Run.and_then, Run.enter, Run.no_more, Run.returns}
unfoldable pub use contract.Running.{tables_of}
