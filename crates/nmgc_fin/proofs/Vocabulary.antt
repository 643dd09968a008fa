-- The names of std, of the crates below and of this crate's definitions that the proofs use.
pub use Rattle.crossbeam_queue.proofs.Lists.{at_set, at_snoc}
pub use Rattle.crossbeam_queue.specs.{Fifo.Forks, Fifo.Learns, Fifo.Merges, Fifo.Pops, Fifo.Pushes as MayPush, SegTies.IsSegPassOf, SegTies.SegId}
pub use Rattle.nmgc_fin.specs.{Handles.AreNumbered, Handles.Handles, Handles.joined, Jobs.AreJobsOf, Jobs.IsBad, Jobs.IsDead, Jobs.IsDeadOf, Jobs.IsFirstBad, Jobs.IsKindOf, Jobs.NamesOf, Jobs.weak_of, Order.AreAlike, Order.AreWithin, Order.IsPlaced, Order.job_line, Order.job_lines, Order.jobs_text, Program.AreDone, Program.Asks, Program.IsComplete, Program.IsCount, Program.IsRead, Program.IsWritten, Program.Says, Program.SaysOfBytes, Rule.Balanced, Rule.Knows, Rule.Pushes, Rule.Takes, Rule.all_taken, Rule.both_hands, Rule.gives_part, Rule.hand, Rule.keeps_parts, Rule.most_parts, Rule.no_hand, Rule.total, Scan.AreScanned, Scan.HasScanned, Worker.AreWorkers, Worker.IsWorker, Worker.hand_of, Worker.lists_of, declared.hand.Hand.Hand, declared.job.Job.Job, declared.reading.TheConstants.MAX_REPORT_BYTES, declared.scan.Scan.Scan, declared.scan.TheConstants.FRONT, declared.text.LineKind.LineKind, declared.text.LineKind.TheVariants.Bad, declared.text.LineKind.TheVariants.Other, declared.text.LineKind.TheVariants.Weak, declared.top.FinStatus.FinStatus, declared.top.FinStatus.TheVariants.BadReport, declared.top.FinStatus.TheVariants.Done, declared.top.FinStatus.TheVariants.NoMemory, declared.top.FinStatus.TheVariants.ReadFault, declared.top.FinStatus.TheVariants.TooLong, declared.top.FinStatus.TheVariants.Usage, declared.top.FinStatus.TheVariants.WriteFault, declared.worker.Worker.Worker}
pub use Rattle.nmgc_io.specs.{Text.Rose, Text.Takes as TakesBytes, Text.TakesUpTo, Text.lines_of, laws.Common.taken_within, laws.Parts.cut_first, laws.Parts.last_line, laws.Parts.lines_cut}
pub use Rattle.nmgc_journal.specs.Text.{name_text}
pub use Rattle.nmgc_object.specs.Words.{IsName}
pub use Rattle.nmgc_world_spec.specs.{declared.value.Name.Name, laws.Common.get_set_other as set_off, laws.Common.get_set_same as set_at}
pub use Rattle.std.proofs.{Common.Global, Common.IsPermutation, Common.List, Common.None, Common.Option, Common.Some, Common.[], Common.ap, Common.append-nil, Common.append_assoc, Common.arith, Common.codes, Common.decimal, Common.drop, Common.false, Common.get_or, Common.inl, Common.inr, Common.length, Common.length-append, Common.length-set, Common.length-take, Common.length-take-le, Common.map, Common.refl, Common.rules, Common.set, Common.subst, Common.suc, Common.sym, Common.take, Common.vec_capacity, Common.vec_len, Common.zero, Common.ℕ, Common.⊎_elim, Common.◌++◌, Common.◌+◌, Common.◌-◌, Common.◌<◌, Common.◌^◌, Common.◌∙◌, Common.◌∷◌, Common.◌≡◌, Common.◌≢◌, Common.◌≤◌, Common.◌⊎◌, Math.Seq.take-suc}
pub use Rattle.std.proofs.lemmas.{Bool.cases_eq, Bool.cases_lt, Bool.true≢false, Fmt.decimal_injective, Fmt.length-decimal-le, List.get_or_append_left, List.get_or_default, List.take-append-drop, List.take_all, List.Elements.All-append, List.Elements.All-nil, List.Elements.Contains-append_cases, List.Elements.Contains-append_left, List.Elements.Contains-append_right, List.Elements.Contains-get_or, List.Sorted.Contains-permutation, List.Sorted.IsPermutation-append_comm, List.Sorted.IsPermutation-append_left, List.Sorted.IsPermutation-append_right, List.Sorted.IsPermutation-middle, List.Sorted.IsPermutation-refl, List.Sorted.IsPermutation-sym, List.Sorted.IsPermutation-trans, List.Sorted.length_permutation, Option.get_or_from_slice_get, Option.slice_get-get_or, Option.slice_get_within, Result.IfOk-weaker, Result.on_ok_weaker}
pub use Rattle.std.specs.{Io.KnownBytes.Consumes, Prelude.All, Prelude.Bool, Prelude.Contains, Prelude.OnOk, Prelude.if◌then◌else◌, Prelude.is_ok, Prelude.is_some, Prelude.min, Prelude.slice_get, Prelude.slice_index_or, Prelude.string_bytes, Prelude.true, Vec.Iter.into_iter_items}
pub use lib.ListN.{get_elem?}
pub use mathlib.Core.Option.{some, some-injective, some-ne-none}
