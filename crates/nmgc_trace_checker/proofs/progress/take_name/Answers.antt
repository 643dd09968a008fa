use Rattle.nmgc_trace_checker.proofs.{Vocabulary.subst, Vocabulary.true, Vocabulary.Bool, Vocabulary.Contains, Vocabulary.Lists, Vocabulary.Passes, Takes.take_known}
use Rattle.nmgc_snapshot_laws.specs.declared.event.Event.TheVariants as event
use Rattle.nmgc_trace_checker.proofs.progress.take_name.Goals as goal

pub returns : goal.returns
returns c =
    let old : Lists (Contains c.args.core.now.marked) c.items.result.now = rw c.items.ensures c.in_ok-before.ensures in
    let new : Lists (Contains c.step.new.self.marked) c.items-2.result.now = rw c.items-2.ensures c.in_ok-after.ensures in
    let P : Bool → Type 0 = λ done. Passes c.args.core.now (event.Take c.args.mutator) done c.step.new.self in
    let passes : Passes c.args.core.now (event.Take c.args.mutator) true c.step.new.self = subst P c.if-not-branch.false c.in_ok-step.ensures.done in
    take_known c.args.core.now c.step.new.self c.args.mutator c.args.name c.items.result.now c.items-2.result.now old new passes
    c.is_just_marked.result c.is_just_marked.ensures
