use Rattle.nmgc_barrier_checker.proofs.{Vocabulary.◌∙◌, Vocabulary.List, Vocabulary.[], Vocabulary.get_or, Vocabulary.take, Vocabulary.sym, Vocabulary.subst, Vocabulary.take_all, Vocabulary.take_more, Vocabulary.Task, Vocabulary.AreDone, Vocabulary.IsAct, RowLaws.done_more, RowLaws.acted_go, RowLaws.acted_stop, RowLaws.adds_go, RowLaws.counted_more, RowLaws.counts_none}
use Rattle.nmgc_barrier_checker.specs.CameDue.{AddsDuesIf, AreCounted}
use Rattle.nmgc_barrier_checker.specs.declared.event.Event.TheVariants as event
use Rattle.nmgc_barrier_checker.proofs.watch.Watch.act_all.Goals as goal

pub returns-then-is_some-clause-acted : goal.returns-then-is_some-clause-acted
returns-then-is_some-clause-acted c =
    acted_stop c.args.line c.args.mutator c.args.tasks.now c.loop-task.task-index c.task-item.result c.args.self.now
    c.loop-task.self c.act.new.self c.in_ok-why.why c.loop-task-test.true c.loop-task.invariant.done (sym c.is_some.ensures ∙ c.if-is_some.true)
    (subst (λ (x : Task). IsAct c.args.line c.args.mutator x c.loop-task.self c.in_ok-why.why c.act.new.self) c.task-item.is c.in_ok-why.ensures.act)

pub returns-then-is_some-clause-dues : goal.returns-then-is_some-clause-dues
returns-then-is_some-clause-dues c =
    counts_none c.args.line c.args.self.now (event.Rows c.args.mutator [] c.args.tasks.now) c.in_ok-why.why c.args.dues.now c.act.new.dues
    (sym c.is_some.ensures ∙ c.if-is_some.true)

pub loop-task-preserved : goal.loop-task-preserved
loop-task-preserved c =
    let line = c.args.line in
    let m = c.args.mutator in
    let now : Task = get_or c.args.tasks.now c.loop-task.task-index c.task-item.result in
    let first : List Task = take c.loop-task.task-index c.args.tasks.now in
    let one = take_more c.args.tasks.now c.loop-task.task-index c.task-item.result c.loop-task-test.true in
    let can = acted_go line m now c.loop-task.self c.act.new.self c.in_ok-why.why (sym c.is_some.ensures ∙ c.if-is_some.false)
    (subst (λ (x : Task). IsAct line m x c.loop-task.self c.in_ok-why.why c.act.new.self) c.task-item.is c.in_ok-why.ensures.act) in
    let adds = adds_go m now.command c.loop-task.self c.in_ok-why.why c.loop-task.dues c.act.new.dues (sym c.is_some.ensures ∙ c.if-is_some.false)
    (subst (λ (x : Task). AddsDuesIf c.loop-task.self m x.command c.in_ok-why.why c.loop-task.dues c.act.new.dues) c.task-item.is
    c.in_ok-why.ensures.dues) in
    record {
      done = subst (λ (l : List Task). AreDone line m l c.args.self.now c.act.new.self) (sym one)
          (done_more line m first now c.args.self.now c.loop-task.self c.act.new.self c.loop-task.invariant.done can);
      counted = subst (λ (l : List Task). AreCounted line m l c.args.self.now c.args.dues.now c.act.new.self c.act.new.dues) (sym one)
          (counted_more line m first now c.args.self.now c.loop-task.self c.act.new.self c.args.dues.now c.loop-task.dues c.act.new.dues
          c.loop-task.invariant.counted can adds);
    }

pub returns-clause-acted : goal.returns-clause-acted
returns-clause-acted c =
    subst (λ (l : List Task). AreDone c.args.line c.args.mutator l c.args.self.now c.loop-task.self)
    (take_all c.loop-task.task-index c.args.tasks.now c.loop-task-test.false) c.loop-task.invariant.done

pub returns-clause-dues : goal.returns-clause-dues
returns-clause-dues c = (
  c.loop-task.self,
  subst (λ (l : List Task). AreCounted c.args.line c.args.mutator l c.args.self.now c.args.dues.now c.loop-task.self c.loop-task.dues)
      (take_all c.loop-task.task-index c.args.tasks.now c.loop-task-test.false) c.loop-task.invariant.counted,
)
