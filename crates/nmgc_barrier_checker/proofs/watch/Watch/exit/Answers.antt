use Rattle.nmgc_barrier_checker.proofs.{Vocabulary.◌∙◌, Vocabulary.sym, Exits.exits, Exits.stays, Exits.exit_counts, RowLaws.counts_none}
use Rattle.nmgc_barrier_checker.specs.declared.event.Event.TheVariants as event
use Rattle.nmgc_barrier_checker.proofs.watch.Watch.exit.Goals as goal

pub returns-then-is_some-clause-step : goal.returns-then-is_some-clause-step
returns-then-is_some-clause-step c =
    stays c.args.line c.args.mutator c.args.self.now c.empty_registers.new.self c.in_ok-why.why c.in_ok-why.ensures.step
    (sym c.is_some.ensures ∙ c.if-is_some.true)

pub returns-then-is_some-clause-dues : goal.returns-then-is_some-clause-dues
returns-then-is_some-clause-dues c =
    counts_none c.args.line c.args.self.now (event.Exit c.args.mutator) c.in_ok-why.why c.args.dues.now c.empty_registers.new.dues
    (sym c.is_some.ensures ∙ c.if-is_some.true)

pub returns-clause-step : goal.returns-clause-step
returns-clause-step c =
    exits c.args.line c.args.mutator c.args.self.now c.empty_registers.new.self c.scan.new.self c.in_ok-why.why c.in_ok-_scanned_before._scanned_before
    c.in_ok-why.ensures.step (sym c.is_some.ensures ∙ c.if-is_some.false) c.in_ok-_scanned_before.ensures

pub returns-clause-dues : goal.returns-clause-dues
returns-clause-dues c =
    exit_counts c.args.line c.args.mutator c.args.self.now c.in_ok-why.why c.args.dues.now c.empty_registers.new.dues
    (sym c.is_some.ensures ∙ c.if-is_some.false) c.in_ok-why.ensures.dues
