use Rattle.nmgc_field_checker.proofs.{Vocabulary.never, WatchLaws.not_there, WatchLaws.stays}
use Rattle.nmgc_field_checker.specs.{Watching.WhySettle}
use Rattle.nmgc_field_checker.specs.declared.watch.FieldPhase.TheVariants as phase
use Rattle.nmgc_field_checker.proofs.watch.FieldWatch.reason_against_settle.Goals as goal

pub returns-then-not-is_there : goal.returns-then-not-is_there
returns-then-not-is_there c = record { step = (stays c.args.self.now (phase.Marking c.in-Marking.cycle) c.in-Marking.is, not_there c.args.self.now c.args.mutator (WhySettle c.args.mutator) c.in-Marking.cycle c.in-Marking.is (λ t. never (c.if-not-is_there.ensures.1 t))) }
