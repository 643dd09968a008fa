use Rattle.nmgc_field_checker.proofs.{Vocabulary.Has, Vocabulary.StandsFirst, Vocabulary.World, Vocabulary.never, Vocabulary.refl, Vocabulary.subst, WatchLaws.in_cycle, WatchLaws.not_there, WatchLaws.stays}
use Rattle.nmgc_field_checker.specs.{Watching.WhyScan}
use Rattle.nmgc_field_checker.specs.declared.event.FieldWhy.TheVariants as why
use Rattle.nmgc_field_checker.specs.declared.watch.FieldPhase.TheVariants as phase
use Rattle.nmgc_field_checker.proofs.watch.FieldWatch.scan.Goals as goal

pub returns-then-not-is_there : goal.returns-then-not-is_there
returns-then-not-is_there c = record { step = (stays c.args.self.now (phase.Marking c.in-Marking.cycle) c.in-Marking.is, not_there c.args.self.now c.args.mutator (WhyScan c.args.mutator c.args.roots.now) c.in-Marking.cycle c.in-Marking.is (λ t. never (c.if-not-is_there.ensures.1 t))) }

pub returns-in-Some : goal.returns-in-Some
returns-in-Some c = record { step = (stays c.args.self.now (phase.Marking c.in-Marking.cycle) c.in-Marking.is, in_cycle c.args.self.now c.args.mutator (WhyScan c.args.mutator c.args.roots.now) c.in-Marking.cycle (why.NoObject c.in-Some.object) c.in-Marking.is (c.if-not-is_there.ensures.0 refl) (c.in-Some.object, refl, subst (λ (w : World). StandsFirst c.args.roots.now (λ n. Has w n → ⊥) c.in-Some.object) c.heap.ensures c.in-Some.ensures)) }
