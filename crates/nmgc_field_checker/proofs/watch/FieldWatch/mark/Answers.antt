use Rattle.nmgc_field_checker.proofs.{Vocabulary.Option, Vocabulary.World, Vocabulary.refl, Vocabulary.subst, WatchLaws.mark_unknown}
use Rattle.nmgc_field_checker.specs.{Watching.IsSnapshotIf}
use Rattle.nmgc_field_checker.proofs.watch.FieldWatch.mark.Goals as goal

pub returns-in-Some-first_unknown : goal.returns-in-Some-first_unknown
returns-in-Some-first_unknown c = record { step = (refl, mark_unknown c.args.self.now.phase c.in-Some.heap c.args.roots.now c.in-Some-first_unknown.object (subst (λ (o : Option World). IsSnapshotIf c.args.self.now.phase o) c.in-Some.is c.in_ok-heap.ensures) c.in-Some-first_unknown.ensures) }
