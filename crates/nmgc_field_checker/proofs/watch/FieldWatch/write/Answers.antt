use Rattle.nmgc_field_checker.proofs.{Vocabulary.World, Vocabulary.refl, WatchLaws.acts_why, WatchLaws.has_some}
use Rattle.nmgc_field_checker.specs.{Watching.WhyNotWritten}
use Rattle.nmgc_field_checker.proofs.watch.FieldWatch.write.Goals as goal

pub reason_against_written-requires : goal.reason_against_written-requires
reason_against_written-requires c = has_some c.args.self.now.phase c.in_default.ensures.0 c.in_default.ensures.1.heap

pub returns-in-Some-reason_against_written-clause-step : goal.returns-in-Some-reason_against_written-clause-step
returns-in-Some-reason_against_written-clause-step c = (refl, acts_why c.args.self.now c.args.actor (λ (w : World). WhyNotWritten w c.args.object c.args.place c.args.fields.now) c.in-Some-reason_against_written.why c.in_default.ensures c.in-Some-reason_against_written.ensures)

pub returns-clause-step : goal.returns-clause-step
returns-clause-step c = record { actor = c.in_default.ensures.1.there; rest = refl; changes = c.in_ok-write.ensures.changes }
