use Rattle.nmgc_field_checker.proofs.{Vocabulary.World, Vocabulary.refl, WatchLaws.acts_here, WatchLaws.acts_why, WatchLaws.has_some, WatchLaws.heap_more}
use Rattle.nmgc_field_checker.specs.{Watching.CanBeNew, Watching.IsRoomFor, Watching.WhyNotMade}
use Rattle.nmgc_field_checker.proofs.watch.FieldWatch.make.Goals as goal

pub reason_against_made-requires : goal.reason_against_made-requires
reason_against_made-requires c = has_some c.args.self.now.phase c.in_default.ensures.0 c.in_default.ensures.1.heap

pub returns-in-Some-reason_against_made-clause-step : goal.returns-in-Some-reason_against_made-clause-step
returns-in-Some-reason_against_made-clause-step c = (refl, acts_why c.args.self.now c.args.actor (λ (w : World). WhyNotMade w c.args.taken c.args.fields.now) c.in-Some-reason_against_made.why c.in_default.ensures c.in-Some-reason_against_made.ensures)

pub make-requires : goal.make-requires
make-requires c = heap_more (λ (w : World). CanBeNew w c.args.taken c.args.fields.now) (λ (w : World). IsRoomFor w c.args.fields.now) c.args.self.now.phase (λ w k. k.room) c.in_default-reason_against_made.ensures

pub returns-clause-step : goal.returns-clause-step
returns-clause-step c =
    let r = acts_here c.args.self.now c.args.actor (λ (w : World). CanBeNew w c.args.taken c.args.fields.now) c.in_default.ensures c.in_default-reason_against_made.ensures in
    record { heap = r.0; acts = r.1; free = r.2.free; room = r.2.room.room; rest = refl; changes = c.in_ok-make.ensures.changes }
