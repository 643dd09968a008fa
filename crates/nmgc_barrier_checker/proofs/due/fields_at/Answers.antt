use Rattle.nmgc_barrier_checker.proofs.Standing.{noted_sound, noted_all}
use Rattle.nmgc_barrier_checker.proofs.due.fields_at.Goals as goal

pub loop-place-preserved : goal.loop-place-preserved
loop-place-preserved c = rw c.in_ok-note.ensures (record {
  sound = noted_sound c.args.snapshot.now c.args.world.now c.args.name c.args.first c.loop-place.place c.loop-place.fields c.field_at.result
      c.loop-place.invariant.sound c.field_at.ensures.some;
  all = noted_all c.args.snapshot.now c.args.world.now c.args.name c.args.first c.loop-place.place c.loop-place.fields c.field_at.result
      c.loop-place.invariant.all c.field_at.ensures.all;
})
