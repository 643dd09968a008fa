use Rattle.std.proofs.Common.{refl, []}
use Rattle.std.specs.Prelude.{false, true}
use Rattle.nmgc_cycle.specs.Observed.{KeepsEvent}
use Rattle.nmgc_cycle.specs.laws.Events.{the_rest_completes_a_run}
use Rattle.nmgc_user_tests.proofs.Nones.{of_none}
use Rattle.nmgc_user_tests.proofs.of_parking.replaced.Goals as goal

pub into_report-requires-clause-kept : goal.into_report-requires-clause-kept
into_report-requires-clause-kept g c κs within =
    let kept = c.new-kept.result in
    let parked = of_none c.in-Ok-None.field-0 _ c.in-Ok-None.field-0-is c.in-Ok-None.ensures.parked in (
      kept,
      c.new-kept.ensures.0,
      c.new-kept.ensures.1,
      c.new-kept.ensures.2,
      the_rest_completes_a_run KeepsEvent kept _ _ _ _ false
          (the_rest_completes_a_run KeepsEvent kept kept _ _ _ true ([], refl, c.in-Ok.ensures.events) parked.2) c.in-Ok-run_to_end.ensures.ended.1,
    )
