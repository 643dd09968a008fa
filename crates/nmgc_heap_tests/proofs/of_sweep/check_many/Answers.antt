use Rattle.std.proofs.lemmas.Bool.{not-false}
use Rattle.nmgc_heap_tests.proofs.of_sweep.check_many.Goals as goal

-- the sweeper has finished
pub into_census-census-requires : goal.into_census-census-requires
into_census-census-requires g c = c.work-done.ensures.finished.0 (not-false c.work-done.result.finished c.if-not-done.false)
