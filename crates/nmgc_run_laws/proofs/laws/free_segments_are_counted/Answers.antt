use Rattle.std.proofs.Common.{◌∙◌, sym}
use Rattle.nmgc_run_spec.specs.Run.{last_state}
use Rattle.nmgc_run_laws.specs.laws.Frees.{last_free}
use Rattle.nmgc_segment.specs.declared.state.State.TheVariants as stands
use Rattle.nmgc_run_laws.proofs.laws.free_segments_are_counted.Goals as goal

pub returns : goal.returns
returns c = λ script report h. last_free script report h ∙
    sym (c.counts_are_equal.ensures report.segments report.words (last_state h.run).allocation stands.Free h.heap.stands)
