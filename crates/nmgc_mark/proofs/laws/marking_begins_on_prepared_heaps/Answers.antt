use Rattle.nmgc_mark.proofs.Begins.{begins_then}
use Rattle.nmgc_mark.proofs.laws.marking_begins_on_prepared_heaps.Goals as goal

pub returns : goal.returns
returns c = λ o s epoch words registers queues h. begins_then o s epoch words registers queues h
