use Rattle.nmgc_round.specs.Seat.{Knows, seen}
use Rattle.nmgc_mark.proofs.marker.Marker.look_ahead.Given as goal

abbrev pub invariant-loop-index : goal.invariant-loop-index
invariant-loop-index l = Knows l.round l.initial.seat l.seat (seen l.initial.seat)
