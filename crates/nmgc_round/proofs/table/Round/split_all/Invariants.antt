use Rattle.std.proofs.Common.{◌≤◌, vec_capacity}
use Rattle.nmgc_round.proofs.Cuts.{IsCut}
use Rattle.nmgc_round.proofs.table.Round.split_all.Given as goal

abbrev pub invariant-loop-number : goal.invariant-loop-number
invariant-loop-number l = record { cut : IsCut l.self l.seat l.seats.items l._number; room : l.mutators ≤ vec_capacity l.seats }
