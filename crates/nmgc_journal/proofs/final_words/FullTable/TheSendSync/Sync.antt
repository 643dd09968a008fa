use Prim.Native.Nat.{◌+◌}
use denote.Param.Send.{IsSync}
use Rattle.nmgc_journal.proofs.Crossing.{closed_sync}
use Rattle.nmgc_journal.specs.contracts.final_words.FullTable.{the_row}

pub sync : IsSync the_row
sync = record { shared = λ d b o κ x. ((((closed_sync.shared x.0.closed b (o + 0) κ, tt), λ q. tt), tt), tt) }
