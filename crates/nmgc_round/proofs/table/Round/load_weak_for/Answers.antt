use Rattle.nmgc_round.proofs.Lifts.{deref_allows}
use Rattle.nmgc_round.proofs.table.Round.load_weak_for.Goals as goal

pub load-requires : goal.load-requires
load-requires g c =
    let t = c.args.self.now.table.shared in
    let p = c.args.seat.now in (
      c.requires.seat.0,
      c.requires.within,
      rw c.requires.asked (deref_allows t.table_id.slots p.id p.me c.requires.seat.1 c.args.at.0 c.args.command.now c.requires.ready),
    )
