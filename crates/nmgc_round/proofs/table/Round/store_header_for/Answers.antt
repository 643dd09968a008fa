use Rattle.nmgc_round.proofs.Modes.{birth_allows}
use Rattle.nmgc_round.proofs.table.Round.store_header_for.Goals as goal

pub store-requires : goal.store-requires
store-requires g c =
    let t = c.args.self.now.table.shared in
    let p = c.args.seat.now in (
      c.requires.seat.0,
      c.requires.within,
      rw c.requires.asked (birth_allows t.table_id.slots p.id p.me c.requires.seat.1 c.args.at.0 c.args.header c.args.command.now c.requires.ready),
    )
