use Rattle.nmgc_round.proofs.Modes.{meet_birth_allows}
use Rattle.nmgc_round.proofs.table.Round.look_at_header.Goals as goal

pub load-requires : goal.load-requires
load-requires g c =
    let t = c.args.self.now.table.shared in
    let p = c.args.seat.now in (
      c.requires.seat.0,
      c.requires.within,
      rw (
        c.requires.hoped,
        c.requires.asked,
      ) (meet_birth_allows t.table_id.slots p.id p.me c.requires.seat.1 c.args.at.0 c.args.header c.args.command.now c.requires.ready),
    )
