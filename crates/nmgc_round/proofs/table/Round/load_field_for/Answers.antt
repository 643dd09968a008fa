use Rattle.nmgc_round.proofs.Modes.{load_allows}
use Rattle.nmgc_round.proofs.table.Round.load_field_for.Goals as goal

pub load-requires : goal.load-requires
load-requires g c =
    let t = c.args.self.now.table.shared in
    let p = c.args.seat.now in (
      c.requires.seat.0,
      c.requires.within,
      rw c.requires.asked (load_allows t.table_id.slots p.id p.me c.requires.seat.1 c.args.at.0 c.args.field c.args.command.now c.requires.ready),
    )
