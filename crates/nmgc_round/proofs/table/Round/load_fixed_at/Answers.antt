use Rattle.nmgc_round.proofs.Modes.{fix_allows}
use Rattle.nmgc_round.proofs.table.Round.load_fixed_at.Goals as goal

pub load-requires : goal.load-requires
load-requires g c =
    let t = c.args.self.now.table.shared in
    let p = c.args.seat.now in
    let place = c.requires.place in (
      c.requires.seat.0,
      c.requires.within,
      rw (place.0, place.1) (fix_allows t.table_id.slots p.id p.me c.requires.seat.1 c.args.at.0 c.args.offset c.requires.ready),
    )
