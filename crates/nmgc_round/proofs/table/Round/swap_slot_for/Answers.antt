use Rattle.nmgc_round.proofs.Lifts.{slot_allows}
use Rattle.nmgc_round.proofs.table.Round.swap_slot_for.Goals as goal

pub swap-requires : goal.swap-requires
swap-requires g c =
    let t = c.args.self.now.table.shared in
    let p = c.args.seat.now in (
      c.requires.seat.0,
      c.requires.within,
      rw c.requires.asked (slot_allows t.table_id.slots p.id p.me c.requires.seat.1 c.args.at.0 c.args.slot c.args.word c.args.command.now c.requires.ready),
    )
