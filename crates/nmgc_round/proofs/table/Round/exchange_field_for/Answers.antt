use Rattle.nmgc_round.proofs.Lifts.{exchange_allows}
use Rattle.nmgc_round.proofs.table.Round.exchange_field_for.Goals as goal

pub compare_exchange-found-requires : goal.compare_exchange-found-requires
compare_exchange-found-requires g c =
    let t = c.args.self.now.table.shared in
    let p = c.args.seat.now in (
      c.requires.seat.0,
      c.requires.within,
      rw c.requires.asked (exchange_allows t.table_id.slots p.id p.me c.requires.seat.1 c.args.at.0 c.args.field c.args.expected c.args.word
          c.args.command.now c.requires.ready),
    )
