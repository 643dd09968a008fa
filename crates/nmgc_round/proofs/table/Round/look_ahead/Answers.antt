use Rattle.std.proofs.Common.{arith}
use Rattle.nmgc_round.proofs.Modes.{look_allows}
use Rattle.nmgc_round.proofs.table.Round.look_ahead.Goals as goal

pub load-requires : goal.load-requires
load-requires c =
    let t = c.args.self.now.table.shared in
    let p = c.args.seat.now in
    (c.requires.0, omega (arith, c.word_count.ensures), look_allows t.table_id.slots p.id p.me c.requires.1 c.args.at.0)
