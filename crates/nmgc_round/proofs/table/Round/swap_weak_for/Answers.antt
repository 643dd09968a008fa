use Rattle.nmgc_round.proofs.Lifts.{finalise_allows}
use Rattle.nmgc_round.proofs.table.Round.swap_weak_for.Goals as goal

pub swap-requires : goal.swap-requires
swap-requires g c =
    let t = c.args.self.now.table.shared in
    let p = c.args.seat.now in (
      c.requires.seat.0,
      c.requires.within,
      rw (
        c.requires.place,
        c.requires.asked,
      ) (finalise_allows t.table_id.slots p.id p.me c.requires.seat.1 c.args.at.0 c.args.command.now c.requires.ready),
    )

pub returns-clause-safe : goal.returns-clause-safe
returns-clause-safe g c = λ ne. rw c.requires.place at (c.swap.ensures.2.0.1 ne)
