use Rattle.nmgc_round.proofs.{Vocabulary.ℕ, Vocabulary.subst, Vocabulary.Mutates, Vocabulary.FindsSlot, Vocabulary.seen, Lifts.peek_allows}
use Rattle.nmgc_round.proofs.table.Round.load_slot_at.Goals as goal

pub load-requires : goal.load-requires
load-requires g c =
    let t = c.args.self.now.table.shared in
    let p = c.args.seat.now in
    let place = c.requires.place in (
      c.requires.seat.0,
      c.requires.within,
      rw (place.0, place.1) (peek_allows t.table_id.slots p.id p.me c.requires.seat.1 c.args.at.0 c.args.slot c.requires.ready),
    )

pub returns-clause-shows : goal.returns-clause-shows
returns-clause-shows g c =
    let place = c.requires.place in
    subst (λ (y : ℕ × ℕ). Mutates (λ o p. FindsSlot o p y.0 y.1 c.load.result) (seen c.args.seat.now)) (λ i. (place.0 i, place.1 i)) c.load.ensures.2.0.1
