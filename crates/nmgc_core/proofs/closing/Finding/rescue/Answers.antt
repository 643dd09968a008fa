use Rattle.nmgc_core.proofs.Rescuing.{rescue_search, last_answer}
use Rattle.nmgc_core.proofs.closing.Finding.rescue.Goals as goal

pub mark_finalisers-requires : goal.mark_finalisers-requires
mark_finalisers-requires c = rw c.snapshot.ensures c.requires.found.search.places

pub follow-requires : goal.follow-requires
follow-requires c = rescue_search c.args.core.now c.args.self.now c.requires.found c.args.dead.now c.requires.dying c.mark_finalisers.new.self
    (rw c.snapshot.ensures at c.in_ok-mark_finalisers.ensures)

pub returns : goal.returns
returns c = last_answer c.args.core.now c.args.self.now c.requires.found c.args.dead.now c.requires.dying c.mark_finalisers.new.self
    (rw c.snapshot.ensures at c.in_ok-mark_finalisers.ensures) c.follow.new.self c.follow.result c.follow.ensures.followed c.follow.ensures.empty
