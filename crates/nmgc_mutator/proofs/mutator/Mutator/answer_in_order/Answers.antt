use Rattle.nmgc_mutator.proofs.Readies.{does_known}
use Rattle.nmgc_mutator.proofs.mutator.Mutator.answer_in_order.Goals as goal

pub returns-clause-does : goal.returns-clause-does
returns-clause-does c =
    does_known c.args.round.now c.args.seat.now c.load_fixed.new.seat c.args.self.now c.args.command.now c.load_fixed.result c.requires.ready
    c.requires.known.known c.load_fixed.ensures.view c.args.reply c.requires.reply c.requires.unrecorded c.requires.left
