use Rattle.nmgc_mutator.proofs.{Vocabulary.sym, Vocabulary.subst, Vocabulary.Fine, Vocabulary.seen, Vocabulary.Mutator, Vocabulary.Does, Readies.does_held}
use Rattle.nmgc_mutator.proofs.mutator.Mutator.set_register_in_order.Goals as goal

pub returns-clause-does : goal.returns-clause-does
returns-clause-does c =
    subst (λ (n : Mutator). Does c.args.round.now (seen c.args.seat.now) c.load_fixed.new.seat c.args.self.now n c.args.command.now Fine) (sym c.set_register.ensures)
    (does_held c.args.round.now c.args.seat.now c.load_fixed.new.seat c.args.self.now c.args.command.now c.load_fixed.result c.requires.ready
    c.requires.known.known c.load_fixed.ensures.view Fine c.requires.reply c.requires.unrecorded c.args.dest c.args.word c.requires.safe c.requires.left)
