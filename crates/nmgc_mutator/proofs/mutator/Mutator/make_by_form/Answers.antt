use Rattle.nmgc_mutator.proofs.Vocabulary.{◌≡◌, ◌+◌, ◌≤◌, subst, sym, Command, IsMaking, words_made, header_made, dest_made, HasStepRoom}
use Rattle.nmgc_mutator.proofs.mutator.Mutator.make_by_form.Goals as goal

pub make-requires-clause-making : goal.make-requires-clause-making
make-requires-clause-making c = subst IsMaking (sym c.requires.same) c.requires.making

pub make-requires-clause-parts : goal.make-requires-clause-parts
make-requires-clause-parts c =
    subst (λ (k : Command). (c.args.dest ≡ dest_made k) × (c.args.header ≡ header_made k)) (sym c.requires.same) c.requires.parts

pub make-requires-clause-nursery : goal.make-requires-clause-nursery
make-requires-clause-nursery c =
    subst (λ (k : Command). c.args.self.now.nursery.top + words_made k ≤ c.args.self.now.nursery.end) (sym c.requires.same) c.requires.nursery

pub make-requires-clause-room : goal.make-requires-clause-room
make-requires-clause-room c = subst (HasStepRoom c.args.self.now) (sym c.requires.same) c.requires.room
