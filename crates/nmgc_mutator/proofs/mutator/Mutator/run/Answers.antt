use Rattle.nmgc_mutator.proofs.Vocabulary.{◌+◌, ◌≤◌, subst, Command, Fits, words_made, HasStepRoom}
use Rattle.nmgc_mutator.proofs.mutator.Mutator.run.Goals as goal

pub run_form-requires-clause-form_fits : goal.run_form-requires-clause-form_fits
run_form-requires-clause-form_fits c = subst (Fits c.args.self.now.layout.words) c.form.ensures c.requires.fits

pub run_form-requires-clause-nursery : goal.run_form-requires-clause-nursery
run_form-requires-clause-nursery c =
    subst (λ (k : Command). c.args.self.now.nursery.top + words_made k ≤ c.args.self.now.nursery.end) c.form.ensures c.requires.nursery

pub run_form-requires-clause-room : goal.run_form-requires-clause-room
run_form-requires-clause-room c = subst (HasStepRoom c.args.self.now) c.form.ensures c.requires.room
