use Rattle.nmgc_mutator.proofs.Vocabulary.{◌≡◌, ◌<◌, length, subst, sym, Some, slice_get, Command, HasRegisters, fields_made}
use Rattle.nmgc_mutator.proofs.mutator.Mutator.any_field_word.Goals as goal

pub form_field_word-requires-clause-registers : goal.form_field_word-requires-clause-registers
form_field_word-requires-clause-registers c = subst HasRegisters c.form.ensures c.requires.registers

pub form_field_word-requires-clause-index : goal.form_field_word-requires-clause-index
form_field_word-requires-clause-index c =
    subst (λ (k : Command). c.args.index < length (fields_made c.args.self.now.registers k)) c.form.ensures c.requires.index

pub returns : goal.returns
returns c =
    subst (λ (k : Command). slice_get (fields_made c.args.self.now.registers k) c.args.index ≡ Some c.form_field_word.result) (sym c.form.ensures)
    c.form_field_word.ensures
