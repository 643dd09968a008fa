use Rattle.nmgc_mutator.proofs.Vocabulary.{◌≡◌, ℕ, subst, sym, Some, slice_get, Command, Operand, HasRegisters, IsOperand, word_of, fields_made}
use Rattle.nmgc_mutator.proofs.mutator.Mutator.field_operands.Goals as goal

pub returns : goal.returns
returns c =
    let registers = c.args.self.now.registers in
    subst (λ (k : Command). (i : ℕ) (o : Operand) → slice_get c.field_operands_in.result.now i ≡ Some o →
    (slice_get (fields_made registers k) i ≡ Some (word_of registers o)) × (HasRegisters k → IsOperand o)) (sym c.form.ensures)
    c.field_operands_in.ensures
