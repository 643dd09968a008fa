use Rattle.std.proofs.Common.{◌∙◌, ap}
use Rattle.nmgc_mutator.proofs.{Vocabulary.ℕ, Vocabulary.sym, Vocabulary.subst, Vocabulary.Given, Vocabulary.seen, Vocabulary.Mutator, Vocabulary.with_register, Vocabulary.Does, Readies.does_number}
use Rattle.nmgc_world_spec.specs.declared.value.Value.TheVariants as value
use Rattle.nmgc_mutator.proofs.mutator.Mutator.give_number_in_order.Goals as goal

pub returns-clause-does : goal.returns-clause-does
returns-clause-does c =
    subst (λ (n : Mutator).
    Does c.args.round.now (seen c.args.seat.now) c.load_fixed.new.seat c.args.self.now n c.args.command.now (Given (value.Number c.args.number))) (sym (c.set_register.ensures ∙
    ap (λ (x : ℕ). with_register c.args.self.now c.args.dest x) c.of_number.ensures))
    (does_number c.args.round.now c.args.seat.now c.load_fixed.new.seat c.args.self.now c.args.command.now c.load_fixed.result c.requires.ready
    c.requires.known.known c.load_fixed.ensures.view c.args.dest c.args.number c.requires.reply c.requires.left c.requires.unrecorded)
