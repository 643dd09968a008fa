use Rattle.nmgc_mutator.proofs.{Vocabulary.sym, Vocabulary.subst, Vocabulary.◌*◌, Vocabulary.Given, Vocabulary.Ref, Vocabulary.seen, Vocabulary.Mutator, Vocabulary.with_register, Vocabulary.Does, Vocabulary.next_name, Vocabulary.dest_made, Births.can_bear, Births.does_born, Births.with_object, Births.unrecorded_made}
use Rattle.nmgc_mutator.proofs.mutator.Mutator.make_in_nursery.Goals as goal

pub give_birth-requires-clause-ready : goal.give_birth-requires-clause-ready
give_birth-requires-clause-ready c =
    can_bear c.args.round.now c.args.seat.now c.fill.new.seat c.args.self.now c.args.command.now c.args.header c.encode_header.result
    c.requires.ready c.fill.ensures c.requires.serial c.requires.fits c.requires.making c.requires.parts.1 c.requires.room c.encode_header.ensures

pub returns : goal.returns
returns c =
    let m = c.args.self.now in
    subst (λ (x : Mutator).
    Does c.args.round.now (seen c.args.seat.now) c.give_birth.new.seat m (with_object x c.args.header.fields) c.args.command.now
    (Given (Ref (next_name m)))) (sym c.set_register.ensures)
    (subst (λ d. Does c.args.round.now (seen c.args.seat.now) c.give_birth.new.seat m
    (with_object (with_register m d c.of_place.result.0) c.args.header.fields) c.args.command.now (Given (Ref (next_name m)))) (sym c.requires.parts.0)
    (subst (λ t. Does c.args.round.now (seen c.args.seat.now) c.give_birth.new.seat m
    (with_object (with_register m (dest_made c.args.command.now) t) c.args.header.fields) c.args.command.now (Given (Ref (next_name m))))
    (sym c.of_place.ensures)
    (does_born c.args.round.now c.args.seat.now c.fill.new.seat c.give_birth.new.seat m c.args.command.now c.args.header c.encode_header.result
    c.requires.ready c.fill.ensures c.requires.serial c.requires.fits c.requires.making c.requires.parts.1 c.requires.room c.give_birth.ensures
    (unrecorded_made m.layout m.registers c.args.command.now (2 * m.nursery.top) c.requires.making))))
