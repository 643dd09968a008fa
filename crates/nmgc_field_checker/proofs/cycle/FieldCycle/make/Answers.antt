use Rattle.nmgc_field_checker.proofs.{Vocabulary.AreKnown, Vocabulary.AreStored, Vocabulary.List, Vocabulary.World, Vocabulary.[], Vocabulary.serial_of, Vocabulary.subst, Vocabulary.sym, Vocabulary.values_in, Vocabulary.ℕ, Vocabulary.◌-◌, Vocabulary.◌<◌, Vocabulary.◌^◌, ChangeLaws.make_counts, ChangeLaws.make_is, ChangeLaws.noted_world, ChangeLaws.old_handed, ChangeLaws.old_none, ChangeLaws.old_stored}
use Rattle.nmgc_field_checker.proofs.cycle.FieldCycle.make.Goals as goal

pub note-requires-clause-broken : goal.note-requires-clause-broken
note-requires-clause-broken c = old_none c.args.self.now.cycle

pub note-requires-clause-handed : goal.note-requires-clause-handed
note-requires-clause-handed c = old_handed c.args.self.now.cycle c.args.number c.items-objects.result.now c.handed_of-handed.result.now c.handed_of-handed.ensures (old_stored c.args.self.now.cycle c.count-object.result 0 c.args.fields.now c.items-objects.result.now (subst (λ (l : List ℕ). AreStored c.args.self.now.cycle.snapshot c.args.self.now.cycle.world c.count-object.result 0 c.args.fields.now l) (sym c.items-objects.ensures) c.in_ok-stored.ensures))

pub note-requires-clause-stored : goal.note-requires-clause-stored
note-requires-clause-stored c = old_stored c.args.self.now.cycle c.count-object.result 0 c.args.fields.now c.items-objects.result.now (subst (λ (l : List ℕ). AreStored c.args.self.now.cycle.snapshot c.args.self.now.cycle.world c.count-object.result 0 c.args.fields.now l) (sym c.items-objects.ensures) c.in_ok-stored.ensures)

pub make_object-requires-clause-room : goal.make_object-requires-clause-room
make_object-requires-clause-room c = subst (λ (w : World). serial_of w 0 < 2 ^ 32 - 1) (sym (noted_world c.args.line c.args.number [] c.handed_of-handed.result.now c.items-objects.result.now c.args.self.now c.note.new.self c.in_ok-note.ensures.noted)) c.requires.room

pub make_object-requires-clause-known : goal.make_object-requires-clause-known
make_object-requires-clause-known c = subst (λ (w : World). AreKnown w (values_in c.args.fields.now)) (sym (noted_world c.args.line c.args.number [] c.handed_of-handed.result.now c.items-objects.result.now c.args.self.now c.note.new.self c.in_ok-note.ensures.noted)) c.requires.known

pub returns-clause-change : goal.returns-clause-change
returns-clause-change c = make_is c.args.line c.args.number c.args.count c.count-object.result c.args.fields.now c.handed_of-handed.result.now c.items-objects.result.now c.args.self.now c.count-object.ensures (subst (λ (l : List ℕ). AreStored c.args.self.now.cycle.snapshot c.args.self.now.cycle.world c.count-object.result 0 c.args.fields.now l) (sym c.items-objects.ensures) c.in_ok-stored.ensures) c.handed_of-handed.ensures c.note.new.self c.make_object.new.self c.in_ok-note.ensures.noted c.make_object.ensures.rest c.in_ok-make_object.ensures.made c.in_ok-make_object.ensures.stores

pub returns-clause-dues : goal.returns-clause-dues
returns-clause-dues c = make_counts c.args.line c.args.number c.args.count c.count-object.result c.args.fields.now c.handed_of-handed.result.now c.items-objects.result.now c.args.self.now c.count-object.ensures (subst (λ (l : List ℕ). AreStored c.args.self.now.cycle.snapshot c.args.self.now.cycle.world c.count-object.result 0 c.args.fields.now l) (sym c.items-objects.ensures) c.in_ok-stored.ensures) c.handed_of-handed.ensures c.args.dues.now c.note.new.dues c.in_ok-note.ensures.dues
