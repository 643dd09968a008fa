use Rattle.nmgc_field_checker.proofs.{Vocabulary.AreBroken, Vocabulary.AreKnown, Vocabulary.AreStored, Vocabulary.HasCount, Vocabulary.IsWritten, Vocabulary.List, Vocabulary.World, Vocabulary.length, Vocabulary.named, Vocabulary.subst, Vocabulary.sym, Vocabulary.values_in, Vocabulary.ℕ, Vocabulary.◌+◌, Vocabulary.◌≤◌, ChangeLaws.change_is, ChangeLaws.noted_world, ChangeLaws.old_broken, ChangeLaws.old_handed, ChangeLaws.old_stored}
use Rattle.nmgc_field_checker.proofs.cycle.FieldCycle.write.Goals as goal

pub note-requires-clause-broken : goal.note-requires-clause-broken
note-requires-clause-broken c = old_broken c.args.self.now.cycle c.args.object c.args.place c.args.fields.now c.items-lost.result.now (subst (λ (l : List ℕ). AreBroken c.args.self.now.cycle.snapshot c.args.self.now.cycle.world c.args.object c.args.place c.args.fields.now l) (sym c.items-lost.ensures) c.in_ok-broken.ensures)

pub note-requires-clause-handed : goal.note-requires-clause-handed
note-requires-clause-handed c = old_handed c.args.self.now.cycle c.args.number c.items-objects.result.now c.handed_of-handed.result.now c.handed_of-handed.ensures (old_stored c.args.self.now.cycle c.args.object c.args.place c.args.fields.now c.items-objects.result.now (subst (λ (l : List ℕ). AreStored c.args.self.now.cycle.snapshot c.args.self.now.cycle.world c.args.object c.args.place c.args.fields.now l) (sym c.items-objects.ensures) c.in_ok-stored.ensures))

pub note-requires-clause-stored : goal.note-requires-clause-stored
note-requires-clause-stored c = old_stored c.args.self.now.cycle c.args.object c.args.place c.args.fields.now c.items-objects.result.now (subst (λ (l : List ℕ). AreStored c.args.self.now.cycle.snapshot c.args.self.now.cycle.world c.args.object c.args.place c.args.fields.now l) (sym c.items-objects.ensures) c.in_ok-stored.ensures)

pub write_fields-requires-clause-fits : goal.write_fields-requires-clause-fits
write_fields-requires-clause-fits c = subst (λ (w : World). (count : ℕ) × HasCount w c.args.object count × (c.args.place + length c.args.fields.now ≤ count)) (sym (noted_world c.args.line c.args.number c.items-lost.result.now c.handed_of-handed.result.now c.items-objects.result.now c.args.self.now c.note.new.self c.in_ok-note.ensures.noted)) c.requires.fits

pub write_fields-requires-clause-known : goal.write_fields-requires-clause-known
write_fields-requires-clause-known c = subst (λ (w : World). AreKnown w (values_in c.args.fields.now)) (sym (noted_world c.args.line c.args.number c.items-lost.result.now c.handed_of-handed.result.now c.items-objects.result.now c.args.self.now c.note.new.self c.in_ok-note.ensures.noted)) c.requires.known

pub returns-clause-change : goal.returns-clause-change
returns-clause-change c = change_is c.args.line c.args.number c.args.object c.args.place c.args.fields.now c.items-lost.result.now c.handed_of-handed.result.now c.items-objects.result.now c.args.self.now c.note.new.self c.write_fields.new.self (subst (λ (l : List ℕ). AreBroken c.args.self.now.cycle.snapshot c.args.self.now.cycle.world c.args.object c.args.place c.args.fields.now l) (sym c.items-lost.ensures) c.in_ok-broken.ensures) (subst (λ (l : List ℕ). AreStored c.args.self.now.cycle.snapshot c.args.self.now.cycle.world c.args.object c.args.place c.args.fields.now l) (sym c.items-objects.ensures) c.in_ok-stored.ensures) c.handed_of-handed.ensures c.in_ok-note.ensures.noted c.write_fields.ensures.rest (λ (w after : World). IsWritten w (named c.args.object) c.args.place (values_in c.args.fields.now) after) c.write_fields.ensures.written c.write_fields.ensures.stores
