use Rattle.nmgc_field_checker.proofs.{Vocabulary.cases_lt, Vocabulary.inl, Vocabulary.inr, Vocabulary.never, Vocabulary.refl, Vocabulary.serial_of, Vocabulary.◌-◌, Vocabulary.◌^◌, MissingLaws.new_if}
use Rattle.nmgc_field_checker.proofs.watch.reason_against_new.Goals as goal

pub returns-then-not-has_room : goal.returns-then-not-has_room
returns-then-not-has_room c = elim (cases_lt (serial_of c.args.heap.now 0) (2 ^ 32 - 1)) [ inl lt ↦ never (c.if-not-has_room.ensures.1 lt) | inr le ↦ le ]

pub returns : goal.returns
returns c = new_if c.args.heap.now c.args.taken c.args.fields.now c.first_missing.result c.in_default.ensures (c.if-not-has_room.ensures.0 refl) c.first_missing.ensures
