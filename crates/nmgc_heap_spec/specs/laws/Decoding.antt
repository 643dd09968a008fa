-- Words that have a meaning are words of fields.
use Rattle.nmgc_heap_spec.specs.{laws.Vocabulary.ℕ, laws.Vocabulary.◌+◌, laws.Vocabulary.◌*◌, laws.Vocabulary.refl, laws.Vocabulary.ap, laws.Vocabulary.arith, laws.Vocabulary.Name, laws.Vocabulary.Node, laws.Vocabulary.HEADER_WORDS, laws.Vocabulary.Place, laws.Vocabulary.MeaningIsField, laws.Vocabulary.FieldHasMeaning, laws.Changes.lies_within, laws.Meanings.above_zero}
use Rattle.nmgc_world_spec.specs.declared.value.Value.TheVariants as value
use Rattle.nmgc_object.specs.declared.words.Field.TheVariants as field

pub meaning_is_field : (K : Name → Node → Type 0) → MeaningIsField K
meaning_is_field K layout earlier places w words sized r word value.Nil small m = (field.Nil, tt, tt, m)
meaning_is_field K layout earlier places w words sized r word (value.Number n) small m = (field.Number n, small, refl, m)
meaning_is_field K layout earlier places w words sized r word (value.Ref n) small m =
    let p : Place = record { at = m.0; name = n } in
    let low = above_zero layout earlier K places w words r p m.2 in
    let high = lies_within layout p HEADER_WORDS (omega arith) (r.named p m.2).lies in
    let most = sized.heap in
    (field.Pointer (record { 0 = m.0 }), (low, omega (arith, high, most)), m.2, m.1)

pub field_has_meaning : FieldHasMeaning
field_has_meaning places field.Nil value.Nil h = refl
field_has_meaning places (field.Number m) (value.Number n) h = ap (λ (k : ℕ). 2 * k + 3) h
field_has_meaning places (field.Pointer to) (value.Ref name) h = (to.0, refl, h)
field_has_meaning places field.Unset value.Nil h = absurd h
field_has_meaning places field.Unset (value.Number n) h = absurd h
field_has_meaning places field.Unset (value.Ref name) h = absurd h
field_has_meaning places field.Nil (value.Number n) h = absurd h
field_has_meaning places field.Nil (value.Ref name) h = absurd h
field_has_meaning places (field.Number m) value.Nil h = absurd h
field_has_meaning places (field.Number m) (value.Ref name) h = absurd h
field_has_meaning places (field.Pointer to) value.Nil h = absurd h
field_has_meaning places (field.Pointer to) (value.Number n) h = absurd h
