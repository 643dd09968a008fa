use Rattle.std.proofs.Common.{◌≡◌, drop, map}
use Rattle.nmgc_field_reader.specs.{FieldLines.known_by, FieldReading.each_at, FieldReading.value_named}
use Rattle.nmgc_field_reader.proofs.Each.{with_front}
use Rattle.nmgc_field_reader.proofs.tokens.fields_of.Given as goal

-- the values so far and the values of the rest are all values
abbrev pub invariant-loop-word : goal.invariant-loop-word
invariant-loop-word l = with_front l.fields (each_at (value_named (known_by l.names)) (map (λ w. w.now) (drop l.word-index l.words))) ≡
    each_at (value_named (known_by l.names)) (map (λ w. w.now) l.words)
