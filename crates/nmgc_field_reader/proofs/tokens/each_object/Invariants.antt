use Rattle.std.proofs.Common.{◌≡◌, drop, map}
use Rattle.nmgc_field_reader.specs.{FieldLines.known_by, FieldReading.each_at, FieldReading.object_named}
use Rattle.nmgc_field_reader.proofs.Each.{with_front}
use Rattle.nmgc_field_reader.proofs.tokens.each_object.Given as goal

-- the objects so far and the objects of the rest are all objects
abbrev pub invariant-loop-word : goal.invariant-loop-word
invariant-loop-word l = with_front l.objects (each_at (object_named (known_by l.names)) (map (λ w. w.now) (drop l.word-index l.words))) ≡
    each_at (object_named (known_by l.names)) (map (λ w. w.now) l.words)
