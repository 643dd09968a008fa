use Rattle.std.proofs.Common.{List, map, take, ℕ, ◌≡◌}
use Rattle.nmgc_field_reader.specs.FieldLines.{known_by, without}
use Rattle.nmgc_field_reader.proofs.names.FieldNames.forget_all.Given as goal

abbrev pub invariant-loop-name : goal.invariant-loop-name
invariant-loop-name l = (word : List ℕ) → known_by l.self word ≡ without (map (λ w. w.now) (take l.name-index l.names)) (known_by l.fn.self) word
