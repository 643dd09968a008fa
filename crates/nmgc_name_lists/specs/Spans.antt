-- Names in spans: names of one maker, one serial after the other.
use Rattle.std.specs.Prelude.{ℕ, zero, suc, ◌+◌, List, [], ◌∷◌}
use Rattle.std.specs.List.{flat_map}
use Rattle.nmgc_world_spec.specs.declared.value.Name.{Name}
use Rattle.nmgc_name_lists.specs.declared.span.Span.{Span}

-- a maker's name with this serial
abbrev pub named : ℕ → ℕ → Name
named maker serial = record { maker = maker; serial = serial }

-- `count` names of a maker, one serial after the other from `first` on
abbrev pub names_from : ℕ → ℕ → ℕ → List Name
names_from maker first zero = []
names_from maker first (suc count) = named maker first ∷ names_from maker (first + 1) count

-- the names of a span: its count of names of its maker, one serial after the other
abbrev pub names_of : Span → List Name
names_of span = names_from span.maker span.first span.count

-- names in spans: the names of each span, one span after the other
abbrev pub names_in : List Span → List Name
names_in spans = flat_map names_of spans
