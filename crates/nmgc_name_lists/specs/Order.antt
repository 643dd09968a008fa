-- Names and spans in order: by maker, and then by serial.
use Rattle.std.specs.Prelude.{Bool, ◌==◌, ◌||◌, ◌&&◌, nat_lt, List, [], ◌∷◌, if◌then◌else◌, ℕ, ◌≡◌, ◌+◌, ◌<◌, ◌^◌}
use Rattle.nmgc_world_spec.specs.declared.value.Name.{Name}
use Rattle.std.specs.{List.Sorted.IsSortedByKey, Ordering.ordering_then, Ordering.nat_cmp}
use Rattle.nmgc_name_lists.specs.declared.span.Span.{Span}

-- whether a name is before another: by maker, then by serial
abbrev pub is_before : Name → Name → Bool
is_before a b = nat_lt a.maker b.maker || ((a.maker == b.maker) && nat_lt a.serial b.serial)

-- a list with a name inserted: behind the leading names of the list that are before this name in order
abbrev pub put : Name → List Name → List Name
put name [] = name ∷ []
put name (other ∷ names) = if is_before other name then other ∷ put name names else name ∷ other ∷ names

-- the names of a list, sorted by maker, then by serial
abbrev pub in_order : List Name → List Name
in_order [] = []
in_order (name ∷ names) = put name (in_order names)

-- a name with which a span can go on: the same maker, the next serial, and a count that still fits
abbrev pub IsNext : Span → Name → Type 0
IsNext span name = (name.maker ≡ span.maker) × (name.serial ≡ span.first + span.count) × (span.count + 1 < 2 ^ 16)

-- the sort key of a span: its maker and first serial
abbrev pub key_of : Span → ℕ × ℕ
key_of span = (span.maker, span.first)

-- sorted spans: no span's first name is before the first name of the span that it follows
abbrev pub AreSorted : List Span → Type 0
AreSorted spans = IsSortedByKey {X = Span} {K = ℕ × ℕ} key_of (λ a b. ordering_then (nat_cmp a.0 b.0) (nat_cmp a.1 b.1)) spans
