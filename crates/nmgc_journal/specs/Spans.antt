-- The lines of names that are kept as spans, in this project's own code.
use Rattle.std.specs.{Prelude.ℕ, Prelude.List, List.flat_map}
use Rattle.nmgc_name_lists.specs.{declared.span.Span.Span, Spans.names_of}
use Rattle.nmgc_journal.specs.Text.{name_line}

-- the lines of the names of a span: a token and a name each
abbrev pub span_lines : List ℕ → Span → List ℕ
span_lines word span = flat_map (name_line word) (names_of span)
