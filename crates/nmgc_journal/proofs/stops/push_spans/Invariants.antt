use Rattle.nmgc_journal.proofs.Vocabulary.{◌≡◌, ◌++◌, drop, flat_map, span_lines}
use Rattle.nmgc_journal.proofs.stops.push_spans.Given as goal

-- the lines so far with the lines of the spans left are all lines
abbrev pub invariant-loop-span : goal.invariant-loop-span
invariant-loop-span l = l.out.items ++ flat_map (span_lines l.word) (drop l.span-index l.spans) ≡ l.fn.out.items ++ flat_map (span_lines l.word) l.spans
