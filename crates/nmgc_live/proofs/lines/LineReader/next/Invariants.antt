use Rattle.std.proofs.Common.{◌≡◌, ◌≤◌, ◌++◌, List, ℕ}
use Rattle.std.specs.Io.KnownBytes.{Consumes}
use Rattle.nmgc_live.specs.Lines.{HasNoLineFeed, HoldsPart, IsReader, next_number, unread}
use Rattle.nmgc_live.proofs.lines.LineReader.next.Given as goal

-- the bytes read so far are a part of the line, and then the bytes in no line yet
abbrev pub invariant-loop-read : goal.invariant-loop-read
invariant-loop-read g l = record {
  reader : IsReader l.self;
  number : l.self.number ≡ next_number l.fn.self.number;
  line : (taken : List ℕ) × ((part : List ℕ) × Consumes (g.S.Source.left l.fn.source) (g.S.Source.left l.source) taken ×
      (unread l.fn.self ++ taken ≡ part ++ unread l.self) × HasNoLineFeed part × HoldsPart l.self.is_long l.self.line.items part);
  later : g.S.Source.faults l.fn.source ≤ g.S.Source.faults l.source;
}
