use Rattle.nmgc_script.proofs.Vocabulary.{◌≡◌, ◌+◌, ◌≤◌, length, lines_of, kept_from}
use Rattle.nmgc_script.proofs.text.Lines.next.Given as goal

-- the lines passed over so far have been counted
abbrev pub invariant-loop-line : goal.invariant-loop-line
invariant-loop-line l = record {
  kept : kept_from l.self.number (lines_of l.self.rest.now) ≡ kept_from l.initial.self.number (lines_of l.initial.self.rest.now);
  end : l.self.number + length (lines_of l.self.rest.now) ≡ l.initial.self.number + length (lines_of l.initial.self.rest.now);
  less : length l.self.rest.now ≤ length l.initial.self.rest.now;
}

abbrev pub decreases-loop-line : goal.decreases-loop-line
decreases-loop-line l = length l.self.rest.now
