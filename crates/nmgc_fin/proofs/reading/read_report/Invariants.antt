use Rattle.nmgc_fin.proofs.Vocabulary.{◌≡◌, ◌-◌, ◌+◌, ◌<◌, ◌≤◌, ℕ, List, length, Consumes, HasScanned, MAX_REPORT_BYTES}
use Rattle.nmgc_fin.proofs.reading.read_report.Given as goal

-- the bytes of all calls so far, which the scan has taken
abbrev pub invariant-loop-count : goal.invariant-loop-count
invariant-loop-count g l = record {
  room : 0 < length l.piece;
  within : l.taken ≤ MAX_REPORT_BYTES;
  seen : (bytes : List ℕ) × Consumes (g.S.Source.left l.fn.source) (g.S.Source.left l.source) bytes × (length bytes ≡ l.taken) × HasScanned l.scan bytes;
  later : g.S.Source.faults l.fn.source ≤ g.S.Source.faults l.source;
}

abbrev pub decreases-loop-count : goal.decreases-loop-count
decreases-loop-count g l = MAX_REPORT_BYTES + 1 - l.taken
