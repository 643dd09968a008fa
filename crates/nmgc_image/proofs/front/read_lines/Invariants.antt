use Rattle.nmgc_image.proofs.Vocabulary.{length, test_of, AreTaken}
use Rattle.nmgc_image.proofs.front.read_lines.Given as goal

-- the lines so far were taken
abbrev pub invariant-line : goal.invariant-line
invariant-line l = AreTaken (test_of l.known) l.initial.lines.rest.now l.reader l.lines.number l.lines.rest.now

abbrev pub decreases-line : goal.decreases-line
decreases-line l = length l.lines.rest.now
