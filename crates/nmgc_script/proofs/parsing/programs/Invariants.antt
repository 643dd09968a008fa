use Rattle.nmgc_script.proofs.{Vocabulary.◌≡◌, Vocabulary.length, Vocabulary.lines_of, Vocabulary.kept_from, Vocabulary.rest_at, Vocabulary.programs_at, Entries.with_before}
use Rattle.nmgc_script.proofs.parsing.programs.Given as goal

-- the programs so far and the programs of the rest are all programs
abbrev pub invariant-loop-number : goal.invariant-loop-number
invariant-loop-number l =
    with_before l.threads l.program (rest_at l.version l.config l.begun (kept_from l.lines.number (lines_of l.lines.rest.now))) ≡
    programs_at l.version l.config (kept_from l.initial.lines.number (lines_of l.initial.lines.rest.now))

abbrev pub decreases-loop-number : goal.decreases-loop-number
decreases-loop-number l = length l.lines.rest.now
