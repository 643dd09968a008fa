use Rattle.nmgc_io.proofs.{Vocabulary.ℕ, Vocabulary.◌≢◌, Vocabulary.◌<◌, Vocabulary.◌≤◌, Vocabulary.◌+◌, Vocabulary.List, Vocabulary.length, Vocabulary.arith, Vocabulary.count_trailing_zeros, Vocabulary.All-from_get_or, Separators.cut_at, Separators.others_before, Marked.others_below, Marked.space_at_lowest, Marked.marks_of_rest}
use Rattle.nmgc_io.proofs.spaces.cut_marked.Goals as goal

pub returns-then-run-line-clause-none : goal.returns-then-run-line-clause-none
returns-then-run-line-clause-none c =
    let line : List ℕ = c.args.line.now in
    let most : length line ≤ count_trailing_zeros 64 c.args.marks = omega arith in
    All-from_get_or (λ b. b ≢ 32) line 0 (λ k inside.
    others_below c.args.marks line c.requires.marks c.ranges.marks.fits k (omega (arith, inside, most)) inside)

pub returns-clause-parts : goal.returns-clause-parts
returns-clause-parts c =
    let line : List ℕ = c.args.line.now in
    let run : ℕ = count_trailing_zeros 64 c.args.marks in
    let inside : run < length line = omega arith in
    cut_at line run 32 inside (space_at_lowest c.args.marks line c.requires.marks c.ranges.marks.fits c.requires.short inside)

pub returns-clause-first : goal.returns-clause-first
returns-clause-first c =
    let line : List ℕ = c.args.line.now in
    let run : ℕ = count_trailing_zeros 64 c.args.marks in
    let inside : run ≤ length line = omega arith in
    others_before line run 32 inside (λ k below.
    others_below c.args.marks line c.requires.marks c.ranges.marks.fits k below (omega (arith, below, inside)))

pub returns-clause-marks : goal.returns-clause-marks
returns-clause-marks c =
    let run : ℕ = count_trailing_zeros 64 c.args.marks in
    let within : run + 1 ≤ length c.args.line.now = omega arith in
    marks_of_rest c.args.marks c.args.line.now (run + 1) c.requires.marks within
