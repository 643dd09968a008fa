use Rattle.nmgc_io.proofs.{Vocabulary.ℕ, Vocabulary.◌≢◌, Vocabulary.◌+◌, Vocabulary.◌<◌, Vocabulary.◌≤◌, Vocabulary.List, Vocabulary.length, Vocabulary.arith, Vocabulary.All-from_get_or, Separators.cut_at, Separators.others_before, Separators.part_others, Separators.part_found}
use Rattle.nmgc_io.proofs.cutting.cut_within.Goals as goal

pub returns-then-run-part-clause-none : goal.returns-then-run-part-clause-none
returns-then-run-part-clause-none c =
    let whole : List ℕ = c.args.whole.now in
    let part : List ℕ = c.args.part.now in
    let run : ℕ = c.run_before-run.result in
    let room : c.args.from + 16 ≤ length whole = omega arith in
    let most : length part ≤ run = omega arith in
    All-from_get_or (λ b. b ≢ c.args.byte) part 0 (λ k inside.
    part_others c.args.byte whole part c.args.from 16 run room c.run_before-run.ensures c.requires.part k (omega (arith, inside, most)) inside)

pub returns-clause-parts : goal.returns-clause-parts
returns-clause-parts c =
    let whole : List ℕ = c.args.whole.now in
    let part : List ℕ = c.args.part.now in
    let run : ℕ = c.run_before-run.result in
    let room : c.args.from + 16 ≤ length whole = omega arith in
    let inside : run < length part = omega arith in
    let stops : run < 16 = omega arith in
    cut_at part run c.args.byte inside (part_found c.args.byte whole part c.args.from 16 run room c.run_before-run.ensures c.requires.part stops inside)

pub returns-clause-first : goal.returns-clause-first
returns-clause-first c =
    let whole : List ℕ = c.args.whole.now in
    let part : List ℕ = c.args.part.now in
    let run : ℕ = c.run_before-run.result in
    let room : c.args.from + 16 ≤ length whole = omega arith in
    let inside : run ≤ length part = omega arith in
    others_before part run c.args.byte inside (λ k below.
    part_others c.args.byte whole part c.args.from 16 run room c.run_before-run.ensures c.requires.part k below (omega (arith, below)))
