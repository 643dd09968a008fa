use Rattle.nmgc_segment.proofs.{Vocabulary.ℕ, Vocabulary.◌≡◌, Vocabulary.◌+◌, Vocabulary.◌≤◌, Vocabulary.eqb, Vocabulary.List, Vocabulary.length, Vocabulary.get_or, Vocabulary.arith, Vocabulary.eqb-true, Vocabulary.run_in_chunk_le, Vocabulary.run_in_chunk_stops, MarkLanes.others_more}
use Rattle.nmgc_segment.proofs.marks.first_of.Goals as goal

pub returns-then-run-lt-LANES : goal.returns-then-run-lt-LANES
returns-then-run-lt-LANES c =
    let marks : List ℕ = c.args.marks.now in
    let byte : ℕ = c.args.byte in
    let at : ℕ = c.loop-at.at in
    let run : ℕ = c.run_before-run.result in
    let inv = c.loop-at.invariant in
    let room : at + 16 ≤ length marks = omega (arith, c.loop-at-test.true, c.requires.to, inv.1) in
    record {
      from_on = omega (arith, inv.0);
      within = omega (arith, c.if-run-lt-LANES.true, c.loop-at-test.true, inv.1);
      before = others_more byte marks c.args.from at 16 run room c.run_before-run.ensures inv.2;
      found = λ _. eqb-true (get_or marks (at + run) 0) byte (run_in_chunk_stops (λ x.
          eqb x byte) marks at 16 run 0 room c.run_before-run.ensures c.if-run-lt-LANES.true);
    }

pub loop-at-preserved : goal.loop-at-preserved
loop-at-preserved c =
    let marks : List ℕ = c.args.marks.now in
    let byte : ℕ = c.args.byte in
    let at : ℕ = c.loop-at.at in
    let run : ℕ = c.run_before-run.result in
    let inv = c.loop-at.invariant in
    let room : at + 16 ≤ length marks = omega (arith, c.loop-at-test.true, c.requires.to, inv.1) in
    let few : run ≤ 16 = run_in_chunk_le (λ x. eqb x byte) marks at 16 run 0 room c.run_before-run.ensures in
    let all : run ≡ 16 = omega (arith, few, c.if-run-lt-LANES.false) in
    let others = others_more byte marks c.args.from at 16 run room c.run_before-run.ensures inv.2 in
    (omega (arith, inv.0), omega (arith, c.loop-at-test.true, inv.1), λ k above below. others k above (omega (arith, all, below)))
