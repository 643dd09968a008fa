use Rattle.nmgc_io.proofs.{Vocabulary.ℕ, Vocabulary.◌≡◌, Vocabulary.◌+◌, Vocabulary.◌≤◌, Vocabulary.eqb, Vocabulary.List, Vocabulary.length, Vocabulary.get_or, Vocabulary.arith, Vocabulary.eqb-true, Vocabulary.run_in_chunk_le, Vocabulary.run_in_chunk_stops, Separators.others_more}
use Rattle.nmgc_io.proofs.cutting.position_of.Goals as goal

pub returns-then-run-lt-LANES : goal.returns-then-run-lt-LANES
returns-then-run-lt-LANES c =
    let bytes : List ℕ = c.args.bytes.now in
    let byte : ℕ = c.args.byte in
    let at : ℕ = c.loop-at.at in
    let run : ℕ = c.run_before-run.result in
    let inv = c.loop-at.invariant in
    let room : at + 16 ≤ length bytes = omega (arith, c.loop-at-test.true, inv.0) in
    record {
      within = omega (arith, c.if-run-lt-LANES.true, room);
      before = others_more byte bytes at 16 run room c.run_before-run.ensures inv.1;
      found = λ _. eqb-true (get_or bytes (at + run) 0) byte (run_in_chunk_stops (λ x.
          eqb x byte) bytes at 16 run 0 room c.run_before-run.ensures c.if-run-lt-LANES.true);
    }

pub loop-at-preserved : goal.loop-at-preserved
loop-at-preserved c =
    let bytes : List ℕ = c.args.bytes.now in
    let byte : ℕ = c.args.byte in
    let at : ℕ = c.loop-at.at in
    let run : ℕ = c.run_before-run.result in
    let inv = c.loop-at.invariant in
    let room : at + 16 ≤ length bytes = omega (arith, c.loop-at-test.true, inv.0) in
    let few : run ≤ 16 = run_in_chunk_le (λ x. eqb x byte) bytes at 16 run 0 room c.run_before-run.ensures in
    let all : run ≡ 16 = omega (arith, few, c.if-run-lt-LANES.false) in
    let others = others_more byte bytes at 16 run room c.run_before-run.ensures inv.1 in
    (omega (arith, room), λ k below. others k (omega (arith, all, below)))
