use Rattle.std.proofs.Common.{ap, arith, length, drop, List, ℕ}
use Rattle.std.proofs.Math.ListN.{drop_of_length-le}
use Rattle.nmgc_io.specs.Text.{lines_of}
use Rattle.nmgc_live.proofs.HeadLines.{lines_on, lines_past, lines_within}
use Rattle.nmgc_live.proofs.head.count_lines.Goals.{then-byte-eq10, else-byte-eq10}
use Rattle.nmgc_live.proofs.head.count_lines.Goals as goal

pub loop-byte-preserved : goal.loop-byte-preserved
loop-byte-preserved c =
    let i = c.loop-byte.invariant in
    elim c.if-byte-eq10.branch [
      | then-byte-eq10 w ↦
          let on = lines_on c.args.text.now c.loop-byte.byte-index c.loop-byte-test.true w.if-byte-eq10.true in
          record {
            lines = omega (arith, i.lines, on, w.count-is);
            all = λ front ends. (let same = i.all front ends in omega (arith, same, on, w.count-is));
            few = omega (arith, i.few, w.count-is);
          }
      | else-byte-eq10 w ↦
          let past = lines_past c.args.text.now c.loop-byte.byte-index c.loop-byte-test.true w.if-byte-eq10.false in
          record {
            lines = omega (arith, i.lines, past, w.count-is);
            all = λ front ends. (
                let within = lines_within c.args.text.now front c.loop-byte.byte-index ends c.loop-byte-test.true w.if-byte-eq10.false in
                let same = i.all front ends in
                omega (arith, same, within, w.count-is));
            few = omega (arith, i.few, w.count-is);
          }
    ]

pub returns-clause-most : goal.returns-clause-most
returns-clause-most c =
    omega (arith, c.loop-byte.invariant.lines)

pub returns-clause-all : goal.returns-clause-all
returns-clause-all c front ends =
    let none = ap (λ (l : List ℕ). length (lines_of l)) (drop_of_length-le c.args.text.now c.loop-byte-test.false) in
    let same = c.loop-byte.invariant.all front ends in
    omega (arith, same, none)
