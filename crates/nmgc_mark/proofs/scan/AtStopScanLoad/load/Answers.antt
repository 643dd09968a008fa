use Rattle.std.proofs.Common.{arith}
use Rattle.nmgc_mark.proofs.Alone.{alone_total, scan_alone}
use Rattle.nmgc_mark.proofs.scan.AtStopScanLoad.load.Goals as goal

pub load-requires : goal.load-requires
load-requires g c =
    let r = c.requires in
    let total = (alone_total r.1.opening (g.W.HeapWords.words c.args.source.now) r.1 r.2.1).0 in
    let within = r.4 in
    omega (arith, total, within)

pub returns : goal.returns
returns g c = λ first v shows can.
    scan_alone c.scans_keep_the_rule.ensures (g.W.HeapWords.words first) (g.W.HeapWords.words c.args.source.now) (g.W.HeapWords.words c.load.new.self) v
    c.args.at.0 c.args.offset c.load.result shows can c.load.ensures.same c.load.ensures.word
