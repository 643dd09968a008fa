use Rattle.nmgc_mark.proofs.{Vocabulary.ap, Vocabulary.arith, Vocabulary.subst, Vocabulary.sym, Vocabulary.word_total, Vocabulary.CanScan, Vocabulary.FindsScan, Vocabulary.Seen, Fields.seat_scanned, Fields.words_in}
use Rattle.nmgc_mark.proofs.scan.RoundScanLoadCollectorSeat.load.Goals as goal

pub scan_load-requires-clause-seat : goal.scan_load-requires-clause-seat
scan_load-requires-clause-seat c = c.requires.2.0.0

pub scan_load-requires-clause-ready : goal.scan_load-requires-clause-ready
scan_load-requires-clause-ready c = let r = c.requires in subst (λ (v : Seen). CanScan v c.args.at.0 c.args.offset) (sym r.2.2) r.3

pub scan_load-requires-clause-within : goal.scan_load-requires-clause-within
scan_load-requires-clause-within c =
    let r = c.requires in
    let total = words_in c.args.self.now c.args.source.now r.2.0.0 in
    let same = ap (λ (v : Seen). word_total v.opening.layout) r.2.2 in
    let within = r.4 in
    omega (arith, total, same, within)

pub returns : goal.returns
returns c = λ first v shows can. (
  seat_scanned c.args.self.now first c.args.source.now c.scan_load.new.seat v c.scan_load.result shows c.scan_load.ensures.view,
  subst (λ (u : Seen). FindsScan u c.scan_load.result) shows.2 c.scan_load.ensures.known,
)
