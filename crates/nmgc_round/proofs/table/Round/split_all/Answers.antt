use Rattle.nmgc_round.proofs.{Vocabulary.arith, Cuts.cut_first, Cuts.cut_can, Cuts.cut_next, Cuts.cut_done}
use Rattle.nmgc_round.proofs.table.Round.split_all.Goals as goal

pub loop-number-init : goal.loop-number-init
loop-number-init c = record {
  cut = rw c.requires.room.0 (cut_first c.args.self.now c.args.seat c.requires.seat.0 c.requires.seat.1);
  room = c.requires.room.1;
}

pub split_mutator-requires : goal.split_mutator-requires
split_mutator-requires c =
    let h = c.loop-number.invariant.cut in
    let m = c.requires.count.0 in
    let t = c.loop-number-test.true in
    record {
      seat = h.at;
      ready = cut_can c.args.self.now c.loop-number.seat c.loop-number.seats.items c.loop-number._number h (omega arith);
      within = c.requires.within;
    }

pub push_reserved-requires : goal.push_reserved-requires
push_reserved-requires c =
    let n = c.loop-number.seats.ok.0 in
    let h = c.loop-number.invariant.cut.count in
    let r = c.loop-number.invariant.room in
    let t = c.loop-number-test.true in
    omega arith

pub loop-number-preserved : goal.loop-number-preserved
loop-number-preserved c =
    let h = c.loop-number.invariant.cut in
    let m = c.requires.count.0 in
    let t = c.loop-number-test.true in
    let s = c.split_mutator.ensures in
    record {
      cut = rw c.push_reserved.ensures.items (cut_next c.args.self.now c.loop-number.seat c.split_mutator.new.seat c.split_mutator.result c.loop-number.seats.items
          c.loop-number._number h (omega arith) s.0 s.1 s.2 s.3);
      room = let k = c.push_reserved.ensures.capacity in let r = c.loop-number.invariant.room in omega arith;
    }

pub push_reserved-requires-2 : goal.push_reserved-requires-2
push_reserved-requires-2 c =
    let n = c.loop-number.seats.ok.0 in
    let h = c.loop-number.invariant.cut.count in
    let r = c.loop-number.invariant.room in
    let e = c.loop-number.auto._number-end (omega arith) in
    omega arith

pub returns : goal.returns
returns c =
    let h = c.loop-number.invariant.cut in
    let m = c.requires.count.0 in
    let t = c.loop-number-test.false in
    let e = c.loop-number.auto._number-end (omega arith) in
    rw c.push_reserved-2.ensures.items (cut_done c.args.self.now c.loop-number.seat c.loop-number.seats.items c.loop-number._number h (omega arith))
