use Rattle.nmgc_cycle.proofs.{Vocabulary.ℕ, Vocabulary.◌≡◌, Vocabulary.◌≤◌, Vocabulary.length, Vocabulary.min, Vocabulary.refl, Vocabulary.arith, Vocabulary.slice_get_read, Vocabulary.HasLists, Vocabulary.most_at, rounds.Reserving.most_there, rounds.Reserving.lists_for, rounds.Reserving.kept_more, rounds.Reserving.room_more, rounds.Reserving.after_more}
use Rattle.nmgc_cycle.proofs.round.reserve_all.Goals as goal

pub at_most-requires : goal.at_most-requires
at_most-requires g c =
    let programs = c.args.programs.now in
    let n = c.loop-number.number in
    let lt = c.loop-number-test.true in
    let size = c.requires.count in
    c.requires.valid n c.index-programs-number.result
    (slice_get_read programs (length programs) n c.index-programs-number.result refl (omega (arith, lt, size)) c.index-programs-number.is)

pub loop-number-preserved : goal.loop-number-preserved
loop-number-preserved g c =
    let was = c.args.mutators.now in
    let now = c.loop-number.mutators in
    let n = c.loop-number.number in
    let next = c.reserve.new.self in
    let before = c.loop-number.invariant in
    let lt = c.loop-number-test.true in
    let count = c.loop-number.auto.mutators in
    let own = c.in_ok-reserve.ensures in
    let programs = c.args.programs.now in
    let p = c.index-programs-number.result in
    let size = c.requires.count in
    let there : most_at g.P.Program.most programs n ≡ g.P.Program.most p =
    most_there g.P.Program.most programs n p (slice_get_read programs (length programs) n p refl (omega (arith, lt, size)) c.index-programs-number.is) in
    let bound = c.at_most.ensures in
    let least = c.min.ensures in
    let small = c.requires.slice in
    let enough : min c.args.slice (most_at g.P.Program.most programs n) ≤ c.min.result = omega (arith, there, bound, least, small) in
    let room : HasLists c.min.result next = record {
      replies = own.room.0;
      recorded = own.room.1;
      updrem = own.room.4;
      young_weaks = own.room.2;
      finalised = own.room.3;
    } in
    record {
      kept = kept_more was now n c.index-mutators-number.result next lt count before.kept before.after own.kept;
      room = room_more was now n c.index-mutators-number.result next lt count (λ (k : ℕ). min c.args.slice (most_at g.P.Program.most programs k)) before.room
          (lists_for (min c.args.slice (most_at g.P.Program.most programs n)) c.min.result next enough room);
      after = after_more was now n c.index-mutators-number.result next lt count before.after;
    }
