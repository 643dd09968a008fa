use Rattle.nmgc_cycle.proofs.{Vocabulary.ℕ, Vocabulary.◌≡◌, Vocabulary.◌*◌, Vocabulary.◌≤◌, Vocabulary.◌∙◌, Vocabulary.length, Vocabulary.min, Vocabulary.refl, Vocabulary.arith, Vocabulary.slice_get_read, Vocabulary.polled_all_none, Vocabulary.polled_all_then, Vocabulary.in_blocks, Vocabulary.most_at, Vocabulary.MOST_PUSHED, rounds.InboxRoom.inbox_more, rounds.Lining.all_reserved, rounds.Reserving.most_there}
use Rattle.std.proofs.lemmas.Grind.{div_ceil_times}
use Rattle.nmgc_cycle.proofs.round.reserve_inbox.Goals as goal

pub at_most-requires : goal.at_most-requires
at_most-requires g c =
    let programs = c.args.programs.now in
    let n = c.loop-number.number in
    let lt = c.loop-number-test.true in
    c.requires.valid n c.index-programs-number.result
    (slice_get_read programs (length programs) n c.index-programs-number.result refl lt c.index-programs-number.is)

pub loop-number-init : goal.loop-number-init
loop-number-init g c = record { polled = polled_all_none c.args.inbox.now; count = refl; room = λ k r lt at. absurd (omega (arith, lt)) }

pub loop-number-preserved : goal.loop-number-preserved
loop-number-preserved g c =
    let n = c.loop-number.number in
    let old = c.loop-number.inbox in
    let new = c.reserve.new.self in
    let before = c.loop-number.invariant in
    let lt = c.loop-number-test.true in
    let programs = c.args.programs.now in
    let p = c.index-programs-number.result in
    let there : most_at g.P.Program.most programs n ≡ g.P.Program.most p =
    most_there g.P.Program.most programs n p (slice_get_read programs (length programs) n p refl lt c.index-programs-number.is) in
    let bound = c.at_most.ensures in
    let least = c.min-commands.ensures in
    let small = c.requires.slice in
    let many : min c.args.slice (most_at g.P.Program.most programs n) ≤ c.min-commands.result = omega (arith, there, bound, least, small) in
    let blocks = c.div_ceil-blocks.ensures in
    let least_blocks = div_ceil_times (MOST_PUSHED * min c.args.slice (most_at g.P.Program.most programs n)) 64 (omega arith) in
    let most_blocks = div_ceil_times (MOST_PUSHED * c.min-commands.result) 64 (omega arith) in
    let low = least_blocks.1 in
    let high = most_blocks.0 in
    let enough : in_blocks (MOST_PUSHED * min c.args.slice (most_at g.P.Program.most programs n)) ≤ c.div_ceil-blocks.result * 64 =
    omega (arith, blocks, many, low, high) in
    let more = all_reserved _ n old new c.in_ok-reserve.ensures.ok in
    record {
      polled = polled_all_then c.args.inbox.now old new before.polled more;
      count = more.count ∙ before.count;
      room = inbox_more (λ (k : ℕ). in_blocks (MOST_PUSHED * min c.args.slice (most_at g.P.Program.most programs k))) n _ old new
          c.in_ok-reserve.ensures.ok enough before.room;
    }
