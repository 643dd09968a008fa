use Rattle.nmgc_cycle.proofs.{Vocabulary.ℕ, Vocabulary.◌≡◌, Vocabulary.◌<◌, Vocabulary.List, Vocabulary.length, Vocabulary.get_or, Vocabulary.sym, Vocabulary.subst, Vocabulary.arith, Vocabulary.Mutator, Vocabulary.HasQueueRoom, Vocabulary.count_made_by, cycles.QueueLists.room_more, rounds.Reserving.after_more}
use Rattle.nmgc_cycle.proofs.weaks.reserve_queues.Goals as goal

pub loop-mutator-preserved : goal.loop-mutator-preserved
loop-mutator-preserved c =
    let was : List Mutator = c.args.mutators.now in
    let now : List Mutator = c.loop-mutator.mutator-items in
    let n : ℕ = c.loop-mutator.mutator-index in
    let m : Mutator = c.mutator-item.result in
    let next : Mutator = c.reserve_queue.new.mutator in
    let before = c.loop-mutator.invariant in
    let count : length now ≡ length was = c.loop-mutator.auto.mutator-items in
    let lt : n < length was = omega arith in
    let read : m ≡ get_or now n m = cc in
    let own : HasQueueRoom (count_made_by m.number c.args.weaks.now.list) m next =
    subst (λ (x : Mutator). HasQueueRoom (count_made_by x.number c.args.weaks.now.list) x next) (sym read) c.in_ok-reserve_queue.ensures in
    record {
      done = room_more c.args.weaks.now.list was now n m next lt count read before.done before.rest own;
      rest = after_more was now n m next lt count before.rest;
    }
