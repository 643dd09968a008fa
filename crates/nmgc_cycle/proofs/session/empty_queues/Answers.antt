use Rattle.nmgc_cycle.proofs.{Vocabulary.ℕ, Vocabulary.◌≡◌, Vocabulary.List, Vocabulary.[], Vocabulary.◌∷◌, Vocabulary.length, Vocabulary.length-append, Vocabulary.ap, Vocabulary.subst, Vocabulary.arith, Vocabulary.Some, Vocabulary.slice_get, Vocabulary.CommandQueue, rounds.ListedRounds.each_more}
use Rattle.nmgc_cycle.specs.Sessions.{IsEmptyQueue}
use Rattle.nmgc_cycle.proofs.session.empty_queues.Goals as goal

pub loop-number-preserved : goal.loop-number-preserved
loop-number-preserved c =
    let before = c.loop-number.invariant in
    let words = c.args.head.now.config.words in
    let pushed = c.in_ok-push.ensures.items in
    let long = ap (λ (l : List CommandQueue). length l) pushed in
    let added = length-append c.loop-number.queues.items (c.new.result ∷ []) in
    let count = before.count in
    record {
      count = omega (arith, long, added, count);
      each = λ k q e. each_more (λ (i : ℕ). IsEmptyQueue words) c.loop-number.queues.items c.new.result before.each
          (record { queue = c.new.ensures.queue; words_are = c.new.ensures.words; waiting = c.new.ensures.waiting; accepted = c.new.ensures.accepted; answered = c.new.ensures.answered })
          k q (subst (λ (l : List CommandQueue). slice_get l k ≡ Some q) pushed e);
    }
