use Rattle.nmgc_updrem.proofs.Vocabulary.{rules, ◌<◌, refl, length, get_or, slice_get-get_or, polled_one}
use Rattle.nmgc_updrem.proofs.inbox.poll_first.Goals as goal

pub loop-k-preserved : goal.loop-k-preserved
loop-k-preserved c =
    let within : c.loop-k.k < length c.loop-k.receivers = search rules in
    polled_one c.args.receivers.now c.loop-k.receivers _ c.loop-k.k c.poll.result c.loop-k.invariant
    (record {
      was = get_or c.loop-k.receivers c.loop-k.k c.index-receivers-k.result;
      is = c.poll.new.self;
      at = slice_get-get_or c.loop-k.receivers c.loop-k.k c.index-receivers-k.result within;
      rest = refl;
      changes = record { polls = c.poll.ensures.polls; room = c.poll.ensures.room };
    })
