use Rattle.nmgc_mark.proofs.{Vocabulary.IsTrue, Vocabulary.sym, Vocabulary.subst, Vocabulary.IsEpoch, Vocabulary.MarksBlock, Vocabulary.never, Ties.room_done, Ties.done_then, Ties.done_else, Ties.place_marked, Ties.place_turns, Ties.tied_at}
use Rattle.nmgc_mark.proofs.marker.Marker.mark_block.Goals as goal

pub try_mark-requires-clause-epoch : goal.try_mark-requires-clause-epoch
try_mark-requires-clause-epoch c = subst IsEpoch (sym c.epoch-epoch.ensures.epoch) c.epoch-epoch.ensures.sound

pub try_mark-requires-clause-exists : goal.try_mark-requires-clause-exists
try_mark-requires-clause-exists c = c.requires.begins.exists

pub try_mark-requires-clause-block : goal.try_mark-requires-clause-block
try_mark-requires-clause-block c = c.requires.begins.within

pub queue-requires : goal.queue-requires
queue-requires c =
    let done : MarksBlock c.args.segments.now c.try_mark.new.self c.args.at.0 c.epoch-epoch.result c.try_mark.result = record {
      number = c.args.number;
      block = c.args.block;
      begins = c.requires.begins;
      to_mark = c.try_mark.ensures.answer;
      value = c.try_mark.ensures.value;
    } in
    room_done c.args.segments.now c.try_mark.new.self c.args.self.now c.args.at.0 c.epoch-epoch.result c.try_mark.result c.requires.room
    c.epoch-epoch.ensures.epoch c.epoch-epoch.ensures.sound c.layout.ensures.sound done c.if-try_mark.true

pub returns-then-try_mark : goal.returns-then-try_mark
returns-then-try_mark c =
    let s = c.args.segments.now in
    let t = c.try_mark.new.self in
    let m = c.args.self.now in
    let n = c.queue.new.self in
    let done : MarksBlock s t c.args.at.0 c.epoch-epoch.result c.try_mark.result = record {
      number = c.args.number;
      block = c.args.block;
      begins = c.requires.begins;
      to_mark = c.try_mark.ensures.answer;
      value = c.try_mark.ensures.value;
    } in
    let at = done_then s t m n c.args.at.0 c.epoch-epoch.result c.try_mark.result c.epoch-epoch.ensures.epoch c.epoch-epoch.ensures.sound
    c.layout.ensures.sound done c.if-try_mark.true c.queue.ensures in
    record {
      marked = place_marked s t m n c.args.at.0 c.requires.room at;
      turns = place_turns s t m n c.args.at.0 at;
      tied = λ o marks h. tied_at o marks s t m c.args.at.0 n h at;
    }

pub returns-else-try_mark : goal.returns-else-try_mark
returns-else-try_mark c =
    let s = c.args.segments.now in
    let t = c.try_mark.new.self in
    let m = c.args.self.now in
    let done : MarksBlock s t c.args.at.0 c.epoch-epoch.result c.try_mark.result = record {
      number = c.args.number;
      block = c.args.block;
      begins = c.requires.begins;
      to_mark = c.try_mark.ensures.answer;
      value = c.try_mark.ensures.value;
    } in
    let at = done_else s t m c.args.at.0 c.epoch-epoch.result c.try_mark.result c.epoch-epoch.ensures.epoch c.epoch-epoch.ensures.sound
    c.layout.ensures.sound done (λ e. never (subst (λ b. IsTrue b) c.if-try_mark.false e)) in
    record {
      marked = place_marked s t m m c.args.at.0 c.requires.room at;
      turns = place_turns s t m m c.args.at.0 at;
      tied = λ o marks h. tied_at o marks s t m c.args.at.0 m h at;
    }
