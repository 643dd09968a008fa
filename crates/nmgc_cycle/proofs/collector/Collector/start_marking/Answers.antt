use Rattle.nmgc_cycle.proofs.{Vocabulary.◌≡◌, Vocabulary.ℕ, Vocabulary.List, Vocabulary.false, Vocabulary.refl, Vocabulary.sym, Vocabulary.ap, Vocabulary.subst, Vocabulary.◌∙◌, Vocabulary.with_items, Vocabulary.Segments, Vocabulary.all_prepared, Vocabulary.IsBeginning, Vocabulary.most_blocks, Vocabulary.HasMarked, Vocabulary.blank, Vocabulary.IsTied, Vocabulary.MarkerSeen, Vocabulary.Marks, Vocabulary.marks_of, Vocabulary.Opening, Vocabulary.newest_first, Vocabulary.opening_in, Vocabulary.Sweeper, Vocabulary.HasBegun, Vocabulary.Mutator, Vocabulary.Collector, Vocabulary.StartsMarking, Vocabulary.next_epoch, Vocabulary.HaveQueueRoom, Vocabulary.queues_in, Vocabulary.words_in, lists.MutatorLists.vec_back}
use Rattle.nmgc_collector_laws.specs.Worked.{registers_of}
use Rattle.nmgc_mark.specs.Marker as after
use Rattle.nmgc_cycle.proofs.collector.Collector.start_marking.Goals as goal

-- the same marking, by the views of its marker and its sweeper
by_view : (stop : ℕ) (old new : Collector) (marker m : MarkerSeen) (sweeper s : Sweeper) → marker ≡ m → sweeper ≡ s →
    StartsMarking stop old new (record { from = stop; marker = m; last = record { scanned = 0; empty = false }; sweeper = s }) →
    StartsMarking stop old new (record { from = stop; marker = marker; last = record { scanned = 0; empty = false }; sweeper = sweeper })
by_view stop old new marker m sweeper s first second h =
    subst (λ (y : MarkerSeen × Sweeper). StartsMarking stop old new (record {
      from = stop;
      marker = y.0;
      last = record { scanned = 0; empty = false };
      sweeper = y.1;
    })) (λ i. (sym first i, sym second i)) h

-- a marker and a sweeper that begin with another count of the gate's passes
turned_marker : (old new : Segments) (before marker : MarkerSeen) (turns : ℕ) → HasMarked old new before marker 0 →
    HasMarked old new before (after.turned marker turns) 0
turned_marker old new before marker turns h =
    let room = h.room in
    let scanned = h.scanned in
    record {
      room = record { places = room.places; all = room.all; room = room.room };
      scanned = record { epoch = scanned.epoch; grows = scanned.grows; pace = scanned.pace; room = scanned.room };
      layout = h.layout;
      stands = h.stands;
    }

turned_tied : (o : Opening) (m : Marks) (s : Segments) (marker : MarkerSeen) (turns : ℕ) → IsTied o m s marker → IsTied o m s (after.turned marker turns)
turned_tied o m s marker turns h = record { snapshot = h.snapshot; shared = h.shared; marks = h.marks; order = h.order; queue = h.queue; count = h.count }

abbrev counted : Sweeper → Collector → Sweeper
counted sweeper c = record sweeper { turns = c.cycle.turns; upper_turns = c.cycle.upper_turns }

counted_sweeper : (segments : Segments) (epoch : ℕ) (sweeper : Sweeper) (c : Collector) → HasBegun segments epoch sweeper →
    HasBegun segments epoch (counted sweeper c)
counted_sweeper segments epoch sweeper c h = record {
  epoch_is = h.epoch_is;
  swept = h.swept;
  had = h.had;
  freed = h.freed;
  left = record { numbers = h.left.numbers; room = h.left.room };
}

pub snapshot-requires-clause-begins : goal.snapshot-requires-clause-begins
snapshot-requires-clause-begins c =
    let old : Collector = c.args.self.now in
    let begins = c.requires.can.begins in
    let held : c.in-Some.words ≡ words_in old.heap.words = sym (ap words_in c.in-Some.is) in (
      begins.0,
      subst (λ (y : Segments × ℕ × List ℕ × List Mutator). IsBeginning begins.0 y.0 y.1 y.2 (registers_of y.3) (queues_in y.3)) (λ i.
          (sym c.prepare.ensures.value i, sym c.epoch_of-epoch.ensures.value i, sym held i, sym c.as_slice.ensures.value i)) begins.1,
    )

pub returns : goal.returns
returns c =
    let old : Collector = c.args.self.now in
    let v = old.mutators in
    let held : c.in-Some.words ≡ words_in old.heap.words = sym (ap words_in c.in-Some.is) in
    let prepared_is : c.prepare.new.self ≡ all_prepared old.heap.segments = c.prepare.ensures.value in
    let epoch_is : c.epoch_of-epoch.result ≡ next_epoch old = c.epoch_of-epoch.ensures.value in
    let read : c.as_slice.result.now ≡ v.items = c.as_slice.ensures.value in
    let new : List Mutator = c.reserve_queues.new.mutators in
    let room : HaveQueueRoom old.heap.weaks.list v.items new = subst (λ (ms : List Mutator). HaveQueueRoom old.heap.weaks.list ms new)
    c.as_mut_slice.ensures.value c.in_ok-reserve_queues.ensures in
    let now : (with_items v new).items ≡ new = vec_back v new room.count in
    let marker : MarkerSeen = c.in_ok-marker.marker in
    let sweeper : Sweeper = c.in_ok-sweeper.sweeper in
    let marked : HasMarked (all_prepared old.heap.segments) c.snapshot.new.segments (blank (next_epoch old) (most_blocks old.heap.segments.layout)) marker 0 =
    subst (λ (y : Segments × ℕ). HasMarked y.0 c.snapshot.new.segments (blank y.1 (most_blocks y.0.layout)) marker 0) (λ i. (
      prepared_is i,
      epoch_is i,
    )) c.in_ok-marker.ensures.marked in
    let begun : HasBegun (all_prepared old.heap.segments) (next_epoch old) sweeper =
    subst (λ (y : Segments × ℕ). HasBegun y.0 y.1 sweeper) (λ i. (prepared_is i, epoch_is i)) c.in_ok-sweeper.ensures.begun in
    by_view c.args.stop old _ _ (after.turned marker old.cycle.turns) _ (counted sweeper old) (ap (λ (m : MarkerSeen).
    after.turned m old.cycle.turns) c.marker.view_is) (ap (λ (s : Sweeper). counted s old) c.sweeper.view_is) (record {
      rest = refl;
      from_is = refl;
      last = refl;
      words = (c.snapshot.ensures.words ∙ held, refl);
      sound = c.segments_are_sound.ensures;
      queue_room = subst (λ (ms : List Mutator). HaveQueueRoom old.heap.weaks.list v.items ms) (sym now) room;
      sweeper = counted_sweeper (all_prepared old.heap.segments) (next_epoch old) sweeper old begun;
      turns = (refl, refl, refl);
      marked = turned_marker (all_prepared old.heap.segments) c.snapshot.new.segments (blank (next_epoch old) (most_blocks old.heap.segments.layout)) marker
          old.cycle.turns marked;
      tied = λ o begins. turned_tied o (marks_of (opening_in newest_first o.core.snapshot)) c.snapshot.new.segments marker old.cycle.turns
          (c.in_ok-marker.ensures.tied o (subst (λ (y : Segments × ℕ × List ℕ × List Mutator).
          IsBeginning o y.0 y.1 y.2 (registers_of y.3) (queues_in y.3)) (λ i. (sym prepared_is i, sym epoch_is i, sym held i, sym read i)) begins));
    })
