use Rattle.nmgc_cycle.proofs.{Vocabulary.ℕ, Vocabulary.◌≡◌, Vocabulary.List, Vocabulary.length, Vocabulary.map, Vocabulary.subst, Vocabulary.sym, Vocabulary.ap, Vocabulary.◌∙◌, Vocabulary.arith, Vocabulary.Some, Vocabulary.Global, Vocabulary.vec_capacity, Vocabulary.with_items, Vocabulary.Vec, Vocabulary.Layout, Vocabulary.Collector, Vocabulary.Worker, Vocabulary.DidSlices, Vocabulary.Config, Vocabulary.CanAskAll, Vocabulary.HaveAskRoom, Vocabulary.HasHelped, Vocabulary.longer_script, rounds.LongerRuns.opens_longer, Vocabulary.item, Vocabulary.length-map, Vocabulary.map_item, Vocabulary.slice_get_within, Vocabulary.get_or_from_slice_get, Vocabulary.slice_get, Vocabulary.slice_index, Vocabulary.◌+◌, Vocabulary.◌++◌, Vocabulary.Mutator, Vocabulary.Done, Vocabulary.worker_of, rounds.Sliced.done_of, rounds.Readiness.workers_at, Vocabulary.mutator_of, Vocabulary.seat_of, Vocabulary.done_by, rounds.Helping.can_help, lists.MutatorLists.vec_back, rounds.Played.CanMove, rounds.Played.HaveMoved, rounds.Played.are_seated, rounds.Played.counted, rounds.Played.can_ask, rounds.Played.played, rounds.Played.left_in, rounds.Played.scanned, rounds.Played.has_all, rounds.Played.seats_at, rounds.Played.did_slices, rounds.Ran.HasBegun, rounds.Ran.may_begin, rounds.Ran.can_open, rounds.Ran.seats_are, rounds.Sliced.positions_counted, rounds.Sliced.positions_fit}
use Rattle.nmgc_cycle.proofs.collector.Collector.do_slices.Goals as goal

pub start-round-requires-clause-opens : goal.start-round-requires-clause-opens
start-round-requires-clause-opens g c =
    let script = c.args.script.now.value in
    let own : Collector = c.args.self.now in
    let o = c.args.opening.now.value in
    let may = may_begin c.slices_lead.ensures.opens script own o c.unwrap-words.result c.requires.limits c.requires.opens (sym c.take.ensures.value ∙ c.unwrap-words.ensures) in
    can_open script own o may

pub start-round-requires-clause-layout : goal.start-round-requires-clause-layout
start-round-requires-clause-layout g c =
    let script = c.args.script.now.value in
    let own : Collector = c.args.self.now in
    let o = c.args.opening.now.value in
    let may = may_begin c.slices_lead.ensures.opens script own o c.unwrap-words.result c.requires.limits c.requires.opens (sym c.take.ensures.value ∙ c.unwrap-words.ensures) in
    c.layout-layout.ensures.layout ∙ sym may.op.layout_is

pub start-round-requires-clause-marking : goal.start-round-requires-clause-marking
start-round-requires-clause-marking g c =
    let script = c.args.script.now.value in
    let own : Collector = c.args.self.now in
    let o = c.args.opening.now.value in
    let may = may_begin c.slices_lead.ensures.opens script own o c.unwrap-words.result c.requires.limits c.requires.opens (sym c.take.ensures.value ∙ c.unwrap-words.ensures) in
    c.is_marking-marking.ensures ∙ sym may.op.marks

pub seat_all-requires-clause-count : goal.seat_all-requires-clause-count
seat_all-requires-clause-count g c =
    let script = c.args.script.now.value in
    let own : Collector = c.args.self.now in
    let o = c.args.opening.now.value in
    let may = may_begin c.slices_lead.ensures.opens script own o c.unwrap-words.result c.requires.limits c.requires.opens (sym c.take.ensures.value ∙ c.unwrap-words.ensures) in
    let round = c.start-round.result.round in
    let given = c.start-round.result.mutators in
    let s = c.start-round.ensures in
    let b : HasBegun script own o round given = record { may = may; has = record { opened = s.round.0; seen_are = s.mutators.0; at = s.mutators.1 } } in
    c.replace-mutators.result.ok.0 ∙ ap (λ v. length v.items) c.replace-mutators.ensures.value ∙ sym (seats_are script own o round given b)

pub seat_all-requires-clause-room : goal.seat_all-requires-clause-room
seat_all-requires-clause-room g c =
    let script = c.args.script.now.value in
    let own : Collector = c.args.self.now in
    let o = c.args.opening.now.value in
    let may = may_begin c.slices_lead.ensures.opens script own o c.unwrap-words.result c.requires.limits c.requires.opens (sym c.take.ensures.value ∙ c.unwrap-words.ensures) in
    let had = c.replace-mutators.result.ok.0 in
    let own_had : length c.replace-mutators.result.items ≡ length own.mutators.items = ap (λ v. length v.items) c.replace-mutators.ensures.value in
    let count = may.still.kept.count in
    let fits = may.still.kept.workers in
    let room = c.lend-workers.ensures.room in
    (c.lend-workers.ensures.empty, omega (arith, had, own_had, count, fits, room))

pub run_workers-requires-clause-collector : goal.run_workers-requires-clause-collector
run_workers-requires-clause-collector g c κs within =
    let script = c.args.script.now.value in
    let own : Collector = c.args.self.now in
    let o = c.args.opening.now.value in
    let may = may_begin c.slices_lead.ensures.opens script own o c.unwrap-words.result c.requires.limits c.requires.opens (sym c.take.ensures.value ∙ c.unwrap-words.ensures) in
    let s = c.start-round.ensures in
    can_help c.slices_lead.ensures.opens c.slices_lead.ensures.tied script own may.run may.limits may.still c.start-round.result.round
    c.start-round.result.collector s.collector.0 o may.opens s.collector.1

pub run_workers-requires-clause-inbox : goal.run_workers-requires-clause-inbox
run_workers-requires-clause-inbox g c κs within =
    let script = c.args.script.now.value in
    let own : Collector = c.args.self.now in
    let may = may_begin c.slices_lead.ensures.opens script own c.args.opening.now.value c.unwrap-words.result c.requires.limits c.requires.opens
    (sym c.take.ensures.value ∙ c.unwrap-words.ensures) in
    let many = ap (λ (l : Layout). l.mutators) may.still.kept.layout in
    let count = may.still.kept.inbox in
    omega (arith, many, count)

pub run_workers-requires-clause-mutators : goal.run_workers-requires-clause-mutators
run_workers-requires-clause-mutators g c κs within =
    let script = c.args.script.now.value in
    let own : Collector = c.args.self.now in
    let o = c.args.opening.now.value in
    let may = may_begin c.slices_lead.ensures.opens script own o c.unwrap-words.result c.requires.limits c.requires.opens (sym c.take.ensures.value ∙ c.unwrap-words.ensures) in
    let round = c.start-round.result.round in
    let given = c.start-round.result.mutators in
    let s = c.start-round.ensures in
    let b : HasBegun script own o round given = record { may = may; has = record { opened = s.round.0; seen_are = s.mutators.0; at = s.mutators.1 } } in
    let was : List Worker = c.as_mut_slice.result.now in
    let u = are_seated script own o round given b c.replace-mutators.result c.replace-mutators.ensures.value was (c.as_mut_slice.ensures.value ∙ c.seat_all.ensures.workers) in
    subst (λ (x : Config). CanAskAll g.P.Program.words g.P.Program.most g.P.Program.valid c.start-round.result.round x.slice was c.args.programs.now) (sym c.requires.config)
    (can_ask script own o round was u c.slices_lead.ensures.ready g.P.Program.words g.P.Program.most g.P.Program.valid c.args.programs.now c.requires.programs
    (subst (λ (x : Config). HaveAskRoom g.P.Program.most x.slice own.mutators.items c.args.programs.now) c.requires.config c.requires.room))

pub unseat_all-emptied-requires-clause-mutators : goal.unseat_all-emptied-requires-clause-mutators
unseat_all-emptied-requires-clause-mutators g c =
    let script = c.args.script.now.value in
    let own : Collector = c.args.self.now in
    let o = c.args.opening.now.value in
    let may = may_begin c.slices_lead.ensures.opens script own o c.unwrap-words.result c.requires.limits c.requires.opens (sym c.take.ensures.value ∙ c.unwrap-words.ensures) in
    let round = c.start-round.result.round in
    let given = c.start-round.result.mutators in
    let s = c.start-round.ensures in
    let b : HasBegun script own o round given = record { may = may; has = record { opened = s.round.0; seen_are = s.mutators.0; at = s.mutators.1 } } in
    let was : List Worker = c.as_mut_slice.result.now in
    let u = are_seated script own o round given b c.replace-mutators.result c.replace-mutators.ensures.value was (c.as_mut_slice.ensures.value ∙ c.seat_all.ensures.workers) in
    let count = counted script own o round was u in
    let same = ap (λ (l : List Worker). length l) c.as_mut_slice.ensures.value in
    let all = c.seat_all.new.workers.ok.0 in
    let had = c.replace-mutators.result.ok in
    let own_had : length c.replace-mutators.result.items ≡ length own.mutators.items = ap (λ v. length v.items) c.replace-mutators.ensures.value in
    let room = c.seat_all.ensures.left.1 in
    let still : vec_capacity c.run_workers.new.self.mutators ≡ vec_capacity c.seat_all.result = ap (λ (y : Collector). vec_capacity y.mutators) c.run_workers.ensures.rest in (
      ap (λ (y : Collector). y.mutators.items) c.run_workers.ensures.rest ∙ c.seat_all.ensures.left.0,
      omega (arith, count, same, all, had.0, had.1, own_had, room, still),
    )

pub unseat_all-emptied-requires-clause-seats : goal.unseat_all-emptied-requires-clause-seats
unseat_all-emptied-requires-clause-seats g c =
    let script = c.args.script.now.value in
    let own : Collector = c.args.self.now in
    let o = c.args.opening.now.value in
    let may = may_begin c.slices_lead.ensures.opens script own o c.unwrap-words.result c.requires.limits c.requires.opens (sym c.take.ensures.value ∙ c.unwrap-words.ensures) in
    let round = c.start-round.result.round in
    let given = c.start-round.result.mutators in
    let s = c.start-round.ensures in
    let b : HasBegun script own o round given = record { may = may; has = record { opened = s.round.0; seen_are = s.mutators.0; at = s.mutators.1 } } in
    let was : List Worker = c.as_mut_slice.result.now in
    let u = are_seated script own o round given b c.replace-mutators.result c.replace-mutators.ensures.value was (c.as_mut_slice.ensures.value ∙ c.seat_all.ensures.workers) in
    let many = c.requires.lists.taken.1 in
    let count = counted script own o round was u in
    let same = ap (λ (l : List Worker). length l) c.as_mut_slice.ensures.value in
    let all = c.seat_all.new.workers.ok.0 in
    (c.requires.lists.taken.0, omega (arith, many, count, same, all))

pub finish-words-requires-clause-seats : goal.finish-words-requires-clause-seats
finish-words-requires-clause-seats g c =
    let own : Collector = c.args.self.now in
    let o = c.args.opening.now.value in
    let asked = c.run_workers.ensures.mutators in
    let on = c.requires.continues c.run_workers.new.programs asked.done asked.gave in
    let script = longer_script on.0 c.args.script.now.value in
    let may = may_begin c.slices_lead.ensures.opens script own o c.unwrap-words.result on.3
    (opens_longer c.args.script.now.value on.0 own o c.requires.limits on.1 c.requires.opens) (sym c.take.ensures.value ∙ c.unwrap-words.ensures) in
    let round = c.start-round.result.round in
    let given = c.start-round.result.mutators in
    let s = c.start-round.ensures in
    let b : HasBegun script own o round given = record { may = may; has = record { opened = s.round.0; seen_are = s.mutators.0; at = s.mutators.1 } } in
    let was : List Worker = c.as_mut_slice.result.now in
    let u = are_seated script own o round given b c.replace-mutators.result c.replace-mutators.ensures.value was (c.as_mut_slice.ensures.value ∙ c.seat_all.ensures.workers) in
    let new : List Worker = c.run_workers.new.workers in
    let ran = played script own o round was u c.slices_lead.ensures.gathered new (asked.worked on.0 on.2) in
    let left = left_in c.seat_all.new.workers was new c.as_mut_slice.ensures.value c.run_workers.ensures.mutators.count in
    let seat = c.run_workers.new.seat in
    let after : Collector = c.run_workers.new.self in
    let has = scanned o round c.args.config.now.quota c.start-round.result.collector seat own.heap.segments after.heap.segments own.heap.names own.cycle.progress
    after.cycle.progress s.collector.0 s.collector.1 c.run_workers.ensures.collector in
    let seats : c.from_vec_in.result ≡ map seat_of new = c.from_vec_in.ensures ∙ c.unseat_all-emptied.ensures.seats ∙ ap (λ (l : List Worker). map seat_of l) left in
    (seats_at script own o may round new ran seat has c.from_vec_in.result seats, has.at)

pub finish-words-requires-clause-all : goal.finish-words-requires-clause-all
finish-words-requires-clause-all g c =
    let own : Collector = c.args.self.now in
    let o = c.args.opening.now.value in
    let asked = c.run_workers.ensures.mutators in
    let on = c.requires.continues c.run_workers.new.programs asked.done asked.gave in
    let script = longer_script on.0 c.args.script.now.value in
    let may = may_begin c.slices_lead.ensures.opens script own o c.unwrap-words.result on.3
    (opens_longer c.args.script.now.value on.0 own o c.requires.limits on.1 c.requires.opens) (sym c.take.ensures.value ∙ c.unwrap-words.ensures) in
    let round = c.start-round.result.round in
    let given = c.start-round.result.mutators in
    let s = c.start-round.ensures in
    let b : HasBegun script own o round given = record { may = may; has = record { opened = s.round.0; seen_are = s.mutators.0; at = s.mutators.1 } } in
    let was : List Worker = c.as_mut_slice.result.now in
    let u = are_seated script own o round given b c.replace-mutators.result c.replace-mutators.ensures.value was (c.as_mut_slice.ensures.value ∙ c.seat_all.ensures.workers) in
    let new : List Worker = c.run_workers.new.workers in
    let ran = played script own o round was u c.slices_lead.ensures.gathered new (asked.worked on.0 on.2) in
    let left = left_in c.seat_all.new.workers was new c.as_mut_slice.ensures.value c.run_workers.ensures.mutators.count in
    let seat = c.run_workers.new.seat in
    let after : Collector = c.run_workers.new.self in
    let has = scanned o round c.args.config.now.quota c.start-round.result.collector seat own.heap.segments after.heap.segments own.heap.names own.cycle.progress
    after.cycle.progress s.collector.0 s.collector.1 c.run_workers.ensures.collector in
    let seats : c.from_vec_in.result ≡ map seat_of new = c.from_vec_in.ensures ∙ c.unseat_all-emptied.ensures.seats ∙ ap (λ (l : List Worker). map seat_of l) left in
    has_all script own o may round new ran seat has c.slices_lead.ensures.parts c.from_vec_in.result seats

pub advance-requires-clause-count : goal.advance-requires-clause-count
advance-requires-clause-count g c =
    let own : Collector = c.args.self.now in
    let o = c.args.opening.now.value in
    let asked = c.run_workers.ensures.mutators in
    let on = c.requires.continues c.run_workers.new.programs asked.done asked.gave in
    let script = longer_script on.0 c.args.script.now.value in
    let may = may_begin c.slices_lead.ensures.opens script own o c.unwrap-words.result on.3
    (opens_longer c.args.script.now.value on.0 own o c.requires.limits on.1 c.requires.opens) (sym c.take.ensures.value ∙ c.unwrap-words.ensures) in
    let round = c.start-round.result.round in
    let given = c.start-round.result.mutators in
    let s = c.start-round.ensures in
    let b : HasBegun script own o round given = record { may = may; has = record { opened = s.round.0; seen_are = s.mutators.0; at = s.mutators.1 } } in
    let was : List Worker = c.as_mut_slice.result.now in
    let u = are_seated script own o round given b c.replace-mutators.result c.replace-mutators.ensures.value was (c.as_mut_slice.ensures.value ∙ c.seat_all.ensures.workers) in
    let new : List Worker = c.run_workers.new.workers in
    let ran = played script own o round was u c.slices_lead.ensures.gathered new (asked.worked on.0 on.2) in
    let left = left_in c.seat_all.new.workers was new c.as_mut_slice.ensures.value c.run_workers.ensures.mutators.count in
    let done : c.as_slice.result.now ≡ new = c.as_slice.ensures.value ∙ left in
    let positions : c.as_mut_slice-2.result.now ≡ own.positions.items = c.as_mut_slice-2.ensures.value ∙
    ap (λ (y : Collector). y.positions.items) c.run_workers.ensures.rest in
    ap (λ (l : List Worker). length l) done ∙ sym (positions_counted script own may.run may.limits may.still o round new ran.count ran.did) ∙
    sym (ap (λ (l : List ℕ). length l) positions)

pub advance-requires-clause-fits : goal.advance-requires-clause-fits
advance-requires-clause-fits g c =
    let own : Collector = c.args.self.now in
    let o = c.args.opening.now.value in
    let asked = c.run_workers.ensures.mutators in
    let on = c.requires.continues c.run_workers.new.programs asked.done asked.gave in
    let script = longer_script on.0 c.args.script.now.value in
    let may = may_begin c.slices_lead.ensures.opens script own o c.unwrap-words.result on.3
    (opens_longer c.args.script.now.value on.0 own o c.requires.limits on.1 c.requires.opens) (sym c.take.ensures.value ∙ c.unwrap-words.ensures) in
    let round = c.start-round.result.round in
    let given = c.start-round.result.mutators in
    let s = c.start-round.ensures in
    let b : HasBegun script own o round given = record { may = may; has = record { opened = s.round.0; seen_are = s.mutators.0; at = s.mutators.1 } } in
    let was : List Worker = c.as_mut_slice.result.now in
    let u = are_seated script own o round given b c.replace-mutators.result c.replace-mutators.ensures.value was (c.as_mut_slice.ensures.value ∙ c.seat_all.ensures.workers) in
    let new : List Worker = c.run_workers.new.workers in
    let ran = played script own o round was u c.slices_lead.ensures.gathered new (asked.worked on.0 on.2) in
    let left = left_in c.seat_all.new.workers was new c.as_mut_slice.ensures.value c.run_workers.ensures.mutators.count in
    let done : c.as_slice.result.now ≡ new = c.as_slice.ensures.value ∙ left in
    let positions : c.as_mut_slice-2.result.now ≡ own.positions.items = c.as_mut_slice-2.ensures.value ∙
    ap (λ (y : Collector). y.positions.items) c.run_workers.ensures.rest in
    subst (λ (l : List ℕ). CanMove l (map done_by c.as_slice.result.now)) (sym positions) (subst (λ (l : List Worker).
    CanMove own.positions.items (map done_by l)) (sym done) (positions_fit script own may.run may.limits may.still o round new ran.count ran.did))

pub returns : goal.returns
returns g c = record {
  done = c.run_workers.ensures.mutators.done;
  gave = c.run_workers.ensures.mutators.gave;
  did = λ more longer on limits.
      let asked = c.run_workers.ensures.mutators in
      let script = longer_script more c.args.script.now.value in
      let own : Collector = c.args.self.now in
      let o = c.args.opening.now.value in
      let may = may_begin c.slices_lead.ensures.opens script own o c.unwrap-words.result limits
      (opens_longer c.args.script.now.value more own o c.requires.limits longer c.requires.opens) (sym c.take.ensures.value ∙ c.unwrap-words.ensures) in
      let round = c.start-round.result.round in
      let given = c.start-round.result.mutators in
      let s = c.start-round.ensures in
      let b : HasBegun script own o round given = record { may = may; has = record { opened = s.round.0; seen_are = s.mutators.0; at = s.mutators.1 } } in
      let was : List Worker = c.as_mut_slice.result.now in
      let u = are_seated script own o round given b c.replace-mutators.result c.replace-mutators.ensures.value was (c.as_mut_slice.ensures.value ∙ c.seat_all.ensures.workers) in
      let new : List Worker = c.run_workers.new.workers in
      let ran = played script own o round was u c.slices_lead.ensures.gathered new (asked.worked more on) in
      let left = left_in c.seat_all.new.workers was new c.as_mut_slice.ensures.value c.run_workers.ensures.mutators.count in
      let seat = c.run_workers.new.seat in
      let after : Collector = c.run_workers.new.self in
      let has = scanned o round c.args.config.now.quota c.start-round.result.collector seat own.heap.segments after.heap.segments own.heap.names own.cycle.progress
      after.cycle.progress s.collector.0 s.collector.1 c.run_workers.ensures.collector in
      let seats : c.from_vec_in.result ≡ map seat_of new = c.from_vec_in.ensures ∙ c.unseat_all-emptied.ensures.seats ∙ ap (λ (l : List Worker). map seat_of l) left in
      let done : c.as_slice.result.now ≡ new = c.as_slice.ensures.value ∙ left in
      let positions : c.as_mut_slice-2.result.now ≡ own.positions.items = c.as_mut_slice-2.ensures.value ∙
      ap (λ (y : Collector). y.positions.items) c.run_workers.ensures.rest in
      let same : after.positions ≡ own.positions = ap (λ (y : Collector). y.positions) c.run_workers.ensures.rest in
      let moved : List ℕ = c.advance.new.positions in
      let many : length moved ≡ length own.positions.items = c.advance.ensures.count ∙ ap (λ (l : List ℕ). length l) positions in
      let back : (with_items after.positions moved).items ≡ moved = vec_back after.positions moved (many ∙
      sym (ap (λ (v : Vec ℕ Global). length v.items) same)) in
      let move : HaveMoved own.positions.items (map done_by new) moved =
      subst (λ (l : List ℕ). HaveMoved l (map done_by new) moved) positions (subst (λ (l : List Worker).
      HaveMoved c.as_mut_slice-2.result.now (map done_by l) moved) done c.advance.ensures.each) in
      let did = did_slices script own o may round new ran seat has c.slices_lead.ensures.parts c.slices_lead.ensures.owed
      c.start-round.result.collector s.collector.1 s.round.0 after.heap.segments c.run_workers.ensures.sound after.cycle.progress
      (subst (λ (x : Config). HasHelped round x.quota c.start-round.result.collector seat own.heap.segments after.heap.segments own.heap.names own.cycle.progress
      after.cycle.progress) c.requires.config c.run_workers.ensures.collector) c.from_vec_in.result seats c.finish-words.result.words c.finish-words.ensures.leaves after.cycle.collect after.cycle.full c.run_workers.ensures.collect
      c.run_workers.ensures.full after.inbox c.run_workers.ensures.polled c.unseat_all-emptied.new.mutators (with_items after.positions moved)
      (c.unseat_all-emptied.ensures.mutators ∙ ap (λ (l : List Worker). map mutator_of l) left) (ap (λ (l : List ℕ). length l) back ∙
      many) (subst (λ (l : List ℕ). HaveMoved own.positions.items (map done_by new) l) (sym back) move) in
      let room : c.give_back.new.self ≡ own.workers = c.give_back.ensures ∙ c.unseat_all-emptied.ensures.left.1 ∙ c.seat_all.ensures.room ∙
      c.lend-workers.ensures.room in
      subst (λ (n : ℕ). DidSlices script o own (record after {
        heap = record after.heap { words = Some c.finish-words.result.words };
        mutators = c.unseat_all-emptied.new.mutators;
        positions = with_items after.positions moved;
        workers = n;
      })) (sym room) (subst (λ (y : Collector). DidSlices script o own (record y {
        heap = record y.heap { words = Some c.finish-words.result.words };
        mutators = c.unseat_all-emptied.new.mutators;
        positions = with_items after.positions moved;
        workers = own.workers;
      })) (sym c.run_workers.ensures.rest) did);
  count =
      let script = c.args.script.now.value in
      let own : Collector = c.args.self.now in
      let o = c.args.opening.now.value in
      let may = may_begin c.slices_lead.ensures.opens script own o c.unwrap-words.result c.requires.limits c.requires.opens (sym c.take.ensures.value ∙ c.unwrap-words.ensures) in
      let round = c.start-round.result.round in
      let given = c.start-round.result.mutators in
      let s = c.start-round.ensures in
      let b : HasBegun script own o round given = record { may = may; has = record { opened = s.round.0; seen_are = s.mutators.0; at = s.mutators.1 } } in
      let was : List Worker = c.as_mut_slice.result.now in
      let new : List Worker = c.run_workers.new.workers in
      let left = left_in c.seat_all.new.workers was new c.as_mut_slice.ensures.value c.run_workers.ensures.mutators.count in
      let u = are_seated script own o round given b c.replace-mutators.result c.replace-mutators.ensures.value was (c.as_mut_slice.ensures.value ∙ c.seat_all.ensures.workers) in
      ap (λ (l : List Mutator). length l) (c.unseat_all-emptied.ensures.mutators ∙ ap (λ (l : List Worker). map mutator_of l) left)
      ∙ length-map new mutator_of ∙ c.run_workers.ensures.mutators.count ∙ counted script own o round was u;
  positions = λ k d e.
      let script = c.args.script.now.value in
      let own : Collector = c.args.self.now in
      let o = c.args.opening.now.value in
      let may = may_begin c.slices_lead.ensures.opens script own o c.unwrap-words.result c.requires.limits c.requires.opens (sym c.take.ensures.value ∙ c.unwrap-words.ensures) in
      let round = c.start-round.result.round in
      let given = c.start-round.result.mutators in
      let s = c.start-round.ensures in
      let b : HasBegun script own o round given = record { may = may; has = record { opened = s.round.0; seen_are = s.mutators.0; at = s.mutators.1 } } in
      let was : List Worker = c.as_mut_slice.result.now in
      let new : List Worker = c.run_workers.new.workers in
      let left = left_in c.seat_all.new.workers was new c.as_mut_slice.ensures.value c.run_workers.ensures.mutators.count in
      let u = are_seated script own o round given b c.replace-mutators.result c.replace-mutators.ensures.value was (c.as_mut_slice.ensures.value ∙ c.seat_all.ensures.workers) in
      let asked = c.run_workers.ensures.mutators in
      let after : Collector = c.run_workers.new.self in
      let x = item new k (let within = slice_get_within asked.done k d e in let n = asked.gave.count in let m = c.requires.programs.count in
      let many = counted script own o round was u in let count = may.still.kept.count in let same = asked.count in omega (arith, within, n, m, many, count, same)) in
      let w = item was k (let within = slice_get_within new k x.0 x.1 in let same = asked.count in omega (arith, within, same)) in
      let counts = asked.counts k w.0 x.0 d w.1 x.1 e in
      let done : c.as_slice.result.now ≡ new = c.as_slice.ensures.value ∙ left in
      let places : c.as_mut_slice-2.result.now ≡ own.positions.items = c.as_mut_slice-2.ensures.value ∙
      ap (λ (y : Collector). y.positions.items) c.run_workers.ensures.rest in
      let moved : List ℕ = c.advance.new.positions in
      let many : length moved ≡ length own.positions.items = c.advance.ensures.count ∙ ap (λ (l : List ℕ). length l) places in
      let same : after.positions ≡ own.positions = ap (λ (y : Collector). y.positions) c.run_workers.ensures.rest in
      let back : (with_items after.positions moved).items ≡ moved = vec_back after.positions moved (many ∙
      sym (ap (λ (v : Vec ℕ Global). length v.items) same)) in
      let move : HaveMoved own.positions.items (map done_by new) moved =
      subst (λ (l : List ℕ). HaveMoved l (map done_by new) moved) places (subst (λ (l : List Worker).
      HaveMoved c.as_mut_slice-2.result.now (map done_by l) moved) done c.advance.ensures.each) in
      let within = slice_get_within new k x.0 x.1 in
      let here = done_of new k x.0 within ∙ ap (λ (y : Worker). y.done) (get_or_from_slice_get new k x.0 x.0 x.1) in
      ap (λ (l : List ℕ). slice_index l k) back
      ∙ move k (let n = may.still.kept.positions_are in let m = may.still.kept.count in let r = counted script own o round was u in let q = asked.count in
      omega (arith, within, n, m, r, q))
      ∙ ap (λ n. slice_index own.positions.items k + n) (here ∙ counts.0);
  replies = λ k m n d e f i.
      let script = c.args.script.now.value in
      let own : Collector = c.args.self.now in
      let o = c.args.opening.now.value in
      let may = may_begin c.slices_lead.ensures.opens script own o c.unwrap-words.result c.requires.limits c.requires.opens (sym c.take.ensures.value ∙ c.unwrap-words.ensures) in
      let round = c.start-round.result.round in
      let given = c.start-round.result.mutators in
      let s = c.start-round.ensures in
      let b : HasBegun script own o round given = record { may = may; has = record { opened = s.round.0; seen_are = s.mutators.0; at = s.mutators.1 } } in
      let was : List Worker = c.as_mut_slice.result.now in
      let new : List Worker = c.run_workers.new.workers in
      let left = left_in c.seat_all.new.workers was new c.as_mut_slice.ensures.value c.run_workers.ensures.mutators.count in
      let u = are_seated script own o round given b c.replace-mutators.result c.replace-mutators.ensures.value was (c.as_mut_slice.ensures.value ∙ c.seat_all.ensures.workers) in
      let asked = c.run_workers.ensures.mutators in
      let is = c.unseat_all-emptied.ensures.mutators ∙ ap (λ (l : List Worker). map mutator_of l) left in
      let x = map_item mutator_of new k n (ap (λ (l : List Mutator). slice_get l k) (sym is) ∙ f) in
      let w = item was k (let within = slice_get_within new k x.0 x.1 in let same = asked.count in omega (arith, within, same)) in
      let seat = item u.seats k (let within = slice_get_within was k w.0 w.1 in let many = counted script own o round was u in
      let seats = seats_are script own o round u.seats u.begun in omega (arith, within, many, seats)) in
      let there : slice_get was k ≡ Some (worker_of (m, seat.0)) = ap (λ (l : List Worker). slice_get l k) u.seated ∙
      workers_at own.mutators.items u.seats k m seat.0 e seat.1 in
      let w_there = w.1 in
      let from : w.0 ≡ worker_of (m, seat.0) = cc (w_there, there) in
      ap (λ (y : Mutator). y.replies.items) x.2 ∙ (asked.counts k w.0 x.0 d w.1 x.1 i).1 ∙
      ap (λ (y : Worker). y.mutator.replies.items ++ map (λ (z : Done). z.1) d) from;
}
