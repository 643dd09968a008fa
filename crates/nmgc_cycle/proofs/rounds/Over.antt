-- A round that is over: its beginning, its work, and the state of the run after it.
use Rattle.nmgc_cycle.proofs.Vocabulary.{ℕ, ◌≡◌, ◌+◌, ◌≤◌, List, [], ◌∷◌, ◌++◌, length, map, ap, ◌∙◌, arith, Some, None, slice_get, ◌||◌, slice_get_within, map_item, World, Row, Reply, Layout, AllocState, Place, rows_in, IsFinished, places_then, now, CanOpen, Opening, Seen, Mutator, Done, HaveWorked, Script, gathered, noted, Run, last_state, slices, rest_of, some_asks, is_collect, is_full, State, Plan, plan_of, Collector, IsAfterStop, seen, seen_mutator, FitsRun, OpensIn, DidSlice, DidSlices, replies_of, item}
use Rattle.nmgc_collector_laws.specs.Seen as run
use Rattle.nmgc_cycle.proofs.{rounds.Opened.IsOpened, lists.RootLists.seen_at}

-- a round after this stop is over, and may be followed by a stop
pub record IsOver (script : Script) (c new : Collector) (o : Opening) : Type 0 where
  pub limits : FitsRun script
  pub run : Run
  pub still : IsAfterStop script c run
  pub goes_on : c.answered ≡ None
  pub opens : OpensIn (last_state run).progress (last_state run) c still.at_stop.heap.places o
  pub op : IsOpened script c run still o
  pub before : List ℕ
  pub before_are : c.heap.words ≡ Some before
  pub did : DidSlices script o c new

module _ (script : Script) (c new : Collector) (o : Opening) (x : IsOver script c new o) where
  abbrev pub plan : Plan
  plan = plan_of script

  -- the state of the stop before
  abbrev pub s : State
  s = last_state x.run

  -- the common view of all seats
  abbrev pub view : Seen
  view = gathered o x.did.scans x.did.seats

  abbrev pub finished : IsFinished o x.did.words (gathered o x.did.scans x.did.seats)
  finished = x.did.leaves.0

  pub can : CanOpen o x.before
  can = x.op.can x.before x.before_are

  -- the order of all commands, the world after them, and the addresses of its objects
  abbrev pub rows : List Row
  rows = rows_in x.did.leaves.0.events

  abbrev pub w : World
  w = (now o x.did.leaves.0.events).world

  abbrev pub places : List Place
  places = places_then o x.did.leaves.0.born

  -- the state after the round, whose world is this one, with these blocks
  abbrev pub with_world : World → AllocState → State
  with_world world allocation = record s {
    number = s.number + 1;
    world = world;
    allocation = allocation;
    progress = noted s.progress rows;
    collect = s.collect || some_asks is_collect (slices script.config s.left);
    full = s.full || some_asks is_full (slices script.config s.left);
    left = map (rest_of script.config) s.left;
  }

  abbrev pub t : AllocState → State
  t allocation = with_world w allocation

  -- the collector with reported replies, and its view in contracts
  abbrev pub reported : List (List Reply)
  reported = replies_of new.mutators.items

  abbrev pub last : Collector
  last = record c {
    heap = record c.heap { words = Some x.did.words; segments = new.heap.segments };
    cycle = record c.cycle { progress = new.cycle.progress; collect = new.cycle.collect; full = new.cycle.full };
    inbox = new.inbox;
    mutators = new.mutators;
    positions = new.positions;
    rows = record c.rows { rounds = c.rows.rounds ++ record { replies = reported } ∷ [] };
  }

  abbrev pub shown : run.CollectorSeen
  shown = seen last

  pub worked : HaveWorked o (gathered o x.did.scans x.did.seats).parts new.mutators.items x.did.done
  worked = x.did.gathers.worked

  -- each program has a mutator and a list of the commands done
  pub done_count : length x.did.done ≡ length script.threads
  done_count = worked.done_are ∙ ap (λ (l : Layout). l.mutators) (x.op.layout_is ∙ x.still.kept.layout)

  pub mutators_count : length new.mutators.items ≡ length script.threads
  mutators_count = worked.mutators_are ∙ ap (λ (l : Layout). l.mutators) (x.op.layout_is ∙ x.still.kept.layout)

  -- the work of one mutator
  pub one : (k : ℕ) (d : List Done) → slice_get x.did.done k ≡ Some d → (m : Mutator) × (n : Mutator) × (slice_get c.mutators.items k ≡ Some m) ×
      (slice_get new.mutators.items k ≡ Some n) × DidSlice script c new k m n d
  one k d e =
      let within = slice_get_within x.did.done k d e in
      let m = item c.mutators.items k (let count = x.still.kept.count in omega (arith, within, done_count, count)) in
      let n = item new.mutators.items k (omega (arith, within, done_count, mutators_count)) in
      (m.0, n.0, m.1, n.1, x.did.each k m.0 n.0 d m.1 n.1 e)

  -- no finaliser queue has less room than at the stop
  pub queue_kept : (k : ℕ) (mutator : run.MutatorSeen) → slice_get shown.mutators k ≡ Some mutator → (m : Mutator) ×
      (slice_get (seen c).mutators k ≡ Some (seen_mutator m)) × (m.queue.spare ≤ mutator.queue.spare)
  queue_kept k mutator e =
      let n = map_item seen_mutator new.mutators.items k mutator e in
      let d = item x.did.done k (let within = slice_get_within new.mutators.items k n.0 n.1 in omega (arith, within, done_count, mutators_count)) in
      let h = one k d.0 d.1 in
      let there = h.3 in
      let here = n.1 in
      let same : n.0 ≡ h.1 = cc (there, here) in
      let now : mutator.queue.spare ≡ h.1.queue.spare = ap (λ (y : run.MutatorSeen). y.queue.spare) n.2 ∙ ap (λ (own : Mutator). own.queue.spare) same in
      let room = h.4.queue_room in
      (h.0, seen_at c.mutators.items k h.0 h.2, omega (arith, now, room))

  -- all its replies are of this round
  pub replied : (k : ℕ) (n : Mutator) (d : List Done) → slice_get new.mutators.items k ≡ Some n → slice_get x.did.done k ≡ Some d →
      n.replies.items ≡ map (λ (y : Done). y.1) d
  replied k n d e f =
      let h = one k d f in
      let there = h.3 in
      let same : h.1 ≡ n = cc (there, e) in
      cc (same, h.4.replies, (x.still.kept.own k h.0 h.2).no_replies)
