-- A closing by its calls: the machine at rest scans on and closes the cycle. Words, roots and list fit the closed world.
use Rattle.nmgc_collector_laws.proofs.Vocabulary.{ℕ, ◌≡◌, ◌+◌, List, [], map, refl, sym, ap, subst, ◌∙◌, arith, inr, slice_index, IsSome, All-nil, Name, World, IsWorld, node_of, closed, is_some_of, FinQueue, word_total, Layout, HEADER_WORDS, Header, Entry, Core, Cells, LiesIn, cells, StandsFor, Shows, nth, Segments, block_place, Place, Represents, NoNode, IsEarlier, RepresentsRoots, ListsWeaks, size_of, closing_keeps_earlier, world_is_earlier, MutatorEnd, marks_of, earlier, now, CanOpen, Opening, Mutator, FitBlocks, HoldsAtStop, registers_of, serials_of, AreAt, IsCoreOf, IsUnread, epoch_of, CollectorSeen, ends_of, MarkerSeen, Cycle, AreOfBlocks, HasFinished, IsTiedByPlaces, Death, OldWeak, CycleMayResolve, CycleCloses, HasClosed, QueuesClose, CanResolve, places_of, FinishMayResolve, ResolveCloses, ClosedHolds, IsStopOf, IsClosingOf, FinalisersInHand, stop_opening, finished_on, closed_state, IsAtRestMarking, IsMachineAtRest}
use Rattle.nmgc_run_spec.specs.{Terms.queues_of, Run.State}
use Rattle.nmgc_collector_laws.proofs.{cycles.Closing.machine_scans, cycles.Opens.rest_opens, cycles.Preparing.no_snapshot, cycles.RoundHeap.marked_holds, cycles.RoundHeap.not_free, cycles.Tying.MarksLaw, cycles.Tying.core_snapshot, cycles.Tying.heap_of_blocks}

-- the machine once the marker has finished

module _ (layout : Layout) (c : Cycle) (s : State) (seen : CollectorSeen) (mutators : List Mutator) (h : IsStopOf layout c s seen mutators)
    (marked : Segments) (marker : MarkerSeen) (f : HasFinished (stop_opening layout c s seen mutators h) marked marker) where
  abbrev places : List Place
  places = h.heap.places

  abbrev opening : Opening
  opening = stop_opening layout c s seen mutators h

  abbrev core : Core
  core = now opening f.events

  abbrev then : Opening
  then = finished_on opening marked marker f

  empty : core.queue ≡ []
  empty = ap (λ (x : Core). x.queue) f.rest

  same_snapshot : h.kept.core.snapshot ≡ core.snapshot
  same_snapshot = ap (λ (x : Core). x.snapshot) (sym f.rest)

  at_rest : IsMachineAtRest c s.world core
  at_rest = machine_scans c s.world h.kept.core f.events h.rest.machine f.legal f.scans (rw empty (All-nil IsUnread))

  rests : IsAtRestMarking c core seen.segments places s.world seen.words mutators []
  rests = record {
    world = h.rest.world;
    machine = at_rest;
    sound = h.rest.sound;
    represents = h.rest.represents;
    roots = h.rest.roots;
    blocks = h.rest.blocks;
    low = h.rest.low;
    count = h.rest.count;
    mutators_are = h.rest.mutators_are;
    waits = subst (λ (l : List Entry). AreAt places [] (map (λ (entry : Entry). entry.name) l)) (sym empty) tt;
  }

  tied : IsTiedByPlaces then (marks_of core) marked marker
  tied =
      let t = f.tied in
      record {
        snapshot = record {
          layout = t.snapshot.layout;
          apart = t.snapshot.apart;
          sound = λ at is. let x = t.snapshot.sound at is in (x.0, x.1, subst (λ (w : World). IsSome (node_of w x.0)) same_snapshot x.2);
          complete = λ p d there. t.snapshot.complete p d (subst (λ (w : World). IsSome (node_of w p.name)) (sym same_snapshot) there);
        };
        shared = t.shared;
        marks = t.marks;
        order = t.order;
        queue = t.queue;
        count = t.count;
      }

  machine_now : IsCoreOf c core.world core
  machine_now = subst (λ (w : World). IsCoreOf c w core) (sym at_rest.machine.world_is) at_rest.machine

  -- scans leave the world
  same_world : core.world ≡ h.kept.core.world
  same_world = at_rest.machine.world_is ∙ sym h.rest.machine.machine.world_is

  listed : ListsWeaks then.layout then.places core.world seen.weaks
  listed = subst (λ (y : Layout × World). ListsWeaks y.0 places y.1 seen.weaks) (λ i. (
    sym h.heap.holds.layout_is i,
    sym at_rest.machine.world_is i,
  )) h.heap.listed

  can_resolve : CycleMayResolve → CanResolve then seen.words marked marker seen.weaks
  can_resolve may =
      let rested = rest_opens c core seen.segments places s.world seen.words mutators [] rests in
      let opens : CanOpen then seen.words = rw same_world at rested.0 in
      may c then seen.words marked marker seen.weaks at_rest.sound machine_now at_rest.none_pushed empty refl rested.1 (record {
        opens = opens;
        tied = tied;
      }) listed

pub finish_may_resolve : CycleMayResolve → FinishMayResolve
finish_may_resolve may layout c s seen mutators marked marker h f = can_resolve layout c s seen mutators h marked marker f may

-- the closed cycle, and the heap then

module _ (layout : Layout) (c : Cycle) (s : State) (seen : CollectorSeen) (mutators : List Mutator) (words : List ℕ) (marked : Segments)
    (marker : MarkerSeen) (list : List OldWeak) (deaths : List Death) (k : IsClosingOf layout c s seen mutators words marked marker list deaths) where
  abbrev stood : List Place
  stood = k.stop.heap.places

  abbrev machine : Core
  machine = core layout c s seen mutators k.stop k.between k.finisher k.finished

  abbrev o : Opening
  o = then layout c s seen mutators k.stop k.between k.finisher k.finished

  rest_then : IsMachineAtRest c s.world machine
  rest_then = at_rest layout c s seen mutators k.stop k.between k.finisher k.finished

  layout_then : marked.layout ≡ layout
  layout_then = k.second.1.layout ∙ k.first.1.layout ∙ k.stop.heap.holds.layout_is

  stands_before : StandsFor marked seen.words s.allocation
  stands_before = k.second.1.stands seen.words s.allocation (k.first.1.stands seen.words s.allocation k.stop.heap.holds.stands)

  epoch_is : marker.epoch ≡ epoch_of c.number
  epoch_is = k.second.1.scanned.epoch ∙ k.first.1.scanned.epoch ∙ k.stop.kept.tied.epoch

  has_closed : MarksLaw → CycleCloses → HasClosed c s k.resolved.closing.dead marked marker
  has_closed law closes =
      let heap = marked_holds layout s seen.words seen.segments marked (ends_of seen) seen.weaks k.stop.heap layout_then stands_before in
      let snapshot : machine.snapshot ≡ c.snapshot = core_snapshot c s.world machine rest_then.sound rest_then.machine in
      let blocks : AreOfBlocks o c marked seen.words s.allocation machine =
      heap_of_blocks law layout s seen.words marked (ends_of seen) seen.weaks c s.world machine o heap.0 k.sound rest_then.sound
      rest_then.machine k.stop.heap.holds.layout_is (sym heap.1) snapshot in
      closes c s o seen.words words marked marker list deaths rest_then.sound rest_then.machine rest_then.none_pushed
      (empty layout c s seen mutators k.stop k.between k.finisher k.finished) blocks epoch_is k.resolved

  abbrev dead : List Name
  dead = k.resolved.closing.dead

  abbrev w : World
  w = closed s.world dead

  abbrev t : State
  t = closed_state c s dead

  world_is : k.resolved.next.world ≡ w
  world_is = ap (λ (x : Core). x.world) k.resolved.closing.rest ∙ ap (λ (x : World). closed x dead) rest_then.machine.world_is

  is_world : IsWorld machine.world
  is_world = subst IsWorld (sym rest_then.machine.world_is) k.stop.rest.world

  represents : Represents layout [] NoNode stood w words
  represents =
      let is_known : Represents layout (earlier o) NoNode stood w words =
      subst (λ (y : Layout × World). Represents y.0 (earlier o) NoNode stood y.1 words) (λ i. (
        k.stop.heap.holds.layout_is i,
        world_is i,
      )) k.resolved.represents in
      no_snapshot layout (earlier o) [] stood w words refl is_known

  -- no header changed
  still : IsEarlier s.world w
  still = closing_keeps_earlier s.world s.world dead k.stop.rest.world (world_is_earlier s.world k.stop.rest.world)

  fit : FitBlocks w s.allocation
  fit number block name node lies there =
      let known = is_some_of (node_of s.world name) (old_known number block name lies) in
      let size : size_of known.0 ≡ size_of node = ap (λ (h : Header). HEADER_WORDS + h.fields) (still.headers name known.0 node known.1 there) in
      let fits = k.stop.heap.holds.fit number block name known.0 lies known.1 in
      omega (arith, size, fits)
    where
      old_known : (number block : ℕ) (name : Name) → LiesIn s.allocation number block name → IsSome (node_of s.world name)
      old_known number block name lies = (k.stop.heap.holds.represents.named (record {
        at =
            block_place layout number (cells s.allocation number).class block;
        name = name;
      }) ((k.stop.heap.all _).1 (inr (record { number = number; block = block; lies = lies; at = refl })))).known

  -- each name of a block is in the words
  named : (number : ℕ) → Shows marked seen.words number (cells s.allocation number) → (block : ℕ) (name : Name) →
      LiesIn s.allocation number block name → slice_index words (block_place marked.layout number (nth marked.segments number).class block + 1) ≡
      slice_index words (block_place layout number (cells s.allocation number).class block + 1)
  named number shows block name lies =
      let own : Cells = cells s.allocation number in
      let class = shows.class (not_free own block name shows.free lies) in
      let place : block_place layout number own.class block ≡ block_place marked.layout number (nth marked.segments number).class block =
      ap (λ (l : Layout). block_place l number own.class block) (sym layout_then) ∙ ap (λ (j : ℕ). block_place marked.layout number j block) class in
      ap (λ (at : ℕ). slice_index words (at + 1)) (sym place)

  stand : StandsFor marked words s.allocation
  stand =
      let was = stands_before in
      record {
        total = represents.total ∙ ap (λ (l : Layout). word_total l) (sym layout_then);
        count = was.count;
        names = was.names;
        fresh = was.fresh;
        shows = λ number exists.
            let shows = was.shows number exists in
            record {
              state = shows.state;
              free = shows.free;
              class = shows.class;
              blocks = shows.blocks;
              used = shows.used;
              named = λ block name lies.
                  let p : Place = record { at = block_place layout number (cells s.allocation number).class block; name = name } in
                  let there = (k.stop.heap.all p).1 (inr (record { number = number; block = block; lies = lies; at = refl })) in
                  named number shows block name lies ∙ (represents.named p there).name;
            };
      }

  roots_then : QueuesClose → (queues : List FinQueue) (ends : List MutatorEnd) → FinalisersInHand seen deaths queues ends →
      RepresentsRoots stood w (registers_of ends) (queues_of ends) (serials_of ends)
  roots_then close queues ends j =
      let before : RepresentsRoots stood machine.world (registers_of ends) (map (λ (q : FinQueue). q.words) j.old) (serials_of ends) =
      subst (λ (y : World × List ℕ × List (List ℕ) × List ℕ). RepresentsRoots stood y.0 y.1 y.2 y.3) (λ i. (
        sym rest_then.machine.world_is i,
        sym j.registers i,
        j.old_are i,
        sym j.serials i,
      )) k.stop.heap.holds.roots in
      let after = close o dead deaths (registers_of ends) j.old queues (serials_of ends) is_world k.resolved.deaths_are
      k.resolved.closing.lists.ordered before j.joined in
      subst (λ (y : World × List (List ℕ)). RepresentsRoots stood y.0 (registers_of ends) y.1 (serials_of ends)) (λ i.
      (ap (λ (x : World). closed x dead) rest_then.machine.world_is i, sym j.queues_are i)) after

  listed_then : ListsWeaks layout stood w (places_of list)
  listed_then = subst (λ (y : Layout × World). ListsWeaks y.0 stood y.1 (places_of list)) (λ i. (k.stop.heap.holds.layout_is i, world_is i)) k.resolved.listed

  heap_then : QueuesClose → (queues : List FinQueue) (ends : List MutatorEnd) → FinalisersInHand seen deaths queues ends →
      (g : HoldsAtStop layout t words marked ends (places_of list)) × (g.places ≡ stood)
  heap_then close queues ends j = (
    record {
      places = stood;
      all = k.stop.heap.all;
      holds = record {
        fit = fit;
        represents = represents;
        registers = j.whole;
        roots = roots_then close queues ends j;
        layout_is = layout_then;
        stands = stand;
      };
      listed = listed_then;
    },
    refl,
  )

pub resolve_closes : MarksLaw → CycleCloses → ResolveCloses
resolve_closes law closes layout c s seen mutators words marked marker list deaths k =
    has_closed layout c s seen mutators words marked marker list deaths k law closes

pub closed_holds : QueuesClose → ClosedHolds
closed_holds close layout c s seen mutators words marked marker list deaths queues ends k j =
    heap_then layout c s seen mutators words marked marker list deaths k close queues ends j
