use Rattle.nmgc_cycle.proofs.{Vocabulary.ℕ, Vocabulary.◌≡◌, Vocabulary.List, Vocabulary.length, Vocabulary.map, Vocabulary.sym, Vocabulary.ap, Vocabulary.subst, Vocabulary.◌∙◌, Vocabulary.Segments, Vocabulary.carried_over, Vocabulary.finished_on, Vocabulary.IsReady, Vocabulary.Mutator, Vocabulary.MarkerSeen, Vocabulary.Sweeper, Vocabulary.turned, Vocabulary.Death, Vocabulary.HaveRoom, Vocabulary.CanResolve, Vocabulary.places_of, Vocabulary.Marking, Vocabulary.Sweeping, Vocabulary.FinalisersQueued, Vocabulary.queues_in, Vocabulary.words_in, lists.MutatorLists.vec_back}
use Rattle.nmgc_cycle.proofs.collector.Collector.close.Goals as goal

-- a closed cycle, by its count of kept objects and its sweeper
same_sweeping : (m : Marking) (stop a b : ℕ) (x z : Sweeper) → a ≡ b → x ≡ z →
    ◌≡◌ {A = Sweeping} (record { from = m.from; closed = stop; kept = a; sweeper = x }) (record { from = m.from; closed = stop; kept = b; sweeper = z })
same_sweeping m stop a b x z kept sweeper =
    ap (λ (n : ℕ). let w : Sweeping = record { from = m.from; closed = stop; kept = n; sweeper = x } in w) kept
    ∙ ap (λ (y : Sweeper). let w : Sweeping = record { from = m.from; closed = stop; kept = b; sweeper = y } in w) sweeper

pub finish-requires-clause-ready : goal.finish-requires-clause-ready
finish-requires-clause-ready c =
    let ready = c.requires.ready in
    let held : words_in c.args.self.now.heap.words ≡ c.in-Some.words = ap words_in c.in-Some.is in
    (ready.opening, subst (λ (l : List ℕ). IsReady ready.opening l c.args.self.now.heap.segments c.args.marking.marker) held ready.ready)

pub resolve-requires-clause-room : goal.resolve-requires-clause-room
resolve-requires-clause-room c = c.finish.ensures.marked.1.room

pub resolve-requires-clause-can : goal.resolve-requires-clause-can
resolve-requires-clause-can c =
    let ready = c.requires.ready in
    let held : words_in c.args.self.now.heap.words ≡ c.in-Some.words = ap words_in c.in-Some.is in
    let words : c.finish.new.words ≡ words_in c.args.self.now.heap.words = c.finish.ensures.words ∙ sym held in
    let f = c.finish.ensures.finished ready.opening (subst (λ (l : List ℕ).
    IsReady ready.opening l c.args.self.now.heap.segments c.args.marking.marker) held ready.ready) in (
      finished_on ready.opening c.finish.new.segments c.finish.new.self f,
      subst (λ (l : List ℕ).
          CanResolve (finished_on ready.opening c.finish.new.segments c.finish.new.self f) l c.finish.new.segments c.finish.new.self
          (places_of c.args.self.now.heap.weaks.list)) (sym words) (ready.resolves c.finish.new.segments c.finish.new.self f),
    )

pub queue_all-requires : goal.queue_all-requires
queue_all-requires c =
    let ready = c.requires.ready in
    let held : words_in c.args.self.now.heap.words ≡ c.in-Some.words = ap words_in c.in-Some.is in
    let words : c.finish.new.words ≡ words_in c.args.self.now.heap.words = c.finish.ensures.words ∙ sym held in
    let f = c.finish.ensures.finished ready.opening (subst (λ (l : List ℕ).
    IsReady ready.opening l c.args.self.now.heap.segments c.args.marking.marker) held ready.ready) in
    let o = finished_on ready.opening c.finish.new.segments c.finish.new.self f in
    let can = subst (λ (l : List ℕ).
    CanResolve o l c.finish.new.segments c.finish.new.self (places_of c.args.self.now.heap.weaks.list)) (sym words)
    (ready.resolves c.finish.new.segments c.finish.new.self f) in
    let room : HaveRoom c.resolve.new.self.deaths (queues_in c.args.self.now.mutators.items) =
    ready.queue_room c.finish.new.segments c.resolve.new.segments c.finish.new.self c.resolve.new.marker c.resolve.new.words
    c.resolve.new.self.list c.resolve.new.self.deaths f (c.resolve.ensures.resolved o can) in
    subst (λ (y : List Death × List Mutator). HaveRoom y.0 (queues_in y.1)) (λ i. (sym c.deaths.ensures i, sym c.as_mut_slice.ensures.value i)) room

pub returns-clause-closed : goal.returns-clause-closed
returns-clause-closed c =
    let v = c.args.self.now.mutators in
    let held : words_in c.args.self.now.heap.words ≡ c.in-Some.words = ap words_in c.in-Some.is in
    let words : c.finish.new.words ≡ words_in c.args.self.now.heap.words = c.finish.ensures.words ∙ sym held in
    let marked : Segments = c.resolve.new.segments in
    let was = c.as_mut_slice.ensures.value in
    let later : List Mutator = c.queue_all.new.mutators in
    let count : length later ≡ length v.items = c.queue_all.ensures.have.count ∙ ap (λ (ms : List Mutator). length ms) was in
    let turns : c.marker.inside.turns ≡ c.args.marking.marker.turns = ap (λ (m : MarkerSeen). m.turns) c.marker.view_is ∙ c.resolve.ensures.turns ∙
    c.finish.ensures.turns in
    let joined : FinalisersQueued c.resolve.new.self.deaths v.items later =
    subst (λ (y : List Death × List Mutator). FinalisersQueued y.0 y.1 later) (λ i. (c.deaths.ensures i, was i)) c.queue_all.ensures in
    record {
      between = c.finish.new.segments;
      finisher = c.finish.new.self;
      marker = c.resolve.new.marker;
      marked = marked;
      first = c.finish.ensures.marked;
      second = c.resolve.ensures.marked;
      finished = λ o ready. c.finish.ensures.finished o (subst (λ (l : List ℕ). IsReady o l c.args.self.now.heap.segments c.args.marking.marker) held ready);
      resolved = λ o can. c.resolve.ensures.resolved o (subst (λ (l : List ℕ).
          CanResolve o l c.finish.new.segments c.finish.new.self (places_of c.args.self.now.heap.weaks.list)) (sym words) can);
      joined = subst (λ (ms : List Mutator). FinalisersQueued c.resolve.new.self.deaths v.items ms) (sym (vec_back v later count)) joined;
      carried = c.carry.ensures.value ∙
          ap (λ (epoch : ℕ). let s : Segments = record marked { segments = map (carried_over epoch) marked.segments } in s) c.epoch.ensures.epoch;
      sound = (c.segments_are_sound.ensures, c.carry.ensures.sound);
      is = same_sweeping c.args.marking c.args.stop c.marked.result c.resolve.new.marker.marked _
          (turned c.args.marking.sweeper c.args.marking.marker.turns) c.marked.ensures
          (ap (λ (s : Sweeper). turned s c.marker.inside.turns) c.sweeper.view_is ∙ ap (λ (n : ℕ). turned c.args.marking.sweeper n) turns);
    }
