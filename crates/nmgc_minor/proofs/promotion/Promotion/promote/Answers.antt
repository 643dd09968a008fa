use Rattle.nmgc_minor.proofs.{Vocabulary.◌≡◌, Vocabulary.ℕ, Vocabulary.List, Vocabulary.map, Vocabulary.ap, Vocabulary.◌∙◌, Vocabulary.arith, Vocabulary.flat_map, Vocabulary.FinQueue, Vocabulary.young_base, Vocabulary.inputs_by, Vocabulary.words_of, Vocabulary.forward_word, Vocabulary.Promotion, Listing.registers_then, Listing.queues_then, Listing.nurseries_then, Listing.words_forwarded, Listing.room_forwarded, Stops.stop_allows, Stops.stop_settles, Stops.stop_places, Stops.stop_fields}
use Rattle.nmgc_minor.proofs.promotion.Promotion.promote.Goals as goal

pub run_passes-requires-clause-can : goal.run_passes-requires-clause-can
run_passes-requires-clause-can g c =
    let m = g.M.MutatorRoots in
    let ms = c.args.mutators.now in
    let inputs = inputs_by m.registers m.queue m.recorded m.young_weaks ms in
    stop_allows c.requires.stopped.0 c.args.segments.now (g.W.HeapWords.words c.args.words.now) (map m.nursery ms) inputs
    c.words_differ.ensures.headers c.words_differ.ensures.names c.requires.stopped.1

pub returns-clause-settled : goal.returns-clause-settled
returns-clause-settled g c = λ t h.
    let m = g.M.MutatorRoots in
    let laws = g.met.M.MutatorRoots in
    let ms = c.args.mutators.now in
    let inputs = inputs_by m.registers m.queue m.recorded m.young_weaks ms in
    let p = c.run_passes.ensures in
    let forward : ℕ → ℕ = forward_word c.run_passes.new.young.table.items (young_base c.args.segments.now) in
    let done = stop_settles t c.args.segments.now (g.W.HeapWords.words c.args.words.now) (map m.nursery ms) inputs c.words_differ.ensures.headers
    c.words_differ.ensures.names h c.run_passes.new.segments (g.W.HeapWords.words c.run_passes.new.words) c.run_passes.new.moves.items
    c.run_passes.new.young.table.items p.sound p.layout p.promotes in
    let registers : flat_map m.registers c.run_passes.new.mutators ≡ map forward (flat_map m.registers ms) = ap (λ l. flat_map m.registers l) p.mutators ∙
    registers_then m.registers m.with_registers m.queue m.with_queue m.after_stop forward laws.own_registers laws.queue_apart laws.registers_stay ms in
    let queues : words_of (map m.queue c.run_passes.new.mutators) ≡ map (map forward) (words_of (map m.queue ms)) =
    ap (λ l. words_of (map m.queue l)) p.mutators ∙
    ap words_of (queues_then m.registers m.with_registers m.queue m.with_queue m.after_stop forward laws.own_queue laws.queue_stays laws.registers_apart ms) ∙
    words_forwarded forward (map m.queue ms) in
    rw (registers, queues) done

pub returns-clause-places : goal.returns-clause-places
returns-clause-places g c = λ t h a st.
    let m = g.M.MutatorRoots in
    let ms = c.args.mutators.now in
    let inputs = inputs_by m.registers m.queue m.recorded m.young_weaks ms in
    let p = c.run_passes.ensures in
    stop_places t c.args.segments.now (g.W.HeapWords.words c.args.words.now) (map m.nursery ms) inputs c.words_differ.ensures.headers
    c.words_differ.ensures.names h c.run_passes.new.segments (g.W.HeapWords.words c.run_passes.new.words) c.run_passes.new.moves.items
    c.run_passes.new.young.table.items p.sound p.layout p.promotes a st

pub returns-clause-changes : goal.returns-clause-changes
returns-clause-changes g c =
    let m = g.M.MutatorRoots in
    let laws = g.met.M.MutatorRoots in
    let ms = c.args.mutators.now in
    let inputs = inputs_by m.registers m.queue m.recorded m.young_weaks ms in
    let forward : ℕ → ℕ = forward_word c.run_passes.new.young.table.items (young_base c.args.segments.now) in
    let p = c.run_passes.ensures in (
      forward,
      record {
        forwards = p.promotes.forwards;
        rewrites = p.promotes.rewrites;
        fields = stop_fields c.requires.stopped.0 c.args.segments.now (g.W.HeapWords.words c.args.words.now) (map m.nursery ms) inputs
            c.words_differ.ensures.headers c.words_differ.ensures.names c.requires.stopped.1 c.run_passes.new.segments
            (g.W.HeapWords.words c.run_passes.new.words) c.run_passes.new.moves.items c.run_passes.new.young.table.items p.sound p.layout p.promotes;
        held = ap (λ l. flat_map m.registers l) p.mutators ∙
            registers_then m.registers m.with_registers m.queue m.with_queue m.after_stop forward laws.own_registers laws.queue_apart laws.registers_stay ms;
        queued = ap (λ l. words_of (map m.queue l)) p.mutators ∙
            ap words_of (queues_then m.registers m.with_registers m.queue m.with_queue m.after_stop forward laws.own_queue laws.queue_stays
            laws.registers_apart ms) ∙
            words_forwarded forward (map m.queue ms);
      },
      p.mutators,
    )

pub returns-clause-room : goal.returns-clause-room
returns-clause-room g c =
    let m = g.M.MutatorRoots in
    let laws = g.met.M.MutatorRoots in
    let ms = c.args.mutators.now in
    let forward : ℕ → ℕ = forward_word c.run_passes.new.young.table.items (young_base c.args.segments.now) in
    ap (λ l. map (λ (queue : FinQueue). queue.spare) (map m.queue l)) c.run_passes.ensures.mutators ∙
    ap (λ (l : List FinQueue). map (λ (queue : FinQueue). queue.spare) l) (queues_then m.registers m.with_registers m.queue m.with_queue m.after_stop
    forward laws.own_queue laws.queue_stays laws.registers_apart ms) ∙ room_forwarded forward (map m.queue ms)

pub returns-clause-emptied : goal.returns-clause-emptied
returns-clause-emptied g c =
    let m = g.M.MutatorRoots in
    let laws = g.met.M.MutatorRoots in
    let ms = c.args.mutators.now in
    let forward : ℕ → ℕ = forward_word c.run_passes.new.young.table.items (young_base c.args.segments.now) in
    ap (λ l. map m.nursery l) c.run_passes.ensures.mutators ∙
    nurseries_then m.registers m.with_registers m.queue m.with_queue m.after_stop forward m.nursery laws.nursery_empties laws.queue_nursery
    laws.registers_nursery ms

pub returns-clause-marks : goal.returns-clause-marks
returns-clause-marks g c = c.run_passes.ensures.promotes.placing.marks

pub returns-clause-few : goal.returns-clause-few
returns-clause-few g c =
    let few = c.run_passes.ensures.promotes.few in
    let size = c.run_passes.ensures.size in
    let lent = ap (λ (p : Promotion). p.size) c.self.view_is ∙ c.requires.layout.size in
    omega (arith, few, size, lent)
