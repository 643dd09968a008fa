-- With current and active segments filed as filled, the collector represents the state with them filed.
use Rattle.nmgc_cycle.proofs.Vocabulary.{ℕ, ◌≡◌, ◌<◌, length, map, refl, sym, ap, subst, ◌∙◌, arith, inl, inr, length-map, World, block_size, Layout, Segment, AllocState, Cells, cells, all_retired, retired_state, nth, Segments, block_place, IsSegments, retired, retired_cells, retired_names, nth-map, retired_stands, Place, FitBlocks, HoldsAtStop, IsPlaceAtStop, AreSettled, ends_of, IsSoundState, State, Progress, idle, plan_of, layout_of, with_all_retired, retired_filed, Script, named_retired, Collector, Doing, filed_by, FilingLeads, IsWellFormed, seen, words_in, phase_in, StandsAt, none_then}
use Rattle.nmgc_cycle.specs.declared.progress.Progress.TheVariants as doing
use Rattle.nmgc_cycle.proofs.cycles.StepReady.{idle_state}

-- names stay in their blocks, and the blocks in place

module _ (layout : Layout) (a : AllocState) where
  class_same : (number : ℕ) → (cells (all_retired a) number).class ≡ (cells a number).class
  class_same number = ap (λ (x : Cells). x.class) (retired_cells a number)

  place_then : (p : Place) → IsPlaceAtStop layout a p → IsPlaceAtStop layout (all_retired a) p
  place_then p (inl g) = inl g
  place_then p (inr b) = inr (record {
    number = b.number;
    block = b.block;
    lies = (retired_names a b.number b.block p.name).1 b.lies;
    at = b.at ∙ ap (λ (k : ℕ). block_place layout b.number k b.block) (sym (class_same b.number));
  })

  place_back : (p : Place) → IsPlaceAtStop layout (all_retired a) p → IsPlaceAtStop layout a p
  place_back p (inl g) = inl g
  place_back p (inr b) = inr (record {
    number = b.number;
    block = b.block;
    lies = (retired_names a b.number b.block p.name).0 b.lies;
    at = b.at ∙ ap (λ (k : ℕ). block_place layout b.number k b.block) (class_same b.number);
  })

  fit_then : (w : World) → FitBlocks w a → FitBlocks w (all_retired a)
  fit_then w fit number block n node lies e =
      let size = fit number block n node ((retired_names a number block n).0 lies) e in
      let same = ap block_size (class_same number) in
      omega (arith, size, same)

-- marks stay
settled_then : (begun : ℕ) (s : Segments) → AreSettled begun s → AreSettled begun (record s { segments = map retired s.segments })
settled_then begun s settled number block exists other =
    let there : number < length s.segments = (let count = length-map s.segments retired in omega (arith, exists, count)) in
    let is : nth (map retired s.segments) number ≡ retired (nth s.segments number) = nth-map retired s.segments number there in
    rw is (settled number block there (λ waits.
    other (ap (λ (x : Segment). x.state) is ∙ ap retired_state waits)))

module _ (script : Script) (c : Collector) (st : State) (h : StandsAt script (record c { cycle = record c.cycle { progress = doing.Idle } }) (record st {
  progress =
      idle;
})) (sound : IsSegments (filed_by c).heap.segments) where
  abbrev old : Collector
  old = record c { cycle = record c.cycle { progress = doing.Idle } }

  abbrev s : State
  s = record st { progress = idle }

  abbrev layout : Layout
  layout = layout_of (plan_of script)

  abbrev next : Collector
  next = filed_by old

  abbrev t : State
  t = with_all_retired s

  heap : HoldsAtStop layout t (words_in c.heap.words) next.heap.segments (ends_of (seen next)) (seen next).weaks
  heap = record {
    places = h.heap.places;
    all = λ p. ((λ there. place_then layout st.allocation p ((h.heap.all p).0 there)), (λ lies. (h.heap.all p).1 (place_back layout st.allocation p lies)));
    holds = record {
      fit = fit_then layout st.allocation st.world h.heap.holds.fit;
      represents = h.heap.holds.represents;
      registers = h.heap.holds.registers;
      roots = h.heap.holds.roots;
      layout_is = h.heap.holds.layout_is;
      stands = retired_stands c.heap.segments (words_in c.heap.words) st.allocation h.heap.holds.stands;
    };
    listed = h.heap.listed;
  }

  sound_then : IsSoundState (plan_of script) t
  sound_then = record {
    world = h.sound.world;
    able = record { programs = h.sound.able.programs; mutators = h.sound.able.mutators; registers = h.sound.able.registers; serials = h.sound.able.serials };
    sound_blocks = retired_filed layout st.allocation h.sound.sound_blocks;
    known = λ number block n lies. h.sound.known number block n ((retired_names st.allocation number block n).0 lies);
    cycle = tt;
    earlier = h.sound.earlier;
    blocks = λ n tracked other. let has = h.sound.blocks n tracked other in (has.0, has.1, (retired_names st.allocation has.0 has.1 n).1 has.2);
  }

  still_kept : IsWellFormed script next
  still_kept = record {
    layout = h.kept.layout;
    sound = sound;
    lists = h.kept.lists;
    entries = h.kept.entries;
    has_words = h.kept.has_words;
    count = h.kept.count;
    own = λ n m e. let o = h.kept.own n m e in record { number = o.number; layout = o.layout; whole = o.whole; no_replies = o.no_replies; line = o.line };
    inbox = h.kept.inbox;
    positions_are = h.kept.positions_are;
    positions = h.kept.positions;
    no_ends = h.kept.no_ends;
    room = h.kept.room;
    workers = h.kept.workers;
  }

  pub stands_filed : StandsAt script next t
  unfolding heap
  stands_filed = record {
    kept = still_kept;
    sound = sound_then;
    course = none_then st.allocation h.course;
    matches = record { phase = refl; begun = h.matches.begun; collect = h.matches.collect; full = h.matches.full };
    heap = heap;
    nurseries = h.nurseries;
    empty = h.empty;
    rest = h.rest;
    cycle = settled_then st.begun c.heap.segments h.cycle;
    sweeper = tt;
    named = named_retired layout c.heap.names st.allocation h.named;
  }

pub filing_leads : FilingLeads
filing_leads script c s limits h at sound =
    let quiet : s.progress ≡ idle = idle_state s.progress (sym (ap phase_in at) ∙ h.matches.phase) in
    let was : c ≡ record c { cycle = record c.cycle { progress = doing.Idle } } = ap (λ (p : Doing). record c { cycle = record c.cycle { progress = p } }) at in
    let state : s ≡ record s { progress = idle } = ap (λ (q : Progress). record s { progress = q }) quiet in
    let stood : StandsAt script (record c { cycle = record c.cycle { progress = doing.Idle } }) (record s { progress = idle }) =
    subst (λ (x : Collector). StandsAt script x (record s { progress = idle })) was (subst (λ (y : State). StandsAt script c y) state h) in
    let there : StandsAt script (filed_by (record c { cycle = record c.cycle { progress = doing.Idle } })) (with_all_retired (record s { progress = idle })) =
    stands_filed script c s stood sound in
    rw was (rw state there)
