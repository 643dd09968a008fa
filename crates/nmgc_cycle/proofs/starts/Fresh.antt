-- A new collector is the beginning of a run.
use Rattle.nmgc_cycle.proofs.Vocabulary.{false, ℕ, ◌≡◌, ◌≤◌, ◌<◌, List, [], ◌∷◌, length, map, replicate, arith, sym, ap, subst, ◌∙◌, Some, vec_capacity, None, All, IsSome, slice_get, length-replicate, get_or-replicate, slice_get_within, new_world, Layout, IsLayout, word_total, Segments, IsSegments, all_free, all_empty, first_stands, IsFor, first_opening, CanOpen, Mutator, Script, MutatorEnd, plan_of, layout_of, HeapStandsFor, HasAllRegisters, AreSettled, end_of, answered_count, RoundRows, CycleRow, HaveEntries, Collector, IsOwn, IsWellFormed, IsFresh, seen, seen_mutator, phase_in, report_row, shared_place, IsLined, slice_index}
use Rattle.nmgc_collector_laws.specs.Collector.{IsNew}
use Rattle.nmgc_cycle.specs.declared.progress.Progress.TheVariants as progress
use Rattle.nmgc_cycle.proofs.{starts.Empty.fit_blocks, starts.Empty.place_of_g, starts.Empty.g_has_place, starts.Empty.lists_no_weaks, starts.Empty.no_marks, starts.News.AreNew, starts.News.new_end, starts.News.ends_are, starts.News.have_registers, starts.News.new_roots, starts.Unused.are_empty, starts.Unused.are_nurseries, starts.Unused.nothing_left}

-- the parts of a new collector
pub record IsMade (layout : Layout) (script : Script) (c : Collector) : Type 0 where
  pub lawful : IsLayout layout
  pub nothing : (c.rows.rounds ≡ []) × (c.rows.stops ≡ []) × (c.rows.cycles ≡ [])
  pub idle : (c.cycle.progress ≡ progress.Idle) × (c.cycle.begun ≡ 0) × (c.cycle.collect ≡ false) × (c.cycle.full ≡ false)
  pub goes_on : c.answered ≡ None
  pub weakless : c.heap.weaks.list ≡ []
  pub has_words : IsSome c.heap.words
  pub total : length (seen c).words ≡ word_total layout
  pub opens : CanOpen (first_opening layout) (seen c).words
  pub segments : c.heap.segments ≡ all_free layout
  pub sound : IsSegments c.heap.segments
  pub promotion : IsFor layout c.heap.promotion
  pub entries : HaveEntries layout c.heap.names
  pub count : length c.mutators.items ≡ layout.mutators
  pub new : AreNew layout c.mutators.items
  pub inbox : length c.inbox ≡ layout.mutators
  pub lines : (k : ℕ) (m : Mutator) → slice_get c.mutators.items k ≡ Some m → IsLined c.inbox k m.sender
  pub unsent : (k : ℕ) (m : Mutator) → slice_get c.mutators.items k ≡ Some m → m.sender.since ≡ []
  pub positions : c.positions.items ≡ replicate layout.mutators 0
  pub no_ends : c.report.ends.items ≡ []
  pub room : layout.mutators ≤ vec_capacity c.report.ends
  pub workers : layout.mutators ≤ c.workers

module _ (script : Script) (c : Collector) (made : IsMade (layout_of (plan_of script)) script c) where
  abbrev sizes : Layout
  sizes = layout_of (plan_of script)

  abbrev ends : List MutatorEnd
  ends = map end_of (map seen_mutator c.mutators.items)

  all_new : ends ≡ replicate (length script.threads) new_end
  all_new = ends_are sizes c.mutators.items made.new ∙ ap (λ (n : ℕ). replicate n new_end) made.count

  same_layout : c.heap.segments.layout ≡ sizes
  same_layout = ap (λ (s : Segments). s.layout) made.segments

  own : (k : ℕ) (m : Mutator) → slice_get c.mutators.items k ≡ Some m → IsOwn c k m
  own k m e =
      let is = made.new k m e in
      let lt = slice_get_within c.mutators.items k m e in
      let count = made.count in
      let number = is.number_is in
      let below : m.number < sizes.mutators = omega arith in
      record {
        number = number;
        layout = is.layout_is ∙ sym same_layout;
        whole = record {
          layout = subst IsLayout (sym is.layout_is) made.lawful;
          number = subst (λ (l : Layout). m.number < l.mutators) (sym is.layout_is) below;
          size = ap (λ (r : List ℕ). length r) is.registers;
        };
        no_replies = is.replies;
        line = made.lines k m e;
      }

  kept : IsWellFormed script c
  kept = record {
    layout = same_layout;
    sound = made.sound;
    lists = subst (λ (l : Layout). IsFor l c.heap.promotion) (sym same_layout) made.promotion;
    entries = subst (λ (l : Layout). HaveEntries l c.heap.names) (sym same_layout) made.entries;
    has_words = made.has_words;
    count = made.count;
    own = own;
    inbox = made.inbox;
    positions_are = ap length made.positions ∙ length-replicate (length script.threads) 0;
    positions = λ k lt. ap (λ (items : List ℕ). slice_index items k) made.positions ∙ get_or-replicate (length script.threads) k 0 0 lt ∙
        sym (ap (λ (rounds : List RoundRows). answered_count rounds k) made.nothing.0);
    no_ends = made.no_ends;
    room = made.room;
    workers = made.workers;
  }

  holds : HeapStandsFor sizes [] (shared_place ∷ []) (new_world (length script.threads)) (all_empty script.config.segments) (seen c).words c.heap.segments ends
  holds = record {
    fit = fit_blocks (new_world (length script.threads)) script.config.segments;
    represents = made.opens.represents;
    registers = subst (All HasAllRegisters) (sym all_new) (have_registers (length script.threads));
    roots = rw all_new (new_roots (shared_place ∷
        []) (length script.threads));
    layout_is = same_layout;
    stands = rw made.segments (first_stands sizes (seen c).words made.total);
  }

  is_new : IsNew (plan_of script) (seen c)
  is_new = record {
    nothing = (made.nothing.0, made.nothing.1, ap (λ (rows : List CycleRow). map report_row rows) made.nothing.2);
    matches = record { phase = ap phase_in made.idle.0; begun = made.idle.1; collect = made.idle.2; full = made.idle.3 };
    heap = record {
      places = shared_place ∷ [];
      all = λ p. (place_of_g sizes script.config.segments p, g_has_place sizes script.config.segments p);
      holds = holds;
      listed = rw made.weakless (lists_no_weaks sizes (shared_place ∷ []) (length script.threads));
    };
    at_rest = record {
      nurseries = are_nurseries sizes c.mutators.items made.new (new_world (length script.threads)) made.count;
      empty = are_empty sizes c.mutators.items made.new;
      nothing = nothing_left sizes c.mutators.items made.new made.unsent;
    };
    settled = subst (AreSettled 0) (sym made.segments) (no_marks sizes 0);
  }

  fresh : IsFresh script c
  fresh = record { kept = kept; goes_on = made.goes_on; new = is_new }

pub is_fresh : (layout : Layout) (script : Script) (c : Collector) → layout ≡ layout_of (plan_of script) → IsMade layout script c → IsFresh script c
is_fresh layout script c same made = fresh script c (subst (λ (l : Layout). IsMade l script c) same made)
