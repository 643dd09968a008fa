-- The heap at a stop of a run is a stopped heap, whose roots are the mutators' values.
use Rattle.nmgc_pmark.proofs.Vocabulary.{◌≡◌, ◌<◌, ℕ, List, [], ◌∷◌, suc, length, get_or, refl, sym, ap, subst, arith, inl, inr, Some, Contains, slice_get, flat_map, MutatorState, Name, IsWorld, no_mutator, IsReached, contains_head, block_size, nursery_place, Layout, cells, Segments, IsSegments, Place, ListMeans, Represents, NoNode, IsTracked, AreBlocks, IsOccupied, is_block, MutatorEnd, HoldsAtStop, snapshots, registers_of, queues_of, block_used, blocks_at_stop, Stopped, roots_of, root_words, IsStoppedAs, StopsAreStopped, means_append, flat_registers}
use Rattle.nmgc_run_spec.specs.Run.{State}
use Rattle.nmgc_world_spec.specs.declared.value.Value.TheVariants as value
use Rattle.nmgc_pmark.proofs.Scans.{start_root}

-- and so are their finaliser queues
flat_queues : (P : Place → Type 0) (ends : List MutatorEnd) (xs : List MutatorState) → length (queues_of ends) ≡ length xs →
    ((m : ℕ) (own : List ℕ) → slice_get (queues_of ends) m ≡ Some own → ListMeans P own (get_or xs m no_mutator).queue) →
    ListMeans P (flat_map (λ (m : MutatorEnd). m.queue) ends) (flat_map (λ (state : MutatorState). state.queue) xs)
flat_queues P [] [] e h = tt
flat_queues P [] (x ∷ xs) e h = absurd (omega (arith, e))
flat_queues P (q ∷ ends) [] e h = absurd (omega (arith, e))
flat_queues P (q ∷ ends) (x ∷ xs) e h =
    means_append P q.queue (flat_map (λ (m : MutatorEnd). m.queue) ends) x.queue (flat_map (λ (state : MutatorState).
    state.queue) xs) (h 0 q.queue refl) (flat_queues P ends xs (omega (arith, e)) (λ m own g. h (suc m) own g))

module _ (layout : Layout) (s : State) (words : List ℕ) (segments : Segments) (mutators : List MutatorEnd) (weaks : List Place)
    (world : IsWorld s.world) (sound : IsSegments segments) (h : HoldsAtStop layout s words segments mutators weaks) where
  abbrev base : ℕ
  base = nursery_place segments.layout 0

  abbrev heap : Stopped
  heap = record { world = s.world; earlier = snapshots s.progress; places = h.places; roots = roots_of s.world }

  -- no object lies in a nursery
  emptied : (p : Place) → Contains h.places p → p.at < base
  emptied p c = elim ((h.all p).0 c) [
    | inl g ↦ let at : p.at ≡ 1 = ap (λ (q : Place). q.at) g in omega (arith, at)
    | inr b ↦
        let o : IsOccupied segments p.at (block_size (cells s.allocation b.number).class) =
        subst (λ (k : ℕ). IsOccupied segments k (block_size (cells s.allocation b.number).class)) (sym b.at)
        (block_used layout s.allocation words segments h.holds.layout_is h.holds.stands b.number b.block p.name b.lies) in
        let k = is_block segments base p.at (block_size (cells s.allocation b.number).class) sound refl o in
        let four = k.four in
        let below = k.below in
        omega (arith, four, below)
  ]

  root_tracked : (name : Name) → Contains (roots_of s.world) (value.Ref name) → IsTracked s.world (snapshots s.progress) name
  root_tracked name c = IsReached.start name (
    s.world,
    contains_head s.world (snapshots s.progress),
    IsReached.start name (inl (start_root s.world world name (inr c))),
  )

  means : ListMeans (Contains h.places) (root_words mutators) (roots_of s.world)
  means =
      means_append (Contains h.places) (registers_of mutators) (flat_map (λ (m : MutatorEnd).
      m.queue) mutators) (flat_map (λ (state : MutatorState). state.registers) s.world.mutators) (flat_map (λ (state : MutatorState).
      state.queue) s.world.mutators)
      (flat_registers (Contains h.places) s.world.mutators (registers_of mutators) h.holds.roots.count (λ m lt. (
        world.registers m lt,
        h.holds.roots.held m lt,
      )))
      (flat_queues (Contains h.places) mutators s.world.mutators h.holds.roots.mutators.0 h.holds.roots.queued)

  stopped : IsStoppedAs s segments words (root_words mutators)
  stopped = record {
    heap = heap;
    world = refl;
    roots_are = refl;
    is = record {
      world = world;
      represents = subst (λ (l : Layout). Represents l (snapshots s.progress) NoNode h.places s.world words) (sym h.holds.layout_is) h.holds.represents;
      segments = sound;
      blocks = subst (λ (l : Layout).
          AreBlocks segments (nursery_place l 0) h.places s.world) (sym h.holds.layout_is) (blocks_at_stop layout s words segments mutators weaks h);
      emptied = emptied;
      means = means;
      tracked = root_tracked;
    };
  }

pub stops_are_stopped : StopsAreStopped
stops_are_stopped layout s words segments mutators weaks world sound h = stopped layout s words segments mutators weaks world sound h
