-- The roots of all mutators in one list are the roots of each mutator.
use Rattle.std.specs.Prelude.{◌≡◌, ◌+◌, ◌*◌, ◌<◌, ◌++◌, ◌∷◌}
use Rattle.nmgc_run_laws.specs.laws.Vocabulary.{ℕ, zero, suc, List, [], length, map, arith, refl, sym, ap, subst, ◌∙◌, Some, Contains, slice_get, slice_index, get_or, All, All-head, All-tail, length-append, length-map, slice_get_within, World, IsWorld, MutatorEnd, Place, state_of}
use Rattle.std.proofs.lemmas.{List.get_or-append-add, List.get_or_append_left, Option.slice_get-get_or}
use Rattle.nmgc_limits.specs.declared.mutators.TheConstants.{REGISTERS}
use Rattle.nmgc_lists.specs.laws.{Items.item_map, Items.of_item, Options.some_is}
use Rattle.nmgc_world_spec.specs.declared.value.Value.{Value}
use Rattle.nmgc_heap_spec.specs.{Objects.Means, Objects.ListMeans, Roots.RepresentsRoots}
use Rattle.nmgc_run_spec.specs.{Lawful.IsMutatorAtEnd, Terms.HasAllRegisters, Terms.registers_of, Terms.queues_of, Terms.serials_of}

module _ (P : Place → Type 0) where
  list_means : (words : List ℕ) (values : List Value) → length words ≡ length values →
      ((i : ℕ) (v : Value) → slice_get values i ≡ Some v → Means P (slice_index words i) v) → ListMeans P words values
  list_means [] [] e h = tt
  list_means [] (v ∷ vs) e h = absurd (omega (arith, e))
  list_means (w ∷ ws) [] e h = absurd (omega (arith, e))
  list_means (w ∷ ws) (v ∷ vs) e h = (h 0 v refl, list_means ws vs (omega (arith, e)) (λ i u g. h (suc i) u g))

  means_length : (words : List ℕ) (values : List Value) → ListMeans P words values → length words ≡ length values
  means_length [] [] h = refl
  means_length [] (v ∷ vs) h = absurd h
  means_length (w ∷ ws) [] h = absurd h
  means_length (w ∷ ws) (v ∷ vs) h = ap suc (means_length ws vs h.1)

  means_at : (words : List ℕ) (values : List Value) → ListMeans P words values → (i : ℕ) (v : Value) → slice_get values i ≡ Some v →
      Means P (slice_index words i) v
  means_at [] [] h i v e = absurd cc
  means_at [] (x ∷ vs) h i v e = absurd h
  means_at (w ∷ ws) [] h i v e = absurd h
  means_at (w ∷ ws) (x ∷ vs) h zero v e = subst (Means P w) (some_is x v e) h.0
  means_at (w ∷ ws) (x ∷ vs) h (suc i) v e = means_at ws vs h.1 i v e

some_at : (xs : List MutatorEnd) (i : ℕ) → i < length xs → (own : MutatorEnd) × (slice_get xs i ≡ Some own)
some_at [] i lt = absurd (omega (arith, lt))
some_at (y ∷ ys) zero lt = (y, refl)
some_at (y ∷ ys) (suc i) lt = some_at ys i (omega (arith, lt))

-- a mutator's register in the list of all registers
flat_at : (ends : List MutatorEnd) → All HasAllRegisters ends → (m i : ℕ) (own : MutatorEnd) → slice_get ends m ≡ Some own → i < REGISTERS →
    slice_index (registers_of ends) (REGISTERS * m + i) ≡ slice_index own.registers i
flat_at [] all m i own e lt = absurd cc
flat_at (x ∷ ends) all zero i own e lt =
    let count : length x.registers ≡ REGISTERS = All-head HasAllRegisters x ends all in
    let start : REGISTERS * 0 + i ≡ i = omega arith in
    ap (λ (k : ℕ). get_or (x.registers ++ registers_of ends) k 0) start ∙
    get_or_append_left x.registers (registers_of ends) 0 i (omega (arith, count, lt)) ∙
    ap (λ (o : MutatorEnd). slice_index o.registers i) (some_is x own e)
flat_at (x ∷ ends) all (suc m) i own e lt =
    let count : length x.registers ≡ REGISTERS = All-head HasAllRegisters x ends all in
    let past : REGISTERS * suc m + i ≡ length x.registers + (REGISTERS * m + i) = omega (arith, count) in
    ap (λ (k : ℕ). get_or (x.registers ++ registers_of ends) k 0) past ∙
    get_or-append-add x.registers (registers_of ends) (REGISTERS * m + i) 0 ∙
    flat_at ends (All-tail HasAllRegisters x ends all) m i own e lt

flat_count : (ends : List MutatorEnd) → All HasAllRegisters ends → length (registers_of ends) ≡ REGISTERS * length ends
flat_count [] all = refl
flat_count (x ∷ ends) all =
    let count : length x.registers ≡ REGISTERS = All-head HasAllRegisters x ends all in
    let rest = flat_count ends (All-tail HasAllRegisters x ends all) in
    let both = length-append x.registers (registers_of ends) in
    omega (arith, count, rest, both)

module _ (places : List Place) (w : World) (world : IsWorld w) (ends : List MutatorEnd) where
  pub each_at_end : All HasAllRegisters ends → RepresentsRoots places w (registers_of ends) (queues_of ends) (serials_of ends) →
      (length ends ≡ length w.mutators) × ((m : ℕ) (own : MutatorEnd) → slice_get ends m ≡ Some own → IsMutatorAtEnd places w m own)
  each_at_end all r = (count, each)
    where
      count : length ends ≡ length w.mutators
      count = sym (length-map ends (λ (o : MutatorEnd). o.queue)) ∙ r.mutators.0

      each : (m : ℕ) (own : MutatorEnd) → slice_get ends m ≡ Some own → IsMutatorAtEnd places w m own
      each m own e =
          let lt : m < length w.mutators = let below = slice_get_within ends m own e in omega (arith, below, count) in
          let many : length (state_of w m).registers ≡ REGISTERS = world.registers m lt in
          let own_many : length own.registers ≡ REGISTERS = of_item HasAllRegisters ends m own all e in
          record {
            registers = list_means (Contains places) own.registers (state_of w m).registers (own_many ∙ sym many) (λ i v g.
                let below = slice_get_within (state_of w m).registers i v g in
                subst (λ (k : ℕ). Means (Contains places) k v) (flat_at ends all m i own e (omega (arith, below, many))) (r.held m lt i v g));
            queue = r.queued m own.queue (item_map (λ (o : MutatorEnd). o.queue) ends m own e);
            serial = r.next m own.serial (item_map (λ (o : MutatorEnd). o.serial) ends m own e);
          }

  module _ (count : length ends ≡ length w.mutators) (each : (m : ℕ) (own : MutatorEnd) → slice_get ends m ≡ Some own → IsMutatorAtEnd places w m own) where
    pub all_registers : All HasAllRegisters ends
    all_registers k d lt =
        let own : MutatorEnd = get_or ends k d in
        let e : slice_get ends k ≡ Some own = slice_get-get_or ends k d lt in
        means_length (Contains places) own.registers (state_of w k).registers (each k own e).registers ∙
        world.registers k (omega (arith, lt, count))

    -- the mutator with an item of a mapped list
    mutator_at : {X : Type 0} (f : MutatorEnd → X) (m : ℕ) (x : X) → slice_get (map f ends) m ≡ Some x → (own : MutatorEnd) ×
        (slice_get ends m ≡ Some own) × (f own ≡ x)
    mutator_at f m x e =
        let many = length-map ends f in
        let below = slice_get_within (map f ends) m x e in
        let own = some_at ends m (omega (arith, below, many)) in
        (own.0, own.1, some_is (f own.0) x (sym (item_map f ends m own.0 own.1) ∙ e))

    pub roots_at_end : RepresentsRoots places w (registers_of ends) (queues_of ends) (serials_of ends)
    roots_at_end = record {
      count = let all = flat_count ends all_registers in omega (arith, all, count);
      mutators = (length-map ends (λ (o : MutatorEnd). o.queue) ∙ count, length-map ends (λ (o : MutatorEnd). o.serial) ∙ count);
      held = λ m lt i v g.
          let own = some_at ends m (omega (arith, lt, count)) in
          let below = slice_get_within (state_of w m).registers i v g in
          let many : length (state_of w m).registers ≡ REGISTERS = world.registers m lt in
          subst (λ (k : ℕ). Means (Contains places) k v) (sym (flat_at ends all_registers m i own.0 own.1 (omega (arith, below, many))))
          (means_at (Contains places) own.0.registers (state_of w m).registers (each m own.0 own.1).registers i v g);
      queued = λ m queue e.
          let own = mutator_at (λ (o : MutatorEnd). o.queue) m queue e in
          subst (λ (q : List ℕ). ListMeans (Contains places) q (state_of w m).queue) own.2 (each m own.0 own.1).queue;
      next = λ m serial e.
          let own = mutator_at (λ (o : MutatorEnd). o.serial) m serial e in
          sym own.2 ∙ (each m own.0 own.1).serial;
    }
