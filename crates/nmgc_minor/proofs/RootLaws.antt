-- The contents of words that represent the roots.
use Rattle.nmgc_minor.proofs.Vocabulary.{◌≡◌, ◌<◌, ◌+◌, ◌*◌, ◌/◌, ◌%◌, ℕ, List, [], length, inl, inr, sym, ap, subst, ◌∙◌, arith, Some, get_or, Contains, slice_index_or, cases_lt, get_or_past, get_or_default, Contains-get_or, slice_get-get_or, Name, Value, Nil, Ref, REGISTERS, MutatorState, World, state_of, no_mutator, IsWorld, Place, Means, RepresentsRoots, Remembers, Inputs, HasInputs, list_has, list_of, slice_index}

module _ (places : List Place) (w : World) (registers : List ℕ) (queues : List (List ℕ)) (serials : List ℕ) (world : IsWorld w)
    (r : RepresentsRoots places w registers queues serials) where
  -- only an existing mutator holds a value
  there : (m : ℕ) → (0 < length (state_of w m).registers) → m < length w.mutators
  there m some = elim (cases_lt m (length w.mutators)) [
    | inl lt ↦ lt
    | inr past ↦
        let e : state_of w m ≡ no_mutator = get_or_past w.mutators m no_mutator past in
        let f : length (state_of w m).registers ≡ 0 = ap (λ (q : MutatorState). length q.registers) e in
        absurd (omega (arith, f, some))
  ]

  queue_there : (m : ℕ) → (0 < length (state_of w m).queue) → m < length w.mutators
  queue_there m some = elim (cases_lt m (length w.mutators)) [
    | inl lt ↦ lt
    | inr past ↦
        let e : state_of w m ≡ no_mutator = get_or_past w.mutators m no_mutator past in
        let f : length (state_of w m).queue ≡ 0 = ap (λ (q : MutatorState). length q.queue) e in
        absurd (omega (arith, f, some))
  ]

  held : (word : ℕ) → Contains registers word → (m : ℕ) × (v : Value) × Contains (state_of w m).registers v × Means (Contains places) word v
  held word c =
      let count = r.count in
      let m : ℕ = c.0 / REGISTERS in
      let i : ℕ = c.0 % REGISTERS in
      let lt : m < length w.mutators = omega (arith, c.1, count) in
      let size = world.registers m lt in
      let own = (state_of w m).registers in
      let within : i < length own = omega (arith, size) in
      let v = get_or own i Nil in
      let f = r.held m lt i v (slice_get-get_or own i Nil within) in
      let at : REGISTERS * m + i ≡ c.0 = omega arith in
      let word_is : slice_index registers (REGISTERS * m + i) ≡ word = cc (at, get_or_default registers c.0 0 word c.1, c.2) in
      (m, v, Contains-get_or own i Nil within, subst (λ (x : ℕ). Means (Contains places) x v) word_is f)

  holds_all : (m : ℕ) (n : Name) → Contains (state_of w m).registers (Ref n) → (at : ℕ) × Contains registers (2 * at) ×
      Contains places (record { at = at; name = n })
  holds_all m n c =
      let count = r.count in
      let lt = there m (omega (arith, c.1)) in
      let size = world.registers m lt in
      let f = r.held m lt c.0 (Ref n) (slice_get-get_or (state_of w m).registers c.0 (Ref n) c.1 ∙ ap Some c.2) in
      let k : ℕ = REGISTERS * m + c.0 in
      let within : k < length registers = omega (arith, count, size, c.1, lt) in
      (f.0, (k, within, get_or_default registers k (2 * f.0) 0 within ∙ f.1), f.2)

  waiting : (queue : List ℕ) (word : ℕ) → Contains queues queue → Contains queue word → (m : ℕ) × (v : Value) × Contains (state_of w m).queue v ×
      Means (Contains places) word v
  waiting queue word c d =
      let h = list_has (Contains places) queue (state_of w c.0).queue word (r.queued c.0 queue (slice_get-get_or queues c.0 queue c.1 ∙ ap Some c.2)) d in
      (c.0, h.0, h.1, h.2)

  waits_all : (m : ℕ) (n : Name) → Contains (state_of w m).queue (Ref n) → (at : ℕ) × (queue : List ℕ) × Contains queues queue ×
      Contains queue (2 * at) × Contains places (record { at = at; name = n })
  waits_all m n c =
      let count = r.mutators.0 in
      let lt = queue_there m (omega (arith, c.1)) in
      let within : m < length queues = omega (arith, count, lt) in
      let own : List ℕ = slice_index_or queues m [] in
      let h = list_of (Contains places) own (state_of w m).queue (Ref n) (r.queued m own (slice_get-get_or queues m [] within)) c in
      (h.2.0, own, Contains-get_or queues m [] within, subst (λ (x : ℕ). Contains own x) h.2.1 h.1, h.2.2)

  pub has_inputs : (base : ℕ) (earlier : List World) (inputs : Inputs) → inputs.registers ≡ registers → inputs.queues ≡ queues →
      Remembers base earlier places w inputs.recorded inputs.weaks → HasInputs base earlier places w inputs
  has_inputs base earlier inputs first second left = record {
    held = λ word c. held word (subst (λ (xs : List ℕ). Contains xs word) first c);
    holds_all = λ m n c. let h = holds_all m n c in (h.0, subst (λ (xs : List ℕ). Contains xs (2 * h.0)) (sym first) h.1, h.2);
    waiting = λ queue word c d. waiting queue word (subst (λ (xs : List (List ℕ)). Contains xs queue) second c) d;
    waits_all = λ m n c. let h = waits_all m n c in (h.0, h.1, subst (λ (xs : List (List ℕ)). Contains xs h.1) (sym second) h.2, h.3, h.4);
    left = left;
  }
