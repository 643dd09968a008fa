-- Marking may begin with a heap at a stop that was just prepared.
use Rattle.std.proofs.{Common.◌≡◌, Common.inl, Common.inr, Common.ℕ, Common.zero, Common.suc, Common.◌+◌, Common.List, Common.[], Common.◌∷◌, Common.map, Common.length, Common.get_or, Common.refl, Common.sym, Common.ap, Common.subst, Common.◌∙◌, Common.arith, Common.Some, Common.None, Common.Option, lemmas.Option.slice_get_within as got_below}
use Rattle.std.specs.{Prelude.Contains, Prelude.IsSome, Prelude.slice_get, List.flat_map}
use Rattle.nmgc_limits.specs.declared.mutators.TheConstants.{SHARED_SLOTS}
use Rattle.nmgc_world_spec.specs.{declared.value.Name.Name, declared.value.Value.Value, declared.node.Node.Node, declared.node.Node.TheVariants.Con, declared.node.Node.TheVariants.Var, declared.node.Node.TheVariants.Arr, declared.node.Node.TheVariants.Thunk, declared.node.Node.TheVariants.Weak, declared.node.Node.TheVariants.Stack, declared.mutator_state.MutatorState.MutatorState, World.IsShared, World.no_mutator, World.shared_name, Reach.start, Reach.strong_fields}
use Rattle.nmgc_lists.specs.laws.Items.{contains_head, is_some_of}
use Rattle.nmgc_object.specs.{FinQueue.FinQueue, declared.size.TheConstants.HEADER_WORDS}
use Rattle.nmgc_segment.specs.{Segment.InUse, declared.state.State.TheVariants.Free}
use Rattle.nmgc_alloc.specs.{AllocState.nth, AllocState.Segments, AllocState.HasNumber, AllocState.block_place, AllocState.LiesIn, AllocState.Cells, AllocState.cells, AllocState.name_in, Segments.IsBlockAt, laws.Placing.inside, laws.Sound.stands_sound, laws.Sound.used_exists}
use Rattle.nmgc_heap_spec.specs.{Objects.holds, Objects.slots_of as slots_in, Objects.Place, Objects.Means, Objects.ListMeans, Objects.shared_place, Tracked.IsTracked, laws.Common.means_append, laws.Common.list_means, laws.Common.flat_registers}
use Rattle.nmgc_round.specs.View.{Opening}
use Rattle.nmgc_mark.specs.{Beginning.IsBeginning, Beginning.IsPrepared, Beginning.slots_of, Tie.AreApart, Tie.IsRightSnapshot, laws.Common.places_apart as apart_of}
use Rattle.nmgc_mark.proofs.Words.{slot_word, slots_count}

-- the finaliser queues of all mutators
flat_queues : (P : Place → Type 0) (qs : List FinQueue) (xs : List MutatorState) → length qs ≡ length xs →
    ((m : ℕ) (own : List ℕ) → slice_get (map (λ (q : FinQueue). q.words) qs) m ≡ Some own → ListMeans P own (get_or xs m no_mutator).queue) →
    ListMeans P (flat_map (λ (q : FinQueue). q.words) qs) (flat_map (λ (state : MutatorState). state.queue) xs)
flat_queues P [] [] e h = tt
flat_queues P [] (x ∷ xs) e h = absurd (omega arith)
flat_queues P (q ∷ qs) [] e h = absurd (omega arith)
flat_queues P (q ∷ qs) (x ∷ xs) e h =
    means_append P q.words (flat_map (λ (k : FinQueue). k.words) qs) x.queue (flat_map (λ (state : MutatorState).
    state.queue) xs) (h 0 q.words refl) (flat_queues P qs xs (omega arith) (λ m own g. h (suc m) own g))

held_slot : (values : List Value) (i : ℕ) (v : Value) → slice_get values i ≡ Some v → slice_get (map holds values) i ≡ Some (holds v)
held_slot [] i v e = absurd cc
held_slot (x ∷ xs) zero v e = let same : x ≡ v = cc in ap (λ y. Some (holds y)) same
held_slot (x ∷ xs) (suc i) v e = held_slot xs i v e

shared_fields : (node : Node) → IsShared node → (length (strong_fields node) ≡ SHARED_SLOTS) ×
    ((i : ℕ) (v : Value) → slice_get (strong_fields node) i ≡ Some v → slice_get (slots_in node) i ≡ Some (holds v))
shared_fields (Con tag values) h = absurd h
shared_fields (Var v) h = absurd h
shared_fields (Arr values) h = (h, λ i v e. held_slot values i v e)
shared_fields (Thunk free result) h = absurd h
shared_fields (Weak parts) h = absurd h
shared_fields (Stack size values) h = absurd h

map_length : {A B : Type 0} (f : A → B) (xs : List A) → length (map f xs) ≡ length xs
map_length f [] = refl
map_length f (x ∷ xs) = let e = map_length f xs in omega arith

module _ (o : Opening) (s : Segments) (epoch : ℕ) (words registers : List ℕ) (queues : List FinQueue) (h : IsPrepared o s epoch words registers queues) where
  apart : AreApart o.layout o.places
  apart = apart_of o.layout h.earlier o.places o.core.snapshot words h.represents

  shared_there : Contains o.places shared_place
  shared_there = (h.places shared_place).1 (inl refl)

  -- the block of a name begins at its address, and is in use
  name_used : (n b : ℕ) (name : Name) → LiesIn h.allocation n b name → IsBlockAt s n b (block_place o.layout n (cells h.allocation n).class b) ×
      InUse (nth s.segments n) b
  name_used n b name lies =
      let used : (cells h.allocation n).state ≡ Free → ⊥ = λ free.
      let none : name_in (cells h.allocation n) b ≡ None = ap (λ (x : Cells). name_in x b) ((stands_sound s words h.allocation h.sound h.stands).free n free) in
      cc in
      let low = used_exists h.allocation n used in
      let there : HasNumber s n = let e = h.stands.count in omega arith in
      let shows = h.stands.shows n there in
      let class : (cells h.allocation n).class ≡ (nth s.segments n).class = shows.class used in (
        record {
          exists = there;
          used = λ e. used (shows.state ∙ e);
          within = inside s words n (cells h.allocation n) b name shows lies;
          place = (λ i. block_place (sym h.layout i) n (class i) b);
        },
        (shows.used b).0 (subst (λ (x : Option Name). IsSome x) (sym lies) refl),
      )

  right : IsRightSnapshot o s
  right = record {
    layout = h.layout;
    apart = apart;
    sound = λ at g.
        let u = (h.in_use at).0 g in
        let shows = h.stands.shows u.0 u.2.exists in
        let k = is_some_of (name_in (cells h.allocation u.0) u.1) ((shows.used u.1).1 u.3) in
        let place = name_used u.0 u.1 k.0 k.1 in
        let is : block_place o.layout u.0 (cells h.allocation u.0).class u.1 ≡ at = place.0.place ∙ sym u.2.place in
        let c = (h.places (record { at = at; name = k.0 })).1 (inr (record { number = u.0; block = u.1; lies = k.1; at = sym is })) in
        (k.0, c, (h.represents.named (record { at = at; name = k.0 }) c).known);
    complete = λ p c some_. elim ((h.places p).0 c) [
      | inl e ↦ inl (ap (λ (q : Place). q.name) e)
      | inr x ↦
          let place = name_used x.number x.block p.name x.lies in
          inr ((h.in_use p.at).1 (x.number, x.block, subst (λ y. IsBlockAt s x.number x.block y) (sym x.at) place.0, place.1))
    ];
  }

  shared_tracked : IsTracked o.core.snapshot h.earlier shared_name
  shared_tracked = start shared_name (o.core.snapshot, contains_head o.core.snapshot h.earlier, start shared_name (inl (inl refl)))

  slots : ListMeans (Contains o.places) (slots_of words) (strong_fields o.core.snapshot.shared)
  slots =
      let g = h.represents.tracked shared_name o.core.snapshot.shared shared_tracked refl in
      let same = h.represents.one (record { at = g.at; name = shared_name }) shared_place g.there shared_there (inl refl) in
      let at : g.at ≡ 1 = ap (λ (p : Place). p.at) same in
      let f = shared_fields o.core.snapshot.shared h.world.shared in
      let total = h.represents.total in
      let n = slots_count words (omega arith) in
      list_means (Contains o.places) (slots_of words) (strong_fields o.core.snapshot.shared) (n ∙ sym f.0)
      (λ i v e.
      let lt = got_below (strong_fields o.core.snapshot.shared) i v e in
      let z : g.at + HEADER_WORDS + i ≡ 3 + i = omega arith in
      subst (λ y. Means (Contains o.places) y v) (ap (λ j. get_or words j 0) z ∙
      sym (slot_word words i (let l = f.0 in omega arith))) (g.fields i (holds v) (f.1 i v e)))

  pub begins_then : IsBeginning o s epoch words registers queues
  begins_then = record {
    right = right;
    shared = shared_there;
    unmarked = h.unmarked;
    registers_are = flat_registers (Contains o.places) o.core.snapshot.mutators registers h.roots.count (λ m lt. (h.world.registers m lt, h.roots.held m lt));
    queues_are = flat_queues (Contains o.places) queues o.core.snapshot.mutators (sym (map_length (λ (q : FinQueue). q.words) queues) ∙
        h.roots.mutators.0) h.roots.queued;
    slots_are = slots;
  }
