-- The state outside the words: roots, if places change, and the list of weak pointers.
use Rattle.std.specs.Prelude.{◌≡◌, ◌+◌, ◌-◌, ◌*◌, ◌<◌, ◌≤◌, ◌∷◌, ◌++◌}
use Rattle.nmgc_heap_spec.specs.laws.Vocabulary.{inl, inr, ℕ, zero, suc, List, [], length, map, replicate, refl, sym, ap, subst, ◌∙◌, arith, slice_index, Some, None, get_or, slice_get, Contains, cases_lt, length-map, slice_get-get_or, Contains-append_left, Contains-append_right, REGISTERS, SHARED_MAKER, Name, Value, Ref, Node, Con, Var, Arr, Thunk, Weak, Stack, Parts, MutatorState, World, state_of, node_of, no_mutator, IsWorld, IsShared, strong_fields, RefersTo, start, field, IsRoot, IsAlive, IsAliveWeak, contains_head, is_some_get, is_some_of, item_map, item_left, contains_read, InSegment, InNursery, nursery_place, Layout, IsWide, IsWideRoot, IsOfWeak, holds, unset, unspecified, header_of, slots_of, IsTracked, Place, ListMeans, Represents, RepresentsRoots, ListsWeaks, Moved, Moves, StillSpoken, settled, DropsPlaces}
use Rattle.nmgc_heap_spec.specs.laws.{Kinds.map_item, Slots.means_in, Tracking.reached_in, Tracking.tracked_in, Tracking.slot_tracked, Meanings.one_at, Meanings.above_zero, Meanings.one_list, Meanings.one_row, Meanings.one_world, Moving.all_mean_after, Moving.list_means_after}

-- a name that a root refers to is in the wide reach, and so tracked
pub root_wide : (w : World) (m : ℕ) (n : Name) → Contains ((state_of w m).registers ++ (state_of w m).queue) (Ref n) → IsWide w n
root_wide w m n c = start n (inl (inr (m, c)))

pub wide_tracked : (w : World) (earlier : List World) (n : Name) → IsWide w n → IsTracked w earlier n
wide_tracked w earlier n i = start n (w, contains_head w earlier, i)

-- without earlier worlds the tracked names are the wide reach
pub tracked_wide : (w : World) (n : Name) → IsTracked w [] n → IsWide w n
tracked_wide w n t = tracked_in w [] (IsWide w) (λ k i. start k i) (λ e k c i. absurd (omega (arith, c.1))) (λ k target i to. field k target i to) n t

pub list_in : (P Q : Place → Type 0) (words : List ℕ) (values : List Value) →
    ((n : Name) (at : ℕ) → Contains values (Ref n) → P (record { at = at; name = n }) → Q (record { at = at; name = n })) →
    ListMeans P words values → ListMeans Q words values
list_in P Q [] [] is_known h = tt
list_in P Q [] (v ∷ vs) is_known h = absurd h
list_in P Q (w ∷ ws) [] is_known h = absurd h
list_in P Q (w ∷ ws) (v ∷ vs) is_known h = (
  means_in P Q w v (λ n at e. is_known n at (subst (λ (u : Value). Contains (v ∷ vs) u) e (contains_head v vs))) h.0,
  list_in P Q ws vs (λ n at c. is_known n at (Contains-append_right (v ∷ []) vs (Ref n) c)) h.1,
)

-- roots are represented with other places too, if these include the places of all names that roots refer to
pub roots_in : (places others : List Place) (w : World) (registers : List ℕ) (queues : List (List ℕ)) (serials : List ℕ) →
    ((n : Name) (at : ℕ) → IsWide w n → Contains places (record { at = at; name = n }) → Contains others (record { at = at; name = n })) →
    RepresentsRoots places w registers queues serials → RepresentsRoots others w registers queues serials
roots_in places others w registers queues serials is_known r = record {
  count = r.count;
  mutators = r.mutators;
  held = λ m lt i v e.
      means_in (Contains places) (Contains others) (slice_index registers (REGISTERS * m + i)) v
      (λ n at s. is_known n at (root_wide w m n (Contains-append_left (state_of w m).registers (state_of w m).queue (Ref n) (rw s at (contains_read (state_of w m).registers i v e)))))
      (r.held m lt i v e);
  queued = λ m own e. list_in (Contains places) (Contains others) own (state_of w m).queue (λ n at c.
      is_known n at (root_wide w m n (Contains-append_right (state_of w m).registers (state_of w m).queue (Ref n) c))) (r.queued m own e);
  next = r.next;
}

pub roots_dropped : (earlier : List World) (K : Name → Node →
    Type 0) (places fewer : List Place) (w : World) (registers : List ℕ) (queues : List (List ℕ)) (serials : List ℕ) →
    DropsPlaces earlier K places fewer w → RepresentsRoots places w registers queues serials → RepresentsRoots fewer w registers queues serials
roots_dropped earlier K places fewer w registers queues serials drops r =
    roots_in places fewer w registers queues serials (λ n at i c. drops.tracked (record { at = at; name = n }) c (wide_tracked w earlier n i)) r

pub roots_added : (places more : List Place) (w : World) (registers : List ℕ) (queues : List (List ℕ)) (serials : List ℕ) →
    ((p : Place) → Contains places p → Contains more p) → RepresentsRoots places w registers queues serials → RepresentsRoots more w registers queues serials
roots_added places more w registers queues serials grow r = roots_in places more w registers queues serials (λ n at i c.
    grow (record { at = at; name = n }) c) r

-- registers and queues, forwarded
pub roots_moved : (layout : Layout) (base : ℕ) (later earlier : List World) (K : Name → Node →
    Type 0) (places : List Place) (w : World) (moves : List Moved) (forward : ℕ →
    ℕ) (old new : List ℕ) (registers : List ℕ) (queues : List (List ℕ)) (serials : List ℕ) → IsWorld w → StillSpoken base later earlier places w →
    base ≡ nursery_place layout 0 → Represents layout earlier K places w old → Moves layout base later places w moves forward old new →
    RepresentsRoots places w registers queues serials → RepresentsRoots (settled base moves places) w (map forward registers) (map (map forward) queues) serials
roots_moved layout base later earlier K places w moves forward old new registers queues serials world spoken emptied r m roots = record {
  count = length-map registers forward ∙ roots.count;
  mutators = (length-map queues (map forward) ∙ roots.mutators.0, roots.mutators.1);
  held = λ k lt.
      let n = roots.count in
      let s = world.registers k lt in
      all_mean_after layout base later earlier K places w moves forward old new world spoken emptied r m registers (REGISTERS * k) (state_of w k).registers
      (λ n c. wide_tracked w later n (root_wide w k n (Contains-append_left (state_of w k).registers (state_of w k).queue (Ref n) c)))
      (omega arith) (roots.held k lt);
  queued = λ k own e.
      let x = map_item (map forward) queues k own e in
      rw x.2 (list_means_after layout base later earlier K places w moves forward old new world spoken emptied r m x.0 (state_of w k).queue
      (λ n c. wide_tracked w later n (root_wide w k n (Contains-append_right (state_of w k).registers (state_of w k).queue (Ref n) c)))
      (roots.queued k x.0 x.1));
  next = roots.next;
}

held_slot : (values : List Value) (v : Value) → Contains values v → (i : ℕ) × (slice_get (map holds values) i ≡ Some (holds v))
held_slot values v c = (c.0, item_map holds values c.0 v (slice_get-get_or values c.0 v c.1 ∙ ap Some c.2))

-- a strong field has its slot
pub strong_slot : (node : Node) (v : Value) → Contains (strong_fields node) v → (i : ℕ) × (slice_get (slots_of node) i ≡ Some (holds v))
strong_slot (Con tag values) v c = held_slot values v c
strong_slot (Var x) v c = held_slot (x ∷ []) v c
strong_slot (Arr values) v c = held_slot values v c
strong_slot (Thunk free None) v c = let h = held_slot free v c in (suc h.0, h.1)
strong_slot (Thunk free (Some result)) v c = let h = held_slot (result ∷ []) v c in
    (h.0, item_left (map holds (result ∷ [])) (replicate (length free) unspecified) h.0 (holds v) h.1)
strong_slot (Weak parts) v c = absurd (omega (arith, c.1))
strong_slot (Stack size values) v c = let h = held_slot values v c in
    (h.0, item_left (map holds values) (replicate (size - length values) unset) h.0 (holds v) h.1)

-- two worlds represented by the same words, roots and list of weak pointers, at a stop
module _ (layout : Layout) (K L : Name → Node →
    Type 0) (places weaks : List Place) (w v : World) (words registers : List ℕ) (queues : List (List ℕ)) (serials : List ℕ)
    (stop : (p : Place) → Contains places p → InNursery layout p.name.maker p.at → ⊥)
    (world : IsWorld w) (world' : IsWorld v)
    (r : Represents layout [] K places w words) (s : Represents layout [] L places v words)
    (roots : RepresentsRoots places w registers queues serials) (roots' : RepresentsRoots places v registers queues serials)
    (listed : ListsWeaks layout places w weaks) (listed' : ListsWeaks layout places v weaks) where
  as_many : length w.mutators ≡ length v.mutators
  as_many = let a = roots.count in let b = roots'.count in omega arith

  same_registers : (m : ℕ) → m < length w.mutators → (state_of w m).registers ≡ (state_of v m).registers
  same_registers m lt =
      let n = as_many in
      let a = world.registers m lt in
      let b = world'.registers m (omega arith) in
      one_row (Contains places) (one_at layout [] K places w words r) (above_zero layout [] K places w words r) registers (REGISTERS * m)
      (state_of w m).registers (state_of v m).registers (omega arith) (roots.held m lt) (roots'.held m (omega arith))

  same_queues : (m : ℕ) → m < length w.mutators → (state_of w m).queue ≡ (state_of v m).queue
  same_queues m lt =
      let n = roots.mutators.0 in
      let own = is_some_of (slice_get queues m) (is_some_get queues m (omega arith)) in
      one_list (Contains places) (one_at layout [] K places w words r) (above_zero layout [] K places w words r) own.0 (state_of w m).queue
      (state_of v m).queue (roots.queued m own.0 own.1) (roots'.queued m own.0 own.1)

  same_root : (n : Name) → IsRoot w n → IsRoot v n
  same_root n (inl e) = inl e
  same_root n (inr (m, c)) = elim (cases_lt m (length w.mutators)) [
    | inl lt ↦
        let e : (state_of w m).registers ++ (state_of w m).queue ≡ (state_of v m).registers ++ (state_of v m).queue =
        cc (same_registers m lt, same_queues m lt) in
        inr (m, subst (λ (l : List Value). Contains l (Ref n)) e c)
    | inr le ↦
        let none : state_of w m ≡ no_mutator = get_or_past w.mutators m no_mutator le in
        let bad : Contains {X = Value} [] (Ref n) = subst (λ (q : MutatorState). Contains (q.registers ++ q.queue) (Ref n)) none c in
        absurd (omega (arith, bad.1))
  ]
    where
      get_or_past : (xs : List MutatorState) (i : ℕ) (d : MutatorState) → length xs ≤ i → get_or xs i d ≡ d
      get_or_past [] i d le = refl
      get_or_past (x ∷ xs) zero d le = absurd (omega arith)
      get_or_past (x ∷ xs) (suc i) d le = get_or_past xs i d (omega arith)

  -- a name of both wide reaches has one node
  record IsSame (name : Name) (a : Node) : Type 0 where
    node : Node
    there : node_of v name ≡ Some node
    header : header_of a ≡ header_of node
    slots : slots_of a ≡ slots_of node

  same_node : (name : Name) (a : Node) → IsWide w name → IsWide v name → node_of w name ≡ Some a → IsSame name a
  same_node name a i j is =
      let p = r.tracked name a (wide_tracked w [] name i) is in
      let b = is_some_of (node_of v name) (s.named (record { at = p.at; name = name }) p.there).known in
      let e = one_world layout [] [] K L places w v words world world' r s name a b.0 (wide_tracked w [] name i) (wide_tracked v [] name j) is b.1 in
      record { node = b.0; there = b.1; header = e.0; slots = e.1 }

  -- g is no weak pointer
  no_weak : (name : Name) (parts : Parts) → IsAlive w name parts → name.maker ≡ SHARED_MAKER → name.serial ≡ 0 → ⊥
  no_weak name parts alive maker serial =
      let is : Some w.shared ≡ Some (Weak (Some parts)) = sym (rw (maker, serial) refl) ∙ alive in
      let e : w.shared ≡ Weak (Some parts) = cc in
      subst IsShared e world.shared

  -- a weak pointer that is alive is listed
  weak_listed : (weak : Name) (parts : Parts) → IsAlive w weak parts → IsAliveWeak v weak
  weak_listed weak parts alive =
      let wide : IsWide w weak = start weak (inr (weak, parts, alive, inl refl)) in
      let p = r.tracked weak (Weak (Some parts)) (wide_tracked w [] weak wide) alive in
      let at : Place = record { at = p.at; name = weak } in
      let valid = (r.named at p.there).valid in
      let segment : (k : ℕ) × InSegment layout k p.at = elim p.object.lies [
        | inl g ↦ absurd (no_weak weak parts alive g.0 (valid.2 g.0))
        | inr (own, inl l) ↦ (l.0, l.1 p.at (omega arith) (omega arith))
        | inr (own, inr l) ↦ absurd (stop at p.there (l.1 p.at (omega arith) (omega arith)))
      ] in
      (listed'.sound at (listed.complete at (p.there, (parts, alive), segment))).1

  wide_root : (n : Name) → IsWideRoot w n → IsWide w n × IsWide v n
  wide_root n (inl root) = (start n (inl root), start n (inl (same_root n root)))
  wide_root n (inr (weak, parts, alive, of)) =
      let there = weak_listed weak parts alive in
      let mine : IsWide w weak = start weak (inr (weak, parts, alive, inl refl)) in
      let other : IsWide v weak = start weak (inr (weak, there.0, there.1, inl refl)) in
      let same = same_node weak (Weak (Some parts)) mine other alive in
      let z : Some same.node ≡ Some (Weak (Some there.0)) = sym same.there ∙ there.1 in
      let y : same.node ≡ Weak (Some there.0) = cc in
      let slots : slots_of (Weak (Some parts)) ≡ slots_of (Weak (Some there.0)) = same.slots ∙ ap slots_of y in
      let k : parts.key ≡ there.0.key = cc in
      let x : parts.value ≡ there.0.value = cc in
      let f : parts.finaliser ≡ there.0.finaliser = cc in
      let of' : IsOfWeak weak there.0 n = elim of [
        | inl e ↦ inl e
        | inr (inl e) ↦ inr (inl (sym k ∙ e))
        | inr (inr (inl e)) ↦ inr (inr (inl (sym x ∙ e)))
        | inr (inr (inr e)) ↦ inr (inr (inr (sym f ∙ e)))
      ] in
      (start n (inr (weak, parts, alive, of)), start n (inr (weak, there.0, there.1, of')))

  wide_field : (n target : Name) → IsWide w n × IsWide v n → RefersTo w n target → IsWide w target × IsWide v target
  wide_field n target both to =
      let same = same_node n to.0 both.0 both.1 to.1 in
      let slot = strong_slot to.0 (Ref target) to.2 in
      let there : slice_get (slots_of same.node) slot.0 ≡ Some (holds (Ref target)) =
      subst (λ l. slice_get l slot.0 ≡ Some (holds (Ref target))) same.slots slot.1 in (
        field n target both.0 to,
        tracked_wide v target (slot_tracked v [] n same.node target (wide_tracked v [] n both.1) same.there
            (contains_read (slots_of same.node) slot.0 (holds (Ref target)) there)),
      )

  pub same_reach : (name : Name) (a : Node) → IsWide w name → node_of w name ≡ Some a → IsWide v name ×
      ((b : Node) × (node_of v name ≡ Some b) × (header_of a ≡ header_of b) × (slots_of a ≡ slots_of b))
  same_reach name a i is =
      let both = reached_in w (IsWideRoot w) (λ n. IsWide w n × IsWide v n) wide_root wide_field name i in
      let same = same_node name a both.0 both.1 is in
      (both.1, (same.node, same.there, same.header, same.slots))
