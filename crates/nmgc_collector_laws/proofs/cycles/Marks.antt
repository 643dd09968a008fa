-- What holds of all marked names, as the marking machine marks names of the snapshot. And g, which is marked first, never waits.
use Rattle.nmgc_collector_laws.proofs.Vocabulary.{◌≡◌, ◌⊎◌, ◌+◌, ◌∷◌, ◌∙◌, ℕ, zero, suc, Bool, true, false, not, cond, List, [], refl, sym, ap, subst, arith, inl, inr, Option, Some, None, IsSome, All, Contains, is_some, flat_map, and_parts, All-append, All-head, All-tail, All-nil, Contains-append_left, Contains-append_right, Contains-append_cases, get_or_from_slice_get, MutatorState, Node, Con, Var, Arr, Thunk, Weak, Stack, Name, Value, World, node_of, state_of, no_mutator, shared_name, IsRoot, RefersTo, strong_fields, contains_head, contains_tail, is_some_of, nothing_in, one_is, Names, HasStrongField, has_result, strong_at, Entry, Facts, advanced, after_scan, read_at, field_at, State, entry_of, is_listed, mark_name, mark_read, mark_values, newest_first, opening_in, root_values, first_state, all_from_contains, live_there, mark_cases, read_cases, thunk_free, joined_cases}
use Rattle.nmgc_lists.specs.laws.Items.{place_of}
use Rattle.nmgc_world_laws.specs.Holds.{free_of}
use Rattle.nmgc_snapshot_laws.specs.{Scan.is_last, Scan.moved_on, laws.Listed.not_listed}
use Rattle.std.proofs.lemmas.Bool.{not-true}
use Rattle.nmgc_world_spec.specs.declared.value.Value.TheVariants as value

-- an entry that moves on keeps its name
moved_name : (o : Option Node) (entry e : Entry) → Contains (moved_on o entry) e → entry.name ≡ e.name
moved_name None entry e c = absurd (nothing_in e c)
moved_name (Some node) entry e c = by_test (is_last node entry.position) c
  where
    by_test : (b : Bool) → Contains (cond b [] ((record { name = entry.name; position = entry.position + 1 }) ∷ [])) e → entry.name ≡ e.name
    by_test true k = absurd (nothing_in e k)
    by_test false k = ap (λ (x : Entry). x.name) (one_is (record { name = entry.name; position = entry.position + 1 }) e k)

waiting_thunk : (node : Node) (free : List Value) → has_result node ≡ false → free_of node ≡ Some free → node ≡ Thunk free None
waiting_thunk (Con tag values) free none e = absurd cc
waiting_thunk (Var v) free none e = absurd cc
waiting_thunk (Arr values) free none e = absurd cc
waiting_thunk (Thunk own None) free none e = let same : own ≡ free = cc in ap (λ (l : List Value). Thunk l None) same
waiting_thunk (Thunk own (Some result)) free none e = absurd cc
waiting_thunk (Weak parts) free none e = absurd cc
waiting_thunk (Stack size values) free none e = absurd cc

-- a scan reads a strong field, or a free variable that was a strong field in the snapshot: the thunk had no result
module _ (s : State) (f : Facts s) (entry : Entry) (waits : Contains s.queue entry) (v : Value) where
  abbrev WasRead : Type 0
  WasRead = (i : ℕ) × (HasStrongField s.world entry.name i v ⊎ HasStrongField s.snapshot entry.name i v)

  field_read : (node : Node) (i : ℕ) → node_of s.world entry.name ≡ Some node → entry.position ≡ suc i → field_at node i ≡ Some v → WasRead
  field_read node i e at reads = elim (read_cases node i v reads) [
    | inl st ↦ (i, inl (record { node = node; node_is = e; field = st }))
    | inr (has, one, frees) ↦
        let before = is_some_of (node_of s.snapshot entry.name)
        (live_there s.snapshot s.opened f.base.snapshot entry.name (f.base.live entry.name (f.base.queued entry waits))) in
        let later = f.base.later entry.name before.0 before.1 in
        let both : Some later.node ≡ Some node = sym later.node_is ∙ e in
        let same : later.node ≡ node = cc in
        let free = thunk_free node has in
        let was : free_of before.0 ≡ Some free.0 = sym later.later.free ∙ ap (λ (x : Node). free_of x) same ∙ free.1 in
        let none : has_result before.0 ≡ false = elim (f.base.passed entry waits) [ inl low ↦ absurd (omega arith) | inr p ↦ p before.0 before.1 ] in
        let thunk : before.0 ≡ Thunk free.0 None = waiting_thunk before.0 free.0 none was in
        let st : strong_at before.0 i ≡ Some v = ap (λ (x : Node). strong_at x i) thunk ∙ frees free.0 free.1 in
        (i, inr (record { node = before.0; node_is = before.1; field = st }))
  ]

  by_position : (o : Option Node) (position : ℕ) → node_of s.world entry.name ≡ o → entry.position ≡ position → read_at o position ≡ Some v → WasRead
  by_position None position e at reads = absurd cc
  by_position (Some node) zero e at reads = absurd cc
  by_position (Some node) (suc i) e at reads = field_read node i e at reads

  pub scan_reads : read_at (node_of s.world entry.name) entry.position ≡ Some v → WasRead
  scan_reads reads = by_position (node_of s.world entry.name) entry.position refl refl reads

module _ (S : World) (P : Name → Type 0) where
  -- a name that has the property if it is in the snapshot
  abbrev pub IfThere : Name → Type 0
  IfThere n = IsSome (node_of S n) → P n

  -- all marked names have the property, and g is marked and doesn't wait
  pub record HaveMarked (s : State) : Type 0 where
    pub shared : Contains s.marked shared_name
    pub each : (n : Name) → Contains s.marked n → P n
    pub queued : (entry : Entry) → Contains s.queue entry → entry.name ≡ shared_name → ⊥

  pub marks_name : (s : State) (name : Name) → s.snapshot ≡ S → IfThere name → HaveMarked s → HaveMarked (mark_name s name)
  marks_name s name same may h = mark_cases HaveMarked s name
      (λ new.
      let both = and_parts (is_some (node_of s.snapshot name)) (not (is_listed name s.marked)) new in
      let fresh : Contains s.marked name → ⊥ = not_listed name s.marked (not-true (is_listed name s.marked) both.1) in
      record {
        shared = Contains-append_left s.marked (name ∷ []) shared_name h.shared;
        each = λ n c. elim (Contains-append_cases s.marked (name ∷ []) n c) [
          | inl old ↦ h.each n old
          | inr last ↦ subst P (one_is name n last) (may (rw same at both.0))
        ];
        queued = λ entry c is. elim (joined_cases s.order s.queue (entry_of name) entry c) [
          | inl old ↦ h.queued entry old is
          | inr last ↦ fresh (subst (λ (x : Name). Contains s.marked x) (sym (ap (λ (x : Entry). x.name) last ∙ is)) h.shared)
        ];
      })
      (λ old. h)

  marks_values : (s : State) (values : List Value) → s.snapshot ≡ S → All (Names IfThere) values → HaveMarked s → HaveMarked (mark_values s values)
  marks_values s [] same may h = h
  marks_values s (value.Nil ∷ values) same may h = marks_values s values same (All-tail (Names IfThere) value.Nil values may) h
  marks_values s (value.Number n ∷ values) same may h = marks_values s values same (All-tail (Names IfThere) (value.Number n) values may) h
  marks_values s (value.Ref name ∷ values) same may h =
      marks_values (mark_name s name) values (mark_cases (λ (t : State). t.snapshot ≡ S) s name (λ e. same) (λ e. same))
      (All-tail (Names IfThere) (value.Ref name) values may)
      (marks_name s name same (All-head (Names IfThere) (value.Ref name) values may) h)

  marks_read : (s : State) (v : Option Value) → s.snapshot ≡ S → ((n : Name) → v ≡ Some (value.Ref n) → IfThere n) → HaveMarked s → HaveMarked (mark_read s v)
  marks_read s None same may h = h
  marks_read s (Some value.Nil) same may h = h
  marks_read s (Some (value.Number n)) same may h = h
  marks_read s (Some (value.Ref n)) same may h = marks_name s n same (may n refl) h

  marks_advanced : (s : State) (entry : Entry) → (entry.name ≡ shared_name → ⊥) → HaveMarked s → HaveMarked (advanced s entry)
  marks_advanced s entry other h = record {
    shared = h.shared;
    each = h.each;
    queued = λ x c is. elim (Contains-append_cases (moved_on (node_of s.world entry.name) entry) s.queue x c) [
      | inl moved ↦ other (moved_name (node_of s.world entry.name) entry x moved ∙ is)
      | inr later ↦ h.queued x later is
    ];
  }

  -- a scan, if the names that it reads have the property
  pub marks_scan : (s : State) (queue : List Entry) → s.snapshot ≡ S → HaveMarked s → s.queue ≡ queue →
      ((entry : Entry) → Contains s.queue entry → (n : Name) → read_at (node_of s.world entry.name) entry.position ≡ Some (value.Ref n) → IfThere n) →
      HaveMarked (after_scan s queue)
  marks_scan s [] same h e may = h
  marks_scan s (entry ∷ rest) same h e may =
      let v : Option Value = read_at (node_of s.world entry.name) entry.position in
      let from : State = record s { queue = rest } in
      let here : Contains s.queue entry = subst (λ (l : List Entry). Contains l entry) (sym e) (contains_head entry rest) in
      let left : HaveMarked from = record {
        shared = h.shared;
        each = h.each;
        queued = λ x c. h.queued x (subst (λ (l : List Entry). Contains l x) (sym e) (contains_tail entry rest x c));
      } in
      marks_advanced (mark_read from v) entry (h.queued entry here) (marks_read from v same (may entry here) left)

  -- as marking begins, if the snapshot's roots and slots of g have the property
  module _ (roots : (n : Name) → IsRoot S n → P n) (slots : (n : Name) → RefersTo S shared_name n → P n) where
    pub registers_there : (m : ℕ) → All (Names IfThere) (state_of S m).registers
    registers_there m = all_from_contains IfThere (state_of S m).registers (λ n c there.
        roots n (inr (m, Contains-append_left (state_of S m).registers (state_of S m).queue (value.Ref n) c)))

    pub queues_there : (m : ℕ) → All (Names IfThere) (state_of S m).queue
    queues_there m = all_from_contains IfThere (state_of S m).queue (λ n c there.
        roots n (inr (m, Contains-append_right (state_of S m).registers (state_of S m).queue (value.Ref n) c)))

    each_flat : (f : MutatorState → List Value) (states : List MutatorState) → ((m : MutatorState) → Contains states m → All (Names IfThere) (f m)) →
        All (Names IfThere) (flat_map f states)
    each_flat f [] g = All-nil (Names IfThere)
    each_flat f (m ∷ states) g = All-append (Names IfThere) (f m) (flat_map f states) (g m (contains_head m states)) (each_flat f states (λ t c.
        g t (contains_tail m states t c)))

    roots_there : All (Names IfThere) (root_values S)
    roots_there =
        All-append (Names IfThere) (flat_map (λ (m : MutatorState). m.registers) S.mutators) _
        (each_flat (λ (m : MutatorState). m.registers) S.mutators (λ m c. let p = place_of S.mutators m c in
        subst (λ (t : MutatorState). All (Names IfThere) t.registers) (get_or_from_slice_get S.mutators p.0 m no_mutator p.1) (registers_there p.0)))
        (All-append (Names IfThere) (flat_map (λ (m : MutatorState). m.queue) S.mutators) (strong_fields S.shared)
        (each_flat (λ (m : MutatorState). m.queue) S.mutators (λ m c. let p = place_of S.mutators m c in
        subst (λ (t : MutatorState). All (Names IfThere) t.queue) (get_or_from_slice_get S.mutators p.0 m no_mutator p.1) (queues_there p.0)))
        (all_from_contains IfThere (strong_fields S.shared) (λ n c there. slots n (S.shared, refl, c))))

    pub marks_opening : HaveMarked (opening_in newest_first S)
    marks_opening = marks_values (first_state newest_first S) (root_values S) refl roots_there (record {
      shared = contains_head shared_name [];
      each = λ n c. subst P (one_is shared_name n c) (roots shared_name (inl refl));
      queued = λ entry c is. nothing_in entry c;
    })
