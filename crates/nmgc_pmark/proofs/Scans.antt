-- Scans alone mark only names that are reachable from the roots along strong fields.
use Rattle.nmgc_pmark.proofs.Vocabulary.{◌≡◌, ℕ, List, [], ◌∷◌, ◌++◌, zero, suc, length, refl, sym, ap, subst, ◌∙◌, arith, Option, Some, None, inl, inr, ◌⊎◌, true, false, Contains, get_or_past, Contains-append_left, Contains-append_right, Contains-append_cases, Contains-get_or, Contains-push_cases, cases_lt, get_or_from_slice_get, MutatorState, Node, Name, Value, World, IsWorld, state_of, node_of, no_mutator, shared_name, IsReached, IsRoot, strong_fields, contains_head, contains_tail, nothing_in, one_is, contains_flat, flat_contains, place_of, has_result, Entry, State, names_of, mark_name, mark_read, mark_values, root_values, unmarked, newest_first, opening_in, after_scan, field_at, read_at, Facts, refers, mark_cases, opening_facts, none_of, read_cases, scan_facts, Happening, did, scanned, replay, AreScans, IsStart, roots_of}
use Rattle.std.specs.Prelude.{flat_map}
use Rattle.nmgc_world_spec.specs.declared.value.Value.TheVariants as value

-- except for marks and queue the states are the same
record IsAsBefore (s t : State) : Type 0 where
  world : t.world ≡ s.world
  snapshot : t.snapshot ≡ s.snapshot
  is_closed : t.is_closed ≡ s.is_closed
  owed : t.owed ≡ s.owed
  pushed : t.pushed ≡ s.pushed

as_it_is : (s : State) → IsAsBefore s s
as_it_is s = record { world = refl; snapshot = refl; is_closed = refl; owed = refl; pushed = refl }

and_then : (s t u : State) → IsAsBefore s t → IsAsBefore t u → IsAsBefore s u
and_then s t u a b = record {
  world = b.world ∙ a.world;
  snapshot = b.snapshot ∙ a.snapshot;
  is_closed = b.is_closed ∙ a.is_closed;
  owed = b.owed ∙
      a.owed;
  pushed = b.pushed ∙ a.pushed;
}

named : (s : State) (name : Name) → IsAsBefore s (mark_name s name)
named s name = mark_cases (λ (t : State). IsAsBefore s t) s name (λ e. record {
  world = refl;
  snapshot = refl;
  is_closed = refl;
  owed = refl;
  pushed = refl;
}) (λ e. as_it_is s)

read : (s : State) (o : Option Value) → IsAsBefore s (mark_read s o)
read s None = as_it_is s
read s (Some value.Nil) = as_it_is s
read s (Some (value.Number n)) = as_it_is s
read s (Some (value.Ref name)) = named s name

valued : (s : State) (values : List Value) → IsAsBefore s (mark_values s values)
valued s [] = as_it_is s
valued s (value.Nil ∷ values) = valued s values
valued s (value.Number n ∷ values) = valued s values
valued s (value.Ref name ∷ values) = and_then s (mark_name s name) (mark_values (mark_name s name) values) (named s name) (valued (mark_name s name) values)

-- a marked name was marked before, or is the name that was read
name_marked : (s : State) (name other : Name) → Contains (mark_name s name).marked other → Contains s.marked other ⊎ (name ≡ other)
name_marked s name other = mark_cases (λ (t : State). Contains t.marked other → Contains s.marked other ⊎
    (name ≡ other)) s name (λ e c. Contains-push_cases s.marked name other c) (λ e c. inl c)

read_marked : (s : State) (o : Option Value) (other : Name) → Contains (mark_read s o).marked other → Contains s.marked other ⊎ (o ≡ Some (value.Ref other))
read_marked s None other c = inl c
read_marked s (Some value.Nil) other c = inl c
read_marked s (Some (value.Number n)) other c = inl c
read_marked s (Some (value.Ref name)) other c = elim (name_marked s name other c) [ inl old ↦ inl old | inr e ↦ inr (ap (λ (n : Name). Some (value.Ref n)) e) ]

values_marked : (s : State) (values : List Value) (other : Name) → Contains (mark_values s values).marked other → Contains s.marked other ⊎
    Contains values (value.Ref other)
values_marked s [] other c = inl c
values_marked s (value.Nil ∷ values) other c = elim (values_marked s values other c) [
  | inl old ↦ inl old
  | inr d ↦
      inr (contains_tail value.Nil values (value.Ref other) d)
]
values_marked s (value.Number n ∷ values) other c = elim (values_marked s values other c) [
  | inl old ↦ inl old
  | inr d ↦
      inr (contains_tail (value.Number n) values (value.Ref other) d)
]
values_marked s (value.Ref name ∷ values) other c = elim (values_marked (mark_name s name) values other c) [
  | inl old ↦ elim (name_marked s name other old) [
    | inl older ↦ inl older
    | inr e ↦ inr (subst (λ (n : Name). Contains (value.Ref name ∷ values) (value.Ref n)) e (contains_head (value.Ref name) values))
  ]
  | inr d ↦ inr (contains_tail (value.Ref name) values (value.Ref other) d)
]

module _ (w : World) (h : IsWorld w) where
  abbrev Reached : Name → Type 0
  Reached name = IsReached w (IsRoot w) name

  -- the invariant of scans from the opening on
  pub record IsScanned (s : State) : Type 0 where
    pub facts : Facts s
    pub world : s.world ≡ w
    pub snapshot : s.snapshot ≡ w
    pub owed : (m : ℕ) → names_of s.owed m ≡ []
    pub pushed : (m : ℕ) → names_of s.pushed m ≡ []
    pub reached : (name : Name) → Contains s.marked name → Reached name

  -- a name read at a field of a reachable object is reachable
  field_reached : (s : State) (i : IsScanned s) (entry : Entry) → Contains s.queue entry → (k : ℕ) → entry.position ≡ suc k → (node : Node) →
      node_of s.world entry.name ≡ Some node → (name : Name) → field_at node k ≡ Some (value.Ref name) → Reached name
  field_reached s i entry c k at node is name e =
      let here : node_of w entry.name ≡ Some node = subst (λ (v : World). node_of v entry.name ≡ Some node) i.world is in
      let from : Reached entry.name = i.reached entry.name (i.facts.base.queued entry c) in
      elim (read_cases node k (value.Ref name) e) [
        | inl strong ↦ IsReached.field entry.name name from (refers w entry.name name k (record { node = node; node_is = here; field = strong }))
        | inr other ↦ absurd (elim (i.facts.base.passed entry c) [
          | inl early ↦ let one = other.1 in omega (arith, early, at, one)
          | inr unset ↦
              let then : node_of s.snapshot entry.name ≡ Some node = subst (λ (v : World). node_of v entry.name ≡ Some node) (sym i.snapshot) here in
              let no : has_result node ≡ false = unset node then in
              let yes : has_result node ≡ true = other.0 in
              cc
        ])
      ]

  read_reached : (s : State) (i : IsScanned s) (entry : Entry) → Contains s.queue entry → (o : Option Node) → node_of s.world entry.name ≡ o →
      (position : ℕ) → entry.position ≡ position → (name : Name) → read_at o position ≡ Some (value.Ref name) → Reached name
  read_reached s i entry c None is position at name e = absurd cc
  read_reached s i entry c (Some node) is zero at name e = absurd cc
  read_reached s i entry c (Some node) is (suc k) at name e = field_reached s i entry c k at node is name e

  -- a scan keeps it
  scan_keeps : (s : State) (queue : List Entry) → s.queue ≡ queue → IsScanned s → IsScanned (after_scan s queue)
  scan_keeps s [] e i = i
  scan_keeps s (entry ∷ rest) e i =
      let o : Option Value = read_at (node_of s.world entry.name) entry.position in
      let from : State = record s { queue = rest } in
      let same : IsAsBefore from (mark_read from o) = read from o in
      let c : Contains s.queue entry = subst (λ (q : List Entry). Contains q entry) (sym e) (contains_head entry rest) in
      record {
        facts = scan_facts s i.facts (subst IsWorld (sym i.world) h) (entry ∷ rest) e;
        world = same.world ∙ i.world;
        snapshot = same.snapshot ∙ i.snapshot;
        owed = λ m. ap (λ (l : List (List Name)). names_of l m) same.owed ∙ i.owed m;
        pushed = λ m. ap (λ (l : List (List Name)). names_of l m) same.pushed ∙ i.pushed m;
        reached = λ name d. elim (read_marked from o name d) [
          | inl old ↦ i.reached name old
          | inr is ↦ read_reached s i entry c (node_of s.world entry.name) refl entry.position refl name is
        ];
      }

  -- the names in registers and queues are roots, and so are those in the slots of g
  held_root : (f : MutatorState → List Value) → ((m : ℕ) (v : Value) → Contains (f (state_of w m)) v →
      Contains ((state_of w m).registers ++ (state_of w m).queue) v) → (name : Name) → Contains (flat_map f w.mutators) (value.Ref name) → IsRoot w name
  held_root f part name c =
      let d = flat_contains f w.mutators (value.Ref name) c in
      let p = place_of w.mutators d.0 d.1 in
      let is : state_of w p.0 ≡ d.0 = get_or_from_slice_get w.mutators p.0 d.0 no_mutator p.1 in
      inr (p.0, part p.0 (value.Ref name) (subst (λ (state : MutatorState). Contains (f state) (value.Ref name)) (sym is) d.2))

  pub start_root : (name : Name) → IsStart (roots_of w) name → IsRoot w name
  start_root name (inl g) = inl g
  start_root name (inr c) = elim (Contains-append_cases (flat_map (λ (state : MutatorState).
      state.registers) w.mutators) (flat_map (λ (state : MutatorState). state.queue) w.mutators) (value.Ref name) c) [
        | inl r ↦ held_root (λ (state : MutatorState). state.registers) (λ m v d. Contains-append_left (state_of w m).registers (state_of w m).queue v d) name r
        | inr q ↦ held_root (λ (state : MutatorState). state.queue) (λ m v d. Contains-append_right (state_of w m).registers (state_of w m).queue v d) name q
      ]

  pub root_start : (name : Name) → IsRoot w name → IsStart (roots_of w) name
  root_start name (inl g) = inl g
  root_start name (inr (m, c)) = elim (cases_lt m (length w.mutators)) [
    | inr past ↦ let empty : Contains (no_mutator.registers ++ no_mutator.queue) (value.Ref name) = rw (get_or_past w.mutators m no_mutator past) at c in
        absurd (nothing_in (value.Ref name) empty)
    | inl lt ↦
        let there : Contains w.mutators (state_of w m) = Contains-get_or w.mutators m no_mutator lt in
        inr (elim (Contains-append_cases (state_of w m).registers (state_of w m).queue (value.Ref name) c) [
          | inl r ↦ Contains-append_left (flat_map (λ (state : MutatorState).
              state.registers) w.mutators) _ (value.Ref name) (contains_flat (λ (state : MutatorState).
              state.registers) w.mutators (state_of w m) (value.Ref name) there r)
          | inr q ↦ Contains-append_right (flat_map (λ (state : MutatorState).
              state.registers) w.mutators) _ (value.Ref name) (contains_flat (λ (state : MutatorState).
              state.queue) w.mutators (state_of w m) (value.Ref name) there q)
        ])
  ]

  opened_reached : (name : Name) → Contains (root_values w) (value.Ref name) → Reached name
  opened_reached name c = elim (Contains-append_cases (flat_map (λ (state : MutatorState). state.registers) w.mutators) _ (value.Ref name) c) [
    | inl r ↦ IsReached.start name (start_root name (inr (Contains-append_left (flat_map (λ (state : MutatorState).
        state.registers) w.mutators) _ (value.Ref name) r)))
    | inr more ↦ elim (Contains-append_cases (flat_map (λ (state : MutatorState). state.queue) w.mutators) (strong_fields w.shared) (value.Ref name) more) [
      | inl q ↦ IsReached.start name (start_root name (inr (Contains-append_right (flat_map (λ (state : MutatorState).
          state.registers) w.mutators) _ (value.Ref name) q)))
      | inr slot ↦ IsReached.field shared_name name (IsReached.start shared_name (inl refl)) (w.shared, refl, slot)
    ]
  ]

  opened : IsScanned (opening_in newest_first w)
  opened =
      let same : IsAsBefore (unmarked newest_first w) (opening_in newest_first w) = valued (unmarked newest_first w) (root_values w) in
      record {
        facts = opening_facts newest_first w h;
        world = same.world;
        snapshot = same.snapshot;
        owed = λ m. ap (λ (l : List (List Name)). names_of l m) same.owed ∙ none_of (length w.mutators) m;
        pushed = λ m. ap (λ (l : List (List Name)). names_of l m) same.pushed ∙ none_of (length w.mutators) m;
        reached = λ name c. elim (values_marked (unmarked newest_first w) (root_values w) name c) [
          | inl g ↦ IsReached.start name (inl (sym (one_is shared_name name g)))
          | inr d ↦ opened_reached name d
        ];
      }

  scans_keep : (s : State) (events : List Happening) → AreScans events → IsScanned s → IsScanned (replay s events)
  scans_keep s [] scans i = i
  scans_keep s (did m c r ∷ events) scans i = absurd scans
  scans_keep s (scanned entry v ∷ events) scans i = scans_keep (after_scan s s.queue) events scans (scan_keeps s s.queue refl i)

  -- after scans alone
  pub scanned_from : (events : List Happening) → AreScans events → IsScanned (replay (opening_in newest_first w) events)
  scanned_from events scans = scans_keep (opening_in newest_first w) events scans opened
