-- A scan keeps the facts: a name that it reads is live, and the target of an unchanged field that it has read is marked.
use Rattle.std.specs.Prelude.{◌≡◌, ◌<◌, ◌≤◌, ◌+◌, ◌∷◌, ◌++◌, ◌&&◌, ◌⊎◌}
use Rattle.nmgc_snapshot_laws.specs.laws.Vocabulary.{ℕ, List, [], zero, suc, refl, sym, ap, subst, ◌∙◌, arith, Option, Some, None, Bool, true, false, cond, eqb, leb, inl, inr, IsSome, All, Contains, All-contains, Contains-append_left, Contains-append_right, Contains-append_cases, same_Some, cases_eq, or_parts, or_from, and_cases, and_left, and_right, lt-leb, eq-eqb, ne_eqb, false_from_ne_true, Name, Value, Node, Con, Var, Arr, Thunk, Weak, Stack, node_of, IsWorld, IsNodeOf, IsSized, field, strong_fields, Entry, joined, State, is_new, with_mark, entry_of, mark_name, mark_read, read_at, fields_of, is_last, moved_on, has_result, strong_at, free_of, Names, HasStrongField, StillThere, advanced, after_scan, nothing_in, one_is, contains_one, contains_cases, contains_head, contains_tail, at_some, is_some_of, field_at_place, MayHold, IsLiveIn, IsSafe, Kept, IsPassed, Base, Facts, owed, pushed, queued, marked, unmarked}
use Rattle.nmgc_world_spec.specs.declared.value.Value.TheVariants as value
use Rattle.nmgc_snapshot_laws.specs.laws.{ScanReads.read_at_place, ScanReads.within_fields, ScanReads.read_cases, Lives.live_there, Lives.target_there, Lives.refers, Marking.joined_cases, Marking.joined_new, Marking.joined_old, Marking.mark_facts, Marking.marked_then}

-- an entry before its last position has fields left, and isn't at a thunk's result that was read
not_last : (node : Node) (position : ℕ) → position < fields_of node → (position ≡ 1 → has_result node ≡ false) → is_last node position ≡ false
not_last node position lt h =
    or_from (leb (fields_of node) position) (eqb position 1 && has_result node) (lt-leb (fields_of node) position lt) (elim (cases_eq position 1) [
      | inl e ↦ and_right (eqb position 1) (has_result node) (h e)
      | inr ne ↦ and_left (eqb position 1) (has_result node) (ne_eqb position 1 ne)
    ])

-- a thunk with a result has one strong field
only_result : (node : Node) (i : ℕ) (v : Value) → has_result node ≡ true → strong_at node i ≡ Some v → i ≡ 0
only_result (Con tag values) i v r h = absurd cc
only_result (Var old) i v r h = absurd cc
only_result (Arr values) i v r h = absurd cc
only_result (Thunk free None) i v r h = absurd cc
only_result (Thunk free (Some result)) zero v r h = refl
only_result (Thunk free (Some result)) (suc i) v r h = absurd cc
only_result (Weak parts) i v r h = absurd cc
only_result (Stack size values) i v r h = absurd cc

-- an entry that has yet to reach a field moves on, unless it reads that field now
pub entry_stays : (node : Node) (entry : Entry) (i : ℕ) (v : Value) → i < fields_of node → strong_at node i ≡ Some v → entry.position ≤ i →
    is_last node entry.position ≡ false
entry_stays node entry i v lt h le = not_last node entry.position (omega arith) (λ e.
    false_from_ne_true (has_result node) (λ r. let z : i ≡ 0 = only_result node i v r h in absurd (omega arith)))

-- the entry after the scan
moved_cases : (node : Node) (entry e : Entry) → Contains (moved_on (Some node) entry) e → (is_last node entry.position ≡ false) ×
    (e ≡ (record { name = entry.name; position = entry.position + 1 }))
moved_cases node entry e h = by_test (is_last node entry.position) refl h
  where
    by_test : (b : Bool) → is_last node entry.position ≡ b → Contains (cond b [] ((record { name = entry.name; position = entry.position + 1 }) ∷
        [])) e → (is_last node entry.position ≡ false) × (e ≡ (record { name = entry.name; position = entry.position + 1 }))
    by_test true is c = absurd (nothing_in e c)
    by_test false is c = (is, sym (one_is _ e c))

pub moved_stays : (node : Node) (entry : Entry) → is_last node entry.position ≡ false →
    Contains (moved_on (Some node) entry) (record { name = entry.name; position = entry.position + 1 })
moved_stays node entry e = rw e (contains_one _)

-- a thunk without a result, from its free variables
no_result : (node : Node) (free : List Value) → free_of node ≡ Some free → has_result node ≡ false → node ≡ Thunk free None
no_result (Con tag values) free e r = absurd cc
no_result (Var old) free e r = absurd cc
no_result (Arr values) free e r = absurd cc
no_result (Thunk own None) free e r = ap (λ (x : List Value). Thunk x None) (same_Some own free e)
no_result (Thunk own (Some result)) free e r = absurd cc
no_result (Weak parts) free e r = absurd cc
no_result (Stack size values) free e r = absurd cc

pub has_free : (node : Node) → has_result node ≡ true → (free : List Value) × (free_of node ≡ Some free)
has_free (Con tag values) r = absurd cc
has_free (Var old) r = absurd cc
has_free (Arr values) r = absurd cc
has_free (Thunk free result) r = (free, refl)
has_free (Weak parts) r = absurd cc
has_free (Stack size values) r = absurd cc

module _ (s : State) (f : Facts s) (w : IsWorld s.world) (entry : Entry) (rest : List Entry) (first : s.queue ≡ entry ∷ rest) where
  is_queued : Contains s.queue entry
  is_queued = rw first (contains_head entry rest)

  is_live : IsLiveIn s entry.name
  is_live = f.base.live entry.name (f.base.queued entry is_queued)

  -- the target of a live object's field may be held
  from_field : (node : Node) (i : ℕ) (target : Name) → node_of s.world entry.name ≡ Some node → strong_at node i ≡ Some (value.Ref target) → MayHold s target
  from_field node i target e h =
      let fields : All (Names (MayHold s)) (strong_fields node) =
      at_some (node_of s.world entry.name) node (λ n. All (Names (MayHold s)) (strong_fields n)) e (f.base.holds.fields entry.name (λ there. is_live)) in
      let P : Value → Type 0 = Names (MayHold s) in
      All-contains P (strong_fields node) (value.Ref target) fields (field_at_place node i (value.Ref target) h)

  -- a free variable that is read beside a result was a strong field of the snapshot
  from_free : (node : Node) (i : ℕ) (target : Name) → node_of s.world entry.name ≡ Some node → entry.position ≡ i + 1 → 1 ≤ i →
      has_result node ≡ true → ((free : List Value) → free_of node ≡ Some free → strong_at (Thunk free None) i ≡ Some (value.Ref target)) → MayHold s target
  from_free node i target e at le has reads there = by_old (node_of s.snapshot entry.name) refl
    where
      passed_it : (old : Node) → node_of s.snapshot entry.name ≡ Some old → has_result old ≡ false
      passed_it old is = elim (f.base.passed entry is_queued) [
        | inl small ↦ absurd (omega arith)
        | inr none ↦ none old is
      ]

      by_old : (o : Option Node) → node_of s.snapshot entry.name ≡ o → IsLiveIn s target
      by_old None is = let there : IsSome {T = Node} None = subst (λ o. IsSome o) is (live_there s.snapshot s.opened f.base.snapshot entry.name is_live) in
          absurd cc
      by_old (Some old) is =
          let t : StillThere s.world entry.name old = f.base.later entry.name old is in
          let same : Some t.node ≡ Some node = sym t.node_is ∙ e in
          let node_is : t.node ≡ node = same_Some t.node node same in
          let free : (xs : List Value) × (free_of node ≡ Some xs) = has_free node has in
          let before : free_of old ≡ Some free.0 = sym (subst (λ n. free_of n ≡ free_of old) node_is t.later.free) ∙ free.1 in
          let thunk : old ≡ Thunk free.0 None = no_result old free.0 before (passed_it old is) in
          field entry.name target is_live (
            Thunk free.0 None,
            is ∙ ap (λ n. Some n) thunk,
            field_at_place (Thunk free.0 None) i (value.Ref target) (reads free.0 free.1),
          )

  -- the name that a scan reads may be held
  read_may : (node : Node) (position : ℕ) (target : Name) → node_of s.world entry.name ≡ Some node → entry.position ≡ position →
      read_at (Some node) position ≡ Some (value.Ref target) → MayHold s target
  read_may node zero target e at h = absurd cc
  read_may node (suc i) target e at h = elim (read_cases node i (value.Ref target) h) [
    | inl strong ↦ from_field node i target e strong
    | inr free ↦ from_free node i target e (omega arith) free.1 free.0 free.2
  ]

-- the first entry moves on
abbrev pub stepped : State → Node → Entry → List Entry → State
stepped s node entry rest = record s { queue = moved_on (Some node) entry ++ rest }

-- an entry whose object's node is known moves on, once the name that it read is marked; only the members of the queue matter
module _ (s : State) (f : Facts s) (w : IsWorld s.world) (entry : Entry) (rest : List Entry) (there : Contains s.queue entry)
    (in_rest : (e : Entry) → Contains rest e → Contains s.queue e) (or_first : (e : Entry) → Contains s.queue e → (entry ≡ e) ⊎ Contains rest e)
    (node : Node) (is : node_of s.world entry.name ≡ Some node)
    (seen : (i : ℕ) (target : Name) → entry.position ≡ i + 1 → strong_at node i ≡ Some (value.Ref target) → IsSome (node_of s.snapshot target) →
    Contains s.marked target) where
  sized : IsSized node
  sized = let mine : IsNodeOf s.world node = at_some (node_of s.world entry.name) node (IsNodeOf s.world) is (w.nodes entry.name) in mine.sized

  -- an object without a result had none in the snapshot
  none_before : has_result node ≡ false → (old : Node) → node_of s.snapshot entry.name ≡ Some old → has_result old ≡ false
  none_before none old e =
      let t : StillThere s.world entry.name old = f.base.later entry.name old e in
      let same : Some t.node ≡ Some node = sym t.node_is ∙ is in
      let node_is : t.node ≡ node = same_Some t.node node same in
      false_from_ne_true (has_result old) (λ r. let k : has_result node ≡ true = subst (λ n. has_result n ≡ true) node_is (t.later.result r) in absurd cc)

  moved_passed : is_last node entry.position ≡ false → IsPassed s (record { name = entry.name; position = entry.position + 1 })
  moved_passed last = elim (f.base.passed entry there) [
    | inr none ↦ inr none
    | inl small ↦ elim (cases_eq entry.position 1) [
      | inr ne ↦ inl (let n : entry.position ≡ 1 → ⊥ = ne in omega (arith, n))
      | inl one ↦
          let parts : (leb (fields_of node) entry.position ≡ false) ×
          ((eqb entry.position 1 && has_result node) ≡ false) =
          or_parts (leb (fields_of node) entry.position) (eqb entry.position 1 && has_result node) last in
          elim (and_cases (eqb entry.position 1) (has_result node) parts.1) [
            | inl differs ↦ let same : eqb entry.position 1 ≡ true = eq-eqb entry.position 1 one in absurd cc
            | inr none ↦ inr (none_before none)
          ]
    ]
  ]

  moved_base : Base (stepped s node entry rest)
  moved_base = record {
    snapshot = f.base.snapshot;
    mutators = f.base.mutators;
    serials = f.base.serials;
    owed_lists = f.base.owed_lists;
    pushed_lists = f.base.pushed_lists;
    holds = f.base.holds;
    fields = f.base.fields;
    weaks = f.base.weaks;
    alive = f.base.alive;
    owed = f.base.owed;
    pushed = f.base.pushed;
    later = f.base.later;
    live = f.base.live;
    queued = λ e h. elim (Contains-append_cases (moved_on (Some node) entry) rest e h) [
      | inl mine ↦ let same : (is_last node entry.position ≡ false) × (e ≡ (record { name = entry.name; position = entry.position + 1 })) = moved_cases node entry e mine in
          subst (λ (x : Entry). Contains s.marked x.name) (sym same.1) (f.base.queued entry there)
      | inr other ↦ f.base.queued e (in_rest e other)
    ];
    passed = λ e h. elim (Contains-append_cases (moved_on (Some node) entry) rest e h) [
      | inl mine ↦ let same : (is_last node entry.position ≡ false) × (e ≡ (record { name = entry.name; position = entry.position + 1 })) = moved_cases node entry e mine in
          subst (λ (x : Entry). IsPassed s x) (sym same.1) (moved_passed same.0)
      | inr other ↦ f.base.passed e (in_rest e other)
    ];
  }

  still_safe : (name : Name) → IsSafe s name → IsSafe (stepped s node entry rest) name
  still_safe name (marked h) = marked h
  still_safe name (owed k h) = owed k h
  still_safe name (pushed k h) = pushed k h

  -- the field that the first entry has yet to reach
  first_kept : (name : Name) (i : ℕ) (target : Name) → IsSome (node_of s.snapshot target) → HasStrongField s.world name i (value.Ref target) →
      entry.name ≡ name → entry.position ≤ i + 1 → Kept (stepped s node entry rest) name i target
  first_kept name i target known st e le =
      let same : Some st.node ≡ Some node = sym st.node_is ∙ ap (λ n. node_of s.world n) (sym e) ∙ is in
      let node_is : st.node ≡ node = same_Some st.node node same in
      let field : strong_at node i ≡ Some (value.Ref target) = subst (λ n. strong_at n i ≡ Some (value.Ref target)) node_is st.field in
      elim (cases_eq entry.position (i + 1)) [
        | inl now ↦ inl (marked (seen i target now field known))
        | inr ne ↦
            let n : entry.position ≡ i + 1 → ⊥ = ne in
            let before : entry.position ≤ i = omega (arith, n) in
            let stays : is_last node entry.position ≡ false =
            entry_stays node entry i (value.Ref target) (within_fields node i (value.Ref target) sized field) field before in
            inr (
              st,
              queued (record {
                name = entry.name;
                position =
                    entry.position + 1;
              }) (Contains-append_left (moved_on (Some node) entry) rest _ (moved_stays node entry stays)) e (omega arith),
            )
      ]

  moved_kept : (name : Name) (i : ℕ) (target : Name) → IsSome (node_of s.snapshot target) → Kept s name i target →
      Kept (stepped s node entry rest) name i target
  moved_kept name i target known (inl safe) = inl (still_safe target safe)
  moved_kept name i target known (inr (st, unmarked h)) = inr (st, unmarked h)
  moved_kept name i target known (inr (st, queued e h n le)) = elim (or_first e h) [
    | inl same ↦ first_kept name i target known st (subst (λ (x : Entry). x.name ≡ name) (sym same) n) (subst (λ (x : Entry). x.position ≤ i + 1) (sym same) le)
    | inr other ↦ inr (st, queued e (Contains-append_right (moved_on (Some node) entry) rest e other) n le)
  ]

  pub stepped_facts : Facts (stepped s node entry rest)
  stepped_facts = record {
    base = moved_base;
    roots = f.roots;
    kept = λ name i target h.
        moved_kept name i target (target_there s.snapshot f.base.snapshot name target (refers s.snapshot name target i h)) (f.kept name i target h);
    opened = λ name c known. still_safe name (f.opened name c known);
    ended = λ weak c there. still_safe weak (f.ended weak c there);
    finalised = λ weak target parts c alive kept. still_safe target (f.finalised weak target parts c alive kept);
  }

-- the node of the first entry
first_node : (s : State) → Facts s → (entry : Entry) → Contains s.queue entry → (node : Node) × (node_of s.world entry.name ≡ Some node)
first_node s f entry h =
    let live : IsLiveIn s entry.name = f.base.live entry.name (f.base.queued entry h) in
    let there : IsSome (node_of s.snapshot entry.name) = live_there s.snapshot s.opened f.base.snapshot entry.name live in
    let old : (x : Node) × (node_of s.snapshot entry.name ≡ Some x) = is_some_of (node_of s.snapshot entry.name) there in
    let t : StillThere s.world entry.name old.0 = f.base.later entry.name old.0 old.1 in
    (t.node, t.node_is)

-- the effect of a scan of a known node, by the value that it reads
module _ (s : State) (f : Facts s) (w : IsWorld s.world) (entry : Entry) (rest : List Entry) (first : s.queue ≡ entry ∷
    rest) (node : Node) (is : node_of s.world entry.name ≡ Some node) where
  there : Contains s.queue entry
  there = rw first (contains_head entry rest)

  in_rest : (e : Entry) → Contains rest e → Contains s.queue e
  in_rest e h = rw first (contains_tail entry rest e h)

  or_first : (e : Entry) → Contains s.queue e → (entry ≡ e) ⊎ Contains rest e
  or_first e h = contains_cases entry rest e (rw first at h)

  -- the state without the first entry
  abbrev taken : State
  taken = record s { queue = rest }

  -- the value at the position is the value that is read
  read_is : (i : ℕ) (v : Value) → entry.position ≡ i + 1 → strong_at node i ≡ Some v → read_at (Some node) entry.position ≡ Some v
  read_is i v at h = let at' : entry.position ≡ suc i = omega arith in rw at' (read_at_place node i v h)

  -- a name is read
  scan_name : (target : Name) → read_at (Some node) entry.position ≡ Some (value.Ref target) → Facts (advanced (mark_name taken target) entry)
  scan_name target h = by_test (is_new s target) (mark_facts s target f (read_may s f w entry rest first node entry.position target is refl h)) seen_it
    where
      new : Entry
      new = entry_of target

      -- the queue has the same entries, whether the first entry was in it or not as the name was queued
      within : (e : Entry) → Contains (joined s.order rest new) e → Contains (joined s.order s.queue new) e
      within e c = elim (joined_cases s.order rest new e c) [
        | inl old ↦ joined_old s.order s.queue new e (in_rest e old)
        | inr same ↦ subst (Contains (joined s.order s.queue new)) same (joined_new s.order s.queue new)
      ]

      or_else : (e : Entry) → Contains (joined s.order s.queue new) e → (entry ≡ e) ⊎ Contains (joined s.order rest new) e
      or_else e c = elim (joined_cases s.order s.queue new e c) [
        | inl old ↦ elim (or_first e old) [ inl same ↦ inl same | inr r ↦ inr (joined_old s.order rest new e r) ]
        | inr same ↦ inr (subst (Contains (joined s.order rest new)) same (joined_new s.order rest new))
      ]

      by_test : (b : Bool) → Facts (cond b (with_mark s target) s) → ((i : ℕ) (other : Name) → entry.position ≡ i + 1 →
          strong_at node i ≡ Some (value.Ref other) → IsSome (node_of s.snapshot other) → Contains (cond b (with_mark s target) s).marked other) →
          Facts (advanced (cond b (with_mark taken target) taken) entry)
      by_test true g seen = rw is (stepped_facts (with_mark s target) g w entry (joined s.order rest new)
          (joined_old s.order s.queue new entry there) within or_else node is seen)
      by_test false g seen = rw is (stepped_facts s f w entry rest there in_rest or_first node is seen)

      seen_it : (i : ℕ) (other : Name) → entry.position ≡ i + 1 → strong_at node i ≡ Some (value.Ref other) → IsSome (node_of s.snapshot other) →
          Contains (mark_name s target).marked other
      seen_it i other at stood known =
          let both : Some (value.Ref target) ≡ Some (value.Ref other) = sym h ∙ read_is i (value.Ref other) at stood in
          let same : target ≡ other = cc in
          subst (λ (n : Name). Contains (mark_name s target).marked n) same (marked_then s target (subst (λ (n : Name).
          IsSome (node_of s.snapshot n)) (sym same) known))

  -- no value is read, or a value that is no reference
  scan_plain : (o : Option Value) → read_at (Some node) entry.position ≡ o → ((other : Name) → o ≡ Some (value.Ref other) → ⊥) → Facts (advanced taken entry)
  scan_plain o h plain = rw is (stepped_facts s f w entry rest there in_rest or_first node is (λ i other at stood known.
      absurd (plain other (sym h ∙ read_is i (value.Ref other) at stood))))

  scan_read : (o : Option Value) → read_at (Some node) entry.position ≡ o → Facts (advanced (mark_read taken o) entry)
  scan_read None h = scan_plain None h (λ other e. absurd cc)
  scan_read (Some value.Nil) h = scan_plain (Some value.Nil) h (λ other e. absurd cc)
  scan_read (Some (value.Number n)) h = scan_plain (Some (value.Number n)) h (λ other e. absurd cc)
  scan_read (Some (value.Ref target)) h = scan_name target h

-- a scan keeps the facts
pub scan_facts : (s : State) → Facts s → IsWorld s.world → (queue : List Entry) → s.queue ≡ queue → Facts (after_scan s queue)
scan_facts s f w [] first = f
scan_facts s f w (entry ∷ rest) first =
    let n : (node : Node) × (node_of s.world entry.name ≡ Some node) = first_node s f entry (rw first (contains_head entry rest)) in
    rw n.1 (scan_read s f w entry rest first n.0 n.1 (read_at (Some n.0) entry.position) refl)
