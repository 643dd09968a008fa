-- The marks of scans at a stop: all marked names have a fact that strong fields of the world hand on.
use Rattle.nmgc_weak.proofs.Vocabulary.{◌≡◌, ◌≤◌, ◌+◌, ℕ, zero, suc, Bool, true, false, cond, eqb, leb, List, [], ◌∷◌, refl, sym, ap, subst, ◌∙◌, arith, Option, Some, None, inl, inr, ◌⊎◌, Contains, IsSome, ◌&&◌, or_parts, and_cases, cases_eq, Contains-append_cases, Contains-push_cases, Name, Value, Node, World, node_of, RefersTo, contains_head, contains_tail, nothing_in, one_is, after_scan, advanced, read_at, moved_on, fields_of, is_last, State, entry_of, mark_name, mark_read, mark_cases, joined_cases, new_there, read_cases, has_result, field_at_place, Happening, did, scanned, replay, AreScans, eq-eqb}
use Rattle.nmgc_snapshot_laws.specs.declared.event.Entry.{Entry}
use Rattle.nmgc_world_spec.specs.declared.value.Value.TheVariants as value

module _ (P : Name → Type 0) (w snapshot : World) (hands_on : (name target : Name) → P name → RefersTo w name target →
    IsSome (node_of snapshot target) → P target) where
  -- an entry of such a name, which is past a thunk's result only if there is none
  pub record IsClean (entry : Entry) : Type 0 where
    pub name : P entry.name
    pub passed : (entry.position ≤ 1) ⊎ ((node : Node) → node_of w entry.name ≡ Some node → has_result node ≡ false)

  -- marked and queued names have the fact
  pub record AreClean (s : State) : Type 0 where
    pub world : s.world ≡ w
    pub snapshot_is : s.snapshot ≡ snapshot
    pub marked : (name : Name) → Contains s.marked name → P name
    pub queued : (entry : Entry) → Contains s.queue entry → IsClean entry

  name_clean : (s : State) (name : Name) → AreClean s → (IsSome (node_of snapshot name) → P name) → AreClean (mark_name s name)
  name_clean s name h may = mark_cases AreClean s name
      (λ e.
      let there : IsSome (node_of snapshot name) = subst (λ (x : World). IsSome (node_of x name)) h.snapshot_is (new_there s name e) in
      record {
        world = h.world;
        snapshot_is = h.snapshot_is;
        marked = λ n c. elim (Contains-push_cases s.marked name n c) [ inl old ↦ h.marked n old | inr same ↦ subst P same (may there) ];
        queued = λ entry c. elim (joined_cases s.order s.queue (entry_of name) entry c) [
          | inl old ↦ h.queued entry old
          | inr same ↦ subst IsClean same (record { name = may there; passed = inl (omega arith) })
        ];
      })
      (λ e. h)

  read_clean : (s : State) (x : Option Value) → AreClean s → ((target : Name) → x ≡ Some (value.Ref target) → IsSome (node_of snapshot target) →
      P target) → AreClean (mark_read s x)
  read_clean s None h may = h
  read_clean s (Some value.Nil) h may = h
  read_clean s (Some (value.Number n)) h may = h
  read_clean s (Some (value.Ref name)) h may = name_clean s name h (may name refl)

  -- the value that the first entry reads
  reads : (entry : Entry) (node : Option Node) (position : ℕ) (target : Name) → IsClean entry → node_of w entry.name ≡ node →
      entry.position ≡ position → read_at node position ≡ Some (value.Ref target) → IsSome (node_of snapshot target) → P target
  reads entry None position target c e at h there = absurd cc
  reads entry (Some node) zero target c e at h there = absurd cc
  reads entry (Some node) (suc i) target c e at h there = elim (read_cases node i (value.Ref target) h) [
    | inl strong ↦ hands_on entry.name target c.name (node, e, field_at_place node i (value.Ref target) strong) there
    | inr free ↦ elim c.passed [
      | inl small ↦ let one = free.1 in absurd (omega arith)
      | inr none ↦ let a : has_result node ≡ true = free.0 in let b : has_result node ≡ false = none node e in let bad : true ≡ false = sym a ∙ b in absurd cc
    ]
  ]

  moved : (entry e : Entry) (node : Option Node) → node_of w entry.name ≡ node → IsClean entry → Contains (moved_on node entry) e → IsClean e
  moved entry e None is c k = absurd (nothing_in e k)
  moved entry e (Some node) is c k = by_test (is_last node entry.position) refl k
    where
      further_on : is_last node entry.position ≡ false → IsClean (record { name = entry.name; position = entry.position + 1 })
      further_on last = record {
        name = c.name;
        passed = elim c.passed [
          | inr none ↦ inr none
          | inl small ↦ elim (cases_eq entry.position 1) [
            | inr ne ↦ inl (let n : entry.position ≡ 1 → ⊥ = ne in omega (arith, n))
            | inl one ↦ elim (and_cases (eqb entry.position 1) (has_result node)
                (or_parts (leb (fields_of node) entry.position) (eqb entry.position 1 && has_result node) last).1) [
                  | inl differs ↦ let same : eqb entry.position 1 ≡ true = eq-eqb entry.position 1 one in absurd cc
                  | inr none ↦ inr (λ other o. let both : Some node ≡ Some other = sym is ∙ o in let eq : node ≡ other = cc in
                      subst (λ (n : Node). has_result n ≡ false) eq none)
                ]
          ]
        ];
      }

      by_test : (b : Bool) → is_last node entry.position ≡ b →
          Contains (cond b [] ((record { name = entry.name; position = entry.position + 1 }) ∷ [])) e → IsClean e
      by_test true last d = absurd (nothing_in e d)
      by_test false last d = subst IsClean (one_is (record { name = entry.name; position = entry.position + 1 }) e d) (further_on last)

  advanced_clean : (s : State) (entry : Entry) → IsClean entry → AreClean s → AreClean (advanced s entry)
  advanced_clean s entry clean h = record {
    world = h.world;
    snapshot_is = h.snapshot_is;
    marked = h.marked;
    queued = λ other c. elim (Contains-append_cases (moved_on (node_of s.world entry.name) entry) s.queue other c) [
      | inl mine ↦ moved entry other (node_of s.world entry.name) (ap (λ (x : World). node_of x entry.name) (sym h.world)) clean mine
      | inr old ↦ h.queued other old
    ];
  }

  scan_clean : (s : State) (queue : List Entry) → s.queue ≡ queue → AreClean s → AreClean (after_scan s queue)
  scan_clean s [] e h = h
  scan_clean s (entry ∷ rest) e h =
      let read : Option Value = read_at (node_of s.world entry.name) entry.position in
      let from : State = record s { queue = rest } in
      let c : IsClean entry = h.queued entry (subst (λ (q : List Entry). Contains q entry) (sym e) (contains_head entry rest)) in
      let left : AreClean from = record {
        world = h.world;
        snapshot_is = h.snapshot_is;
        marked = h.marked;
        queued = λ other d. h.queued other (subst (λ (q : List Entry). Contains q other) (sym e) (contains_tail entry rest other d));
      } in
      advanced_clean (mark_read from read) entry c (read_clean from read left (λ target is there.
      reads entry (node_of s.world entry.name) entry.position target c (ap (λ (x : World). node_of x entry.name) (sym h.world)) refl is there))

  pub scans_clean : (s : State) (es : List Happening) → AreScans es → AreClean s → AreClean (replay s es)
  scans_clean s [] h c = c
  scans_clean s (did m x r ∷ es) h c = absurd h
  scans_clean s (scanned entry v ∷ es) h c = scans_clean (after_scan s s.queue) es h (scan_clean s s.queue refl c)

  -- a state whose waiting names have the fact, before any of their fields was read
  pub clean_from : (s : State) → s.world ≡ w → s.snapshot ≡ snapshot → ((name : Name) → Contains s.marked name → P name) →
      ((entry : Entry) → Contains s.queue entry → P entry.name × (entry.position ≤ 1)) → AreClean s
  clean_from s world is marked queued = record {
    world = world;
    snapshot_is = is;
    marked = marked;
    queued = λ entry c. let q = queued entry c in
        record { name = q.0; passed = inl q.1 };
  }
