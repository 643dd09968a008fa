-- A field that holds in every world of a run is read: its target is marked, or the scan of its object has yet to reach it. A
-- push doesn't help here: a pushed name isn't marked yet. So this is kept apart from the facts.
use Rattle.std.specs.Prelude.{◌≡◌, ◌≤◌, ◌+◌, ◌∷◌, ◌⊎◌}
use Rattle.nmgc_snapshot_laws.specs.laws.Vocabulary.{ℕ, List, [], suc, refl, sym, ap, subst, ◌∙◌, arith, true, false, Option, Some, None, inl, inr, IsSome, Contains, contains_cases, at_some, one_is, name_cases, cases_eq, Contains-append_left, Contains-append_right, Name, Value, Node, World, IsWorld, IsNodeOf, node_of, shared_name, Row, RefersTo, Entry, Event, Facts, IsAhead, queued, unmarked, HasStrongField, advanced, after_command, after_push, after_scan, after_take, Runs, is_last, moved_on, read_at, State, Order, mark_name, mark_read, mark_values, names_of, opening_in, root_values}
use Rattle.nmgc_world_spec.specs.Reach.{HoldsThroughout}
use Rattle.nmgc_snapshot_laws.specs.{State.unmarked as first_state, laws.Lives.refers, laws.Lives.target_there, laws.Marking.mark_cases, laws.Marking.ahead_then, laws.Marking.marked_then, laws.ScanReads.read_at_place, laws.ScanReads.within_fields, laws.Scans.entry_stays, laws.Scans.moved_stays, laws.Openings.slot_marked, laws.MarkedOnce.open_before, laws.Runs.SameHistory, laws.Runs.read_history, laws.Runs.scan_history, laws.Runs.push_history, laws.Runs.take_history, laws.Runs.values_history, laws.Runs.event_keeps_facts, laws.Runs.opening_has_facts, laws.Runs.opening_world}
use Rattle.nmgc_world_spec.specs.declared.value.Value.TheVariants as value
use Rattle.nmgc_snapshot_laws.specs.declared.event.Event.TheVariants as event

-- a property of every world of a history holds in the first
pub first_holds : (P : World → Type 0) (w : World) (rows : List Row) → HoldsThroughout P w rows → P w
first_holds P w [] h = h
first_holds P w (row ∷ rows) h = h.0

module _ (name : Name) (i : ℕ) (target : Name) where
  -- the field: in this world the name refers to the target at this position
  abbrev pub Field : World → Type 0
  Field w = HasStrongField w name i (value.Ref target)

  abbrev pub IsReadOrAhead : State → Type 0
  IsReadOrAhead s = Contains s.marked target ⊎ IsAhead s name i

  -- other parts of the state don't matter
  same_ahead : (s t : State) → t.marked ≡ s.marked → t.queue ≡ s.queue → IsReadOrAhead s → IsReadOrAhead t
  same_ahead s t m q (inl k) = inl (subst (λ (l : List Name). Contains l target) (sym m) k)
  same_ahead s t m q (inr (unmarked k)) = inr (unmarked (λ c. k (subst (λ (l : List Name). Contains l name) m c)))
  same_ahead s t m q (inr (queued entry c is le)) = inr (queued entry (subst (λ (l : List Entry). Contains l entry) (sym q) c) is le)

  ahead_name : (s : State) (n : Name) → IsReadOrAhead s → IsReadOrAhead (mark_name s n)
  ahead_name s n h = mark_cases IsReadOrAhead s n
      (λ new. elim h [ inl k ↦ inl (Contains-append_left s.marked (n ∷ []) target k) | inr k ↦ inr (ahead_then s n name i k) ])
      (λ old. h)

  ahead_read : (s : State) (v : Option Value) → IsReadOrAhead s → IsReadOrAhead (mark_read s v)
  ahead_read s None h = h
  ahead_read s (Some value.Nil) h = h
  ahead_read s (Some (value.Number n)) h = h
  ahead_read s (Some (value.Ref n)) h = ahead_name s n h

  ahead_values : (s : State) (values : List Value) → IsReadOrAhead s → IsReadOrAhead (mark_values s values)
  ahead_values s [] h = h
  ahead_values s (value.Nil ∷ values) h = ahead_values s values h
  ahead_values s (value.Number n ∷ values) h = ahead_values s values h
  ahead_values s (value.Ref n ∷ values) h = ahead_values (mark_name s n) values (ahead_name s n h)

  -- as marking begins, nothing was read, except g's slots
  ahead_opening : (order : Order) (w : World) → IsWorld w → Field w → IsReadOrAhead (opening_in order w)
  ahead_opening order w is st = elim (name_cases name shared_name) [
    | inl g ↦ inl (slot_marked order w is target (subst (λ (n : Name). RefersTo w n target) g (refers w name target i st)))
    | inr ne ↦ ahead_values (first_state order w) (root_values w) (inr (unmarked (λ c. ne (sym (one_is shared_name name c)))))
  ]

  -- a scan at this field reads the target
  reads : (s : State) → IsSome (node_of s.snapshot target) → Field s.world → (entry : Entry) → entry.name ≡ name → entry.position ≡ i + 1 →
      Contains (mark_read s (read_at (node_of s.world entry.name) entry.position)).marked target
  reads s there st entry is at =
      let node_is : node_of s.world entry.name ≡ Some st.node = ap (λ (n : Name). node_of s.world n) is ∙ st.node_is in
      let next : entry.position ≡ suc i = omega arith in
      let v : read_at (node_of s.world entry.name) entry.position ≡ Some (value.Ref target) =
      subst (λ (o : Option Node). read_at o entry.position ≡ Some (value.Ref target)) (sym node_is)
      (subst (λ (p : ℕ). read_at (Some st.node) p ≡ Some (value.Ref target)) (sym next) (read_at_place st.node i (value.Ref target) st.field)) in
      subst (λ (o : Option Value). Contains (mark_read s o).marked target) (sym v) (marked_then s target there)

  -- an entry that is first again leaves the other entries
  ahead_front : (t : State) (entry : Entry) → IsReadOrAhead t → IsReadOrAhead (advanced t entry)
  ahead_front t entry (inl k) = inl k
  ahead_front t entry (inr (unmarked k)) = inr (unmarked k)
  ahead_front t entry (inr (queued e c is le)) =
      inr (queued e (Contains-append_right (moved_on (node_of t.world entry.name) entry) t.queue e c) is le)

  -- the object's own entry moves on, once the target was marked if it was at this field
  ahead_moved : (t : State) (entry : Entry) → IsWorld t.world → Field t.world →
      (entry.name ≡ name → entry.position ≡ i + 1 → Contains t.marked target) → entry.name ≡ name → entry.position ≤ i + 1 →
      IsReadOrAhead (advanced t entry)
  ahead_moved t entry w st seen own low = elim (cases_eq entry.position (i + 1)) [
    | inl now ↦ inl (seen own now)
    | inr ne ↦
        let n : entry.position ≡ i + 1 → ⊥ = ne in
        let before : entry.position ≤ i = omega (arith, n) in
        let node_is : node_of t.world entry.name ≡ Some st.node = ap (λ (x : Name). node_of t.world x) own ∙ st.node_is in
        let of_world : IsNodeOf t.world st.node = at_some (node_of t.world name) st.node (IsNodeOf t.world) st.node_is (w.nodes name) in
        let stays : is_last st.node entry.position ≡ false =
        entry_stays st.node entry i (value.Ref target) (within_fields st.node i (value.Ref target) of_world.sized st.field) st.field before in
        let later : Entry = record { name = entry.name; position = entry.position + 1 } in
        inr (queued later (Contains-append_left (moved_on (node_of t.world entry.name) entry) t.queue later
        (subst (λ (o : Option Node). Contains (moved_on o entry) later) (sym node_is) (moved_stays st.node entry stays))) own (omega arith))
  ]

  ahead_scan : (s : State) → IsWorld s.world → IsSome (node_of s.snapshot target) → Field s.world → IsReadOrAhead s → (queue : List Entry) →
      s.queue ≡ queue → IsReadOrAhead (after_scan s queue)
  ahead_scan s w there st h [] e = h
  ahead_scan s w there st h (entry ∷ rest) e = by_place h
    where
      taken : State
      taken = record s { queue = rest }

      v : Option Value
      v = read_at (node_of s.world entry.name) entry.position

      t : State
      t = mark_read taken v

      same : t.world ≡ s.world
      same = (read_history taken v).world

      by_place : IsReadOrAhead s → IsReadOrAhead (advanced t entry)
      by_place (inl k) = ahead_front t entry (ahead_read taken v (inl k))
      by_place (inr (unmarked k)) = ahead_front t entry (ahead_read taken v (inr (unmarked k)))
      by_place (inr (queued x c is le)) = elim (contains_cases entry rest x (subst (λ (l : List Entry). Contains l x) e c)) [
        | inr other ↦ ahead_front t entry (ahead_read taken v (inr (queued x other is le)))
        | inl own ↦ ahead_moved t entry (subst IsWorld (sym same) w) (subst Field (sym same) st) (reads taken there st entry)
            (ap (λ (y : Entry). y.name) own ∙ is) (subst (λ (y : Entry). y.position ≤ i + 1) (sym own) le)
      ]

  ahead_push : (s : State) (m : ℕ) (names : List Name) → IsReadOrAhead s → IsReadOrAhead (after_push s m names)
  ahead_push s m [] h = h
  ahead_push s m (n ∷ rest) h = same_ahead s (after_push s m (n ∷ rest)) refl refl h

  ahead_take : (s : State) (m : ℕ) (names : List Name) → IsReadOrAhead s → IsReadOrAhead (after_take s m names)
  ahead_take s m [] h = h
  ahead_take s m (n ∷ rest) h = ahead_name _ n (same_ahead s _ refl refl h)

  -- a state whose further worlds all have the field
  record Goes (s : State) (rows : List Row) : Type 0 where
    facts : Facts s
    world : IsWorld s.world
    there : IsSome (node_of s.snapshot target)
    holds : HoldsThroughout Field s.world rows
    ahead : IsReadOrAhead s

  -- an event that is no command
  goes_on : (s next : State) (rows : List Row) → SameHistory s next → Facts next × IsWorld next.world → IsReadOrAhead next → Goes s rows → Goes next rows
  goes_on s next rows same kept ahead g = record {
    facts = kept.0;
    world = kept.1;
    there = subst (λ (w : World). IsSome (node_of w target)) (sym same.snapshot) g.there;
    holds = subst (λ (w : World). HoldsThroughout Field w rows) (sym same.world) g.holds;
    ahead = ahead;
  }

  goes_runs : (s : State) (es : List Event) (rows : List Row) (t : State) → Runs s es rows t → t.is_closed ≡ false → Goes s rows → IsReadOrAhead t
  goes_runs s [] rows t h running g = subst IsReadOrAhead (sym h.1) g.ahead
  goes_runs s (e ∷ es) rows t (false, next, rest, first, is, later) running g =
      goes_runs next es rest t later running (subst (λ (x : State). Goes x rest) (sym first.1) (subst (λ (l : List Row). Goes s l) is g))
  goes_runs s (event.Command m c answer ∷ es) rows t (true, next, rest, first, is, later) running g =
      let kept : Facts next × IsWorld next.world =
      event_keeps_facts s next (event.Command m c answer) g.facts g.world first (open_before next es rest t later running) in
      let row : Row = record { mutator = m; command = c; reply = answer } in
      let all : HoldsThroughout Field s.world (row ∷ rest) = subst (λ (l : List Row). HoldsThroughout Field s.world l) is g.holds in
      goes_runs next es rest t later running (record {
        facts = kept.0;
        world = kept.1;
        there = subst (λ (x : State). IsSome (node_of x.snapshot target)) (sym first.1) g.there;
        holds = subst (λ (x : State). HoldsThroughout Field x.world rest) (sym first.1) all.1;
        ahead = subst IsReadOrAhead (sym first.1) (same_ahead s (after_command s m c) refl refl g.ahead);
      })
  goes_runs s (event.Push m ∷ es) rows t (true, next, rest, first, is, later) running g =
      goes_runs next es rest t later running (goes_on s next rest
      (subst (SameHistory s) (sym first.1) (push_history s m (names_of s.owed m)))
      (event_keeps_facts s next (event.Push m) g.facts g.world first (open_before next es rest t later running))
      (subst IsReadOrAhead (sym first.1) (ahead_push s m (names_of s.owed m) g.ahead)) (subst (λ (l : List Row). Goes s l) is g))
  goes_runs s (event.Scan ∷ es) rows t (true, next, rest, first, is, later) running g =
      goes_runs next es rest t later running (goes_on s next rest
      (subst (SameHistory s) (sym first.1) (scan_history s s.queue))
      (event_keeps_facts s next event.Scan g.facts g.world first (open_before next es rest t later running))
      (subst IsReadOrAhead (sym first.1) (ahead_scan s g.world g.there (first_holds Field s.world rows g.holds) g.ahead s.queue refl))
      (subst (λ (l : List Row). Goes s l) is g))
  goes_runs s (event.Take m ∷ es) rows t (true, next, rest, first, is, later) running g =
      goes_runs next es rest t later running (goes_on s next rest
      (subst (SameHistory s) (sym first.1) (take_history s m (names_of s.pushed m)))
      (event_keeps_facts s next (event.Take m) g.facts g.world first (open_before next es rest t later running))
      (subst IsReadOrAhead (sym first.1) (ahead_take s m (names_of s.pushed m) g.ahead)) (subst (λ (l : List Row). Goes s l) is g))
  goes_runs s (event.Close ∷ es) rows t (true, next, rest, first, is, later) running g =
      let on : next.is_closed ≡ true = ap (λ (x : State). x.is_closed) first.1.rest in
      absurd (let bad : true ≡ false = sym on ∙ open_before next es rest t later running in cc)

  -- a field that holds in every world of a run from an opening
  pub field_read : (order : Order) (w : World) → IsWorld w → (es : List Event) (rows : List Row) (s : State) → Runs (opening_in order w) es rows s →
      s.is_closed ≡ false → HoldsThroughout Field w rows → IsReadOrAhead s
  field_read order w is es rows s runs running holds =
      let st : Field w = first_holds Field w rows holds in
      goes_runs (opening_in order w) es rows s runs running (record {
        facts = opening_has_facts order w is;
        world = subst IsWorld (sym (opening_world order w)) is;
        there = subst (λ (v : World). IsSome (node_of v target)) (sym (values_history (first_state order w) (root_values w)).snapshot)
            (target_there w is name target (refers w name target i st));
        holds = subst (λ (v : World). HoldsThroughout Field v rows) (sym (opening_world order w)) holds;
        ahead = ahead_opening order w is st;
      })
