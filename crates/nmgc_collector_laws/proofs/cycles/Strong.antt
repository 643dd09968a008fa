-- Only names that strong fields of the snapshot reach from its roots, or from opened names, are marked. If no command owes
-- anything, exactly the names that they reach from the roots are marked.
use Rattle.nmgc_collector_laws.proofs.Vocabulary.{◌≡◌, ◌<◌, ℕ, true, false, List, [], ◌∷◌, ◌++◌, length, refl, sym, ap, subst, ◌∙◌, arith, inl, inr, Option, Some, None, IsSome, IfSome, All, Contains, All-contains, Command, Reply, Node, Name, World, IsWorld, node_of, state_of, CanApply, next_name, shared_name, step, Row, IsReached, IsRoot, RefersTo, strong_fields, at_some, nothing_in, not_shared, Names, Fields, CoversReach, owed_by, field_at_place, some_of, all_moves, opened_owed, Entry, Event, Facts, IsSafe, IsAhead, marked, owed, queued, Passes, after_scan, Runs, read_at, State, names_of, newest_first, opening_in, next_absent, all_from_contains, each_names, stands, event_keeps_facts, opening_has_facts, opening_world, snapshot_theorem, world_scanned, owed_along, none_at_first, not}
use Rattle.nmgc_world_laws.specs.{laws.Moves.RespectsBarrier}
use Rattle.nmgc_world_spec.specs.Reach.{opened_by, values_owed}
use Rattle.nmgc_snapshot_laws.specs.{Facts.pushed, Facts.unmarked, laws.MarkedOnce.open_before}
use Rattle.nmgc_world_spec.specs.declared.value.Value.TheVariants as value
use Rattle.nmgc_snapshot_laws.specs.declared.event.Event.TheVariants as event
use Rattle.nmgc_collector_laws.proofs.{cycles.Beginning.IsBegun, cycles.Beginning.begun, cycles.Going.Leaves, cycles.Going.leaves_scan, cycles.Going.owed_scan, cycles.Marks.HaveMarked, cycles.Marks.marks_opening, cycles.Marks.marks_scan, cycles.Marks.queues_there, cycles.Marks.registers_there, cycles.Marks.scan_reads}

-- both parts of a list without items have none
none_first : (xs ys : List Name) → xs ++ ys ≡ [] → xs ≡ []
none_first [] ys e = refl
none_first (x ∷ xs) ys e = absurd cc

none_last : (xs ys : List Name) → xs ++ ys ≡ [] → ys ≡ []
none_last [] ys e = e
none_last (x ∷ xs) ys e = absurd cc

module _ (S : World) (is : IsWorld S) (First : Name → Type 0) (roots : (n : Name) → IsRoot S n → First n) where
  -- reached in the snapshot, by strong fields alone, from its roots or other first names
  abbrev pub Reached : Name → Type 0
  Reached n = IsReached S First n

  -- or made since
  abbrev pub Kept : Name → Type 0
  Kept n = IsSome (node_of S n) → Reached n

  -- values held by the snapshot's roots and reached objects
  held_fields : (name : Name) → Kept name → (o : Option Node) → node_of S name ≡ o → IfSome o (Fields (Names Kept))
  held_fields name k None e = tt
  held_fields name k (Some node) e = all_from_contains Kept (strong_fields node) (λ target c there.
      IsReached.field name target (k (some_of (node_of S name) node e)) (node, e, c))

  from_roots : (n : Name) → IsRoot S n → Reached n
  from_roots n r = IsReached.start n (roots n r)

  from_slots : (n : Name) → RefersTo S shared_name n → Reached n
  from_slots n r = IsReached.field shared_name n (from_roots shared_name (inl refl)) r

  snapshot_holds : CoversReach Kept S
  snapshot_holds = record {
    registers = registers_there S Reached from_roots from_slots;
    queues = queues_there S Reached from_roots from_slots;
    fields = λ name k. held_fields name k (node_of S name) refl;
  }

  pub shared_kept : Kept shared_name
  shared_kept there = IsReached.start shared_name (roots shared_name (inl refl))

  -- marked names are reached so
  abbrev pub AreStrong : State → Type 0
  AreStrong = HaveMarked S Reached

  -- a state of the machine so far
  pub record IsReachedSo (s : State) : Type 0 where
    pub facts : Facts s
    pub world : IsWorld s.world
    pub snapshot_is : s.snapshot ≡ S
    pub holds : CoversReach Kept s.world
    pub strong : AreStrong s

  -- names that a scan reads in the snapshot are reached so
  strong_read : (s : State) → IsReachedSo s → (entry : Entry) → Contains s.queue entry → (n : Name) →
      read_at (node_of s.world entry.name) entry.position ≡ Some (value.Ref n) → Kept n
  strong_read s h entry waits n reads =
      let strong : Reached entry.name = h.strong.each entry.name (h.facts.base.queued entry waits) in
      let r = scan_reads s h.facts entry waits (value.Ref n) reads in
      elim r.1 [
        | inl now ↦ All-contains (Names Kept) (strong_fields now.node) (value.Ref n)
            (at_some (node_of s.world entry.name) now.node (Fields (Names Kept)) now.node_is (h.holds.fields entry.name (λ there.
            strong))) (field_at_place now.node r.0 (value.Ref n) now.field)
        | inr then ↦ λ known. IsReached.field entry.name n strong
            (subst (λ (w : World). RefersTo w entry.name n) h.snapshot_is (then.node, then.node_is, field_at_place then.node r.0 (value.Ref n) then.field))
      ]

  -- a command that opens only such names keeps it, and owes only such names
  reached_command : (s : State) (m : ℕ) (c : Command) (answer : Reply) → IsReachedSo s → (next : State) →
      Passes s (event.Command m c answer) true next → next.is_closed ≡ false → ((n : Name) → Contains (opened_by s.world m c) n → Kept n) →
      RespectsBarrier Kept s.world (step s.world m c).0 (values_owed s.world m c)
  reached_command s m c answer h next p running may =
      let can : CanApply s.world m c = p.0.1 in
      let own = not_shared s.world m h.world can.mutator in
      let name : Name = next_name (state_of s.world m) m in
      let fresh : Kept name = λ there. absurd (next_absent s m h.facts.base own (subst (λ (w : World). IsSome (node_of w name)) (sym h.snapshot_is) there)) in
      all_moves Kept s.world m c can.mutator own shared_kept fresh may h.holds

  -- an event that is no command leaves world and snapshot
  pub reached_on : (s next : State) (e : Event) → IsReachedSo s → Passes s e true next → next.is_closed ≡ false → next.world ≡ s.world →
      next.snapshot ≡ s.snapshot → AreStrong next → IsReachedSo next
  reached_on s next e h p running world_is same strong =
      let kept : Facts next × IsWorld next.world = event_keeps_facts s next e h.facts h.world p running in
      record {
        facts = kept.0;
        world = kept.1;
        snapshot_is = same ∙ h.snapshot_is;
        holds = subst (λ (w : World). CoversReach Kept w) (sym world_is) h.holds;
        strong = strong;
      }

  pub after_moves : (s next : State) (m : ℕ) (c : Command) (answer : Reply) → IsReachedSo s → Passes s (event.Command m c answer) true next →
      next.is_closed ≡ false → ((n : Name) → Contains (opened_by s.world m c) n → Kept n) →
      IsReachedSo next × All (Names Kept) (values_owed s.world m c)
  after_moves s next m c answer h p running may =
      let kept : Facts next × IsWorld next.world = event_keeps_facts s next (event.Command m c answer) h.facts h.world p running in
      let moves = reached_command s m c answer h next p running may in (
        record {
          facts = kept.0;
          world = kept.1;
          snapshot_is = ap (λ (x : State). x.snapshot) p.1 ∙ h.snapshot_is;
          holds = subst (λ (x : State). CoversReach Kept x.world) (sym p.1) moves.holds;
          strong = subst AreStrong (sym p.1) (record { shared = h.strong.shared; each = h.strong.each; queued = h.strong.queued });
        },
        moves.owes,
      )

  pub reached_scanned : (s next : State) → IsReachedSo s → Passes s event.Scan true next → next.is_closed ≡ false → IsReachedSo next
  reached_scanned s next h p running =
      reached_on s next event.Scan h p running (ap (λ (x : State). x.world) p.1 ∙ world_scanned s s.queue)
      (ap (λ (x : State). x.snapshot) p.1 ∙ (leaves_scan s s.queue).snapshot) (subst AreStrong (sym p.1) (marks_scan S Reached s s.queue h.snapshot_is h.strong refl (strong_read s h)))

  -- as marking begins
  pub reached_opening : IsReachedSo (opening_in newest_first S)
  reached_opening =
      let b : IsBegun S (opening_in newest_first S) = begun S in
      record {
        facts = opening_has_facts newest_first S is;
        world = subst IsWorld (sym b.world_is) is;
        snapshot_is = ((snapshot_theorem newest_first S is [] [] (opening_in newest_first S) (refl, refl)).before b.open_yet).snapshot;
        holds = subst (λ (w : World). CoversReach Kept w) (sym b.world_is) snapshot_holds;
        strong = marks_opening S Reached from_roots from_slots;
      }

module _ (S : World) (is : IsWorld S) where
  abbrev pub Strong : Name → Type 0
  Strong n = IsReached S (IsRoot S) n

  abbrev itself : (n : Name) → IsRoot S n → IsRoot S n
  itself n r = r

  -- a state of the machine so far, in which nothing was ever owed
  pub record IsStrongSo (s : State) : Type 0 where
    pub so : IsReachedSo S is (IsRoot S) itself s
    pub none_owed : (m : ℕ) → names_of s.owed m ≡ []
    pub none_pushed : (m : ℕ) → names_of s.pushed m ≡ []

  -- each event keeps it, if its command owes nothing
  strong_command : (s next : State) (m : ℕ) (c : Command) (answer : Reply) → IsStrongSo s → Passes s (event.Command m c answer) true next →
      next.is_closed ≡ false → owed_by s.world m c ≡ [] → IsStrongSo next
  strong_command s next m c answer h p running none =
      let moved = after_moves S is (IsRoot S) itself s next m c answer h.so p running (λ n d.
      absurd (nothing_in n (subst (λ (l : List Name). Contains l n) none (opened_owed s.world m c n d)))) in
      let can : CanApply s.world m c = p.0.1 in
      let place : m < length s.owed = let a = h.so.facts.base.owed_lists in let b = can.mutator in omega arith in
      let empty : names_of s.owed m ++ owed_by s.world m c ≡ [] = ap (λ (l : List Name). l ++ owed_by s.world m c) (h.none_owed m) ∙ none in
      record {
        so = moved.0;
        none_owed = subst (λ (x : State). (k : ℕ) → names_of x.owed k ≡ []) (sym p.1)
            (each_names (λ (l : List Name). l ≡ []) s.owed m (names_of s.owed m ++ owed_by s.world m c) place empty h.none_owed);
        none_pushed = subst (λ (x : State). (k : ℕ) → names_of x.pushed k ≡ []) (sym p.1) h.none_pushed;
      }

  strong_scanned : (s next : State) → IsStrongSo s → Passes s event.Scan true next → next.is_closed ≡ false → IsStrongSo next
  strong_scanned s next h p running =
      let left : Leaves s (after_scan s s.queue) = leaves_scan s s.queue in
      record {
        so = reached_scanned S is (IsRoot S) itself s next h.so p running;
        none_owed = λ m. ap (λ (x : State). names_of x.owed m) p.1 ∙ ap (λ (l : List (List Name)). names_of l m) (owed_scan s s.queue) ∙ h.none_owed m;
        none_pushed = λ m. ap (λ (x : State). names_of x.pushed m) p.1 ∙ ap (λ (l : List (List Name)). names_of l m) left.pushed ∙ h.none_pushed m;
      }

  -- a run whose commands owe nothing keeps it
  strong_runs : (s : State) (es : List Event) (rows : List Row) (t : State) → Runs s es rows t → t.is_closed ≡ false →
      owed_along s.world rows ≡ [] → IsStrongSo s → IsStrongSo t
  strong_runs s [] rows t h running none so = subst IsStrongSo (sym h.1) so
  strong_runs s (e ∷ es) rows t (false, next, rest, first, same, later) running none so =
      strong_runs next es rest t later running (subst (λ (y : World × List Row). owed_along y.0 y.1 ≡ []) (λ i. (
        (sym first.1 i).world,
        same i,
      )) none) (subst IsStrongSo (sym first.1) so)
  strong_runs s (event.Command m c answer ∷ es) rows t (true, next, rest, first, same, later) running none so =
      let own : owed_by s.world m c ++ owed_along (step s.world m c).0 rest ≡ [] = ap (λ (l : List Row). owed_along s.world l) (sym same) ∙ none in
      strong_runs next es rest t later running
      (rw (ap (λ (x : State).
      x.world) (sym first.1)) at (none_last (owed_by s.world m c) (owed_along (step s.world m c).0 rest) own))
      (strong_command s next m c answer so first (open_before next es rest t later running)
      (none_first (owed_by s.world m c) (owed_along (step s.world m c).0 rest) own))
  strong_runs s (event.Push m ∷ es) rows t (true, next, rest, first, same, later) running none so = absurd (first.0.1 (so.none_owed m))
  strong_runs s (event.Take m ∷ es) rows t (true, next, rest, first, same, later) running none so = absurd (first.0.1 (so.none_pushed m))
  strong_runs s (event.Scan ∷ es) rows t (true, next, rest, first, same, later) running none so =
      strong_runs next es rest t later running
      (subst (λ (y : World × List Row). owed_along y.0 y.1 ≡ []) (λ i. (sym (ap (λ (x : State). x.world) first.1 ∙ world_scanned s s.queue) i, same i)) none)
      (strong_scanned s next so first (open_before next es rest t later running))
  strong_runs s (event.Close ∷ es) rows t (true, next, rest, first, same, later) running none so =
      absurd (let on : next.is_closed ≡ true = ap (λ (x : State). x.is_closed) first.1.rest in let off = open_before next es rest t later running in
      let bad : true ≡ false = sym on ∙ off in cc)

  -- as marking begins
  strong_opening : IsStrongSo (opening_in newest_first S)
  strong_opening =
      let b : IsBegun S (opening_in newest_first S) = begun S in
      record {
        so = reached_opening S is (IsRoot S) itself;
        none_owed = λ m. ap (λ (l : List (List Name)). names_of l m) b.owed_is ∙ none_at_first (length S.mutators) m;
        none_pushed = λ m. ap (λ (l : List (List Name)). names_of l m) b.pushed_is ∙ none_at_first (length S.mutators) m;
      }

  -- if nothing waits, exactly the names reached so are marked
  pub record IsExactlyStrong (core : State) : Type 0 where
    pub sound : (n : Name) → Contains core.marked n → Strong n
    pub complete : (n : Name) → Strong n → Contains core.marked n

  pub exactly_strong : (es : List Event) (rows : List Row) (core : State) → Runs (opening_in newest_first S) es rows core → core.is_closed ≡ false →
      owed_along S rows ≡ [] → core.queue ≡ [] → IsExactlyStrong core
  exactly_strong es rows core runs running none empty =
      let so : IsStrongSo core = strong_runs (opening_in newest_first S) es rows core runs running (rw (opening_world newest_first S) none) strong_opening in
      record { sound = so.so.strong.each; complete = all_marked so }
    where
      all_marked : IsStrongSo core → (n : Name) → Strong n → Contains core.marked n
      all_marked so n (IsReached.start _ root) = so.so.facts.roots n (subst (λ (w : World). IsRoot w n) (sym so.so.snapshot_is) root)
      all_marked so n (IsReached.field from _ reached refers) =
          let st = stands core.snapshot from n (subst (λ (w : World). RefersTo w from n) (sym so.so.snapshot_is) refers) in
          let here : Contains core.marked from = all_marked so from reached in
          elim (so.so.facts.kept from st.0 n st.1) [
            | inl safe ↦ by_safe safe
            | inr ahead ↦ by_ahead st.0 here ahead.1
          ]
        where
          by_safe : IsSafe core n → Contains core.marked n
          by_safe (marked c) = c
          by_safe (owed m c) = absurd (nothing_in n (subst (λ (l : List Name). Contains l n) (so.none_owed m) c))
          by_safe (pushed m c) = absurd (nothing_in n (subst (λ (l : List Name). Contains l n) (so.none_pushed m) c))

          by_ahead : (i : ℕ) → Contains core.marked from → IsAhead core from i → Contains core.marked n
          by_ahead i here (unmarked not) = absurd (not here)
          by_ahead i here (queued entry c is le) = absurd (nothing_in entry (subst (λ (l : List Entry). Contains l entry) empty c))
