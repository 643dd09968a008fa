-- In every run of the machine only names are marked that the cycle's scans may meet (`IsMet HoldsOnce`).
use Rattle.nmgc_collector_laws.proofs.Vocabulary.{◌≡◌, ◌<◌, ◌++◌, ◌∷◌, ◌∙◌, ℕ, true, false, List, [], length, refl, sym, ap, subst, arith, append-nil, append_assoc, inl, inr, Some, All, Contains, All-nil, All-append, All-head, All-tail, Contains-append_left, Contains-append_right, contains_one, Command, Reply, Name, World, IsWorld, node_of, CanApply, step, Row, replayed, owed_by, owed_along, Entry, Event, Facts, HasStrongField, Passes, after_command, after_push, after_scan, after_take, pushed_of, Runs, State, names_of, read_at, newest_first, opening_in, opening_world, each_names, mark_cases, none_at_first, event_keeps_facts, opening_has_facts, snapshot_theorem, Happening, did, scanned, IsLegal, replay, rows_in, Cycle, IsMachineAtRest, with_rows}
use Rattle.nmgc_world_spec.specs.World.{shared_name, is_same_name}
use Rattle.nmgc_run_spec.specs.Run.{HoldsOnce, IsMet}
use Rattle.nmgc_snapshot_laws.specs.laws.{Listed.has_place, MarkedOnce.open_before, Runs.SameHistory, Runs.push_history, Runs.scan_history, Runs.take_history, Runs.replayed-push}
use Rattle.nmgc_world_spec.specs.declared.value.Value.TheVariants as value
use Rattle.nmgc_snapshot_laws.specs.declared.event.Event.TheVariants as event
use Rattle.std.specs.Prelude.{is_some, not, ◌&&◌}
use Rattle.std.proofs.lemmas.Bool.{cond_both}
use Rattle.std.proofs.lemmas.List.Elements.{All-cons}
use Rattle.nmgc_collector_laws.proofs.{cycles.Beginning.IsBegun, cycles.Beginning.begun, cycles.Going.leaves_scan, cycles.Going.owed_scan, cycles.Marks.HaveMarked, cycles.Marks.IfThere, cycles.Marks.marks_name, cycles.Marks.marks_opening, cycles.Marks.marks_scan, cycles.Marks.scan_reads}

-- a property of some world of a history
once_first : (P : World → Type 0) (w : World) (rows : List Row) → P w → HoldsOnce P w rows
once_first P w [] h = h
once_first P w (row ∷ rows) h = inl h

once_last : (P : World → Type 0) (w : World) (rows : List Row) → P (replayed w rows) → HoldsOnce P w rows
once_last P w [] h = h
once_last P w (row ∷ rows) h = inr (once_last P (step w row.mutator row.command).0 rows h)

once_then : (P : World → Type 0) (w : World) (rows more : List Row) → HoldsOnce P w rows → HoldsOnce P w (rows ++ more)
once_then P w [] more h = once_first P w more h
once_then P w (row ∷ rows) more (inl h) = inl h
once_then P w (row ∷ rows) more (inr h) = inr (once_then P (step w row.mutator row.command).0 rows more h)

module _ (c : Cycle) (is : IsWorld c.snapshot) where
  -- a name that the scans may meet by the rows so far
  abbrev Met : List Row → Name → Type 0
  Met rows n = IsMet HoldsOnce (record c { rows = rows }) n

  met_then : (rows more : List Row) (n : Name) → Met rows n → Met (rows ++ more) n
  met_then rows more n (IsMet.root _ r) = IsMet.root n r
  met_then rows more n (IsMet.slot _ r) = IsMet.slot n r
  met_then rows more n (IsMet.handed _ k there) = IsMet.handed n k there
  met_then rows more n (IsMet.field from _ i met other holds there) =
      IsMet.field from n i (met_then rows more from met) other
      (once_then (λ (w : World). HasStrongField w from i (value.Ref n)) c.snapshot rows more holds) there

  -- a name that an earlier round owed
  abbrev Handed : Name → Type 0
  Handed n = Contains (owed_along c.snapshot c.earlier) n

  record IsFoundSo (past : List Row) (s : State) : Type 0 where
    facts : Facts s
    world : IsWorld s.world
    snapshot_is : s.snapshot ≡ c.snapshot
    world_is : s.world ≡ replayed c.snapshot past
    marks : HaveMarked c.snapshot (Met past) s

  found_command : (past : List Row) (s next : State) (m : ℕ) (k : Command) (answer : Reply) → IsFoundSo past s →
      Passes s (event.Command m k answer) true next → next.is_closed ≡ false →
      IsFoundSo (past ++ record { mutator = m; command = k; reply = answer } ∷ []) next
  found_command past s next m k answer h p running =
      let row : Row = record { mutator = m; command = k; reply = answer } in
      let kept : Facts next × IsWorld next.world = event_keeps_facts s next (event.Command m k answer) h.facts h.world p running in
      record {
        facts = kept.0;
        world = kept.1;
        snapshot_is = ap (λ (x : State). x.snapshot) p.1 ∙ h.snapshot_is;
        world_is = ap (λ (x : State). x.world) p.1 ∙ ap (λ (w : World). (step w m k).0) h.world_is ∙ sym (replayed-push c.snapshot past row);
        marks = subst (HaveMarked c.snapshot (Met (past ++ row ∷ []))) (sym p.1) (record {
          shared = h.marks.shared;
          each = λ n d. met_then past (row ∷ []) n (h.marks.each n d);
          queued = h.marks.queued;
        });
      }

  -- an event that is no command
  found_on : (past : List Row) (s next : State) (e : Event) → IsFoundSo past s → Passes s e true next → next.is_closed ≡ false → SameHistory s next →
      HaveMarked c.snapshot (Met past) next → IsFoundSo past next
  found_on past s next e h p running same marks =
      let kept : Facts next × IsWorld next.world = event_keeps_facts s next e h.facts h.world p running in
      record {
        facts = kept.0;
        world = kept.1;
        snapshot_is = same.snapshot ∙ h.snapshot_is;
        world_is = same.world ∙ h.world_is;
        marks = marks;
      }

  -- a name that a scan reads
  met_read : (past : List Row) (s : State) → IsFoundSo past s → (entry : Entry) → Contains s.queue entry → (n : Name) →
      read_at (node_of s.world entry.name) entry.position ≡ Some (value.Ref n) → IfThere c.snapshot (Met past) n
  met_read past s h entry waits n reads there =
      let r = scan_reads s h.facts entry waits (value.Ref n) reads in
      let P : World → Type 0 = λ w. HasStrongField w entry.name r.0 (value.Ref n) in
      IsMet.field entry.name n r.0 (h.marks.each entry.name (h.facts.base.queued entry waits)) (h.marks.queued entry waits) (elim r.1 [
        | inl now ↦ once_last P c.snapshot past (subst P h.world_is now)
        | inr then ↦ once_first P c.snapshot past (subst P h.snapshot_is then)
      ]) there

  found_scan : (past : List Row) (s next : State) → IsFoundSo past s → Passes s event.Scan true next → next.is_closed ≡ false → IsFoundSo past next
  found_scan past s next h p running =
      found_on past s next event.Scan h p running (subst (SameHistory s) (sym p.1) (scan_history s s.queue))
      (subst (HaveMarked c.snapshot (Met past)) (sym p.1)
      (marks_scan c.snapshot (Met past) s s.queue h.snapshot_is h.marks refl (met_read past s h)))

  -- beside a round
  found_round : (past : List Row) (s : State) (hs : List Happening) → IsLegal s hs → s.is_closed ≡ false → IsFoundSo past s →
      IsFoundSo (past ++ rows_in hs) (replay s hs)
  found_round past s [] legal running h = subst (λ (l : List Row). IsFoundSo l s) (sym (append-nil past)) h
  found_round past s (did m k answer ∷ hs) legal running h =
      let row : Row = record { mutator = m; command = k; reply = answer } in
      let next : State = after_command s m k in
      subst (λ (l : List Row). IsFoundSo l (replay next hs)) (append_assoc past (row ∷ []) (rows_in hs))
      (found_round (past ++ row ∷ []) next hs legal.1 running (found_command past s next m k answer h (legal.0.0, refl) running))
  found_round past s (scanned entry v ∷ hs) legal running h =
      let next : State = after_scan s s.queue in
      let still : next.is_closed ≡ false = (leaves_scan s s.queue).is_closed ∙ running in
      found_round past next hs legal.1 still (found_scan past s next h (legal.0.0, refl) still)

  -- up to a round: owed and pushed names are owed by earlier rounds
  record IsOwedSo (past : List Row) (s : State) : Type 0 where
    so : IsFoundSo past s
    owed : (m : ℕ) → All Handed (names_of s.owed m)
    pushed : (m : ℕ) → All Handed (names_of s.pushed m)

  owed_command : (past : List Row) (s next : State) (m : ℕ) (k : Command) (answer : Reply) → IsOwedSo past s →
      Passes s (event.Command m k answer) true next → next.is_closed ≡ false → All Handed (owed_by s.world m k) →
      IsOwedSo (past ++ record { mutator = m; command = k; reply = answer } ∷ []) next
  owed_command past s next m k answer h p running may =
      let can : CanApply s.world m k = p.0.1 in
      let place : m < length s.owed = let a = h.so.facts.base.owed_lists in let b = can.mutator in omega arith in
      record {
        so = found_command past s next m k answer h.so p running;
        owed = subst (λ (x : State). (j : ℕ) → All Handed (names_of x.owed j)) (sym p.1)
            (each_names (All Handed) s.owed m (names_of s.owed m ++ owed_by s.world m k) place
            (All-append Handed (names_of s.owed m) (owed_by s.world m k) (h.owed m) may) h.owed);
        pushed = subst (λ (x : State). (j : ℕ) → All Handed (names_of x.pushed j)) (sym p.1) h.pushed;
      }

  owed_scanned : (past : List Row) (s next : State) → IsOwedSo past s → Passes s event.Scan true next → next.is_closed ≡ false → IsOwedSo past next
  owed_scanned past s next h p running = record {
    so = found_scan past s next h.so p running;
    owed = subst (λ (x : State). (j : ℕ) → All Handed (names_of x.owed j)) (sym p.1)
        (λ m. subst (λ (l : List (List Name)). All Handed (names_of l m)) (sym (owed_scan s s.queue)) (h.owed m));
    pushed = subst (λ (x : State). (j : ℕ) → All Handed (names_of x.pushed j)) (sym p.1)
        (λ m. subst (λ (l : List (List Name)). All Handed (names_of l m)) (sym (leaves_scan s s.queue).pushed) (h.pushed m));
  }

  abbrev HaveLists : List Row → State → Type 0
  HaveLists past s = ((m : ℕ) → All Handed (names_of s.owed m)) × ((m : ℕ) → All Handed (names_of s.pushed m)) × HaveMarked c.snapshot (Met past) s

  lists_pushed : (past : List Row) (s : State) (m : ℕ) (names : List Name) → names_of s.owed m ≡ names → IsOwedSo past s →
      HaveLists past (after_push s m names)
  lists_pushed past s m [] e h = (h.owed, h.pushed, h.so.marks)
  lists_pushed past s m (name ∷ rest) e h =
      let may : All Handed (name ∷ rest) = subst (All Handed) e (h.owed m) in
      let place : m < length s.owed = has_place s.owed m name rest e in
      let pushed_place : m < length s.pushed = let a = h.so.facts.base.owed_lists in let b = h.so.facts.base.pushed_lists in omega arith in (
        each_names (All Handed) s.owed m rest place (All-tail Handed name rest may) h.owed,
        each_names (All Handed) s.pushed m (names_of s.pushed m ++ pushed_of s name) pushed_place
            (All-append Handed (names_of s.pushed m) (pushed_of s name) (h.pushed m)
            (cond_both (is_some (node_of s.snapshot name) && not (is_same_name name shared_name)) (name ∷ []) [] (All Handed)
            (λ given. All-cons Handed name [] (All-head Handed name rest may) (All-nil Handed)) (λ dropped. All-nil Handed))) h.pushed,
        record { shared = h.so.marks.shared; each = h.so.marks.each; queued = h.so.marks.queued },
      )

  owed_pushed : (past : List Row) (s next : State) (m : ℕ) → IsOwedSo past s → Passes s (event.Push m) true next → next.is_closed ≡ false →
      IsOwedSo past next
  owed_pushed past s next m h p running =
      let lists : HaveLists past next = subst (HaveLists past) (sym p.1) (lists_pushed past s m (names_of s.owed m) refl h) in
      record {
        so = found_on past s next (event.Push m) h.so p running (subst (SameHistory s) (sym p.1) (push_history s m (names_of s.owed m))) lists.2;
        owed = lists.0;
        pushed = lists.1;
      }

  -- a take: the pushed name is marked
  lists_taken : (past : List Row) (s : State) (m : ℕ) (names : List Name) → names_of s.pushed m ≡ names → IsOwedSo past s →
      HaveLists past (after_take s m names)
  lists_taken past s m [] e h = (h.owed, h.pushed, h.so.marks)
  lists_taken past s m (name ∷ rest) e h =
      let may : All Handed (name ∷ rest) = subst (All Handed) e (h.pushed m) in
      let place : m < length s.pushed = has_place s.pushed m name rest e in
      let left = each_names (All Handed) s.pushed m rest place (All-tail Handed name rest may) h.pushed in
      let lists = mark_cases (λ (x : State). ((j : ℕ) → All Handed (names_of x.owed j)) × ((j : ℕ) → All Handed (names_of x.pushed j))) _ name
      (λ new. (h.owed, left)) (λ old. (h.owed, left)) in (
        lists.0,
        lists.1,
        marks_name c.snapshot (Met past) _ name h.so.snapshot_is (λ there. IsMet.handed name (All-head Handed name rest may) there)
            (record { shared = h.so.marks.shared; each = h.so.marks.each; queued = h.so.marks.queued }),
      )

  owed_taken : (past : List Row) (s next : State) (m : ℕ) → IsOwedSo past s → Passes s (event.Take m) true next → next.is_closed ≡ false →
      IsOwedSo past next
  owed_taken past s next m h p running =
      let lists : HaveLists past next = subst (HaveLists past) (sym p.1) (lists_taken past s m (names_of s.pushed m) refl h) in
      record {
        so = found_on past s next (event.Take m) h.so p running (subst (SameHistory s) (sym p.1) (take_history s m (names_of s.pushed m))) lists.2;
        owed = lists.0;
        pushed = lists.1;
      }

  -- the rows of the rest of a run, which earlier rounds had
  abbrev Owe : World → List Row → Type 0
  Owe w rows = (n : Name) → Contains (owed_along w rows) n → Handed n

  owe_on : (s next : State) (rows rest : List Row) → next.world ≡ s.world → rows ≡ rest → Owe s.world rows → Owe next.world rest
  owe_on s next rows rest same is may = subst (λ (w : World). Owe w rest) (sym same) (subst (λ (l : List Row). Owe s.world l) is may)

  owed_runs : (past : List Row) (s : State) (es : List Event) (rows : List Row) (t : State) → Runs s es rows t → t.is_closed ≡ false → Owe s.world rows →
      IsOwedSo past s → IsOwedSo (past ++ rows) t
  owed_runs past s [] rows t h running may so =
      rw (h.0, h.1) (subst (λ (l : List Row). IsOwedSo l s) (sym (append-nil past)) so)
  owed_runs past s (e ∷ es) rows t (false, next, rest, first, same, later) running may so =
      subst (λ (l : List Row). IsOwedSo (past ++ l) t) (sym same)
      (owed_runs past next es rest t later running (owe_on s next rows rest (ap (λ (x : State). x.world) first.1) same may)
      (subst (IsOwedSo past) (sym first.1) so))
  owed_runs past s (event.Command m k answer ∷ es) rows t (true, next, rest, first, same, later) running may so =
      let row : Row = record { mutator = m; command = k; reply = answer } in
      let all : Owe s.world (row ∷ rest) = subst (λ (l : List Row). Owe s.world l) same may in
      let w : World = (step s.world m k).0 in
      let own : (n : Name) → Contains (owed_by s.world m k) n → Handed n = λ n d. all n (Contains-append_left (owed_by s.world m k) (owed_along w rest) n d) in
      subst (λ (l : List Row). IsOwedSo (past ++ l) t) (sym same) (subst (λ (l : List Row). IsOwedSo l t) (append_assoc past (row ∷ []) rest)
      (owed_runs (past ++ row ∷ []) next es rest t later running
      (subst (λ (x : State). Owe x.world rest) (sym first.1) (λ n d. all n (Contains-append_right (owed_by s.world m k) (owed_along w rest) n d)))
      (owed_command past s next m k answer so first (open_before next es rest t later running) (all_those (owed_by s.world m k) own))))
    where
      all_those : (names : List Name) → ((n : Name) → Contains names n → Handed n) → All Handed names
      all_those [] own = All-nil Handed
      all_those (n ∷ names) own = All-cons Handed n names (own n (Contains-append_left (n ∷ []) names n (contains_one n)))
          (all_those names (λ j d. own j (Contains-append_right (n ∷ []) names j d)))
  owed_runs past s (event.Push m ∷ es) rows t (true, next, rest, first, same, later) running may so =
      let kept : SameHistory s next = subst (SameHistory s) (sym first.1) (push_history s m (names_of s.owed m)) in
      subst (λ (l : List Row). IsOwedSo (past ++ l) t) (sym same) (owed_runs past next es rest t later running (owe_on s next rows rest kept.world same may)
      (owed_pushed past s next m so first (open_before next es rest t later running)))
  owed_runs past s (event.Scan ∷ es) rows t (true, next, rest, first, same, later) running may so =
      let kept : SameHistory s next = subst (SameHistory s) (sym first.1) (scan_history s s.queue) in
      subst (λ (l : List Row). IsOwedSo (past ++ l) t) (sym same) (owed_runs past next es rest t later running (owe_on s next rows rest kept.world same may)
      (owed_scanned past s next so first (open_before next es rest t later running)))
  owed_runs past s (event.Take m ∷ es) rows t (true, next, rest, first, same, later) running may so =
      let kept : SameHistory s next = subst (SameHistory s) (sym first.1) (take_history s m (names_of s.pushed m)) in
      subst (λ (l : List Row). IsOwedSo (past ++ l) t) (sym same) (owed_runs past next es rest t later running (owe_on s next rows rest kept.world same may)
      (owed_taken past s next m so first (open_before next es rest t later running)))
  owed_runs past s (event.Close ∷ es) rows t (true, next, rest, first, same, later) running may so =
      absurd (let on : next.is_closed ≡ true = ap (λ (x : State). x.is_closed) first.1.rest in
      let bad : true ≡ false = sym on ∙ open_before next es rest t later running in cc)

  owed_opening : IsOwedSo [] (opening_in newest_first c.snapshot)
  owed_opening =
      let b : IsBegun c.snapshot (opening_in newest_first c.snapshot) = begun c.snapshot in
      record {
        so = record {
          facts = opening_has_facts newest_first c.snapshot is;
          world = subst IsWorld (sym (opening_world newest_first c.snapshot)) is;
          snapshot_is = ((snapshot_theorem newest_first c.snapshot is [] [] (opening_in newest_first c.snapshot) (refl, refl)).before b.open_yet).snapshot;
          world_is = opening_world newest_first c.snapshot;
          marks = marks_opening c.snapshot (Met []) (λ n r. IsMet.root n r) (λ n r. IsMet.slot n r);
        };
        owed = λ m. subst (All Handed) (sym (ap (λ (l : List (List Name)). names_of l m) b.owed_is ∙ none_at_first (length c.snapshot.mutators) m))
            (All-nil Handed);
        pushed = λ m. subst (All Handed) (sym (ap (λ (l : List (List Name)). names_of l m) b.pushed_is ∙ none_at_first (length c.snapshot.mutators) m))
            (All-nil Handed);
      }

-- after a round that began with the machine at rest: nothing that the round owes was handed over yet
pub round_finds : (c : Cycle) (w : World) (core : State) (hs : List Happening) → IsMachineAtRest c w core → IsLegal core hs → (n : Name) →
    Contains (replay core hs).marked n → IsMet HoldsOnce (with_rows c (rows_in hs)) n
round_finds c w core hs rest legal n k =
    let d : Cycle = with_rows c (rows_in hs) in
    let m = rest.machine in
    let may : (j : Name) → Contains (owed_along (opening_in newest_first c.snapshot).world c.rows) j → Contains (owed_along c.snapshot c.rows) j = λ j owes.
    subst (λ (v : World). Contains (owed_along v c.rows) j) (opening_world newest_first c.snapshot) owes in
    let before = owed_runs d rest.sound.world [] (opening_in newest_first c.snapshot) m.events c.rows core m.runs m.open_yet may (owed_opening d rest.sound.world) in
    (found_round d rest.sound.world c.rows core hs legal m.open_yet before.so).marks.each n k
