-- Names of the snapshot that the commands of a run owed are safe, and so they are marked while nothing is owed or pushed.
use Rattle.nmgc_collector_laws.proofs.Vocabulary.{◌≡◌, ◌⊎◌, ℕ, true, false, List, [], ◌∷◌, sym, ap, subst, ◌∙◌, refl, inl, inr, IsSome, Contains, Contains-append_cases, Name, World, IsWorld, node_of, step, Row, owed_along, owed_by, Entry, Event, Facts, IsSafe, marked, owed, AreEmpty, Passes, after_command, after_push, after_scan, after_take, Runs, State, names_of, newest_first, opening_in, nothing_in, each_empty, event_keeps_facts, opening_has_facts, opening_world, snapshot_theorem}
use Rattle.nmgc_snapshot_laws.specs.{Facts.pushed, laws.Commands.still_safe, laws.Commands.owed_safe, laws.Handing.push_safe, laws.Handing.take_safe, laws.MarkedOnce.marked_scan, laws.MarkedOnce.open_before, laws.Runs.SameHistory, laws.Runs.push_history, laws.Runs.scan_history, laws.Runs.take_history}
use Rattle.nmgc_snapshot_laws.specs.declared.event.Event.TheVariants as event
use Rattle.nmgc_collector_laws.proofs.{cycles.Beginning.begun, cycles.Going.leaves_scan, cycles.Going.owed_scan}

module _ (S : World) (is : IsWorld S) (n : Name) (there : IsSome (node_of S n)) where
  -- a state from which the rest of a run owes the name, unless it is safe already
  record WillBeSafe (s : State) (rows : List Row) : Type 0 where
    facts : Facts s
    world : IsWorld s.world
    snapshot_is : s.snapshot ≡ S
    safe : IsSafe s n ⊎ Contains (owed_along s.world rows) n

  known : (s : State) → s.snapshot ≡ S → IsSome (node_of s.snapshot n)
  known s same = subst (λ (w : World). IsSome (node_of w n)) (sym same) there

  scan_safe : (s : State) (queue : List Entry) → IsSafe s n → IsSafe (after_scan s queue) n
  scan_safe s queue (marked k) = marked (marked_scan s queue n k)
  scan_safe s queue (owed m k) = owed m (subst (λ (l : List (List Name)). Contains (names_of l m) n) (sym (owed_scan s queue)) k)
  scan_safe s queue (pushed m k) = pushed m (subst (λ (l : List (List Name)). Contains (names_of l m) n) (sym (leaves_scan s queue).pushed) k)

  push_on : (s : State) → Facts s → s.snapshot ≡ S → (m : ℕ) (names : List Name) → names_of s.owed m ≡ names → IsSafe s n → IsSafe (after_push s m names) n
  push_on s f same m [] e k = k
  push_on s f same m (name ∷ rest) e k = push_safe s f m name rest e n (known s same) k

  take_on : (s : State) → Facts s → s.snapshot ≡ S → (m : ℕ) (names : List Name) → names_of s.pushed m ≡ names → IsSafe s n → IsSafe (after_take s m names) n
  take_on s f same m [] e k = k
  take_on s f same m (name ∷ rest) e k = take_safe s f m name rest e n (known s same) k

  -- an event that is no command
  quiet : (s next : State) (e : Event) (rows : List Row) → Passes s e true next → next.is_closed ≡ false → SameHistory s next →
      (IsSafe s n → IsSafe next n) → WillBeSafe s rows → WillBeSafe next rows
  quiet s next e rows p running same on h =
      let kept : Facts next × IsWorld next.world = event_keeps_facts s next e h.facts h.world p running in
      record {
        facts = kept.0;
        world = kept.1;
        snapshot_is = same.snapshot ∙ h.snapshot_is;
        safe = elim h.safe [
          | inl k ↦ inl (on k)
          | inr k ↦ inr (subst (λ (w : World). Contains (owed_along w rows) n) (sym same.world) k)
        ];
      }

  safe_runs : (s : State) (es : List Event) (rows : List Row) (t : State) → Runs s es rows t → t.is_closed ≡ false → WillBeSafe s rows → IsSafe t n
  safe_runs s [] rows t h running g = subst (λ (x : State). IsSafe x n) (sym h.1) (elim g.safe [
    | inl k ↦ k
    | inr k ↦ absurd (nothing_in n (subst (λ (l : List Row). Contains (owed_along s.world l) n) h.0 k))
  ])
  safe_runs s (e ∷ es) rows t (false, next, rest, first, same, later) running g =
      safe_runs next es rest t later running (subst (λ (x : State). WillBeSafe x rest) (sym first.1) (subst (λ (l : List Row). WillBeSafe s l) same g))
  safe_runs s (event.Command m c answer ∷ es) rows t (true, next, rest, first, same, later) running g =
      let kept : Facts next × IsWorld next.world =
      event_keeps_facts s next (event.Command m c answer) g.facts g.world first (open_before next es rest t later running) in
      let row : Row = record { mutator = m; command = c; reply = answer } in
      let all : WillBeSafe s (row ∷ rest) = subst (λ (l : List Row). WillBeSafe s l) same g in
      let now : IsSafe (after_command s m c) n ⊎ Contains (owed_along (step s.world m c).0 rest) n = elim all.safe [
        | inl k ↦ inl (still_safe s g.facts g.world m c first.0.1.mutator n k)
        | inr k ↦ elim (Contains-append_cases (owed_by s.world m c) (owed_along (step s.world m c).0 rest) n k) [
          | inl mine ↦ inl (owed_safe s g.facts g.world m c first.0.1.mutator n mine)
          | inr later ↦ inr later
        ]
      ] in
      safe_runs next es rest t later running (record {
        facts = kept.0;
        world = kept.1;
        snapshot_is = ap (λ (x : State). x.snapshot) first.1 ∙ g.snapshot_is;
        safe = subst (λ (x : State). IsSafe x n ⊎ Contains (owed_along x.world rest) n) (sym first.1) now;
      })
  safe_runs s (event.Push m ∷ es) rows t (true, next, rest, first, same, later) running g =
      safe_runs next es rest t later running (quiet s next (event.Push m) rest first (open_before next es rest t later running)
      (subst (SameHistory s) (sym first.1) (push_history s m (names_of s.owed m)))
      (λ k. subst (λ (x : State). IsSafe x n) (sym first.1) (push_on s g.facts g.snapshot_is m (names_of s.owed m) refl k))
      (subst (λ (l : List Row). WillBeSafe s l) same g))
  safe_runs s (event.Scan ∷ es) rows t (true, next, rest, first, same, later) running g =
      safe_runs next es rest t later running (quiet s next event.Scan rest first (open_before next es rest t later running)
      (subst (SameHistory s) (sym first.1) (scan_history s s.queue))
      (λ k. subst (λ (x : State). IsSafe x n) (sym first.1) (scan_safe s s.queue k)) (subst (λ (l : List Row). WillBeSafe s l) same g))
  safe_runs s (event.Take m ∷ es) rows t (true, next, rest, first, same, later) running g =
      safe_runs next es rest t later running (quiet s next (event.Take m) rest first (open_before next es rest t later running)
      (subst (SameHistory s) (sym first.1) (take_history s m (names_of s.pushed m)))
      (λ k. subst (λ (x : State). IsSafe x n) (sym first.1) (take_on s g.facts g.snapshot_is m (names_of s.pushed m) refl k))
      (subst (λ (l : List Row). WillBeSafe s l) same g))
  safe_runs s (event.Close ∷ es) rows t (true, next, rest, first, same, later) running g =
      let on : next.is_closed ≡ true = ap (λ (x : State). x.is_closed) first.1.rest in
      absurd (let bad : true ≡ false = sym on ∙ open_before next es rest t later running in cc)

  pub owed_marked : (es : List Event) (rows : List Row) (core : State) → Runs (opening_in newest_first S) es rows core → core.is_closed ≡ false → AreEmpty core.owed →
      AreEmpty core.pushed → Contains (owed_along S rows) n → Contains core.marked n
  owed_marked es rows core runs running none_owed none_pushed k =
      by_safe (safe_runs (opening_in newest_first S) es rows core runs running (record {
        facts = opening_has_facts newest_first S is;
        world = subst IsWorld (sym (opening_world newest_first S)) is;
        snapshot_is = ((snapshot_theorem newest_first S is [] [] (opening_in newest_first S) (refl, refl)).before (begun S).open_yet).snapshot;
        safe = inr (subst (λ (w : World). Contains (owed_along w rows) n) (sym (opening_world newest_first S)) k);
      }))
    where
      by_safe : IsSafe core n → Contains core.marked n
      by_safe (marked c) = c
      by_safe (owed m c) = absurd (nothing_in n (subst (λ (l : List Name). Contains l n) (each_empty core.owed none_owed m) c))
      by_safe (pushed m c) = absurd (nothing_in n (subst (λ (l : List Name). Contains l n) (each_empty core.pushed none_pushed m) c))
