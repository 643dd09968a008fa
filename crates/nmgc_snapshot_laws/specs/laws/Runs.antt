-- A run keeps the snapshot theorem, event by event.
use Rattle.std.specs.Prelude.{◌≡◌, ◌∷◌, ◌++◌}
use Rattle.nmgc_snapshot_laws.specs.laws.Vocabulary.{ℕ, List, [], refl, sym, ap, subst, ◌∙◌, append-nil, append_assoc, Option, Some, None, Bool, true, false, Contains, Name, Value, Command, Reply, World, node_of, IsWorld, CanApply, step, Row, replayed, IsLegal, opened, finalised, opened_by, finalised_by, IsLive, IsDead, IsKept, Lists, closed, Entry, Event, Order, State, names_of, opening_in, mark_name, mark_read, mark_values, root_values, IsPossible, Passes, AreEmpty, after_command, after_push, after_scan, after_take, read_at, IsClosing, row_of, rows_if, Runs, IsMarking, IsExact, SnapshotTheorem, FactsAreKept, OpeningHasFacts, EventKeepsFacts, ClosingIsExact, Facts, step_keeps_world}
use Rattle.nmgc_snapshot_laws.specs.{State.unmarked, laws.Marking.mark_cases, laws.Commands.command_facts, laws.Scans.scan_facts, laws.Handing.push_facts, laws.Handing.take_facts, laws.Openings.opening_facts, laws.Ending.live_first, laws.Ending.first_live, laws.Ending.dying_lists, laws.Ending.last_kept, laws.Ending.kept_last}
use Rattle.nmgc_world_spec.specs.declared.value.Value.TheVariants as value
use Rattle.nmgc_snapshot_laws.specs.declared.event.Event.TheVariants as event

-- one more row
pub replayed-push : (w : World) (rows : List Row) (row : Row) → replayed w (rows ++ row ∷ []) ≡ (step (replayed w rows) row.mutator row.command).0
replayed-push w [] row = refl
replayed-push w (r ∷ rows) row = replayed-push (step w r.mutator r.command).0 rows row

pub legal_push : (w : World) (rows : List Row) (row : Row) → IsLegal w rows → (step (replayed w rows) row.mutator row.command).1 ≡ row.reply →
    IsLegal w (rows ++ row ∷ [])
legal_push w [] row h e = (e, tt)
legal_push w (r ∷ rows) row h e = (h.0, legal_push (step w r.mutator r.command).0 rows row h.1 e)

pub opened-push : (w : World) (rows : List Row) (row : Row) → opened w (rows ++ row ∷ []) ≡ opened w rows ++ opened_by (replayed w rows) row.mutator row.command
opened-push w [] row = append-nil (opened_by w row.mutator row.command)
opened-push w (r ∷ rows) row = rw append_assoc (ap (λ (l : List Name). opened_by w r.mutator r.command ++
    l) (opened-push (step w r.mutator r.command).0 rows row))

pub finalised-push : (w : World) (rows : List Row) (row : Row) → finalised w (rows ++ row ∷ []) ≡ finalised w rows ++
    finalised_by (replayed w rows) row.mutator row.command
finalised-push w [] row = append-nil (finalised_by w row.mutator row.command)
finalised-push w (r ∷ rows) row = rw append_assoc (ap (λ (l : List Name). finalised_by w r.mutator r.command ++
    l) (finalised-push (step w r.mutator r.command).0 rows row))

-- one more event
pub runs_push : (s t u : State) (es : List Event) (rows : List Row) (e : Event) (done : Bool) → Runs s es rows t → Passes t e done u →
    Runs s (es ++ e ∷ []) (rows ++ rows_if done e) u
runs_push s t u [] rows e done h p = (done, u, [], subst (λ (x : State). Passes x e done u) h.1 p, rw (h.0, append-nil) refl, (refl, refl))
runs_push s t u (e' ∷ es) rows e done (d, next, rest, first, is, more) p = (
  d,
  next,
  rest ++ rows_if done e,
  first,
  rw is (append_assoc (rows_if d e') rest (rows_if done e)),
  runs_push next t u es rest e done more p,
)

-- an event that is no command keeps the history
pub record SameHistory (s t : State) : Type 0 where
  pub world : t.world ≡ s.world
  pub snapshot : t.snapshot ≡ s.snapshot
  pub opened : t.opened ≡ s.opened
  pub finalised : t.finalised ≡ s.finalised
  pub is_closed : t.is_closed ≡ s.is_closed

same_history : (s : State) → SameHistory s s
same_history s = record { world = refl; snapshot = refl; opened = refl; finalised = refl; is_closed = refl }

pub mark_history : (s : State) (name : Name) → SameHistory s (mark_name s name)
mark_history s name = mark_cases (SameHistory s) s name (λ e. record {
  world = refl;
  snapshot = refl;
  opened = refl;
  finalised = refl;
  is_closed = refl;
}) (λ e. same_history s)

pub read_history : (s : State) (o : Option Value) → SameHistory s (mark_read s o)
read_history s None = same_history s
read_history s (Some value.Nil) = same_history s
read_history s (Some (value.Number n)) = same_history s
read_history s (Some (value.Ref name)) = mark_history s name

then_history : (s t u : State) → SameHistory s t → SameHistory t u → SameHistory s u
then_history s t u a b = record {
  world = b.world ∙ a.world;
  snapshot = b.snapshot ∙ a.snapshot;
  opened = b.opened ∙ a.opened;
  finalised = b.finalised ∙ a.finalised;
  is_closed = b.is_closed ∙ a.is_closed;
}

pub scan_history : (s : State) (queue : List Entry) → SameHistory s (after_scan s queue)
scan_history s [] = same_history s
scan_history s (entry ∷ rest) =
    let h = read_history (record s { queue = rest }) (read_at (node_of s.world entry.name) entry.position) in
    record { world = h.world; snapshot = h.snapshot; opened = h.opened; finalised = h.finalised; is_closed = h.is_closed }

pub push_history : (s : State) (m : ℕ) (names : List Name) → SameHistory s (after_push s m names)
push_history s m [] = same_history s
push_history s m (name ∷ rest) = record { world = refl; snapshot = refl; opened = refl; finalised = refl; is_closed = refl }

pub take_history : (s : State) (m : ℕ) (names : List Name) → SameHistory s (after_take s m names)
take_history s m [] = same_history s
take_history s m (name ∷ rest) = mark_cases (SameHistory s) _ name (λ e. record {
  world = refl;
  snapshot = refl;
  opened = refl;
  finalised = refl;
  is_closed = refl;
}) (λ e. record { world = refl; snapshot = refl; opened = refl; finalised = refl; is_closed = refl })

-- before the closing: the facts and the history
pub record IsUnderWay (w : World) (rows : List Row) (s : State) : Type 0 where
  pub facts : Facts s
  pub world : IsWorld s.world
  pub marking : IsMarking w rows s

pub live_from : (w : World) (s : State) → Facts s → s.snapshot ≡ w → (name : Name) → Contains s.marked name → IsLive w s.opened name
live_from w s f e name c = subst (λ (v : World). IsLive v s.opened name) e (f.base.live name c)

same_under_way : (w : World) (rows : List Row) (s t : State) → IsUnderWay w rows s → SameHistory s t → Facts t → IsUnderWay w rows t
same_under_way w rows s t u h f =
    let e : t.snapshot ≡ w = h.snapshot ∙ u.marking.snapshot in
    record {
      facts = f;
      world = subst IsWorld (sym h.world) u.world;
      marking = record {
        legal = u.marking.legal;
        snapshot = e;
        world = h.world ∙ u.marking.world;
        opened = h.opened ∙ u.marking.opened;
        finalised = h.finalised ∙ u.marking.finalised;
        live = live_from w t f e;
      };
    }

command_under_way : (w : World) (rows : List Row) (s : State) (m : ℕ) (c : Command) (answer : Reply) → IsUnderWay w rows s → CanApply s.world m c →
    (step s.world m c).1 ≡ answer → IsUnderWay w (rows ++ (record { mutator = m; command = c; reply = answer }) ∷ []) (after_command s m c)
command_under_way w rows s m c answer u can says =
    let row : Row = record { mutator = m; command = c; reply = answer } in
    let f : Facts (after_command s m c) = command_facts s u.facts u.world m c can.mutator in
    let now : replayed w rows ≡ s.world = sym u.marking.world in
    record {
      facts = f;
      world = step_keeps_world s.world m c u.world can;
      marking = record {
        legal = legal_push w rows row u.marking.legal (subst (λ (v : World). (step v m c).1 ≡ answer) u.marking.world says);
        snapshot = u.marking.snapshot;
        world = subst (λ (v : World). (step s.world m c).0 ≡ (step v m c).0) u.marking.world refl ∙ sym (replayed-push w rows row);
        opened = rw (u.marking.opened, opened-push w rows row, now) refl;
        finalised = rw (u.marking.finalised, finalised-push w rows row, now) refl;
        live = live_from w (after_command s m c) f u.marking.snapshot;
      };
    }

-- a run so far, by these events
pub record IsSoFar (order : Order) (w : World) (es : List Event) (rows : List Row) (s : State) : Type 0 where
  pub runs : Runs (opening_in order w) es rows s
  pub before : s.is_closed ≡ false → IsUnderWay w rows s
  pub after : s.is_closed ≡ true → IsExact order w es rows s

-- the closing of a run that is under way
close_exact : (order : Order) (w : World) (es : List Event) (rows : List Row) (s t : State) → Runs (opening_in order w) es rows s → IsUnderWay w rows s →
    IsPossible s event.Close → (c : IsClosing s t) → IsExact order w (es ++ event.Close ∷ []) rows t
close_exact order w es rows s t runs u possible c =
    let queue : s.queue ≡ [] = possible.1 in
    let owed : AreEmpty s.owed = possible.2 in
    let pushed : AreEmpty s.pushed = possible.3 in
    let e : s.snapshot ≡ w = u.marking.snapshot in
    let f : Facts s = u.facts in
    record {
      earlier = es;
      later = [];
      events_are = refl;
      before = s;
      runs = runs;
      possible = possible;
      marking = u.marking;
      closing = c;
      live = λ name. (
        λ h. subst (λ (v : World). IsLive v s.opened name) e (first_live s f queue owed pushed name h),
        λ l. live_first s f queue owed pushed name (subst (λ (v : World). IsLive v s.opened name) (sym e) l),
      );
      dead = subst (λ (v : World). Lists (IsDead v s.opened s.finalised) c.dead) e (dying_lists s f queue owed pushed c.dead c.lists);
      kept = λ name. (
        λ m. subst (λ (v : World). IsKept v s.opened s.finalised name) e (last_kept s f queue owed pushed name ((c.marked name).0 m)),
        λ k. (c.marked name).1 (kept_last s f queue owed pushed name (subst (λ (v : World). IsKept v s.opened s.finalised name) (sym e) k)),
      );
      world = ap (λ (x : State). x.world) c.rest ∙ ap (λ (v : World). closed v c.dead) u.marking.world;
    }

-- an event that can't happen after a closing
exact_later : (order : Order) (w : World) (es : List Event) (rows : List Row) (s : State) (e : Event) → IsExact order w es rows s →
    IsExact order w (es ++ e ∷ []) rows s
exact_later order w es rows s e x = record {
  earlier = x.earlier;
  later = x.later ++ e ∷ [];
  events_are = ap (λ (l : List Event). l ++ e ∷ []) x.events_are ∙ append_assoc x.earlier (event.Close ∷ x.later) (e ∷ []);
  before = x.before;
  runs = x.runs;
  possible = x.possible;
  marking = x.marking;
  closing = x.closing;
  live = x.live;
  dead = x.dead;
  kept = x.kept;
  world = x.world;
}

-- only the closing closes
still_open : (s t : State) → SameHistory s t → s.is_closed ≡ false → t.is_closed ≡ true → ⊥
still_open s t h e k = let a : t.is_closed ≡ s.is_closed = h.is_closed in let b : false ≡ true = cc in absurd cc

pub values_history : (s : State) (values : List Value) → SameHistory s (mark_values s values)
values_history s [] = same_history s
values_history s (value.Nil ∷ values) = values_history s values
values_history s (value.Number n ∷ values) = values_history s values
values_history s (value.Ref name ∷ values) =
    then_history s (mark_name s name) (mark_values (mark_name s name) values) (mark_history s name) (values_history (mark_name s name) values)

-- the world at the opening
pub opening_world : (order : Order) (w : World) → (opening_in order w).world ≡ w
opening_world order w = (values_history (unmarked order w) (root_values w)).world

-- the start of a run
pub so_far_starts : (order : Order) (w : World) → IsWorld w → IsSoFar order w [] [] (opening_in order w)
so_far_starts order w h =
    let start : SameHistory (unmarked order w) (opening_in order w) = values_history (unmarked order w) (root_values w) in
    record {
      runs = (refl, refl);
      before = λ e. let f : Facts (opening_in order w) = opening_facts order w h in record {
        facts = f;
        world = subst IsWorld (sym (opening_world order w)) h;
        marking = record {
          legal = tt;
          snapshot = start.snapshot;
          world = start.world;
          opened = start.opened;
          finalised = start.finalised;
          live = live_from w (opening_in order w) f start.snapshot;
        };
      };
      after = λ e. absurd (let a : (opening_in order w).is_closed ≡ false = start.is_closed in let b : false ≡ true = cc in cc);
    }

-- one event of a run
module _ (order : Order) (w : World) (es : List Event) (rows : List Row) (s : State) (r : IsSoFar order w es rows s) where
  -- an event that is no command and doesn't close
  quiet : (e : Event) (t : State) → row_of e ≡ [] → s.is_closed ≡ false → SameHistory s t → Facts t → Passes s e true t →
      IsSoFar order w (es ++ e ∷ []) (rows ++ rows_if true e) t
  quiet e t none running same f p = record {
    runs = runs_push (opening_in order w) s t es rows e true r.runs p;
    before = λ k. rw (none, append-nil) (same_under_way w rows s t (r.before running) same f);
    after = λ k. absurd (still_open s t same running k);
  }

  happened : (e : Event) (t : State) → Passes s e true t → IsSoFar order w (es ++ e ∷ []) (rows ++ rows_if true e) t
  happened (event.Command m c answer) t p = record {
    runs = runs_push (opening_in order w) s t es rows (event.Command m c answer) true r.runs p;
    before = λ k. subst (IsUnderWay w (rows ++ (record { mutator = m; command = c; reply = answer }) ∷
        [])) (sym p.1) (command_under_way w rows s m c answer (r.before p.0.0) p.0.1 p.0.2);
    after = λ k. absurd (let a : t.is_closed ≡ s.is_closed = ap (λ (x : State). x.is_closed) p.1 in let b : s.is_closed ≡ false = p.0.0 in
        let d : false ≡ true = cc in cc);
  }
  happened (event.Push m) t p =
      quiet (event.Push m) t refl p.0.0 (subst (SameHistory s) (sym p.1) (push_history s m (names_of s.owed m)))
      (subst Facts (sym p.1) (push_facts s (r.before p.0.0).facts m (names_of s.owed m) refl)) p
  happened event.Scan t p =
      quiet event.Scan t refl p.0.0 (subst (SameHistory s) (sym p.1) (scan_history s s.queue))
      (subst Facts (sym p.1) (scan_facts s (r.before p.0.0).facts (r.before p.0.0).world s.queue refl)) p
  happened (event.Take m) t p =
      quiet (event.Take m) t refl p.0.0 (subst (SameHistory s) (sym p.1) (take_history s m (names_of s.pushed m)))
      (subst Facts (sym p.1) (take_facts s (r.before p.0.0).facts m (names_of s.pushed m) refl)) p
  happened event.Close t p = record {
    runs = runs_push (opening_in order w) s t es rows event.Close true r.runs p;
    before = λ k. absurd (let a : t.is_closed ≡ true = ap (λ (x : State). x.is_closed) p.1.rest in let d : true ≡ false = cc in cc);
    after = λ k. subst (λ (l : List Row). IsExact order w (es ++ event.Close ∷
        []) l t) (sym (append-nil rows)) (close_exact order w es rows s t r.runs (r.before p.0.0) p.0 p.1);
  }

  -- an event that can't happen
  refused : (e : Event) (t : State) → Passes s e false t → IsSoFar order w (es ++ e ∷ []) (rows ++ rows_if false e) t
  refused e t p = record {
    runs = runs_push (opening_in order w) s t es rows e false r.runs p;
    before = λ k. rw append-nil (subst (IsUnderWay w rows) (sym p.1) (r.before (ap (λ (x : State). x.is_closed) (sym p.1) ∙ k)));
    after = λ k. subst (λ (l : List Row). IsExact order w (es ++ e ∷
        []) l t) (sym (append-nil rows)) (subst (IsExact order w (es ++ e ∷
        []) rows) (sym p.1) (exact_later order w es rows s e (r.after (ap (λ (x : State). x.is_closed) (sym p.1) ∙ k))));
  }

  so_far_on : (e : Event) (done : Bool) (t : State) → Passes s e done t → IsSoFar order w (es ++ e ∷ []) (rows ++ rows_if done e) t
  so_far_on e true t p = happened e t p
  so_far_on e false t p = refused e t p

-- the events of a run in order
so_far_runs : (order : Order) (w : World) (past : List Event) (rows : List Row) (s : State) (es : List Event) (more : List Row) (t : State) →
    IsSoFar order w past rows s → Runs s es more t → IsSoFar order w (past ++ es) (rows ++ more) t
so_far_runs order w past rows s [] more t r h =
    let now : IsSoFar order w (past ++ []) rows s = subst (λ (l : List Event). IsSoFar order w l rows s) (sym (append-nil past)) r in
    rw (h.0, h.1) (subst (λ (l : List Row). IsSoFar order w (past ++ []) l s) (sym (append-nil rows)) now)
so_far_runs order w past rows s (e ∷ es) more t r (done, next, rest, first, is, runs) =
    let now : IsSoFar order w ((past ++ e ∷ []) ++ es) ((rows ++ rows_if done e) ++ rest) t =
    so_far_runs order w (past ++ e ∷ []) (rows ++ rows_if done e) next es rest t (so_far_on order w past rows s r e done next first) runs in
    let moved : IsSoFar order w (past ++ e ∷ es) ((rows ++ rows_if done e) ++ rest) t =
    subst (λ (l : List Event). IsSoFar order w l ((rows ++ rows_if done e) ++ rest) t) (append_assoc past (e ∷ []) es) now in
    rw (is, ← append_assoc rows (rows_if done e) rest) moved

pub run_so_far : (order : Order) (w : World) → IsWorld w → (es : List Event) (rows : List Row) (s : State) → Runs (opening_in order w) es rows s →
    IsSoFar order w es rows s
run_so_far order w h es rows s runs = so_far_runs order w [] [] (opening_in order w) es rows s (so_far_starts order w h) runs

-- the snapshot theorem
pub snapshot_theorem : SnapshotTheorem
snapshot_theorem order w h es rows s runs =
    let r : IsSoFar order w es rows s = run_so_far order w h es rows s runs in
    record { before = λ e. (r.before e).marking; after = r.after }

-- the facts hold at the opening, and each event keeps them
pub opening_has_facts : OpeningHasFacts
opening_has_facts order w h = opening_facts order w h

pub event_keeps_facts : EventKeepsFacts
event_keeps_facts s next (event.Command m c answer) f h p running = (
  subst Facts (sym p.1) (command_facts s f h m c p.0.1.mutator),
  subst (λ (t : State). IsWorld t.world) (sym p.1) (step_keeps_world s.world m c h p.0.1),
)
event_keeps_facts s next (event.Push m) f h p running = (
  subst Facts (sym p.1) (push_facts s f m (names_of s.owed m) refl),
  subst (λ (t : State). IsWorld t.world) (sym p.1) (subst IsWorld (sym (push_history s m (names_of s.owed m)).world) h),
)
event_keeps_facts s next event.Scan f h p running = (
  subst Facts (sym p.1) (scan_facts s f h s.queue refl),
  subst (λ (t : State). IsWorld t.world) (sym p.1) (subst IsWorld (sym (scan_history s s.queue).world) h),
)
event_keeps_facts s next (event.Take m) f h p running = (
  subst Facts (sym p.1) (take_facts s f m (names_of s.pushed m) refl),
  subst (λ (t : State). IsWorld t.world) (sym p.1) (subst IsWorld (sym (take_history s m (names_of s.pushed m)).world) h),
)
event_keeps_facts s next event.Close f h p running = absurd (let a : next.is_closed ≡ true = ap (λ (x : State). x.is_closed) p.1.rest in
    let d : true ≡ false = cc in cc)

-- and a closing is exact
pub closing_is_exact : ClosingIsExact
closing_is_exact s next f p c = record {
  live = λ name. (first_live s f p.1 p.2 p.3 name, live_first s f p.1 p.2 p.3 name);
  dead = dying_lists s f p.1 p.2 p.3 c.dead c.lists;
  kept = λ name. (λ m. last_kept s f p.1 p.2 p.3 name ((c.marked name).0 m), λ k. (c.marked name).1 (kept_last s f p.1 p.2 p.3 name k));
}

-- and the facts before the closing
pub facts_kept : FactsAreKept
facts_kept order w h es rows s runs running = ((run_so_far order w h es rows s runs).before running).facts
