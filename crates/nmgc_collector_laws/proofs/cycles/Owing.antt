-- The machine goes on after a round, and has pushed the mutators' remembered entries.
use Rattle.nmgc_collector_laws.proofs.Vocabulary.{◌≡◌, ◌<◌, ℕ, Bool, true, false, List, [], ◌++◌, map, sym, ap, subst, ◌∙◌, arith, append-nil, Some, slice_get, Contains, filter, slice_get_within, Name, World, Row, nursery_place, Event, Facts, is_pushed_in, Runs, State, names_of, newest_first, opening_in, facts_kept, snapshot_theorem, map_item, event_of, rows_in, Opening, Part, Seen, marks_of, now, Owes, AreOwed, CanOpen, IsFinished, places_then, Mutator, remembered_of, all_pushed, Done, HaveWorked, own_part, parts_are, slice_at, item, item_found, AreRemembered, IsCoreOf, Cycle, IsMachineAtRest, with_rows, HaveOwed, SlicesAreOwed, GoesOn, MachineGoesOn, runs_then, each_empty}
use Rattle.nmgc_round.specs.Objects.{IsIn}
use Rattle.nmgc_collector_laws.proofs.{cycles.Going.Leaves, cycles.Going.round_runs, cycles.Going.leaves_round, cycles.Pushing.AllPushed, cycles.Pushing.push_all, cycles.Remembering.all_found, cycles.Remembering.pushed_low, cycles.Seats.parts_gathered}
use Rattle.nmgc_snapshot_laws.specs.laws.MarkedOnce.{marked_runs}
use Rattle.nmgc_collector_laws.proofs.{cycles.Found.round_finds, cycles.Handed.owed_marked}
use Rattle.nmgc_run_spec.specs.Run.{HoldsOnce, IsMet}

pub slices_owed : SlicesAreOwed
slices_owed o before round old mutators seats done scans opens h nothing k p n there new =
    let here : slice_get (map own_part seats) k ≡ Some p = rw (parts_gathered o scans seats ∙
    parts_are o before round old mutators seats done opens h) at there in
    let seat = map_item own_part seats k p here in
    let s = slice_at o before round old mutators seats done opens h k seat.0 seat.1 in
    let both : Some s.n ≡ Some n = sym s.new ∙ new in
    let is : s.n ≡ n = cc in
    let own : remembered_of s.n ≡ all_pushed o.layout (own_part seat.0).owed = s.did.pushed ∙
    ap (λ l. l ++ all_pushed s.m.layout s.did.owed) (nothing k s.m s.was) ∙ (λ i. all_pushed (s.resting.layout_is i) (sym s.did.went.owed_is i)) in
    subst (λ (y : Mutator × Part). remembered_of y.0 ≡ all_pushed o.layout y.1.owed) (λ i. (is i, sym seat.2 i)) own

module _ (c : Cycle) (o : Opening) (before words : List ℕ) (v : Seen) (mutators : List Mutator) (done : List (List Done)) (on : o.marking ≡
    true) (can : CanOpen o before) (rest : IsMachineAtRest c o.core.world o.core) (h : IsFinished o words v)
    (worked : HaveWorked o v.parts mutators done) (owed : HaveOwed o v.parts mutators) where
  -- the state after the events of the round
  abbrev then : State
  then = now o h.events

  abbrev rows : List Row
  rows = c.rows ++ rows_in h.events

  abbrev events : List Event
  events = rest.machine.events ++ map event_of h.events

  left : Leaves o.core then
  left = leaves_round o.core h.events

  runs : Runs (opening_in newest_first c.snapshot) events rows then
  runs = runs_then (opening_in newest_first c.snapshot) o.core then rest.machine.events (map event_of h.events) c.rows (rows_in h.events) rest.machine.runs
      (round_runs o.core h.events h.legal)

  running : then.is_closed ≡ false
  running = left.is_closed ∙ rest.machine.open_yet

  facts : Facts then
  facts = facts_kept newest_first c.snapshot rest.sound.world events rows then runs running

  snapshot_is : then.snapshot ≡ c.snapshot
  snapshot_is = ((snapshot_theorem newest_first c.snapshot rest.sound.world events rows then runs).before running).snapshot

  -- and after the pushes
  all : (t : State) × AllPushed then t
  all = push_all then running (facts.base.pushed_lists ∙ sym facts.base.owed_lists)

  abbrev core : State
  core = all.0

  machine : IsCoreOf (with_rows c (rows_in h.events)) then.world core
  machine = record {
    events = events ++ all.1.events;
    runs = rw (append-nil rows) at (runs_then (opening_in newest_first c.snapshot) then core events all.1.events rows [] runs all.1.runs);
    open_yet = ap (λ (x : State). x.is_closed) all.1.rest ∙ running;
    world_is = ap (λ (x : State). x.world) all.1.rest;
    nothing_owed = all.1.none;
    handed = λ name owed there.
        let before = owed_marked c.snapshot rest.sound.world name there rest.machine.events c.rows o.core rest.machine.runs rest.machine.open_yet
        rest.machine.nothing_owed rest.none_pushed owed in
        let beside = marked_runs o.core (map event_of h.events) (rows_in h.events) then (round_runs o.core h.events h.legal) running name before in
        marked_runs then all.1.events [] core all.1.runs (ap (λ (x : State). x.is_closed) all.1.rest ∙ running) name beside;
  }

  found : (name : Name) → Contains core.marked name → IsMet HoldsOnce (with_rows c (rows_in h.events)) name
  found name k = round_finds c o.core.world o.core h.events rest h.legal name (subst (λ (x : State). Contains x.marked name) (all.1.rest) k)

  -- a mutator of the round with its part
  record IsOwn (k : ℕ) (m : Mutator) : Type 0 where
    part : Part
    entries : remembered_of m ≡ all_pushed o.layout part.owed
    owes : AreOwed (IsIn o h.born) part.owed (names_of then.owed k)

  own_at : (k : ℕ) (m : Mutator) → slice_get mutators k ≡ Some m → IsOwn k m
  own_at k m e =
      let lt = slice_get_within mutators k m e in
      let many = worked.mutators_are in let lists = worked.done_are in let parts = worked.parts_are in
      let p = item v.parts k (omega arith) in
      let d = item done k (omega arith) in
      let number : p.0.number ≡ k = (worked.each k p.0 m d.0 p.1 e d.1).number ∙ worked.numbers_are k m e in
      let owes : Owes o.marking (IsIn o h.born) p.0.owed (names_of then.owed p.0.number) = (h.parts k p.0 (item_found v.parts k p.0 p.1)).0.owed in
      record {
        part = p.0;
        entries = owed k p.0 m p.1 e;
        owes = subst (λ (j : ℕ). AreOwed (IsIn o h.born) p.0.owed (names_of then.owed j)) number (subst (λ (b : Bool).
            Owes b (IsIn o h.born) p.0.owed (names_of then.owed p.0.number)) on owes);
      }

  none_before : (k : ℕ) → names_of then.pushed k ≡ []
  none_before k = ap (λ (l : List (List Name)). names_of l k) left.pushed ∙ each_empty o.core.pushed rest.none_pushed k

  remembered : (k : ℕ) (m : Mutator) → slice_get mutators k ≡ Some m →
      AreRemembered (with_rows c (rows_in h.events)) (places_then o h.born) (remembered_of m) (names_of core.pushed k)
  remembered k m e =
      let own = own_at k m e in
      let f = all_found o before words v can h own.part.owed own.owes.0 own.owes.1 in
      let same : c.snapshot ≡ o.core.snapshot = sym snapshot_is ∙ left.snapshot in
      rw own.entries (record {
        names = f.names;
        at = f.at;
        counted =
            ap (λ (w : World). filter (is_pushed_in w) f.names) same
            ∙ f.counted
            ∙ ap (λ (l : List Name). filter (is_pushed_in o.core.snapshot) l) own.owes.2
            ∙ ap (λ (w : World). filter (is_pushed_in w) (names_of then.owed k)) (sym left.snapshot)
            ∙ ap (λ (l : List Name). l ++ filter (is_pushed_in then.snapshot) (names_of then.owed k)) (sym (none_before k))
            ∙ sym (all.1.pushed_is k);
      })

  low : (k : ℕ) (m : Mutator) → slice_get mutators k ≡ Some m → (at : ℕ) → Contains (remembered_of m) at → at < nursery_place o.layout 0
  low k m e at d = let own = own_at k m e in pushed_low o.layout own.part.owed at (subst (λ (l : List ℕ). Contains l at) own.entries d)

  goes_on : (t : State) × GoesOn c o words v h mutators t
  goes_on = (
    core,
    record { machine = machine; marks = ap (λ (x : State). marks_of x) all.1.rest; found = found; remembered = remembered; low = low },
  )

pub machine_goes_on : MachineGoesOn
machine_goes_on c o before words v mutators done on can rest h worked owed = goes_on c o before words v mutators done on can rest h worked owed
