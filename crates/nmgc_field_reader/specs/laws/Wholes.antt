-- A whole trace of format 3 has a cycle that ends in it, and each such cycle is exact.
use Rattle.std.proofs.Common.{List, [], ap, arith, inl, inr, length, refl, subst, sym, ℕ, ◌+◌, ◌++◌, ◌∙◌, ◌∷◌, ◌≡◌, ◌⊎◌}
use Rattle.std.proofs.lemmas.List.Elements.{All-nil}
use Rattle.std.specs.Prelude.{All, Contains, IsSome, ◌↔◌}
use Rattle.nmgc_world_spec.specs.{declared.value.Name.Name, World.World}
use Rattle.nmgc_barrier_laws.specs.FieldCycle.{FieldCycle, IsFieldEnd, KeepsName, WatchesFields}
use Rattle.nmgc_barrier_laws.specs.laws.FieldMarking.{field_safety}
use Rattle.nmgc_field_checker.specs.{declared.event.FieldEvent.FieldEvent, declared.watch.FieldPhase.FieldPhase, declared.watch.FieldWatch.FieldWatch, Heaps.IsBelow, Heaps.IsHeapWorld, Heaps.named, Heaps.world_of, Marking.IsLeft, Marking.Running, Reports.Left, Watching.Can, Watching.Changes, Watching.InCycle, Watching.IsWatched, Watching.Quietly, laws.Rule.closed_is_exact, laws.Rule.events_keep}
use Rattle.nmgc_field_checker.specs.declared.event.FieldEvent.TheVariants as event
use Rattle.nmgc_field_checker.specs.declared.watch.FieldPhase.TheVariants as phase
use Rattle.nmgc_field_reader.specs.{declared.report.FieldReport.FieldReport, FieldTraces.Comes, FieldTraces.FieldTrace, FieldTraces.Happens, FieldTraces.nothing_yet, FieldTraces.report_of, FieldWhole.Closes, FieldWhole.IsExact, FieldWhole.IsWholeReport}
use Rattle.nmgc_field_reader.specs.declared.report.FieldReport.TheVariants as report

-- no cycle has ended, or a cycle goes on
abbrev IsEarly : FieldPhase → Type 0
IsEarly (phase.Between w) = Unit {0}
IsEarly (phase.Marking running) = Unit {0}
IsEarly (phase.Ended left) = ⊥
IsEarly phase.Stopped = ⊥

-- a close leads from this phase to that phase
pub record IsClose (q next : FieldPhase) : Type 0 where
  pub running : Running
  pub left : Left
  pub marking : q ≡ phase.Marking running
  pub ends : IsFieldEnd running.cycle
  pub is_left : IsLeft running.cycle left
  pub next_is : next ≡ phase.Ended left

-- a phase after an early phase: early, or after a close
abbrev Turns : FieldPhase → FieldPhase → Type 0
Turns q next = IsEarly next ⊎ IsClose q next

same_turns : (q next : FieldPhase) → IsEarly q → next ≡ q → Turns q next
same_turns q next early e = inl (subst IsEarly (sym e) early)

quietly_turns : (Line : FieldCycle → FieldCycle → Type 0) (q next : FieldPhase) → IsEarly q → Quietly Line q next → Turns q next
quietly_turns Line (phase.Between w) next early h = inl (subst IsEarly (sym h) tt)
quietly_turns Line (phase.Marking p) next early h = inl (subst IsEarly (sym h.2) tt)
quietly_turns Line (phase.Ended left) next early h = absurd early
quietly_turns Line phase.Stopped next early h = absurd early

changes_turn : (line m : ℕ) (Change : World → World → Type 0) (q next : FieldPhase) → IsEarly q → Changes line m Change q next → Turns q next
changes_turn line m Change (phase.Between w) next early h = inl (subst IsEarly (sym h.2) tt)
changes_turn line m Change (phase.Marking p) next early h = inl (subst IsEarly (sym h.2) tt)
changes_turn line m Change (phase.Ended left) next early h = absurd early
changes_turn line m Change phase.Stopped next early h = absurd early

cycle_turns : (Line : FieldCycle → FieldCycle → Type 0) (p next : FieldWatch) → InCycle Line p next → Turns p.phase next.phase
cycle_turns Line p next h = inl (subst (λ (x : FieldWatch). IsEarly x.phase) (sym h.next_is) tt)

event_turns : (line : ℕ) (p : FieldWatch) (e : FieldEvent) (next : FieldWatch) → IsEarly p.phase → Can line p e next → Turns p.phase next.phase
event_turns line p (event.Began a) next early c = same_turns p.phase next.phase early c.phase
event_turns line p (event.Ended a) next early c = quietly_turns _ p.phase next.phase early c.phase
event_turns line p (event.Made a taken count fields) next early c = changes_turn line a.number _ p.phase next.phase early c.changes
event_turns line p (event.Written a object place fields) next early c = changes_turn line a.number _ p.phase next.phase early c.changes
event_turns line p (event.Handed a object b) next early c = quietly_turns _ p.phase next.phase early c.given
event_turns line p (event.Owed a object) next early c = quietly_turns _ p.phase next.phase early c.opened
event_turns line p (event.Mark roots) next early c = inl (subst (λ (x : FieldWatch). IsEarly x.phase) (sym c.next_is) tt)
event_turns line p (event.Scan a roots) next early c = cycle_turns _ p next c.1
event_turns line p (event.Push a object) next early c = cycle_turns _ p next c.1
event_turns line p (event.Settle a) next early c = cycle_turns _ p next c.1
event_turns line p event.Close next early c = inr (record {
  running = c.before;
  left = c.left;
  marking = c.marking;
  ends = c.ends;
  is_left = c.is_left;
  next_is = ap (λ (x : FieldWatch). x.phase) c.next_is;
})
event_turns line p (event.Marked objects) next early c = same_turns p.phase next.phase early (ap (λ (x : FieldWatch). x.phase) c.next_is)
event_turns line p (event.Black objects) next early c = same_turns p.phase next.phase early (ap (λ (x : FieldWatch). x.phase) c.next_is)
event_turns line p (event.Freed objects) next early c = absurd (subst IsEarly c.ended early)
event_turns line p event.Stop next early c = absurd (subst IsEarly c.ended early)

line_turns : (n : ℕ) (p : FieldTrace) (text : List ℕ) (after : FieldTrace) → IsEarly p.watch.phase → Happens n p text after → Turns p.watch.phase after.watch.phase
line_turns n p text after early (inl h) = same_turns p.watch.phase after.watch.phase early (ap (λ (x : FieldTrace). x.watch.phase) h.1)
line_turns n p text after early (inr h) = event_turns n p.watch h.1.0 after.watch early h.1.1.takes.can

-- a close among lines. The first of the lines has this number and comes after this trace
record ClosesFrom (n : ℕ) (p : FieldTrace) (lines : List (List ℕ)) : Type 0 where
  earlier : List (List ℕ)
  close : List ℕ
  later : List (List ℕ)
  lines_are : lines ≡ earlier ++ close ∷ later
  before : FieldTrace
  after : FieldTrace
  comes : Comes n p earlier before
  happens : Happens (n + length earlier) before close after
  is_close : IsClose before.watch.phase after.watch.phase

one_earlier : (n : ℕ) (p after : FieldTrace) (text : List ℕ) (texts : List (List ℕ)) → Happens n p text after → ClosesFrom (n + 1) after texts → ClosesFrom n p (text ∷ texts)
one_earlier n p after text texts h c = record {
  earlier = text ∷ c.earlier;
  close = c.close;
  later = c.later;
  lines_are = ap (λ (l : List (List ℕ)). text ∷ l) c.lines_are;
  before = c.before;
  after = c.after;
  comes = (after, h, c.comes);
  happens = subst (λ (i : ℕ). Happens i c.before c.close c.after) (omega arith) c.happens;
  is_close = c.is_close;
}

finds_close : (n : ℕ) (p : FieldTrace) (texts : List (List ℕ)) (last : FieldTrace) → IsEarly p.watch.phase → (IsEarly last.watch.phase → ⊥) → Comes n p texts last →
    ClosesFrom n p texts
finds_close n p [] last early over c = absurd (over (subst (λ (x : FieldTrace). IsEarly x.watch.phase) (sym c) early))
finds_close n p (text ∷ texts) last early over c = elim (line_turns n p text c.0 early c.1) [
  | inl still ↦ one_earlier n p c.0 text texts c.1 (finds_close (n + 1) c.0 texts last still over c.2)
  | inr is ↦ record {
    earlier = [];
    close = text;
    later = texts;
    lines_are = refl;
    before = p;
    after = c.0;
    comes = refl;
    happens = subst (λ (i : ℕ). Happens i p text c.0) (omega arith) c.1;
    is_close = is;
  }
]

closes_of : (lines : List (List ℕ)) → (c : ClosesFrom 2 nothing_yet lines) → Closes lines c.is_close.running c.is_close.left
closes_of lines c = record {
  earlier = c.earlier;
  close = c.close;
  later = c.later;
  lines_are = c.lines_are;
  before = c.before;
  after = c.after;
  comes = c.comes;
  marking = c.is_close.marking;
  happens = subst (λ (i : ℕ). Happens i c.before c.close c.after) (omega arith) c.happens;
  ends = c.is_close.next_is;
}

-- a cycle that goes on in a trace is one of the rule
watched_along : (n : ℕ) (p : FieldTrace) (texts : List (List ℕ)) (last : FieldTrace) → IsWatched p.watch.phase → Comes n p texts last → IsWatched last.watch.phase
watched_along n p [] last s c = subst (λ (x : FieldTrace). IsWatched x.watch.phase) (sym c) s
watched_along n p (text ∷ texts) last s (after, inl h, rest) =
    watched_along (n + 1) after texts last (subst (λ (x : FieldTrace). IsWatched x.watch.phase) (sym h.1) s) rest
watched_along n p (text ∷ texts) last s (after, inr h, rest) =
    watched_along (n + 1) after texts last (events_keep n p.watch h.1.0 after.watch s h.1.1.takes.can) rest

abbrev marking_in : Running → FieldPhase → Running
marking_in d (phase.Marking running) = running
marking_in d other = d

abbrev left_in : Left → FieldPhase → Left
left_in d (phase.Ended left) = left
left_in d other = d

-- the close of a cycle ends it
closes_well : (running : Running) (left : Left) (q next : FieldPhase) → q ≡ phase.Marking running → next ≡ phase.Ended left → Turns q next →
    IsFieldEnd running.cycle × IsLeft running.cycle left
closes_well running left q next marking ends (inl early) = absurd (subst IsEarly ends early)
closes_well running left q next marking ends (inr c) =
    let same : c.running ≡ running = ap (marking_in running) (sym c.marking ∙ marking) in
    let result : c.left ≡ left = ap (left_in left) (sym c.next_is ∙ ends) in (
      subst (λ (x : Running). IsFieldEnd x.cycle) same c.ends,
      subst (λ (x : Left). IsLeft running.cycle x) result (subst (λ (x : Running). IsLeft x.cycle c.left) same c.is_left),
    )

-- the heap without objects is one of objects
empty_heap : IsHeapWorld (world_of [])
empty_heap = ([], record { few = omega arith; closed = All-nil (All (IsBelow 0)) }, refl)

exact_of : (lines : List (List ℕ)) (running : Running) (left : Left) → Closes lines running left → IsExact running left
exact_of lines running left c =
    let early : IsEarly c.before.watch.phase = subst IsEarly (sym c.marking) tt in
    let turns = line_turns (length c.earlier + 2) c.before c.close c.after early c.happens in
    let well = closes_well running left c.before.watch.phase c.after.watch.phase c.marking c.ends turns in
    let watched : IsWatched (phase.Marking running) =
    subst (λ (x : FieldPhase). IsWatched x) c.marking (watched_along 2 nothing_yet c.earlier c.before empty_heap c.comes) in
    let s = watched.1 in
    record {
      begins = s.0;
      mutators = s.1;
      roots = s.2;
      is_world = s.3;
      watches = s.4;
      ends = well.0;
      marks = λ marker beside read object. closed_is_exact running left well.0 well.1 s.0 s.3 s.1 s.2 marker beside read object;
      keeps = λ held kept object reached there.
          (well.1.kept object).1 (field_safety s.0 s.3 s.1 s.2 running.cycle s.4 well.0 held kept (named object) reached there);
    }

whole_of : (lines : List (List ℕ)) (last : FieldTrace) (q : FieldPhase) → last.watch.phase ≡ q → Comes 2 nothing_yet lines last → IsWholeReport lines (report_of q)
whole_of lines last (phase.Between w) is c = tt
whole_of lines last (phase.Marking running) is c = tt
whole_of lines last (phase.Ended left) is c = tt
whole_of lines last phase.Stopped is c =
    let found = finds_close 2 nothing_yet lines last tt (λ early. subst IsEarly is early) c in
    ((found.is_close.running, found.is_close.left, closes_of lines found), exact_of lines)

-- the theorem about the report on lines that can all happen
pub whole_report : (lines : List (List ℕ)) (last : FieldTrace) (r : FieldReport) → Comes 2 nothing_yet lines last → r ≡ report_of last.watch.phase →
    IsWholeReport lines r
whole_report lines last r c is = subst (λ (x : FieldReport). IsWholeReport lines x) (sym is) (whole_of lines last last.watch.phase refl c)
