-- Events lead from cycles of the rule to cycles of the rule, and a close is exact.
use Rattle.std.proofs.Common.{List, Some, ap, map, refl, subst, sym, ℕ, ◌-◌, ◌<◌, ◌^◌, ◌∙◌, ◌≡◌}
use Rattle.std.specs.Prelude.{Contains, ◌↔◌}
use Rattle.nmgc_world_spec.specs.{declared.value.Name.Name, World.World, World.serial_of}
use Rattle.nmgc_lists.specs.laws.Options.{some_is}
use Rattle.nmgc_field_checker.specs.{Heaps.IsHeapWorld, Heaps.named, Marking.IsChange, Marking.IsGiving, Marking.IsLeft, Marking.IsOpening, Marking.IsQuiet, Marking.Running}
use Rattle.nmgc_field_checker.specs.{Marking.Begins, Reports.Left, Watching.Can, Watching.CanClose, Watching.CanFree, Watching.Changes, Watching.ClosedIsExact, Watching.EventsKeepTheRule, Watching.FollowsRule, Watching.HasSettled, Watching.InCycle, Watching.IsSnapshot, Watching.IsWatched, Watching.Quietly, Watching.heap_in, laws.Worlds.made_stays, laws.Worlds.world_is, laws.Worlds.written_stays, declared.event.FieldEvent.FieldEvent, declared.watch.FieldPhase.FieldPhase, declared.watch.FieldWatch.FieldWatch}
use Rattle.nmgc_barrier_laws.specs.FieldCycle.{FieldCycle, IsFieldEnd, IsGone, IsHanded, IsLine, IsPushedAt, IsScannedAt}
use Rattle.nmgc_barrier_laws.specs.laws.FieldMarking.{field_theorem}
use Rattle.nmgc_barrier_laws.specs.FieldCycle as rule
use Rattle.nmgc_field_checker.specs.Marking as marking
use Rattle.nmgc_field_checker.specs.declared.event.FieldEvent.TheVariants as event
use Rattle.nmgc_field_checker.specs.declared.watch.FieldPhase.TheVariants as phase

-- lines that lead from cycles of the rule to cycles of the rule, and leave the heap
abbrev Keeps : (FieldCycle → FieldCycle → Type 0) → Type 0
Keeps Line = (h next : FieldCycle) → Line h next → (next.world ≡ h.world) × (FollowsRule h → FollowsRule next)

same_rule : (h next : FieldCycle) → next ≡ h → (next.world ≡ h.world) × (FollowsRule h → FollowsRule next)
same_rule h next e = (ap (λ (x : FieldCycle). x.world) e, λ s. subst (λ (x : FieldCycle). FollowsRule x) (sym e) s)

-- one more line of the rule
follows : (h next : FieldCycle) (names : List Name) → FollowsRule h → IsLine h next names → FollowsRule next
follows h next names s line = (s.0, s.1, s.2, s.3, rule.followed h next names s.4 line)

keeps_opening : (line m object : ℕ) → Keeps (IsOpening line m object)
keeps_opening line m object h next o = (ap (λ (x : FieldCycle). x.world) o.rest, λ s. follows h next _ s (rule.handed line m (named object) o))

keeps_giving : (line m object k : ℕ) → Keeps (IsGiving line m object k)
keeps_giving line m object k h next (marking.late left read o) =
    (ap (λ (x : FieldCycle). x.world) o.rest, λ s. follows h next _ s (rule.handed line m (named object) o))
keeps_giving line m object k h next (marking.early none e) = same_rule h next e

keeps_gone : (m : ℕ) → Keeps (λ h after. IsGone h m after)
keeps_gone m h next g = (ap (λ (x : FieldCycle). x.world) g.rest, λ s. follows h next _ s (rule.gone m g))

keeps_scanned : (m : ℕ) (objects : List ℕ) → Keeps (λ h after. IsScannedAt h m (map named objects) after)
keeps_scanned m objects h next g = (ap (λ (x : FieldCycle). x.world) g.rest, λ s. follows h next _ s (rule.scanned m (map named objects) g))

keeps_pushed : (object : ℕ) → Keeps (λ h after. IsPushedAt h (named object) after)
keeps_pushed object h next g = (ap (λ (x : FieldCycle). x.world) g.rest, λ s. follows h next _ s (rule.pushed (named object) g))

keeps_settled : (m : ℕ) → Keeps (HasSettled m)
keeps_settled m h next g = same_rule h next g.1

-- a line of a cycle, in a phase
marking_keeps : (Line : FieldCycle → FieldCycle → Type 0) → Keeps Line → (p after : Running) → Line p.cycle after.cycle → IsWatched (phase.Marking p) →
    IsWatched (phase.Marking after)
marking_keeps Line k p after line s =
    let r = k p.cycle after.cycle line in
    (subst (λ (w : World). IsHeapWorld w) (sym r.0) s.0, r.1 s.1)

quietly_keeps : (Line : FieldCycle → FieldCycle → Type 0) → Keeps Line → (q next : FieldPhase) → IsWatched q → Quietly Line q next → IsWatched next
quietly_keeps Line k (phase.Between w) next s n = subst (λ (x : FieldPhase). IsWatched x) (sym n) s
quietly_keeps Line k (phase.Marking p) next s n = subst (λ (x : FieldPhase). IsWatched x) (sym n.2) (marking_keeps Line k p n.0 n.1.line s)
quietly_keeps Line k (phase.Ended left) next s n = subst (λ (x : FieldPhase). IsWatched x) (sym n) s
quietly_keeps Line k phase.Stopped next s n = subst (λ (x : FieldPhase). IsWatched x) (sym n) tt

-- a change after which the heap of this phase stays one of objects
abbrev Stays : (World → World → Type 0) → FieldPhase → Type 0
Stays Change q = (w after : World) → heap_in q ≡ Some w → IsHeapWorld w → Change w after → IsHeapWorld after

changes_keep : (line m : ℕ) (Change : World → World → Type 0) (q next : FieldPhase) → Stays Change q → IsWatched q → Changes line m Change q next → IsWatched next
changes_keep line m Change (phase.Between w) next stays s c = subst (λ (x : FieldPhase). IsWatched x) (sym c.2) (stays w c.0 refl s c.1)
changes_keep line m Change (phase.Marking p) next stays s c = subst (λ (x : FieldPhase). IsWatched x) (sym c.2) (
  stays p.cycle.world c.0.cycle.world refl s.0 c.1.change,
  follows p.cycle c.0.cycle _ s.1 (rule.changed line m c.0.cycle.world c.1.changed),
)
changes_keep line m Change (phase.Ended left) next stays s c = subst (λ (x : FieldPhase). IsWatched x) (sym c.2) (stays left.heap c.0 refl s c.1)
changes_keep line m Change phase.Stopped next stays s c = absurd c

cycle_keeps : (Line : FieldCycle → FieldCycle → Type 0) → Keeps Line → (p next : FieldWatch) → IsWatched p.phase → InCycle Line p next →
    IsWatched next.phase
cycle_keeps Line k p next s c =
    let r : IsWatched (phase.Marking c.before) = subst (λ (x : FieldPhase). IsWatched x) c.marking s in
    subst (λ (x : FieldWatch). IsWatched x.phase) (sym c.next_is) (marking_keeps Line k c.before c.after c.quiet.line r)

-- the snapshot of a cycle is a heap of objects
snapshot_heap : (q : FieldPhase) (snapshot : World) → IsWatched q → IsSnapshot q snapshot → IsHeapWorld snapshot
snapshot_heap (phase.Between w) snapshot s is = subst (λ (v : World). IsHeapWorld v) (sym is) s
snapshot_heap (phase.Marking p) snapshot s is = absurd is
snapshot_heap (phase.Ended left) snapshot s is = is.heap
snapshot_heap phase.Stopped snapshot s is = absurd is

begins_watched : (snapshot : World) (there objects : List ℕ) (p : Running) → IsHeapWorld snapshot → Begins snapshot there objects p → IsWatched (phase.Marking p)
begins_watched snapshot there objects p heap b =
    subst (λ (x : Running). IsWatched (phase.Marking x)) (sym b.is) (heap, (snapshot, b.mutators, b.names, world_is snapshot heap, rule.begun))

same_watch : (p next : FieldWatch) → IsWatched p.phase → next ≡ p → IsWatched next.phase
same_watch p next s e = subst (λ (x : FieldWatch). IsWatched x.phase) (sym e) s

close_keeps : (p next : FieldWatch) → IsWatched p.phase → CanClose p next → IsWatched next.phase
close_keeps p next s c =
    let r : IsWatched (phase.Marking c.before) = subst (λ (x : FieldPhase). IsWatched x) c.marking s in
    subst (λ (x : FieldWatch). IsWatched x.phase) (sym c.next_is) (subst (λ (w : World). IsHeapWorld w) (sym c.is_left.heap) r.0)

free_keeps : (p : FieldWatch) (objects : List ℕ) (next : FieldWatch) → IsWatched p.phase → CanFree p objects next → IsWatched next.phase
free_keeps p objects next s c =
    let r : IsHeapWorld c.left.heap = subst (λ (x : FieldPhase). IsWatched x) c.ended s in
    subst (λ (x : FieldWatch). IsWatched x.phase) (sym c.next_is)
    (subst (λ (w : World). IsHeapWorld w) (sym (ap (λ (x : Left). x.heap) c.freed.rest)) r)

pub events_keep : EventsKeepTheRule
events_keep line p (event.Began a) next s c = subst (λ (x : FieldPhase). IsWatched x) (sym c.phase) s
events_keep line p (event.Ended a) next s c = quietly_keeps (λ h after. IsGone h a.number after) (keeps_gone a.number) p.phase next.phase s c.phase
events_keep line p (event.Made a taken count fields) next s c =
    changes_keep line a.number _ p.phase next.phase (λ w after is heap made.
    made_stays w after _ count fields heap (subst (λ (v : World). serial_of v 0 < 2 ^ 32 - 1) (some_is c.heap w (sym c.acts.heap ∙ is)) c.room) made) s c.changes
events_keep line p (event.Written a object place fields) next s c =
    changes_keep line a.number _ p.phase next.phase (λ w after is heap written. written_stays w after object place fields heap written) s c.changes
events_keep line p (event.Handed a object b) next s c =
    quietly_keeps (IsGiving line a.number object b.number) (keeps_giving line a.number object b.number) p.phase next.phase s c.given
events_keep line p (event.Owed a object) next s c =
    quietly_keeps (IsOpening line a.number object) (keeps_opening line a.number object) p.phase next.phase s c.opened
events_keep line p (event.Mark roots) next s c = subst (λ (x : FieldWatch). IsWatched x.phase) (sym c.next_is)
    (begins_watched c.snapshot p.there roots c.running (snapshot_heap p.phase c.snapshot s c.is_snapshot) c.begins)
events_keep line p (event.Scan a roots) next s c =
    cycle_keeps (λ h after. IsScannedAt h a.number (map named roots) after) (keeps_scanned a.number roots) p next s c.1
events_keep line p (event.Push a object) next s c =
    cycle_keeps (λ h after. IsPushedAt h (named object) after) (keeps_pushed object) p next s c.1
events_keep line p (event.Settle a) next s c = cycle_keeps (HasSettled a.number) (keeps_settled a.number) p next s c.1
events_keep line p event.Close next s c = close_keeps p next s c
events_keep line p (event.Marked objects) next s c = same_watch p next s c.next_is
events_keep line p (event.Black objects) next s c = same_watch p next s c.next_is
events_keep line p (event.Freed objects) next s c = free_keeps p objects next s c
events_keep line p event.Stop next s c = subst (λ (x : FieldWatch). IsWatched x.phase) (sym c.next_is) tt

pub closed_is_exact : ClosedIsExact
closed_is_exact running left end is w world mutators roots s beside read object =
    let t = field_theorem w world mutators roots running.cycle s beside end read (named object) in
    (λ c. (is.kept object).1 (t.0 c), λ k. t.1 ((is.kept object).0 k))
