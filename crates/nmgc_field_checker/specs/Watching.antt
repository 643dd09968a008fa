-- When an event over fields can happen, and why it can't: by the heap and the rule for fields alone.
use Rattle.std.specs.Prelude.{◌≡◌, ◌≢◌, ◌<◌, ◌≤◌, ◌+◌, ◌^◌, ◌-◌, ◌↔◌, ◌⊎◌, ℕ, List, [], length, max, map, Option, Some, None, IsSome, IfSome, Contains, ◌∷◌, Result, Ok, Err, true}
use Rattle.std.specs.List.{flat_map}
use Rattle.std.specs.Option.{option_to_list}
use Rattle.nmgc_world_spec.specs.{declared.value.Name.Name, World.World, World.serial_of, World.node_of, Known.AreKnown, Known.IsKnown, Known.IsWorld}
use Rattle.nmgc_barrier_laws.specs.{declared.debt.Debt.Debt, FieldCycle.FieldCycle, FieldCycle.IsMade, FieldCycle.IsWritten, FieldCycle.IsGone, FieldCycle.IsScannedAt, FieldCycle.IsPushedAt, FieldCycle.IsFieldEnd, FieldCycle.AreWithout, FieldCycle.BesideFields, FieldCycle.FieldMarker, FieldCycle.HasReadAll, FieldCycle.WatchesFields}
use Rattle.nmgc_field_checker.specs.{declared.event.Actor.Actor, declared.event.FieldDebt.FieldDebt, declared.event.FieldEvent.FieldEvent, declared.event.FieldWhy.FieldWhy, declared.watch.FieldPhase.FieldPhase, declared.watch.FieldWatch.FieldWatch, Heaps.named, Heaps.Has, Heaps.HasCount, Heaps.IsHeapWorld, Heaps.value_in, Heaps.values_in, Heaps.filled, Heaps.IsWithout, Sets.AreAdded, Marking.Begins, Marking.CountsGiving, Marking.CountsObject, Marking.CountsStore, Marking.IsAgainst, Marking.IsChange, Marking.IsGiving, Marking.IsLeft, Marking.IsOpening, Marking.IsQuiet, Marking.Running, Marking.debt_of, Reports.Left, Reports.StandsFirst, Reports.IsMarked, Reports.WhyMarked, Reports.IsBlack, Reports.WhyBlack, Reports.IsFreed, Reports.WhyFreed}
use Rattle.nmgc_field_checker.specs.declared.event.FieldEvent.TheVariants as event
use Rattle.nmgc_field_checker.specs.declared.event.FieldWhy.TheVariants as why
use Rattle.nmgc_field_checker.specs.declared.watch.FieldPhase.TheVariants as phase

-- the heap of a runtime, unless it has stopped
abbrev pub heap_in : FieldPhase → Option World
heap_in (phase.Between w) = Some w
heap_in (phase.Marking p) = Some p.cycle.world
heap_in (phase.Ended left) = Some left.heap
heap_in phase.Stopped = None

-- the number of the next object; 0 after the stop
abbrev pub next_of : FieldPhase → ℕ
next_of (phase.Between w) = serial_of w 0
next_of (phase.Marking p) = serial_of p.cycle.world 0
next_of (phase.Ended left) = serial_of left.heap 0
next_of phase.Stopped = 0

-- a runtime has a heap with this property
abbrev pub HasHeap : (World → Type 0) → FieldPhase → Type 0
HasHeap P (phase.Between w) = P w
HasHeap P (phase.Marking p) = P p.cycle.world
HasHeap P (phase.Ended left) = P left.heap
HasHeap P phase.Stopped = ⊥

-- an actor that is there: the runtime itself, or a mutator that began and didn't end
abbrev pub IsThere : FieldWatch → Actor → Type 0
IsThere p a = (a.number ≡ 0) ⊎ Contains p.there a.number

-- an actor that can give a line over this heap
pub record CanAct (p : FieldWatch) (a : Actor) (w : World) : Type 0 where
  pub heap : heap_in p.phase ≡ Some w
  pub there : IsThere p a

-- an actor that can give a line over the heap that there is
abbrev pub IsActing : FieldWatch → Actor → Type 0
IsActing p a = (w : World) × CanAct p a w

-- the reasons why an actor can't give a line: the trace has stopped, or the actor isn't there
abbrev pub WhyNoAct : FieldWatch → Actor → FieldWhy → Type 0
WhyNoAct p a why.Misplaced = p.phase ≡ phase.Stopped
WhyNoAct p a (why.NotThere other) = (other ≡ a) × IsSome (heap_in p.phase) × (IsThere p a → ⊥)
WhyNoAct p a y = ⊥

-- the first of these objects that the heap doesn't have
abbrev pub IsFirstUnknown : World → List ℕ → FieldWhy → Type 0
IsFirstUnknown w objects y = (object : ℕ) × (y ≡ why.NoObject object) × StandsFirst objects (λ other. Has w other → ⊥) object

-- a line of an actor that changes the heap as said. In a cycle it is a line of the rule
abbrev pub Changes : ℕ → ℕ → (World → World → Type 0) → FieldPhase → FieldPhase → Type 0
Changes line m Change (phase.Between w) next = (after : World) × Change w after × (next ≡ phase.Between after)
Changes line m Change (phase.Marking p) next = (after : Running) × IsChange line m Change p after × (next ≡ phase.Marking after)
Changes line m Change (phase.Ended left) next = (after : World) × Change left.heap after × (next ≡ phase.Ended (record left { heap = after }))
Changes line m Change phase.Stopped next = ⊥

-- a new object, with these values in its first fields. The heap has no object of its name, and has a number left
pub record CanMake (line : ℕ) (p : FieldWatch) (a : Actor) (taken : Option ℕ) (count : ℕ) (fields : List (Option ℕ)) (next : FieldWatch) : Type 0 where
  pub heap : World
  pub acts : CanAct p a heap
  pub free : IfSome taken (λ object. Has heap object → ⊥)
  pub room : serial_of heap 0 < 2 ^ 32 - 1
  pub rest : next.there ≡ p.there
  pub changes : Changes line a.number (λ w after. IsMade w (named (serial_of w 0)) (filled count fields) after) p.phase next.phase

-- the objects in these fields
abbrev pub objects_in : List (Option ℕ) → List ℕ
objects_in fields = flat_map option_to_list fields

-- the reasons why an object can't be made by an actor who can give lines. The heap has an object of its name, no number is
-- left, or a value isn't there
abbrev pub WhyNotMade : World → Option ℕ → List (Option ℕ) → FieldWhy → Type 0
WhyNotMade w taken fields (why.Made object) = (taken ≡ Some object) × Has w object
WhyNotMade w taken fields why.Full = 2 ^ 32 - 1 ≤ serial_of w 0
WhyNotMade w taken fields y = IsFirstUnknown w (objects_in fields) y

-- the heap has a number left, and all values of these fields
pub record IsRoomFor (w : World) (fields : List (Option ℕ)) : Type 0 where
  pub room : serial_of w 0 < 2 ^ 32 - 1
  pub known : AreKnown w (values_in fields)

-- an object with these fields can be made: the heap has no object of its name, and has room
pub record CanBeNew (w : World) (taken : Option ℕ) (fields : List (Option ℕ)) : Type 0 where
  pub free : IfSome taken (λ object. Has w object → ⊥)
  pub room : IsRoomFor w fields

-- the object of a name that is taken, if the heap has it
abbrev pub IsTakenIf : World → Option ℕ → Option ℕ → Type 0
IsTakenIf w taken None = IfSome taken (λ object. Has w object → ⊥)
IsTakenIf w taken (Some object) = (taken ≡ Some object) × Has w object

-- the object in a field, if there is one and the heap doesn't have it
abbrev pub IsMissingIf : World → Option ℕ → Option ℕ → Type 0
IsMissingIf w field None = IsKnown w (value_in field)
IsMissingIf w field (Some target) = (field ≡ Some target) × (Has w target → ⊥)

-- values can be stored into an object's fields: the object has these fields, and the heap has the values
pub record CanBeStored (w : World) (object place : ℕ) (fields : List (Option ℕ)) : Type 0 where
  pub fits : (count : ℕ) × HasCount w object count × (place + length fields ≤ count)
  pub known : AreKnown w (values_in fields)

-- a store of these values into an object's fields, from a place on
pub record CanWrite (line : ℕ) (p : FieldWatch) (a : Actor) (object place : ℕ) (fields : List (Option ℕ)) (next : FieldWatch) : Type 0 where
  pub actor : IsThere p a
  pub rest : next.there ≡ p.there
  pub changes : Changes line a.number (λ w after. IsWritten w (named object) place (values_in fields) after) p.phase next.phase

-- the object has too few fields for a store: this is the first field that it lacks
pub record LacksField (w : World) (object place count lacking : ℕ) : Type 0 where
  pub own : ℕ
  pub has : HasCount w object own
  pub over : own < place + count
  pub first : lacking ≡ max place own

-- the reasons why values can't be stored by an actor who can give lines: the heap doesn't have the object or a value, or the
-- object has too few fields
abbrev pub WhyNotWritten : World → ℕ → ℕ → List (Option ℕ) → FieldWhy → Type 0
WhyNotWritten w object place fields (why.NoField other lacking) = (other ≡ object) × LacksField w object place (length fields) lacking
WhyNotWritten w object place fields y = IsFirstUnknown w (object ∷ objects_in fields) y

-- a line that changes nothing outside of a cycle. In a cycle it is this line of the rule, without new stores
abbrev pub Quietly : (FieldCycle → FieldCycle → Type 0) → FieldPhase → FieldPhase → Type 0
Quietly Line (phase.Marking p) next = (after : Running) × IsQuiet Line p after × (next ≡ phase.Marking after)
Quietly Line before next = next ≡ before

-- an object goes from a mutator to a mutator past all fields: both are there, and the heap has the object
pub record CanHand (line : ℕ) (p : FieldWatch) (a : Actor) (object : ℕ) (b : Actor) (next : FieldWatch) : Type 0 where
  pub heap : World
  pub acts : CanAct p a heap
  pub has : Has heap object
  pub taker : IsThere p b
  pub rest : next.there ≡ p.there
  pub given : Quietly (IsGiving line a.number object b.number) p.phase next.phase

-- an object comes out of a weak pointer or a table: the actor is there, and the heap has the object
pub record CanOwe (line : ℕ) (p : FieldWatch) (a : Actor) (object : ℕ) (next : FieldWatch) : Type 0 where
  pub heap : World
  pub acts : CanAct p a heap
  pub has : Has heap object
  pub rest : next.there ≡ p.there
  pub opened : Quietly (IsOpening line a.number object) p.phase next.phase

-- a mutator begins: it wasn't there
pub record CanBegin (p : FieldWatch) (a : Actor) (next : FieldWatch) : Type 0 where
  pub goes_on : IsSome (heap_in p.phase)
  pub absent : IsThere p a → ⊥
  pub there : AreAdded p.there a.number next.there
  pub phase : next.phase ≡ p.phase

-- a mutator ends: it was there
pub record CanEnd (p : FieldWatch) (a : Actor) (next : FieldWatch) : Type 0 where
  pub goes_on : IsSome (heap_in p.phase)
  pub present : Contains p.there a.number
  pub there : AreWithout p.there a.number next.there
  pub phase : Quietly (λ h after. IsGone h a.number after) p.phase next.phase

-- the snapshot that a cycle takes, outside of a cycle: the heap without the objects that were freed
abbrev pub IsSnapshot : FieldPhase → World → Type 0
IsSnapshot (phase.Between w) s = s ≡ w
IsSnapshot (phase.Marking p) s = ⊥
IsSnapshot (phase.Ended left) s = IsWithout left.gone.items left.heap s
IsSnapshot phase.Stopped s = ⊥

-- the reasons why marking can't begin: a cycle goes on or the trace has stopped, or the heap doesn't have a root
abbrev pub WhyMark : FieldPhase → List ℕ → FieldWhy → Type 0
WhyMark (phase.Between w) roots y = IsFirstUnknown w roots y
WhyMark (phase.Marking running) roots y = y ≡ why.Misplaced
WhyMark (phase.Ended left) roots y = IsFirstUnknown left.heap roots y
WhyMark phase.Stopped roots y = y ≡ why.Misplaced

-- the snapshot that a cycle takes, or none if no cycle can begin
abbrev pub IsSnapshotIf : FieldPhase → Option World → Type 0
IsSnapshotIf p None = (roots : List ℕ) → WhyMark p roots why.Misplaced
IsSnapshotIf p (Some s) = IsSnapshot p s

-- a cycle begins with the heap as it is, the mutators that are there, and these roots
pub record CanMark (p : FieldWatch) (roots : List ℕ) (next : FieldWatch) : Type 0 where
  pub snapshot : World
  pub running : Running
  pub is_snapshot : IsSnapshot p.phase snapshot
  pub has : (object : ℕ) → Contains roots object → Has snapshot object
  pub begins : Begins snapshot p.there roots running
  pub next_is : next ≡ record p { phase = phase.Marking running }

-- a line of a cycle that leaves the mutators and the stores as they are
pub record InCycle (Line : FieldCycle → FieldCycle → Type 0) (p next : FieldWatch) : Type 0 where
  pub before : Running
  pub after : Running
  pub marking : p.phase ≡ phase.Marking before
  pub quiet : IsQuiet Line before after
  pub next_is : next ≡ record p { phase = phase.Marking after }

-- no debt of the cycle is this actor's
abbrev pub HasSettled : ℕ → FieldCycle → FieldCycle → Type 0
HasSettled m h next = ((debt : Debt) → Contains h.debts debt → debt.mutator ≢ m) × (next ≡ h)

-- marking ends
pub record CanClose (p next : FieldWatch) : Type 0 where
  pub before : Running
  pub left : Left
  pub marking : p.phase ≡ phase.Marking before
  pub ends : IsFieldEnd before.cycle
  pub is_left : IsLeft before.cycle left
  pub next_is : next ≡ record p { phase = phase.Ended left }

-- a report after a cycle, which changes nothing
pub record AfterCycle (Report : Left → Type 0) (p next : FieldWatch) : Type 0 where
  pub left : Left
  pub ended : p.phase ≡ phase.Ended left
  pub report : Report left
  pub next_is : next ≡ p

-- objects are freed after a cycle
pub record CanFree (p : FieldWatch) (objects : List ℕ) (next : FieldWatch) : Type 0 where
  pub left : Left
  pub after : Left
  pub ended : p.phase ≡ phase.Ended left
  pub freed : IsFreed left objects after
  pub next_is : next ≡ record p { phase = phase.Ended after }

-- the trace stops after a cycle
pub record CanStop (p next : FieldWatch) : Type 0 where
  pub left : Left
  pub ended : p.phase ≡ phase.Ended left
  pub next_is : next ≡ record p { phase = phase.Stopped }

-- an event can happen at a line
abbrev pub Can : ℕ → FieldWatch → FieldEvent → FieldWatch → Type 0
Can line p (event.Began a) next = CanBegin p a next
Can line p (event.Ended a) next = CanEnd p a next
Can line p (event.Made a taken count fields) next = CanMake line p a taken count fields next
Can line p (event.Written a object place fields) next = CanWrite line p a object place fields next
Can line p (event.Handed a object b) next = CanHand line p a object b next
Can line p (event.Owed a object) next = CanOwe line p a object next
Can line p (event.Mark roots) next = CanMark p roots next
Can line p (event.Scan a roots) next = IsThere p a × InCycle (λ h after. IsScannedAt h a.number (map named roots) after) p next
Can line p (event.Push a object) next = IsThere p a × InCycle (λ h after. IsPushedAt h (named object) after) p next
Can line p (event.Settle a) next = IsThere p a × InCycle (HasSettled a.number) p next
Can line p event.Close next = CanClose p next
Can line p (event.Marked objects) next = AfterCycle (λ left. IsMarked left objects) p next
Can line p (event.Black objects) next = AfterCycle (λ left. IsBlack left objects) p next
Can line p (event.Freed objects) next = CanFree p objects next
Can line p event.Stop next = CanStop p next

-- the count of dues after an event, outside of a cycle: the same
abbrev pub CountsIn : FieldPhase → (FieldCycle → ℕ → ℕ → Type 0) → ℕ → ℕ → Type 0
CountsIn (phase.Marking p) Counts before after = Counts p.cycle before after
CountsIn other Counts before after = after ≡ before

-- the count of dues after an event that can happen
abbrev pub CountsDues : FieldWatch → FieldEvent → ℕ → ℕ → Type 0
CountsDues p (event.Made a taken count fields) before after = CountsIn p.phase (λ h. CountsStore h a.number (serial_of h.world 0) 0 fields) before after
CountsDues p (event.Written a object place fields) before after = CountsIn p.phase (λ h. CountsStore h a.number object place fields) before after
CountsDues p (event.Handed a object b) before after = CountsIn p.phase (λ h. CountsGiving h a.number object b.number) before after
CountsDues p (event.Owed a object) before after = CountsIn p.phase (λ h. CountsObject h object) before after
CountsDues p e before after = after ≡ before

-- the count of dues after an event that was taken or refused; a refused event doesn't count
abbrev pub CountsDuesIf : FieldWatch → FieldEvent → Option FieldWhy → ℕ → ℕ → Type 0
CountsDuesIf p e None before after = CountsDues p e before after
CountsDuesIf p e (Some y) before after = after ≡ before

-- the reason of a runtime that has stopped
abbrev pub IsStopped : FieldWatch → FieldWhy → Type 0
IsStopped p y = (p.phase ≡ phase.Stopped) × (y ≡ why.Misplaced)

-- the reasons why a mutator can't begin: the trace has stopped, or the mutator is there
abbrev pub WhyBegin : FieldWatch → Actor → FieldWhy → Type 0
WhyBegin p a (why.There other) = (other ≡ a) × IsThere p a
WhyBegin p a y = IsStopped p y

-- the reasons why a mutator can't end: the trace has stopped, or the mutator isn't there
abbrev pub WhyEnd : FieldWatch → Actor → FieldWhy → Type 0
WhyEnd p a (why.NotThere other) = (other ≡ a) × (Contains p.there a.number → ⊥)
WhyEnd p a y = IsStopped p y

-- the reasons against a line of an actor: it can't give lines, or it can and there is a reason of this heap
abbrev pub WhyActs : FieldWatch → Actor → (World → FieldWhy → Type 0) → FieldWhy → Type 0
WhyActs p a Why y = WhyNoAct p a y ⊎ ((w : World) × CanAct p a w × Why w y)

-- the reasons why an object can't be handed to a mutator: the heap doesn't have it, or the mutator isn't there
abbrev pub WhyNotTaken : FieldWatch → ℕ → Actor → World → FieldWhy → Type 0
WhyNotTaken p object b w (why.NotThere other) = (other ≡ b) × (IsThere p b → ⊥)
WhyNotTaken p object b w y = (y ≡ why.NoObject object) × (Has w object → ⊥)

-- the heap doesn't have the object
abbrev pub WhyNotHad : ℕ → World → FieldWhy → Type 0
WhyNotHad object w y = (y ≡ why.NoObject object) × (Has w object → ⊥)

-- the reasons against a line of a cycle: no cycle goes on, the actor isn't there, or there is a reason of the cycle
abbrev pub WhyInCycle : FieldWatch → Actor → (Running → FieldWhy → Type 0) → FieldWhy → Type 0
WhyInCycle p a Why y = ((y ≡ why.Misplaced) × ((running : Running) → p.phase ≢ phase.Marking running)) ⊎
    ((running : Running) × (p.phase ≡ phase.Marking running) × (((y ≡ why.NotThere a) × (IsThere p a → ⊥)) ⊎ (IsThere p a × Why running y)))

-- the reasons why a mutator can't be scanned: the heap doesn't have a root, or its roots are not to be read
abbrev pub WhyScan : Actor → List ℕ → Running → FieldWhy → Type 0
WhyScan a roots running why.Misplaced = Contains running.cycle.unscanned a.number → ⊥
WhyScan a roots running y = IsFirstUnknown running.cycle.world roots y

-- the reason why an actor hasn't settled: the oldest of its debts
abbrev pub WhySettle : Actor → Running → FieldWhy → Type 0
WhySettle a running y = (d : FieldDebt) × (y ≡ why.Due d) × Contains running.cycle.debts (debt_of d) × (d.number ≡ a.number) ×
    ((other : Debt) → Contains running.cycle.debts other → other.mutator ≡ a.number → d.line ≤ other.line)

-- the reasons why marking can't end: no cycle goes on, or there is a reason of the cycle
abbrev pub WhyClose : FieldPhase → FieldWhy → Type 0
WhyClose (phase.Marking running) y = IsAgainst running y
WhyClose other y = y ≡ why.Misplaced

-- the outcome of a request to end a cycle: the result of the close, or a reason why no cycle can end
abbrev pub IsClosingIf : FieldPhase → Result Left FieldWhy → Type 0
IsClosingIf p (Ok left) = (running : Running) × (p ≡ phase.Marking running) × IsFieldEnd running.cycle × IsLeft running.cycle left
IsClosingIf p (Err y) = WhyClose p y

-- the reasons against a report: there was no cycle before it, or there is a reason of its result
abbrev pub WhyAfter : (Left → FieldWhy → Type 0) → FieldPhase → FieldWhy → Type 0
WhyAfter Why (phase.Ended left) y = Why left y
WhyAfter Why other y = y ≡ why.Misplaced

-- the reason why an event can't happen
abbrev pub IsWhy : FieldWatch → FieldEvent → FieldWhy → Type 0
IsWhy p (event.Began a) y = WhyBegin p a y
IsWhy p (event.Ended a) y = WhyEnd p a y
IsWhy p (event.Made a taken count fields) y = WhyActs p a (λ w. WhyNotMade w taken fields) y
IsWhy p (event.Written a object place fields) y = WhyActs p a (λ w. WhyNotWritten w object place fields) y
IsWhy p (event.Handed a object b) y = WhyActs p a (WhyNotTaken p object b) y
IsWhy p (event.Owed a object) y = WhyActs p a (WhyNotHad object) y
IsWhy p (event.Mark roots) y = WhyMark p.phase roots y
IsWhy p (event.Scan a roots) y = WhyInCycle p a (WhyScan a roots) y
IsWhy p (event.Push a object) y = WhyInCycle p a (λ running. WhyNotHad object running.cycle.world) y
IsWhy p (event.Settle a) y = WhyInCycle p a (WhySettle a) y
IsWhy p event.Close y = WhyClose p.phase y
IsWhy p (event.Marked objects) y = WhyAfter (λ left. WhyMarked left objects) p.phase y
IsWhy p (event.Black objects) y = WhyAfter (λ left. WhyBlack left objects) p.phase y
IsWhy p (event.Freed objects) y = WhyAfter (λ left. WhyFreed left objects) p.phase y
IsWhy p event.Stop y = WhyAfter (λ left why_not. ⊥) p.phase y

-- the outcome of an event: it happened, or nothing changed and there is a reason
abbrev pub IsStep : ℕ → FieldWatch → FieldEvent → Option FieldWhy → FieldWatch → Type 0
IsStep line p e None next = Can line p e next
IsStep line p e (Some y) next = (next ≡ p) × IsWhy p e y

-- the theorem that an event for which there is a reason can't happen
abbrev pub ReasonsRefuse : Type 0
ReasonsRefuse = (line : ℕ) (p : FieldWatch) (e : FieldEvent) (y : FieldWhy) (next : FieldWatch) → IsWhy p e y → Can line p e next → ⊥

-- a cycle of the rule: it began with a world, some mutators and some roots, and lines of the rule followed
abbrev pub FollowsRule : FieldCycle → Type 0
FollowsRule h = (w : World) × (mutators : List ℕ) × (roots : List Name) × IsWorld w × WatchesFields w mutators roots h

-- a runtime that keeps the rule: its heap is one of objects, and a cycle that goes on is one of the rule
abbrev pub IsWatched : FieldPhase → Type 0
IsWatched (phase.Between w) = IsHeapWorld w
IsWatched (phase.Marking p) = IsHeapWorld p.cycle.world × FollowsRule p.cycle
IsWatched (phase.Ended left) = IsHeapWorld left.heap
IsWatched phase.Stopped = Unit {0}

-- the theorem that events keep the rule
abbrev pub EventsKeepTheRule : Type 0
EventsKeepTheRule = (line : ℕ) (p : FieldWatch) (e : FieldEvent) (next : FieldWatch) → IsWatched p.phase → Can line p e next → IsWatched next.phase

-- the theorem that the result of a close is exact. Take any marker that is possible beside the cycle and is done. It has
-- marked exactly the objects that the result keeps
abbrev pub ClosedIsExact : Type 0
ClosedIsExact = (running : Running) (left : Left) → IsFieldEnd running.cycle → IsLeft running.cycle left → (w : World) → IsWorld w →
    (mutators : List ℕ) (roots : List Name) (s : FieldMarker) → BesideFields w mutators roots running.cycle s → HasReadAll running.cycle s →
    (object : ℕ) → Contains s.marked (named object) ↔ Contains left.kept.items object
