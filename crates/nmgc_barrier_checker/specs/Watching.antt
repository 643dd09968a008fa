-- When an event can happen, and why it can't: by the heap and the lax rule alone.
use Rattle.std.specs.Prelude.{◌≡◌, ◌↔◌, ◌⊎◌, ◌++◌, ℕ, List, [], ◌∷◌, length, map, slice_index_or, Option, Some, None, Result, Ok, Err, IsSome, Contains, Bool, true, false, ◌||◌, ltb, ◌<◌, if◌then◌else◌}
use Rattle.nmgc_world_spec.specs.{declared.value.Name.Name, declared.command.Command.Command, declared.command.Reply.Reply, declared.value.Value.Value, declared.mutator_state.MutatorState.MutatorState, World.World, World.node_of, World.state_of, World.with_register, World.is_same_name, World.step, World.shared_name, Known.AreKnown, Known.IsKnown, Known.IsWorld, Known.CanApply, Reach.Lists, Reach.IsKept}
use Rattle.nmgc_limits.specs.declared.mutators.TheConstants.{REGISTERS}
use Rattle.nmgc_snapshot_laws.specs.declared.event.Event.TheVariants as core
use Rattle.nmgc_snapshot_laws.specs.{State.State, Machine.IsPossible, Closing.IsClosing}
use Rattle.nmgc_barrier_laws.specs.{declared.debt.Debt.Debt, Barrier.Beside}
use Rattle.nmgc_barrier_laws.specs.Cycle.{Cycle, IsPushed, IsTook, IsAllTaken, IsEnd, IsEndWith, IsDeadAmong, Needs, MarksName}
use Rattle.nmgc_barrier_laws.specs.Hybrid.{Hybrid, handed_over, scanned_at_once, beginning, is_scanned, AreScanned, IsWatchedIn, IsScanned, WatchesIn, BesideIn}
use Rattle.nmgc_barrier_checker.specs.{declared.event.Event.Event, declared.event.Why.Why, declared.hand.Hand.Hand, declared.rows.Task.Task, declared.cycle_result.CycleResult.CycleResult, declared.watch.Watch.Watch, Cycles.IsWhyNot, Cycles.Hands, Cycles.IsWhyNoHand, Cycles.IsGivenOver, Cycles.IsNotDone, Cycles.IsTaken, Cycles.IsNotScanned, Cycles.IsSettled, Cycles.IsUnsettled, Cycles.IsUntakenName, First.IsEarliest, First.IsFirstName, First.StandsFirst, Rows.Suits, Rows.emptied}
use Rattle.nmgc_world_spec.specs.declared.command.Reply.TheVariants as reply
use Rattle.nmgc_world_spec.specs.declared.value.Value.TheVariants as value
use Rattle.nmgc_barrier_checker.specs.declared.event.Event.TheVariants as event
use Rattle.nmgc_barrier_checker.specs.declared.event.Why.TheVariants as why
use Rattle.nmgc_barrier_checker.specs.declared.watch.Watch.TheVariants as watch

-- a command that the heap takes with this answer, outside of a cycle
abbrev pub IsGiven : World → ℕ → Command → Reply → World → Type 0
IsGiven w m c answer next = CanApply w m c × ((step w m c).1 ≡ answer) × (next ≡ (step w m c).0)

-- a command that the heap takes with this answer; in a cycle, the names that it makes due are due since this line
abbrev pub CanGive : ℕ → ℕ → Command → Reply → Watch → Watch → Type 0
CanGive line m c answer (watch.Between w) next = (after : World) × IsGiven w m c answer after × (next ≡ watch.Between after)
CanGive line m c answer (watch.Marking h) next = (after : Hybrid) × IsWatchedIn h line m c answer after × (next ≡ watch.Marking after)
CanGive line m c answer (watch.Ended left) next = (after : World) × IsGiven left.world m c answer after × (next ≡ watch.Ended (record left { world = after }))
CanGive line m c answer watch.Stopped next = ⊥

-- the outcome of a command with an answer, outside of a cycle: the heap took it, or nothing changed and there is a reason
abbrev pub IsGivenIf : World → ℕ → Command → Reply → Option Why → World → Type 0
IsGivenIf w m c answer None next = IsGiven w m c answer next
IsGivenIf w m c answer (Some y) next = (next ≡ w) × IsWhyNot w m c answer y

-- the reasons why a command can't have been given: the heap can't take it, or has another answer; or the watch has stopped
abbrev pub WhyGive : ℕ → Command → Reply → Watch → Why → Type 0
WhyGive m c answer (watch.Between w) y = IsWhyNot w m c answer y
WhyGive m c answer (watch.Marking h) y = IsWhyNot h.watch.world m c answer y
WhyGive m c answer (watch.Ended left) y = IsWhyNot left.world m c answer y
WhyGive m c answer watch.Stopped y = y ≡ why.Misplaced

-- the outcome of a value handed over with an answer, outside of a cycle: it was, or nothing changed and there is a reason
abbrev pub IsHandIf : World → Hand → Reply → Option Why → World → Type 0
IsHandIf w k answer None next = Hands w k × (answer ≡ reply.Fine) × (next ≡ handed_over w k.giver k.value k.taker k.dest)
IsHandIf w k answer (Some y) next = (next ≡ w) × IsWhyNoHand w k answer y

-- a value that goes from mutator to mutator past all objects; in a cycle, a name that no scan will find is due since this line
abbrev pub CanGiveOver : ℕ → Hand → Reply → Watch → Watch → Type 0
CanGiveOver line k answer (watch.Between w) next = (after : World) × IsHandIf w k answer None after × (next ≡ watch.Between after)
CanGiveOver line k answer (watch.Marking h) next = (after : Hybrid) × IsGivenOver line k h after × (answer ≡ reply.Fine) × (next ≡ watch.Marking after)
CanGiveOver line k answer (watch.Ended left) next = (after : World) × IsHandIf left.world k answer None after ×
    (next ≡ watch.Ended (record left { world = after }))
CanGiveOver line k answer watch.Stopped next = ⊥

-- the reasons why a value can't have been handed over: the heap can't do so, or answers `ok`; or the watch has stopped
abbrev pub WhyNotGivenOver : Hand → Reply → Watch → Why → Type 0
WhyNotGivenOver k answer (watch.Between w) y = IsWhyNoHand w k answer y
WhyNotGivenOver k answer (watch.Marking h) y = IsWhyNoHand h.watch.world k answer y
WhyNotGivenOver k answer (watch.Ended left) y = IsWhyNoHand left.world k answer y
WhyNotGivenOver k answer watch.Stopped y = y ≡ why.Misplaced

-- a world does a task, with an answer that suits it
abbrev pub IsDone : World → ℕ → Task → World → Type 0
IsDone w m k next = CanApply w m k.command × Suits k.answer (step w m k.command).1 × (next ≡ (step w m k.command).0)

-- the answer of a test whether a world does a task: none if it does, and otherwise the reason
abbrev pub IsDoneIf : World → ℕ → Task → Option Why → World → Type 0
IsDoneIf w m k None next = IsDone w m k next
IsDoneIf w m k (Some y) next = (next ≡ w) × IsNotDone w m k y

-- a task among several in one line: the heap does it; in a cycle, the names that it makes due are due since this line
abbrev pub CanAct : ℕ → ℕ → Task → Watch → Watch → Type 0
CanAct line m k (watch.Between w) next = (after : World) × IsDone w m k after × (next ≡ watch.Between after)
CanAct line m k (watch.Marking h) next = (after : Hybrid) × IsTaken line m k.command h after × Suits k.answer (step h.watch.world m k.command).1 ×
    (next ≡ watch.Marking after)
CanAct line m k (watch.Ended left) next = (after : World) × IsDone left.world m k after × (next ≡ watch.Ended (record left { world = after }))
CanAct line m k watch.Stopped next = ⊥

-- the reasons why one of several tasks can't have been done: the heap can't take it or doesn't do it, or the watch stopped
abbrev pub WhyNoAct : ℕ → Task → Watch → Why → Type 0
WhyNoAct m k (watch.Between w) y = IsNotDone w m k y
WhyNoAct m k (watch.Marking h) y = IsNotDone h.watch.world m k y
WhyNoAct m k (watch.Ended left) y = IsNotDone left.world m k y
WhyNoAct m k watch.Stopped y = y ≡ why.Misplaced

-- the outcome of one of several tasks in a line: it was done, or nothing changed and there is a reason
abbrev pub IsAct : ℕ → ℕ → Task → Watch → Option Why → Watch → Type 0
IsAct line m k p None next = CanAct line m k p next
IsAct line m k p (Some y) next = (next ≡ p) × WhyNoAct m k p y

-- the tasks of one line are done, one after the other
abbrev pub AreDone : ℕ → ℕ → List Task → Watch → Watch → Type 0
AreDone line m [] p next = next ≡ p
AreDone line m (k ∷ ks) p next = (between : Watch) × CanAct line m k p between × AreDone line m ks between next

-- the tasks before this one were done, and this one couldn't be done, for this reason
pub record StopsAt (line m : ℕ) (tasks : List Task) (p : Watch) (y : Why) (last : Watch) : Type 0 where
  pub before : List Task
  pub task : Task
  pub later : List Task
  pub tasks_are : tasks ≡ before ++ task ∷ later
  pub done : AreDone line m before p last
  pub reason : WhyNoAct m task last y

-- the outcome of several tasks: all were done, or one couldn't be done and those before it were
abbrev pub AreActed : ℕ → ℕ → List Task → Watch → Option Why → Watch → Type 0
AreActed line m tasks p None next = AreDone line m tasks p next
AreActed line m tasks p (Some y) next = StopsAt line m tasks p y next

-- whether the watch has stopped
abbrev pub is_stopped : Watch → Bool
is_stopped (watch.Between w) = false
is_stopped (watch.Marking h) = false
is_stopped (watch.Ended left) = false
is_stopped watch.Stopped = true

-- whether a cycle goes on
abbrev pub is_marking : Watch → Bool
is_marking (watch.Marking h) = true
is_marking p = false

-- a debt of the cycle that goes on
abbrev pub IsOwed : Watch → Debt → Type 0
IsOwed (watch.Marking h) debt = Contains h.watch.debts debt
IsOwed p debt = ⊥

-- the number of mutators in the heap of a watch
abbrev pub mutators_of : Watch → ℕ
mutators_of (watch.Between w) = length w.mutators
mutators_of (watch.Marking h) = length h.watch.world.mutators
mutators_of (watch.Ended left) = length left.world.mutators
mutators_of watch.Stopped = 0

-- the registers of a mutator in the heap of a watch; none after the stop
abbrev pub registers_in : ℕ → Watch → List Value
registers_in m (watch.Between w) = (state_of w m).registers
registers_in m (watch.Marking h) = (state_of h.watch.world m).registers
registers_in m (watch.Ended left) = (state_of left.world m).registers
registers_in m watch.Stopped = []

-- the world with a value in a register of the mutator, if there is such a register
abbrev pub with_value : World → ℕ → ℕ → Value → World
with_value w m r v = if ltb r REGISTERS then with_register w m r v else w

-- the watch with a value in a register of the mutator, without a command
abbrev pub put : ℕ → ℕ → Value → Watch → Watch
put m r v (watch.Between w) = watch.Between (with_value w m r v)
put m r v (watch.Marking h) = watch.Marking (record h { watch = record h.watch { world = with_value h.watch.world m r v } })
put m r v (watch.Ended left) = watch.Ended (record left { world = with_value left.world m r v })
put m r v watch.Stopped = watch.Stopped

-- the watch after the borrowed registers of a mutator got back the values that are in this list
abbrev pub put_back : ℕ → List Value → List ℕ → Watch → Watch
put_back m held [] p = p
put_back m held (r ∷ rs) p = put_back m held rs (put m r (slice_index_or held r value.Nil) p)

-- for private contracts: the heap of the watch has the name of this value, or of these values, if there is one
abbrev pub IsKnownIn : Watch → Value → Type 0
IsKnownIn (watch.Between w) v = IsKnown w v
IsKnownIn (watch.Marking h) v = IsKnown h.watch.world v
IsKnownIn (watch.Ended left) v = IsKnown left.world v
IsKnownIn watch.Stopped v = Unit {0}

abbrev pub AreKnownIn : Watch → List Value → Type 0
AreKnownIn (watch.Between w) values = AreKnown w values
AreKnownIn (watch.Marking h) values = AreKnown h.watch.world values
AreKnownIn (watch.Ended left) values = AreKnown left.world values
AreKnownIn watch.Stopped values = Unit {0}

-- for private contracts: the values in a mutator's registers, or none exactly if there is no such mutator
abbrev pub AreHeldIn : ℕ → World → Option (List Value) → Type 0
AreHeldIn m w None = m < length w.mutators → ⊥
AreHeldIn m w (Some held) = (m < length w.mutators) × (held ≡ (state_of w m).registers) × AreKnown w held

abbrev pub AreHeldIf : ℕ → Watch → Option (List Value) → Type 0
AreHeldIf m (watch.Between w) held = AreHeldIn m w held
AreHeldIf m (watch.Marking h) held = AreHeldIn m h.watch.world held
AreHeldIf m (watch.Ended left) held = AreHeldIn m left.world held
AreHeldIf m watch.Stopped held = Unit {0}

-- the tasks of one line and the registers that it borrows: the mutator exists, and each task can be done after the tasks
-- before it. Then the borrowed registers get back the values that they had before
abbrev pub AreRows : ℕ → ℕ → List ℕ → List Task → Watch → Watch → Type 0
AreRows line m borrowed tasks p next = (m < mutators_of p) × ((last : Watch) × AreDone line m tasks p last × (next ≡ put_back m (registers_in m p) borrowed last))

-- several tasks in one line, before the stop
abbrev pub CanRows : ℕ → ℕ → List ℕ → List Task → Watch → Watch → Type 0
CanRows line m borrowed tasks watch.Stopped next = ⊥
CanRows line m borrowed tasks p next = AreRows line m borrowed tasks p next

-- there is no such mutator, so nothing changes
abbrev pub IsAbsent : ℕ → Watch → Why → Watch → Type 0
IsAbsent m p y last = (y ≡ why.CannotApply) × (m < mutators_of p → ⊥) × (last ≡ p)

-- one of the tasks couldn't be done, and then the borrowed registers got their values back
abbrev pub IsStopped : ℕ → ℕ → List ℕ → List Task → Watch → Why → Watch → Type 0
IsStopped line m borrowed tasks p y next = (last : Watch) × StopsAt line m tasks p y last × (next ≡ put_back m (registers_in m p) borrowed last)

-- the reasons why several tasks can't happen: one of them couldn't be done, there is no such mutator, or the watch has
-- stopped. The effect of the tasks before the refused task stays
abbrev pub WhyRows : ℕ → ℕ → List ℕ → List Task → Watch → Why → Watch → Type 0
WhyRows line m borrowed tasks watch.Stopped y next = (y ≡ why.Misplaced) × (next ≡ watch.Stopped)
WhyRows line m borrowed tasks p y next = IsStopped line m borrowed tasks p y next ⊎ IsAbsent m p y next

-- the beginning of marking, outside of a cycle: the world is the snapshot, and all mutators are scanned
abbrev pub CanMark : Watch → Watch → Type 0
CanMark (watch.Between w) next = next ≡ watch.Marking (scanned_at_once w)
CanMark (watch.Marking h) next = ⊥
CanMark (watch.Ended left) next = next ≡ watch.Marking (scanned_at_once left.world)
CanMark watch.Stopped next = ⊥

-- the reasons why marking can't begin: a cycle goes on, or the watch has stopped
abbrev pub WhyMark : Watch → Why → Type 0
WhyMark (watch.Between w) y = ⊥
WhyMark (watch.Marking h) y = y ≡ why.Misplaced
WhyMark (watch.Ended left) y = ⊥
WhyMark watch.Stopped y = y ≡ why.Misplaced

-- the beginning of marking with later roots, outside of a cycle: the snapshot has no registers, and no mutator is scanned
abbrev pub CanMarkShared : Watch → Watch → Type 0
CanMarkShared (watch.Between w) next = next ≡ watch.Marking (beginning w)
CanMarkShared (watch.Marking h) next = ⊥
CanMarkShared (watch.Ended left) next = next ≡ watch.Marking (beginning left.world)
CanMarkShared watch.Stopped next = ⊥

-- a scan in a cycle, of a mutator that isn't scanned: its registers are read
abbrev pub CanScan : ℕ → Watch → Watch → Type 0
CanScan m (watch.Between w) next = ⊥
CanScan m (watch.Marking h) next = (after : Hybrid) × IsScanned h m after × (next ≡ watch.Marking after)
CanScan m (watch.Ended left) next = ⊥
CanScan m watch.Stopped next = ⊥

-- the reasons why a mutator can't be scanned: there is no cycle, there is no such mutator, or it is scanned already
abbrev pub WhyScan : ℕ → Watch → Why → Type 0
WhyScan m (watch.Between w) y = y ≡ why.Misplaced
WhyScan m (watch.Marking h) y = IsNotScanned h m y
WhyScan m (watch.Ended left) y = y ≡ why.Misplaced
WhyScan m watch.Stopped y = y ≡ why.Misplaced

-- a mutator needs no scan: no cycle goes on, or it is scanned already
abbrev pub NeedsNoScan : ℕ → Watch → Type 0
NeedsNoScan m (watch.Between w) = Unit {0}
NeedsNoScan m (watch.Marking h) = is_scanned h m ≡ true
NeedsNoScan m (watch.Ended left) = Unit {0}
NeedsNoScan m watch.Stopped = Unit {0}

-- a mutator counts as scanned afterwards: it is scanned, or it needs no scan and nothing changes
abbrev pub CountsAsScanned : ℕ → Watch → Watch → Type 0
CountsAsScanned m p next = CanScan m p next ⊎ ((next ≡ p) × NeedsNoScan m p)

-- the end of a mutator, before the stop: all its registers are emptied, and then it counts as scanned
abbrev pub CanExit : ℕ → ℕ → Watch → Watch → Type 0
CanExit line m p next = (between : Watch) × CanRows line m [] (emptied REGISTERS) p between × CountsAsScanned m between next

-- a push in a cycle: of any name that the heap has, due or not, and at any time
abbrev pub CanPush : Name → Watch → Watch → Type 0
CanPush name (watch.Between w) next = ⊥
CanPush name (watch.Marking h) next = (after : Cycle) × IsPushed h.watch name after × (next ≡ watch.Marking (record h { watch = after }))
CanPush name (watch.Ended left) next = ⊥
CanPush name watch.Stopped next = ⊥

-- the reasons why a name can't have been pushed: there is no cycle, or the heap has no such name
abbrev pub WhyPush : Name → Watch → Why → Type 0
WhyPush name (watch.Between w) y = y ≡ why.Misplaced
WhyPush name (watch.Marking h) y = (y ≡ why.NoSuchName name) × (IsSome (node_of h.watch.world name) → ⊥)
WhyPush name (watch.Ended left) y = y ≡ why.Misplaced
WhyPush name watch.Stopped y = y ≡ why.Misplaced

-- a settle in a cycle: no debt is left from the mutator's commands
abbrev pub CanSettle : ℕ → Watch → Watch → Type 0
CanSettle m (watch.Between w) next = ⊥
CanSettle m (watch.Marking h) next = IsSettled h.watch m × (next ≡ watch.Marking h)
CanSettle m (watch.Ended left) next = ⊥
CanSettle m watch.Stopped next = ⊥

-- the reasons why a mutator can't have settled: there is no cycle, a name is due by its commands, or there is no such mutator
abbrev pub WhySettle : ℕ → Watch → Why → Type 0
WhySettle m (watch.Between w) y = y ≡ why.Misplaced
WhySettle m (watch.Marking h) y = IsUnsettled h.watch m y
WhySettle m (watch.Ended left) y = y ≡ why.Misplaced
WhySettle m watch.Stopped y = y ≡ why.Misplaced

-- a take in a cycle, of a name of the snapshot that was pushed. The marker's reads and their times aren't watched
abbrev pub CanTake : Name → Watch → Watch → Type 0
CanTake name (watch.Between w) next = ⊥
CanTake name (watch.Marking h) next = (after : Cycle) × IsTook h.watch name after × (next ≡ watch.Marking (record h { watch = after }))
CanTake name (watch.Ended left) next = ⊥
CanTake name watch.Stopped next = ⊥

-- the reasons why a name can't have been taken: there is no cycle, or the name wasn't pushed
abbrev pub WhyTake : Name → Watch → Why → Type 0
WhyTake name (watch.Between w) y = y ≡ why.Misplaced
WhyTake name (watch.Marking h) y = (y ≡ why.NotPushed name) × (Contains h.watch.remembered name → ⊥)
WhyTake name (watch.Ended left) y = y ≡ why.Misplaced
WhyTake name watch.Stopped y = y ≡ why.Misplaced

-- the list has, for each mutator of a world, the number of its names
abbrev pub AreSerials : World → List ℕ → Type 0
AreSerials w serials = serials ≡ map (λ (own : MutatorState). length own.nodes) w.mutators

-- the result of a close without debts. It has the world with the dead weak pointers dead, and the names that the commands and
-- the pushes keep. It has the names that no collector may free if exactly these weak pointers die: the commands or the weak
-- pointers that live on need them. And it has the number of names of each mutator when the cycle began
pub record IsLeft (h : Cycle) (left : CycleResult) : Type 0 where
  pub dead : List Name
  pub ends : IsEnd h dead left.world
  pub kept : Lists (MarksName h) left.kept
  pub needed : Lists (Needs h dead) left.needed
  pub old : AreSerials h.snapshot left.old

-- the result of a close without debts that reports which weak pointers die, with the names needed if exactly these die
pub record IsResultWith (h : Cycle) (named : List Name) (left : CycleResult) : Type 0 where
  pub dead : List Name
  pub ends : IsEndWith h named dead left.world
  pub kept : Lists (MarksName h) left.kept
  pub needed : Lists (Needs h named) left.needed
  pub old : AreSerials h.snapshot left.old

-- the earliest debt, as a reason against the end of a cycle
abbrev pub IsFirstDebt : Cycle → Why → Type 0
IsFirstDebt h y = (debt : Debt) × (y ≡ why.Due debt) × IsEarliest (Contains h.debts) debt

-- the first name that was pushed and isn't reported as taken, although takes are reported
abbrev pub IsUntaken : Cycle → Why → Type 0
IsUntaken h y = (name : Name) × (y ≡ why.Untaken name) × IsFirstName (IsUntakenName h) name

-- the reason why a cycle can't end, whichever weak pointers die: the earliest debt or, without debts, the first untaken name
abbrev pub IsAgainst : Cycle → Why → Type 0
IsAgainst h y = IsFirstDebt h y ⊎ ((h.debts ≡ []) × IsUntaken h y)

-- the outcome of a test whether a cycle can end: there are no debts and no untaken names, or there is a reason
abbrev pub IsAgainstIf : Cycle → Option Why → Type 0
IsAgainstIf h None = (h.debts ≡ []) × IsAllTaken h
IsAgainstIf h (Some y) = IsAgainst h y

-- the outcome of a request to end a cycle: the result of the close, or a reason against it
abbrev pub IsEnding : Cycle → Result CycleResult Why → Type 0
IsEnding h (Ok left) = IsLeft h left
IsEnding h (Err y) = IsAgainst h y

-- the first mutator that isn't scanned
abbrev pub IsFirstUnscanned : Hybrid → ℕ → Type 0
IsFirstUnscanned h m = (m < length h.watch.world.mutators) × (is_scanned h m ≡ false) × ((k : ℕ) → k < m → is_scanned h k ≡ true)

-- the first mutator of the cycle that isn't scanned, as a reason against the end of the cycle
abbrev pub IsUnscanned : Hybrid → Why → Type 0
IsUnscanned h y = (m : ℕ) × (y ≡ why.Unscanned m) × IsFirstUnscanned h m

-- the outcome of a search for a mutator that isn't scanned
abbrev pub IsUnscannedIf : Hybrid → Option ℕ → Type 0
IsUnscannedIf h None = AreScanned h
IsUnscannedIf h (Some m) = IsFirstUnscanned h m

-- the outcome of a request to end a cycle with later roots: all mutators are scanned, and the result of the close, or a
-- reason
abbrev pub IsEndingIn : Hybrid → Result CycleResult Why → Type 0
IsEndingIn h (Ok left) = AreScanned h × IsLeft h.watch left
IsEndingIn h (Err y) = IsUnscanned h y ⊎ (AreScanned h × IsAgainst h.watch y)

-- the end of marking in a cycle without debts, with the result of the close; all mutators are scanned
abbrev pub CanClose : Watch → Watch → Type 0
CanClose (watch.Between w) next = ⊥
CanClose (watch.Marking h) next = (left : CycleResult) × IsLeft h.watch left × (next ≡ watch.Ended left) × AreScanned h
CanClose (watch.Ended left) next = ⊥
CanClose watch.Stopped next = ⊥

-- the reasons why marking can't end: there is no cycle, a mutator isn't scanned, or there is a reason against the cycle's end
abbrev pub WhyClose : Watch → Why → Type 0
WhyClose (watch.Between w) y = y ≡ why.Misplaced
WhyClose (watch.Marking h) y = IsUnscanned h y ⊎ (AreScanned h × IsAgainst h.watch y)
WhyClose (watch.Ended left) y = y ≡ why.Misplaced
WhyClose watch.Stopped y = y ≡ why.Misplaced

-- the end of marking with a report of the weak pointers that die: exactly these die
abbrev pub CanCloseWith : List Name → Watch → Watch → Type 0
CanCloseWith named (watch.Between w) next = ⊥
CanCloseWith named (watch.Marking h) next = (left : CycleResult) × IsResultWith h.watch named left × (next ≡ watch.Ended left) × AreScanned h
CanCloseWith named (watch.Ended left) next = ⊥
CanCloseWith named watch.Stopped next = ⊥

-- the first reported weak pointer that isn't dead if exactly the reported weak pointers die
abbrev pub IsNotDead : Cycle → List Name → Why → Type 0
IsNotDead h named y = (weak : Name) × (y ≡ why.NotDead weak) × StandsFirst named (λ other. IsDeadAmong h named other → ⊥) weak

-- the outcome of a search for a reported weak pointer that isn't dead if exactly the reported weak pointers die
abbrev pub IsDeadIf : Cycle → List Name → Option Name → Type 0
IsDeadIf h named None = (weak : Name) → Contains named weak → IsDeadAmong h named weak
IsDeadIf h named (Some weak) = StandsFirst named (λ other. IsDeadAmong h named other → ⊥) weak

-- the reason why a cycle can't end so that exactly these die: against any end, or else the first of them that isn't dead
abbrev pub IsAgainstWith : Cycle → List Name → Why → Type 0
IsAgainstWith h named y = IsAgainst h y ⊎ ((h.debts ≡ []) × IsAllTaken h × IsNotDead h named y)

-- the outcome of a request to end a cycle so that exactly these die: the result of the close, or a reason against it
abbrev pub IsEndingWith : Cycle → List Name → Result CycleResult Why → Type 0
IsEndingWith h named (Ok left) = IsResultWith h named left
IsEndingWith h named (Err y) = IsAgainstWith h named y

-- the outcome of a request to end a cycle with later roots so that exactly these die
abbrev pub IsEndingWithIn : Hybrid → List Name → Result CycleResult Why → Type 0
IsEndingWithIn h named (Ok left) = AreScanned h × IsResultWith h.watch named left
IsEndingWithIn h named (Err y) = IsUnscanned h y ⊎ (AreScanned h × IsAgainstWith h.watch named y)

-- the reasons why marking can't end so that exactly these die: no cycle, a mutator isn't scanned, a reason against the
-- cycle's end, or one of them isn't dead
abbrev pub WhyCloseWith : List Name → Watch → Why → Type 0
WhyCloseWith named (watch.Between w) y = y ≡ why.Misplaced
WhyCloseWith named (watch.Marking h) y = IsUnscanned h y ⊎ (AreScanned h × IsAgainstWith h.watch named y)
WhyCloseWith named (watch.Ended left) y = y ≡ why.Misplaced
WhyCloseWith named watch.Stopped y = y ≡ why.Misplaced

-- a report after a cycle that the runtime marked exactly the names that the cycle kept
abbrev pub CanMarked : List Name → Watch → Watch → Type 0
CanMarked names (watch.Between w) next = ⊥
CanMarked names (watch.Marking h) next = ⊥
CanMarked names (watch.Ended left) next = ((name : Name) → Contains names name ↔ Contains left.kept name) × (next ≡ watch.Ended left)
CanMarked names watch.Stopped next = ⊥

-- the first name of `others` that isn't in `names`
abbrev pub IsMissing : List Name → List Name → Name → Type 0
IsMissing names others name = StandsFirst others (λ other. Contains names other → ⊥) name

-- the outcome of a search for a name of `others` that isn't in `names`
abbrev pub IsMissingIf : List Name → List Name → Option Name → Type 0
IsMissingIf names others None = (name : Name) → Contains others name → Contains names name
IsMissingIf names others (Some name) = IsMissing names others name

-- the reason why the runtime can't have marked exactly these names: there was no cycle, or a cycle goes on. Else the first name
-- that is kept and isn't reported, or if there is none, the first that is reported and isn't kept
abbrev pub WhyMarked : List Name → Watch → Why → Type 0
WhyMarked names (watch.Between w) y = y ≡ why.Misplaced
WhyMarked names (watch.Marking h) y = y ≡ why.Misplaced
WhyMarked names (watch.Ended left) y = ((name : Name) × (y ≡ why.NotListed name) × IsMissing names left.kept name) ⊎
    (((name : Name) → Contains left.kept name → Contains names name) × ((name : Name) × (y ≡ why.NotMarked name) × IsMissing left.kept names name))
WhyMarked names watch.Stopped y = y ≡ why.Misplaced

-- whether the name is g or one of a world's names, by the number of names of each mutator in the world
abbrev pub is_old : List ℕ → Name → Bool
is_old serials name = is_same_name name shared_name || ltb name.serial (slice_index_or serials name.maker 0)

-- a name of the snapshot with which the closed cycle began
abbrev pub IsOld : CycleResult → Name → Type 0
IsOld left name = is_old left.old name ≡ true

-- a report that the runtime marked exactly these names, if names made since the snapshot don't count. The heap has each name.
-- All kept names are reported, and every reported name of the snapshot is kept
pub record IsBlack (names : List Name) (left : CycleResult) : Type 0 where
  pub there : (name : Name) → Contains names name → IsSome (node_of left.world name)
  pub kept : (name : Name) → Contains left.kept name → Contains names name
  pub old : (name : Name) → Contains names name → IsOld left name → Contains left.kept name

-- a name of the snapshot that isn't kept
abbrev pub IsUnkept : CycleResult → Name → Type 0
IsUnkept left name = IsOld left name × (Contains left.kept name → ⊥)

-- the outcome of a test of a reported name: it was made since the snapshot or is kept, or it is neither
abbrev pub IsBlackName : CycleResult → Name → Bool → Type 0
IsBlackName left name true = IsOld left name → Contains left.kept name
IsBlackName left name false = IsUnkept left name

-- the outcome of a search among reported names for the first name of the snapshot that isn't kept
abbrev pub IsUnkeptIf : List Name → CycleResult → Option Name → Type 0
IsUnkeptIf names left None = (name : Name) → Contains names name → IsOld left name → Contains left.kept name
IsUnkeptIf names left (Some name) = StandsFirst names (IsUnkept left) name

-- the outcome of a search among names for the first name that the heap doesn't have
abbrev pub IsUnknownIf : World → List Name → Option Name → Type 0
IsUnknownIf w names None = (name : Name) → Contains names name → IsSome (node_of w name)
IsUnknownIf w names (Some name) = StandsFirst names (λ other. IsSome (node_of w other) → ⊥) name

-- a report after a cycle of the names that the runtime marked, perhaps with names made since the snapshot
abbrev pub CanBlack : List Name → Watch → Watch → Type 0
CanBlack names (watch.Between w) next = ⊥
CanBlack names (watch.Marking h) next = ⊥
CanBlack names (watch.Ended left) next = IsBlack names left × (next ≡ watch.Ended left)
CanBlack names watch.Stopped next = ⊥

-- the reason why the runtime can't have marked these names: there was no cycle, or a cycle goes on. Or it is the first reported
-- name that the heap doesn't have. If there is none, it is the first kept name that isn't reported. If there is none either, it
-- is the first reported name of the snapshot that isn't kept
abbrev pub WhyBlack : List Name → Watch → Why → Type 0
WhyBlack names (watch.Between w) y = y ≡ why.Misplaced
WhyBlack names (watch.Marking h) y = y ≡ why.Misplaced
WhyBlack names (watch.Ended left) y = ((name : Name) × (y ≡ why.NoSuchName name) × IsUnknownIf left.world names (Some name)) ⊎
    (((name : Name) → Contains names name → IsSome (node_of left.world name)) ×
    (((name : Name) × (y ≡ why.NotListed name) × IsMissing names left.kept name) ⊎
    (((name : Name) → Contains left.kept name → Contains names name) ×
    ((name : Name) × (y ≡ why.NotMarked name) × IsUnkeptIf names left (Some name)))))
WhyBlack names watch.Stopped y = y ≡ why.Misplaced

-- the outcome of a check of reported names, those made since the snapshot left out: there is no reason against them, or one
abbrev pub IsBlackIf : List Name → CycleResult → Option Why → Type 0
IsBlackIf names left None = IsBlack names left
IsBlackIf names left (Some y) = WhyBlack names (watch.Ended left) y

-- a name that may be freed: the heap and the snapshot have it, and no command or weak pointer that lives on needs it
abbrev pub MayFree : CycleResult → Name → Type 0
MayFree left name = IsSome (node_of left.world name) × IsOld left name × (Contains left.needed name → ⊥)

-- a report after a cycle: the runtime freed names of its snapshot that aren't needed, and none that were made since
abbrev pub CanFreed : List Name → Watch → Watch → Type 0
CanFreed names (watch.Between w) next = ⊥
CanFreed names (watch.Marking h) next = ⊥
CanFreed names (watch.Ended left) next = ((name : Name) → Contains names name → MayFree left name) × (next ≡ watch.Ended left)
CanFreed names watch.Stopped next = ⊥

-- the reason why a name can't have been freed, the first of these that holds: the heap doesn't have it, it was made since the
-- snapshot, or it is needed
abbrev pub WhyKept : CycleResult → Name → Why → Type 0
WhyKept left name y = ((y ≡ why.NoSuchName name) × (IsSome (node_of left.world name) → ⊥)) ⊎ (IsSome (node_of left.world name) ×
    (((y ≡ why.NotOld name) × (IsOld left name → ⊥)) ⊎ ((y ≡ why.Needed name) × IsOld left name × Contains left.needed name)))

-- the reasons why the runtime can't have freed these names: no cycle, a cycle goes on, or the first of them that can't be freed
abbrev pub WhyFreed : List Name → Watch → Why → Type 0
WhyFreed names (watch.Between w) y = y ≡ why.Misplaced
WhyFreed names (watch.Marking h) y = y ≡ why.Misplaced
WhyFreed names (watch.Ended left) y = (name : Name) × StandsFirst names (λ other. MayFree left other → ⊥) name × WhyKept left name y
WhyFreed names watch.Stopped y = y ≡ why.Misplaced

-- the outcome of a check of reported marked names: exactly these names are kept, or there is a reason
abbrev pub IsMarkedIf : List Name → CycleResult → Option Why → Type 0
IsMarkedIf names left None = (name : Name) → Contains names name ↔ Contains left.kept name
IsMarkedIf names left (Some y) = WhyMarked names (watch.Ended left) y

-- the outcome of a check of reported freed names: all may be freed, or there is a reason
abbrev pub IsFreedIf : List Name → CycleResult → Option Why → Type 0
IsFreedIf names left None = (name : Name) → Contains names name → MayFree left name
IsFreedIf names left (Some y) = WhyFreed names (watch.Ended left) y

-- the stop of a watch, after a cycle has ended: a trace without a cycle shows nothing
abbrev pub CanStop : Watch → Watch → Type 0
CanStop (watch.Between w) next = ⊥
CanStop (watch.Marking h) next = ⊥
CanStop (watch.Ended left) next = next ≡ watch.Stopped
CanStop watch.Stopped next = ⊥

-- the reasons why the watch can't stop: a cycle goes on, there was none, or the watch has stopped already
abbrev pub WhyStop : Watch → Why → Type 0
WhyStop (watch.Between w) y = y ≡ why.Misplaced
WhyStop (watch.Marking h) y = y ≡ why.Misplaced
WhyStop (watch.Ended left) y = ⊥
WhyStop watch.Stopped y = y ≡ why.Misplaced

-- an event of a line can happen in a state, with the state after it. Several tasks: each is done after the tasks before it, and
-- then the borrowed registers get their values back. A hand: the heap can hand the value over. A settle: this mutator has no debt. A take: the name was pushed and is in the
-- snapshot. A close: there are no debts, and if takes are reported, all pushed names except g were taken. A close that reports
-- which weak pointers die: each is dead if exactly these die. Either close: all mutators are scanned. A scan: this mutator
-- isn't scanned. An exit: the mutator's registers are emptied, and it counts as scanned. Marked: exactly the names that the
-- cycle kept. Black: these names, and any made since the snapshot. Freed: names of the snapshot that the heap has, and that
-- neither the commands nor a weak pointer that lives on need. A stop: a cycle has ended
abbrev pub Can : ℕ → Watch → Event → Watch → Type 0
Can line p (event.Given m c answer) next = CanGive line m c answer p next
Can line p (event.Rows m borrowed tasks) next = CanRows line m borrowed tasks p next
Can line p (event.Hand k answer) next = CanGiveOver line k answer p next
Can line p event.Mark next = CanMark p next
Can line p event.MarkShared next = CanMarkShared p next
Can line p (event.Scan m) next = CanScan m p next
Can line p (event.Push name) next = CanPush name p next
Can line p (event.Exit m) next = CanExit line m p next
Can line p (event.Settle m) next = CanSettle m p next
Can line p (event.Take name) next = CanTake name p next
Can line p event.Close next = CanClose p next
Can line p (event.CloseWith dead) next = CanCloseWith dead p next
Can line p (event.Marked names) next = CanMarked names p next
Can line p (event.Black names) next = CanBlack names p next
Can line p (event.Freed names) next = CanFreed names p next
Can line p event.Stop next = CanStop p next

-- the reasons why an event can't happen, for each kind of event: each is a fact of the state and the event
abbrev pub IsWhy : Watch → Event → Why → Type 0
IsWhy p (event.Given m c answer) y = WhyGive m c answer p y
IsWhy p (event.Rows m borrowed tasks) y = (line : ℕ) × (last : Watch) × WhyRows line m borrowed tasks p y last
IsWhy p (event.Hand k answer) y = WhyNotGivenOver k answer p y
IsWhy p event.Mark y = WhyMark p y
IsWhy p event.MarkShared y = WhyMark p y
IsWhy p (event.Scan m) y = WhyScan m p y
IsWhy p (event.Push name) y = WhyPush name p y
IsWhy p (event.Exit m) y = (line : ℕ) × (last : Watch) × WhyRows line m [] (emptied REGISTERS) p y last
IsWhy p (event.Settle m) y = WhySettle m p y
IsWhy p (event.Take name) y = WhyTake name p y
IsWhy p event.Close y = WhyClose p y
IsWhy p (event.CloseWith dead) y = WhyCloseWith dead p y
IsWhy p (event.Marked names) y = WhyMarked names p y
IsWhy p (event.Black names) y = WhyBlack names p y
IsWhy p (event.Freed names) y = WhyFreed names p y
IsWhy p event.Stop y = WhyStop p y

-- the state after a refused event: nothing changes, except that several tasks of a line are done up to the refused task
abbrev pub Leaves : ℕ → Watch → Event → Why → Watch → Type 0
Leaves line p (event.Rows m borrowed tasks) y next = WhyRows line m borrowed tasks p y next
Leaves line p (event.Exit m) y next = WhyRows line m [] (emptied REGISTERS) p y next
Leaves line p e y next = next ≡ p

-- a step: the event happened; or there is a reason, and only the commands of the line before the refused command were done
abbrev pub IsStep : ℕ → Watch → Event → Option Why → Watch → Type 0
IsStep line p e None next = Can line p e next
IsStep line p e (Some y) next = Leaves line p e y next × IsWhy p e y

-- the theorem that an event for which there is a reason can't happen
abbrev pub ReasonsRefuse : Type 0
ReasonsRefuse = (line : ℕ) (p : Watch) (e : Event) (y : Why) (next : Watch) → IsWhy p e y → Can line p e next → ⊥

-- the theorem that a closed cycle is exact, for both kinds of close. Take any marker that is possible beside the cycle and
-- can close now, in whatever order it took names and read objects. After its closing, exactly the kept names are marked
abbrev pub ClosedIsExact : Type 0
ClosedIsExact = (h : Cycle) (left : CycleResult) → IsLeft h left ⊎ ((named : List Name) × IsResultWith h named left) → (w : World) → IsWorld w →
    (s next : State) → Beside w h s → IsPossible s core.Close → IsClosing s next → (name : Name) → Contains next.marked name ↔ Contains left.kept name

-- the theorem that a closed cycle with later roots is exact, for both kinds of close, as a cycle with one snapshot
abbrev pub ClosedLaterIsExact : Type 0
ClosedLaterIsExact = (h : Hybrid) (left : CycleResult) → IsLeft h.watch left ⊎ ((named : List Name) × IsResultWith h.watch named left) → (w : World) →
    IsWorld w → WatchesIn w h → (s next : State) → BesideIn w h s → IsPossible s core.Close → IsClosing s next → (name : Name) →
    Contains next.marked name ↔ Contains left.kept name

-- a watch whose heaps are closed, as in every watch that began with an empty heap
abbrev pub AreClosed : Watch → Type 0
AreClosed (watch.Between w) = IsWorld w
AreClosed (watch.Marking h) = IsWorld h.watch.world × IsWorld h.watch.snapshot
AreClosed (watch.Ended left) = IsWorld left.world
AreClosed watch.Stopped = Unit {0}

-- the theorem that for every event, either the event can happen or there is a reason why it can't
abbrev pub EveryEventIsJudged : Type 0
EveryEventIsJudged = (line : ℕ) (p : Watch) (e : Event) → AreClosed p → ((next : Watch) × Can line p e next) ⊎ ((y : Why) × IsWhy p e y)

-- the theorem that each marker that took all pushed names has to mark every name that the commands alone keep
abbrev pub KeptIsMarked : Type 0
KeptIsMarked = (h : Cycle) → IsWorld h.snapshot → (name : Name) → IsKept h.snapshot h.opened h.finalised name → MarksName h name

-- the theorem that, after a close without a report of the weak pointers that die, every needed name is among the kept names
abbrev pub NeededIsKept : Type 0
NeededIsKept = (h : Cycle) (left : CycleResult) → IsWorld h.snapshot → IsLeft h left → (name : Name) → Contains left.needed name → Contains left.kept name
