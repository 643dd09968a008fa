-- When a line of a trace of format 1 can happen, by the marking machine alone. The commands before `mark` build a world; from
-- then on each line is an event of the marking machine.
use Rattle.std.specs.Prelude.{◌≡◌, ◌≤◌, ◌↔◌, ◌⊎◌, ◌-◌, ◌^◌, ℕ, zero, suc, List, [], ◌∷◌, Option, Some, None, Result, Ok, Err, Bool, true, false, Contains}
use Rattle.nmgc_lists.specs.declared.memory.NoMemory.{NoMemory}
use Rattle.nmgc_world_spec.specs.{declared.value.Name.Name, World.World, World.new_world, World.step, Known.CanApply}
use Rattle.nmgc_limits.specs.declared.mutators.TheConstants.{MAKERS}
use Rattle.nmgc_snapshot_laws.specs.{declared.event.Event.Event, State.State, State.opening, Machine.IsPossible, Machine.Passes}
use Rattle.nmgc_snapshot_laws.specs.declared.event.Event.TheVariants as event
use Rattle.nmgc_trace_checker.specs.{declared.line.Line.Line, declared.progress.Progress.Progress}
use Rattle.nmgc_trace_checker.specs.declared.line.Line.TheVariants as line
use Rattle.nmgc_trace_checker.specs.declared.progress.Progress.TheVariants as progress

-- an event can happen before marking: it is a command that can be given, and the heap gives this answer
abbrev pub IsAnswered : World → Event → World → Type 0
IsAnswered w (event.Command m c answer) next = CanApply w m c × (step w m c ≡ (next, answer))
IsAnswered w _ next = ⊥

-- after a step, the marked names are the names marked before and this name
abbrev pub MarksJust : State → Name → State → Type 0
MarksJust s name next = (other : Name) → Contains next.marked other ↔ (Contains s.marked other ⊎ (other ≡ name))

-- a name can be taken: the machine can take this mutator's first pushed name, and thereby marks just this name
abbrev pub IsTake : State → ℕ → Name → State → Type 0
IsTake s m name next = Passes s (event.Take m) true next × MarksJust s name next

-- the number of mutators can be given, once, and the trace then begins with their empty heap
abbrev pub CanStart : Progress → ℕ → Progress → Type 0
CanStart progress.Nothing count next = (1 ≤ count) × (count ≤ MAKERS) × (next ≡ progress.Building (new_world count))
CanStart _ count next = ⊥

-- marking can begin, once; its snapshot is the world that was built
abbrev pub CanMark : Progress → Progress → Type 0
CanMark (progress.Building w) next = next ≡ progress.Marking (opening w)
CanMark _ next = ⊥

-- an event can happen in a trace: before marking, a command with the heap's answer; later, any event that the machine can do
abbrev pub CanHappen : Progress → Event → Progress → Type 0
CanHappen progress.Nothing e next = ⊥
CanHappen (progress.Building w) e next = (after : World) × IsAnswered w e after × (next ≡ progress.Building after)
CanHappen (progress.Marking s) e next = (after : State) × Passes s e true after × (next ≡ progress.Marking after)

-- a name can be taken in a trace, after marking began
abbrev pub CanTake : Progress → ℕ → Name → Progress → Type 0
CanTake (progress.Marking s) m name next = (after : State) × IsTake s m name after × (next ≡ progress.Marking after)
CanTake _ m name next = ⊥

-- a number of scans, one after the other
abbrev pub Scans : State → ℕ → State → Type 0
Scans s zero next = next ≡ s
Scans s (suc n) next = (before : State) × Scans s n before × Passes before event.Scan true next

-- a drain: scans until no scan can happen, or 2^64 - 1 of them
abbrev pub IsDrain : State → State → Type 0
IsDrain s next = (n : ℕ) × Scans s n next × ((IsPossible next event.Scan → ⊥) ⊎ (n ≡ 2 ^ 64 - 1))

-- the queue can be drained in a trace, after marking began
abbrev pub CanDrain : Progress → Progress → Type 0
CanDrain (progress.Marking s) next = (after : State) × IsDrain s after × (next ≡ progress.Marking after)
CanDrain _ next = ⊥

-- a line that can happen, with the progress before and after it. `mutators` comes once, first, and `mark` once, with the
-- built world as the snapshot. Commands with the heap's answers come before `mark`, events that the machine can do after it
abbrev pub Can : Progress → Line → Progress → Type 0
Can p line.Blank next = next ≡ p
Can p (line.Mutators count) next = CanStart p count next
Can p line.Mark next = CanMark p next
Can p (line.Event e) next = CanHappen p e next
Can p (line.Take m name) next = CanTake p m name next
Can p line.Drain next = CanDrain p next
Can p line.Unknown next = ⊥

-- the progress after a line; none exactly if the line can't happen
abbrev pub IsNext : Progress → Line → Option Progress → Type 0
IsNext p l None = (next : Progress) → Can p l next → ⊥
IsNext p l (Some next) = Can p l next

-- lines that can happen, each after the line before it, with the last progress
abbrev pub Comes : Progress → List Line → Progress → Type 0
Comes p [] last = last ≡ p
Comes p (l ∷ ls) last = (next : Progress) × Can p l next × Comes next ls last

-- RESULTS OF TESTS: true with the step that was done, and false if none could be done

-- the result of a test whether an event can happen before marking: true with the world `next` after it, or false if it can't
abbrev pub IsAnsweredIf : World → Event → Bool → World → Type 0
IsAnsweredIf w e true next = IsAnswered w e next
IsAnsweredIf w e false next = (other : World) → IsAnswered w e other → ⊥

-- the result of a test whether a name can be taken: true with the state `next` after it, or false if no state can follow
abbrev pub IsTakeIf : State → ℕ → Name → Bool → State → Type 0
IsTakeIf s m name true next = IsTake s m name next
IsTakeIf s m name false next = (other : State) → IsTake s m name other → ⊥

-- the result of trying a line: the progress if it happened, none if it can't, and an error if memory ran out
abbrev pub next_if : Progress → Result Bool NoMemory → Result (Option Progress) NoMemory
next_if p (Ok true) = Ok (Some p)
next_if p (Ok false) = Ok None
next_if p (Err e) = Err e
