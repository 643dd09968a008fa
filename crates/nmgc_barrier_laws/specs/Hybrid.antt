-- A cycle with later roots: each mutator's registers are read when the mutator is scanned. The cycle begins with g and the
-- finaliser queues as its only roots, so its snapshot is the world without registers. A scan adds the names in the mutator's
-- registers to the roots. Until its scan, all names that a mutator stores are due, besides the names that are due in any
-- cycle. A value that goes from mutator to mutator past all objects is due if the first isn't scanned and the second is.
use Rattle.std.specs.Prelude.{◌≡◌, ◌≢◌, ◌<◌, ◌↔◌, ◌⊎◌, ℕ, suc, List, [], ◌∷◌, ◌++◌, map, length, replicate, slice_set, slice_index_or, Bool, true, false, IsSome, Contains}
use Rattle.std.specs.List.{flat_map}
use Rattle.nmgc_world_spec.specs.{declared.value.Name.Name, declared.value.Value.Value, declared.mutator_state.MutatorState.MutatorState, declared.command.Command.Command, declared.command.Command.TheVariants.Show, declared.command.Operand.Operand, declared.command.Reply.Reply, World.World, World.state_of, World.node_of, World.step, World.shared_name, World.value_for, World.with_register, Known.IsWorld, Known.IsKnown, Known.IsRegister, Known.CanApply, Reach.IsLive, Reach.IsKept, Reach.opened_by, Reach.finalised_by, Reach.name_in}
use Rattle.nmgc_world_spec.specs.declared.value.Value.TheVariants as value
use Rattle.nmgc_snapshot_laws.specs.{State.State, State.names_of, State.mark_name, State.opening, Machine.after_command, Machine.after_scan, Facts.MayHold}
use Rattle.nmgc_barrier_laws.specs.{declared.debt.Debt.Debt, Due.IsDue, Stored.IsStored, Barrier.names_in, Barrier.after_pushing, Barrier.IsSorted, Barrier.HasFinished, Barrier.EndsExactly, Barrier.Watches, Barrier.Beside}
use Rattle.nmgc_barrier_laws.specs.Cycle.{Cycle, watching, OwesBy, IsPushed, IsTook}

-- a mutator if it is shown, otherwise the mutator with empty registers
abbrev pub veil : Bool → MutatorState → MutatorState
veil true state = state
veil false state = record state { registers = map (λ (v : Value). value.Nil) state.registers }

-- the mutators, with the registers of those that aren't shown emptied
abbrev pub hide : (ℕ → Bool) → List MutatorState → List MutatorState
hide shown [] = []
hide shown (state ∷ states) = veil (shown 0) state ∷ hide (λ k. shown (suc k)) states

-- the world in which only the mutators that are shown have their registers; everything else stays
abbrev pub hidden : (ℕ → Bool) → World → World
hidden shown w = record w { mutators = hide shown w.mutators }

-- the world without registers
abbrev pub bare : World → World
bare w = hidden (λ k. false) w

-- a cycle with later roots: the watched cycle, and for each mutator whether it was scanned
pub record Hybrid : Type 0 where
  pub watch : Cycle
  pub scanned : List Bool

-- the mutator's registers were read in this cycle
abbrev pub is_scanned : Hybrid → ℕ → Bool
is_scanned h m = slice_index_or h.scanned m false

-- the cycle when marking begins: its snapshot has no registers, and no mutator is scanned
abbrev pub beginning : World → Hybrid
beginning w = record { watch = record (watching w) { snapshot = bare w }; scanned = replicate (length w.mutators) false }

-- the cycle when marking begins and all mutators are scanned at once: a cycle with one snapshot
abbrev pub scanned_at_once : World → Hybrid
scanned_at_once w = record { watch = watching w; scanned = replicate (length w.mutators) true }

-- the command stores a name of the snapshot, not g, and its mutator isn't scanned yet
pub record IsHandedOut (h : Hybrid) (m : ℕ) (c : Command) (target : Name) : Type 0 where
  pub unscanned : is_scanned h m ≡ false
  pub there : IsSome (node_of h.watch.snapshot target)
  pub own : target ≢ shared_name
  pub stored : IsStored h.watch.world (step h.watch.world m c).0 target

-- a name that the command has to remember: it is due whichever mutator acts (`IsDue`), or an unscanned mutator stores it
abbrev pub IsDueIn : Hybrid → ℕ → Command → Name → Type 0
IsDueIn h m c target = IsDue h.watch.snapshot h.watch.world m c target ⊎ IsHandedOut h m c target

-- a command at a line, which the heap takes with this answer, as in a cycle with one snapshot (`IsWatched`). Names that an
-- unscanned mutator stores count as opened, too
pub record IsWatchedIn (h : Hybrid) (line m : ℕ) (c : Command) (answer : Reply) (next : Hybrid) : Type 0 where
  pub can : CanApply h.watch.world m c
  pub says : (step h.watch.world m c).1 ≡ answer
  pub rest : next ≡ record h {
    watch = record h.watch {
      world = (step h.watch.world m c).0;
      debts = next.watch.debts;
      opened = next.watch.opened;
      finalised = h.watch.finalised ++ finalised_by h.watch.world m c;
    };
  }
  pub opened : (name : Name) → Contains next.watch.opened name ↔ (Contains h.watch.opened name ⊎
      ((Contains (opened_by h.watch.world m c) name × IsSome (node_of h.watch.snapshot name)) ⊎ IsHandedOut h m c name))
  pub old : (debt : Debt) → Contains h.watch.debts debt → Contains next.watch.debts debt
  pub new : (debt : Debt) → Contains next.watch.debts debt → Contains h.watch.debts debt ⊎
      ((debt.line ≡ line) × (debt.mutator ≡ m) × IsDueIn h m c debt.name × (Contains h.watch.remembered debt.name → ⊥))
  pub due : (name : Name) → IsDueIn h m c name → Contains h.watch.remembered name ⊎ OwesBy next.watch m name

-- the names in the mutator's registers
abbrev pub held_names : World → ℕ → List Name
held_names w m = flat_map name_in (state_of w m).registers

-- a scan of a mutator, at most once in a cycle: the names of the snapshot in its registers count as opened from then on
pub record IsScanned (h : Hybrid) (m : ℕ) (next : Hybrid) : Type 0 where
  pub mutator : m < length h.watch.world.mutators
  pub first : is_scanned h m ≡ false
  pub rest : next ≡ record { watch = record h.watch { opened = next.watch.opened }; scanned = slice_set h.scanned m true }
  pub opened : (name : Name) → Contains next.watch.opened name ↔ (Contains h.watch.opened name ⊎
      (Contains (held_names h.watch.world m) name × IsSome (node_of h.watch.snapshot name)))

-- the world after a mutator's value went into a register of a mutator, perhaps another
abbrev pub handed_over : World → ℕ → Operand → ℕ → ℕ → World
handed_over w m v n r = with_register w n r (value_for w m v)

-- a world can hand a mutator's value over: the mutator can show it, and the other mutator and its register exist
pub record CanHand (w : World) (m : ℕ) (v : Operand) (n r : ℕ) : Type 0 where
  pub shows : CanApply w m (Show v)
  pub taker : n < length w.mutators
  pub register : IsRegister r

-- a name of the snapshot, not g, that a mutator hands to another. The first isn't scanned yet, and no scan of the other is left
pub record IsHandedBy (h : Hybrid) (m : ℕ) (v : Operand) (n : ℕ) (target : Name) : Type 0 where
  pub unscanned : is_scanned h m ≡ false
  pub scanned : is_scanned h n ≡ true
  pub there : IsSome (node_of h.watch.snapshot target)
  pub own : target ≢ shared_name
  pub is : value_for h.watch.world m v ≡ value.Ref target

-- a value that is handed over at a line. A name that the mutator hands to a scanned mutator before its own scan is due, and
-- counts as opened
pub record IsHandedOver (h : Hybrid) (line m : ℕ) (v : Operand) (n r : ℕ) (next : Hybrid) : Type 0 where
  pub can : CanHand h.watch.world m v n r
  pub rest : next ≡ record h {
    watch = record h.watch { world = handed_over h.watch.world m v n r; debts = next.watch.debts; opened = next.watch.opened };
  }
  pub opened : (name : Name) → Contains next.watch.opened name ↔ (Contains h.watch.opened name ⊎ IsHandedBy h m v n name)
  pub old : (debt : Debt) → Contains h.watch.debts debt → Contains next.watch.debts debt
  pub new : (debt : Debt) → Contains next.watch.debts debt → Contains h.watch.debts debt ⊎
      ((debt.line ≡ line) × (debt.mutator ≡ m) × IsHandedBy h m v n debt.name × (Contains h.watch.remembered debt.name → ⊥))
  pub due : (name : Name) → IsHandedBy h m v n name → Contains h.watch.remembered name ⊎ OwesBy next.watch m name

-- the names that were opened or remembered, or are due
abbrev pub names_kept : Cycle → List Name
names_kept h = h.opened ++ (h.remembered ++ names_in h.debts)

-- a name that a scanned mutator may hold again: new since the snapshot, or live in it by the names opened, remembered or due
abbrev pub MayReturn : Hybrid → Name → Type 0
MayReturn h name = IsSome (node_of h.watch.snapshot name) → IsLive h.watch.snapshot (names_kept h.watch) name

-- a known value that is put back into a register, without a command. If the mutator is scanned, it may hold the value again
pub record IsPutBack (h : Hybrid) (m r : ℕ) (v : Value) (next : Hybrid) : Type 0 where
  pub mutator : m < length h.watch.world.mutators
  pub known : IsKnown h.watch.world v
  pub returns : is_scanned h m ≡ true → (name : Name) → v ≡ value.Ref name → MayReturn h name
  pub rest : next ≡ record h { watch = record h.watch { world = with_register h.watch.world m r v } }

-- a push, as in a cycle with one snapshot: it scans no mutator
pub record IsPushedIn (h : Hybrid) (name : Name) (next : Hybrid) : Type 0 where
  pub push : IsPushed h.watch name next.watch
  pub scanned : next.scanned ≡ h.scanned

-- a take, as in a cycle with one snapshot: it scans no mutator
pub record IsTookIn (h : Hybrid) (name : Name) (next : Hybrid) : Type 0 where
  pub took : IsTook h.watch name next.watch
  pub scanned : next.scanned ≡ h.scanned

-- a cycle that began with this world, after any commands, values handed over or put back, scans, pushes and takes. It began
-- with later roots, or with all mutators scanned at once
pub data WatchesIn (w : World) : Hybrid → Type 0 where
  begun : WatchesIn w (beginning w)
  begun_at_once : WatchesIn w (scanned_at_once w)
  given : (h next : Hybrid) (line m : ℕ) (c : Command) (answer : Reply) → WatchesIn w h → IsWatchedIn h line m c answer next → WatchesIn w next
  handed : (h next : Hybrid) (line m : ℕ) (v : Operand) (n r : ℕ) → WatchesIn w h → IsHandedOver h line m v n r next → WatchesIn w next
  put_back : (h next : Hybrid) (m r : ℕ) (v : Value) → WatchesIn w h → IsPutBack h m r v next → WatchesIn w next
  scanned : (h next : Hybrid) (m : ℕ) → WatchesIn w h → IsScanned h m next → WatchesIn w next
  pushed : (h next : Hybrid) (name : Name) → WatchesIn w h → IsPushedIn h name next → WatchesIn w next
  taken : (h next : Hybrid) (name : Name) → WatchesIn w h → IsTookIn h name next → WatchesIn w next

-- the marker's state when marking begins: g and the names in the queues are marked, and the world has its registers
abbrev pub opening_in : World → State
opening_in w = record (opening (bare w)) { world = w }

-- the state after a command that owes exactly these names, which count as opened from then on, pushed or not
abbrev pub after_owing_in : State → ℕ → Command → List Name → State
after_owing_in s m c names = record (after_command s m c) {
  owed = slice_set s.owed m (names_of s.owed m ++ names);
  opened = s.opened ++ (opened_by s.world m c ++ names);
}

-- the state after a value was handed over: these names are owed, and count as opened
abbrev pub after_handing : State → ℕ → Operand → ℕ → ℕ → List Name → State
after_handing s m v n r names = record s {
  world = handed_over s.world m v n r;
  owed = slice_set s.owed m (names_of s.owed m ++ names);
  opened = s.opened ++ names;
}

-- the state after a value was put back into a register: the marker isn't concerned
abbrev pub after_putting : State → ℕ → ℕ → Value → State
after_putting s m r v = record s { world = with_register s.world m r v }

-- the state after a scan: the names in the registers are pushed, and count as opened
abbrev pub after_scanning : State → ℕ → List Name → State
after_scanning s m names = record s { opened = s.opened ++ names; pushed = slice_set s.pushed m (names_of s.pushed m ++ names) }

-- such a cycle, and the state of a marker beside it, as `Beside`. A scan hands the names in the registers to the marker
pub data BesideIn (w : World) : Hybrid → State → Type 0 where
  start : BesideIn w (beginning w) (opening_in w)
  start_at_once : BesideIn w (scanned_at_once w) (opening w)
  command : (h next : Hybrid) (s : State) (line m : ℕ) (c : Command) (answer : Reply) → BesideIn w h s → IsWatchedIn h line m c answer next →
      BesideIn w next (after_owing_in s m c (names_in next.watch.debts))
  give : (h next : Hybrid) (s : State) (line m : ℕ) (v : Operand) (n r : ℕ) → BesideIn w h s → IsHandedOver h line m v n r next →
      BesideIn w next (after_handing s m v n r (names_in next.watch.debts))
  put : (h next : Hybrid) (s : State) (m r : ℕ) (v : Value) → BesideIn w h s → IsPutBack h m r v next → BesideIn w next (after_putting s m r v)
  hand : (h next : Hybrid) (s : State) (m : ℕ) → BesideIn w h s → IsScanned h m next → m < length s.pushed →
      BesideIn w next (after_scanning s m (held_names h.watch.world m))
  push : (h next : Hybrid) (s : State) (m : ℕ) (name : Name) → BesideIn w h s → IsPushedIn h name next → m < length s.pushed →
      BesideIn w next (after_pushing s m name next.watch.debts)
  take : (h next : Hybrid) (s : State) (name : Name) → BesideIn w h s → IsTookIn h name next → BesideIn w next s
  mark : (h : Hybrid) (s : State) (name : Name) → BesideIn w h s → MayHold s name → BesideIn w h (mark_name s name)
  scan : (h : Hybrid) (s : State) → BesideIn w h s → BesideIn w h (after_scan s s.queue)
  sort : (h : Hybrid) (s next : State) → BesideIn w h s → IsSorted s next → BesideIn w h next

-- the joint theorem with later roots: beside any commands, scans of mutators and pushes that leave no debts, each finished
-- marker ends exactly (`EndsExactly`). Opened names are here those that commands opened, unscanned mutators stored, and scans
-- read
abbrev pub HybridJointTheorem : Type 0
HybridJointTheorem = (w : World) → IsWorld w → (h : Hybrid) → WatchesIn w h → h.watch.debts ≡ [] → (s : State) → BesideIn w h s →
    HasFinished s → EndsExactly h.watch s

-- the theorem that a marker is possible beside any commands, scans and pushes
abbrev pub SomeMarkerIsBesideIn : Type 0
SomeMarkerIsBesideIn = (w : World) → IsWorld w → (h : Hybrid) → WatchesIn w h → (s : State) × BesideIn w h s

-- the theorem that a finished marker is possible beside any commands, scans and pushes, so the joint theorem isn't empty
abbrev pub SomeMarkerFinishesIn : Type 0
SomeMarkerFinishesIn = (w : World) → IsWorld w → (h : Hybrid) → WatchesIn w h → (s : State) × BesideIn w h s × HasFinished s

-- all mutators are scanned
abbrev pub AreScanned : Hybrid → Type 0
AreScanned h = (m : ℕ) → m < length h.watch.world.mutators → is_scanned h m ≡ true

-- the safety theorem, without any marker, for a cycle in which all mutators are scanned and nothing is due. Every name that
-- can be reached now and was there at the mark is live in the snapshot, given the names opened and remembered
abbrev pub HybridSafetyTheorem : Type 0
HybridSafetyTheorem = (w : World) → IsWorld w → (h : Hybrid) → WatchesIn w h → AreScanned h → h.watch.debts ≡ [] → (name : Name) →
    IsLive h.watch.world [] name → IsSome (node_of h.watch.snapshot name) → IsLive h.watch.snapshot (h.watch.opened ++ h.watch.remembered) name

-- the theorem that a cycle with one snapshot has its registers scanned at the mark. The world without registers, given the
-- names in all registers, keeps the same names as the world
abbrev pub ScansAtOnceAreRoots : Type 0
ScansAtOnceAreRoots = (w : World) → (held extra finalised : List Name) →
    ((name : Name) → IsSome (node_of w name) → Contains held name ↔ ((m : ℕ) × Contains (state_of w m).registers (value.Ref name))) →
    IsWorld w → (name : Name) → IsKept (bare w) (held ++ extra) finalised name ↔ IsKept w extra finalised name

-- the cycle with one snapshot, as a cycle with all mutators scanned
abbrev pub all_scanned : Cycle → Hybrid
all_scanned h = record { watch = h; scanned = replicate (length h.world.mutators) true }

-- the theorem that each cycle with one snapshot is a cycle with all mutators scanned at the mark, after the same commands,
-- pushes and takes. Each marker beside the first is a marker beside the second, perhaps with more names that count as opened
abbrev pub OneSnapshotIsScannedAtOnce : Type 0
OneSnapshotIsScannedAtOnce = (w : World) (h : Cycle) → (Watches w h → WatchesIn w (all_scanned h)) ×
    ((s : State) → Beside w h s → (opened : List Name) × BesideIn w (all_scanned h) (record s { opened = opened }))
