-- A cycle of a runtime whose registers aren't known. Its heap is objects and their fields, and its roots are known as they are
-- read. Due names depend on the fields, on the mutator that stores, and on whether its roots were read. Mutators are numbered
-- from 1 as they begin; 0 is the runtime itself, and its roots are read at the mark.
use Rattle.std.specs.Prelude.{◌≡◌, ◌≢◌, ◌≤◌, ◌+◌, ◌↔◌, ◌⊎◌, ℕ, List, [], ◌∷◌, ◌++◌, length, take, drop, Some, false, IsSome, Contains}
use Rattle.nmgc_world_spec.specs.{declared.value.Name.Name, declared.value.Value.Value, declared.command.Command.Command, declared.node.Node.TheVariants.Arr, World.World, World.state_of, World.node_of, World.next_name, World.with_node, World.with_state, World.shared_name, World.step, Known.IsWorld, Known.AreKnown, Reach.IsReached, Reach.opened_by, Reach.finalised_by}
use Rattle.nmgc_world_spec.specs.declared.value.Value.TheVariants as value
use Rattle.nmgc_world_laws.specs.Holds.{HasStrongField}
use Rattle.nmgc_barrier_laws.specs.{declared.debt.Debt.Debt, Due.IsBroken, Stored.IsStored, Hybrid.Hybrid, Hybrid.is_scanned, Hybrid.IsDueIn}

-- a cycle of fields: the heap now and at the mark, and the mutators whose roots are still to be read. It has four lists of
-- names of the snapshot: those read as roots, pushed, handed out, and stored by any mutator. And it has the debts
pub record FieldCycle : Type 0 where
  pub world : World
  pub snapshot : World
  pub unscanned : List ℕ
  pub roots : List Name
  pub remembered : List Name
  pub debts : List Debt
  pub opened : List Name
  pub stored : List Name

-- the cycle when marking begins: its heap is the snapshot, these mutators are there, and these roots are read
abbrev pub reading : World → List ℕ → List Name → FieldCycle
reading w mutators roots = record { world = w; snapshot = w; unscanned = mutators; roots = roots; remembered = []; debts = []; opened = []; stored = [] }

-- the collector has the name: it was read as a root, or pushed
abbrev pub IsPaid : FieldCycle → Name → Type 0
IsPaid h name = Contains h.roots name ⊎ Contains h.remembered name

-- the cycle has a debt of this name
abbrev pub OwesName : FieldCycle → Name → Type 0
OwesName h name = (debt : Debt) × Contains h.debts debt × (debt.name ≡ name)

-- a name of the snapshot that is stored when the heap changes into this world
pub record IsOldStored (h : FieldCycle) (after : World) (name : Name) : Type 0 where
  pub there : IsSome (node_of h.snapshot name)
  pub stored : IsStored h.world after name

-- a name of the snapshot that a mutator stores before its roots are read
pub record IsHandedBy (h : FieldCycle) (m : ℕ) (after : World) (name : Name) : Type 0 where
  pub unscanned : Contains h.unscanned m
  pub old : IsOldStored h after name

-- a name that a mutator makes due when the heap changes into this world. It is a name of the snapshot. Either a field of the
-- snapshot that was unchanged loses it, or the mutator stores it before its roots are read
pub record IsDueBy (h : FieldCycle) (m : ℕ) (after : World) (target : Name) : Type 0 where
  pub there : IsSome (node_of h.snapshot target)
  pub why : IsBroken h.snapshot h.world after target ⊎ IsHandedBy h m after target

-- the debts after a line of a mutator that makes these names due: each is paid, or is due since this line or an earlier line
pub record AreDebts (h : FieldCycle) (line m : ℕ) (Due : Name → Type 0) (debts : List Debt) : Type 0 where
  pub old : (debt : Debt) → Contains h.debts debt → Contains debts debt
  pub new : (debt : Debt) → Contains debts debt → Contains h.debts debt ⊎ ((debt.line ≡ line) × (debt.mutator ≡ m) × Due debt.name × (IsPaid h debt.name → ⊥))
  pub due : (name : Name) → Due name → IsPaid h name ⊎ ((debt : Debt) × Contains debts debt × (debt.name ≡ name) × (debt.mutator ≡ m))

-- the making of an object with these values in its fields: the heap with it, under the next name
pub record IsMade (w : World) (name : Name) (values : List Value) (after : World) : Type 0 where
  pub known : AreKnown w values
  pub name_is : name ≡ next_name (state_of w 0) 0
  pub after_is : after ≡ with_state w 0 (record (state_of w 0) { nodes = (state_of w 0).nodes ++ Arr values ∷ [] })

-- a store of these values into an object's fields, from this place on
pub record IsWritten (w : World) (name : Name) (place : ℕ) (values : List Value) (after : World) : Type 0 where
  pub known : AreKnown w values
  pub old : List Value
  pub node_is : node_of w name ≡ Some (Arr old)
  pub fits : place + length values ≤ length old
  pub after_is : after ≡ with_node w name (Arr (take place old ++ values ++ drop (place + length values) old))

-- a line by which a mutator changes the heap into this world. Names that it hands out count as opened, and stored names are
-- kept in mind
pub record IsChanged (h : FieldCycle) (line m : ℕ) (after : World) (next : FieldCycle) : Type 0 where
  pub rest : next ≡ record h { world = after; debts = next.debts; opened = next.opened; stored = next.stored }
  pub opened : (name : Name) → Contains next.opened name ↔ (Contains h.opened name ⊎ IsHandedBy h m after name)
  pub stored : (name : Name) → Contains next.stored name ↔ (Contains h.stored name ⊎ IsOldStored h after name)
  pub debts : AreDebts h line m (IsDueBy h m after) next.debts

-- a name of the snapshot is just this name
abbrev pub IsOldName : FieldCycle → Name → Name → Type 0
IsOldName h name other = (other ≡ name) × IsSome (node_of h.snapshot other)

-- a line by which a mutator hands out a name past all fields: to a mutator whose roots were read, or out of a weak pointer
pub record IsHanded (h : FieldCycle) (line m : ℕ) (name : Name) (next : FieldCycle) : Type 0 where
  pub there : IsSome (node_of h.world name)
  pub rest : next ≡ record h { debts = next.debts; opened = next.opened }
  pub opened : (other : Name) → Contains next.opened other ↔ (Contains h.opened other ⊎ IsOldName h name other)
  pub debts : AreDebts h line m (IsOldName h name) next.debts

-- the mutators without this mutator
abbrev pub AreWithout : List ℕ → ℕ → List ℕ → Type 0
AreWithout mutators m rest = (other : ℕ) → Contains rest other ↔ (Contains mutators other × (other ≢ m))

-- a line after which a mutator's roots are no more to be read: it ended
pub record IsGone (h : FieldCycle) (m : ℕ) (next : FieldCycle) : Type 0 where
  pub rest : next ≡ record h { unscanned = next.unscanned }
  pub unscanned : AreWithout h.unscanned m next.unscanned

-- the debts, except each debt with one of these names, which the collector now has
pub record ArePaid (names : List Name) (before after : List Debt) : Type 0 where
  pub kept : (debt : Debt) → Contains before debt → Contains after debt ⊎ Contains names debt.name
  pub left : (debt : Debt) → Contains after debt → Contains before debt × (Contains names debt.name → ⊥)

-- the names, together with these names if the snapshot has them
abbrev pub AreJoined : FieldCycle → List Name → List Name → List Name → Type 0
AreJoined h names before after = (name : Name) → Contains after name ↔ (Contains before name ⊎ (Contains names name × IsSome (node_of h.snapshot name)))

-- a scan of a mutator, at most once: these are its roots
pub record IsScannedAt (h : FieldCycle) (m : ℕ) (names : List Name) (next : FieldCycle) : Type 0 where
  pub first : Contains h.unscanned m
  pub there : (name : Name) → Contains names name → IsSome (node_of h.world name)
  pub rest : next ≡ record h { unscanned = next.unscanned; roots = next.roots; debts = next.debts }
  pub unscanned : AreWithout h.unscanned m next.unscanned
  pub roots : AreJoined h names h.roots next.roots
  pub debts : ArePaid names h.debts next.debts

-- a push of a name
pub record IsPushedAt (h : FieldCycle) (name : Name) (next : FieldCycle) : Type 0 where
  pub there : IsSome (node_of h.world name)
  pub rest : next ≡ record h { remembered = next.remembered; debts = next.debts }
  pub remembered : AreJoined h (name ∷ []) h.remembered next.remembered
  pub debts : ArePaid (name ∷ []) h.debts next.debts

-- a line of a trace without registers, and the names that it hands to the marker
pub data IsLine (h next : FieldCycle) : List Name → Type 0 where
  changed : (line m : ℕ) (after : World) → IsChanged h line m after next → IsLine h next []
  handed : (line m : ℕ) (name : Name) → IsHanded h line m name next → IsLine h next []
  gone : (m : ℕ) → IsGone h m next → IsLine h next []
  scanned : (m : ℕ) (names : List Name) → IsScannedAt h m names next → IsLine h next names
  pushed : (name : Name) → IsPushedAt h name next → IsLine h next (name ∷ [])

-- a cycle that began with this heap, these mutators and these roots, after any lines
pub data WatchesFields (w : World) (mutators : List ℕ) (roots : List Name) : FieldCycle → Type 0 where
  begun : WatchesFields w mutators roots (reading w mutators roots)
  followed : (h next : FieldCycle) (names : List Name) → WatchesFields w mutators roots h → IsLine h next names → WatchesFields w mutators roots next

-- a place in an object: one of its fields
pub record FieldPlace : Type 0 where
  pub name : Name
  pub at : ℕ

-- the place with this name and number
abbrev pub read_place : Name → ℕ → FieldPlace
read_place name at = record { name = name; at = at }

-- a marker that isn't seen: the names that it marked, those that came to it to be marked, and the places that it read
pub record FieldMarker : Type 0 where
  pub marked : List Name
  pub waiting : List Name
  pub read : List FieldPlace

-- the marker after these names came to it
abbrev pub waiting_too : FieldMarker → List Name → FieldMarker
waiting_too s names = record s { waiting = names ++ s.waiting }

-- a cycle, and the state of a marker beside it. A line hands it names. Unseen, it marks a waiting name, or reads a single
-- place of a marked object, in the heap as it is. A name that it finds there waits from then on
pub data BesideFields (w : World) (mutators : List ℕ) (roots : List Name) : FieldCycle → FieldMarker → Type 0 where
  start : BesideFields w mutators roots (reading w mutators roots) (record { marked = []; waiting = roots; read = [] })
  line : (h next : FieldCycle) (s : FieldMarker) (names : List Name) → BesideFields w mutators roots h s → IsLine h next names →
      BesideFields w mutators roots next (waiting_too s names)
  mark : (h : FieldCycle) (s : FieldMarker) (name : Name) → BesideFields w mutators roots h s → Contains s.waiting name → IsSome (node_of h.snapshot name) →
      BesideFields w mutators roots h (record s { marked = name ∷ s.marked })
  read : (h : FieldCycle) (s : FieldMarker) (name : Name) (at : ℕ) (found : List Name) → BesideFields w mutators roots h s → Contains s.marked name →
      ((target : Name) → Contains found target ↔ HasStrongField h.world name at (value.Ref target)) →
      BesideFields w mutators roots h (record s { waiting = found ++ s.waiting; read = read_place name at ∷ s.read })

-- a marker that is done: it marked each name of the snapshot that came to it, and read each place that held a reference then
pub record HasReadAll (h : FieldCycle) (s : FieldMarker) : Type 0 where
  pub marked : (name : Name) → Contains s.waiting name → IsSome (node_of h.snapshot name) → Contains s.marked name
  pub read : (name target : Name) (at : ℕ) → Contains s.marked name → HasStrongField h.snapshot name at (value.Ref target) →
      Contains s.read (read_place name at)

-- a name of the snapshot that was read as a root, pushed or handed out
abbrev pub IsReported : FieldCycle → Name → Type 0
IsReported h name = IsSome (node_of h.snapshot name) × (IsPaid h name ⊎ Contains h.opened name)

-- a name that the cycle keeps: the fields of the snapshot lead to it from names that were reported
abbrev pub KeepsName : FieldCycle → Name → Type 0
KeepsName h = IsReached h.snapshot (IsReported h)

-- a name of the snapshot that was read as a root, or handed out
abbrev pub IsRootOrOpened : FieldCycle → Name → Type 0
IsRootOrOpened h name = IsSome (node_of h.snapshot name) × (Contains h.roots name ⊎ Contains h.opened name)

-- a name that no collector may free: the fields of the snapshot lead to it from roots and names that were handed out
abbrev pub NeedsName : FieldCycle → Name → Type 0
NeedsName h = IsReached h.snapshot (IsRootOrOpened h)

-- an end that can happen: nothing is due, all roots were read, and each name that was stored is kept
pub record IsFieldEnd (h : FieldCycle) : Type 0 where
  pub debts : h.debts ≡ []
  pub scanned : h.unscanned ≡ []
  pub held : (name : Name) → Contains h.stored name → KeepsName h name

-- the joint theorem without registers: at an end that can happen, each marker that is done has marked exactly the kept names
abbrev pub FieldTheorem : Type 0
FieldTheorem = (w : World) → IsWorld w → (mutators : List ℕ) (roots : List Name) (h : FieldCycle) (s : FieldMarker) →
    BesideFields w mutators roots h s → IsFieldEnd h → HasReadAll h s → (name : Name) → Contains s.marked name ↔ KeepsName h name

-- the safety theorem without registers. Say mutators hold only names that the cycle keeps, or that were made since the mark.
-- Then every name of the snapshot that they can reach at an end is kept
abbrev pub FieldSafetyTheorem : Type 0
FieldSafetyTheorem = (w : World) → IsWorld w → (mutators : List ℕ) (roots : List Name) (h : FieldCycle) → WatchesFields w mutators roots h → IsFieldEnd h →
    (held : List Name) → ((name : Name) → Contains held name → IsSome (node_of h.snapshot name) → KeepsName h name) →
    (name : Name) → IsReached h.world (λ (root : Name). Contains held root) name → IsSome (node_of h.snapshot name) → KeepsName h name

-- the cycle of fields that is seen of a cycle with later roots, if its registers aren't known
abbrev pub seen : Hybrid → List ℕ → FieldCycle
seen h unscanned = record {
  world = h.watch.world;
  snapshot = h.watch.snapshot;
  unscanned = unscanned;
  roots = [];
  remembered = h.watch.remembered;
  debts = h.watch.debts;
  opened = h.watch.opened;
  stored = [];
}

-- the theorem that this rule is the rule of cycles with later roots. A command that opens and finalises no weak pointer makes the
-- same names due, g apart, whether or not registers are known
abbrev pub CommandsAreChanges : Type 0
CommandsAreChanges = (h : Hybrid) (m : ℕ) (c : Command) (unscanned : List ℕ) → (Contains unscanned m ↔ (is_scanned h m ≡ false)) →
    opened_by h.watch.world m c ≡ [] → finalised_by h.watch.world m c ≡ [] → (target : Name) → target ≢ shared_name →
    IsDueIn h m c target ↔ IsDueBy (seen h unscanned) m (step h.watch.world m c).0 target
