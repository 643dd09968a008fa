-- A cycle as it is watched, and its end.
use Rattle.std.specs.Prelude.{◌≡◌, ◌≢◌, ◌<◌, ◌≤◌, ◌+◌, ◌-◌, ◌^◌, ◌↔◌, ◌⊎◌, ℕ, List, [], length, map, min, Result, Ok, Err, Option, Some, None, Contains, false}
use Rattle.nmgc_world_spec.specs.{declared.value.Name.Name, World.World, World.serial_of}
use Rattle.nmgc_barrier_laws.specs.{declared.debt.Debt.Debt, FieldCycle.AreDebts, FieldCycle.FieldCycle, FieldCycle.IsChanged, FieldCycle.IsFieldEnd, FieldCycle.IsHanded, FieldCycle.IsScannedAt, FieldCycle.KeepsName, FieldCycle.NeedsName, FieldCycle.reading}
use Rattle.nmgc_field_checker.specs.{declared.event.Actor.Actor, declared.event.FieldDebt.FieldDebt, declared.event.FieldStore.FieldStore, declared.event.FieldWhy.FieldWhy, Fields.AreBroken, Fields.AreStored, Heaps.named, Heaps.Has, Heaps.IsNamed, Reports.Left, Sets.AreSame, Sets.Objects, Stores.AreAccounts, Stores.IsHad, Stores.Stored, Stores.unpaid, declared.accounts.Accounts.Accounts}
use Rattle.nmgc_field_checker.specs.declared.event.FieldWhy.TheVariants as why

-- a cycle that goes on, by the rule for fields, and the stored names with the line of each
pub record Running : Type 0 where
  pub cycle : FieldCycle
  pub stores : List FieldStore

-- a debt, as the rule names it
abbrev pub debt_of : FieldDebt → Debt
debt_of d = record { name = named d.object; line = d.line; mutator = d.number }

-- the actor with this number
abbrev pub actor : ℕ → Actor
actor number = record { number = number }

-- the invariant of a cycle. Each set has a bound for the objects of the snapshot, and the accounts hold for paid objects
pub record IsCycle (snapshot : World) (roots remembered : Objects) (accounts : Accounts) (opened : Objects) (stores : Stored) : Type 0 where
  pub roots_bound : roots.bound ≡ serial_of snapshot 0
  pub remembered_bound : remembered.bound ≡ serial_of snapshot 0
  pub opened_bound : opened.bound ≡ serial_of snapshot 0
  pub stores_bound : stores.bound ≡ serial_of snapshot 0
  pub accounts_are : AreAccounts (IsHad roots.items remembered.items) (serial_of snapshot 0) accounts

-- the name of a stored object
abbrev pub stored_name : FieldStore → Name
stored_name s = named s.object

-- a cycle, by its kept parts: its debts are the debts of objects that the collector doesn't have
abbrev pub running_of : World → World → List ℕ → Objects → Objects → Accounts → Objects → Stored → Running
running_of world snapshot unscanned roots remembered accounts opened stores = record {
  cycle = record {
    world = world;
    snapshot = snapshot;
    unscanned = unscanned;
    roots = map named roots.items;
    remembered = map named remembered.items;
    debts = map debt_of (unpaid roots.items remembered.items accounts.debts.items);
    opened = map named opened.items;
    stored = map stored_name stores.items;
  };
  stores = stores.items;
}

-- the cycle with another heap
abbrev pub with_heap : Running → World → Running
with_heap p world = record p { cycle = record (p.cycle) { world = world } }

-- a cycle that begins with this heap, these mutators and these roots
pub record Begins (heap : World) (there roots : List ℕ) (p : Running) : Type 0 where
  pub mutators : List ℕ
  pub mutators_are : AreSame there mutators
  pub names : List Name
  pub names_are : (name : Name) → Contains names name ↔ IsNamed roots name
  pub is : p ≡ record { cycle = reading heap mutators names; stores = [] }

-- the stores of a cycle after a line. Each new store has this line
pub record KeepsStores (line : ℕ) (before after : Running) : Type 0 where
  pub old : (s : FieldStore) → Contains before.stores s → Contains after.stores s
  pub new : (s : FieldStore) → Contains after.stores s → Contains before.stores s ⊎ (s.line ≡ line)

-- objects of the snapshot
abbrev pub AreOld : FieldCycle → List ℕ → Type 0
AreOld h objects = (object : ℕ) → Contains objects object → Has h.snapshot object

-- the stored objects that an actor hands out: all, if its roots are still to be read, and otherwise none
abbrev pub AreHanded : FieldCycle → ℕ → List ℕ → List ℕ → Type 0
AreHanded h m stored handed = (Contains h.unscanned m × (handed ≡ stored)) ⊎ ((Contains h.unscanned m → ⊥) × (handed ≡ []))

-- a name of an object that fields lost, or that an actor handed out
abbrev pub IsNotedDue : List ℕ → List ℕ → Name → Type 0
IsNotedDue broken handed name = IsNamed broken name ⊎ IsNamed handed name

-- the objects of a line are noted, and its heap stays: those that fields lost, those that the actor hands out, and those that
-- it stores
pub record IsNoted (line m : ℕ) (broken handed stored : List ℕ) (before after : Running) : Type 0 where
  pub rest : after.cycle ≡ record (before.cycle) { debts = after.cycle.debts; opened = after.cycle.opened; stored = after.cycle.stored }
  pub opened : (name : Name) → Contains after.cycle.opened name ↔ (Contains before.cycle.opened name ⊎ IsNamed handed name)
  pub stored_are : (name : Name) → Contains after.cycle.stored name ↔ (Contains before.cycle.stored name ⊎ IsNamed stored name)
  pub debts : AreDebts before.cycle line m (IsNotedDue broken handed) after.cycle.debts
  pub stores : KeepsStores line before after

-- a line of an actor that changes the heap as said, in a cycle
pub record IsChange (line m : ℕ) (Change : World → World → Type 0) (before after : Running) : Type 0 where
  pub change : Change before.cycle.world after.cycle.world
  pub changed : IsChanged before.cycle line m after.cycle.world after.cycle
  pub stores : KeepsStores line before after

-- a line of a cycle that leaves the stores as they are
pub record IsQuiet (Line : FieldCycle → FieldCycle → Type 0) (before after : Running) : Type 0 where
  pub line : Line before.cycle after.cycle
  pub stores : after.stores ≡ before.stores

-- a line by which an actor hands out an object, if the snapshot has it
abbrev pub IsOpening : ℕ → ℕ → ℕ → FieldCycle → FieldCycle → Type 0
IsOpening line m object h next = IsHanded h line m (named object) next

-- a line by which a mutator gives an object to a mutator past all fields. It hands the object out if only the taker's roots
-- were read, and otherwise changes nothing
pub data IsGiving (line m object k : ℕ) (h next : FieldCycle) : Type 0 where
  late : Contains h.unscanned m → (Contains h.unscanned k → ⊥) → IsHanded h line m (named object) next → IsGiving line m object k h next
  early : ((Contains h.unscanned m → ⊥) ⊎ Contains h.unscanned k) → next ≡ h → IsGiving line m object k h next

-- the count after this number was added; it stops at 2^64 - 1
abbrev pub IsRaised : ℕ → ℕ → ℕ → Type 0
IsRaised number before after = after ≡ min (before + number) (2 ^ 64 - 1)

-- the count of dues after a store: once for each field that loses an object, and for each that gets one from a mutator whose
-- roots weren't read
pub record CountsStore (h : FieldCycle) (m object place : ℕ) (fields : List (Option ℕ)) (before after : ℕ) : Type 0 where
  pub broken : List ℕ
  pub stored : List ℕ
  pub handed : List ℕ
  pub are_broken : AreBroken h.snapshot h.world object place fields broken
  pub are_stored : AreStored h.snapshot h.world object place fields stored
  pub handed_are : AreHanded h m stored handed
  pub count : IsRaised (length broken + length handed) before after

-- the count of dues after an object of a heap was handed out: once, if the snapshot has the object
abbrev pub CountsObject : FieldCycle → ℕ → ℕ → ℕ → Type 0
CountsObject h object before after = (Has h.snapshot object × IsRaised 1 before after) ⊎ ((Has h.snapshot object → ⊥) × (after ≡ before))

-- the count of dues after an object was given to a mutator
abbrev pub CountsGiving : FieldCycle → ℕ → ℕ → ℕ → ℕ → ℕ → Type 0
CountsGiving h m object k before after = (Contains h.unscanned m × (Contains h.unscanned k → ⊥) × CountsObject h object before after) ⊎
    (((Contains h.unscanned m → ⊥) ⊎ Contains h.unscanned k) × (after ≡ before))

-- the outcome of a scan: it happened, or the mutator's roots aren't to be read now, and nothing changed
abbrev pub IsScanIf : ℕ → List ℕ → Running → Option FieldWhy → Running → Type 0
IsScanIf m roots p None next = IsQuiet (λ h after. IsScannedAt h m (map named roots) after) p next
IsScanIf m roots p (Some y) next = (next ≡ p) × (y ≡ why.Misplaced) × (Contains p.cycle.unscanned m → ⊥)

-- a debt of an actor that no other debt of this actor is older than, or none if it has none
abbrev pub IsOwnOldest : FieldCycle → ℕ → Option FieldDebt → Type 0
IsOwnOldest h m None = (debt : Debt) → Contains h.debts debt → debt.mutator ≢ m
IsOwnOldest h m (Some d) = Contains h.debts (debt_of d) × (d.number ≡ m) × ((other : Debt) → Contains h.debts other → other.mutator ≡ m → d.line ≤ other.line)

-- the result of a close. It has the heap, the objects that the cycle keeps and that it needs, and the number of objects of its
-- snapshot. Nothing is freed yet
pub record IsLeft (h : FieldCycle) (left : Left) : Type 0 where
  pub heap : left.heap ≡ h.world
  pub kept : (object : ℕ) → Contains left.kept.items object ↔ KeepsName h (named object)
  pub needed : (object : ℕ) → Contains left.needed.items object ↔ NeedsName h (named object)
  pub gone : left.gone.items ≡ []
  pub bound : left.gone.bound ≡ left.first_new
  pub first_new : left.first_new ≡ serial_of h.snapshot 0
  pub freed : left.has_freed ≡ false

-- a reason against the end of a cycle: the first mutator whose roots weren't read
abbrev pub IsUnscanned : FieldCycle → FieldWhy → Type 0
IsUnscanned h y = (m : ℕ) × (y ≡ why.Unscanned (actor m)) × Contains h.unscanned m × ((other : ℕ) → Contains h.unscanned other → m ≤ other)

-- a debt of the cycle that no other debt is older than
abbrev pub IsOldest : FieldCycle → FieldDebt → Type 0
IsOldest h d = Contains h.debts (debt_of d) × ((other : Debt) → Contains h.debts other → d.line ≤ other.line)

-- the oldest debt of a cycle, or none if it has none
abbrev pub IsOldestIf : FieldCycle → Option FieldDebt → Type 0
IsOldestIf h None = h.debts ≡ []
IsOldestIf h (Some d) = IsOldest h d

-- a reason against the end of a cycle: its oldest debt
abbrev pub IsOwed : FieldCycle → FieldWhy → Type 0
IsOwed h y = (d : FieldDebt) × (y ≡ why.Due d) × IsOldest h d

-- a store of the cycle whose object the cycle doesn't keep, and no such store has an earlier line
pub record IsLost (p : Running) (s : FieldStore) : Type 0 where
  pub stored : Contains p.stores s
  pub listed : Contains p.cycle.stored (named s.object)
  pub lost : KeepsName p.cycle (named s.object) → ⊥
  pub first : (other : FieldStore) → Contains p.stores other → (KeepsName p.cycle (named other.object) → ⊥) → s.line ≤ other.line

-- a store of the cycle whose object isn't kept, with no earlier line, or none if each stored name is kept
abbrev pub IsLostIf : Running → Option FieldStore → Type 0
IsLostIf p None = (name : Name) → Contains p.cycle.stored name → KeepsName p.cycle name
IsLostIf p (Some s) = IsLost p s

-- a reason against the end of a cycle: an object that is stored and not kept, with the first line that stored it
abbrev pub IsUnkept : Running → FieldWhy → Type 0
IsUnkept p y = (s : FieldStore) × (y ≡ why.Unkept s) × IsLost p s

-- the reasons why a cycle can't end, in this order: a mutator wasn't scanned, an object is due, or a stored object isn't kept
abbrev pub IsAgainst : Running → FieldWhy → Type 0
IsAgainst p y = IsUnscanned p.cycle y ⊎ ((p.cycle.unscanned ≡ []) × IsOwed p.cycle y) ⊎
    ((p.cycle.unscanned ≡ []) × (p.cycle.debts ≡ []) × IsUnkept p y)

-- the outcome of a request to end a cycle: the result of the close, or a reason against it
abbrev pub IsEnding : Running → Result Left FieldWhy → Type 0
IsEnding p (Ok left) = IsFieldEnd p.cycle × IsLeft p.cycle left
IsEnding p (Err y) = IsAgainst p y
