-- The objects of a snapshot that lines stored, each with a line, and the debts of a cycle.
use Rattle.std.specs.Prelude.{◌≡◌, ◌<◌, ◌≤◌, ◌↔◌, ◌⊎◌, ◌++◌, ◌∷◌, ℕ, List, [], length, map, filter, Option, Some, None, Bool, not, ◌||◌, slice_index_or, slice_set, Contains}
use Rattle.nmgc_field_checker.specs.{declared.accounts.Accounts.Accounts, declared.event.FieldDebt.FieldDebt, declared.event.FieldStore.FieldStore, Heaps.has_number}

-- stores, and the bound below which the numbers of their objects are
pub record Stored : Type 0 where
  pub items : List FieldStore
  pub bound : ℕ

-- the object of a store
abbrev pub object_of : FieldStore → ℕ
object_of s = s.object

-- no stores
abbrev pub no_stores : ℕ → Stored
no_stores bound = record { items = []; bound = bound }

-- the item of the lesser line among an item and, if there is one, another
abbrev pub IsEarlier : {X : Type 0} → (X → ℕ) → X → Option X → X → Type 0
IsEarlier line x None result = result ≡ x
IsEarlier line x (Some other) result = ((result ≡ x) × (line x ≤ line other)) ⊎ ((result ≡ other) × (line other ≤ line x))

-- the stores after a line stored objects: the old stores, and a new store for each object that no old store has
pub record AddsStores (line : ℕ) (objects : List ℕ) (before after : Stored) : Type 0 where
  pub bound : after.bound ≡ before.bound
  pub old : (s : FieldStore) → Contains before.items s → Contains after.items s
  pub new : (s : FieldStore) → Contains after.items s → Contains before.items s ⊎ (s.line ≡ line)
  pub objects_are : (other : ℕ) → Contains (map object_of after.items) other ↔ (Contains (map object_of before.items) other ⊎ Contains objects other)

-- an item with this property, with a line that isn't greater than the line of any other such item; none if there is none
abbrev pub IsEarliestIf : {X : Type 0} → (X → ℕ) → (X → Type 0) → Option X → Type 0
IsEarliestIf {X = X} line P None = (x : X) → P x → ⊥
IsEarliestIf {X = X} line P (Some x) = P x × ((other : X) → P other → line x ≤ line other)

-- a store whose object isn't among these objects
abbrev pub IsOutside : List FieldStore → List ℕ → FieldStore → Type 0
IsOutside stores kept s = Contains stores s × (Contains kept s.object → ⊥)

-- the line of a store, and of a debt
abbrev pub store_line : FieldStore → ℕ
store_line s = s.line

abbrev pub debt_line : FieldDebt → ℕ
debt_line d = d.line

-- a debt of an actor
abbrev pub IsOwnDebt : List FieldDebt → ℕ → FieldDebt → Type 0
IsOwnDebt debts number d = Contains debts d × (d.number ≡ number)

-- whether a debt is unpaid: its object is in neither of two lists
abbrev pub is_unpaid : List ℕ → List ℕ → FieldDebt → Bool
is_unpaid roots remembered d = not (has_number roots d.object || has_number remembered d.object)

-- the unpaid debts
abbrev pub unpaid : List ℕ → List ℕ → List FieldDebt → List FieldDebt
unpaid roots remembered debts = filter (is_unpaid roots remembered) debts

-- a debt of these accounts that an actor has for an object
abbrev pub OwesObject : Accounts → ℕ → ℕ → Type 0
OwesObject a object number = (d : FieldDebt) × Contains a.debts.items d × (d.object ≡ object) × (d.number ≡ number)

-- the invariant of accounts. Debts are of objects below a bound. If an actor owes an object since the latest line that made it
-- due, there is such a debt, or the object has the property of paid objects
pub record AreAccounts (IsPaid : ℕ → Type 0) (bound : ℕ) (a : Accounts) : Type 0 where
  pub count : length a.latest ≡ bound
  pub below : (d : FieldDebt) → Contains a.debts.items d → d.object < bound
  pub owes : (object number : ℕ) → slice_index_or a.latest object None ≡ Some number → IsPaid object ⊎ OwesObject a object number

-- the same debts and actors
pub record IsSameAccounts (before after : Accounts) : Type 0 where
  pub debts : after.debts.items ≡ before.debts.items
  pub latest : after.latest ≡ before.latest

-- an actor owes an object since the latest line that made it due
abbrev pub OwesLatest : Accounts → FieldDebt → Type 0
OwesLatest a d = slice_index_or a.latest d.object None ≡ Some d.number

-- the accounts after a debt was added, or the same, if its actor owes the object already since the latest line
pub data AddsDebt (d : FieldDebt) (before after : Accounts) : Type 0 where
  owed : OwesLatest before d → IsSameAccounts before after → AddsDebt d before after
  added : after.debts.items ≡ before.debts.items ++ d ∷ [] → after.latest ≡ slice_set before.latest d.object (Some d.number) → AddsDebt d before after

-- an object that the collector has: one of the roots, or a remembered one
abbrev pub IsHad : List ℕ → List ℕ → ℕ → Type 0
IsHad roots remembered object = Contains roots object ⊎ Contains remembered object

-- a debt of a line, for one of these objects that the collector doesn't have
pub record IsNewDebt (IsPaid : ℕ → Type 0) (line number : ℕ) (objects : List ℕ) (d : FieldDebt) : Type 0 where
  pub line_is : d.line ≡ line
  pub number_is : d.number ≡ number
  pub among : Contains objects d.object
  pub not_paid : IsPaid d.object → ⊥

-- the accounts after a line of an actor made these objects due
pub record OwesAll (IsPaid : ℕ → Type 0) (line number : ℕ) (objects : List ℕ) (before after : Accounts) : Type 0 where
  pub are : AreAccounts IsPaid (length before.latest) after
  pub old : (d : FieldDebt) → Contains before.debts.items d → Contains after.debts.items d
  pub new : (d : FieldDebt) → Contains after.debts.items d → Contains before.debts.items d ⊎ IsNewDebt IsPaid line number objects d
  pub due : (object : ℕ) → Contains objects object → IsPaid object ⊎ OwesObject after object number
