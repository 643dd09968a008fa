-- The objects that a runtime reports after a cycle, compared with the result of the cycle.
use Rattle.std.specs.Prelude.{Bool, ◌≡◌, ◌<◌, ◌≤◌, ◌+◌, ◌↔◌, ◌⊎◌, ◌++◌, ◌∷◌, ℕ, List, Option, Some, None, Contains, true, false}
use Rattle.nmgc_field_checker.specs.{declared.event.FieldWhy.FieldWhy, Heaps.Has, Sets.Joins, Sets.Objects, Sets.no_objects}
use Rattle.nmgc_world_spec.specs.World.{World}
use Rattle.nmgc_field_checker.specs.declared.event.FieldWhy.TheVariants as why

-- the result of a cycle: the heap, the objects that the cycle kept, the objects that it needs, and the objects that were freed
-- since. The first new object has the number of objects of the snapshot. A flag says whether a report of freed objects was taken
pub record Left : Type 0 where
  pub heap : World
  pub kept : Objects
  pub needed : Objects
  pub gone : Objects
  pub first_new : ℕ
  pub has_freed : Bool

-- the result before anything was freed
abbrev pub left_of : World → Objects → Objects → ℕ → Left
left_of heap kept needed first_new = record { heap = heap; kept = kept; needed = needed; gone = no_objects first_new; first_new = first_new; has_freed = false }

-- a result whose heap changes as said
pub record IsChangedHeap (Change : World → World → Type 0) (before after : Left) : Type 0 where
  pub change : Change before.heap after.heap
  pub rest : after ≡ record before { heap = after.heap }

-- an item of a list has this property, and none before it has
pub record StandsFirst (items : List ℕ) (P : ℕ → Type 0) (item : ℕ) : Type 0 where
  pub before : List ℕ
  pub later : List ℕ
  pub items_are : items ≡ before ++ item ∷ later
  pub has : P item
  pub none : (other : ℕ) → Contains before other → P other → ⊥

-- the first item with this property, or none if no item has it
abbrev pub IsFirstIf : List ℕ → (ℕ → Type 0) → Option ℕ → Type 0
IsFirstIf items P None = (item : ℕ) → Contains items item → P item → ⊥
IsFirstIf items P (Some item) = StandsFirst items P item

-- the least number with this property
abbrev pub IsLeastOf : (ℕ → Type 0) → ℕ → Type 0
IsLeastOf P n = P n × ((other : ℕ) → P other → n ≤ other)

-- the least number with this property, or none if no number has it
abbrev pub IsLeastIf : (ℕ → Type 0) → Option ℕ → Type 0
IsLeastIf P None = (n : ℕ) → P n → ⊥
IsLeastIf P (Some n) = IsLeastOf P n

-- the outcome of a comparison: the report holds, or there is a reason against it
abbrev pub IsReportIf : Type 0 → (FieldWhy → Type 0) → Option FieldWhy → Type 0
IsReportIf Report Why None = Report
IsReportIf Report Why (Some y) = Why y

-- an object that was kept and isn't reported
abbrev pub IsLeftOut : Left → List ℕ → ℕ → Type 0
IsLeftOut left objects object = Contains left.kept.items object × (Contains objects object → ⊥)

-- a report that the runtime marked exactly these objects, before it freed any
pub record IsMarked (left : Left) (objects : List ℕ) : Type 0 where
  pub before : left.has_freed ≡ false
  pub kept : (object : ℕ) → Contains objects object ↔ Contains left.kept.items object

-- the reasons against such a report. An object was freed before; or a kept object isn't reported, the first that was made;
-- or a reported object isn't kept
abbrev pub WhyMarked : Left → List ℕ → FieldWhy → Type 0
WhyMarked left objects why.Misplaced = left.has_freed ≡ true
WhyMarked left objects (why.NotListed object) = IsLeastOf (IsLeftOut left objects) object
WhyMarked left objects (why.NotMarked object) = StandsFirst objects (λ other. Contains left.kept.items other → ⊥) object
WhyMarked left objects y = ⊥

-- an object of the snapshot that the cycle doesn't keep
abbrev pub IsNotKept : Left → ℕ → Type 0
IsNotKept left object = (object < left.first_new) × (Contains left.kept.items object → ⊥)

-- a report that the runtime marked exactly these objects, those made since the cycle began left out
pub record IsBlack (left : Left) (objects : List ℕ) : Type 0 where
  pub before : left.has_freed ≡ false
  pub there : (object : ℕ) → Contains objects object → Has left.heap object
  pub kept : (object : ℕ) → Contains left.kept.items object → Contains objects object
  pub old : (object : ℕ) → Contains objects object → object < left.first_new → Contains left.kept.items object

-- the reasons against such a report
abbrev pub WhyBlack : Left → List ℕ → FieldWhy → Type 0
WhyBlack left objects why.Misplaced = left.has_freed ≡ true
WhyBlack left objects (why.NoObject object) = StandsFirst objects (λ other. Has left.heap other → ⊥) object
WhyBlack left objects (why.NotListed object) = IsLeastOf (IsLeftOut left objects) object
WhyBlack left objects (why.NotMarked object) = StandsFirst objects (IsNotKept left) object
WhyBlack left objects y = ⊥

-- an object that may be freed: one of the snapshot, and not needed
pub record MayGo (left : Left) (object : ℕ) : Type 0 where
  pub there : Has left.heap object
  pub old : object < left.first_new
  pub free : Contains left.needed.items object → ⊥

-- all of these objects may be freed
abbrev pub MayAllGo : Left → List ℕ → Type 0
MayAllGo left objects = (object : ℕ) → Contains objects object → MayGo left object

-- the result after these objects were freed
pub record IsFreed (left : Left) (objects : List ℕ) (next : Left) : Type 0 where
  pub may : MayAllGo left objects
  pub rest : next ≡ record left { gone = next.gone; has_freed = true }
  pub gone : Joins left.gone objects next.gone

-- why an object can't be freed
abbrev pub WhyNotGo : Left → ℕ → FieldWhy → Type 0
WhyNotGo left object (why.NoObject other) = (other ≡ object) × (Has left.heap object → ⊥)
WhyNotGo left object (why.NotOld other) = (other ≡ object) × Has left.heap object × (left.first_new ≤ object)
WhyNotGo left object (why.Needed other) = (other ≡ object) × Contains left.needed.items object
WhyNotGo left object y = ⊥

-- the reason why objects can't be freed: why the first that may not go can't
abbrev pub WhyFreed : Left → List ℕ → FieldWhy → Type 0
WhyFreed left objects y = (object : ℕ) × StandsFirst objects (λ other. MayGo left other → ⊥) object × WhyNotGo left object y

-- the outcome of a report of freed objects: they are freed, or there is a reason, and nothing changed
abbrev pub IsFreedIf : Left → List ℕ → Option FieldWhy → Left → Type 0
IsFreedIf left objects None next = IsFreed left objects next
IsFreedIf left objects (Some y) next = (next ≡ left) × WhyFreed left objects y
