-- The objects of the snapshot that a store removes from fields, and those that it puts into fields.
use Rattle.std.specs.Prelude.{◌≡◌, ◌≢◌, ◌+◌, ◌<◌, ℕ, List, Option, Some, slice_get, length}
use Rattle.nmgc_world_spec.specs.{declared.value.Name.Name, World.World}
use Rattle.nmgc_world_laws.specs.Holds.{HasStrongField}
use Rattle.nmgc_world_spec.specs.declared.value.Value.TheVariants as value
use Rattle.nmgc_barrier_laws.specs.Stored.{IsStored}
use Rattle.nmgc_field_checker.specs.Heaps.{named, Has}

-- a field of a heap refers to this object
abbrev pub Refers : World → ℕ → ℕ → ℕ → Type 0
Refers w object place target = HasStrongField w (named object) place (value.Ref (named target))

-- the store puts another value than this object of the snapshot at a position into a field that refers to the object, now and in
-- the snapshot
pub record IsBrokenAt (snapshot w : World) (object place : ℕ) (fields : List (Option ℕ)) (at target : ℕ) : Type 0 where
  pub new : Option ℕ
  pub new_is : slice_get fields at ≡ Some new
  pub other : new ≢ Some target
  pub there : Has snapshot target
  pub stood : Refers w object (place + at) target
  pub then : Refers snapshot object (place + at) target

-- the store puts this object of the snapshot at a position into a field that doesn't refer to it
pub record IsStoredAt (snapshot w : World) (object place : ℕ) (fields : List (Option ℕ)) (at target : ℕ) : Type 0 where
  pub new_is : slice_get fields at ≡ Some (Some target)
  pub there : Has snapshot target
  pub other : Refers w object (place + at) target → ⊥

-- positions that ascend, and the objects at them: exactly the positions and objects with this relation
pub record AreAt (P : ℕ → ℕ → Type 0) (places objects : List ℕ) : Type 0 where
  pub count : length places ≡ length objects
  pub ascend : (i at next : ℕ) → slice_get places i ≡ Some at → slice_get places (i + 1) ≡ Some next → at < next
  pub has : (i at target : ℕ) → slice_get places i ≡ Some at → slice_get objects i ≡ Some target → P at target
  pub all : (at target : ℕ) → P at target → (i : ℕ) × (slice_get places i ≡ Some at) × (slice_get objects i ≡ Some target)

-- the objects that a store breaks, one for each field
abbrev pub AreBroken : World → World → ℕ → ℕ → List (Option ℕ) → List ℕ → Type 0
AreBroken snapshot w object place fields objects = (places : List ℕ) × AreAt (IsBrokenAt snapshot w object place fields) places objects

-- the objects of the snapshot that a store puts into fields, one for each field
abbrev pub AreStored : World → World → ℕ → ℕ → List (Option ℕ) → List ℕ → Type 0
AreStored snapshot w object place fields objects = (places : List ℕ) × AreAt (IsStoredAt snapshot w object place fields) places objects

-- a field of a store that held a target, and gets another value
pub record IsLost (object place : ℕ) (fields : List (Option ℕ)) (name : Name) (i : ℕ) (target : Name) : Type 0 where
  pub at : ℕ
  pub n : ℕ
  pub new : Option ℕ
  pub name_is : name ≡ named object
  pub i_is : i ≡ place + at
  pub target_is : target ≡ named n
  pub new_is : slice_get fields at ≡ Some new
  pub other : new ≢ Some n

-- a store of these values into an object's fields, from a place on, by the references that fields lose and get: no other field
-- loses or gets one
pub record IsStore (before : World) (object place : ℕ) (fields : List (Option ℕ)) (after : World) : Type 0 where
  pub lost : (name : Name) (i : ℕ) (target : Name) → HasStrongField before name i (value.Ref target) →
      (HasStrongField after name i (value.Ref target) → ⊥) → IsLost object place fields name i target
  pub loses : (at n : ℕ) (field : Option ℕ) → slice_get fields at ≡ Some field → field ≢ Some n → Refers after object (place + at) n → ⊥
  pub came : (target : Name) → IsStored before after target →
      (at : ℕ) × (n : ℕ) × (target ≡ named n) × (slice_get fields at ≡ Some (Some n)) × (Refers before object (place + at) n → ⊥)
  pub comes : (at n : ℕ) → slice_get fields at ≡ Some (Some n) → Refers after object (place + at) n
