-- Heaps of objects and fields, as worlds of the rule for fields. All objects are mutator 0's, in the order in which they were
-- made.
use Rattle.std.specs.Prelude.{◌≡◌, ◌<◌, ◌-◌, ◌^◌, ◌++◌, ◌==◌, ◌⊎◌, ◌∷◌, ℕ, List, [], length, map, replicate, Option, Some, None, IsSome, All, IfSome, ◌↔◌, Contains, Bool, if◌then◌else◌}
use Rattle.nmgc_limits.specs.declared.mutators.TheConstants.{REGISTERS, SHARED_SLOTS}
use Rattle.nmgc_world_spec.specs.{declared.value.Name.Name, declared.value.Value.Value, declared.node.Node.Node, declared.node.Node.TheVariants.Arr, declared.mutator_state.MutatorState.MutatorState, World.World, World.serial_of, World.node_of}
use Rattle.nmgc_world_spec.specs.Reach.{IsReached, RefersTo}
use Rattle.nmgc_world_spec.specs.declared.value.Value.TheVariants as value
use Rattle.nmgc_field_checker.specs.Sets.{Grows, Objects}
use Rattle.std.specs.List.{list_any}

-- the name of the object with this number
abbrev pub named : ℕ → Name
named object = record { maker = 0; serial = object }

-- the value in a field: a reference to an object, or nothing
abbrev pub value_in : Option ℕ → Value
value_in None = value.Nil
value_in (Some object) = value.Ref (named object)

-- the values in fields
abbrev pub values_in : List (Option ℕ) → List Value
values_in fields = map value_in fields

-- the node of an object with these fields
abbrev pub node_with : List (Option ℕ) → Node
node_with fields = Arr (values_in fields)

-- the mutator that made these objects. It holds no references
abbrev pub maker_of : List (List (Option ℕ)) → MutatorState
maker_of objects = record { registers = replicate REGISTERS value.Nil; queue = []; nodes = map node_with objects }

-- the world of these objects, each with its fields. Nothing else refers to an object
abbrev pub world_of : List (List (Option ℕ)) → World
world_of objects = record { shared = Arr (replicate SHARED_SLOTS value.Nil); mutators = maker_of objects ∷ [] }

-- the field refers to no object, or to one of the first objects
abbrev pub IsBelow : ℕ → Option ℕ → Type 0
IsBelow count field = IfSome field (λ object. object < count)

-- the condition of a heap: its objects can be numbered, and each field refers to one of them or to nothing
pub record IsHeap (objects : List (List (Option ℕ))) : Type 0 where
  pub few : length objects < 2 ^ 32
  pub closed : All (All (IsBelow (length objects))) objects

-- a world that is the heap of some objects
abbrev pub IsHeapWorld : World → Type 0
IsHeapWorld w = (objects : List (List (Option ℕ))) × IsHeap objects × (w ≡ world_of objects)

-- a heap has an object with this number
abbrev pub Has : World → ℕ → Type 0
Has w object = IsSome (node_of w (named object))

-- the heap has the object, and these are its fields
abbrev pub AreFields : World → ℕ → List (Option ℕ) → Type 0
AreFields w object fields = node_of w (named object) ≡ Some (node_with fields)

-- these are the fields of an object, or there are none, since the heap has no such object
abbrev pub AreFieldsIf : World → ℕ → List (Option ℕ) → Type 0
AreFieldsIf w object fields = AreFields w object fields ⊎ ((node_of w (named object) ≡ None) × (fields ≡ []))

-- the number of fields of an object of a heap
pub record HasCount (w : World) (object count : ℕ) : Type 0 where
  pub fields : List (Option ℕ)
  pub are_fields : AreFields w object fields
  pub count_is : count ≡ length fields

-- the fields of a new object: these, and then none, up to a count
abbrev pub with_rest : ℕ → List (Option ℕ) → List (Option ℕ)
with_rest count fields = fields ++ replicate (count - length fields) None

-- the values of a new object's fields: these, and then nothing in each further field
abbrev pub filled : ℕ → List (Option ℕ) → List Value
filled count fields = values_in fields ++ replicate (count - length fields) value.Nil

-- whether a list has the number
abbrev pub has_number : List ℕ → ℕ → Bool
has_number numbers n = list_any (λ k. k == n) numbers

-- a field without a reference to one of the gone objects
abbrev pub left_field : List ℕ → Option ℕ → Option ℕ
left_field gone None = None
left_field gone (Some object) = if has_number gone object then None else Some object

-- the fields that are left of an object: none if it is gone, and otherwise all, without references to gone objects
abbrev pub left_fields : List ℕ → ℕ → List (Option ℕ) → List (Option ℕ)
left_fields gone object fields = if has_number gone object then [] else map (left_field gone) fields

-- a heap without gone objects: each of them has no fields, and no field refers to one of them
pub record IsWithout (gone : List ℕ) (before after : World) : Type 0 where
  pub heap : IsHeapWorld after
  pub count : serial_of after 0 ≡ serial_of before 0
  pub fields : (object : ℕ) (fields : List (Option ℕ)) → AreFields before object fields → AreFields after object (left_fields gone object fields)

-- the name of one of these objects
abbrev pub IsNamed : List ℕ → Name → Type 0
IsNamed objects name = (object : ℕ) × Contains objects object × (name ≡ named object)

-- a set of objects before and after the targets of an object were added, at its end
pub record AddsTargets (w : World) (object : ℕ) (before after : Objects) : Type 0 where
  pub bound : after.bound ≡ before.bound
  pub grows : Grows before.items after.items
  pub new : (target : ℕ) → Contains after.items target → Contains before.items target ⊎ RefersTo w (named object) (named target)
  pub all : (target : Name) → RefersTo w (named object) target → IsNamed after.items target

-- a set of objects with all objects to which the fields of a heap lead from there
pub record AreFollowed (w : World) (before after : Objects) : Type 0 where
  pub bound : after.bound ≡ before.bound
  pub items : (object : ℕ) → Contains after.items object ↔ IsReached w (IsNamed before.items) (named object)
