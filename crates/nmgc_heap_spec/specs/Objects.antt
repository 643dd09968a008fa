-- Objects of a heap: the header and fields of a node, the place of an object, and the meaning of a field word.
--
-- A command that changes a node leaves its header, so an object never changes size. Only fields of `Changes.MayChange` ever change.
use Rattle.std.specs.Prelude.{List, None, Some, [], length, map, replicate, slice_get, slice_index, ℕ, ◌*◌, ◌++◌, ◌+◌, ◌-◌, ◌<◌, ◌∷◌, ◌≡◌, ◌≢◌, ◌≤◌, ◌⊎◌}
use Rattle.nmgc_limits.specs.declared.mutators.TheConstants.{SHARED_MAKER, SHARED_SLOTS}
use Rattle.nmgc_world_spec.specs.declared.node.Node.TheVariants.{Arr, Con, Stack, Thunk, Var, Weak}
use Rattle.nmgc_world_spec.specs.{World.shared_name, declared.node.Node.Node, declared.value.Name.Name, declared.value.Value.Value}
use Rattle.nmgc_world_spec.specs.declared.node.Kind.TheVariants as kind
use Rattle.nmgc_world_spec.specs.declared.value.Value.TheVariants as value
use Rattle.nmgc_object.specs.{Words.InNursery, Words.InSegment, declared.layout.Layout.Layout, declared.layout.TheConstants.FIRST_PLACE, declared.layout.TheConstants.SHARED_PLACE, declared.size.TheConstants.HEADER_WORDS, declared.words.Header.Header, declared.words.TheConstants.NIL_WORD, declared.words.TheConstants.VAR_FIELDS, declared.words.TheConstants.WEAK_FIELDS, declared.words.TheConstants.ZERO_WORD}

-- the header of a node's object: a thunk's fields are its result and its free variables, a stack's are its slots
abbrev pub header_of : Node → Header
header_of (Con tag values) = record { kind = kind.Con; tag = tag; fields = length values }
header_of (Var v) = record { kind = kind.Var; tag = 0; fields = VAR_FIELDS }
header_of (Arr values) = record { kind = kind.Arr; tag = 0; fields = length values }
header_of (Thunk free result) = record { kind = kind.Thunk; tag = 0; fields = length free + 1 }
header_of (Weak parts) = record { kind = kind.Weak; tag = 0; fields = WEAK_FIELDS }
header_of (Stack size values) = record { kind = kind.Stack; tag = 0; fields = size }

-- the size of a node's object in words: its header words and its fields
abbrev pub size_of : Node → ℕ
size_of node = HEADER_WORDS + (header_of node).fields

-- the specification of a field: it holds a value, it is unset, or nothing is said of it
pub data Slot : Type 0 where
  holds : Value → Slot
  unset : Slot
  unspecified : Slot

-- a node's fields, in order. A constructor, a variable or an array has its values. A thunk has its result alone once there is
-- one, else an unset result and its free variables. A weak pointer that is alive has its parts; of a dead weak pointer only
-- the unset value is specified. A stack has its values and then unset slots
abbrev pub slots_of : Node → List Slot
slots_of (Con tag values) = map holds values
slots_of (Var v) = holds v ∷ []
slots_of (Arr values) = map holds values
slots_of (Thunk free None) = unset ∷ map holds free
slots_of (Thunk free (Some result)) = holds result ∷ replicate (length free) unspecified
slots_of (Weak None) = unspecified ∷ unset ∷ unspecified ∷ []
slots_of (Weak (Some parts)) = holds parts.key ∷ holds parts.value ∷ holds parts.finaliser ∷ []
slots_of (Stack size values) = map holds values ++ replicate (size - length values) unset

-- the permanent fields of an earlier node: free variables of a thunk without result, key and finaliser of a weak pointer that
-- is alive
abbrev pub fixed_slots : Node → List Slot
fixed_slots (Thunk free None) = unspecified ∷ map holds free
fixed_slots (Weak (Some parts)) = holds parts.key ∷ unspecified ∷ holds parts.finaliser ∷ []
fixed_slots _ = []

-- the permanent fields of an earlier node, free variables only
abbrev pub free_slots : Node → List Slot
free_slots (Thunk free None) = unspecified ∷ map holds free
free_slots _ = []

-- A pointer means the name of the object at its address, so the meaning of a word depends on the places. A predicate says
-- which places a pointer may go to: the places of a list, or of the objects of a round so far. Growth of places is then an
-- implication, and nothing has to decide whether a name is still in use.

-- a place: the address of an object (the word at which it begins), and its name
pub record Place : Type 0 where
  pub at : ℕ
  pub name : Name

-- the place of g
abbrev pub shared_place : Place
shared_place = record { at = SHARED_PLACE; name = shared_name }

-- the meaning of a field word: 1 is nil, 2n + 3 the number n, and 2a a reference to the object at address a, a place of P.
-- (The world ensures that numbers fit a word, and the layout that addresses fit.)
abbrev pub Means : (Place → Type 0) → ℕ → Value → Type 0
Means P word value.Nil = word ≡ NIL_WORD
Means P word (value.Number n) = word ≡ 2 * n + ZERO_WORD
Means P word (value.Ref name) = (at : ℕ) × (word ≡ 2 * at) × P (record { at = at; name = name })

-- a field word is as its slot specifies: it means the held value, or is 0 (no value) if unset, or is any word if unspecified
abbrev pub Fills : (Place → Type 0) → ℕ → Slot → Type 0
Fills P word (holds v) = Means P word v
Fills P word unset = word ≡ 0
Fills P word unspecified = Unit {0}

-- the words from `from` on are as the slots specify
abbrev pub HasSlots : (Place → Type 0) → List ℕ → ℕ → List Slot → Type 0
HasSlots P words from slots = (i : ℕ) (slot : Slot) → slice_get slots i ≡ Some slot → Fills P (slice_index words (from + i)) slot

-- the words from `from` on mean the values
abbrev pub AllMean : (Place → Type 0) → List ℕ → ℕ → List Value → Type 0
AllMean P words from values = (i : ℕ) (v : Value) → slice_get values i ≡ Some v → Means P (slice_index words (from + i)) v

-- a list of words means a list of values, one by one
abbrev pub ListMeans : (Place → Type 0) → List ℕ → List Value → Type 0
ListMeans P [] [] = Unit {0}
ListMeans P [] (v ∷ vs) = ⊥
ListMeans P (w ∷ ws) [] = ⊥
ListMeans P (w ∷ ws) (v ∷ vs) = Means P w v × ListMeans P ws vs

-- `size` words from `at` on lie in one segment
abbrev pub LiesInSegment : Layout → ℕ → ℕ → Type 0
LiesInSegment layout at size = (segment : ℕ) × ((i : ℕ) → at ≤ i → i < at + size → InSegment layout segment i)

-- `size` words from `at` on lie in the maker's nursery, and fit into a segment: a larger object could never be promoted
abbrev pub LiesInNursery : Layout → ℕ → ℕ → ℕ → Type 0
LiesInNursery layout maker at size = (size ≤ layout.words) × ((i : ℕ) → at ≤ i → i < at + size → InNursery layout maker i)

-- the address of the first word after g
abbrev pub shared_end : ℕ
shared_end = SHARED_PLACE + HEADER_WORDS + SHARED_SLOTS

-- a word beside g: word 0, or a word between g and the first segment. It belongs to no object. (Words after a segment's last
-- block belong to none either, and aren't specified)
abbrev pub IsBetween : ℕ → Type 0
IsBetween at = (at < SHARED_PLACE) ⊎ ((shared_end ≤ at) × (at < FIRST_PLACE))

-- the words beside g are 0
abbrev pub HasZeros : List ℕ → Type 0
HasZeros words = (at : ℕ) → IsBetween at → slice_index words at ≡ 0

-- an object of `size` words may lie at the place: g in its own words and nowhere else. Another object lies in one segment, or
-- in its maker's nursery and then is no larger than a segment
abbrev pub LiesWell : Layout → Place → ℕ → Type 0
LiesWell layout p size =
    ((p.name.maker ≡ SHARED_MAKER) × (p.at ≡ SHARED_PLACE) × (p.at + size ≤ shared_end))
    ⊎ ((p.name.maker ≢ SHARED_MAKER) × (LiesInSegment layout p.at size ⊎ LiesInNursery layout p.name.maker p.at size))
