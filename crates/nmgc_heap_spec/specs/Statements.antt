-- The laws on words that represent a world, as statements. The functions of `laws` prove them.
use Rattle.std.specs.Prelude.{ℕ, ◌≡◌, ◌≢◌, ◌⊎◌, ◌+◌, List, [], map, set, slice_index, slice_get, Contains, Some}
use Rattle.nmgc_world_spec.specs.{declared.value.Name.Name, declared.value.Value.Value, declared.node.Node.Node, declared.change.Change.Change, World.World, World.node_of, World.changed, Known.IsWorld, Known.IsSized, Reach.IsWide}
use Rattle.nmgc_world_spec.specs.declared.value.Value.TheVariants as value
use Rattle.nmgc_object.specs.{Words.header_word, Words.InNursery, Words.nursery_place, Fields.field_word, Fields.IsField, Layouts.IsLayout, declared.words.Field.Field, declared.layout.Layout.Layout, declared.size.TheConstants.HEADER_WORDS, declared.size.TheConstants.NAME_OFFSET}
use Rattle.nmgc_object.specs.declared.words.Field.TheVariants as field
use Rattle.nmgc_world_laws.specs.Limits.{IsSmall}
use Rattle.nmgc_heap_spec.specs.{Objects.Slot, Objects.unspecified, Objects.header_of, Objects.slots_of, Objects.Place, Objects.Means, Tracked.IsTracked, Represents.NoNode, Represents.Represents, Roots.RepresentsRoots, Roots.ListsWeaks, Moves.Moved, Moves.Moves, Moves.StillSpoken, Moves.settled}
use Rattle.nmgc_heap_spec.specs.Changes.{AreEarlier, HaveHeaders, IsSameHeap, Remembers, AgreeWhereKnown, IsUnborn, ChangesAt, ChangesField, IsBorn, DropsPlaces, AddsPlaces}

-- a name has one place
abbrev pub OnePlace : (Name → Node → Type 0) → Type 0
OnePlace K = (layout : Layout) (earlier : List World) (places : List Place) (w : World) (words : List ℕ) →
    Represents layout earlier K places w words → (p q : Place) → Contains places p → Contains places q → p.name ≡ q.name → p ≡ q

-- a field word has one meaning
abbrev pub OneMeaning : (Name → Node → Type 0) → Type 0
OneMeaning K = (layout : Layout) (earlier : List World) (places : List Place) (w : World) (words : List ℕ) →
    Represents layout earlier K places w words → (word : ℕ) (u v : Value) → Means (Contains places) word u → Means (Contains places) word v → u ≡ v

-- a word with a meaning isn't 0, the word of an unset field
abbrev pub MeaningIsSet : (Name → Node → Type 0) → Type 0
MeaningIsSet K = (layout : Layout) (earlier : List World) (places : List Place) (w : World) (words : List ℕ) →
    Represents layout earlier K places w words → (word : ℕ) (v : Value) → Means (Contains places) word v → word ≡ 0 → ⊥

-- a field represents a value, with pointers to places of P
abbrev pub IsFieldOf : (Place → Type 0) → Field → Value → Type 0
IsFieldOf P field.Nil value.Nil = Unit {0}
IsFieldOf P (field.Number m) (value.Number n) = m ≡ n
IsFieldOf P (field.Pointer to) (value.Ref name) = P (record { at = to.0; name = name })
IsFieldOf P _ _ = ⊥

-- if a word means a value that is small enough for a word, it is the word of a field for this value, so it can be decoded
abbrev pub MeaningIsField : (Name → Node → Type 0) → Type 0
MeaningIsField K = (layout : Layout) (earlier : List World) (places : List Place) (w : World) (words : List ℕ) → IsLayout layout →
    Represents layout earlier K places w words → (word : ℕ) (v : Value) → IsSmall v → Means (Contains places) word v → (f : Field) × IsField f ×
    IsFieldOf (Contains places) f v × (word ≡ field_word f)

-- the word of a field has the meaning that the field has
abbrev pub FieldHasMeaning : Type 0
FieldHasMeaning = (places : List Place) (f : Field) (v : Value) → IsFieldOf (Contains places) f v → Means (Contains places) (field_word f) v

-- if the same words represent two worlds, a name tracked in both has nodes with the same header and the same slots
abbrev pub OneNode : (K L : Name → Node → Type 0) → Type 0
OneNode K L = (layout : Layout) (earlier other : List World) (places : List Place) (w v : World) (words : List ℕ) → IsWorld w → IsWorld v →
    Represents layout earlier K places w words → Represents layout other L places v words → (name : Name) (a b : Node) → IsTracked w earlier name →
    IsTracked v other name → node_of w name ≡ Some a → node_of v name ≡ Some b → (header_of a ≡ header_of b) × (slots_of a ≡ slots_of b)

-- two lists of words that represent one world at the same places agree at every name. For a name tracked in both they agree
-- at the header and at each specified field
abbrev pub OneWording : (K L : Name → Node → Type 0) → Type 0
OneWording K L = (layout : Layout) (earlier other : List World) (places : List Place) (w : World) (words us : List ℕ) →
    Represents layout earlier K places w words → Represents layout other L places w us → (p : Place) → Contains places p →
    (slice_index us (p.at + NAME_OFFSET) ≡ slice_index words (p.at + NAME_OFFSET)) ×
    ((node : Node) → IsTracked w earlier p.name → IsTracked w other p.name → node_of w p.name ≡ Some node →
    (slice_index us p.at ≡ slice_index words p.at) × ((i : ℕ) (slot : Slot) → slice_get (slots_of node) i ≡ Some slot → slot ≢ unspecified →
    slice_index us (p.at + HEADER_WORDS + i) ≡ slice_index words (p.at + HEADER_WORDS + i)))

-- words that represent a world represent every world with the same nodes
abbrev pub SameHeap : (Name → Node → Type 0) → Type 0
SameHeap K = (layout : Layout) (earlier : List World) (places : List Place) (w v : World) (words : List ℕ) → IsSameHeap earlier places w v →
    Represents layout earlier K places w words → Represents layout earlier K places v words

-- words still represent the world after one field of one node changes, and its word changes with it
abbrev pub FieldChange : (Name → Node → Type 0) → Type 0
FieldChange K = (layout : Layout) (earlier : List World) (places : List Place) (w v : World) (words : List ℕ) (p : Place) (i word : ℕ)
    (node made : Node) → IsWorld w → AreEarlier earlier w → HaveHeaders K w → ChangesField earlier places w v p i word node made →
    Represents layout earlier K places w words → Represents layout earlier K places v (set words (p.at + HEADER_WORDS + i) word)

-- a command that changes a node changes at most one of its fields, and only a field that may change
abbrev pub NodeChange : Type 0
NodeChange = (c : Change) (maker : ℕ) (node : Node) → IsSized node → ((changed c maker node).0 ≡ node) ⊎ ((i : ℕ) × ChangesAt i node (changed c maker node).0)

-- words still represent the world after a word that is in no specified object is stored
abbrev pub UnbornStore : (Name → Node → Type 0) → Type 0
UnbornStore K = (layout : Layout) (earlier : List World) (places : List Place) (w : World) (words : List ℕ) (i word : ℕ) → IsWorld w →
    AreEarlier earlier w → HaveHeaders K w → IsUnborn layout earlier places w i → Represents layout earlier K places w words →
    Represents layout earlier K places w (set words i word)

-- words represent the world with a new object after the header of this object is written
abbrev pub Birth : (K L : Name → Node → Type 0) → Type 0
Birth K L = (layout : Layout) (earlier : List World) (places more : List Place) (w v : World) (words : List ℕ) (x : Place) (made : Node) →
    IsWorld w → AreEarlier earlier w → HaveHeaders K w → IsBorn layout earlier K L places more w v words x made →
    Represents layout earlier K places w words → Represents layout earlier L more v (set words x.at (header_word (header_of made)))

-- words still represent the world after objects move and all pointers follow; the nodes of a round are then no longer known
abbrev pub Move : (Name → Node → Type 0) → Type 0
Move K = (layout : Layout) (base : ℕ) (later earlier : List World) (places : List Place) (w : World) (moves : List Moved) (forward : ℕ →
    ℕ) (old new : List ℕ) → IsWorld w → StillSpoken base later earlier places w → base ≡ nursery_place layout 0 →
    Represents layout earlier K places w old → Moves layout base later places w moves forward old new →
    Represents layout later NoNode (settled base moves places) w new

-- registers and queues represent the same roots after they are forwarded
abbrev pub MoveOfRoots : (Name → Node → Type 0) → Type 0
MoveOfRoots K = (layout : Layout) (base : ℕ) (later earlier : List World) (places : List Place) (w : World) (moves : List Moved) (forward : ℕ →
    ℕ) (old new : List ℕ) (registers : List ℕ) (queues : List (List ℕ)) (serials : List ℕ) → IsWorld w → StillSpoken base later earlier places w →
    base ≡ nursery_place layout 0 → Represents layout earlier K places w old → Moves layout base later places w moves forward old new →
    RepresentsRoots places w registers queues serials → RepresentsRoots (settled base moves places) w (map forward registers) (map (map forward) queues) serials

-- words still represent the world when the collector uses fewer earlier worlds and nodes, or also the world as it is now
abbrev pub Remembrance : (K L : Name → Node → Type 0) → Type 0
Remembrance K L = (layout : Layout) (earlier later : List World) (places : List Place) (w : World) (words : List ℕ) →
    Remembers w earlier later K L → Represents layout earlier K places w words → Represents layout later L places w words

-- words that differ only where nothing is specified represent the same world
abbrev pub Agreement : (Name → Node → Type 0) → Type 0
Agreement K = (layout : Layout) (earlier : List World) (places : List Place) (w : World) (words other : List ℕ) → IsWorld w → AreEarlier earlier w →
    HaveHeaders K w → AgreeWhereKnown layout earlier places w words other → Represents layout earlier K places w words →
    Represents layout earlier K places w other

-- words still represent the world after places of untracked names go
abbrev pub DropOfPlaces : (Name → Node → Type 0) → Type 0
DropOfPlaces K = (layout : Layout) (earlier : List World) (places fewer : List Place) (w : World) (words : List ℕ) →
    DropsPlaces earlier K places fewer w → Represents layout earlier K places w words → Represents layout earlier K fewer w words

-- registers and queues still represent the roots after places of untracked names go
abbrev pub DropOfRoots : (Name → Node → Type 0) → Type 0
DropOfRoots K = (earlier : List World) (places fewer : List Place) (w : World) (registers : List ℕ) (queues : List (List ℕ)) (serials : List ℕ) →
    DropsPlaces earlier K places fewer w → RepresentsRoots places w registers queues serials → RepresentsRoots fewer w registers queues serials

-- words still represent the world when there are more places
abbrev pub Addition : (Name → Node → Type 0) → Type 0
Addition K = (layout : Layout) (earlier : List World) (places more : List Place) (w : World) (words : List ℕ) →
    AddsPlaces layout earlier places more w words → Represents layout earlier K places w words → Represents layout earlier K more w words

-- registers and queues still represent the roots when there are more places
abbrev pub AdditionOfRoots : Type 0
AdditionOfRoots = (places more : List Place) (w : World) (registers : List ℕ) (queues : List (List ℕ)) (serials : List ℕ) →
    ((p : Place) → Contains places p → Contains more p) → RepresentsRoots places w registers queues serials → RepresentsRoots more w registers queues serials

-- at a stop no place is in a nursery. Then words, roots and the list of weak pointers represent one wide reach, with one
-- header and the same slots for each of its names
abbrev pub OneWorld : (K L : Name → Node → Type 0) → Type 0
OneWorld K L = (layout : Layout) (places weaks : List Place) (w v : World) (words registers : List ℕ) (queues : List (List ℕ)) (serials : List ℕ) →
    ((p : Place) → Contains places p → InNursery layout p.name.maker p.at → ⊥) → IsWorld w → IsWorld v → Represents layout [] K places w words →
    Represents layout [] L places v words → RepresentsRoots places w registers queues serials → RepresentsRoots places v registers queues serials →
    ListsWeaks layout places w weaks → ListsWeaks layout places v weaks → (name : Name) (a : Node) → IsWide w name → node_of w name ≡ Some a →
    IsWide v name × ((b : Node) × (node_of v name ≡ Some b) × (header_of a ≡ header_of b) × (slots_of a ≡ slots_of b))
