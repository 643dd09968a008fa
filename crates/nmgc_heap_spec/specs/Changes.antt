-- The changes to words, places and world after which the words still represent the world.
--
-- Each definition is a law's condition on one change. A round makes the changes one by one, and a stop makes many at once.
use Rattle.std.specs.Prelude.{ℕ, ◌≡◌, ◌≢◌, ◌+◌, ◌<◌, ◌≤◌, ◌⊎◌, List, ◌∷◌, length, slice_index, slice_get, Contains, Some, None, IsSome}
use Rattle.nmgc_world_spec.specs.{declared.value.Name.Name, declared.value.Value.TheVariants.Ref, declared.node.Node.Node, declared.node.Node.TheVariants.Weak, World.World, World.node_of, Known.IsWorld, declared.node.Kind.Kind}
use Rattle.nmgc_object.specs.{Words.name_word, Words.IsHeader, Words.IsName, Words.InNursery, declared.layout.Layout.Layout, declared.size.TheConstants.HEADER_WORDS, declared.size.TheConstants.NAME_OFFSET}
use Rattle.nmgc_heap_spec.specs.Objects.{Slot, holds, unspecified, header_of, size_of, slots_of, fixed_slots, free_slots, Place, Fills, HasSlots, LiesWell, IsBetween}
use Rattle.nmgc_heap_spec.specs.{Tracked.IsTracked, Represents.IsNamed, Represents.IsObject}
use Rattle.nmgc_world_spec.specs.declared.node.Kind.TheVariants as kind

-- an earlier world, which the collector may still use: the world now has all its names, and its objects have the same headers
pub record IsEarlier (e w : World) : Type 0 where
  pub world : IsWorld e
  pub names : (name : Name) → IsSome (node_of e name) → IsSome (node_of w name)
  pub headers : (name : Name) (before now : Node) → node_of e name ≡ Some before → node_of w name ≡ Some now → header_of before ≡ header_of now

-- the fields that may change while the object lives: a thunk's result, a weak pointer's value, and any field of a variable,
-- an array or a stack. Header, name and all other fields never change
abbrev pub MayChange : Kind → ℕ → Type 0
MayChange kind.Con i = ⊥
MayChange kind.Var i = Unit {0}
MayChange kind.Arr i = Unit {0}
MayChange kind.Thunk i = i ≡ 0
MayChange kind.Weak i = i ≡ 1
MayChange kind.Stack i = Unit {0}

-- each of these worlds is an earlier world, which the collector may still use
abbrev pub AreEarlier : List World → World → Type 0
AreEarlier earlier w = (e : World) → Contains earlier e → IsEarlier e w

-- each node known to K has the header that the node of its name has now
abbrev pub HaveHeaders : (Name → Node → Type 0) → World → Type 0
HaveHeaders K w = (name : Name) (before now : Node) → K name before → node_of w name ≡ Some now → header_of before ≡ header_of now

-- an object that is specified, with header and extent: its name is tracked, or it lies in its maker's nursery
abbrev pub IsSpokenOf : Layout → List World → World → Place → Type 0
IsSpokenOf layout earlier w p = IsTracked w earlier p.name ⊎ InNursery layout p.name.maker p.at

-- another world that has the same node at every place and for every tracked name, and that tracks no further name
pub record IsSameHeap (earlier : List World) (places : List Place) (w v : World) : Type 0 where
  pub nodes : (p : Place) → Contains places p → node_of v p.name ≡ node_of w p.name
  pub tracked : (name : Name) (node : Node) → IsTracked v earlier name → node_of v name ≡ Some node → IsTracked w earlier name × (node_of w name ≡ Some node)

-- the earlier worlds and known nodes as before, or fewer; only the world itself, as it is now, and its nodes may be added
pub record Remembers (w : World) (earlier later : List World) (K L : Name → Node → Type 0) : Type 0 where
  pub worlds : (e : World) → Contains later e → Contains (w ∷ earlier) e
  pub nodes : (name : Name) (node : Node) → L name node → K name node ⊎ (node_of w name ≡ Some node)

-- other words that agree at every name, in every specified object, and beside g
pub record AgreeWhereKnown (layout : Layout) (earlier : List World) (places : List Place) (w : World) (old new : List ℕ) : Type 0 where
  pub total : length new ≡ length old
  pub names : (p : Place) → Contains places p → slice_index new (p.at + NAME_OFFSET) ≡ slice_index old (p.at + NAME_OFFSET)
  pub objects : (p : Place) (node : Node) (i : ℕ) → Contains places p → IsSpokenOf layout earlier w p → node_of w p.name ≡ Some node → p.at ≤ i →
      i < p.at + size_of node → slice_index new i ≡ slice_index old i
  pub between : (at : ℕ) → IsBetween at → slice_index new at ≡ slice_index old at

-- a word that isn't a name, isn't in a specified object, and isn't beside g
pub record IsUnborn (layout : Layout) (earlier : List World) (places : List Place) (w : World) (i : ℕ) : Type 0 where
  pub names : (p : Place) → Contains places p → i ≢ p.at + NAME_OFFSET
  pub objects : (p : Place) (node : Node) → Contains places p → IsSpokenOf layout earlier w p → node_of w p.name ≡ Some node → (i < p.at) ⊎
      (p.at + size_of node ≤ i)
  pub owned : IsBetween i → ⊥

-- a change of a node in at most this field, which may change; every other field is as before, or is no longer specified
pub record ChangesAt (i : ℕ) (node made : Node) : Type 0 where
  pub header : header_of made ≡ header_of node
  pub within : i < (header_of node).fields
  pub may : MayChange (header_of node).kind i
  pub rest : (j : ℕ) (slot : Slot) → j ≢ i → slice_get (slots_of made) j ≡ Some slot → (slice_get (slots_of node) j ≡ Some slot) ⊎ (slot ≡ unspecified)

-- one field of one tracked object changes, and its word is as the new node specifies; no further name is tracked
pub record ChangesField (earlier : List World) (places : List Place) (w v : World) (p : Place) (i word : ℕ) (node made : Node) : Type 0 where
  pub there : Contains places p
  pub is_tracked : IsTracked w earlier p.name
  pub before : node_of w p.name ≡ Some node
  pub after : node_of v p.name ≡ Some made
  pub others : (name : Name) → name ≢ p.name → node_of v name ≡ node_of w name
  pub at_one : ChangesAt i node made
  pub field : (slot : Slot) → slice_get (slots_of made) i ≡ Some slot → Fills (Contains places) word slot
  pub nothing_new : (name : Name) → IsTracked v earlier name → IsTracked w earlier name

-- one more place
pub record AddsPlace (places more : List Place) (x : Place) : Type 0 where
  pub old : (p : Place) → Contains places p → Contains more p
  pub new : Contains more x
  pub no_other : (p : Place) → Contains more p → Contains places p ⊎ (x ≡ p)

-- `size` words from `at` on are apart from every header and name, and from every specified object
pub record IsApart (layout : Layout) (earlier : List World) (places : List Place) (w : World) (at size : ℕ) : Type 0 where
  pub names : (p : Place) → Contains places p → (p.at + HEADER_WORDS ≤ at) ⊎ (at + size ≤ p.at)
  pub objects : (p : Place) (node : Node) → Contains places p → IsSpokenOf layout earlier w p → node_of w p.name ≡ Some node →
      (p.at + size_of node ≤ at) ⊎ (at + size ≤ p.at)

-- a new object: its name and fields are written, no node had its name, no other node changes, and no other name gets tracked
pub record IsBorn (layout : Layout) (earlier : List World) (K L : Name → Node →
    Type 0) (places more : List Place) (w v : World) (words : List ℕ) (x : Place) (made : Node) : Type 0 where
  pub place : AddsPlace places more x
  pub unknown : node_of w x.name ≡ None
  pub first : (node : Node) → L x.name node → node ≡ made
  pub kept : (name : Name) (node : Node) → name ≢ x.name → L name node → K name node
  pub is : node_of v x.name ≡ Some made
  pub others : (name : Name) → name ≢ x.name → node_of v name ≡ node_of w name
  pub tracked : (name : Name) → IsTracked v earlier name → IsTracked w earlier name ⊎ (name ≡ x.name)
  pub valid_name : IsName x.name
  pub valid : IsHeader (header_of made)
  pub lies : LiesWell layout x (size_of made)
  pub apart : IsApart layout earlier places w x.at (size_of made)
  pub name : slice_index words (x.at + NAME_OFFSET) ≡ name_word x.name
  pub fields : HasSlots (Contains more) words (x.at + HEADER_WORDS) (slots_of made)

-- fewer places: only places of untracked names go. Free variables of tracked objects in earlier worlds, and permanent fields
-- in K, refer only to tracked names
pub record DropsPlaces (earlier : List World) (K : Name → Node → Type 0) (places fewer : List Place) (w : World) : Type 0 where
  pub old : (p : Place) → Contains fewer p → Contains places p
  pub tracked : (p : Place) → Contains places p → IsTracked w earlier p.name → Contains fewer p
  pub free : (e : World) (name n : Name) (before : Node) → Contains earlier e → IsTracked w earlier name → node_of e name ≡ Some before →
      Contains (free_slots before) (holds (Ref n)) → IsTracked w earlier n
  pub kept : (name n : Name) (before : Node) → IsTracked w earlier name → K name before → Contains (fixed_slots before) (holds (Ref n)) → IsTracked w earlier n

-- further places, while nothing else changes: all are in use, differ in name and address, and aren't inside a specified
-- object. An object in its maker's nursery lies there with header and extent
pub record AddsPlaces (layout : Layout) (earlier : List World) (places more : List Place) (w : World) (words : List ℕ) : Type 0 where
  pub old : (p : Place) → Contains places p → Contains more p
  pub one : (p q : Place) → Contains more p → Contains more q → (p.name ≡ q.name) ⊎ (p.at ≡ q.at) → p ≡ q
  pub named : (p : Place) → Contains more p → IsNamed layout w words p
  pub alone : (p q : Place) (node : Node) → Contains places p → IsSpokenOf layout earlier w p → node_of w p.name ≡ Some node → Contains more q →
      (q.at ≤ p.at) ⊎ (p.at + size_of node ≤ q.at)
  pub born : (p : Place) (node : Node) → Contains more p → InNursery layout p.name.maker p.at → node_of w p.name ≡ Some node →
      IsObject layout more words p node × (node ≡ Weak None → slice_index words (p.at + HEADER_WORDS + 1) ≡ 0)
