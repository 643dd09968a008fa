-- The objects of a round, and words that represent a world while it runs.
--
-- An object is known by its node when the round began or when it was allocated. That node determines for the whole round the
-- end of its words, and the words that never change. So objects that are no longer tracked keep their extent.
use Rattle.std.specs.Prelude.{◌≡◌, ◌⊎◌, ℕ, ◌+◌, ◌<◌, ◌≤◌, List, [], ◌∷◌, length, slice_index, Contains, true, Some, if◌then◌else◌}
use mathlib.Core.Logic.{inl, inr}
use Rattle.nmgc_world_spec.specs.{declared.value.Name.Name, declared.value.Value.Value, declared.node.Node.Node, declared.node.Node.TheVariants.Thunk, declared.node.Node.TheVariants.Weak, declared.node.Parts.Parts, World.World, World.node_of, Known.IsSized, Reach.IsWide}
use Rattle.nmgc_world_laws.specs.Holds.{has_result}
use Rattle.nmgc_object.specs.{Words.header_word, Words.IsHeader, Words.word_total, declared.size.TheConstants.HEADER_WORDS}
use Rattle.nmgc_heap_spec.specs.{Objects.header_of, Objects.size_of, Objects.slots_of, Objects.fixed_slots, Objects.free_slots, Objects.Place, Objects.HasSlots, Objects.LiesWell, Objects.IsBetween, Objects.HasZeros, Tracked.IsTracked, Represents.IsNamed}
use Rattle.nmgc_round.specs.View.{Opening}

-- an object of a round: its address, its name, and its first node: the node when the round began, if its name was tracked, or
-- when it was allocated. The node determines the end of its words, and the words that never change
pub record Object : Type 0 where
  pub at : ℕ
  pub name : Name
  pub node : Node

-- the object's address and name, without the node
abbrev pub place_of : Object → Place
place_of x = record { at = x.at; name = x.name }

-- the end of an object's words
abbrev pub end_of : Object → ℕ
end_of x = x.at + size_of x.node

-- the earlier worlds that matter to the collector: the snapshot, while marking
abbrev pub earlier : Opening → List World
earlier o = if o.marking then o.core.snapshot ∷ [] else []

-- an object that was there when the round began, and whose name was tracked
pub record IsOld (o : Opening) (x : Object) : Type 0 where
  pub there : Contains o.places (place_of x)
  pub tracked : IsTracked o.core.world (earlier o) x.name
  pub node : node_of o.core.world x.name ≡ Some x.node

-- the objects of a round: the tracked objects of its beginning, and the new objects
abbrev pub IsObject : Opening → List Object → Object → Type 0
IsObject o born x = IsOld o x ⊎ Contains born x

-- a thunk's free variables
abbrev pub free_of : Node → List Value
free_of (Thunk free result) = free
free_of _ = []

-- a later node of one object: header and free variables stay, a result stays set, a weak pointer still alive has its old parts
pub record IsLater (before later : Node) : Type 0 where
  pub header : header_of later ≡ header_of before
  pub free : free_of later ≡ free_of before
  pub result : has_result before ≡ true → has_result later ≡ true
  pub alive : (parts : Parts) → later ≡ Weak (Some parts) → before ≡ Weak (Some parts)

-- the address and name of an object of the round
abbrev pub IsIn : Opening → List Object → Place → Type 0
IsIn o born p = (node : Node) × IsObject o born (record { at = p.at; name = p.name; node = node })

-- an address in use: an address of the opening, or of a new object
abbrev pub IsPlace : Opening → List Object → Place → Type 0
IsPlace o born p = Contains o.places p ⊎ ((x : Object) × Contains born x × (place_of x ≡ p))

-- the node of the object in the snapshot, while marking
pub record IsSnapshot (o : Opening) (x : Object) (node : Node) : Type 0 where
  pub marking : o.marking ≡ true
  pub wide : IsWide o.core.snapshot x.name
  pub there : node_of o.core.snapshot x.name ≡ Some node

-- an earlier node of the object whose unchanging fields are still the same: its first node, or the snapshot's
abbrev pub IsEarlierNode : Opening → Object → Node → Type 0
IsEarlierNode o x node = (node ≡ x.node) ⊎ IsSnapshot o x node

-- the fields of an earlier node that stay: for the first node all that never change, for the snapshot's the free variables
abbrev pub KeepsOf : (o : Opening) (x : Object) (before : Node) → (Place → Type 0) → List ℕ → ℕ → IsEarlierNode o x before → Type 0
KeepsOf o x before P words from (inl e) = HasSlots P words from (fixed_slots before)
KeepsOf o x before P words from (inr s) = HasSlots P words from (free_slots before)

-- an object that lies well (`LiesWell`), with no other address in use among its words
pub record IsApart (o : Opening) (born : List Object) (x : Object) : Type 0 where
  pub valid : IsHeader (header_of x.node)
  pub lies : LiesWell o.layout (place_of x) (size_of x.node)
  pub alone : (q : Place) → IsPlace o born q → (q.at ≤ x.at) ⊎ (end_of x ≤ q.at)

-- an object in the words: its header, the fields of its node now, and the fields that never change
pub record IsStanding (o : Opening) (born : List Object) (w : World) (words : List ℕ) (x : Object) : Type 0 where
  pub header : slice_index words x.at ≡ header_word (header_of x.node)
  pub node : Node
  pub there : node_of w x.name ≡ Some node
  pub later : IsLater x.node node
  pub sized : IsSized node
  pub fields : HasSlots (IsIn o born) words (x.at + HEADER_WORDS) (slots_of node)
  pub kept : (before : Node) (k : IsEarlierNode o x before) → IsLater before x.node × KeepsOf o x before (IsIn o born) words (x.at + HEADER_WORDS) k

-- words that represent a world in a round. Each name in use has one address and each address one name, a valid name of the
-- world. Each object lies well (`LiesWell`), apart from other addresses. It has its header, its node's fields now, and its
-- first node's unchanging fields; while marking also the free variables of the snapshot's thunk. The words beside g are 0
pub record RepresentsInRound (o : Opening) (born : List Object) (w : World) (words : List ℕ) : Type 0 where
  pub total : length words ≡ word_total o.layout
  pub one : (p q : Place) → IsPlace o born p → IsPlace o born q → (p.name ≡ q.name) ⊎ (p.at ≡ q.at) → p ≡ q
  pub named : (p : Place) → IsPlace o born p → IsNamed o.layout w words p
  pub apart : (x : Object) → IsObject o born x → IsApart o born x
  pub objects : (x : Object) → IsObject o born x → IsStanding o born w words x
  pub zeros : HasZeros words

-- a word in no object that is neither header nor name of any address in use, and doesn't lie beside g
pub record IsFree (o : Opening) (born : List Object) (i : ℕ) : Type 0 where
  pub objects : (x : Object) → IsObject o born x → (i < x.at) ⊎ (end_of x ≤ i)
  pub places : (q : Place) → IsPlace o born q → (i < q.at) ⊎ (q.at + HEADER_WORDS ≤ i)
  pub owned : IsBetween i → ⊥
