-- Words that represent a world.
--
-- The places are given as a list, since a block in use may have an object no longer used. Its name is still there; its fields
-- mean nothing. Two facts on segments are no part of this: their places are the blocks in use, and objects fit their blocks.
use Rattle.std.specs.Prelude.{ℕ, ◌≡◌, ◌+◌, ◌≤◌, ◌⊎◌, List, length, slice_index, Contains, Some, None, IsSome}
use Rattle.nmgc_world_spec.specs.{declared.value.Name.Name, declared.node.Node.Node, declared.node.Node.TheVariants.Weak, World.World, World.node_of}
use Rattle.nmgc_object.specs.{Words.header_word, Words.name_word, Words.IsHeader, Words.IsName, Words.InNursery, Words.word_total, declared.layout.Layout.Layout, declared.size.TheConstants.HEADER_WORDS, declared.size.TheConstants.NAME_OFFSET}
use Rattle.nmgc_heap_spec.specs.{Objects.header_of, Objects.size_of, Objects.slots_of, Objects.fixed_slots, Objects.free_slots, Objects.Place, Objects.HasSlots, Objects.LiesWell, Objects.HasZeros, Tracked.IsTracked}

-- a place in use: its name word is the word of a name of the world, and header and name lie where an object may. This holds
-- for every place, tracked or not (more than is needed for an untracked place)
pub record IsNamed (layout : Layout) (w : World) (words : List ℕ) (p : Place) : Type 0 where
  pub known : IsSome (node_of w p.name)
  pub valid : IsName p.name
  pub name : slice_index words (p.at + NAME_OFFSET) ≡ name_word p.name
  pub lies : LiesWell layout p HEADER_WORDS

-- an object of this node at the place: its header is the node's, its size lies well (`LiesWell`), no other place is in it
pub record IsObject (layout : Layout) (places : List Place) (words : List ℕ) (p : Place) (node : Node) : Type 0 where
  pub header : slice_index words p.at ≡ header_word (header_of node)
  pub valid : IsHeader (header_of node)
  pub lies : LiesWell layout p (size_of node)
  pub alone : (q : Place) → Contains places q → (q.at ≤ p.at) ⊎ (p.at + size_of node ≤ q.at)

-- a tracked name has a place where its object lies with the fields of its node. The object also has the free variables that
-- it had in an earlier world in which it had no result, and all permanent fields of its nodes known to K
pub record IsPlaced (layout : Layout) (earlier : List World) (K : Name → Node →
    Type 0) (places : List Place) (words : List ℕ) (name : Name) (node : Node) : Type 0 where
  pub at : ℕ
  pub there : Contains places (record { at = at; name = name })
  pub object : IsObject layout places words (record { at = at; name = name }) node
  pub fields : HasSlots (Contains places) words (at + HEADER_WORDS) (slots_of node)
  pub free : (e : World) (before : Node) → Contains earlier e → node_of e name ≡ Some before →
      HasSlots (Contains places) words (at + HEADER_WORDS) (free_slots before)
  pub kept : (before : Node) → K name before → HasSlots (Contains places) words (at + HEADER_WORDS) (fixed_slots before)

-- words represent a world, while the collector still uses the earlier worlds and a round knows its objects by the nodes of K.
-- There are as many words as the layout has. No two places share a name or an address, and every place is in use. Each
-- tracked name has a place where its object lies with its fields. There it also has its free variables from earlier worlds in
-- which it had no result, and the permanent fields of its nodes in K. An object in its maker's nursery lies there with header
-- and extent even if it is untracked, and a dead weak pointer's value word there is 0. Of other objects only the name is
-- specified. Word 0 and the words between g and the first segment are 0
pub record Represents (layout : Layout) (earlier : List World) (K : Name → Node → Type 0) (places : List Place) (w : World) (words : List ℕ) : Type 0 where
  pub total : length words ≡ word_total layout
  pub one : (p q : Place) → Contains places p → Contains places q → (p.name ≡ q.name) ⊎ (p.at ≡ q.at) → p ≡ q
  pub named : (p : Place) → Contains places p → IsNamed layout w words p
  pub tracked : (name : Name) (node : Node) → IsTracked w earlier name → node_of w name ≡ Some node → IsPlaced layout earlier K places words name node
  pub born : (p : Place) (node : Node) → Contains places p → InNursery layout p.name.maker p.at → node_of w p.name ≡ Some node →
      IsObject layout places words p node × (node ≡ Weak None → slice_index words (p.at + HEADER_WORDS + 1) ≡ 0)
  pub zeros : HasZeros words

-- no known nodes: the parameter K between rounds. In a round K has the first nodes, by which the round knows its objects: the
-- node at the opening, or the node that a new object began with
abbrev pub NoNode : Name → Node → Type 0
NoNode name node = ⊥
