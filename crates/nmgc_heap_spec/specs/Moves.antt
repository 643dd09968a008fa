-- Objects that move: their words lie elsewhere, and every pointer to them goes there.
--
-- Objects leave the part of the words that begins at a base, where the nurseries begin, for addresses in segments. Each new
-- word is a function of an old word, so the order of writing doesn't matter.
use Rattle.std.specs.Prelude.{ℕ, ◌≡◌, ◌+◌, ◌*◌, ◌<◌, ◌≤◌, ◌⊎◌, List, ◌++◌, length, map, slice_index, slice_get, Contains, Some, IsSome, nat_lt, filter}
use Rattle.nmgc_world_spec.specs.{declared.value.Name.Name, declared.value.Value.TheVariants.Ref, declared.node.Node.Node, World.World, World.node_of}
use Rattle.nmgc_object.specs.{declared.layout.Layout.Layout, declared.size.TheConstants.HEADER_WORDS, declared.size.TheConstants.NAME_OFFSET, declared.words.TheConstants.NIL_WORD, declared.words.TheConstants.ZERO_WORD}
use Rattle.nmgc_heap_spec.specs.{Objects.holds, Objects.header_of, Objects.size_of, Objects.slots_of, Objects.Place, Objects.LiesInSegment, Objects.IsBetween, Tracked.IsTracked, Changes.IsEarlier}

-- a move of an object: its name, its old address and its new address
pub record Moved : Type 0 where
  pub name : Name
  pub from : ℕ
  pub to : ℕ

-- the place of a moved object after the move
abbrev pub new_place : Moved → Place
new_place m = record { at = m.to; name = m.name }

-- the place of a moved object before the move
abbrev pub old_place : Moved → Place
old_place m = record { at = m.from; name = m.name }

-- the places after moves: the new places, and the old places below the base, where the emptied part begins
abbrev pub settled : ℕ → List Moved → List Place → List Place
settled base moves places = map new_place moves ++ filter (λ p. nat_lt p.at base) places

-- how field words change: pointers to moved objects follow them; pointers below the base, nil, numbers and unset fields stay
pub record Forwards (base : ℕ) (moves : List Moved) (forward : ℕ → ℕ) : Type 0 where
  pub unset : forward 0 ≡ 0
  pub nil : forward NIL_WORD ≡ NIL_WORD
  pub number : (n : ℕ) → forward (2 * n + ZERO_WORD) ≡ 2 * n + ZERO_WORD
  pub stays : (at : ℕ) → at < base → forward (2 * at) ≡ 2 * at
  pub goes : (m : Moved) → Contains moves m → forward (2 * m.from) ≡ 2 * m.to

-- a copy of an object from its old address at its new address: its header, and its fields forwarded
pub record Copies (forward : ℕ → ℕ) (old new : List ℕ) (from to count : ℕ) : Type 0 where
  pub header : slice_index new to ≡ slice_index old from
  pub fields : (i : ℕ) → i < count → slice_index new (to + HEADER_WORDS + i) ≡ forward (slice_index old (from + HEADER_WORDS + i))

-- an object that stays keeps its header, and each field is forwarded or, if it doesn't refer into the emptied part, unchanged
pub record KeepsObject (base : ℕ) (places : List Place) (forward : ℕ → ℕ) (old new : List ℕ) (at : ℕ) (node : Node) : Type 0 where
  pub header : slice_index new at ≡ slice_index old at
  pub fields : (i : ℕ) → i < (header_of node).fields → (slice_index new (at + HEADER_WORDS + i) ≡
      forward (slice_index old (at + HEADER_WORDS + i))) ⊎ ((slice_index new (at + HEADER_WORDS + i) ≡ slice_index old (at + HEADER_WORDS + i)) ×
      ((q : Place) → slice_get (slots_of node) i ≡ Some (holds (Ref q.name)) → Contains places q → q.at < base))

-- a renaming of places: objects leave the part of the words that begins at the base for addresses in segments at which no
-- object lay. All tracked objects of that part move, each once. Every new word is a function of an old word
pub record Moves (layout : Layout) (base : ℕ) (later : List World) (places : List Place) (w : World) (moves : List Moved) (forward : ℕ →
    ℕ) (old new : List ℕ) : Type 0 where
  pub total : length new ≡ length old
  pub forwards : Forwards base moves forward
  pub taken : (m : Moved) → Contains moves m → Contains places (old_place m) × (base ≤ m.from) × (m.to < base)
  pub all : (p : Place) → Contains places p → base ≤ p.at → IsTracked w later p.name → (m : Moved) × Contains moves m × (p ≡ old_place m)
  pub once : (a b : Moved) → Contains moves a → Contains moves b → (a.from ≡ b.from) ⊎ (a.to ≡ b.to) → a ≡ b
  pub apart : (m : Moved) (p : Place) → Contains moves m → Contains places p → m.to ≡ p.at → ⊥
  pub lies : (m : Moved) (node : Node) → Contains moves m → node_of w m.name ≡ Some node → LiesInSegment layout m.to (size_of node)
  pub alone : (m : Moved) (node : Node) (q : Place) → Contains moves m → node_of w m.name ≡ Some node → Contains (settled base moves places) q →
      (q.at ≤ m.to) ⊎ (m.to + size_of node ≤ q.at)
  pub spared : (p : Place) (node : Node) (m : Moved) → Contains places p → p.at < base → IsTracked w later p.name → node_of w p.name ≡ Some node →
      Contains moves m → (m.to ≤ p.at) ⊎ (p.at + size_of node ≤ m.to)
  pub named : (m : Moved) → Contains moves m → slice_index new (m.to + NAME_OFFSET) ≡ slice_index old (m.from + NAME_OFFSET)
  pub still_named : (p : Place) → Contains places p → p.at < base → slice_index new (p.at + NAME_OFFSET) ≡ slice_index old (p.at + NAME_OFFSET)
  pub copied : (m : Moved) (node : Node) → Contains moves m → IsTracked w later m.name → node_of w m.name ≡ Some node →
      Copies forward old new m.from m.to (header_of node).fields
  pub changed : (p : Place) (node : Node) → Contains places p → p.at < base → IsTracked w later p.name → node_of w p.name ≡ Some node →
      KeepsObject base places forward old new p.at node
  pub between : (at : ℕ) → IsBetween at → slice_index new at ≡ slice_index old at

-- the earlier worlds that the collector still uses afterwards: they had no object of the emptied part
pub record StillSpoken (base : ℕ) (later earlier : List World) (places : List Place) (w : World) : Type 0 where
  pub fewer : (e : World) → Contains later e → Contains earlier e
  pub past : (e : World) → Contains later e → IsEarlier e w
  pub outside : (e : World) (p : Place) → Contains later e → Contains places p → IsSome (node_of e p.name) → p.at < base
