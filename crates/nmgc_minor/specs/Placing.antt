-- The second and the third pass, for segments and words.
use Rattle.std.specs.Prelude.{ℕ, ◌≡◌, ◌≢◌, ◌+◌, ◌-◌, ◌*◌, ◌<◌, ◌≤◌, ◌⊎◌, List, [], ◌∷◌, length, map, slice_index, slice_set, Contains}
use Rattle.nmgc_limits.specs.declared.mutators.TheConstants.{SHARED_SLOTS}
use Rattle.nmgc_world_spec.specs.declared.value.Name.{Name}
use Rattle.nmgc_object.specs.{Words.header_word, Words.name_word, Words.IsHeader, Words.IsName, Words.block_size, Words.IsClassOf, Words.nursery_place, declared.layout.Layout.Layout, declared.words.Header.Header, declared.layout.Nursery.Nursery, declared.layout.TheConstants.SHARED_PLACE, declared.size.TheConstants.HEADER_WORDS, declared.size.TheConstants.NAME_OFFSET}
use Rattle.nmgc_alloc.specs.{AllocState.Segments, AllocState.block_place, AllocState.AllocState, AllocState.PlacesName, AllocState.StandsFor, Segments.Allocates, Reserve.KeepsReserve}
use Rattle.nmgc_stop_spec.specs.{Nurseries.nursery_at, Strong.HasHeader, Occupied.IsOccupied, Occupied.KeepsMarks}
use Rattle.nmgc_heap_spec.specs.Moves.{Moved, Copies}
use Rattle.nmgc_minor.specs.declared.placing.Move.{Move}

-- the object at the address has this header, and the header is valid
abbrev pub HasHeaderWord : List ℕ → ℕ → Header → Type 0
HasHeaderWord words at header = IsHeader header × (slice_index words at ≡ header_word header)

-- objects were given unused blocks, each a large enough block of its own; no other block came into use, and no mark changed
pub record IsPlacing (old new : Segments) (words : List ℕ) (moves : List Moved) : Type 0 where
  pub layout : new.layout ≡ old.layout
  pub stays : (p size : ℕ) → IsOccupied old p size → IsOccupied new p size
  pub placed : (m : Moved) → Contains moves m → (size : ℕ) × IsOccupied new m.to size ×
      ((header : Header) → HasHeaderWord words m.from header → HEADER_WORDS + header.fields ≤ size)
  pub fresh : (m : Moved) (size : ℕ) → Contains moves m → IsOccupied old m.to size → ⊥
  pub only : (p size : ℕ) → IsOccupied new p size → IsOccupied old p size ⊎ ((m : Moved) × Contains moves m × (m.to ≡ p))
  pub once : (a b : Moved) → Contains moves a → Contains moves b → a.to ≡ b.to → a ≡ b
  pub marks : KeepsMarks old new

-- a slot of g
abbrev pub IsSharedSlot : ℕ → Type 0
IsSharedSlot i = (SHARED_PLACE + HEADER_WORDS ≤ i) × (i < SHARED_PLACE + HEADER_WORDS + SHARED_SLOTS)

-- a word outside the moved objects' new copies
abbrev pub IsOutside : List Moved → List ℕ → ℕ → Type 0
IsOutside moves words i = (m : Moved) (header : Header) → Contains moves m → HasHeaderWord words m.from header → (i < m.to) ⊎
    (m.to + HEADER_WORDS + header.fields ≤ i)

-- the words after a promotion: moved objects are copied with forwarded fields, and recorded fields and slots of g are
-- forwarded. All other words below the nurseries stay, except the new copies
pub record Rewrites (base : ℕ) (recorded : List ℕ) (moves : List Moved) (forward : ℕ → ℕ) (old new : List ℕ) : Type 0 where
  pub total : length new ≡ length old
  pub moved : (m : Moved) (header : Header) → Contains moves m → HasHeaderWord old m.from header →
      Copies forward old new m.from m.to header.fields × (slice_index new (m.to + NAME_OFFSET) ≡ slice_index old (m.from + NAME_OFFSET))
  pub others : (i : ℕ) → i < base → IsOutside moves old i → ((slice_index new i ≡ forward (slice_index old i)) ×
      (Contains recorded i ⊎ IsSharedSlot i)) ⊎ ((slice_index new i ≡ slice_index old i) × ((Contains recorded i → ⊥) × (IsSharedSlot i → ⊥)))

-- an object that can be given a block: it has a header and a name, and at most the words of a segment
pub record CanPlace (layout : Layout) (maker : ℕ) (words : List ℕ) (at : ℕ) : Type 0 where
  pub object : HasHeader words at
  pub small : HEADER_WORDS + object.header.fields ≤ layout.words
  pub name : Name
  pub valid : IsName name
  pub made : name.maker ≡ maker
  pub named : slice_index words (at + NAME_OFFSET) ≡ name_word name

-- the class of the object at the address
abbrev pub IsClassAt : List ℕ → ℕ → ℕ → Type 0
IsClassAt words at class = (header : Header) → HasHeaderWord words at header → IsClassOf (HEADER_WORDS + header.fields) class

-- an object was given a block of the least class whose blocks are large enough, by Note [The placing rule] in `nmgc_alloc`
pub record PlacesOne (old new : Segments) (words : List ℕ) (maker : ℕ) (moved : Move) : Type 0 where
  pub class : ℕ
  pub allocates : Allocates old new maker class moved.to.0
  pub class_is : IsClassAt words moved.from.0 class
  pub fits : block_size class ≤ old.layout.words
  pub valid : IsName moved.name
  pub made : moved.name.maker ≡ maker
  pub named : slice_index words (moved.from.0 + NAME_OFFSET) ≡ name_word moved.name

-- the moves are in the order of their old addresses
abbrev pub AreRising : List Move → Type 0
AreRising [] = Unit {0}
AreRising (m ∷ []) = Unit {0}
AreRising (m ∷ next ∷ moves) = (m.from.0 < next.from.0) × AreRising (next ∷ moves)

-- the words after the name of each moved object is written to its new block
abbrev pub with_names : List ℕ → List Move → List ℕ
with_names words [] = words
with_names words (m ∷ moves) = with_names (slice_set words (m.to.0 + NAME_OFFSET) (name_word m.name)) moves

-- the moved objects are placed one after the other, each for its maker and its class, and each move has the block's address
abbrev pub PlacesEach : Layout → List ℕ → AllocState → List Move → AllocState → Type 0
PlacesEach layout words old [] new = old ≡ new
PlacesEach layout words old (m ∷ moves) new =
    (mid : AllocState) × (class : ℕ) × (step : PlacesName layout old mid m.name.maker class m.name)
    × IsClassAt words m.from.0 class × (m.to.0 ≡ block_place layout step.number class step.block) × PlacesEach layout words mid moves new

-- if the old segments represent an allocation state, the new segments, with the blocks' names, represent it after placing
abbrev pub StandsAfter : Segments → Segments → List ℕ → List Move → Type 0
StandsAfter s s' words moves = (names : List ℕ) (old : AllocState) → nursery_place s.layout 0 ≤ length names → StandsFor s names old →
    (new : AllocState) × PlacesEach s.layout words old moves new × StandsFor s' (with_names names moves) new

-- a move with numbers for addresses
abbrev pub moved_of : Move → Moved
moved_of m = record { name = m.name; from = m.from.0; to = m.to.0 }

-- a found object begins at the address: the entry of the address isn't 0
abbrev pub IsMarked : ℕ → List ℕ → ℕ → Type 0
IsMarked base table at = slice_index table (at - base) ≢ 0

-- the found objects of a part of the table can be given blocks, and lie within this part one after another
pub record CanPlaceAll (layout : Layout) (maker : ℕ) (words table : List ℕ) (base from to : ℕ) : Type 0 where
  pub each : (at : ℕ) → from ≤ at → at < to → IsMarked base table at → CanPlace layout maker words at
  pub within : (at : ℕ) (header : Header) → from ≤ at → at < to → IsMarked base table at → HasHeaderWord words at header →
      at + HEADER_WORDS + header.fields ≤ to
  pub apart : (at next : ℕ) (header : Header) → from ≤ at → at < next → next < to → IsMarked base table at → IsMarked base table next →
      HasHeaderWord words at header → at + HEADER_WORDS + header.fields ≤ next

-- the found objects of a part of the table were given blocks in their order, and the entry of each is its new address
pub record PlacesRange (base : ℕ) (words : List ℕ) (s s' : Segments) (t t' : List ℕ) (added : List Move) (from to : ℕ) : Type 0 where
  pub placing : IsPlacing s s' words (map moved_of added)
  pub size : length t' ≡ length t
  pub outside : (at : ℕ) → base ≤ at → (at < from) ⊎ (to ≤ at) → slice_index t' (at - base) ≡ slice_index t (at - base)
  pub unmarked : (at : ℕ) → from ≤ at → at < to → (IsMarked base t at → ⊥) → slice_index t' (at - base) ≡ 0
  pub entries : (at : ℕ) → from ≤ at → at < to → IsMarked base t at → (m : Move) × Contains added m × (m.from.0 ≡ at) × (slice_index t' (at - base) ≡ m.to.0)
  pub marked : (m : Move) → Contains added m → (from ≤ m.from.0) × (m.from.0 < to) × IsMarked base t m.from.0
  pub named : (m : Move) → Contains added m → IsName m.name × (slice_index words (m.from.0 + NAME_OFFSET) ≡ name_word m.name)
  pub once : (a b : Move) → Contains added a → Contains added b → a.from.0 ≡ b.from.0 → a ≡ b
  pub stands : StandsAfter s s' words added
  pub rising : AreRising added

-- an address `reach` at or above the ends of placed objects, and at or below the beginnings of objects still to be placed
pub record Reaches (layout : Layout) (base : ℕ) (words table : List ℕ) (s : Segments) (before from at to : ℕ) : Type 0 where
  pub reach : ℕ
  pub above : from ≤ reach
  pub within : reach ≤ to
  pub next : (k : ℕ) → at ≤ k → k < to → IsMarked base table k → reach ≤ k
  pub reserve : KeepsReserve layout s.segments (before + (reach - from))

-- the nurseries are the mutators' parts of the words, each used up to its top, and found objects lie in the used parts
pub record AreNurseries (layout : Layout) (base : ℕ) (table : List ℕ) (nurseries : List Nursery) : Type 0 where
  pub begins : base ≡ nursery_place layout 0
  pub count : length nurseries ≡ layout.mutators
  pub size : length table ≡ layout.mutators * layout.nursery
  pub places : (maker : ℕ) → maker < layout.mutators → (nursery_at nurseries maker).base ≡ nursery_place layout maker
  pub tops : (maker : ℕ) → maker < layout.mutators → ((nursery_at nurseries maker).base ≤ (nursery_at nurseries maker).top) ×
      ((nursery_at nurseries maker).top ≤ (nursery_at nurseries maker).base + layout.nursery)
  pub unused : (maker at : ℕ) → maker < layout.mutators → (nursery_at nurseries maker).top ≤ at → at < nursery_place layout maker + layout.nursery →
      slice_index table (at - base) ≡ 0

-- the found objects of every nursery can be given blocks
abbrev pub CanPlaceEach : Layout → List ℕ → List ℕ → ℕ → List Nursery → Type 0
CanPlaceEach layout words table base nurseries = (maker : ℕ) → maker < layout.mutators →
    CanPlaceAll layout maker words table base (nursery_at nurseries maker).base (nursery_at nurseries maker).top
