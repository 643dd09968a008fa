-- The list of weak pointers over a promotion: moved live weak pointers join it. The finaliser queues have room for the list.
use Rattle.std.specs.Prelude.{ℕ, ◌≡◌, ◌≢◌, ◌+◌, ◌≤◌, ◌⊎◌, List, map, slice_index, Contains, IsSome}
use Rattle.nmgc_world_spec.specs.declared.node.Kind.TheVariants as kind
use Rattle.nmgc_world_spec.specs.{Reach.IsInOrder, World.World, World.node_of}
use Rattle.nmgc_object.specs.{Words.header_word, Words.IsHeader, declared.size.TheConstants.HEADER_WORDS, declared.words.TheConstants.WEAK_FIELDS, declared.words.Header.Header, declared.layout.Nursery.Nursery}
use Rattle.nmgc_alloc.specs.AllocState.{Segments}
use Rattle.nmgc_heap_spec.specs.{Moves.Moved, Moves.Copies, Moves.Forwards, Moves.new_place, Objects.Place, Roots.ListsWeaks}
use Rattle.nmgc_stop_spec.specs.Stopped.{Stopped, IsStopped, IsSettled, young_base}
use Rattle.nmgc_weak.specs.Queues.{weak_count}
use Rattle.nmgc_collector_laws.specs.Stays.{places_after}

-- the header of a weak pointer
abbrev pub weak_header : Header
weak_header = record { kind = kind.Weak; tag = 0; fields = WEAK_FIELDS }

-- by the words, a weak pointer that is alive lies at the address
pub record IsAliveAt (words : List ℕ) (at : ℕ) : Type 0 where
  pub header : slice_index words at ≡ header_word weak_header
  pub value : slice_index words (at + (HEADER_WORDS + 1)) ≢ 0

-- moved objects were copied, with their fields forwarded
pub record HaveMoved (base : ℕ) (moves : List Moved) (old new : List ℕ) : Type 0 where
  pub forward : ℕ → ℕ
  pub forwards : Forwards base moves forward
  pub copied : (m : Moved) (header : Header) → Contains moves m → IsHeader header → slice_index old m.from ≡ header_word header →
      Copies forward old new m.from m.to header.fields

-- the list after a promotion, in order of names: the old places, and the new places of weak pointers alive by their words
pub record HaveJoinedList (words : List ℕ) (moves : List Moved) (old list : List Place) : Type 0 where
  pub ordered : IsInOrder (map (λ (p : Place). p.name) list)
  pub from : (p : Place) → Contains list p → Contains old p ⊎ ((m : Moved) × Contains moves m × (p ≡ new_place m) × IsAliveAt words m.to)
  pub old_stay : (p : Place) → Contains old p → Contains list p
  pub new_join : (m : Moved) → Contains moves m → IsAliveAt words m.to → Contains list (new_place m)

-- the law that the list of weak pointers alive before a promotion becomes the list after it when the moved ones join
abbrev pub JoiningLists : Type 0
JoiningLists = (t : Stopped) (s new : Segments) (words after : List ℕ) (nurseries : List Nursery) (registers registers_then : List ℕ)
    (queues queues_then : List (List ℕ)) (recorded weaks : List ℕ) (moves : List Moved) (old list : List Place) →
    IsStopped t s words nurseries registers queues recorded weaks → IsSettled t new after registers_then queues_then moves → new.layout ≡ s.layout →
    HaveMoved (young_base s) moves words after
    → ListsWeaks s.layout t.places t.world old → HaveJoinedList after moves old list
    → ListsWeaks new.layout (places_after new moves t) t.world list

-- the law that weak pointers that join weren't listed before
abbrev pub JoinersAreNew : Type 0
JoinersAreNew = (t : Stopped) (s new : Segments) (words after : List ℕ) (nurseries : List Nursery) (registers registers_then : List ℕ)
    (queues queues_then : List (List ℕ)) (recorded weaks : List ℕ) (moves : List Moved) (old : List Place) →
    IsStopped t s words nurseries registers queues recorded weaks → IsSettled t new after registers_then queues_then moves →
    ListsWeaks s.layout t.places t.world old
    → (m : Moved) (p : Place) → Contains moves m → Contains old p → p.name ≢ m.name

-- the law that the list has no more weak pointers of a snapshot than before, if none was added
abbrev pub FewerListed : Type 0
FewerListed = (snapshot : World) (m : ℕ) (old list : List Place) → IsInOrder (map (λ (p : Place). p.name) list) →
    ((p : Place) → Contains list p → IsSome (node_of snapshot p.name) → Contains old p) → weak_count snapshot m list ≤ weak_count snapshot m old
