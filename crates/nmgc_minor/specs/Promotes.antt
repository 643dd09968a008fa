-- The effect of the three passes together on words and segments.
use Rattle.std.specs.List.{flat_map}
use Rattle.std.specs.Prelude.{ℕ, ◌≡◌, ◌≢◌, ◌+◌, ◌*◌, ◌<◌, ◌≤◌, ◌⊎◌, List, [], length, map, slice_index, Contains}
use Rattle.nmgc_object.specs.{Words.name_word, Words.IsName, Words.nursery_place, declared.layout.TheConstants.FIRST_PLACE, declared.size.TheConstants.HEADER_WORDS, declared.size.TheConstants.NAME_OFFSET, declared.words.TheConstants.WEAK_FIELDS, declared.layout.Nursery.Nursery, declared.words.Address.Address, FinQueue.FinQueue}
use Rattle.nmgc_alloc.specs.{AllocState.Segments, Segments.IsSegments, Reserve.KeepsReserve}
use Rattle.nmgc_heap_spec.specs.Moves.{Moved, Forwards}
use Rattle.nmgc_stop_spec.specs.{Nurseries.AreEmpty, Stopped.Stopped, Stopped.IsStopped}
use Rattle.nmgc_minor.specs.{declared.placing.Move.Move, declared.young.Young.Young, Inputs.Inputs, Found.IsStart, Found.IsFound, Young.IsIn, Young.IsYoung, Young.IsWithin, Young.CanFollow, Forwarding.forward_word, Start.words_of, Start.places_of}
use Rattle.nmgc_minor.specs.Placing.{AreNurseries, CanPlaceEach, IsMarked, IsPlacing, Rewrites, StandsAfter, AreRising, moved_of}

-- what the passes need of the words, the segments and their own lists. Words that represent a heap at a stop meet it all
pub record CanPromote (y : Young) (s : Segments) (words : List ℕ) (nurseries : List Nursery) (inputs : Inputs) : Type 0 where
  pub sound : IsSegments s
  pub lists : IsYoung y
  pub empty : y.found.items ≡ []
  pub above : FIRST_PLACE ≤ y.base
  pub inside : y.base ≤ length words
  pub recorded : (at : ℕ) → Contains inputs.recorded at → at < y.base
  pub weaks : (at : ℕ) → Contains inputs.weaks at → at + (HEADER_WORDS + WEAK_FIELDS) ≤ length words
  pub within : (word : ℕ) → IsStart inputs words word → IsWithin y word
  pub can : (at : ℕ) → IsFound y.base words (IsStart inputs words) at → CanFollow y words at
  pub parts : (table : List ℕ) → length table ≡ length y.table.items →
      ((at : ℕ) → y.base ≤ at → IsMarked y.base table at → IsFound y.base words (IsStart inputs words) at) →
      AreNurseries s.layout y.base table nurseries × CanPlaceEach s.layout words table y.base nurseries
  pub reserve : KeepsReserve s.layout s.segments 0 ⊎ AreEmpty nurseries

-- what a promotion needs when it begins: pointers lead to objects in the nurseries' used parts. Each such object has a
-- header, its maker's name, and at most the words of a segment. A heap at a stop meets this
abbrev pub CanPromoteWith : Segments → List ℕ → List Nursery → Inputs → Type 0
CanPromoteWith s words nurseries inputs = (y : Young) → IsYoung y → y.found.items ≡ [] → y.base ≡ nursery_place s.layout 0 →
    length y.table.items ≡ s.layout.mutators * s.layout.nursery → CanPromote y s words nurseries inputs

-- the table and the list after a promotion: only found objects have entries, and no room was lost
pub record Leaves (old new : Young) : Type 0 where
  pub base : new.base ≡ old.base
  pub size : length new.table.items ≡ length old.table.items
  pub listed : (k : ℕ) → slice_index new.table.items k ≢ 0 → IsIn new (new.base + k)
  pub tabled : (at : ℕ) → IsIn new at → (new.base ≤ at) × (at < new.base + length new.table.items)
  pub kept_room : new.found.spare + length new.found.items ≡ old.found.spare + length old.found.items

-- exactly the found objects moved, each to its own block, and each pointer to a moved object was changed
pub record Promotes (base : ℕ) (old new : List ℕ) (s s' : Segments) (moves : List Move) (inputs : Inputs) (table : List ℕ) : Type 0 where
  pub found : (m : Move) → Contains moves m → IsFound base old (IsStart inputs old) m.from.0
  pub all : (at : ℕ) → IsFound base old (IsStart inputs old) at → (m : Move) × Contains moves m × (m.from.0 ≡ at)
  pub once : (a b : Move) → Contains moves a → Contains moves b → a.from.0 ≡ b.from.0 → a ≡ b
  pub named : (m : Move) → Contains moves m → IsName m.name × (slice_index old (m.from.0 + NAME_OFFSET) ≡ name_word m.name)
  pub placing : IsPlacing s s' old (map moved_of moves)
  pub stands : StandsAfter s s' old moves
  pub rising : AreRising moves
  pub few : length moves ≤ length table
  pub forwards : Forwards base (map moved_of moves) (forward_word table base)
  pub rewrites : Rewrites base inputs.recorded (map moved_of moves) (forward_word table base) old new

-- the words after a promotion: one function of words changes each pointer to a moved object, in recorded fields, slots of g,
-- moved objects, registers and queues. All other words below the nurseries stay, except the moved objects' new copies
pub record Changes (base : ℕ) (recorded : List ℕ) (moves : List Moved) (forward : ℕ →
    ℕ) (old new : List ℕ) (registers registers' : List ℕ) (queues queues' : List (List ℕ)) : Type 0 where
  pub forwards : Forwards base moves forward
  pub rewrites : Rewrites base recorded moves forward old new
  pub fields : (at : ℕ) → Contains recorded at → slice_index new at ≡ forward (slice_index old at)
  pub held : registers' ≡ map forward registers
  pub queued : queues' ≡ map (map forward) queues

-- words, segments and mutators represent a heap at a stop. The functions give the parts of each mutator
abbrev pub IsStoppedBy : {M : Type 0} → (M → Nursery) → (M → List ℕ) → (M → FinQueue) → (M → List Address) → (M → List Address) → Stopped → Segments →
    List ℕ → List M → Type 0
IsStoppedBy nursery registers queue recorded weaks t s words mutators =
    IsStopped t s words (map nursery mutators) (flat_map registers mutators) (words_of (map queue mutators)) (places_of (flat_map recorded mutators))
    (places_of (flat_map weaks mutators))

-- a queue with its words forwarded
abbrev pub forwarded : (ℕ → ℕ) → FinQueue → FinQueue
forwarded forward queue = record queue { words = map forward queue.words }

-- a mutator after promotion: registers and queue are forwarded by the function; nursery and lists of the round are empty
abbrev pub promoted : {M : Type 0} → (M → List ℕ) → (M → List ℕ → M) → (M → FinQueue) → (M → FinQueue → M) → (M → M) → (ℕ → ℕ) → M → M
promoted registers with_registers queue with_queue after_stop forward m =
    after_stop (with_queue (with_registers m (map forward (registers m))) (forwarded forward (queue (with_registers m (map forward (registers m))))))
