-- The list of weak pointers and the finaliser queues at a stop: leaving, joining, and the queues' room for a closing.
use Rattle.std.specs.Prelude.{ℕ, ◌≡◌, ◌≢◌, ◌⊎◌, ◌↔◌, ◌<◌, ◌≤◌, ◌^◌, ◌==◌, ◌&&◌, not, Bool, List, [], map, filter, length, slice_get, slice_index, slice_index_or, Contains, Some, IsSome}
use Rattle.nmgc_world_spec.specs.Reach.{IsInOrder}
use Rattle.nmgc_object.specs.{FinQueue.FinQueue, Words.header_word}
use Rattle.nmgc_minor.specs.declared.placing.Move.{Move}
use Rattle.nmgc_mutator.specs.declared.mutator.Mutator.{Mutator}
use Rattle.nmgc_collector_laws.specs.Joins.{weak_header}
use Rattle.nmgc_weak.specs.{declared.weaks.Death.Death, declared.weaks.OldWeak.OldWeak, Queues.AllJoin, Weaks.alive_of, Weaks.names_of, Weaks.value_place, Rows.IsNamedAt}
pub use Rattle.nmgc_weak.specs.Weaks.{count_made_by}
use Rattle.nmgc_cycle.specs.{declared.collector.Collector.Collector, Roots.queues_in, Shown.words_in}

-- whether the words at an address are a weak pointer that is alive
abbrev pub is_alive_at : List ℕ → ℕ → Bool
is_alive_at words at = (slice_index words at == header_word weak_header) && not (slice_index words (value_place at) == 0)

-- a moved object, as an item of the list of weak pointers
abbrev pub listed_move : Move → OldWeak
listed_move m = record { weak = m.name; at = m.to }

-- the moved objects that are weak pointers and alive
abbrev pub moved_weaks : List ℕ → List Move → List OldWeak
moved_weaks words moves = map listed_move (filter (λ (m : Move). is_alive_at words m.to.0) moves)

-- the header of each moved object, and the word that has the value of a weak pointer, are among the heap's words
abbrev pub AreMovedInside : List ℕ → List Move → Type 0
AreMovedInside words moves = (m : Move) → Contains moves m → value_place m.to.0 < length words

-- the moved objects may join the list: they have new names, in order
pub record CanJoin (words : List ℕ) (list : List OldWeak) (moves : List Move) : Type 0 where
  pub inside : AreMovedInside words moves
  pub ordered : IsInOrder (map (λ (m : Move). m.name) moves)
  pub new : (m : Move) (other : OldWeak) → Contains moves m → Contains list other → other.weak ≢ m.name
  pub few : length moves < 2 ^ 32

-- a list of weak pointers with further weak pointers, in order
pub record IsMergeOf (old fresh new : List OldWeak) : Type 0 where
  pub ordered : IsInOrder (names_of new)
  pub list : (other : OldWeak) → Contains new other ↔ (Contains old other ⊎ Contains fresh other)

-- the mutators report the weak pointers finalised in the round: each listed weak pointer that is dead by now is at a reported
-- address. The value word at a reported address is among the words. Each listed weak pointer's name word is its own
pub record FinalisedAreListed (words : List ℕ) (list : List OldWeak) (finalised : List ℕ) : Type 0 where
  pub inside : (at : ℕ) → Contains finalised at → value_place at < length words
  pub reported : (weak : OldWeak) → Contains list weak → slice_index words (value_place weak.at.0) ≡ 0 → Contains finalised weak.at.0
  pub named : (at : ℕ) → IsNamedAt words at list

-- the weak pointers that were finalised in the round, and so are dead by now, have left the list
pub record FinalisedLeft (old new : Collector) : Type 0 where
  pub rest : new ≡ record old { heap = record old.heap { words = new.heap.words; weaks = new.heap.weaks } }
  pub words : (words_in new.heap.words ≡ words_in old.heap.words) × IsSome new.heap.words
  pub list : new.heap.weaks.list ≡ alive_of (words_in old.heap.words) old.heap.weaks.list
  pub deaths : new.heap.weaks.deaths ≡ old.heap.weaks.deaths

-- the weak pointers that moved and are alive have joined the list
pub record MovedJoined (old new : Collector) : Type 0 where
  pub rest : new ≡ record old { heap = record old.heap { words = new.heap.words; weaks = new.heap.weaks } }
  pub words : (words_in new.heap.words ≡ words_in old.heap.words) × IsSome new.heap.words
  pub joins : IsMergeOf old.heap.weaks.list (moved_weaks (words_in old.heap.words) old.heap.promotion.moves) new.heap.weaks.list
  pub deaths : new.heap.weaks.deaths ≡ old.heap.weaks.deaths

-- a mutator changed only in that its queue has room for `count` finalisers
pub record HasQueueRoom (count : ℕ) (old new : Mutator) : Type 0 where
  pub rest : new ≡ record old { queue = new.queue }
  pub words : new.queue.words ≡ old.queue.words
  pub room : count ≤ new.queue.spare

-- room for the finalisers: each mutator's queue has room for a finaliser of each listed weak pointer that the mutator made
pub record HaveQueueRoom (list : List OldWeak) (old new : List Mutator) : Type 0 where
  pub count : length new ≡ length old
  pub each : (k : ℕ) (d : Mutator) → k < length old →
      HasQueueRoom (count_made_by (slice_index_or old k d).number list) (slice_index_or old k d) (slice_index_or new k d)

-- a queue without words and without room
abbrev pub no_queue : FinQueue
no_queue = record { words = []; spare = 0 }

-- mutators changed only in that they have these queues
pub record HaveQueues (queues : List FinQueue) (old new : List Mutator) : Type 0 where
  pub count : length new ≡ length old
  pub each : (k : ℕ) (m : Mutator) → slice_get old k ≡ Some m → slice_get new k ≡ Some (record m { queue = slice_index_or queues k no_queue })

-- the finalisers of the deaths have joined the queues
pub record FinalisersQueued (deaths : List Death) (old new : List Mutator) : Type 0 where
  pub queues : List FinQueue
  pub joined : AllJoin deaths (queues_in old) queues
  pub have : HaveQueues queues old new
