-- Finalisers that join their makers' queues.
use Rattle.std.specs.Prelude.{ℕ, ◌≡◌, ◌+◌, ◌<◌, ◌≤◌, ◌==◌, ◌&&◌, not, Bool, List, ◌++◌, length, filter, map, slice_get, Some, Contains, count_by, is_some}
use Rattle.nmgc_object.specs.{FinQueue.FinQueue, declared.words.TheConstants.NIL_WORD}
use Rattle.nmgc_weak.specs.declared.weaks.Death.{Death}
use Rattle.nmgc_world_spec.specs.World.{World, node_of}
use Rattle.nmgc_heap_spec.specs.Objects.{Place}

-- whether the finaliser of a death joins this maker's queue: the maker made the weak pointer, and the finaliser isn't nil
abbrev pub joins : ℕ → Death → Bool
joins maker death = (death.weak.maker == maker) && not (death.finaliser == NIL_WORD)

-- the words of the finalisers that join this maker's queue, in order
abbrev pub joined : ℕ → List Death → List ℕ
joined maker deaths = map (λ (death : Death). death.finaliser) (filter (joins maker) deaths)

-- queues with room for the deaths: each maker among the deaths has a queue, with room for the finalisers that join it
pub record HaveRoom (deaths : List Death) (queues : List FinQueue) : Type 0 where
  pub makers : (death : Death) → Contains deaths death → death.weak.maker < length queues
  pub room : (maker : ℕ) (queue : FinQueue) → slice_get queues maker ≡ Some queue → length (joined maker deaths) ≤ queue.spare

-- a queue after words joined: it has the words at its end, and its room is less by their number
pub record Joins (old new : FinQueue) (words : List ℕ) : Type 0 where
  pub words_are : new.words ≡ old.words ++ words
  pub spare : new.spare + length words ≡ old.spare

-- the queues after the deaths: each has the finalisers of its maker's deaths at its end, except nil, and that much less room
abbrev pub AllJoin : List Death → List FinQueue → List FinQueue → Type 0
AllJoin deaths old new = (length new ≡ length old) × ((maker : ℕ) (before : FinQueue) → slice_get old maker ≡ Some before → (after : FinQueue) ×
    (slice_get new maker ≡ Some after) × Joins before after (joined maker deaths))

-- the mutators after the deaths: their queues have the finalisers of their deaths, and no other part of a mutator changed
pub record HaveJoined {M : Type 0} (queue : M → FinQueue) (with_queue : M → FinQueue → M) (deaths : List Death) (old new : List M) : Type 0 where
  pub joined : AllJoin deaths (map queue old) (map queue new)
  pub rest : (maker : ℕ) (before : M) → slice_get old maker ≡ Some before → (own : FinQueue) × (slice_get new maker ≡ Some (with_queue before own))

-- the number of listed weak pointers that the mutator made and that are in the snapshot
abbrev pub weak_count : World → ℕ → List Place → ℕ
weak_count snapshot m weaks = count_by (λ (p : Place). (p.name.maker == m) && is_some (node_of snapshot p.name)) weaks
