-- The inputs and the result of the first pass.
use Rattle.std.specs.Prelude.{ℕ, ◌≡◌, ◌+◌, ◌*◌, ◌<◌, ◌⊎◌, List, length, map, slice_index}
use Rattle.std.specs.List.{flat_map}
use Rattle.nmgc_object.specs.{FinQueue.FinQueue, declared.words.Address.Address, declared.words.TheConstants.WEAK_FIELDS, declared.size.TheConstants.HEADER_WORDS}
use Rattle.nmgc_minor.specs.{declared.young.Young.Young, Inputs.Inputs, Found.IsAliveAt, Found.IsStart, Found.IsFound, Young.IsYoung, Young.IsIn}

-- the words of each queue
abbrev pub words_of : List FinQueue → List (List ℕ)
words_of queues = map (λ (queue : FinQueue). queue.words) queues

-- addresses as numbers
abbrev pub places_of : List Address → List ℕ
places_of addresses = map (λ (at : Address). at.0) addresses

-- the search's inputs, from the queues and addresses that the code has
abbrev pub inputs_of : List ℕ → List FinQueue → List Address → List Address → Inputs
inputs_of registers queues recorded weaks = record {
  registers = registers;
  queues = words_of queues;
  recorded = places_of recorded;
  weaks = places_of weaks;
}

-- the search's inputs that the mutators hold. The functions give the parts of each mutator
abbrev pub inputs_by : {M : Type 0} → (M → List ℕ) → (M → FinQueue) → (M → List Address) → (M → List Address) → List M → Inputs
inputs_by registers queue recorded weaks mutators =
    inputs_of (flat_map registers mutators) (map queue mutators) (flat_map recorded mutators) (flat_map weaks mutators)

-- a pointer to a weak pointer that is alive, or one of the weak pointer's parts
abbrev pub IsWeakStart : List ℕ → Address → ℕ → Type 0
IsWeakStart words at word = IsAliveAt words at.0 × ((2 * at.0 ≡ word) ⊎ ((i : ℕ) × (i < WEAK_FIELDS) × (slice_index words (at.0 + HEADER_WORDS + i) ≡ word)))

-- exactly the nursery objects to be moved were found
pub record Finds (old new : Young) (words : List ℕ) (inputs : Inputs) : Type 0 where
  pub young : IsYoung new
  pub base : new.base ≡ old.base
  pub size : length new.table.items ≡ length old.table.items
  pub kept_room : new.found.spare + length new.found.items ≡ old.found.spare + length old.found.items
  pub sound : (at : ℕ) → IsIn new at → IsFound old.base words (IsStart inputs words) at
  pub complete : (at : ℕ) → IsFound old.base words (IsStart inputs words) at → IsIn new at
