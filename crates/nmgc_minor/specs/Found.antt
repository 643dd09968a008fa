-- The nursery objects that are promoted: a least set, defined on the words alone.
--
-- Nursery objects lie from the word `base` on. At a stop the set is the world's promoted objects, as `promote` promises.
use Rattle.std.specs.Prelude.{ℕ, ◌≡◌, ◌≢◌, ◌+◌, ◌*◌, ◌<◌, ◌≤◌, List, slice_index, Contains}
use Rattle.nmgc_limits.specs.declared.mutators.TheConstants.{SHARED_SLOTS}
use Rattle.nmgc_object.specs.{declared.layout.TheConstants.SHARED_PLACE, declared.words.TheConstants.WEAK_FIELDS, declared.size.TheConstants.HEADER_WORDS}
use Rattle.nmgc_minor.specs.Inputs.{Inputs}
use Rattle.nmgc_stop_spec.specs.Strong.{HasStrong}

-- a weak pointer that is alive lies at the address: its value is set
abbrev pub IsAliveAt : List ℕ → ℕ → Type 0
IsAliveAt words at = slice_index words (at + HEADER_WORDS + 1) ≢ 0

-- a word at which the search starts: a root, a slot of g, a recorded field, a live new weak pointer, or a part of it
pub data IsStart (inputs : Inputs) (words : List ℕ) (word : ℕ) : Type 0 where
  register : Contains inputs.registers word → IsStart inputs words word
  queued : (queue : List ℕ) → Contains inputs.queues queue → Contains queue word → IsStart inputs words word
  shared : (i : ℕ) → i < SHARED_SLOTS → slice_index words (SHARED_PLACE + HEADER_WORDS + i) ≡ word → IsStart inputs words word
  recorded : (at : ℕ) → Contains inputs.recorded at → slice_index words at ≡ word → IsStart inputs words word
  weak : (at : ℕ) → Contains inputs.weaks at → IsAliveAt words at → 2 * at ≡ word → IsStart inputs words word
  part : (at i : ℕ) → Contains inputs.weaks at → IsAliveAt words at → i < WEAK_FIELDS → slice_index words (at + HEADER_WORDS + i) ≡ word →
      IsStart inputs words word

-- the found nursery objects: a word at which the search starts points to them, or a strong field of a found object does
pub data IsFound (base : ℕ) (words : List ℕ) (Starts : ℕ → Type 0) : ℕ → Type 0 where
  start : (at : ℕ) → base ≤ at → Starts (2 * at) → IsFound base words Starts at
  field : (from at : ℕ) → IsFound base words Starts from → base ≤ at → HasStrong words from (2 * at) → IsFound base words Starts at
