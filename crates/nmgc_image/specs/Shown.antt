-- How the image of a heap is made. These are the terms of the private contracts: only `Shows` says which image shows a heap.
use Rattle.std.specs.Prelude.{◌≡◌, ◌++◌, ℕ, Bool, true, List, length, map, All, Contains, Option, Some, None}
use Rattle.nmgc_limits.specs.declared.mutators.TheConstants.{REGISTERS}
use Rattle.nmgc_world_spec.specs.{Reach.IsInOrder, declared.value.Name.Name}
use Rattle.nmgc_journal.specs.declared.report.MutatorEnd.{MutatorEnd}
use Rattle.nmgc_image.specs.{declared.image.Entry.Entry, declared.image.ImageMutator.ImageMutator, declared.heap_image.Keyed.Keyed, Image.names_of, Image.ListsHeld, Image.entry_words, Printing.printed, Objects.IsObjectAt, Objects.IsReadable, Objects.name_in, Objects.value_in, Objects.value_words_at, Objects.node_read, Reading.is_before, Reading.key_of}

-- an object can be read whole: its header, its words and its values
pub record IsReadableObject (words : List ℕ) (at : ℕ) : Type 0 where
  pub object : IsObjectAt words at
  pub fields : (it : IsObjectAt words at) → All (IsReadable words) (value_words_at words at it.header)

-- the registers and the queue of a mutator can be read
pub record CanShowOwn (words : List ℕ) (own : MutatorEnd) : Type 0 where
  pub registers : All (IsReadable words) own.registers
  pub queue : All (IsReadable words) own.queue
  pub count : length own.registers ≡ REGISTERS

-- the image's mutator shows a mutator of the report: its serial and queue, and its registers that aren't nil
pub record ShowsOwn (words : List ℕ) (own : MutatorEnd) (image : ImageMutator) : Type 0 where
  pub serial : image.serial ≡ own.serial
  pub registers : ListsHeld (map (value_in words) own.registers) image.registers
  pub queue : image.queue ≡ map (value_in words) own.queue

-- the object at an address, with its name as a number
abbrev pub keyed_at : List ℕ → ℕ → Keyed
keyed_at words at = record { key = key_of (name_in words at); at = at }

-- an object that can be read whole, with its own name as a number
pub record IsKeyed (words : List ℕ) (object : Keyed) : Type 0 where
  pub readable : IsReadableObject words object.at
  pub key : object.key ≡ key_of (name_in words object.at)

-- the entry of an image shows the object at an address
pub record IsShownAt (words : List ℕ) (at : ℕ) (entry : Entry) : Type 0 where
  pub name : entry.name ≡ name_in words at
  pub node : (object : IsObjectAt words at) → entry.node ≡ node_read words at object.header

-- the name comes after the last name, or there is no last name
abbrev pub comes_after : Option Name → Name → Bool
comes_after None name = true
comes_after (Some last) name = is_before last name

-- the objects at these addresses, in order of names
pub record ListsObjects (words places : List ℕ) (nodes : List Entry) : Type 0 where
  pub ordered : IsInOrder (names_of nodes)
  pub sound : (entry : Entry) → Contains nodes entry → (at : ℕ) × Contains places at × IsShownAt words at entry
  pub complete : (at : ℕ) → Contains places at → Contains (names_of nodes) (name_in words at)

-- the node lines of the objects at these addresses were appended, in order of names
abbrev pub PrintsObjects : (words places old new : List ℕ) → Type 0
PrintsObjects words places old new = (nodes : List Entry) × ListsObjects words places nodes × (new ≡ old ++ printed (map entry_words nodes))
