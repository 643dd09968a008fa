-- A small heap at a stop in words: 32 free segments of 64 words, one mutator, and a nursery of 64 words with a new object.
use Rattle.std.specs.Prelude.{ℕ, ◌≡◌, ◌+◌, ◌-◌, ◌<◌, List, [], ◌∷◌, length, replicate, slice_index}
use Rattle.nmgc_world_spec.specs.{declared.command.Command.TheVariants.Num, declared.command.Command.TheVariants.Con, declared.command.Operand.TheVariants.Register, World.World, World.new_world}
use Rattle.nmgc_limits.specs.declared.mutators.TheConstants.{REGISTERS, SHARED_MAKER, SHARED_SLOTS}
use Rattle.nmgc_object.specs.{Words.word_total, Words.nursery_place, declared.layout.Nursery.Nursery, declared.layout.TheConstants.SHARED_PLACE, declared.size.TheConstants.HEADER_WORDS, declared.size.TheConstants.NAME_OFFSET, declared.words.TheConstants.NIL_WORD}
use Rattle.nmgc_alloc.specs.{AllocState.Segments, Segments.IsSegments, Segments.all_free}
use Rattle.nmgc_heap_spec.specs.{Objects.Place, Objects.HasZeros, Objects.shared_place, Samples.small_layout, Samples.after, Samples.own}
use Rattle.nmgc_stop_spec.specs.Stopped.{Stopped, IsStopped}

-- the world after the sample's round: register 1 holds the number 5, and register 0 a constructor of tag 7 with field 5
abbrev pub young_world : World
young_world = after (new_world 1) (Num 1 5 ∷ Con 0 7 (Register 1 ∷ []) ∷ [])

-- the place of the sample's constructor: the beginning of the nursery
abbrev pub young_place : Place
young_place = record { at = nursery_place small_layout 0; name = own 0 }

-- the sample's stop: when its round began, the world had only g
abbrev pub young_stop : Stopped
young_stop = record { world = young_world; began = new_world 1; later = []; places = shared_place ∷ young_place ∷ []; serials = 1 ∷ [] }

-- the sample's words: g with nil in each slot, zeros beside g, and the constructor's header, name and field
pub record HoldsYoung (words : List ℕ) : Type 0 where
  pub total : length words ≡ word_total small_layout
  pub shared_header : slice_index words SHARED_PLACE ≡ 32771
  pub shared_name : slice_index words (SHARED_PLACE + NAME_OFFSET) ≡ SHARED_MAKER
  pub slots : (i : ℕ) → i < SHARED_SLOTS → slice_index words (SHARED_PLACE + HEADER_WORDS + i) ≡ NIL_WORD
  pub header : slice_index words 2080 ≡ 2105
  pub name : slice_index words 2081 ≡ 0
  pub field : slice_index words 2082 ≡ 13
  pub zeros : HasZeros words

-- the sample's registers: a pointer to the constructor, the number 5, and nil in the other registers
abbrev pub young_registers : List ℕ
young_registers = 4160 ∷ 13 ∷ replicate (REGISTERS - 2) 1

-- the sample's nursery, with three words used
abbrev pub young_nurseries : List Nursery
young_nurseries = record { base = 2080; top = 2083; end = 2144 } ∷ []

-- the sample's words represent the sample's stop, with nothing recorded and no weak pointer, whatever the other words are
abbrev pub OneYoung : Type 0
OneYoung = (s : Segments) (words : List ℕ) → IsSegments s → s ≡ all_free small_layout → HoldsYoung words →
    IsStopped young_stop s words young_nurseries young_registers ([] ∷ []) [] []
