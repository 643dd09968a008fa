-- The heap before any command: g lies in its own words, and there is no other object.
use Rattle.std.specs.Prelude.{◌≡◌, ℕ, ◌+◌, ◌<◌, false, List, [], ◌∷◌, length, replicate, slice_index}
use Rattle.nmgc_limits.specs.declared.mutators.TheConstants.{REGISTERS, SHARED_SLOTS}
use Rattle.nmgc_world_spec.specs.{declared.value.Value.TheVariants.Nil, declared.node.Node.Node, declared.node.Node.TheVariants.Arr, World.new_world, World.shared_name}
use Rattle.nmgc_object.specs.{Words.header_word, Words.name_word, Words.word_total, declared.layout.Layout.Layout, declared.layout.TheConstants.SHARED_PLACE, declared.size.TheConstants.HEADER_WORDS, declared.words.TheConstants.NIL_WORD}
use Rattle.nmgc_snapshot_laws.specs.State.{newest_first, unmarked}
use Rattle.nmgc_heap_spec.specs.Objects.{header_of, HasZeros, shared_place}
use Rattle.nmgc_round.specs.View.{Hand, Opening}

-- g, full of nil
abbrev pub empty_array : Node
empty_array = Arr (replicate SHARED_SLOTS Nil)

-- the words of the empty heap: g in its own words, 0 in other words before the segments, and any words in these
pub record IsEmptyHeap (layout : Layout) (words : List ℕ) : Type 0 where
  pub total : length words ≡ word_total layout
  pub header : slice_index words SHARED_PLACE ≡ header_word (header_of empty_array)
  pub name : slice_index words (SHARED_PLACE + 1) ≡ name_word shared_name
  pub slots : (i : ℕ) → i < SHARED_SLOTS → slice_index words (SHARED_PLACE + HEADER_WORDS + i) ≡ NIL_WORD
  pub zeros : HasZeros words

-- the hand of a mutator that did nothing
abbrev pub new_hand : Hand
new_hand = record { registers = replicate REGISTERS NIL_WORD; queue = []; serial = 0; stacks = [] }

-- the opening of the first round of a run, on the empty heap
abbrev pub first_opening : Layout → Opening
first_opening layout = record {
  layout = layout;
  marking = false;
  core = unmarked newest_first (new_world layout.mutators);
  places = shared_place ∷ [];
  hands = replicate layout.mutators new_hand;
}
