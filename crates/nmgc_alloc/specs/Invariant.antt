-- The invariant of an allocation state, names without a block, and the words that a placing writes.
use Rattle.std.specs.Prelude.{ℕ, ◌≡◌, ◌+◌, ◌/◌, ◌<◌, ◌≤◌, ◌⊎◌, List, length, slice_index}
use Rattle.nmgc_world_spec.specs.declared.value.Name.{Name}
use Rattle.nmgc_object.specs.{declared.layout.Layout.Layout, Words.block_size, Words.name_place, Words.name_word}
use Rattle.nmgc_alloc.specs.AllocState.{no_cells, AllocState, cells, AreNames, LiesIn, IsIn, IsOf, count_in}
use Rattle.nmgc_segment.specs.declared.state.State.TheVariants as stands

-- a name that lies in some block
abbrev pub HasBlock : AllocState → Name → Type 0
HasBlock allocation name = (number : ℕ) × (block : ℕ) × LiesIn allocation number block name

-- the invariant of an allocation state of a layout: names are valid, free segments have none, others have an entry for each
-- block that fits. A mutator has at most one current segment of a class; `fresh` is at most the number of filled segments
pub record IsAllocState (layout : Layout) (allocation : AllocState) : Type 0 where
  pub count : length allocation.segments ≡ layout.segments
  pub names : AreNames allocation
  pub free : (number : ℕ) → IsIn stands.Free (cells allocation number) → cells allocation number ≡ no_cells
  pub class : (number : ℕ) → (IsIn stands.Free (cells allocation number) → ⊥) → block_size (cells allocation number).class ≤ layout.words
  pub blocks : (number : ℕ) → (IsIn stands.Free (cells allocation number) → ⊥) →
      length (cells allocation number).names ≡ layout.words / block_size (cells allocation number).class
  pub one_current : (mutator class a b : ℕ) → IsOf (stands.Current mutator) class (cells allocation a) →
      IsOf (stands.Current mutator) class (cells allocation b) → a ≡ b
  pub fresh : allocation.fresh ≤ count_in stands.Filled allocation

-- each name lies in at most one block
abbrev pub LieOnce : AllocState → Type 0
LieOnce allocation = (a b other_a other_b : ℕ) (name : Name) → LiesIn allocation a b name → LiesIn allocation other_a other_b name → (a ≡ other_a) ×
    (b ≡ other_b)

-- a name that lies in no block
abbrev pub LiesNowhere : AllocState → Name → Type 0
LiesNowhere allocation name = (number block : ℕ) → LiesIn allocation number block name → ⊥

-- words before and after an object is written at an address: its second word is its name, and words outside its block stay
pub record Writes (old new : List ℕ) (at class : ℕ) (name : Name) : Type 0 where
  pub length : length new ≡ length old
  pub second : slice_index new (name_place at) ≡ name_word name
  pub others : (i : ℕ) → (i < at) ⊎ (at + block_size class ≤ i) → slice_index new i ≡ slice_index old i
