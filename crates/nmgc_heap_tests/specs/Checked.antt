-- The conditions of promotion that a walk through the words of a heap can test: only tests cite this file.
--
-- The sizes give for each word of the nurseries the number of words of the object that begins there, or 0.
use Rattle.std.specs.Prelude.{ℕ, ◌≡◌, ◌≢◌, ◌+◌, ◌-◌, ◌*◌, ◌<◌, ◌≤◌, List, [], length, slice_index, Contains}
use Rattle.nmgc_world_spec.specs.declared.value.Name.{Name}
use Rattle.nmgc_object.specs.{Words.header_word, Words.name_word, Words.IsHeader, Words.IsName, Words.nursery_place, declared.layout.Layout.Layout, declared.layout.Nursery.Nursery, declared.words.Header.Header, declared.size.TheConstants.HEADER_WORDS, declared.words.Address.Address}
use Rattle.nmgc_stop_spec.specs.{Nurseries.nursery_at, Samples.young_registers}
use Rattle.nmgc_minor.specs.Inputs.{Inputs}
use Rattle.nmgc_mutator.specs.declared.mutator.Mutator.{Mutator}

-- the word points well: if it points to the nurseries, an object begins there
abbrev pub PointsWell : ℕ → List ℕ → ℕ → Type 0
PointsWell base sizes word = (at : ℕ) → word ≡ 2 * at → base ≤ at → slice_index sizes (at - base) ≢ 0

-- each word that a mutator holds points well, and it recorded fields below the nurseries, and weak pointers
pub record PointsWellAll (base : ℕ) (sizes : List ℕ) (words : ℕ) (m : Mutator) : Type 0 where
  pub registers : (word : ℕ) → Contains m.registers word → PointsWell base sizes word
  pub queue : (word : ℕ) → Contains m.queue.words word → PointsWell base sizes word
  pub recorded : (at : Address) → Contains m.recorded.items at → at.0 < base
  pub weaks : (at : Address) → Contains m.young_weaks.items at → PointsWell base sizes (2 * at.0) × (at.0 + 5 ≤ words)

-- an object begins at the word: its header with its size, its name, and its words in the used part of its maker's nursery
pub record IsMade (layout : Layout) (base : ℕ) (words sizes : List ℕ) (nurseries : List Nursery) (k : ℕ) : Type 0 where
  pub header : Header
  pub valid : IsHeader header
  pub read : slice_index words (base + k) ≡ header_word header
  pub size : slice_index sizes k ≡ HEADER_WORDS + header.fields
  pub small : slice_index sizes k ≤ layout.words
  pub name : Name
  pub named : IsName name
  pub known : slice_index words (base + k + 1) ≡ name_word name
  pub maker : name.maker < layout.mutators
  pub above : (nursery_at nurseries name.maker).base ≤ base + k
  pub below : base + k + slice_index sizes k ≤ (nursery_at nurseries name.maker).top

-- the nurseries are the mutators' parts of the words
pub record AreParts (layout : Layout) (nurseries : List Nursery) : Type 0 where
  pub count : length nurseries ≡ layout.mutators
  pub places : (maker : ℕ) → maker < layout.mutators → (nursery_at nurseries maker).base ≡ nursery_place layout maker
  pub tops : (maker : ℕ) → maker < layout.mutators → ((nursery_at nurseries maker).base ≤ (nursery_at nurseries maker).top) ×
      ((nursery_at nurseries maker).top ≤ (nursery_at nurseries maker).base + layout.nursery)

-- the first `count` words have objects, which lie one after another
pub record AreMade (layout : Layout) (base : ℕ) (words sizes : List ℕ) (nurseries : List Nursery) (count : ℕ) : Type 0 where
  pub each : (k : ℕ) → k < count → slice_index sizes k ≢ 0 → IsMade layout base words sizes nurseries k
  pub apart : (j k : ℕ) → j < k → k < count → slice_index sizes j ≢ 0 → slice_index sizes k ≢ 0 → j + slice_index sizes j ≤ k

-- all conditions of promotion except those on segments
pub record IsChecked (layout : Layout) (base : ℕ) (words sizes : List ℕ) (nurseries : List Nursery) (inputs : Inputs) : Type 0 where
  pub begins : base ≡ nursery_place layout 0
  pub size : length sizes ≡ layout.mutators * layout.nursery
  pub long : base + layout.mutators * layout.nursery ≤ length words
  pub parts : AreParts layout nurseries
  pub objects : AreMade layout base words sizes nurseries (length sizes)
  pub words_point : (k : ℕ) → k < length words → PointsWell base sizes (slice_index words k)
  pub registers : (word : ℕ) → Contains inputs.registers word → PointsWell base sizes word
  pub queues : (queue : List ℕ) (word : ℕ) → Contains inputs.queues queue → Contains queue word → PointsWell base sizes word
  pub recorded : (at : ℕ) → Contains inputs.recorded at → at < base
  pub weaks : (at : ℕ) → Contains inputs.weaks at → PointsWell base sizes (2 * at) × (at + 5 ≤ length words)

-- the mutator whose round made one object: it holds the object, which is in its nursery
pub record IsYoungMutator (m : Mutator) : Type 0 where
  pub registers : m.registers ≡ young_registers
  pub queue : m.queue.words ≡ []
  pub nursery : m.nursery ≡ record { base = 2080; top = 2083; end = 2144 }
  pub recorded : m.recorded.items ≡ []
  pub weaks : m.young_weaks.items ≡ []
