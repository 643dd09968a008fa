-- The heap's words: blocks and their classes, headers and names, and the parts of the heap.
use Rattle.std.specs.List.{range_with_len}
use Rattle.std.specs.Prelude.{count_by, if◌then◌else◌, nat_le, ℕ, ◌*◌, ◌+◌, ◌-◌, ◌/◌, ◌<◌, ◌^◌, ◌≡◌, ◌≤◌}
use Rattle.nmgc_limits.specs.declared.mutators.TheConstants.{SHARED_MAKER}
pub use Rattle.nmgc_limits.specs.Limits.{IsSegmentSize}
use Rattle.nmgc_world_spec.specs.declared.node.Kind.TheVariants.{Arr, Con, Stack, Thunk, Var, Weak}
use Rattle.nmgc_world_spec.specs.{declared.node.Kind.Kind, declared.value.Name.Name}
use Rattle.nmgc_object.specs.declared.size.TheConstants.{DENSE_CLASS, DENSE_WORDS, MAX_CLASS, MIN_BLOCK_WORDS, NAME_OFFSET}
use Rattle.nmgc_object.specs.declared.words.TheConstants.{FIELDS_UNIT, MAX_FIELDS, MAX_THUNK_FIELDS, SERIAL_UNIT, TAGS, TAG_UNIT, VAR_FIELDS, WEAK_FIELDS}
use Rattle.nmgc_object.specs.{declared.layout.Layout.Layout, declared.layout.TheConstants.FIRST_PLACE, declared.words.Header.Header}

-- the words of a block of a class: four in class 0, and one more from class to class, up to sixteen in class 12. From there
-- they double from class to class, up to 4,096 in class 20
abbrev pub block_size : ℕ → ℕ
block_size class = if nat_le class DENSE_CLASS then class + MIN_BLOCK_WORDS else DENSE_WORDS * 2 ^ (class - DENSE_CLASS)

-- the class of an object: the least class whose block holds its words
pub record IsClassOf (words class : ℕ) : Type 0 where
  pub holds : words ≤ block_size class
  pub least : (smaller : ℕ) → smaller < class → block_size smaller < words

-- the address of an object's name, which is its second word
abbrev pub name_place : ℕ → ℕ
name_place at = at + NAME_OFFSET

-- the number of a kind in a header word
abbrev pub kind_number : Kind → ℕ
kind_number Con = 1
kind_number Var = 2
kind_number Arr = 3
kind_number Thunk = 4
kind_number Weak = 5
kind_number Stack = 6

-- the tags of a kind: only constructors have tags other than 0
abbrev pub HasTag : Kind → ℕ → Type 0
HasTag Con tag = tag < TAGS
HasTag Var tag = tag ≡ 0
HasTag Arr tag = tag ≡ 0
HasTag Thunk tag = tag ≡ 0
HasTag Weak tag = tag ≡ 0
HasTag Stack tag = tag ≡ 0

-- the numbers of fields that an object of the kind may have
abbrev pub HasFields : Kind → ℕ → Type 0
HasFields Con fields = fields ≤ MAX_FIELDS
HasFields Var fields = fields ≡ VAR_FIELDS
HasFields Arr fields = fields ≤ MAX_FIELDS
HasFields Thunk fields = (1 ≤ fields) × (fields ≤ MAX_THUNK_FIELDS)
HasFields Weak fields = fields ≡ WEAK_FIELDS
HasFields Stack fields = fields ≤ MAX_FIELDS

-- a valid header: its kind allows the tag and the number of fields
abbrev pub IsHeader : Header → Type 0
IsHeader header = HasTag header.kind header.tag × HasFields header.kind header.fields

-- the word of a header
abbrev pub header_word : Header → ℕ
header_word header = kind_number header.kind + TAG_UNIT * header.tag + FIELDS_UNIT * header.fields

-- a valid name: an object may have it. The maker is a mutator or `SHARED_MAKER`, whose only object is g, with serial 0
abbrev pub IsName : Name → Type 0
IsName name = (name.maker ≤ SHARED_MAKER) × (name.serial < 2 ^ 32) × (name.maker ≡ SHARED_MAKER → name.serial ≡ 0)

-- the word of a name
abbrev pub name_word : Name → ℕ
name_word name = SERIAL_UNIT * name.serial + name.maker

-- the address of a segment's first word
abbrev pub segment_place : Layout → ℕ → ℕ
segment_place layout segment = FIRST_PLACE + segment * layout.words

-- the address of the first word of a mutator's nursery
abbrev pub nursery_place : Layout → ℕ → ℕ
nursery_place layout mutator = FIRST_PLACE + layout.segments * layout.words + mutator * layout.nursery

-- the number of words of the heap
abbrev pub word_total : Layout → ℕ
word_total layout = FIRST_PLACE + layout.segments * layout.words + layout.mutators * layout.nursery

-- the number of classes (K) whose blocks fit into a segment. It is 13 if a segment has 16 words, and one more each time the
-- segment's words double (a law: `nmgc_run_laws`'s `Statements.ClassesAreCounted`)
abbrev pub class_count : Layout → ℕ
class_count layout = count_by (λ class. nat_le (block_size class) layout.words) (range_with_len 0 (MAX_CLASS + 1))

-- the reserve (R): the number of free segments that suffices to promote every nursery. It is twice the words of all nurseries
-- divided by the words of a segment, rounded down, plus one segment for each mutator and class
abbrev pub reserve_count : Layout → ℕ
reserve_count layout = 2 * layout.mutators * layout.nursery / layout.words + class_count layout * layout.mutators

-- a word of a segment
pub record InSegment (layout : Layout) (segment at : ℕ) : Type 0 where
  pub exists : segment < layout.segments
  pub from : segment_place layout segment ≤ at
  pub before : at < segment_place layout segment + layout.words

-- a word of a mutator's nursery
pub record InNursery (layout : Layout) (mutator at : ℕ) : Type 0 where
  pub exists : mutator < layout.mutators
  pub from : nursery_place layout mutator ≤ at
  pub before : at < nursery_place layout mutator + layout.nursery
