-- When a step may be taken, by its seat's view. The step's object is g, or one of the mutator's registers has its address;
-- for a load of a header or name, the mutator's finaliser queue may have it instead. The header on which the answer depends
-- was loaded before, the command fits the layout, and word and field are the operands'.
use Rattle.std.specs.Prelude.{◌≡◌, ◌≢◌, ℕ, ◌+◌, ◌-◌, ◌*◌, ◌<◌, ◌≤◌, ◌^◌, true, false, List, [], ◌∷◌, Contains, slice_get, Some}
use Rattle.nmgc_world_spec.specs.{declared.node.Kind.Kind, declared.command.Operand.Operand, declared.command.Command.Command, declared.command.Command.TheVariants.Get, declared.command.Command.TheVariants.Set, World.Fits, World.words_made, World.shared_name, Known.IsMaking}
use Rattle.nmgc_world_spec.specs.declared.node.Kind.TheVariants as kind
use Rattle.nmgc_object.specs.{Words.header_word, Words.name_word, Words.IsHeader, declared.words.Header.Header, declared.size.TheConstants.HEADER_WORDS, declared.size.TheConstants.NAME_OFFSET}
use Rattle.nmgc_snapshot_laws.specs.{declared.event.Entry.Entry, State.entry_of}
use Rattle.nmgc_round.specs.{Marking.marks_after, Marking.offset_of, Making.header_made, Making.fields_made, Rule.top_of, Rule.limit_of, View.scanning, View.UnbornWord, View.Opening, View.Part, View.Seen, View.hand_now, View.word_of, View.next_of}

-- a seat of one mutator
pub record IsMutator (v : Seen) (p : Part) : Type 0 where
  pub alone : v.parts ≡ p ∷ []
  pub no_collector : v.collects ≡ false

-- a seat of the mutator of this number
abbrev pub HasPart : Seen → ℕ → Type 0
HasPart v m = (p : Part) × IsMutator v p × (p.number ≡ m)

-- a command that the mutator may give: a script for this layout may have it, and there is a serial for one more object
pub record CanGive (o : Opening) (p : Part) (c : Command) : Type 0 where
  pub fits : Fits o.layout.words c
  pub serial : (hand_now o p).serial < 2 ^ 32 - 1

-- the word of an operand of the mutator
abbrev pub operand_word : Opening → Part → Operand → ℕ
operand_word o p operand = word_of (hand_now o p).registers operand

-- the seat names the header at an address
pub record Names (p : Part) (at : ℕ) (header : Header) : Type 0 where
  pub valid : IsHeader header
  pub there : Contains p.fixed (record { at = at; offset = 0; word = header_word header })

-- kinds with fields that `set` writes, and that `get` reads
abbrev pub IsWritable : Kind → Type 0
IsWritable kind.Var = Unit {0}
IsWritable kind.Arr = Unit {0}
IsWritable _ = ⊥

abbrev pub IsReadable : Kind → Type 0
IsReadable kind.Con = Unit {0}
IsReadable kind.Var = Unit {0}
IsReadable kind.Arr = Unit {0}
IsReadable _ = ⊥

-- a mutator that may do this `set` of a field to this word
pub record CanSwap (o : Opening) (p : Part) (at index w : ℕ) (c : Command) : Type 0 where
  pub gives : CanGive o p c
  pub object : Operand
  pub value : Operand
  pub command : c ≡ Set object index value
  pub object_word : operand_word o p object ≡ 2 * at
  pub value_word : operand_word o p value ≡ w
  pub header : Header
  pub names : Names p at header
  pub kind : IsWritable header.kind
  pub within : index < header.fields

-- a mutator that may do this `get` of a field
pub record CanLoad (o : Opening) (p : Part) (at index : ℕ) (c : Command) : Type 0 where
  pub gives : CanGive o p c
  pub dest : ℕ
  pub object : Operand
  pub command : c ≡ Get dest object index
  pub object_word : operand_word o p object ≡ 2 * at
  pub header : Header
  pub names : Names p at header
  pub kind : IsReadable header.kind
  pub within : index < header.fields

-- a word in the unused rest of the mutator's nursery to which nothing was stored yet
pub record CanStore (o : Opening) (p : Part) (at : ℕ) : Type 0 where
  pub from : top_of o p ≤ at
  pub to : at < limit_of o p.number
  pub fresh : (u : UnbornWord) → Contains p.unborn u → u.at ≢ at

-- a new object whose name and fields were stored at its address, before its header
pub record CanBear (o : Opening) (p : Part) (at header : ℕ) (c : Command) : Type 0 where
  pub gives : CanGive o p c
  pub makes : IsMaking c
  pub header_is : header ≡ header_word (header_made c)
  pub from : at ≡ top_of o p
  pub to : at + words_made c ≤ limit_of o p.number
  pub name : Contains p.unborn (record { at = at + NAME_OFFSET; word = name_word (next_of o p) })
  pub fields : (i w : ℕ) → slice_get (fields_made (hand_now o p).registers c) i ≡ Some w → Contains p.unborn (record { at = at + HEADER_WORDS + i; word = w })

-- a seat of one mutator, whose opening and part have this property
abbrev pub Mutates : (Opening → Part → Type 0) → Seen → Type 0
Mutates R v = (p : Part) × IsMutator v p × R v.opening p

-- a collector whose next scan is at this address and offset: the first queue entry's object, and the entry's next position
pub record CanScan (v : Seen) (at offset : ℕ) : Type 0 where
  pub collects : v.collects ≡ true
  pub entry : Entry
  pub rest : List Entry
  pub first : (marks_after v.opening v.scans).queue ≡ entry ∷ rest
  pub there : Contains v.opening.places (record { at = at; name = entry.name })
  pub position : offset ≡ offset_of entry.position

-- the first entry of a queue
abbrev pub first_of : List Entry → Entry
first_of [] = entry_of shared_name
first_of (entry ∷ rest) = entry

-- the view of a collector after a scan that found this word
abbrev pub scanned_by : Seen → ℕ → Seen
scanned_by v w = scanning v (record { entry = first_of (marks_after v.opening v.scans).queue; word = w })
