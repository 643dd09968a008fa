-- Commands whose position is the load of the header of g, and their answers (`known_answer`, `TakesPlace`, `CanAnswer`). See
-- Note [Where a command takes its place in the order] in `nmgc_mutator/src/commands.rt`. They read no changing word. A
-- refusal depends on the operand's word, on the header of the command's object, or on the maker in its name. At the end: the
-- facts that loads show.
use Rattle.std.specs.Prelude.{◌≡◌, ◌≢◌, ◌⊎◌, ℕ, zero, suc, ◌+◌, ◌<◌, ◌*◌, ◌/◌, ◌%◌, ◌≤◌, ◌==◌, ◌&&◌, nat_le, List, [], ◌∷◌, Contains, Some, slice_get, if◌then◌else◌}
use Rattle.nmgc_world_spec.specs.{declared.value.Name.Name, declared.node.Node.Node, declared.command.Operand.Operand, declared.command.Command.Command, declared.command.Reply.Reply, World.node_of}
use Rattle.nmgc_world_spec.specs.declared.node.Kind.TheVariants as kind
use Rattle.nmgc_world_spec.specs.declared.command.Command.TheVariants.{Num, Nil, Mov, Get, Tag, Set, Cas, Update, Force, Push, Pop, Deref, Finalise, NextFin, Show, Same, Yield, Collect, Full}
use Rattle.nmgc_world_spec.specs.declared.command.Reply.TheVariants.{Fine, Yes, No, NoPointer, NoField, WrongKind, NotOwner, Fixed, Nothing}
use Rattle.nmgc_object.specs.{Words.kind_number, Words.header_word, Words.name_word, Words.IsHeader, Words.IsName, Words.word_total, declared.words.Header.Header, declared.words.TheConstants.TAG_UNIT, declared.words.TheConstants.TAGS, declared.words.TheConstants.ZERO_WORD, declared.size.TheConstants.HEADER_WORDS, declared.layout.TheConstants.SHARED_PLACE}
use Rattle.nmgc_snapshot_laws.specs.declared.event.Entry.{Entry}
use Rattle.nmgc_heap_spec.specs.{Changes.MayChange, Objects.header_of, Objects.size_of}
use Rattle.nmgc_round.specs.{Marking.marks_after, Ready.CanGive, Ready.CanLoad, Ready.Names, Ready.IsReadable, Ready.IsWritable, Ready.operand_word, Ready.first_of}
use Rattle.nmgc_round.specs.View.{Answer, plain, word, FixedWord, Hand, Opening, Part, Seen, hand_now, word_of, changing, doing, loaded, answered}

-- the header word that is named at an address, or 0
abbrev pub header_at : List FixedWord → ℕ → ℕ
header_at [] at = 0
header_at (f ∷ fs) at = if (f.at == at) && (f.offset == 0) then f.word else header_at fs at

-- the reason for which `get` and `set` are refused at an object with this header word
abbrev pub get_refusal : ℕ → Reply
get_refusal header = if nat_le (header % TAG_UNIT) (kind_number kind.Arr) then NoField else WrongKind

abbrev pub set_refusal : ℕ → Reply
set_refusal header = if header % TAG_UNIT == kind_number kind.Con then Fixed else get_refusal header

-- the reason for which `push` and `pop` are refused at an object with this header word that is no stack of this mutator
abbrev pub owner_refusal : ℕ → Reply
owner_refusal header = if header % TAG_UNIT == kind_number kind.Stack then NotOwner else WrongKind

-- the answer of `nextfin` by a finaliser queue: its first word, or nothing if the queue is empty
abbrev pub first_answer : List ℕ → Answer
first_answer [] = plain Nothing
first_answer (w ∷ ws) = word w

-- a refusal at the object to which a word refers, if it refers to one
abbrev pub refused : List FixedWord → ℕ → (ℕ → Reply) → Answer
refused fixed w refusal = if w % 2 == 0 then plain (refusal (header_at fixed (w / 2))) else plain NoPointer

-- the answer of `tag` by a header word: a constructor's tag as a number, or a refusal
abbrev pub tag_answer : ℕ → Answer
tag_answer header = if header % TAG_UNIT == kind_number kind.Con then word (2 * (header / TAG_UNIT % TAGS) + ZERO_WORD) else plain WrongKind

-- the answer of `tag` at the object to which a word refers, if it refers to one
abbrev pub tag_at : List FixedWord → ℕ → Answer
tag_at fixed w = if w % 2 == 0 then tag_answer (header_at fixed (w / 2)) else plain NoPointer

-- the answer of a command whose position is the load of the header of g
abbrev pub known_answer : Hand → List FixedWord → Command → Answer
known_answer h fixed (Get dest object index) = refused fixed (word_of h.registers object) get_refusal
known_answer h fixed (Tag dest object) = tag_at fixed (word_of h.registers object)
known_answer h fixed (Set object index v) = refused fixed (word_of h.registers object) set_refusal
known_answer h fixed (Cas object index expected v) = refused fixed (word_of h.registers object) set_refusal
known_answer h fixed (Update object v) = refused fixed (word_of h.registers object) (λ header. WrongKind)
known_answer h fixed (Force dest object) = refused fixed (word_of h.registers object) (λ header. WrongKind)
known_answer h fixed (Push object v) = refused fixed (word_of h.registers object) owner_refusal
known_answer h fixed (Pop dest object) = refused fixed (word_of h.registers object) owner_refusal
known_answer h fixed (Deref dest object) = refused fixed (word_of h.registers object) (λ header. WrongKind)
known_answer h fixed (Finalise dest object) = refused fixed (word_of h.registers object) (λ header. WrongKind)
known_answer h fixed (NextFin dest) = first_answer h.queue
known_answer h fixed (Show v) = word (word_of h.registers v)
known_answer h fixed (Same left right) = plain (if word_of h.registers left == word_of h.registers right then Yes else No)
known_answer h fixed _ = plain Fine

-- an operand that is refused: its word is no pointer, or its object's header doesn't fit the command. For `tag`, which reads
-- the header alone, each header is as good
abbrev pub IsRefused : Opening → Part → Operand → (Header → Type 0) → Type 0
IsRefused o p object bad = (operand_word o p object % 2 ≡ 1) ⊎
    ((at : ℕ) × (header : Header) × (operand_word o p object ≡ 2 * at) × Names p at header × bad header)

-- an operand that is a stack of another mutator: the seat names its header and its name
pub record IsForeign (o : Opening) (p : Part) (object : Operand) : Type 0 where
  pub at : ℕ
  pub object_word : operand_word o p object ≡ 2 * at
  pub header : Header
  pub names : Names p at header
  pub is_stack : header.kind ≡ kind.Stack
  pub name : Name
  pub valid : IsName name
  pub named : Contains p.fixed (record { at = at; offset = 1; word = name_word name })
  pub other : name.maker ≢ p.number

-- a command whose position in the order is the load of the header of g
abbrev pub TakesPlace : Opening → Part → Command → Type 0
TakesPlace o p (Num dest n) = Unit {0}
TakesPlace o p (Nil dest) = Unit {0}
TakesPlace o p (Mov dest v) = Unit {0}
TakesPlace o p (Get dest object index) = IsRefused o p object (λ header. IsReadable header.kind → header.fields ≤ index)
TakesPlace o p (Tag dest object) = IsRefused o p object (λ header. Unit {0})
TakesPlace o p (Set object index v) = IsRefused o p object (λ header. IsWritable header.kind → header.fields ≤ index)
TakesPlace o p (Cas object index expected v) = IsRefused o p object (λ header. IsWritable header.kind → header.fields ≤ index)
TakesPlace o p (Update object v) = IsRefused o p object (λ header. header.kind ≡ kind.Thunk → ⊥)
TakesPlace o p (Force dest object) = IsRefused o p object (λ header. header.kind ≡ kind.Thunk → ⊥)
TakesPlace o p (Push object v) = IsRefused o p object (λ header. header.kind ≡ kind.Stack → ⊥) ⊎ IsForeign o p object
TakesPlace o p (Pop dest object) = IsRefused o p object (λ header. header.kind ≡ kind.Stack → ⊥) ⊎ IsForeign o p object
TakesPlace o p (Deref dest object) = IsRefused o p object (λ header. header.kind ≡ kind.Weak → ⊥)
TakesPlace o p (Finalise dest object) = IsRefused o p object (λ header. header.kind ≡ kind.Weak → ⊥)
TakesPlace o p (NextFin dest) = Unit {0}
TakesPlace o p (Show v) = Unit {0}
TakesPlace o p (Same left right) = Unit {0}
TakesPlace o p Yield = Unit {0}
TakesPlace o p Collect = Unit {0}
TakesPlace o p Full = Unit {0}
TakesPlace o p _ = ⊥

-- a command that the mutator may give, and whose position is the load of the header of g
pub record CanAnswer (o : Opening) (p : Part) (c : Command) : Type 0 where
  pub gives : CanGive o p c
  pub known : TakesPlace o p c

-- the view after a command whose position in the order is the load of the header of g
abbrev pub known : Seen → Command → Seen
known v c = changing (λ p. doing p c (known_answer (hand_now v.opening p) p.fixed c) []) v

-- a fixed word that the mutator may load. It is the header or name of an object to which an operand or its own finaliser
-- queue refers, or an unchanging field of an object whose header the seat names
abbrev pub CanFix : Opening → Part → ℕ → ℕ → Type 0
CanFix o p at offset =
    ((object : Operand) × (operand_word o p object ≡ 2 * at) × (offset < HEADER_WORDS))
    ⊎ ((header : Header) × (i : ℕ) × Names p at header × (offset ≡ HEADER_WORDS + i) × (i < header.fields) × (MayChange header.kind i → ⊥))
    ⊎ ((i : ℕ) × (slice_get (hand_now o p).queue i ≡ Some (2 * at)) × (offset < HEADER_WORDS))

-- a command whose position is a fixed load: of the header of g, or of the field of a constructor that it reads
abbrev pub CanTake : Opening → Part → ℕ → ℕ → Command → Type 0
CanTake o p at offset c =
    ((at ≡ SHARED_PLACE) × (offset ≡ 0) × CanAnswer o p c)
    ⊎ ((i : ℕ) × (offset ≡ HEADER_WORDS + i) × ((can : CanLoad o p at i c) × (can.header.kind ≡ kind.Con)))

-- the view after a command whose position is a fixed load that found this word
abbrev pub taken : Seen → ℕ → ℕ → Command → ℕ → Seen
taken v at zero c w = loaded (known v c) at zero w
taken v at (suc offset) c w = loaded (answered v c (word w)) at (suc offset) w

-- a word loaded at offset 0 is a valid header, and its object lies within the heap's words
pub record FindsHeader (o : Opening) (at w : ℕ) : Type 0 where
  pub header : Header
  pub valid : IsHeader header
  pub word_is : w ≡ header_word header
  pub room : at + HEADER_WORDS + header.fields ≤ word_total o.layout

-- a word loaded at offset 1 is a valid name
pub record FindsName (w : ℕ) : Type 0 where
  pub name : Name
  pub valid : IsName name
  pub word_is : w ≡ name_word name

-- the facts that a fixed load shows: a header is valid and its object within the heap's words, and a name is valid
abbrev pub FindsFixed : Opening → ℕ → ℕ → ℕ → Type 0
FindsFixed o at offset w = (offset ≡ 0 → FindsHeader o at w) × (offset ≡ 1 → FindsName w)

-- a word that is no pointer, or points to an object whose header and name are within the heap's words
abbrev pub IsSafe : Opening → ℕ → Type 0
IsSafe o w = (at : ℕ) → w ≡ 2 * at → at + HEADER_WORDS ≤ word_total o.layout

-- each finaliser that waits for the mutator has its header and name within the heap's words
abbrev pub FindsQueue : Opening → Part → Type 0
FindsQueue o p = (i w : ℕ) → slice_get (hand_now o p).queue i ≡ Some w → IsSafe o w

-- a word loaded after header and name is a field: if a pointer, its object's header and name are within the heap's words
pub record FindsField (o : Opening) (offset w : ℕ) : Type 0 where
  pub safe : (i : ℕ) → offset ≡ HEADER_WORDS + i → IsSafe o w

-- the word is the header of the snapshot's node of this name, and that node's words lie within the heap's words
pub record FindsNode (o : Opening) (name : Name) (w : ℕ) : Type 0 where
  pub node : Node
  pub there : node_of o.core.snapshot name ≡ Some node
  pub valid : IsHeader (header_of node)
  pub word_is : w ≡ header_word (header_of node)
  pub room : (at : ℕ) → Contains o.places (record { at = at; name = name }) → at + size_of node ≤ word_total o.layout

-- the facts that a scan of an entry shows: at position 0 the header of the name's node in the snapshot, and later a field
pub record FindsEntry (o : Opening) (entry : Entry) (w : ℕ) : Type 0 where
  pub header : entry.position ≡ 0 → FindsNode o entry.name w
  pub safe : 1 ≤ entry.position → IsSafe o w

-- the facts that the next scan of a view shows: at position 0 the header of the node in the snapshot, and later a field
abbrev pub FindsScan : Seen → ℕ → Type 0
FindsScan v w = FindsEntry v.opening (first_of (marks_after v.opening v.scans).queue) w
