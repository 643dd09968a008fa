-- A slot of a mutator's own stack: when it may be loaded or swapped, and the seat's view after that.
use Rattle.std.specs.Prelude.{◌≡◌, ◌≢◌, ◌⊎◌, ℕ, ◌+◌, ◌*◌, ◌<◌, ◌≤◌, List, length, slice_index, Contains, Some}
use Rattle.nmgc_world_spec.specs.{declared.value.Name.Name, declared.command.Operand.Operand, declared.command.Command.Command, declared.command.Command.TheVariants.Push, declared.command.Command.TheVariants.Pop, declared.command.Reply.Reply, declared.command.Reply.TheVariants.Fine, declared.command.Reply.TheVariants.StackFull, declared.command.Reply.TheVariants.StackEmpty}
use Rattle.nmgc_world_spec.specs.declared.node.Kind.TheVariants as kind
use Rattle.nmgc_object.specs.{Words.name_word, Words.IsName, declared.words.Header.Header, declared.layout.TheConstants.SHARED_PLACE}
use Rattle.nmgc_round.specs.View.{plain, word, Opening, Part, Seen, hand_now, changing, doing, finding, owed_word, loaded, answered}
use Rattle.nmgc_round.specs.{Own.slots_at, Ready.CanGive, Ready.Names, Ready.operand_word}

-- an operand that refers to a stack that this mutator made: the seat names its header and its name
pub record IsOwn (o : Opening) (p : Part) (at : ℕ) : Type 0 where
  pub object : Operand
  pub object_word : operand_word o p object ≡ 2 * at
  pub header : Header
  pub names : Names p at header
  pub is_stack : header.kind ≡ kind.Stack
  pub name : Name
  pub valid : IsName name
  pub named : Contains p.fixed (record { at = at; offset = 1; word = name_word name })
  pub own : name.maker ≡ p.number

-- a mutator that may load this slot of a stack of its own
pub record CanPeek (o : Opening) (p : Part) (at slot : ℕ) : Type 0 where
  pub stack : IsOwn o p at
  pub within : slot < stack.header.fields

-- the word that a load of a slot finds: the one that the mutator's rows leave there, and 0 exactly past the top. There are no
-- more words than slots. The load adds nothing to the view
pub record FindsSlot (o : Opening) (p : Part) (at slot w : ℕ) : Type 0 where
  pub words : List ℕ
  pub listed : slots_at (hand_now o p).stacks at ≡ Some words
  pub is_word : w ≡ slice_index words slot
  pub set : slot < length words → w ≢ 0
  pub most : (header : Header) → Names p at header → length words ≤ header.fields

-- a mutator that may `push` this word: it fills the first slot without a word
pub record CanPush (o : Opening) (p : Part) (at slot w : ℕ) (c : Command) : Type 0 where
  pub gives : CanGive o p c
  pub stack : IsOwn o p at
  pub value : Operand
  pub command : c ≡ Push stack.object value
  pub value_word : operand_word o p value ≡ w
  pub first : (ws : List ℕ) → slots_at (hand_now o p).stacks at ≡ Some ws → slot ≡ length ws
  pub within : slot < stack.header.fields

-- a mutator that may `pop`: it empties the last slot with a word
pub record CanPop (o : Opening) (p : Part) (at slot : ℕ) (c : Command) : Type 0 where
  pub gives : CanGive o p c
  pub stack : IsOwn o p at
  pub dest : ℕ
  pub command : c ≡ Pop dest stack.object
  pub last : (ws : List ℕ) → slots_at (hand_now o p).stacks at ≡ Some ws → slot + 1 ≡ length ws

-- a push or a pop: a pop leaves 0
abbrev pub CanSlot : Opening → Part → ℕ → ℕ → ℕ → Command → Type 0
CanSlot o p at slot w c = CanPush o p at slot w c ⊎ (CanPop o p at slot c × (w ≡ 0))

-- the view after a `push` or `pop` that found this word in the slot: a popped word is owed
abbrev pub slot_swapped : Seen → Command → ℕ → Seen
slot_swapped v (Pop dest object) n = changing (λ p. doing (finding p n) (Pop dest object) (word n) (owed_word v.opening.marking n)) v
slot_swapped v c n = answered v c (plain Fine)

-- a refused `push`: the operand refers to a full stack of the mutator's own (a stack without slots is always full)
pub record RefusesPush (o : Opening) (p : Part) (at : ℕ) (c : Command) : Type 0 where
  pub gives : CanGive o p c
  pub stack : IsOwn o p at
  pub value : Operand
  pub command : c ≡ Push stack.object value
  pub full : (ws : List ℕ) → slots_at (hand_now o p).stacks at ≡ Some ws → stack.header.fields ≤ length ws

-- a refused `pop`: the operand refers to an empty stack of the mutator's own (a stack without slots is always empty)
pub record RefusesPop (o : Opening) (p : Part) (at : ℕ) (c : Command) : Type 0 where
  pub gives : CanGive o p c
  pub stack : IsOwn o p at
  pub dest : ℕ
  pub command : c ≡ Pop dest stack.object
  pub empty : (ws : List ℕ) → slots_at (hand_now o p).stacks at ≡ Some ws → 0 < stack.header.fields → length ws ≡ 0

-- a refused push or a refused pop
abbrev pub IsRefusedSlot : Opening → Part → ℕ → Command → Type 0
IsRefusedSlot o p at c = RefusesPush o p at c ⊎ RefusesPop o p at c

-- the reply to a refused `push` or `pop`
abbrev pub slot_refusal_reply : Command → Reply
slot_refusal_reply (Push object v) = StackFull
slot_refusal_reply c = StackEmpty

-- the view after a refused `push` or `pop`, which names the header of g, with this word
abbrev pub slot_refused : Seen → Command → ℕ → Seen
slot_refused v c w = loaded (answered v c (plain (slot_refusal_reply c))) SHARED_PLACE 0 w
