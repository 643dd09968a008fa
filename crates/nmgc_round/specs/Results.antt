-- The result of a thunk: when it may be loaded or set, and the seat's view after that.
use Rattle.std.specs.Prelude.{◌≡◌, ℕ, ◌+◌, ◌-◌, ◌*◌, ◌/◌, ◌<◌, ◌==◌, Bool, true, false, List, Contains, if◌then◌else◌}
use Rattle.nmgc_world_spec.specs.declared.node.Kind.TheVariants as kind
use Rattle.nmgc_world_spec.specs.{declared.command.Operand.Operand, declared.command.Command.Command, declared.command.Command.TheVariants.Update, declared.command.Command.TheVariants.Force, declared.command.Reply.TheVariants.Updated, declared.command.Reply.TheVariants.Already, declared.command.Reply.TheVariants.Nothing}
use Rattle.nmgc_object.specs.{declared.words.Header.Header, declared.words.TheConstants.FIELDS_UNIT, declared.size.TheConstants.HEADER_WORDS}
use Rattle.nmgc_round.specs.{View.Answer, View.plain, View.word, View.Opening, View.Part, View.Seen, View.answered, Ready.CanGive, Ready.Names, Ready.operand_word, Known.header_at, Owing.fixed_from, Owing.owing}

-- a mutator that may do this `force` of the thunk at this address
pub record CanForce (o : Opening) (p : Part) (at : ℕ) (c : Command) : Type 0 where
  pub gives : CanGive o p c
  pub dest : ℕ
  pub object : Operand
  pub command : c ≡ Force dest object
  pub object_word : operand_word o p object ≡ 2 * at
  pub header : Header
  pub names : Names p at header
  pub kind : header.kind ≡ kind.Thunk

-- a mutator that may do this `update` of the thunk at this address to this word: its seat has loaded each free variable
pub record CanUpdate (o : Opening) (p : Part) (at w : ℕ) (c : Command) : Type 0 where
  pub gives : CanGive o p c
  pub object : Operand
  pub value : Operand
  pub command : c ≡ Update object value
  pub object_word : operand_word o p object ≡ 2 * at
  pub value_word : operand_word o p value ≡ w
  pub header : Header
  pub names : Names p at header
  pub kind : header.kind ≡ kind.Thunk
  pub free : (i : ℕ) → i + 1 < header.fields → (n : ℕ) × Contains p.fixed (record { at = at; offset = HEADER_WORDS + 1 + i; word = n })

-- the answer by the word of a result: an unset word is no result
abbrev pub result_answer : ℕ → Answer
result_answer w = if w == 0 then plain Nothing else word w

-- the view after a load of a result that found this word
abbrev pub forced : Seen → Command → ℕ → Seen
forced v c w = answered v c (result_answer w)

-- the free variables of the thunk at an address, as the fixed words of a part name them
abbrev pub free_named : ℕ → Part → List ℕ
free_named at p = fixed_from p.fixed at (HEADER_WORDS + 1) (header_at p.fixed at / FIELDS_UNIT - 1)

-- the view after a compare-exchange of a result: if it was unset, the free variables are taken out, and owed while marking
abbrev pub updated : Seen → ℕ → Command → Bool → Seen
updated v at c true = owing v c (plain Updated) (free_named at)
updated v at c false = answered v c (plain Already)
