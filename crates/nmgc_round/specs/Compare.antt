-- Compare-exchange of a field: when it may be taken, and the seat's view after it.
use Rattle.std.specs.Prelude.{◌≡◌, ◌≢◌, ℕ, ◌*◌, ◌<◌, Bool, true, false, List, set, if◌then◌else◌}
use Rattle.nmgc_world_spec.specs.{declared.command.Operand.Operand, declared.command.Command.Command, declared.command.Command.TheVariants.Cas}
use Rattle.nmgc_world_spec.specs.declared.command.Reply.TheVariants as reply
use Rattle.nmgc_object.specs.declared.words.Header.{Header}
use Rattle.nmgc_round.specs.{declared.compare.Exchanged.Exchanged, Ready.CanGive, Ready.Names, Ready.IsWritable, Ready.operand_word}
use Rattle.nmgc_round.specs.declared.compare.Exchanged.TheVariants as outcome
use Rattle.nmgc_round.specs.View.{plain, Opening, Part, Seen, changing, doing, finding, owed_word, answered}

-- a mutator that may do this `cas` of a field, from one word to another
pub record CanExchange (o : Opening) (p : Part) (at index expected w : ℕ) (c : Command) : Type 0 where
  pub gives : CanGive o p c
  pub object : Operand
  pub before : Operand
  pub value : Operand
  pub command : c ≡ Cas object index before value
  pub object_word : operand_word o p object ≡ 2 * at
  pub before_word : operand_word o p before ≡ expected
  pub value_word : operand_word o p value ≡ w
  pub header : Header
  pub names : Names p at header
  pub kind : IsWritable header.kind
  pub within : index < header.fields

-- the view after a `cas`: it found the expected word, swapped it and answers yes, or it answers no and changes nothing
abbrev pub exchanged : Seen → Command → ℕ → Bool → Seen
exchanged v c expected true = changing (λ p. doing (finding p expected) c (plain reply.Yes) (owed_word v.opening.marking expected)) v
exchanged v c expected false = answered v c (plain reply.No)

-- the words after a compare-exchange
abbrev pub words_exchanged : List ℕ → ℕ → ℕ → Bool → List ℕ
words_exchanged words i w hit = if hit then set words i w else words

-- whether a compare-exchange wrote
abbrev pub wrote : Exchanged → Bool
wrote outcome.Yes = true
wrote (outcome.No found) = false

-- a compare-exchange that wrote nothing returns a word other than the expected one
abbrev pub FoundOther : ℕ → Exchanged → Type 0
FoundOther expected outcome.Yes = Unit {0}
FoundOther expected (outcome.No found) = found ≢ expected
