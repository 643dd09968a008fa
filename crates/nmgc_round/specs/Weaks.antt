-- The value of a weak pointer: when it may be loaded or taken, and the seat's view after that.
use Rattle.std.specs.Prelude.{◌≡◌, ℕ, ◌+◌, ◌*◌, ◌==◌, [], ◌∷◌, Contains, if◌then◌else◌}
use Rattle.nmgc_world_spec.specs.declared.node.Kind.TheVariants as kind
use Rattle.nmgc_world_spec.specs.{declared.command.Operand.Operand, declared.command.Command.Command, declared.command.Command.TheVariants.Deref, declared.command.Command.TheVariants.Finalise, declared.command.Reply.TheVariants.Dead}
use Rattle.nmgc_object.specs.{declared.words.Header.Header, declared.size.TheConstants.HEADER_WORDS}
use Rattle.nmgc_round.specs.View.{plain, word, Opening, Part, Seen, changing, doing, owed_word, finding}
use Rattle.nmgc_round.specs.{Ready.CanGive, Ready.Names, Ready.operand_word, Owing.fixed_at, Owing.owed_words, Owing.finding_all}

-- a mutator that may do this `deref` of the weak pointer at this address
pub record CanDeref (o : Opening) (p : Part) (at : ℕ) (c : Command) : Type 0 where
  pub gives : CanGive o p c
  pub dest : ℕ
  pub object : Operand
  pub command : c ≡ Deref dest object
  pub object_word : operand_word o p object ≡ 2 * at
  pub header : Header
  pub names : Names p at header
  pub kind : header.kind ≡ kind.Weak

-- a mutator that may do this `finalise` of the weak pointer at this address: its seat has loaded the finaliser
pub record CanFinalise (o : Opening) (p : Part) (at : ℕ) (c : Command) : Type 0 where
  pub gives : CanGive o p c
  pub dest : ℕ
  pub object : Operand
  pub command : c ≡ Finalise dest object
  pub object_word : operand_word o p object ≡ 2 * at
  pub header : Header
  pub names : Names p at header
  pub kind : header.kind ≡ kind.Weak
  pub finaliser : (n : ℕ) × Contains p.fixed (record { at = at; offset = HEADER_WORDS + 2; word = n })

-- the finaliser of the weak pointer at an address, as the part names it
abbrev pub finaliser_named : ℕ → Part → ℕ
finaliser_named at p = fixed_at p.fixed at (HEADER_WORDS + 2)

-- the part after a `deref` that found this word: a value is owed, and an unset word means a dead weak pointer
abbrev pub derefed : Opening → Command → ℕ → Part → Part
derefed o c w p = if w == 0 then doing p c (plain Dead) [] else doing (finding p w) c (word w) (owed_word o.marking w)

-- the part after a `finalise` that found this word: it owes weak pointer, value and finaliser, or the word was unset
abbrev pub finalised : Opening → ℕ → Command → ℕ → Part → Part
finalised o at c w p =
    let ws = 2 * at ∷ w ∷ finaliser_named at p ∷ [] in
    if w == 0 then doing p c (plain Dead) [] else doing (finding_all p ws) c (word (finaliser_named at p)) (owed_words o.marking ws)

-- the views after a load and after a swap
abbrev pub weak_read : Seen → Command → ℕ → Seen
weak_read v c w = changing (derefed v.opening c w) v

abbrev pub weak_taken : Seen → ℕ → Command → ℕ → Seen
weak_taken v at c w = changing (finalised v.opening at c w) v
