-- A line of tokens, and the tokens of a line: a spelling is read back.
use Rattle.std.proofs.{Common.◌≡◌, Common.◌≢◌, Common.◌<◌, Common.◌≤◌, Common.◌+◌, Common.◌*◌, Common.◌^◌, Common.◌%◌, Common.ℕ, Common.List, Common.[], Common.◌∷◌, Common.◌++◌, Common.map, Common.length, Common.refl, Common.ap, Common.arith, Common.Bool, Common.true, Common.false, Common.cond, Common.leb, Common.decimal, Common.codes, Common.lit<, lemmas.Bool.ne_eqb, lemmas.Bool.leb-true, lemmas.Fmt.decimal_by_steps, lemmas.Fmt.length-decimal-le, lemmas.Fmt.decimal_digit, lemmas.List.length-append, lemmas.List.Elements.recursion_from_All}
use Rattle.std.specs.List.{AllByRecursion}
use Rattle.nmgc_world_spec.specs.{declared.command.Operand.Operand, declared.command.Operand.TheVariants.Register, declared.command.Operand.TheVariants.Shared, declared.command.Command.Command, declared.command.Command.TheVariants.Num, declared.command.Command.TheVariants.Nil, declared.command.Command.TheVariants.Mov, declared.command.Command.TheVariants.Con, declared.command.Command.TheVariants.Var, declared.command.Command.TheVariants.Arr, declared.command.Command.TheVariants.Rec, declared.command.Command.TheVariants.Thunk, declared.command.Command.TheVariants.Weak, declared.command.Command.TheVariants.Stack, declared.command.Command.TheVariants.Get, declared.command.Command.TheVariants.Tag, declared.command.Command.TheVariants.Set, declared.command.Command.TheVariants.Cas, declared.command.Command.TheVariants.Update, declared.command.Command.TheVariants.Force, declared.command.Command.TheVariants.Push, declared.command.Command.TheVariants.Pop, declared.command.Command.TheVariants.Deref, declared.command.Command.TheVariants.Finalise, declared.command.Command.TheVariants.NextFin, declared.command.Command.TheVariants.Show, declared.command.Command.TheVariants.Same, declared.command.Command.TheVariants.Yield, declared.command.Command.TheVariants.Collect, declared.command.Command.TheVariants.Full, Known.IsRegister, Known.IsOperand, World.Fits}
use Rattle.nmgc_io.specs.{Text.tokens_of, Text.is_blank_or_comment, laws.Parts.cut_on, laws.Parts.tokens_cut, laws.Parts.last_token, Text.spaced, Spaced.after_spaces, laws.Parts.spaced_after}
use Rattle.nmgc_script.specs.{Spelling.operand_word, Spelling.register_word, Spelling.command_words, Spelling.heap_words, Spelling.FitsConfig, Parts.section_words, Parts.version_words, declared.script.Config.Config}
use Rattle.nmgc_lists.specs.laws.Truths.{cond_true}

-- the token has no space
abbrev pub IsWord : List ℕ → Type 0
IsWord word = AllByRecursion (λ b. b ≢ 32) word

-- tokens with spaces between them are read as these tokens
pub words_again : (word : List ℕ) (words : List (List ℕ)) → IsWord word → AllByRecursion IsWord words → tokens_of (spaced (word ∷ words)) ≡ word ∷ words
words_again word [] h hs = last_token word h
words_again word (v ∷ vs) h hs = rw (cut_on 32 tokens_of tokens_cut word (spaced (v ∷ vs)) h, words_again v vs hs.0 hs.1) refl

-- all bytes of the token are at least the digit 0
abbrev IsBare : List ℕ → Type 0
IsBare word = AllByRecursion (λ b. 48 ≤ b) word

-- all bytes of the token are at least the digit 0, and it has at most 21 bytes
abbrev pub IsSmall : List ℕ → Type 0
IsSmall word = IsBare word × (length word ≤ 21)

bare_word : (word : List ℕ) → IsBare word → IsWord word
bare_word [] h = tt
bare_word (b ∷ word) h = ((λ e. let low = h.0 in omega arith), bare_word word h.1)

small_words : (words : List (List ℕ)) → AllByRecursion IsSmall words → AllByRecursion IsWord words
small_words [] h = tt
small_words (w ∷ ws) h = (bare_word w h.0.0, small_words ws h.1)

bare_append : (a b : List ℕ) → IsBare a → IsBare b → IsBare (a ++ b)
bare_append [] b h k = k
bare_append (x ∷ a) b h k = (h.0, bare_append a b h.1 k)

decimal_bare : (n : ℕ) → n < 2 ^ 64 → IsBare (decimal n)
decimal_bare n fits = decimal_by_steps (λ m ds. IsBare ds) (λ m lt. (omega arith, tt)) (λ m ds le h.
    bare_append ds ((48 + m % 10) ∷ []) h (omega arith, tt)) n fits

decimal_length : (n : ℕ) → n < 2 ^ 64 → length (decimal n) ≤ 20
decimal_length n fits = length-decimal-le 20 n (omega arith) (omega arith) fits

decimal_small : (n : ℕ) → n < 2 ^ 64 → IsSmall (decimal n)
decimal_small n fits = (decimal_bare n fits, (let few = decimal_length n fits in omega arith))

register_small : (r : ℕ) → IsRegister r → IsSmall (register_word r)
register_small r h =
    let fits : r < 2 ^ 64 = omega arith in
    ((omega arith, decimal_bare r fits), (let few = decimal_length r fits in omega arith))

operand_small : (o : Operand) → IsOperand o → IsSmall (operand_word o)
operand_small (Register r) h = register_small r h
operand_small Shared h = ((omega arith, tt), omega arith)

operands_small : (os : List Operand) → AllByRecursion IsOperand os → AllByRecursion IsSmall (map operand_word os)
operands_small [] h = tt
operands_small (o ∷ os) h = (operand_small o h.0, operands_small os h.1)

-- tests that compute
abbrev is_bare : List ℕ → Bool
is_bare [] = true
is_bare (b ∷ bytes) = cond (leb 48 b) (is_bare bytes) false

tested : (word : List ℕ) → is_bare word ≡ true → IsBare word
tested [] e = tt
tested (b ∷ word) e = let both = cond_true (leb 48 b) (is_bare word) e in (leb-true 48 b both.0, tested word both.1)

small : (word : List ℕ) → is_bare word ≡ true → leb (length word) 21 ≡ true → IsSmall word
small word bare few = (tested word bare, leb-true (length word) 21 few)

-- tokens that make a line: the first isn't empty, and all are small
abbrev pub MakeLine : List (List ℕ) → Type 0
MakeLine [] = ⊥
MakeLine ([] ∷ words) = ⊥
MakeLine ((b ∷ word) ∷ words) = IsSmall (b ∷ word) × AllByRecursion IsSmall words

-- the tokens of a line are the tokens that were spelled
pub tokens_of-line : (words : List (List ℕ)) → MakeLine words → tokens_of (spaced words) ≡ words
tokens_of-line [] h = absurd h
tokens_of-line ([] ∷ words) h = absurd h
tokens_of-line ((b ∷ word) ∷ words) h = words_again (b ∷ word) words (bare_word (b ∷ word) h.0.0) (small_words words h.1)

-- the line has no line feed
abbrev pub IsLine : List ℕ → Type 0
IsLine line = AllByRecursion (λ b. b ≢ 10) line

line_append : (a b : List ℕ) → IsLine a → IsLine b → IsLine (a ++ b)
line_append [] b h k = k
line_append (x ∷ a) b h k = (h.0, line_append a b h.1 k)

bare_line : (word : List ℕ) → IsBare word → IsLine word
bare_line [] h = tt
bare_line (b ∷ word) h = ((λ e. let low = h.0 in omega arith), bare_line word h.1)

after_line : (words : List (List ℕ)) → AllByRecursion IsSmall words → IsLine (after_spaces words)
after_line [] h = tt
after_line (w ∷ ws) h = ((λ e. omega arith), line_append w (after_spaces ws) (bare_line w h.0.0) (after_line ws h.1))

after_length : (words : List (List ℕ)) → AllByRecursion IsSmall words → length (after_spaces words) ≤ 22 * length words
after_length [] h = omega arith
after_length (w ∷ ws) h =
    let few : length w ≤ 21 = h.0.1 in
    let rest : length (after_spaces ws) ≤ 22 * length ws = after_length ws h.1 in
    let both : length (w ++ after_spaces ws) ≡ length w + length (after_spaces ws) = length-append w (after_spaces ws) in
    omega arith

-- the line has no line feed and isn't passed over
pub record IsKept (line : List ℕ) : Type 0 where
  pub one : IsLine line
  pub kept : is_blank_or_comment line ≡ false

pub made_kept : (words : List (List ℕ)) → MakeLine words → IsKept (spaced words)
made_kept [] h = absurd h
made_kept ([] ∷ words) h = absurd h
made_kept ((b ∷ word) ∷ words) h =
    let low : 48 ≤ b = h.0.0.0 in
    rw spaced_after (record {
      one = line_append (b ∷ word) (after_spaces words) (bare_line (b ∷ word) h.0.0) (after_line words h.1);
      kept = ne_eqb b 35 (λ e. omega arith);
    })

-- the line of small tokens has at most 22 bytes for each token
pub made_short : (words : List (List ℕ)) → MakeLine words → length (spaced words) ≤ 22 * length words
made_short [] h = absurd h
made_short ([] ∷ words) h = absurd h
made_short ((b ∷ word) ∷ words) h =
    let few : length (b ∷ word) ≤ 21 = h.0.1 in
    let rest : length (after_spaces words) ≤ 22 * length words = after_length words h.1 in
    let both : length ((b ∷ word) ++ after_spaces words) ≡ length (b ∷ word) + length (after_spaces words) =
    length-append (b ∷ word) (after_spaces words) in
    rw spaced_after (omega arith)

pub command_line : (size : ℕ) (c : Command) → Fits size c → MakeLine (command_words c)
command_line size (Num dest number) h = (
  small (codes "num") refl refl,
  (register_small dest h.registers, (decimal_small number (omega (arith, h.numbers)), tt)),
)
command_line size (Nil dest) h = (small (codes "nil") refl refl, (register_small dest h.registers, tt))
command_line size (Mov dest value) h = (small (codes "mov") refl refl, (register_small dest h.registers.0, (operand_small value h.registers.1, tt)))
command_line size (Con dest tag fields) h = (
  small (codes "con") refl refl,
  (
    register_small dest h.registers.0,
    (
      decimal_small tag (omega (arith, h.numbers)),
      operands_small fields (recursion_from_All IsOperand fields h.registers.1),
    ),
  ),
)
command_line size (Var dest value) h = (small (codes "var") refl refl, (register_small dest h.registers.0, (operand_small value h.registers.1, tt)))
command_line size (Arr dest count value) h = (
  small (codes "arr") refl refl,
  (register_small dest h.registers.0, (decimal_small count (omega (arith, h.numbers)), (operand_small value h.registers.1, tt))),
)
command_line size (Rec dest fields) h = (
  small (codes "rec") refl refl,
  (register_small dest h.registers.0, operands_small fields (recursion_from_All IsOperand fields h.registers.1)),
)
command_line size (Thunk dest free) h = (
  small (codes "thunk") refl refl,
  (register_small dest h.registers.0, operands_small free (recursion_from_All IsOperand free h.registers.1)),
)
command_line size (Weak dest key value finaliser) h = (
  small (codes "weak") refl refl,
  (register_small dest h.registers.0, (operand_small key h.registers.1, (operand_small value h.registers.2, (operand_small finaliser h.registers.3, tt)))),
)
command_line size (Stack dest count) h = (
  small (codes "stack") refl refl,
  (register_small dest h.registers, (decimal_small count (omega (arith, h.numbers)), tt)),
)
command_line size (Get dest object index) h = (
  small (codes "get") refl refl,
  (register_small dest h.registers.0, (operand_small object h.registers.1, (decimal_small index (omega (arith, h.numbers)), tt))),
)
command_line size (Tag dest object) h = (small (codes "tag") refl refl, (register_small dest h.registers.0, (operand_small object h.registers.1, tt)))
command_line size (Set object index value) h = (
  small (codes "set") refl refl,
  (operand_small object h.registers.0, (decimal_small index (omega (arith, h.numbers)), (operand_small value h.registers.1, tt))),
)
command_line size (Cas object index expected value) h = (
  small (codes "cas") refl refl,
  (
    operand_small object h.registers.0,
    (
      decimal_small index (omega (arith, h.numbers)),
      (operand_small expected h.registers.1, (operand_small value h.registers.2, tt)),
    ),
  ),
)
command_line size (Update object value) h = (small (codes "update") refl refl, (operand_small object h.registers.0, (operand_small value h.registers.1, tt)))
command_line size (Force dest object) h = (small (codes "force") refl refl, (register_small dest h.registers.0, (operand_small object h.registers.1, tt)))
command_line size (Push object value) h = (small (codes "push") refl refl, (operand_small object h.registers.0, (operand_small value h.registers.1, tt)))
command_line size (Pop dest object) h = (small (codes "pop") refl refl, (register_small dest h.registers.0, (operand_small object h.registers.1, tt)))
command_line size (Deref dest object) h = (small (codes "deref") refl refl, (register_small dest h.registers.0, (operand_small object h.registers.1, tt)))
command_line size (Finalise dest object) h = (small (codes "finalise") refl refl, (register_small dest h.registers.0, (operand_small object h.registers.1, tt)))
command_line size (NextFin dest) h = (small (codes "nextfin") refl refl, (register_small dest h.registers, tt))
command_line size (Show value) h = (small (codes "show") refl refl, (operand_small value h.registers, tt))
command_line size (Same left right) h = (small (codes "same") refl refl, (operand_small left h.registers.0, (operand_small right h.registers.1, tt)))
command_line size Yield h = (small (codes "yield") refl refl, tt)
command_line size Collect h = (small (codes "collect") refl refl, tt)
command_line size Full h = (small (codes "full") refl refl, tt)

pub heap_line_words : (most : ℕ) → most < 2 ^ 64 → (c : Config) → FitsConfig most c → MakeLine (heap_words c)
heap_line_words most few c h = (
  small (codes "heap") refl refl,
  (
    decimal_small c.segments (omega (arith, h.segments, few)),
    (
      decimal_small c.words (omega (arith, h.words.most)),
      (
        decimal_small c.nursery (omega (arith, h.nursery)),
        (
          decimal_small c.slice (omega (arith, h.slice)),
          (
            decimal_small c.quota (omega (arith, h.quota)),
            (decimal_small c.trigger (omega (arith, h.trigger)), tt),
          ),
        ),
      ),
    ),
  ),
)

pub section_line_words : (n : ℕ) → n < 2 ^ 64 → MakeLine (section_words n)
section_line_words n h = (small (codes "thread") refl refl, (decimal_small n h, tt))

pub version_line_words : (n : ℕ) → n < 2 ^ 64 → MakeLine (version_words n)
version_line_words n h = (small (codes "nmgc") refl refl, (decimal_small n h, tt))

-- the lines of the versions
pub first_line : spaced (version_words 1) ≡ codes "nmgc 1"
first_line = ap (λ (word : List ℕ). codes "nmgc " ++ word) (decimal_digit 1 (lit< tt))

pub second_line : spaced (version_words 2) ≡ codes "nmgc 2"
second_line = ap (λ (word : List ℕ). codes "nmgc " ++ word) (decimal_digit 2 (lit< tt))

pub third_line : spaced (version_words 3) ≡ codes "nmgc 3"
third_line = ap (λ (word : List ℕ). codes "nmgc " ++ word) (decimal_digit 3 (lit< tt))
