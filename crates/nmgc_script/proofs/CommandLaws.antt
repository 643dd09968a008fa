-- A command is read exactly from its spelling.
use Rattle.nmgc_script.proofs.Vocabulary.{Gives, IfOk, LineFault, Err, inr, version_3, usable_version, arith, ◌≡◌, ◌≤◌, ◌<◌, length, ℕ, List, [], ◌∷◌, map, refl, sym, ap, ◌∙◌, subst, decimal, leb, Result, Ok, le-leb, leb-true, All-from_recursion, recursion_from_All, Command, Num, Nil, Mov, Con, Var, Arr, Rec, Thunk, Weak, Stack, Get, Tag, Set, Cas, Update, Force, Push, Pop, Deref, Finalise, NextFin, Show, Same, Yield, Collect, Full, IsOperandBelow, HasRegistersBelow, HasNumbers, words_made, Fits, Cause, Verb, Version, IsUsable, registers_wider, register_word, operand_word, verb_name, command_words, ◌>>=◌, none_at, operands_at, has_verb, verb_at, first_of, true, IsOf, IsSince, sized, command_at}
use Rattle.nmgc_script.specs.declared.fault.Cause.TheVariants as cause
use Rattle.nmgc_script.specs.declared.verbs.Verb.TheVariants as verb
use Rattle.nmgc_script.proofs.{WordLaws.Reads, WordLaws.bind_ok, WordLaws.guard_ok, WordLaws.ok_is, WordLaws.register_reads, WordLaws.operand_reads, VerbLaws.verb_takes, VerbLaws.verb_again, VerbLaws.verb_since, ShapeLaws.long_reads, ShapeLaws.short_reads, ShapeLaws.one_reads, ShapeLaws.two_reads, ShapeLaws.three_reads, ShapeLaws.four_reads, ShapeLaws.con_reads, ShapeLaws.values_reads}

-- a script of the version may have the command if segments have this number of words
abbrev pub Fit : Version → ℕ → Command → Type 0
Fit v size c = Fits size c × IsOf v c

-- a name and the tokens after it spell the command, whose registers and numbers are within the limits
abbrev pub Spell : Version → List ℕ → List (List ℕ) → Command → Type 0
Spell ver name words c = (name ∷ words ≡ command_words c) × HasRegistersBelow ver.registers c × HasNumbers c

-- a command made of the fields that its shape reads has these tokens as its spelling
made_spells : (ver : Version) (usable : IsUsable ver) → {A : Type 0} {read : List (List ℕ) → Result A Cause} {write : A → List (List ℕ)} {P : A →
    Type 0} → Reads read write P → (make : A → Command) (name : List ℕ) → ((p : A) → P p → Spell ver name (write p) (make p)) →
    (words : List (List ℕ)) (c : Command) → (read words >>= λ p. Ok (make p)) ≡ Ok c → Spell ver name words c
made_spells ver usable {A} {read} {write} reads make name is words c e =
    let b = bind_ok (read words) (λ p. Ok (make p)) c e in
    let t = reads.takes words b.0 b.1 in
    subst (λ (l : List (List ℕ)). Spell ver name l c) (sym t.0) (subst (Spell ver name (write b.0)) (ok_is {E = Cause} (make b.0) c b.2) (is b.0 t.1))

made_again : {A : Type 0} {read : List (List ℕ) → Result A Cause} {write : A → List (List ℕ)} {P : A → Type 0} → Reads read write P →
    (make : A → Command) (p : A) → P p → (read (write p) >>= λ q. Ok (make q)) ≡ Ok (make p)
made_again reads make p h = rw (reads.again p h) refl

none_spells : (ver : Version) (usable : IsUsable ver) (name : List ℕ) (made : Command) → Spell ver name [] made →
    (words : List (List ℕ)) (c : Command) → none_at made words ≡ Ok c → Spell ver name words c
unfolding none_at
none_spells ver usable name made is [] c e = subst (Spell ver name []) (ok_is {E = Cause} made c e) is
none_spells ver usable name made is (x ∷ xs) c e = absurd cc

none_again : (made : Command) → none_at made [] ≡ Ok made
unfolding none_at
none_again made = refl

pub operands_spell : (ver : Version) (usable : IsUsable ver) (v : Verb) (words : List (List ℕ)) (c : Command) → operands_at ver v words ≡ Ok c →
    Spell ver (verb_name v) words c
operands_spell ver usable verb.Num words c e = made_spells ver usable (two_reads (register_reads ver usable) long_reads) (λ p.
    Num p.0 p.1) (verb_name verb.Num) (λ p h. (refl, h.0, h.1)) words c e
operands_spell ver usable verb.Nil words c e = made_spells ver usable (one_reads (register_reads ver usable)) (λ p.
    Nil p) (verb_name verb.Nil) (λ p h. (refl, h, tt)) words c e
operands_spell ver usable verb.Mov words c e = made_spells ver usable (two_reads (register_reads ver usable) (operand_reads ver usable)) (λ p.
    Mov p.0 p.1) (verb_name verb.Mov) (λ p h. (refl, h, tt)) words c e
operands_spell ver usable verb.Con words c e = made_spells ver usable (con_reads ver usable) (λ p. Con p.0 p.1 p.2) (verb_name verb.Con) (λ p h.
    (refl, (h.0, All-from_recursion (IsOperandBelow ver.registers) p.2 h.2), h.1)) words c e
operands_spell ver usable verb.Var words c e = made_spells ver usable (two_reads (register_reads ver usable) (operand_reads ver usable)) (λ p.
    Var p.0 p.1) (verb_name verb.Var) (λ p h. (refl, h, tt)) words c e
operands_spell ver usable verb.Arr words c e =
    made_spells ver usable (three_reads (register_reads ver usable) short_reads (operand_reads ver usable)) (λ p.
    Arr p.0 p.1 p.2) (verb_name verb.Arr) (λ p h. (refl, (h.0, h.2), h.1)) words c e
operands_spell ver usable verb.Rec words c e = made_spells ver usable (values_reads ver usable 65535) (λ p. Rec p.0 p.1) (verb_name verb.Rec) (λ p h.
    let few : length p.1 ≤ 65535 = h.2 in
    (refl, (h.0, All-from_recursion (IsOperandBelow ver.registers) p.1 h.1), omega (arith, few))) words c e
operands_spell ver usable verb.Thunk words c e = made_spells ver usable (values_reads ver usable 8) (λ p. Thunk p.0 p.1) (verb_name verb.Thunk) (λ p h.
    (refl, (h.0, All-from_recursion (IsOperandBelow ver.registers) p.1 h.1), h.2)) words c e
operands_spell ver usable verb.Weak words c e =
    made_spells ver usable (four_reads (register_reads ver usable) (operand_reads ver usable) (operand_reads ver usable) (operand_reads ver usable))
    (λ p. Weak p.0 p.1 p.2 p.3) (verb_name verb.Weak) (λ p h. (refl, h, tt)) words c e
operands_spell ver usable verb.Stack words c e = made_spells ver usable (two_reads (register_reads ver usable) short_reads) (λ p.
    Stack p.0 p.1) (verb_name verb.Stack) (λ p h. (refl, h.0, h.1)) words c e
operands_spell ver usable verb.Get words c e =
    made_spells ver usable (three_reads (register_reads ver usable) (operand_reads ver usable) short_reads) (λ p.
    Get p.0 p.1 p.2) (verb_name verb.Get) (λ p h. (refl, (h.0, h.1), h.2)) words c e
operands_spell ver usable verb.Tag words c e = made_spells ver usable (two_reads (register_reads ver usable) (operand_reads ver usable)) (λ p.
    Tag p.0 p.1) (verb_name verb.Tag) (λ p h. (refl, h, tt)) words c e
operands_spell ver usable verb.Set words c e =
    made_spells ver usable (three_reads (operand_reads ver usable) short_reads (operand_reads ver usable)) (λ p.
    Set p.0 p.1 p.2) (verb_name verb.Set) (λ p h. (refl, (h.0, h.2), h.1)) words c e
operands_spell ver usable verb.Cas words c e =
    made_spells ver usable (four_reads (operand_reads ver usable) short_reads (operand_reads ver usable) (operand_reads ver usable)) (λ p.
    Cas p.0 p.1 p.2 p.3) (verb_name verb.Cas) (λ p h. (refl, (h.0, h.2, h.3), h.1)) words c e
operands_spell ver usable verb.Update words c e = made_spells ver usable (two_reads (operand_reads ver usable) (operand_reads ver usable)) (λ p.
    Update p.0 p.1) (verb_name verb.Update) (λ p h. (refl, h, tt)) words c e
operands_spell ver usable verb.Force words c e = made_spells ver usable (two_reads (register_reads ver usable) (operand_reads ver usable)) (λ p.
    Force p.0 p.1) (verb_name verb.Force) (λ p h. (refl, h, tt)) words c e
operands_spell ver usable verb.Push words c e = made_spells ver usable (two_reads (operand_reads ver usable) (operand_reads ver usable)) (λ p.
    Push p.0 p.1) (verb_name verb.Push) (λ p h. (refl, h, tt)) words c e
operands_spell ver usable verb.Pop words c e = made_spells ver usable (two_reads (register_reads ver usable) (operand_reads ver usable)) (λ p.
    Pop p.0 p.1) (verb_name verb.Pop) (λ p h. (refl, h, tt)) words c e
operands_spell ver usable verb.Deref words c e = made_spells ver usable (two_reads (register_reads ver usable) (operand_reads ver usable)) (λ p.
    Deref p.0 p.1) (verb_name verb.Deref) (λ p h. (refl, h, tt)) words c e
operands_spell ver usable verb.Finalise words c e = made_spells ver usable (two_reads (register_reads ver usable) (operand_reads ver usable)) (λ p.
    Finalise p.0 p.1) (verb_name verb.Finalise) (λ p h. (refl, h, tt)) words c e
operands_spell ver usable verb.NextFin words c e = made_spells ver usable (one_reads (register_reads ver usable)) (λ p.
    NextFin p) (verb_name verb.NextFin) (λ p h. (refl, h, tt)) words c e
operands_spell ver usable verb.Show words c e = made_spells ver usable (one_reads (operand_reads ver usable)) (λ p.
    Show p) (verb_name verb.Show) (λ p h. (refl, h, tt)) words c e
operands_spell ver usable verb.Same words c e = made_spells ver usable (two_reads (operand_reads ver usable) (operand_reads ver usable)) (λ p.
    Same p.0 p.1) (verb_name verb.Same) (λ p h. (refl, h, tt)) words c e
operands_spell ver usable verb.Yield words c e = none_spells ver usable (verb_name verb.Yield) Yield (refl, tt, tt) words c e
operands_spell ver usable verb.Collect words c e = none_spells ver usable (verb_name verb.Collect) Collect (refl, tt, tt) words c e
operands_spell ver usable verb.Full words c e = none_spells ver usable (verb_name verb.Full) Full (refl, tt, tt) words c e

sized_again : (size : ℕ) (c : Command) → words_made c ≤ size → sized size c ≡ Ok c
unfolding sized
sized_again size c h = rw (le-leb (words_made c) size h) refl

pub sized_takes : (size : ℕ) (made c : Command) → sized size made ≡ Ok c → (made ≡ c) × (words_made c ≤ size)
unfolding sized
sized_takes size made c e =
    let g = guard_ok (leb (words_made made) size) cause.Size made c e in
    (g.1, subst (λ (k : Command). words_made k ≤ size) g.1 (leb-true (words_made made) size g.0))

command_takes : (ver : Version) (usable : IsUsable ver) (size : ℕ) (words : List (List ℕ)) (c : Command) → command_at ver size words ≡ Ok c →
    (words ≡ command_words c) × Fit ver size c
unfolding command_at
command_takes ver usable size [] c e = absurd cc
command_takes ver usable size (name ∷ words) c e =
    let v = bind_ok (verb_at ver name) _ c e in
    let t = verb_takes ver name v.0 v.1 in
    let o = bind_ok (operands_at ver v.0 words) _ c v.2 in
    let z = sized_takes size o.0 c o.2 in
    let spelled : Spell ver (verb_name v.0) words c = subst (Spell ver (verb_name v.0) words) z.0 (operands_spell ver usable v.0 words o.0 o.1) in (
      rw t.0 spelled.0,
      (
        record { registers = registers_wider ver.registers usable.registers c spelled.1; numbers = spelled.2; size = z.1 },
        (spelled.1, verb_since ver v.0 c t.1 (ap first_of spelled.0)),
      ),
    )

-- the tokens of the command are its verb's name and tokens that are read as the command
abbrev pub IsReadFrom : Version → Command → Type 0
IsReadFrom ver c = (v : Verb) × (words : List (List ℕ)) × (command_words c ≡ verb_name v ∷ words) × (operands_at ver v words ≡ Ok c)

pub words_read : (ver : Version) (usable : IsUsable ver) (c : Command) → HasRegistersBelow ver.registers c → HasNumbers c → IsReadFrom ver c
words_read ver usable (Num dest number) r n = (
  verb.Num,
  register_word dest ∷ decimal number ∷ [],
  refl,
  made_again (two_reads (register_reads ver usable) long_reads) (λ p. Num p.0 p.1) (dest, number) (r, n),
)
words_read ver usable (Nil dest) r n = (verb.Nil, register_word dest ∷ [], refl, made_again (one_reads (register_reads ver usable)) (λ p. Nil p) dest r)
words_read ver usable (Mov dest value) r n = (
  verb.Mov,
  register_word dest ∷ operand_word value ∷ [],
  refl,
  made_again (two_reads (register_reads ver usable) (operand_reads ver usable)) (λ p. Mov p.0 p.1) (dest, value) r,
)
words_read ver usable (Con dest tag fields) r n = (
  verb.Con,
  register_word dest ∷ decimal tag ∷ map operand_word fields,
  refl,
  made_again (con_reads ver usable) (λ p. Con p.0 p.1 p.2) (dest, tag, fields) (r.0, n, recursion_from_All (IsOperandBelow ver.registers) fields r.1),
)
words_read ver usable (Var dest value) r n = (
  verb.Var,
  register_word dest ∷ operand_word value ∷ [],
  refl,
  made_again (two_reads (register_reads ver usable) (operand_reads ver usable)) (λ p. Var p.0 p.1) (dest, value) r,
)
words_read ver usable (Arr dest count value) r n = (
  verb.Arr,
  register_word dest ∷ decimal count ∷ operand_word value ∷ [],
  refl,
  made_again (three_reads (register_reads ver usable) short_reads (operand_reads ver usable)) (λ p. Arr p.0 p.1 p.2) (dest, count, value) (r.0, n, r.1),
)
words_read ver usable (Rec dest fields) r n = (
  verb.Rec,
  register_word dest ∷ map operand_word fields,
  refl,
  made_again (values_reads ver usable 65535) (λ p. Rec p.0 p.1) (dest, fields)
      (r.0, recursion_from_All (IsOperandBelow ver.registers) fields r.1, (let few : length fields < 65536 = n in omega (arith, few))),
)
words_read ver usable (Thunk dest free) r n = (
  verb.Thunk,
  register_word dest ∷ map operand_word free,
  refl,
  made_again (values_reads ver usable 8) (λ p. Thunk p.0 p.1) (dest, free) (r.0, recursion_from_All (IsOperandBelow ver.registers) free r.1, n),
)
words_read ver usable (Weak dest key value finaliser) r n = (
  verb.Weak,
  register_word dest ∷ operand_word key ∷ operand_word value ∷ operand_word finaliser ∷ [],
  refl,
  made_again (four_reads (register_reads ver usable) (operand_reads ver usable) (operand_reads ver usable) (operand_reads ver usable)) (λ p.
      Weak p.0 p.1 p.2 p.3) (dest, key, value, finaliser) r,
)
words_read ver usable (Stack dest size) r n = (
  verb.Stack,
  register_word dest ∷ decimal size ∷ [],
  refl,
  made_again (two_reads (register_reads ver usable) short_reads) (λ p. Stack p.0 p.1) (dest, size) (r, n),
)
words_read ver usable (Get dest object index) r n = (
  verb.Get,
  register_word dest ∷ operand_word object ∷ decimal index ∷ [],
  refl,
  made_again (three_reads (register_reads ver usable) (operand_reads ver usable) short_reads) (λ p. Get p.0 p.1 p.2) (dest, object, index) (r.0, r.1, n),
)
words_read ver usable (Tag dest object) r n = (
  verb.Tag,
  register_word dest ∷ operand_word object ∷ [],
  refl,
  made_again (two_reads (register_reads ver usable) (operand_reads ver usable)) (λ p. Tag p.0 p.1) (dest, object) r,
)
words_read ver usable (Set object index value) r n = (
  verb.Set,
  operand_word object ∷ decimal index ∷ operand_word value ∷ [],
  refl,
  made_again (three_reads (operand_reads ver usable) short_reads (operand_reads ver usable)) (λ p. Set p.0 p.1 p.2) (object, index, value) (r.0, n, r.1),
)
words_read ver usable (Cas object index expected value) r n = (
  verb.Cas,
  operand_word object ∷ decimal index ∷ operand_word expected ∷ operand_word value ∷ [],
  refl,
  made_again (four_reads (operand_reads ver usable) short_reads (operand_reads ver usable) (operand_reads ver usable)) (λ p.
      Cas p.0 p.1 p.2 p.3) (object, index, expected, value) (r.0, n, r.1, r.2),
)
words_read ver usable (Update object value) r n = (
  verb.Update,
  operand_word object ∷ operand_word value ∷ [],
  refl,
  made_again (two_reads (operand_reads ver usable) (operand_reads ver usable)) (λ p. Update p.0 p.1) (object, value) r,
)
words_read ver usable (Force dest object) r n = (
  verb.Force,
  register_word dest ∷ operand_word object ∷ [],
  refl,
  made_again (two_reads (register_reads ver usable) (operand_reads ver usable)) (λ p. Force p.0 p.1) (dest, object) r,
)
words_read ver usable (Push object value) r n = (
  verb.Push,
  operand_word object ∷ operand_word value ∷ [],
  refl,
  made_again (two_reads (operand_reads ver usable) (operand_reads ver usable)) (λ p. Push p.0 p.1) (object, value) r,
)
words_read ver usable (Pop dest object) r n = (
  verb.Pop,
  register_word dest ∷ operand_word object ∷ [],
  refl,
  made_again (two_reads (register_reads ver usable) (operand_reads ver usable)) (λ p. Pop p.0 p.1) (dest, object) r,
)
words_read ver usable (Deref dest object) r n = (
  verb.Deref,
  register_word dest ∷ operand_word object ∷ [],
  refl,
  made_again (two_reads (register_reads ver usable) (operand_reads ver usable)) (λ p. Deref p.0 p.1) (dest, object) r,
)
words_read ver usable (Finalise dest object) r n = (
  verb.Finalise,
  register_word dest ∷ operand_word object ∷ [],
  refl,
  made_again (two_reads (register_reads ver usable) (operand_reads ver usable)) (λ p. Finalise p.0 p.1) (dest, object) r,
)
words_read ver usable (NextFin dest) r n = (
  verb.NextFin,
  register_word dest ∷ [],
  refl,
  made_again (one_reads (register_reads ver usable)) (λ p. NextFin p) dest r,
)
words_read ver usable (Show value) r n = (verb.Show, operand_word value ∷ [], refl, made_again (one_reads (operand_reads ver usable)) (λ p. Show p) value r)
words_read ver usable (Same left right) r n = (
  verb.Same,
  operand_word left ∷ operand_word right ∷ [],
  refl,
  made_again (two_reads (operand_reads ver usable) (operand_reads ver usable)) (λ p. Same p.0 p.1) (left, right) r,
)
words_read ver usable Yield r n = (verb.Yield, [], refl, none_again Yield)
words_read ver usable Collect r n = (verb.Collect, [], refl, none_again Collect)
words_read ver usable Full r n = (verb.Full, [], refl, none_again Full)

command_from : (ver : Version) (usable : IsUsable ver) (size : ℕ) (v : Verb) (words : List (List ℕ)) (c : Command) →
    has_verb ver v ≡ true → operands_at ver v words ≡ Ok c → words_made c ≤ size → command_at ver size (verb_name v ∷ words) ≡ Ok c
unfolding command_at
command_from ver usable size v words c has e le = rw (verb_again ver v has, e, sized_again size c le) refl

-- a version that has the command has the verb that it is read with
read_since : (ver : Version) (usable : IsUsable ver) (c : Command) (r : HasRegistersBelow ver.registers c) (n : HasNumbers c) → IsSince ver.number c →
    has_verb ver (words_read ver usable c r n).0 ≡ true
unfolding words_read
read_since ver usable (Rec dest fields) r n since = le-leb 3 ver.number since
read_since ver usable (Tag dest object) r n since = le-leb 3 ver.number since
read_since ver usable _ r n since = refl

pub command_again : (ver : Version) (usable : IsUsable ver) (size : ℕ) (c : Command) → Fit ver size c → command_at ver size (command_words c) ≡ Ok c
command_again ver usable size c h = let r = words_read ver usable c h.1.0 h.0.numbers in ap (command_at ver size) r.2 ∙
    command_from ver usable size r.0 r.1 c (read_since ver usable c h.1.0 h.0.numbers h.1.1) r.3 h.0.size

-- a command is read exactly from its tokens
pub command_reads : (ver : Version) (usable : IsUsable ver) (size : ℕ) → Reads (command_at ver size) command_words (Fit ver size)
command_reads ver usable size = record { takes = command_takes ver usable size; again = command_again ver usable size }

-- a command that was read fits
pub gives_fitting : (ver : Version) (size : ℕ) (tokens : List (List ℕ)) (r : Result Command LineFault) → ver ≡ version_3 → Gives r (command_at ver size tokens) →
    IfOk r (λ c. Fits size c)
gives_fitting ver size tokens (Ok c) third h = ((command_reads version_3 (usable_version version_3 (inr (inr refl))) size).takes tokens c
    (subst (λ (v : Version). command_at v size tokens ≡ Ok c) third h)).1.0
gives_fitting ver size tokens (Err f) third h = tt
