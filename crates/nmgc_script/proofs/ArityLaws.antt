-- A verb is read with n tokens exactly if a command of its name has n tokens.
use Rattle.nmgc_script.proofs.Vocabulary.{◌≡◌, ◌≤◌, ◌+◌, ◌-◌, ℕ, zero, suc, List, [], ◌∷◌, length, refl, sym, ap, subst, ◌∙◌, arith, codes, Result, Ok, AllByRecursion, length-map, All-from_recursion, Operand, Shared, Command, Num, Nil, Mov, Con, Var, Arr, Rec, Thunk, Weak, Stack, Get, Tag, Set, Cas, Update, Force, Push, Pop, Deref, Finalise, NextFin, Show, Same, Yield, Collect, Full, IsOperandBelow, HasRegistersBelow, HasNumbers, Cause, Verb, Version, IsUsable, operand_word, verb_name, command_words, first_of, HasArity, named_at, has_verb, IsSince, true, le-leb, leb-true, operands_at}
use Rattle.nmgc_script.specs.declared.verbs.Verb.TheVariants as verb
use Rattle.nmgc_script.proofs.{WordLaws.ok_is, VerbLaws.named_again, CommandLaws.words_read, CauseLaws.HasCount, CauseLaws.CausesArity, CauseLaws.operands_cause}

-- a reading that doesn't fail has the right number of tokens
pub right_of : (P : Type 0) (c : Command) (r : Result Command Cause) → r ≡ Ok c → CausesArity r P → P
right_of P c r is agrees = rw is at agrees

-- a command of the verb's name has a number of tokens that the verb is read with
pub count_of : (ver : Version) (usable : IsUsable ver) (v : Verb) (c : Command) → HasRegistersBelow ver.registers c → HasNumbers c →
    first_of (command_words c) ≡ verb_name v → HasCount v (length (command_words c))
count_of ver usable v c registers numbers named =
    let r = words_read ver usable c registers numbers in
    let name : verb_name r.0 ≡ verb_name v = sym (ap first_of r.2) ∙ named in
    let same : r.0 ≡ v = ok_is {E = Cause} r.0 v (sym (named_again r.0) ∙ ap named_at name ∙ named_again v) in
    let count : HasCount r.0 (length (verb_name r.0 ∷ r.1)) =
    right_of (HasCount r.0 (length (verb_name r.0 ∷ r.1))) c (operands_at ver r.0 r.1) r.3 (operands_cause ver usable r.0 (verb_name r.0) r.1) in
    subst (λ (n : ℕ). HasCount v n) (sym (ap length r.2)) (subst (λ (k : Verb). HasCount k (length (verb_name r.0 ∷ r.1))) same count)

-- n operands
shared : ℕ → List Operand
shared zero = []
shared (suc n) = Shared ∷ shared n

length_shared : (n : ℕ) → length (shared n) ≡ n
unfolding shared
length_shared zero = refl
length_shared (suc n) = ap (λ k. suc k) (length_shared n)

all_shared : (ver : Version) (usable : IsUsable ver) (n : ℕ) → AllByRecursion (IsOperandBelow ver.registers) (shared n)
unfolding shared
all_shared ver usable zero = tt
all_shared ver usable (suc n) = (tt, all_shared ver usable n)

con_some : (ver : Version) (usable : IsUsable ver) (m n : ℕ) → n ≡ 3 + m → HasArity ver (codes "con") n
con_some ver usable m n e = (
  Con 0 0 (shared m),
  (
    omega (arith, usable.some_register),
    All-from_recursion (IsOperandBelow ver.registers) (shared m) (all_shared ver usable m),
  ),
  omega arith,
  refl,
  omega (arith, e, length-map (shared m) operand_word, length_shared m),
)

rec_some : (ver : Version) (usable : IsUsable ver) (m n : ℕ) → n ≡ 2 + m → n ≤ 65537 → HasArity ver (codes "rec") n
rec_some ver usable m n e most = (
  Rec 0 (shared m),
  (
    omega (arith, usable.some_register),
    All-from_recursion (IsOperandBelow ver.registers) (shared m) (all_shared ver usable m),
  ),
  omega (arith, e, most, length_shared m),
  refl,
  omega (arith, e, length-map (shared m) operand_word, length_shared m),
)

thunk_some : (ver : Version) (usable : IsUsable ver) (m n : ℕ) → n ≡ 2 + m → n ≤ 10 → HasArity ver (codes "thunk") n
thunk_some ver usable m n e most = (
  Thunk 0 (shared m),
  (
    omega (arith, usable.some_register),
    All-from_recursion (IsOperandBelow ver.registers) (shared m) (all_shared ver usable m),
  ),
  omega (arith, e, most, length_shared m),
  refl,
  omega (arith, e, length-map (shared m) operand_word, length_shared m),
)

-- for a number of tokens that the verb is read with, a command of the verb's name has this number
pub count_some : (ver : Version) (usable : IsUsable ver) (v : Verb) (n : ℕ) → HasCount v n → HasArity ver (verb_name v) n
count_some ver usable verb.Num n h = (Num 0 0, omega (arith, usable.some_register), omega arith, refl, sym h)
count_some ver usable verb.Nil n h = (Nil 0, omega (arith, usable.some_register), tt, refl, sym h)
count_some ver usable verb.Mov n h = (Mov 0 Shared, (omega (arith, usable.some_register), tt), tt, refl, sym h)
count_some ver usable verb.Con n h = con_some ver usable (n - 3) n (omega (arith, h))
count_some ver usable verb.Var n h = (Var 0 Shared, (omega (arith, usable.some_register), tt), tt, refl, sym h)
count_some ver usable verb.Arr n h = (Arr 0 0 Shared, (omega (arith, usable.some_register), tt), omega arith, refl, sym h)
count_some ver usable verb.Rec n h = rec_some ver usable (n - 2) n (omega (arith, h.0)) h.1
count_some ver usable verb.Thunk n h = thunk_some ver usable (n - 2) n (omega (arith, h.0)) h.1
count_some ver usable verb.Weak n h = (Weak 0 Shared Shared Shared, (omega (arith, usable.some_register), tt, tt, tt), tt, refl, sym h)
count_some ver usable verb.Stack n h = (Stack 0 0, omega (arith, usable.some_register), omega arith, refl, sym h)
count_some ver usable verb.Get n h = (Get 0 Shared 0, (omega (arith, usable.some_register), tt), omega arith, refl, sym h)
count_some ver usable verb.Tag n h = (Tag 0 Shared, (omega (arith, usable.some_register), tt), tt, refl, sym h)
count_some ver usable verb.Set n h = (Set Shared 0 Shared, (tt, tt), omega arith, refl, sym h)
count_some ver usable verb.Cas n h = (Cas Shared 0 Shared Shared, (tt, tt, tt), omega arith, refl, sym h)
count_some ver usable verb.Update n h = (Update Shared Shared, (tt, tt), tt, refl, sym h)
count_some ver usable verb.Force n h = (Force 0 Shared, (omega (arith, usable.some_register), tt), tt, refl, sym h)
count_some ver usable verb.Push n h = (Push Shared Shared, (tt, tt), tt, refl, sym h)
count_some ver usable verb.Pop n h = (Pop 0 Shared, (omega (arith, usable.some_register), tt), tt, refl, sym h)
count_some ver usable verb.Deref n h = (Deref 0 Shared, (omega (arith, usable.some_register), tt), tt, refl, sym h)
count_some ver usable verb.Finalise n h = (Finalise 0 Shared, (omega (arith, usable.some_register), tt), tt, refl, sym h)
count_some ver usable verb.NextFin n h = (NextFin 0, omega (arith, usable.some_register), tt, refl, sym h)
count_some ver usable verb.Show n h = (Show Shared, tt, tt, refl, sym h)
count_some ver usable verb.Same n h = (Same Shared Shared, (tt, tt), tt, refl, sym h)
count_some ver usable verb.Yield n h = (Yield, tt, tt, refl, sym h)
count_some ver usable verb.Collect n h = (Collect, tt, tt, refl, sym h)
count_some ver usable verb.Full n h = (Full, tt, tt, refl, sym h)

-- each verb's name is the name of a command
pub named_command : (v : Verb) → (c : Command) × (verb_name v ≡ first_of (command_words c))
named_command verb.Num = (Num 0 0, refl)
named_command verb.Nil = (Nil 0, refl)
named_command verb.Mov = (Mov 0 Shared, refl)
named_command verb.Con = (Con 0 0 [], refl)
named_command verb.Var = (Var 0 Shared, refl)
named_command verb.Arr = (Arr 0 0 Shared, refl)
named_command verb.Rec = (Rec 0 [], refl)
named_command verb.Thunk = (Thunk 0 [], refl)
named_command verb.Weak = (Weak 0 Shared Shared Shared, refl)
named_command verb.Stack = (Stack 0 0, refl)
named_command verb.Get = (Get 0 Shared 0, refl)
named_command verb.Tag = (Tag 0 Shared, refl)
named_command verb.Set = (Set Shared 0 Shared, refl)
named_command verb.Cas = (Cas Shared 0 Shared Shared, refl)
named_command verb.Update = (Update Shared Shared, refl)
named_command verb.Force = (Force 0 Shared, refl)
named_command verb.Push = (Push Shared Shared, refl)
named_command verb.Pop = (Pop 0 Shared, refl)
named_command verb.Deref = (Deref 0 Shared, refl)
named_command verb.Finalise = (Finalise 0 Shared, refl)
named_command verb.NextFin = (NextFin 0, refl)
named_command verb.Show = (Show Shared, refl)
named_command verb.Same = (Same Shared Shared, refl)
named_command verb.Yield = (Yield, refl)
named_command verb.Collect = (Collect, refl)
named_command verb.Full = (Full, refl)

-- each command's name is the name of a verb
pub named_verb : (c : Command) → (v : Verb) × (first_of (command_words c) ≡ verb_name v)
named_verb (Num a b) = (verb.Num, refl)
named_verb (Nil a) = (verb.Nil, refl)
named_verb (Mov a b) = (verb.Mov, refl)
named_verb (Con a b c) = (verb.Con, refl)
named_verb (Var a b) = (verb.Var, refl)
named_verb (Arr a b c) = (verb.Arr, refl)
named_verb (Rec a b) = (verb.Rec, refl)
named_verb (Thunk a b) = (verb.Thunk, refl)
named_verb (Weak a b c d) = (verb.Weak, refl)
named_verb (Stack a b) = (verb.Stack, refl)
named_verb (Get a b c) = (verb.Get, refl)
named_verb (Tag a b) = (verb.Tag, refl)
named_verb (Set a b c) = (verb.Set, refl)
named_verb (Cas a b c d) = (verb.Cas, refl)
named_verb (Update a b) = (verb.Update, refl)
named_verb (Force a b) = (verb.Force, refl)
named_verb (Push a b) = (verb.Push, refl)
named_verb (Pop a b) = (verb.Pop, refl)
named_verb (Deref a b) = (verb.Deref, refl)
named_verb (Finalise a b) = (verb.Finalise, refl)
named_verb (NextFin a) = (verb.NextFin, refl)
named_verb (Show a) = (verb.Show, refl)
named_verb (Same a b) = (verb.Same, refl)
named_verb Yield = (verb.Yield, refl)
named_verb Collect = (verb.Collect, refl)
named_verb Full = (verb.Full, refl)

-- a version that has the command has its verb, and the other way round
pub since_verb : (ver : Version) (c : Command) → IsSince ver.number c → has_verb ver (named_verb c).0 ≡ true
unfolding named_verb
since_verb ver (Rec dest fields) since = le-leb 3 ver.number since
since_verb ver (Tag dest object) since = le-leb 3 ver.number since
since_verb ver _ since = refl

pub since_command : (ver : Version) (v : Verb) → has_verb ver v ≡ true → IsSince ver.number (named_command v).0
unfolding named_command
since_command ver verb.Rec has = leb-true 3 ver.number has
since_command ver verb.Tag has = leb-true 3 ver.number has
since_command ver _ has = tt
