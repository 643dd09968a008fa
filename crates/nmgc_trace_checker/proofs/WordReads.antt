-- Tokens are read as they are spelled, and in no other way.
use Rattle.nmgc_trace_checker.proofs.Vocabulary.{◌≡◌, ◌<◌, ◌≤◌, ◌+◌, ◌-◌, ◌%◌, ◌^◌, ◌⊎◌, ℕ, List, [], ◌∷◌, ◌++◌, map, length, refl, sym, ap, subst, ◌∙◌, arith, inl, inr, Bool, true, false, eqb, decimal, codes, Option, Some, None, ◌&&◌, All, AllByRecursion, bytes_eq, cases_Bool, cond-true, cond-false, eqb-true, ne_eqb, decimal_by_steps, decimal_nonempty, All-from_recursion, recursion_from_All, same_Some, none-some, bytes_eq-Decides, REGISTERS, SHARED_MAKER, Name, Value, Operand, Reply, IsRegister, IsOperand, IsName, register_word, operand_word, name_text, value_text, reply_text, IsValue, ◌>>=◌, number_at, dotted_at, name_at, value_at, Reads, bind_some, guard_some, number_takes, number_again, name_reads, value_reads, chosen, Copying, Filling, copied, filled, byte_at, short_at, register_at, operand_at, each_at, no_names_at, names_at, pusher_at, done_at, refused_at, nothing_at, or_else, reply_at, onto_command, answered_at, parts_at, place_at, span_at, copying_of, copy_at, copying_at, fill_at, filling_at, rows_at, rows_if, IsReply, given_words, copy_words, IsCopying, fill_words, IsFilling, IsPusher, names_words}
use Rattle.nmgc_world_spec.specs.declared.value.Value.TheVariants as value
use Rattle.nmgc_barrier_checker.specs.declared.{hand.Hand.Hand, rows.Task.Task}
use Rattle.nmgc_trace_checker.specs.{Reading.hand_words_at, Reading.hand_at, Said.hand_words}
use Rattle.nmgc_world_spec.specs.declared.command.Operand.TheVariants as operand
use Rattle.nmgc_world_spec.specs.declared.command.Reply.TheVariants as reply

-- NUMBERS AND NAMES

-- a token with digits only
abbrev IsDigits : List ℕ → Type 0
IsDigits word = AllByRecursion (λ b. (48 ≤ b) × (b ≤ 57)) word

digits_append : (a b : List ℕ) → IsDigits a → IsDigits b → IsDigits (a ++ b)
digits_append [] b h k = k
digits_append (x ∷ a) b h k = (h.0, digits_append a b h.1 k)

decimal_digits : (n : ℕ) → n < 2 ^ 64 → IsDigits (decimal n)
decimal_digits n fits = decimal_by_steps (λ m ds. IsDigits ds) (λ m lt. ((omega arith, omega arith), tt)) (λ m ds le h.
    digits_append ds ((48 + m % 10) ∷ []) h ((omega arith, omega arith), tt)) n fits

-- a text that begins with a digit
abbrev HasDigit : List ℕ → Type 0
HasDigit text = (b : ℕ) × (rest : List ℕ) × (text ≡ b ∷ rest) × (48 ≤ b) × (b ≤ 57)

digit_first : (n : ℕ) → n < 2 ^ 64 → HasDigit (decimal n)
digit_first n fits = by_list (decimal n) refl
  where
    by_list : (l : List ℕ) → decimal n ≡ l → HasDigit (decimal n)
    by_list [] e = absurd (let some = decimal_nonempty n fits in let none : length (decimal n) ≡ 0 = ap length e in omega arith)
    by_list (b ∷ rest) e = let d : IsDigits (b ∷ rest) = subst IsDigits e (decimal_digits n fits) in (b, rest, e, d.0.0, d.0.1)

abbrev pub is_word : (word text : List ℕ) → bytes_eq word text ≡ true → word ≡ text
is_word word text e = (bytes_eq-Decides word text).0 e

-- no such text is this text, which doesn't begin with a digit
other_text : (text : List ℕ) (c : ℕ) (rest : List ℕ) → HasDigit text → (c < 48) ⊎ (57 < c) → bytes_eq text (c ∷ rest) ≡ false
other_text text c rest d far = elim (cases_Bool (bytes_eq text (c ∷ rest))) [
  | inl t ↦ absurd (
      let same : d.0 ∷ d.1 ≡ c ∷ rest = sym d.2 ∙ is_word text (c ∷ rest) t in
      let first : d.0 ≡ c = head_is d.0 c d.1 rest same in
      let low : 48 ≤ d.0 = d.3 in
      let high : d.0 ≤ 57 = d.4 in
      elim far [ inl a ↦ (let l : c < 48 = a in omega arith) | inr b ↦ (let g : 57 < c = b in omega arith) ])
  | inr f ↦ f
]
  where
    head_is : (x y : ℕ) (xs ys : List ℕ) → x ∷ xs ≡ y ∷ ys → x ≡ y
    head_is x y xs ys e = cc

pub byte_takes : (word : List ℕ) (n : ℕ) → byte_at word ≡ Some n → (word ≡ decimal n) × (n < 256)
byte_takes word n e = let t = number_takes 255 word n e in (t.0, (let le = t.1 in omega arith))

pub byte_again : (n : ℕ) → n < 256 → byte_at (decimal n) ≡ Some n
byte_again n lt = number_again 255 n (omega arith) (omega arith)

pub short_takes : (word : List ℕ) (n : ℕ) → short_at word ≡ Some n → (word ≡ decimal n) × (n < 65536)
short_takes word n e = let t = number_takes 65535 word n e in (t.0, (let le = t.1 in omega arith))

pub short_again : (n : ℕ) → n < 65536 → short_at (decimal n) ≡ Some n
short_again n lt = number_again 65535 n (omega arith) (omega arith)

register_takes : (word : List ℕ) (r : ℕ) → register_at word ≡ Some r → (word ≡ register_word r) × IsRegister r
unfolding register_at
register_takes [] r e = absurd cc
register_takes (b ∷ digits) r e =
    let g = guard_some (eqb b 114) (number_at (REGISTERS - 1) digits) r e in
    let is : b ≡ 114 = eqb-true b 114 g.0 in
    let t = number_takes (REGISTERS - 1) digits r g.1 in
    let text : digits ≡ decimal r = t.0 in
    (cc, (let le = t.1 in omega arith))

register_again : (r : ℕ) → IsRegister r → register_at (register_word r) ≡ Some r
unfolding register_at
register_again r h = number_again (REGISTERS - 1) r (omega arith) (omega arith)

pub register_reads : Reads register_at register_word IsRegister
register_reads = record { takes = register_takes; again = register_again }

operand_takes : (word : List ℕ) (o : Operand) → operand_at word ≡ Some o → (word ≡ operand_word o) × IsOperand o
unfolding operand_at
operand_takes word o e = elim (chosen (bytes_eq word (codes "g")) (Some operand.Shared) (register_at word >>= λ r. Some (operand.Register r)) (Some o) e) [
  | inl p ↦ subst (λ (x : Operand). (word ≡ operand_word x) × IsOperand x) (same_Some operand.Shared o p.1) (is_word word (codes "g") p.0, tt)
  | inr p ↦
      let b = bind_some (register_at word) (λ r. Some (operand.Register r)) o p.1 in
      let t = register_takes word b.0 b.1 in
      subst (λ (x : Operand). (word ≡ operand_word x) × IsOperand x) (same_Some (operand.Register b.0) o b.2) (t.0, t.1)
]

operand_again : (o : Operand) → IsOperand o → operand_at (operand_word o) ≡ Some o
unfolding operand_at
operand_again operand.Shared h = refl
operand_again (operand.Register r) h = rw (register_again r h) refl

pub operand_reads : Reads operand_at operand_word IsOperand
operand_reads = record { takes = operand_takes; again = operand_again }

each_takes : (words : List (List ℕ)) (names : List Name) → each_at name_at words ≡ Some names → (words ≡ map name_text names) × AllByRecursion IsName names
unfolding each_at
each_takes [] names e = subst (λ (l : List Name). ([] ≡ map name_text l) × AllByRecursion IsName l) (same_Some [] names e) (refl, tt)
each_takes (w ∷ ws) names e =
    let b = bind_some (name_at w) (λ first. each_at name_at ws >>= λ others. Some (first ∷ others)) names e in
    let c = bind_some (each_at name_at ws) (λ others. Some (b.0 ∷ others)) names b.2 in
    let t = name_reads.takes w b.0 b.1 in
    let ts = each_takes ws c.0 c.1 in
    subst (λ (l : List Name). (w ∷ ws ≡ map name_text l) × AllByRecursion IsName l) (same_Some (b.0 ∷ c.0) names c.2) (cc (t.0, ts.0), (t.1, ts.1))

each_again : (names : List Name) → AllByRecursion IsName names → each_at name_at (map name_text names) ≡ Some names
unfolding each_at
each_again [] h = refl
each_again (n ∷ ns) h = rw (name_reads.again n h.0, each_again ns h.1) refl

no_names_takes : (words : List (List ℕ)) (names : List Name) → no_names_at words ≡ Some names → (words ≡ []) × (names ≡ [])
unfolding no_names_at
no_names_takes [] names e = (refl, sym (same_Some [] names e))
no_names_takes (w ∷ ws) names e = absurd cc

some_names : (w : List ℕ) (ws : List (List ℕ)) (names : List Name) → w ∷ ws ≡ map name_text names → w ∷ ws ≡ names_words names
some_names w ws [] e = absurd cc
some_names w ws (n ∷ ns) e = e

names_takes : (words : List (List ℕ)) (names : List Name) → names_at words ≡ Some names → (words ≡ names_words names) × AllByRecursion IsName names
unfolding names_at
names_takes [] names e = absurd cc
names_takes (w ∷ ws) names e = elim (chosen (bytes_eq w (codes "-")) (no_names_at ws) (each_at name_at (w ∷ ws)) (Some names) e) [
  | inl p ↦
      let t = no_names_takes ws names p.1 in
      let first : w ≡ codes "-" = is_word w (codes "-") p.0 in
      let rest : ws ≡ [] = t.0 in
      let same : w ∷ ws ≡ codes "-" ∷ [] = cc in
      subst (λ (l : List Name). (w ∷ ws ≡ names_words l) × AllByRecursion IsName l) (sym t.1) (same, tt)
  | inr p ↦ let t = each_takes (w ∷ ws) names p.1 in (some_names w ws names t.0, t.1)
]

no_hyphen : name_at (codes "-") ≡ None
unfolding name_at dotted_at
no_hyphen = refl

not_hyphen : (name : Name) → IsName name → bytes_eq (name_text name) (codes "-") ≡ false
not_hyphen name h = elim (cases_Bool (bytes_eq (name_text name) (codes "-"))) [
  | inl t ↦ absurd (none-some name (sym no_hyphen ∙ ap name_at (sym (is_word (name_text name) (codes "-") t)) ∙ name_reads.again name h))
  | inr f ↦ f
]

names_again : (names : List Name) → AllByRecursion IsName names → names_at (names_words names) ≡ Some names
unfolding names_at no_names_at
names_again [] h = refl
names_again (n ∷ ns) h = rw (not_hyphen n h.0) (each_again (n ∷ ns) h)

pub names_read : (words : List (List ℕ)) (names : List Name) → names_at words ≡ Some names → All IsName names × (words ≡ names_words names)
names_read words names e = let t = names_takes words names e in (All-from_recursion IsName names t.1, t.0)

pub names_reread : (names : List Name) → All IsName names → names_at (names_words names) ≡ Some names
names_reread names h = names_again names (recursion_from_All IsName names h)

pub pusher_takes : (who : List ℕ) (p : Option ℕ) → pusher_at who ≡ Some p → IsPusher who
unfolding pusher_at
pusher_takes who p e = elim (chosen (bytes_eq who (codes "-")) (Some None) (byte_at who >>= λ m. Some (Some m)) (Some p) e) [
  | inl t ↦ inl (is_word who (codes "-") t.0)
  | inr t ↦ let b = bind_some (byte_at who) (λ m. Some (Some m)) p t.1 in let m = byte_takes who b.0 b.1 in inr (b.0, m.1, m.0)
]

pub pusher_again : (who : List ℕ) → IsPusher who → (p : Option ℕ) × (pusher_at who ≡ Some p)
unfolding pusher_at
pusher_again who (inl e) = (None, subst (λ (w : List ℕ). pusher_at w ≡ Some None) (sym e) refl)
pusher_again who (inr h) = (
  Some h.0,
  subst (λ (w : List ℕ). pusher_at w ≡ Some (Some h.0)) (sym h.2)
      (let lt = h.1 in rw (other_text (decimal h.0) 45 [] (digit_first h.0 (omega arith)) (inl (omega arith)), byte_again h.0 lt) refl),
)

-- ANSWERS

abbrev Answers : List ℕ → Reply → Type 0
Answers word r = (word ≡ reply_text r) × IsReply r

done_takes : (word : List ℕ) (r : Reply) → done_at word ≡ Some r → Answers word r
unfolding done_at
done_takes word r e = elim (chosen (bytes_eq word (codes "ok")) (Some reply.Fine) _ (Some r) e) [
  | inl p ↦ subst (Answers word) (same_Some reply.Fine r p.1) (is_word word (codes "ok") p.0, tt)
  | inr p ↦ elim (chosen (bytes_eq word (codes "yes")) (Some reply.Yes) _ (Some r) p.1) [
    | inl q ↦ subst (Answers word) (same_Some reply.Yes r q.1) (is_word word (codes "yes") q.0, tt)
    | inr q ↦ elim (chosen (bytes_eq word (codes "no")) (Some reply.No) _ (Some r) q.1) [
      | inl s ↦ subst (Answers word) (same_Some reply.No r s.1) (is_word word (codes "no") s.0, tt)
      | inr s ↦ elim (chosen (bytes_eq word (codes "updated")) (Some reply.Updated) _ (Some r) s.1) [
        | inl t ↦ subst (Answers word) (same_Some reply.Updated r t.1) (is_word word (codes "updated") t.0, tt)
        | inr t ↦
            let g = guard_some (bytes_eq word (codes "already")) (Some reply.Already) r t.1 in
            subst (Answers word) (same_Some reply.Already r g.1) (is_word word (codes "already") g.0, tt)
      ]
    ]
  ]
]

refused_takes : (word : List ℕ) (r : Reply) → refused_at word ≡ Some r → Answers word r
unfolding refused_at
refused_takes word r e = elim (chosen (bytes_eq word (codes "nopointer")) (Some reply.NoPointer) _ (Some r) e) [
  | inl p ↦ subst (Answers word) (same_Some reply.NoPointer r p.1) (is_word word (codes "nopointer") p.0, tt)
  | inr p ↦ elim (chosen (bytes_eq word (codes "nofield")) (Some reply.NoField) _ (Some r) p.1) [
    | inl q ↦ subst (Answers word) (same_Some reply.NoField r q.1) (is_word word (codes "nofield") q.0, tt)
    | inr q ↦ elim (chosen (bytes_eq word (codes "wrongkind")) (Some reply.WrongKind) _ (Some r) q.1) [
      | inl s ↦ subst (Answers word) (same_Some reply.WrongKind r s.1) (is_word word (codes "wrongkind") s.0, tt)
      | inr s ↦ elim (chosen (bytes_eq word (codes "notowner")) (Some reply.NotOwner) _ (Some r) s.1) [
        | inl t ↦ subst (Answers word) (same_Some reply.NotOwner r t.1) (is_word word (codes "notowner") t.0, tt)
        | inr t ↦
            let g = guard_some (bytes_eq word (codes "fixed")) (Some reply.Fixed) r t.1 in
            subst (Answers word) (same_Some reply.Fixed r g.1) (is_word word (codes "fixed") g.0, tt)
      ]
    ]
  ]
]

nothing_takes : (word : List ℕ) (r : Reply) → nothing_at word ≡ Some r → Answers word r
unfolding nothing_at
nothing_takes word r e = elim (chosen (bytes_eq word (codes "dead")) (Some reply.Dead) _ (Some r) e) [
  | inl p ↦ subst (Answers word) (same_Some reply.Dead r p.1) (is_word word (codes "dead") p.0, tt)
  | inr p ↦ elim (chosen (bytes_eq word (codes "none")) (Some reply.Nothing) _ (Some r) p.1) [
    | inl q ↦ subst (Answers word) (same_Some reply.Nothing r q.1) (is_word word (codes "none") q.0, tt)
    | inr q ↦ elim (chosen (bytes_eq word (codes "stackfull")) (Some reply.StackFull) _ (Some r) q.1) [
      | inl s ↦ subst (Answers word) (same_Some reply.StackFull r s.1) (is_word word (codes "stackfull") s.0, tt)
      | inr s ↦
          let g = guard_some (bytes_eq word (codes "stackempty")) (Some reply.StackEmpty) r s.1 in
          subst (Answers word) (same_Some reply.StackEmpty r g.1) (is_word word (codes "stackempty") g.0, tt)
    ]
  ]
]

or_some : {A : Type 0} (o p : Option A) (x : A) → or_else o p ≡ Some x → (o ≡ Some x) ⊎ (p ≡ Some x)
or_some None p x e = inr e
or_some (Some y) p x e = inl e

reply_takes : (word : List ℕ) (r : Reply) → reply_at word ≡ Some r → Answers word r
unfolding reply_at
reply_takes word r e = elim (or_some (done_at word) _ r e) [
  | inl a ↦ done_takes word r a
  | inr a ↦ elim (or_some (refused_at word) _ r a) [
    | inl b ↦ refused_takes word r b
    | inr b ↦ elim (or_some (nothing_at word) _ r b) [
      | inl d ↦ nothing_takes word r d
      | inr d ↦
          let v = bind_some (value_at word) (λ v. Some (reply.Given v)) r d in
          let t = value_reads.takes word v.0 v.1 in
          subst (Answers word) (same_Some (reply.Given v.0) r v.2) (t.0, t.1)
    ]
  ]
]

-- no token of an answer begins with a digit
no_word : (b : ℕ) (rest : List ℕ) → b ≤ 57 → (done_at (b ∷ rest) ≡ None) × (refused_at (b ∷ rest) ≡ None) × (nothing_at (b ∷ rest) ≡ None)
unfolding done_at refused_at nothing_at
no_word b rest le = (
  rw (
    ne_eqb b 111 (λ e. omega arith),
    ne_eqb b 121 (λ e. omega arith),
    ne_eqb b 110 (λ e. omega arith),
    ne_eqb b 117 (λ e. omega arith),
    ne_eqb b 97 (λ e. omega arith),
  ) refl,
  rw (ne_eqb b 110 (λ e. omega arith), ne_eqb b 119 (λ e. omega arith), ne_eqb b 102 (λ e. omega arith)) refl,
  rw (ne_eqb b 100 (λ e. omega arith), ne_eqb b 110 (λ e. omega arith), ne_eqb b 115 (λ e. omega arith)) refl,
)

abbrev NoWord : List ℕ → Type 0
NoWord text = (done_at text ≡ None) × (refused_at text ≡ None) × (nothing_at text ≡ None)

digit_no_word : (text : List ℕ) → HasDigit text → NoWord text
digit_no_word text d = subst NoWord (sym d.2) (no_word d.0 d.1 d.4)

nil_no_word : NoWord (codes "nil")
unfolding done_at refused_at nothing_at
nil_no_word = (refl, refl, refl)

shared_no_word : NoWord (codes "g")
unfolding done_at refused_at nothing_at
shared_no_word = (refl, refl, refl)

name_no_word : (name : Name) → IsName name → NoWord (name_text name)
name_no_word name h = elim (cases_Bool (eqb name.maker SHARED_MAKER && eqb name.serial 0)) [
  | inl t ↦ subst NoWord (sym (cond-true (eqb name.maker SHARED_MAKER && eqb name.serial 0) (codes "g") (decimal name.maker ++ 46 ∷ decimal name.serial) t))
      shared_no_word
  | inr f ↦
      let le : name.maker ≤ SHARED_MAKER = h.0 in
      let d : HasDigit (decimal name.maker) = digit_first name.maker (omega arith) in
      subst NoWord (sym (cond-false (eqb name.maker SHARED_MAKER && eqb name.serial 0) (codes "g") (decimal name.maker ++ 46 ∷ decimal name.serial) f))
      (digit_no_word (decimal name.maker ++ 46 ∷ decimal name.serial) (
        d.0,
        d.1 ++ 46 ∷ decimal name.serial,
        ap (λ (l : List ℕ). l ++ 46 ∷ decimal name.serial) d.2,
        d.3,
        d.4,
      ))
]

value_no_word : (v : Value) → IsValue v → NoWord (value_text v)
value_no_word value.Nil h = nil_no_word
value_no_word (value.Number n) h = digit_no_word (decimal n) (digit_first n (omega arith))
value_no_word (value.Ref name) h = name_no_word name h

reply_again : (r : Reply) → IsReply r → reply_at (reply_text r) ≡ Some r
unfolding reply_at done_at refused_at nothing_at
reply_again (reply.Given v) h = let n = value_no_word v h in rw (n.0, n.1, n.2, value_reads.again v h) refl
reply_again _ h = refl

pub reply_reads : Reads reply_at reply_text IsReply
reply_reads = record { takes = reply_takes; again = reply_again }

-- COMMANDS WITH THEIR ANSWERS

onto_some : (w : List ℕ) (o : Option (List (List ℕ) × List ℕ)) (p : List (List ℕ) × List ℕ) → onto_command w o ≡ Some p →
    (q : List (List ℕ) × List ℕ) × (o ≡ Some q) × ((w ∷ q.0, q.1) ≡ p)
onto_some w None p e = absurd cc
onto_some w (Some q) p e = (q, refl, same_Some (w ∷ q.0, q.1) p e)

pub answered_takes : (words : List (List ℕ)) (p : List (List ℕ) × List ℕ) → answered_at words ≡ Some p → words ≡ p.0 ++ codes "=" ∷ p.1 ∷ []
answered_takes (w ∷ a ∷ []) p e =
    let g = guard_some (bytes_eq w (codes "=")) (Some ([], a)) p e in
    subst (λ (q : List (List ℕ) × List ℕ). w ∷ a ∷ [] ≡ q.0 ++ codes "=" ∷ q.1 ∷ []) (same_Some ([], a) p g.1)
    (ap (λ (x : List ℕ). x ∷ a ∷ []) (is_word w (codes "=") g.0))
answered_takes (w ∷ v ∷ u ∷ ws) p e =
    let o = onto_some w (answered_at (v ∷ u ∷ ws)) p e in
    subst (λ (q : List (List ℕ) × List ℕ). w ∷ v ∷ u ∷ ws ≡ q.0 ++ codes "=" ∷ q.1 ∷ []) o.2
    (ap (λ (l : List (List ℕ)). w ∷ l) (answered_takes (v ∷ u ∷ ws) o.0 o.1))
answered_takes _ p e = absurd cc

answered_on : (w : List ℕ) (ws : List (List ℕ)) (a : List ℕ) → answered_at (w ∷ ws ++ codes "=" ∷ a ∷ []) ≡ Some (w ∷ ws, a)
answered_on w (v ∷ u ∷ us) a = ap (onto_command w) (answered_on v (u ∷ us) a)
answered_on w _ a = refl

pub answered_again : (ws : List (List ℕ)) (a : List ℕ) → answered_at (ws ++ codes "=" ∷ a ∷ []) ≡ Some (ws, a)
answered_again [] a = refl
answered_again (w ∷ ws) a = answered_on w ws a

-- a mutator, the tokens that it gave, and the answer
abbrev pub Given : Type 0
Given = ℕ × List (List ℕ) × Reply

pub parts_takes : (words : List (List ℕ)) (p : Given) → parts_at words ≡ Some p → (p.0 < 256) × IsReply p.2 × (words ≡ given_words p.0 p.1 (reply_text p.2))
unfolding parts_at
parts_takes [] p e = absurd cc
parts_takes (mutator ∷ words) p e =
    let m = bind_some (byte_at mutator) _ p e in
    let q = bind_some (answered_at words) _ p m.2 in
    let r = bind_some (reply_at q.0.1) _ p q.2 in
    let tm = byte_takes mutator m.0 m.1 in
    let tr = reply_reads.takes q.0.1 r.0 r.1 in
    let rest : words ≡ q.0.0 ++ codes "=" ∷ reply_text r.0 ∷ [] = answered_takes words q.0 q.1 ∙ ap (λ (a : List ℕ). q.0.0 ++ codes "=" ∷ a ∷ []) tr.0 in
    let first : mutator ≡ decimal m.0 = tm.0 in
    let whole : mutator ∷ words ≡ given_words m.0 q.0.0 (reply_text r.0) = cc in
    subst (λ (x : Given). (x.0 < 256) × IsReply x.2 × (mutator ∷ words ≡ given_words x.0 x.1 (reply_text x.2))) (same_Some (m.0, q.0.0, r.0) p r.2)
    (tm.1, tr.1, whole)

pub parts_again : (m : ℕ) (ws : List (List ℕ)) (r : Reply) → m < 256 → IsReply r → parts_at (given_words m ws (reply_text r)) ≡ Some (m, ws, r)
unfolding parts_at
parts_again m ws r lt h = rw (byte_again m lt, answered_again ws (reply_text r), reply_reads.again r h) refl

-- COPIES AND FILLS

abbrev IsPlace : List ℕ → List ℕ → Operand × ℕ → Type 0
IsPlace object index p = (object ≡ operand_word p.0) × IsOperand p.0 × (index ≡ decimal p.1) × (p.1 < 65536)

place_takes : (object index : List ℕ) (p : Operand × ℕ) → place_at object index ≡ Some p → IsPlace object index p
unfolding place_at
place_takes object index p e =
    let o = bind_some (operand_at object) _ p e in
    let i = bind_some (short_at index) _ p o.2 in
    let to = operand_reads.takes object o.0 o.1 in
    let ti = short_takes index i.0 i.1 in
    subst (IsPlace object index) (same_Some (o.0, i.0) p i.2) (to.0, to.1, ti.0, ti.1)

place_again : (o : Operand) (i : ℕ) → IsOperand o → i < 65536 → place_at (operand_word o) (decimal i) ≡ Some (o, i)
unfolding place_at
place_again o i h lt = rw (operand_reads.again o h, short_again i lt) refl

abbrev IsSpan : List ℕ → List ℕ → ℕ × ℕ → Type 0
IsSpan count via p = (count ≡ decimal p.0) × (p.0 < 65536) × (via ≡ register_word p.1) × IsRegister p.1

span_takes : (count via : List ℕ) (p : ℕ × ℕ) → span_at count via ≡ Some p → IsSpan count via p
unfolding span_at
span_takes count via p e =
    let n = bind_some (short_at count) _ p e in
    let r = bind_some (register_at via) _ p n.2 in
    let tn = short_takes count n.0 n.1 in
    let tr = register_reads.takes via r.0 r.1 in
    subst (IsSpan count via) (same_Some (n.0, r.0) p r.2) (tn.0, tn.1, tr.0, tr.1)

span_again : (n r : ℕ) → n < 65536 → IsRegister r → span_at (decimal n) (register_word r) ≡ Some (n, r)
unfolding span_at
span_again n r lt h = rw (short_again n lt, register_reads.again r h) refl

abbrev Copies : List (List ℕ) → Copying → Type 0
Copies words k = IsCopying k × (codes "copy" ∷ words ≡ copy_words k)

copy_takes : (to place from first count via : List ℕ) (k : Copying) → copy_at to place from first count via ≡ Some k →
    Copies (to ∷ place ∷ from ∷ first ∷ count ∷ codes "via" ∷ via ∷ []) k
unfolding copy_at
copy_takes to place from first count via k e =
    let t = bind_some (place_at to place) _ k e in
    let f = bind_some (place_at from first) _ k t.2 in
    let n = bind_some (span_at count via) _ k f.2 in
    let tt_ : IsPlace to place t.0 = place_takes to place t.0 t.1 in
    let tf : IsPlace from first f.0 = place_takes from first f.0 f.1 in
    let tn : IsSpan count via n.0 = span_takes count via n.0 n.1 in
    let a : to ≡ operand_word t.0.0 = tt_.0 in
    let b : place ≡ decimal t.0.1 = tt_.2 in
    let c : from ≡ operand_word f.0.0 = tf.0 in
    let d : first ≡ decimal f.0.1 = tf.2 in
    let g : count ≡ decimal n.0.0 = tn.0 in
    let h : via ≡ register_word n.0.1 = tn.2 in
    let made : Copying = copying_of t.0 f.0 n.0 in
    let whole : codes "copy" ∷ to ∷ place ∷ from ∷ first ∷ count ∷ codes "via" ∷ via ∷ [] ≡ codes "copy" ∷ operand_word t.0.0 ∷ decimal t.0.1 ∷
    operand_word f.0.0 ∷ decimal f.0.1 ∷ decimal n.0.0 ∷ codes "via" ∷ register_word n.0.1 ∷ [] = cc in
    subst (Copies (to ∷ place ∷ from ∷ first ∷ count ∷ codes "via" ∷ via ∷ [])) (same_Some made k n.2) (
      record { to = tt_.1; place = tt_.3; from = tf.1; first = tf.3; count = tn.1; via = tn.3; down = refl },
      whole,
    )

copying_takes : (words : List (List ℕ)) (k : Copying) → copying_at words ≡ Some k → Copies words k
unfolding copying_at
copying_takes (to ∷ place ∷ from ∷ first ∷ count ∷ word ∷ via ∷ []) k e =
    let g = guard_some (bytes_eq word (codes "via")) (copy_at to place from first count via) k e in
    subst (λ (w : List ℕ). Copies (to ∷ place ∷ from ∷ first ∷ count ∷ w ∷ via ∷ []) k) (sym (is_word word (codes "via") g.0))
    (copy_takes to place from first count via k g.1)
copying_takes words k e = absurd cc

copying_again : (k : Copying) → IsCopying k →
    copying_at (operand_word k.to ∷ decimal k.place ∷ operand_word k.from ∷ decimal k.first ∷ decimal k.count ∷ codes "via" ∷ register_word k.via ∷ []) ≡ Some k
unfolding copying_at copy_at
copying_again k h =
    rw (place_again k.to k.place h.to h.place, place_again k.from k.first h.from h.first, span_again k.count k.via h.count h.via)
    (ap (λ (d : Bool). Some (record k { down = d })) (sym h.down))

abbrev Fills : List (List ℕ) → Filling → Type 0
Fills words k = IsFilling k × (codes "fill" ∷ words ≡ fill_words k)

fill_takes : (object first count val : List ℕ) (k : Filling) → fill_at object first count val ≡ Some k → Fills (object ∷ first ∷ count ∷ val ∷ []) k
unfolding fill_at
fill_takes object first count val k e =
    let p = bind_some (place_at object first) _ k e in
    let n = bind_some (short_at count) _ k p.2 in
    let v = bind_some (operand_at val) _ k n.2 in
    let tp : IsPlace object first p.0 = place_takes object first p.0 p.1 in
    let tn = short_takes count n.0 n.1 in
    let tv = operand_reads.takes val v.0 v.1 in
    let a : object ≡ operand_word p.0.0 = tp.0 in
    let b : first ≡ decimal p.0.1 = tp.2 in
    let c : count ≡ decimal n.0 = tn.0 in
    let d : val ≡ operand_word v.0 = tv.0 in
    let whole : codes "fill" ∷ object ∷ first ∷ count ∷ val ∷ [] ≡ codes "fill" ∷ operand_word p.0.0 ∷ decimal p.0.1 ∷ decimal n.0 ∷ operand_word v.0 ∷ [] =
    cc in
    subst (Fills (object ∷ first ∷ count ∷ val ∷ [])) (same_Some (record { object = p.0.0; first = p.0.1; count = n.0; value = v.0 }) k v.2) (
      record { object = tp.1; first = tp.3; count = tn.1; value = tv.1 },
      whole,
    )

filling_takes : (words : List (List ℕ)) (k : Filling) → filling_at words ≡ Some k → Fills words k
unfolding filling_at
filling_takes (object ∷ first ∷ count ∷ val ∷ []) k e = fill_takes object first count val k e
filling_takes words k e = absurd cc

filling_again : (k : Filling) → IsFilling k → filling_at (operand_word k.object ∷ decimal k.first ∷ decimal k.count ∷ operand_word k.value ∷ []) ≡ Some k
unfolding filling_at fill_at
filling_again k h = rw (place_again k.object k.first h.object h.first, short_again k.count h.count, operand_reads.again k.value h.value) refl

-- a copy or a fill, in these tokens
abbrev pub AreRows : List (List ℕ) → List Task → Type 0
AreRows words tasks = ((k : Copying) × IsCopying k × (words ≡ copy_words k) × (tasks ≡ copied k k.count)) ⊎
    ((k : Filling) × IsFilling k × (words ≡ fill_words k) × (tasks ≡ filled k k.count))

rows_takes : (words : List (List ℕ)) (tasks : List Task) → rows_at words ≡ Some tasks → AreRows words tasks
unfolding rows_at
rows_takes [] tasks e = absurd cc
rows_takes (verb ∷ words) tasks e = elim (chosen (bytes_eq verb (codes "copy")) (copying_at words >>= λ k. Some (copied k k.count)) _ (Some tasks) e) [
  | inl p ↦
      let k = bind_some (copying_at words) (λ k. Some (copied k k.count)) tasks p.1 in
      let t : Copies words k.0 = copying_takes words k.0 k.1 in
      inl (k.0, t.0, ap (λ (w : List ℕ). w ∷ words) (is_word verb (codes "copy") p.0) ∙ t.1, sym (same_Some (copied k.0 k.0.count) tasks k.2))
  | inr p ↦
      let g = guard_some (bytes_eq verb (codes "fill")) (filling_at words >>= λ k. Some (filled k k.count)) tasks p.1 in
      let k = bind_some (filling_at words) (λ k. Some (filled k k.count)) tasks g.1 in
      let t : Fills words k.0 = filling_takes words k.0 k.1 in
      inr (k.0, t.0, ap (λ (w : List ℕ). w ∷ words) (is_word verb (codes "fill") g.0) ∙ t.1, sym (same_Some (filled k.0 k.0.count) tasks k.2))
]

rows_again : (words : List (List ℕ)) (tasks : List Task) → AreRows words tasks → rows_at words ≡ Some tasks
unfolding rows_at
rows_again words tasks (inl h) =
    subst (λ (ws : List (List ℕ)). rows_at ws ≡ Some tasks) (sym h.2) (rw (copying_again h.0 h.1) (ap (λ (ks : List Task). Some ks) (sym h.3)))
rows_again words tasks (inr h) =
    subst (λ (ws : List (List ℕ)). rows_at ws ≡ Some tasks) (sym h.2) (rw (filling_again h.0 h.1) (ap (λ (ks : List Task). Some ks) (sym h.3)))

pub rows_if_takes : (answer : Reply) (words : List (List ℕ)) (tasks : List Task) → rows_if answer words ≡ Some tasks →
    (answer ≡ reply.Fine) × AreRows words tasks
rows_if_takes reply.Fine words tasks e = (refl, rows_takes words tasks e)
rows_if_takes answer words tasks e = absurd cc

pub rows_if_again : (words : List (List ℕ)) (tasks : List Task) → AreRows words tasks → rows_if reply.Fine words ≡ Some tasks
rows_if_again words tasks h = rows_again words tasks h

-- VALUES HANDED OVER

-- a value that these tokens after `hand` hand over
abbrev TakesHand : ℕ → List (List ℕ) → Hand → Type 0
TakesHand m words k = (k.giver ≡ m) × IsOperand k.value × (k.taker < 256) × IsRegister k.dest × (codes "hand" ∷ words ≡ hand_words k)

hand_words_takes : (m : ℕ) (words : List (List ℕ)) (k : Hand) → hand_words_at m words ≡ Some k → TakesHand m words k
unfolding hand_words_at
hand_words_takes m (val ∷ taker ∷ dest ∷ []) k e =
    let v = bind_some (operand_at val) _ k e in
    let n = bind_some (byte_at taker) _ k v.2 in
    let r = bind_some (register_at dest) _ k n.2 in
    let tv = operand_reads.takes val v.0 v.1 in
    let tn = byte_takes taker n.0 n.1 in
    let tr = register_reads.takes dest r.0 r.1 in
    let a : val ≡ operand_word v.0 = tv.0 in
    let b : taker ≡ decimal n.0 = tn.0 in
    let c : dest ≡ register_word r.0 = tr.0 in
    let whole : codes "hand" ∷ val ∷ taker ∷ dest ∷ [] ≡ codes "hand" ∷ operand_word v.0 ∷ decimal n.0 ∷ register_word r.0 ∷ [] = cc in
    subst (TakesHand m (val ∷ taker ∷ dest ∷ [])) (same_Some (record { giver = m; value = v.0; taker = n.0; dest = r.0 }) k r.2)
    (refl, tv.1, tn.1, tr.1, whole)
hand_words_takes m words k e = absurd cc

-- a value that these tokens hand over
abbrev pub HandsOver : ℕ → List (List ℕ) → Hand → Type 0
HandsOver m words k = (k.giver ≡ m) × IsOperand k.value × (k.taker < 256) × IsRegister k.dest × (words ≡ hand_words k)

pub hand_takes : (m : ℕ) (words : List (List ℕ)) (k : Hand) → hand_at m words ≡ Some k → HandsOver m words k
unfolding hand_at
hand_takes m [] k e = absurd cc
hand_takes m (verb ∷ words) k e =
    let g = guard_some (bytes_eq verb (codes "hand")) (hand_words_at m words) k e in
    let t : TakesHand m words k = hand_words_takes m words k g.1 in
    (t.0, t.1, t.2, t.3, ap (λ (w : List ℕ). w ∷ words) (is_word verb (codes "hand") g.0) ∙ t.4)

pub hand_again : (k : Hand) → IsOperand k.value → k.taker < 256 → IsRegister k.dest → hand_at k.giver (hand_words k) ≡ Some k
unfolding hand_at hand_words_at
hand_again k v lt d = rw (operand_reads.again k.value v, byte_again k.taker lt, register_reads.again k.dest d) refl
