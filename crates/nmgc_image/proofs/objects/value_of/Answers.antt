use Rattle.nmgc_image.proofs.Vocabulary.{◌≡◌, ℕ, ◌+◌, ◌-◌, ◌*◌, ◌/◌, ◌%◌, List, true, false, eqb, ltb, refl, ap, subst, ◌∙◌, arith, lt-ltb, NIL_WORD, ZERO_WORD, IsNamedAt, IsReadable, name_in, value_in, eq-eqb, ne_eqb}
use Rattle.nmgc_world_spec.specs.declared.value.Value.TheVariants as value
use Rattle.nmgc_image.proofs.objects.value_of.Goals as goal

module _ (words : List ℕ) (word : ℕ) where
  nil_read : word ≡ NIL_WORD → value.Nil ≡ value_in words word
  nil_read nil = let a : eqb word NIL_WORD ≡ true = eq-eqb word NIL_WORD nil in rw a refl

  number_read : (n : ℕ) → word ≡ 2 * n + ZERO_WORD → value.Number n ≡ value_in words word
  number_read n is =
      let a : eqb word NIL_WORD ≡ false = ne_eqb word NIL_WORD (omega (arith, is)) in
      let b : eqb (word % 2) 0 ≡ false = ne_eqb (word % 2) 0 (omega (arith, is)) in
      let number : word / 2 - 1 ≡ n = omega (arith, is) in
      rw (a, b, number) refl

  place_read : (at : ℕ) → word ≡ 2 * at → value.Ref (name_in words at) ≡ value_in words word
  place_read at is =
      let a : eqb word NIL_WORD ≡ false = ne_eqb word NIL_WORD (omega (arith, is)) in
      let b : eqb (word % 2) 0 ≡ true = eq-eqb (word % 2) 0 (omega (arith, is)) in
      let half : word / 2 ≡ at = omega (arith, is) in
      rw (a, b, half) refl

  -- the name there can be read
  place_named : (at : ℕ) → word ≡ 2 * at → IsReadable words word → IsNamedAt words at
  place_named at is readable =
      let low = readable.0 in
      let a : ltb 0 word ≡ true = lt-ltb 0 word (omega (arith, low)) in
      let b : eqb (word % 2) 0 ≡ true = eq-eqb (word % 2) 0 (omega (arith, is)) in
      let half : word / 2 ≡ at = omega (arith, is) in
      subst (λ (k : ℕ). IsNamedAt words k) half (readable.1 (rw (a, b) refl))

pub overflow_cast-at : goal.overflow_cast-at
overflow_cast-at c =
    let named = place_named c.args.words.now c.args.word c.in-Some.at c.in-Some.ensures.some c.requires in
    let small = named.small in
    omega (arith, small)

pub name_at-requires : goal.name_at-requires
name_at-requires c = place_named c.args.words.now c.args.word c.in-Some.at c.in-Some.ensures.some c.requires

pub returns-in-Some : goal.returns-in-Some
returns-in-Some c = ap value.Ref c.name_at.ensures ∙ place_read c.args.words.now c.args.word c.in-Some.at c.in-Some.ensures.some

pub returns-in-Some-number : goal.returns-in-Some-number
returns-in-Some-number c = number_read c.args.words.now c.args.word c.in-Some-number.number c.in-Some-number.ensures.some

pub returns-in-None : goal.returns-in-None
returns-in-None c = nil_read c.args.words.now c.args.word (c.in-None.ensures.none c.in_default.ensures.none)
