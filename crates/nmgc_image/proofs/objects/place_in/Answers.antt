use Rattle.nmgc_image.proofs.Vocabulary.{◌≡◌, ◌≢◌, ℕ, ◌*◌, ◌%◌, true, false, eqb, ltb, refl, arith, and-false, lt-ltb, le-ltb, is_pointer, eq-eqb, ne_eqb}
use Rattle.nmgc_image.proofs.objects.place_in.Goals as goal

odd_points : (word : ℕ) → word % 2 ≡ 1 → is_pointer word ≡ false
odd_points word odd = let b : eqb (word % 2) 0 ≡ false = ne_eqb (word % 2) 0 (omega (arith, odd)) in rw b (and-false (ltb 0 word))

unset_points : (word : ℕ) → word ≡ 0 → is_pointer word ≡ false
unset_points word unset = let a : ltb 0 word ≡ false = le-ltb 0 word (omega (arith, unset)) in rw a refl

even_points : (word at : ℕ) → word ≡ 2 * at → at ≢ 0 → is_pointer word ≡ true
even_points word at is some =
    let a : ltb 0 word ≡ true = lt-ltb 0 word (omega (arith, is, some)) in
    let b : eqb (word % 2) 0 ≡ true = eq-eqb (word % 2) 0 (omega (arith, is)) in
    rw (a, b) refl

pub returns-in_err-at-clause-none : goal.returns-in_err-at-clause-none
returns-in_err-at-clause-none c = let odd = odd_points c.args.word c.in_err-at.ensures.none in grind arith

pub returns-then-at-eq0-clause-none : goal.returns-then-at-eq0-clause-none
returns-then-at-eq0-clause-none c = unset_points c.args.word (omega (arith, c.in_ok-at.ensures.some, c.if-at-eq0.true))

pub returns-clause-some : goal.returns-clause-some
returns-clause-some c =
    let is = c.in_ok-at.ensures.some in
    (even_points c.args.word c.in_ok-at.at is c.if-at-eq0.false, omega (arith, is))
