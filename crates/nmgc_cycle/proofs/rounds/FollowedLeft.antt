-- A script has commands left for a program exactly if the program isn't at its end.
use Rattle.nmgc_cycle.proofs.Vocabulary.{ℕ, ◌≡◌, ◌↔◌, ◌<◌, List, length, slice_index, Option, None, Some, IfSome, IfNone, is_some, true, false, refl, ap, subst, arith, length-drop, slice_get_within, Command, Script, program_of, left_at, item, Follows, FollowEach, SomeGives, SomeIsLeft}

-- the fact about an answer that is there, or that isn't
pub there : {A : Type 0} (F : A → Type 0) (o : Option A) → is_some o ≡ true → IfSome o F → (x : A) × F x
there F None e h = absurd (let bad : false ≡ true = e in cc)
there F (Some x) e h = (x, h)

pub not_there : {A : Type 0} {F : Type 0} (o : Option A) → is_some o ≡ false → IfNone o F → F
not_there None e h = h
not_there (Some x) e h = absurd (let bad : true ≡ false = e in cc)

some_there : {P : Type 0} (next : P → Option Command) (p : P) (o : Option Command) (rest : List Command) → next p ≡ o → Follows o rest → 0 < length rest →
    (c : Command) × (next p ≡ Some c)
some_there next p None rest e f some = absurd (let none = ap (λ (l : List Command). length l) f in omega (arith, none, some))
some_there next p (Some c) rest e f some = (c, e)

pub left_where_given : {P : Type 0} (next : P → Option Command) (script : Script) (positions : List ℕ) (programs : List P) →
    FollowEach next script positions programs → SomeGives next programs ↔ SomeIsLeft script.threads positions
left_where_given next script positions programs follow = (
  λ some.
      let k = some.0 in
      let within = slice_get_within programs k some.1 some.3 in
      let lt : k < length script.threads = let n = follow.count in omega (arith, within, n) in
      let f = subst (λ (o : Option Command). Follows o (left_at script positions k)) some.4 (follow.each k some.1 some.3) in
      let long = ap (λ (l : List Command). length l) f.1 in
      let size = length-drop (slice_index positions k) (program_of script.threads k) in
      (k, lt, omega (arith, long, size)),
  λ left.
      let k = left.0 in
      let p = item programs k (let n = follow.count in let lt = left.1 in omega (arith, lt, n)) in
      let size = length-drop (slice_index positions k) (program_of script.threads k) in
      let some = left.2 in
      let c = some_there next p.0 (next p.0) (left_at script positions k) refl (follow.each k p.0 p.1) (omega (arith, some, size)) in
      (k, p.0, c.0, p.1, c.1),
)
