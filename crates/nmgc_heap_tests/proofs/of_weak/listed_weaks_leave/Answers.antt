use Rattle.nmgc_heap_tests.proofs.Vocabulary.{◌≡◌, ◌⊎◌, ℕ, true, List, [], ◌∷◌, set, slice_index, replicate, sym, ap, subst, ◌∙◌, arith, inl, inr, Contains, not, Name, IsName, name_word, contains_cases, filter_contains, nothing_in, OldWeak, leaves_at}
use Rattle.nmgc_heap_tests.proofs.of_weak.listed_weaks_leave.Goals as goal

abbrev first : OldWeak
first = record { weak = record { maker = 0; serial = 7 }; at = record { 0 = 40 } }

abbrev second : OldWeak
second = record { weak = record { maker = 1; serial = 2 }; at = record { 0 = 32 } }

-- an empty list that those two joined has only them
one_of_two : (was now fresh : List OldWeak) (weak : OldWeak) → was ≡ [] → fresh ≡ first ∷ second ∷ [] →
    (Contains now weak → Contains was weak ⊎ Contains fresh weak) → Contains now weak → (weak ≡ first) ⊎ (weak ≡ second)
one_of_two was now fresh weak empty two joined k = elim (joined k) [
  | inl old ↦ absurd (nothing_in weak (subst (λ (l : List OldWeak). Contains l weak) empty old))
  | inr d ↦ elim (contains_cases first (second ∷ []) weak (subst (λ (l : List OldWeak). Contains l weak) two d)) [
    | inl e ↦ inl (sym e)
    | inr other ↦ elim (contains_cases second [] weak other) [
      | inl e ↦ inr (sym e)
      | inr none ↦ absurd (nothing_in weak none)
    ]
  ]
]

-- the words of the heap: the words of two names are written, and all further words are 0
abbrev written : List ℕ → ℕ → ℕ → List ℕ
written words b a = set (set words 33 b) 41 a

name_there : (words : List ℕ) (b a : ℕ) → words ≡ replicate 48 0 → slice_index (written words b a) 41 ≡ a
name_there words b a e = ap (λ (l : List ℕ). slice_index (written l b a) 41) e

value_there : (words : List ℕ) (b a : ℕ) → words ≡ replicate 48 0 → slice_index (written words b a) 43 ≡ 0
value_there words b a e = ap (λ (l : List ℕ). slice_index (written l b a) 43) e

-- so the first weak pointer leaves
first_leaves : (words : List ℕ) (b a : ℕ) → words ≡ replicate 48 0 → leaves_at (written words b a) 40 first ≡ true
first_leaves words b a e = ap (λ (l : List ℕ). leaves_at (written l b a) 40 first) e

pub remove_if_dead-requires-clause-named : goal.remove_if_dead-requires-clause-named
remove_if_dead-requires-clause-named g c = λ weak k here.
    let empty : c.reserve.new.self.list ≡ [] = c.reserve.ensures.list ∙ c.new-weaks.ensures.list in
    let b : ℕ = c.encode_name.result in
    let a : ℕ = c.encode_name-2.result in
    let zeros : c.in_ok-words.words.items ≡ replicate 48 0 = c.in_ok-words.ensures.items_if_clones_equal (λ y e. e) in
    elim (one_of_two c.reserve.new.self.list c.add_all.new.self.list c.as_slice.result.now weak empty c.as_slice.ensures (c.add_all.ensures.list weak).0 k) [
      | inl e ↦ subst (λ (w : OldWeak). IsName w.weak × (slice_index (written c.in_ok-words.words.items b a) 41 ≡ name_word w.weak)) (sym e)
          ((omega arith, omega arith, λ q. absurd (omega (arith, q))), name_there c.in_ok-words.words.items b a zeros ∙ c.encode_name-2.ensures)
      | inr e ↦ absurd (let at : weak.at.0 ≡ 32 = ap (λ (w : OldWeak). w.at.0) e in omega (arith, at, here))
    ]

pub add-requires-clause-new : goal.add-requires-clause-new
add-requires-clause-new g c = λ other k same.
    let empty : c.reserve.new.self.list ≡ [] = c.reserve.ensures.list ∙ c.new-weaks.ensures.list in
    let b : ℕ = c.encode_name.result in
    let a : ℕ = c.encode_name-2.result in
    let zeros : c.in_ok-words.words.items ≡ replicate 48 0 = c.in_ok-words.ensures.items_if_clones_equal (λ y e. e) in
    let words : List ℕ = written c.in_ok-words.words.items b a in
    let kept = filter_contains (λ (w : OldWeak). not (leaves_at words 40 w)) c.add_all.new.self.list other
    (subst (λ (l : List OldWeak). Contains l other) c.remove_if_dead.ensures.list k) in
    elim (one_of_two c.reserve.new.self.list c.add_all.new.self.list c.as_slice.result.now other empty c.as_slice.ensures (c.add_all.ensures.list other).0 kept.0) [
      | inl e ↦
          let left : leaves_at words 40 other ≡ true = ap (λ (w : OldWeak). leaves_at words 40 w) e ∙ first_leaves c.in_ok-words.words.items b a zeros in
          let stays : not (leaves_at words 40 other) ≡ true = kept.1 in
          let both : not true ≡ true = sym (ap not left) ∙ stays in
          cc
      | inr e ↦
          let maker : other.weak.maker ≡ 0 = ap (λ (n : Name). n.maker) same in
          let own : other.weak.maker ≡ 1 = ap (λ (w : OldWeak). w.weak.maker) e in
          omega (arith, maker, own)
    ]
