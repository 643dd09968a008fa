-- Lemmas that crates above need too.
use Rattle.std.specs.Prelude.{◌≡◌, ◌∷◌, ◌+◌, ◌++◌, ◌*◌, ◌<◌, ◌-◌, ◌≤◌}
use Rattle.nmgc_heap_spec.specs.laws.Vocabulary.{ap, arith, ℕ, suc, List, [], length, get_or, refl, Some, inl, inr, subst, take, drop, sym, ◌∙◌, length-take-le, length-drop, get_or-drop, mul-le-mul_right, slice_get, Contains, flat_map, get_or-take, take-append-drop, got_below, REGISTERS, contains_head, contains_tail, contains_cases, Name, shared_name, Value, MutatorState, no_mutator, InSegment, InNursery, word_total, Layout, own, Place, Means, ListMeans, AllMean, LiesWell}

pub makers_differ : shared_name ≡ own 0 → ⊥
makers_differ e = let makers = ap (λ (n : Name). n.maker) e in omega arith

pub list_means : (P : Place → Type 0) (ws : List ℕ) (values : List Value) → length ws ≡ length values →
    ((i : ℕ) (v : Value) → slice_get values i ≡ Some v → Means P (get_or ws i 0) v) → ListMeans P ws values
list_means P [] [] e h = tt
list_means P [] (v ∷ vs) e h = absurd (omega arith)
list_means P (w ∷ ws) [] e h = absurd (omega arith)
list_means P (w ∷ ws) (v ∷ vs) e h = (h 0 v refl, list_means P ws vs (omega arith) (λ i u g. h (suc i) u g))

-- a word of a list that means values means one of them, and each of them has its word
pub list_has : (P : Place → Type 0) (words : List ℕ) (values : List Value) (word : ℕ) → ListMeans P words values → Contains words word → (v : Value) ×
    Contains values v × Means P word v
list_has P [] values word m c = absurd (omega (arith, c.1))
list_has P (w ∷ ws) [] word m c = absurd m
list_has P (w ∷ ws) (v ∷ vs) word m c = elim (contains_cases w ws word c) [
  | inl e ↦ (v, contains_head v vs, subst (λ (x : ℕ). Means P x v) e m.0)
  | inr d ↦ let r = list_has P ws vs word m.1 d in (r.0, contains_tail v vs r.0 r.1, r.2)
]

pub list_of : (P : Place → Type 0) (words : List ℕ) (values : List Value) (v : Value) → ListMeans P words values → Contains values v → (word : ℕ) ×
    Contains words word × Means P word v
list_of P words [] v m c = absurd (omega (arith, c.1))
list_of P [] (x ∷ vs) v m c = absurd m
list_of P (w ∷ ws) (x ∷ vs) v m c = elim (contains_cases x vs v c) [
  | inl e ↦ (w, contains_head w ws, subst (λ (y : Value). Means P w y) e m.0)
  | inr d ↦ let r = list_of P ws vs v m.1 d in (r.0, contains_tail w ws r.0 r.1, r.2)
]

pub means_append : (P : Place → Type 0) (ws us : List ℕ) (xs ys : List Value) → ListMeans P ws xs → ListMeans P us ys → ListMeans P (ws ++ us) (xs ++ ys)
means_append P [] us [] ys a b = b
means_append P [] us (x ∷ xs) ys a b = absurd a
means_append P (w ∷ ws) us [] ys a b = absurd a
means_append P (w ∷ ws) us (x ∷ xs) ys a b = (a.0, means_append P ws us xs ys a.1 b)

-- the registers of all mutators are one list of words
pub flat_registers : (P : Place → Type 0) (xs : List MutatorState) (ws : List ℕ) → length ws ≡ REGISTERS * length xs →
    ((m : ℕ) → m < length xs → (length (get_or xs m no_mutator).registers ≡ REGISTERS) ×
    AllMean P ws (REGISTERS * m) (get_or xs m no_mutator).registers) → ListMeans P ws (flat_map (λ (state : MutatorState). state.registers) xs)
flat_registers P [] [] size h = tt
flat_registers P [] (w ∷ ws) size h = absurd (omega (arith, size))
flat_registers P (x ∷ xs) ws size h =
    let first = h 0 (omega arith) in
    let n : length (take REGISTERS ws) ≡ REGISTERS = length-take-le REGISTERS ws (omega (arith, size)) in
    let d : length (drop REGISTERS ws) ≡ REGISTERS * length xs = let l = length-drop REGISTERS ws in omega (arith, l, size) in
    let a : ListMeans P (take REGISTERS ws) x.registers = list_means P (take REGISTERS ws) x.registers (n ∙ sym first.0)
    (λ i v e.
    let lt : i < REGISTERS = let l = got_below x.registers i v e in let f = first.0 in omega (arith, l, f) in
    let at : REGISTERS * 0 + i ≡ i = omega arith in
    let same : get_or ws (REGISTERS * 0 + i) 0 ≡ get_or (take REGISTERS ws) i 0 = ap (λ (j : ℕ). get_or ws j 0) at ∙ sym (get_or-take REGISTERS ws i 0 lt) in
    subst (λ (y : ℕ). Means P y v) same (first.1 i v e)) in
    let b = flat_registers P xs (drop REGISTERS ws) d
    (λ m lt.
    let r = h (suc m) (omega (arith, lt)) in (
      r.0,
      λ i v e.
          let at : REGISTERS * suc m + i ≡ REGISTERS + (REGISTERS * m + i) = omega arith in
          subst (λ (y : ℕ). Means P y v) (ap (λ (j : ℕ). get_or ws j 0) at ∙ sym (get_or-drop REGISTERS ws (REGISTERS * m + i) 0)) (r.1 i v e),
    )) in
    rw (take-append-drop REGISTERS ws) at (means_append P (take REGISTERS ws) (drop REGISTERS ws) x.registers
    (flat_map (λ (state : MutatorState). state.registers) xs) a b)

-- an object that lies well lies within the words
pub lies_within : (layout : Layout) (p : Place) (size : ℕ) → 0 < size → LiesWell layout p size → p.at + size ≤ word_total layout
lies_within layout p size some (inl g) = let h = g.2 in omega arith
lies_within layout p size some (inr (own, inl s)) =
    let last : InSegment layout s.0 (p.at + (size - 1)) = s.1 (p.at + (size - 1)) (omega arith) (omega arith) in
    let b = last.before in
    let h : suc s.0 * layout.words ≤ layout.segments * layout.words = mul-le-mul_right layout.words last.exists in
    omega arith
lies_within layout p size some (inr (own, inr s)) =
    let last : InNursery layout p.name.maker (p.at + (size - 1)) = s.1 (p.at + (size - 1)) (omega arith) (omega arith) in
    let b = last.before in
    let h : suc p.name.maker * layout.nursery ≤ layout.mutators * layout.nursery = mul-le-mul_right layout.nursery last.exists in
    omega arith
