-- The registers of all mutators in one list, `REGISTERS` a mutator.
use Rattle.std.specs.Prelude.{◌≡◌, ◌+◌, ◌*◌, ◌<◌, ◌∷◌}
use Rattle.nmgc_collector_laws.specs.laws.Vocabulary.{ℕ, zero, suc, List, [], length, refl, sym, ap, subst, arith, length-append, slice_index, Some, slice_get, slice_get_within, get_or_append_left, get_or-append-add, REGISTERS, Value, Place, Means, AllMean, ListMeans, Mutator, registers_of}

-- each mutator has all its registers
abbrev pub HaveAll : List Mutator → Type 0
HaveAll mutators = (k : ℕ) (m : Mutator) → slice_get mutators k ≡ Some m → length m.registers ≡ REGISTERS

pub registers_count : (mutators : List Mutator) → HaveAll mutators → length (registers_of mutators) ≡ REGISTERS * length mutators
registers_count [] all = omega arith
registers_count (m ∷ ms) all =
    let own = all zero m refl in
    let rest = registers_count ms (λ k n e. all (suc k) n e) in
    let both = length-append m.registers (registers_of ms) in
    omega arith

-- the registers of a mutator lie there one after another
pub registers_at : (mutators : List Mutator) → HaveAll mutators → (k : ℕ) (m : Mutator) (i : ℕ) → slice_get mutators k ≡ Some m → i < REGISTERS →
    slice_index (registers_of mutators) (REGISTERS * k + i) ≡ slice_index m.registers i
registers_at [] all k m i e lt = absurd cc
registers_at (n ∷ ms) all zero m i e lt =
    let same : n ≡ m = cc in
    let own = all zero n refl in
    let at : REGISTERS * zero + i ≡ i = omega arith in
    cc (at, get_or_append_left n.registers (registers_of ms) 0 i (omega arith), same)
registers_at (n ∷ ms) all (suc k) m i e lt =
    let own = all zero n refl in
    let at : REGISTERS * suc k + i ≡ length n.registers + (REGISTERS * k + i) = omega arith in
    cc (at, get_or-append-add n.registers (registers_of ms) (REGISTERS * k + i) 0, registers_at ms (λ j x is. all (suc j) x is) k m i e lt)

module _ (P : Place → Type 0) where
  -- words that mean values one by one are a list that means them
  pub list_of : (words : List ℕ) (values : List Value) → length words ≡ length values →
      ((i : ℕ) (v : Value) → slice_get values i ≡ Some v → Means P (slice_index words i) v) → ListMeans P words values
  list_of [] [] long h = tt
  list_of [] (v ∷ vs) long h = absurd (omega arith)
  list_of (w ∷ ws) [] long h = absurd (omega arith)
  list_of (w ∷ ws) (v ∷ vs) long h = (h zero v refl, list_of ws vs (omega arith) (λ i x e. h (suc i) x e))

  pub list_at : (words : List ℕ) (values : List Value) → ListMeans P words values → (i : ℕ) (v : Value) → slice_get values i ≡ Some v →
      Means P (slice_index words i) v
  list_at [] [] h i v e = absurd cc
  list_at [] (x ∷ vs) h i v e = absurd h
  list_at (w ∷ ws) [] h i v e = absurd h
  list_at (w ∷ ws) (x ∷ vs) h zero v e = let same : x ≡ v = cc in subst (λ (y : Value). Means P w y) same h.0
  list_at (w ∷ ws) (x ∷ vs) h (suc i) v e = list_at ws vs h.1 i v e

  pub list_long : (words : List ℕ) (values : List Value) → ListMeans P words values → length words ≡ length values
  list_long [] [] h = refl
  list_long [] (v ∷ vs) h = absurd h
  list_long (w ∷ ws) [] h = absurd h
  list_long (w ∷ ws) (v ∷ vs) h = ap suc (list_long ws vs h.1)

  -- the values of one mutator's registers, by their words in the list of all
  module _ (mutators : List Mutator) (all : HaveAll mutators) (k : ℕ) (m : Mutator) (there : slice_get mutators k ≡ Some m) (values : List Value) where
    pub own_mean : length values ≡ REGISTERS → AllMean P (registers_of mutators) (REGISTERS * k) values → ListMeans P m.registers values
    own_mean many h =
        let own = all k m there in
        list_of m.registers values (omega arith) (λ i v e. let lt = slice_get_within values i v e in
        subst (λ (w : ℕ). Means P w v) (registers_at mutators all k m i there (omega arith)) (h i v e))

    pub all_mean : ListMeans P m.registers values → AllMean P (registers_of mutators) (REGISTERS * k) values
    all_mean h i v e =
        let own = all k m there in let long = list_long m.registers values h in let lt = slice_get_within values i v e in
        subst (λ (w : ℕ). Means P w v) (sym (registers_at mutators all k m i there (omega arith))) (list_at m.registers values h i v e)
